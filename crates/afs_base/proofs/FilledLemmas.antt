use Rattle.std.proofs.Common.{◌≡◌, ℕ, suc, ◌+◌, ◌-◌, ◌<◌, ◌≤◌, List, ◌∷◌, ◌++◌, length, drop, replicate, ap, sym, ◌∙◌, arith, length-append}
use Rattle.std.proofs.Math.ListN.{set, length-set, length-replicate}
use Rattle.std.proofs.Math.Seq.{drop-append_seam}
use Rattle.std.proofs.lemmas.List.{drop-drop, drop-replicate, drop-set, drop-set-lt}
use Rattle.afs_base.specs.Filled.{IsFilled}

-- the places behind one more than those in use are zero too
zeros_behind : (size len : ℕ) (places : List ℕ) → IsFilled size len places → drop (len + 1) places ≡ replicate (size - (len + 1)) 0
zeros_behind size len places h =
    let fewer : size - len - 1 ≡ size - (len + 1) = omega arith in
    let left : drop 1 (drop len places) ≡ replicate (size - len - 1) 0 = ap (drop 1) h.zeros ∙ drop-replicate 1 (size - len) 0 in
    sym (drop-drop 1 len places) ∙ (left ∙ ap (λ n. replicate n 0) fewer)

-- one more item behind those in use
pub filled_more : (size len : ℕ) (places : List ℕ) (x : ℕ) → IsFilled size len places → len < size → IsFilled size (len + 1) (set places len x)
filled_more size len places x h room = record {
  short = omega arith;
  whole = length-set places len x ∙ h.whole;
  zeros = drop-set-lt (len + 1) places len x (omega arith) ∙ zeros_behind size len places h;
}

-- one item fewer, and its place zero again
pub filled_less : (size len : ℕ) (places : List ℕ) → IsFilled size (len + 1) places → IsFilled size len (set places len 0)
filled_less size len places h =
    let there : len < length places = omega (arith, h.whole, h.short) in
    let one_more : suc (size - (len + 1)) ≡ size - len = omega (arith, h.short) in
    record {
      short = omega (arith, h.short);
      whole = length-set places len 0 ∙ h.whole;
      zeros = drop-set places len 0 there ∙ ap (λ (xs : List ℕ). 0 ∷ xs) h.zeros ∙ ap (λ n. replicate n 0) one_more;
    }

-- items written over the front of zeros
pub filled_by : (size : ℕ) (xs : List ℕ) → length xs ≤ size → IsFilled size (length xs) (xs ++ drop (length xs) (replicate size 0))
filled_by size xs h = record {
  short = h;
  whole = length-append xs (drop (length xs) (replicate size 0)) ∙ ap (λ n. length xs + n) (ap length (drop-replicate (length xs) size 0) ∙ length-replicate (size - length xs) 0) ∙ omega arith;
  zeros = drop-append_seam xs (drop (length xs) (replicate size 0)) ∙ drop-replicate (length xs) size 0;
}
