-- What a read of a source in memory takes.
use Rattle.std.proofs.Common.{◌≡◌, ℕ, ◌+◌, ◌<◌, ◌≤◌, min, List, [], ◌++◌, length, take, drop, sym, ◌∙◌, ap, arith, length-drop, length-append}
use Rattle.std.proofs.lemmas.List.{take-append-drop, take_at, drop-drop, drop_all, length-take-le}

-- the bytes that were copied are the front of what was left, and nothing was taken only at the end
pub took : (left all buf new : List ℕ) (at n : ℕ) → at ≤ length all → drop at all ≡ left
    → n ≡ min (length (drop at all)) (length buf)
    → new ≡ take n (drop at all) ++ drop n buf
    → (left ≡ take n new ++ drop (at + n) all) × (n ≡ 0 → 0 < length new → drop (at + n) all ≡ [])
took left all buf new at n h v len copied =
    let fits : n ≤ length (drop at all) = omega arith in
    let front : take n new ≡ take n (drop at all) =
    ap (take n) copied ∙ take_at (take n (drop at all)) (drop n buf) n (length-take-le n (drop at all) fits) in
    let rest = drop-drop n at all in (
      sym v ∙ sym (take-append-drop n (drop at all)) ∙ ap (λ xs. xs ++ drop n (drop at all)) (sym front) ∙ ap (λ xs. take n new ++ xs) rest,
      λ zero some.
          let whole : length new ≡ length (take n (drop at all)) + length (drop n buf) =
          ap length copied ∙ length-append (take n (drop at all)) (drop n buf) in
          drop_all (at + n) all (omega (arith, whole, length-take-le n (drop at all) fits, length-drop n buf, length-drop at all)),
    )
