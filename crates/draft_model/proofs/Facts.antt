-- Bits of masks, slots of pages, blocks at paths, and what is live.
use Rattle.std.proofs.Common.{◌≡◌, ℕ, zero, suc, ◌^◌, ◌<◌, max, Bool, true, false, ◌&&◌, ◌||◌, cond, nat_eq, List, [], ◌∷◌, ◌++◌, replicate, inl, inr, refl, sym, ap, ◌∙◌, Option, Some, None, arith, append_assoc, eqb-true}
use Rattle.std.specs.Option.{option_and_then, option_map_or}
use Rattle.std.specs.List.{slice_get, slice_set}
use Rattle.std.specs.Int.{bit_at}
use Rattle.std.specs.Int.RustNames.{bit_or}
use Rattle.std.proofs.lemmas.Bool.{eqb-false}
use Rattle.std.proofs.lemmas.Nat.Bits.{bit_at-lt, bit_at_or, bit_at-zero, bit_at-pow_same, bit_at-pow_other, bit_at_ones}
use Rattle.afs_base.specs.Path.{is_prefix}
use Rattle.tree_model.proofs.Paths.{told, never}
use Rattle.page_codec.specs.Values.{ReferenceValue}
use Rattle.page_codec.specs.Blank.{empty_reference, empty_slots}
use Rattle.page_places.specs.Places.{has_bit, slot_block}
use Rattle.draft_model.specs.Views.{PageCopy, Copies, live, LiveAt}
use Rattle.draft_model.specs.Steps.{way_bit, blank}

-- ---- tests

pub or_false : (b : Bool) → (b || false) ≡ b
or_false true = refl
or_false false = refl

pub or_true : (b : Bool) → (b || true) ≡ true
or_true true = refl
or_true false = refl

pub and_true : (b : Bool) → (b && true) ≡ b
and_true true = refl
and_true false = refl

pub and_false : (b : Bool) → (b && false) ≡ false
and_false true = refl
and_false false = refl

-- ---- bits

pub has_bit_or : (a b k : ℕ) → has_bit (bit_or a b) k ≡ (has_bit a k || has_bit b k)
has_bit_or a b k = ap (λ n. nat_eq n 1) (bit_at_or a b k) ∙ by (bit_at a k) (bit_at b k) (bit_at-lt a k) (bit_at-lt b k)
  where
    by : (x y : ℕ) → x < 2 → y < 2 → nat_eq (max x y) 1 ≡ (nat_eq x 1 || nat_eq y 1)
    by zero zero h g = refl
    by zero (suc zero) h g = refl
    by zero (suc (suc y)) h g = absurd (omega arith)
    by (suc zero) zero h g = refl
    by (suc zero) (suc zero) h g = refl
    by (suc zero) (suc (suc y)) h g = absurd (omega arith)
    by (suc (suc x)) y h g = absurd (omega arith)

pub has_bit_none : (k : ℕ) → has_bit 0 k ≡ false
has_bit_none k = ap (λ n. nat_eq n 1) (bit_at-zero k)

pub has_bit_all : (k : ℕ) → k < 16 → has_bit 65535 k ≡ true
has_bit_all k h = ap (λ n. nat_eq n 1) (bit_at_ones 16 k h)

pub has_bit_pow : (s k : ℕ) → has_bit (2 ^ s) k ≡ nat_eq k s
has_bit_pow s k = elim (told (nat_eq k s)) [
  | inl e ↦ let is : k ≡ s = eqb-true k s e in
      ap (λ n. has_bit (2 ^ s) n) is ∙ ap (λ n. nat_eq n 1) (bit_at-pow_same s) ∙ sym e
  | inr e ↦ ap (λ n. nat_eq n 1) (bit_at-pow_other s k (eqb-false k s e)) ∙ sym e
]

-- the bit of the slot that leads from p to q
pub way_bit_is : (p q : List ℕ) (k : ℕ) → has_bit (way_bit p q) k ≡ is_prefix (p ++ k ∷ []) q
way_bit_is [] [] k = has_bit_none k
way_bit_is [] (s ∷ q) k = has_bit_pow s k ∙ sym (and_true (nat_eq k s))
way_bit_is (t ∷ p) [] k = has_bit_none k
way_bit_is (t ∷ p) (s ∷ q) k = by (nat_eq t s) (way_bit_is p q k)
  where
    by : (b : Bool) → has_bit (way_bit p q) k ≡ is_prefix (p ++ k ∷ []) q → has_bit (cond b (way_bit p q) 0) k ≡ (b && is_prefix (p ++ k ∷ []) q)
    by true h = h
    by false h = has_bit_none k

-- ---- slots of a page

block_of : ReferenceValue → Option ℕ
block_of r = r.block

pub slot_block_set : (refs : List ReferenceValue) (s : ℕ) → option_and_then (λ (r : ReferenceValue). r.block) (slice_get (slice_set refs s empty_reference) s) ≡ None
slot_block_set [] s = refl
slot_block_set (r ∷ refs) zero = refl
slot_block_set (r ∷ refs) (suc s) = slot_block_set refs s

pub slot_get_other : (refs : List ReferenceValue) (s k : ℕ) → (k ≡ s → ⊥) → slice_get (slice_set refs s empty_reference) k ≡ slice_get refs k
slot_get_other [] s k h = refl
slot_get_other (r ∷ refs) zero zero h = absurd (h refl)
slot_get_other (r ∷ refs) zero (suc k) h = refl
slot_get_other (r ∷ refs) (suc s) zero h = refl
slot_get_other (r ∷ refs) (suc s) (suc k) h = slot_get_other refs s k (λ e. h (ap suc e))

-- a page that was just made names no block
pub blank_slot : (level s : ℕ) → slot_block (blank level) s ≡ None
unfolding empty_slots
blank_slot level s = by 16 s
  where
    by : (n s : ℕ) → option_and_then (λ (r : ReferenceValue). r.block) (slice_get (replicate n empty_reference) s) ≡ None
    by zero s = refl
    by (suc n) zero = refl
    by (suc n) (suc s) = by n s

-- ---- blocks at paths

-- ---- what is live

pub live_of : (h : Copies) (p : List ℕ) (c : PageCopy) → LiveAt h p c → live h p ≡ true
live_of h p c at = ap (λ o. option_map_or (λ (x : PageCopy). x.live) o false) at.is ∙ at.live

pub at_of : (h : Copies) (p : List ℕ) → live h p ≡ true → (c : PageCopy) × LiveAt h p c
at_of h p here = by (h p) refl here
  where
    by : (o : Option PageCopy) → h p ≡ o → option_map_or (λ (x : PageCopy). x.live) o false ≡ true → (c : PageCopy) × LiveAt h p c
    by None e g = never g refl
    by (Some c) e g = (c, record { is = e; live = g })

pub uncopied_dead : (h : Copies) (p : List ℕ) → h p ≡ None → live h p ≡ false
uncopied_dead h p e = ap (λ o. option_map_or (λ (x : PageCopy). x.live) o false) e

-- a path and one more slot, in two ways
pub push : (p : List ℕ) (s : ℕ) (l : List ℕ) → (p ++ s ∷ []) ++ l ≡ p ++ s ∷ l
push p s l = append_assoc p (s ∷ []) l
