-- The path of a child.
use Rattle.std.proofs.Common.{◌≡◌, ℕ, ◌+◌, ◌<◌, ◌≤◌, Bool, true, false, ◌&&◌, nat_eq, List, [], ◌∷◌, ◌++◌, length, slice_index, inl, inr, refl, sym, ap, ◌∙◌, length-append, arith, eq-eqb, eqb-true}
use Rattle.std.specs.Cmp.{second_so}
use Rattle.afs_base.specs.Path.{is_prefix}
use Rattle.tree_model.proofs.Paths.{told, never, same_is, false_if}
use Rattle.page_places.specs.Places.{same}

-- paths of two lengths are two paths
pub apart_by_length : (p q : List ℕ) → (length p ≡ length q → ⊥) → same p q ≡ false
apart_by_length p q apart = false_if (same p q) (λ e. absurd (apart (ap length (same_is p q e))))

pub length_child : (p : List ℕ) (s : ℕ) → length (p ++ s ∷ []) ≡ length p + 1
length_child p s = length-append p (s ∷ [])

-- ---- at and below a child

prefix_length : (p q : List ℕ) → is_prefix p q ≡ true → length p ≤ length q
prefix_length [] q on = omega arith
prefix_length (s ∷ p) [] on = never on refl
prefix_length (s ∷ p) (t ∷ q) on = omega (arith, prefix_length p q (second_so (nat_eq s t) (is_prefix p q) on))

-- no path that is as short as the page above lies there
pub prefix_short : (a : List ℕ) (s : ℕ) (q : List ℕ) → length q ≤ length a → is_prefix (a ++ s ∷ []) q ≡ false
prefix_short a s q short = false_if (is_prefix (a ++ s ∷ []) q) (λ on. absurd (omega (arith, prefix_length (a ++ s ∷ []) q on, length_child a s)))

eq_sym : (m n : ℕ) → nat_eq m n ≡ nat_eq n m
eq_sym m n = elim (told (nat_eq m n)) [
  | inl e ↦ e ∙ sym (eq-eqb n m (sym (eqb-true m n e)))
  | inr e ↦ e ∙ sym (false_if (nat_eq n m) (λ h. sym e ∙ eq-eqb m n (sym (eqb-true n m h))))
]

-- a longer one does where the page above is on its way, and the slot follows there
pub prefix_last : (a : List ℕ) (s : ℕ) (q : List ℕ) → length a < length q → (is_prefix a q && nat_eq (slice_index q (length a)) s) ≡ is_prefix (a ++ s ∷ []) q
prefix_last a s [] long = absurd (omega arith)
prefix_last [] s (t ∷ q) long = eq_sym t s ∙ by (nat_eq s t)
  where
    by : (b : Bool) → b ≡ (b && true)
    by true = refl
    by false = refl
prefix_last (x ∷ a) s (t ∷ q) long = by (nat_eq x t) (prefix_last a s q (omega arith))
  where
    by : (b : Bool) → (is_prefix a q && nat_eq (slice_index q (length a)) s) ≡ is_prefix (a ++ s ∷ []) q
        → ((b && is_prefix a q) && nat_eq (slice_index q (length a)) s) ≡ (b && is_prefix (a ++ s ∷ []) q)
    by true rest = rest
    by false rest = refl
