-- Facts of paths: when two are equal, and what is a prefix of what.
use Rattle.std.proofs.Common.{◌≡◌, ℕ, Bool, true, false, not, ◌&&◌, ◌||◌, List, [], ◌∷◌, ◌++◌, ◌⊎◌, inl, inr, refl, sym, ap, subst, ◌∙◌, append_assoc, eq-eqb, eqb-true, true≢false}
use Rattle.std.specs.Cmp.{IsTotalOrder, tied_itself, Equal-is, first_so, second_so}
use Rattle.std.specs.Cmp.Lexicographic.{nat_list_cmp_total}
use Rattle.std.specs.Ordering.{eq_by_cmp, is_eq}
use Rattle.std.specs.FinMap.{IsAntisymmetric, nat_cmp-IsAntisymmetric, slice_cmp-IsAntisymmetric}
use Rattle.afs_base.specs.Path.{path_cmp, is_prefix}

pub told : (b : Bool) → (b ≡ true) ⊎ (b ≡ false)
told true = inl refl
told false = inr refl

-- a test that is both true and false
pub never : {A : Type 0} {b : Bool} → b ≡ true → b ≡ false → A
never t f = absurd (true≢false (sym t ∙ f))

pub both_true : (a b : Bool) → a ≡ true → b ≡ true → (a && b) ≡ true
both_true a b p q = ap (λ x. x && b) p ∙ q

pub or_told : (a b : Bool) → (a || b) ≡ true → (a ≡ true) ⊎ (b ≡ true)
or_told true b h = inl refl
or_told false b h = inr h

pub or_left : (a b : Bool) → a ≡ true → (a || b) ≡ true
or_left a b h = ap (λ x. x || b) h

pub or_right : (a b : Bool) → b ≡ true → (a || b) ≡ true
or_right true b h = refl
or_right false b h = h

pub not_true : (b : Bool) → not b ≡ true → b ≡ false
not_true true h = sym h
not_true false h = refl

-- two tests that imply each other
pub same_test : (a b : Bool) → (a ≡ true → b ≡ true) → (b ≡ true → a ≡ true) → a ≡ b
same_test true b f g = sym (f refl)
same_test false true f g = g refl
same_test false false f g = refl

-- a test that is not true
pub false_if : (b : Bool) → (b ≡ true → false ≡ true) → b ≡ false
false_if true h = sym (h refl)
false_if false h = refl

abbrev pub same : List ℕ → List ℕ → Bool
same q p = eq_by_cmp path_cmp q p

pub path_total : IsTotalOrder path_cmp
path_total = nat_list_cmp_total

pub path_only : IsAntisymmetric path_cmp
path_only = slice_cmp-IsAntisymmetric nat_cmp-IsAntisymmetric

pub same_self : (p : List ℕ) → same p p ≡ true
same_self p = ap is_eq (tied_itself path_total p)

pub same_is : (q p : List ℕ) → same q p ≡ true → q ≡ p
same_is q p h = path_only q p ((Equal-is (path_cmp q p)).0 h)

pub path_told : (q p : List ℕ) → (q ≡ p) ⊎ (same q p ≡ false)
path_told q p = elim (told (same q p)) [ inl h ↦ inl (same_is q p h) | inr h ↦ inr h ]

-- ---- prefixes

pub prefix_self : (p : List ℕ) → is_prefix p p ≡ true
prefix_self [] = refl
prefix_self (s ∷ p) = both_true _ _ (eq-eqb s s refl) (prefix_self p)

pub prefix_append : (p r : List ℕ) → is_prefix p (p ++ r) ≡ true
prefix_append [] r = refl
prefix_append (s ∷ p) r = both_true _ _ (eq-eqb s s refl) (prefix_append p r)

-- a prefix and what follows it
pub prefix_told : (p q : List ℕ) → is_prefix p q ≡ true → (r : List ℕ) × (p ++ r ≡ q)
prefix_told [] q h = (q, refl)
prefix_told (s ∷ p) [] h = absurd (true≢false (sym h))
prefix_told (s ∷ p) (t ∷ q) h =
    let rest = prefix_told p q (second_so _ _ h) in
    (rest.0, (λ i. eqb-true s t (first_so _ _ h) i ∷ rest.1 i))

pub prefix_trans : (p q r : List ℕ) → is_prefix p q ≡ true → is_prefix q r ≡ true → is_prefix p r ≡ true
prefix_trans p q r h g =
    let a = prefix_told p q h in
    let b = prefix_told q r g in
    let F : List ℕ → Type 0 = λ x. is_prefix p x ≡ true in
    subst F (sym (append_assoc p a.0 b.0) ∙ ap (λ x. x ++ b.0) a.1 ∙ b.1) (prefix_append p (a.0 ++ b.0))

pub prefix_above : (p : List ℕ) (s : ℕ) → is_prefix p (p ++ s ∷ []) ≡ true
prefix_above p s = prefix_append p (s ∷ [])

-- a prefix of a child's path is that path, or a prefix of the path above
pub prefix_child : (q p : List ℕ) (s : ℕ) → is_prefix q (p ++ s ∷ []) ≡ true → (q ≡ p ++ s ∷ []) ⊎ (is_prefix q p ≡ true)
prefix_child [] p s h = inr refl
prefix_child (t ∷ []) [] s h = inl (λ i. eqb-true t s (first_so _ _ h) i ∷ [])
prefix_child (t ∷ u ∷ q) [] s h = absurd (true≢false (sym (second_so _ _ h)))
prefix_child (t ∷ q) (u ∷ p) s h =
    let e = eqb-true t u (first_so _ _ h) in
    elim (prefix_child q p s (second_so _ _ h)) [
      | inl g ↦ inl (λ i. e i ∷ g i)
      | inr g ↦ inr (both_true _ _ (first_so _ _ h) g)
    ]

-- nothing below a page is a prefix of it
pub child_above : (p : List ℕ) (s : ℕ) → is_prefix (p ++ s ∷ []) p ≡ false
child_above [] s = refl
child_above (t ∷ p) s = ap (λ b. b && is_prefix (p ++ s ∷ []) p) (eq-eqb t t refl) ∙ child_above p s

pub child_not_root : (p : List ℕ) (s : ℕ) → is_prefix (p ++ s ∷ []) [] ≡ false
child_not_root [] s = refl
child_not_root (t ∷ p) s = refl
