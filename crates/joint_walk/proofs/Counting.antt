-- A list in order is no longer than one that has all its members.
use Rattle.std.proofs.Common.{◌≡◌, ℕ, suc, ◌≤◌, Bool, true, false, ◌||◌, cond, List, [], ◌∷◌, length, ◌⊎◌, inl, inr, refl, sym, ap, subst, ◌∙◌, arith}
use Rattle.std.proofs.lemmas.Cmp.{tied_itself}
use Rattle.std.specs.Cmp.{first_so, second_so}
use Rattle.std.specs.List.{list_all}
use Rattle.std.specs.Ordering.{is_lt}
use Rattle.afs_base.specs.Path.{path_cmp}
use Rattle.tree_model.proofs.Paths.{told, never, same_self, same_is, path_total, or_left, or_right, or_told}
use Rattle.page_places.specs.Places.{same}
use Rattle.draft_model.specs.Told.{are_rising, is_one_of}

-- the list without the first of its members that is p
less : List ℕ → List (List ℕ) → List (List ℕ)
less p [] = []
less p (q ∷ qs) = cond (same p q) qs (q ∷ less p qs)

less_length : (p : List ℕ) (qs : List (List ℕ)) → is_one_of qs p ≡ true → length qs ≡ suc (length (less p qs))
unfolding less
less_length p [] h = never h refl
less_length p (q ∷ qs) h = by (same p q) h (less_length p qs)
  where
    by : (b : Bool) → (b || is_one_of qs p) ≡ true → (is_one_of qs p ≡ true → length qs ≡ suc (length (less p qs)))
        → suc (length qs) ≡ suc (length (cond b qs (q ∷ less p qs)))
    by true e rest = refl
    by false e rest = ap suc (rest e)

less_other : (p x : List ℕ) (qs : List (List ℕ)) → same x p ≡ false → is_one_of qs x ≡ true → is_one_of (less p qs) x ≡ true
unfolding less
less_other p x [] apart h = h
less_other p x (q ∷ qs) apart h = by (told (same p q)) (less_other p x qs apart)
  where
    by : (same p q ≡ true) ⊎ (same p q ≡ false) → (is_one_of qs x ≡ true → is_one_of (less p qs) x ≡ true) → is_one_of (cond (same p q) qs (q ∷ less p qs)) x ≡ true
    by (inl e) rest =
        let F : Bool → Type 0 = λ b. is_one_of (cond b qs (q ∷ less p qs)) x ≡ true in
        subst F (sym e) (elim (or_told (same x q) (is_one_of qs x) h) [
          | inl is ↦ never is (ap (same x) (sym (same_is p q e)) ∙ apart)
          | inr later ↦ later
        ])
    by (inr e) rest =
        let F : Bool → Type 0 = λ b. is_one_of (cond b qs (q ∷ less p qs)) x ≡ true in
        subst F (sym e) (elim (or_told (same x q) (is_one_of qs x) h) [
          | inl is ↦ or_left (same x q) (is_one_of (less p qs) x) is
          | inr later ↦ or_right (same x q) (is_one_of (less p qs) x) (rest later)
        ])

-- a path of a list does not stand behind the list
later_other : (p x : List ℕ) (ps : List (List ℕ)) → list_all (λ q. is_lt (path_cmp p q)) ps ≡ true → is_one_of ps x ≡ true → same x p ≡ false
later_other p x [] all h = never h refl
later_other p x (q ∷ ps) all h = elim (or_told (same x q) (is_one_of ps x) h) [
  | inl e ↦ elim (told (same x p)) [
    | inl is ↦ never (ap (λ (y : List ℕ). is_lt (path_cmp p y)) (sym (same_is x p is) ∙ same_is x q e) ∙ first_so (is_lt (path_cmp p q)) (list_all (λ q. is_lt (path_cmp p q)) ps) all) (ap is_lt (tied_itself path_total p))
    | inr apart ↦ apart
  ]
  | inr e ↦ later_other p x ps (second_so (is_lt (path_cmp p q)) (list_all (λ q. is_lt (path_cmp p q)) ps) all) e
]

pub no_longer : (ps qs : List (List ℕ)) → are_rising ps ≡ true → ((p : List ℕ) → is_one_of ps p ≡ true → is_one_of qs p ≡ true) → length ps ≤ length qs
no_longer [] qs rising all = omega arith
no_longer (p ∷ ps) qs rising all =
    let first : is_one_of qs p ≡ true = all p (or_left (same p p) (is_one_of ps p) (same_self p)) in
    let rest = no_longer ps (less p qs) (second_so (list_all (λ q. is_lt (path_cmp p q)) ps) (are_rising ps) rising)
    (λ x h. less_other p x qs (later_other p x ps (first_so (list_all (λ q. is_lt (path_cmp p q)) ps) (are_rising ps) rising) h)
    (all x (or_right (same x p) (is_one_of ps x) h))) in
    omega (arith, less_length p qs first, rest)
