-- Lists of blocks: which blocks they have, that two have none in common, and that one has none twice.
use Rattle.std.proofs.Common.{◌≡◌, ℕ, ◌<◌, ◌≤◌, Bool, true, false, nat_eq, ◌||◌, List, [], ◌∷◌, ◌++◌, length, ◌⊎◌, inl, inr, refl, sym, ap, ◌∙◌, true≢false, eq-eqb, eqb-true}
use Rattle.std.specs.List.{list_any, IsDistinct, AllByRecursion}
use Rattle.std.proofs.lemmas.List.Folds.{list_any-append}
use Rattle.std.proofs.lemmas.Map.Steps.{length-le_from_distinct_below}
use Rattle.tree_model.proofs.Paths.{told, or_told, or_left, or_right}

-- the block is one of these
abbrev pub IsIn : List ℕ → ℕ → Type 0
IsIn places n = list_any (nat_eq n) places ≡ true

-- no block is one of both
abbrev pub Apart : List ℕ → List ℕ → Type 0
Apart xs ys = (n : ℕ) → IsIn xs n → IsIn ys n → ⊥

-- no block is there twice
abbrev pub Distinct : List ℕ → Type 0
Distinct [] = Unit {0}
Distinct (n ∷ ns) = (IsIn ns n → ⊥) × Distinct ns

pub in_head : (n : ℕ) (ns : List ℕ) → IsIn (n ∷ ns) n
in_head n ns = or_left (nat_eq n n) (list_any (nat_eq n) ns) (eq-eqb n n refl)

pub in_tail : (m n : ℕ) (ns : List ℕ) → IsIn ns n → IsIn (m ∷ ns) n
in_tail m n ns h = or_right (nat_eq n m) (list_any (nat_eq n) ns) h

pub in_cons : (m n : ℕ) (ns : List ℕ) → IsIn (m ∷ ns) n → (n ≡ m) ⊎ IsIn ns n
in_cons m n ns h = elim (or_told (nat_eq n m) (list_any (nat_eq n) ns) h) [ inl a ↦ inl (eqb-true n m a) | inr b ↦ inr b ]

pub in_one : (m n : ℕ) → IsIn (m ∷ []) n → n ≡ m
in_one m n h = elim (in_cons m n [] h) [ inl a ↦ a | inr b ↦ absurd (true≢false (sym b)) ]

pub in_left : (xs ys : List ℕ) (n : ℕ) → IsIn xs n → IsIn (xs ++ ys) n
in_left xs ys n h = list_any-append (nat_eq n) xs ys ∙ or_left (list_any (nat_eq n) xs) (list_any (nat_eq n) ys) h

pub in_right : (xs ys : List ℕ) (n : ℕ) → IsIn ys n → IsIn (xs ++ ys) n
in_right xs ys n h = list_any-append (nat_eq n) xs ys ∙ or_right (list_any (nat_eq n) xs) (list_any (nat_eq n) ys) h

pub in_either : (xs ys : List ℕ) (n : ℕ) → IsIn (xs ++ ys) n → IsIn xs n ⊎ IsIn ys n
in_either xs ys n h = or_told (list_any (nat_eq n) xs) (list_any (nat_eq n) ys) (sym (list_any-append (nat_eq n) xs ys) ∙ h)

pub in_along : (xs ys : List ℕ) → xs ≡ ys → (n : ℕ) → IsIn xs n → IsIn ys n
in_along xs ys e n h = ap (list_any (nat_eq n)) (sym e) ∙ h

pub not_in : (ns : List ℕ) (n : ℕ) → (IsIn ns n → ⊥) → list_any (nat_eq n) ns ≡ false
not_in ns n h = elim (told (list_any (nat_eq n) ns)) [ inl t ↦ absurd (h t) | inr f ↦ f ]

pub none_in : (n : ℕ) → IsIn [] n → ⊥
none_in n h = true≢false (sym h)

pub distinct_append : (xs ys : List ℕ) → Distinct xs → Distinct ys → Apart xs ys → Distinct (xs ++ ys)
distinct_append [] ys d e a = e
distinct_append (x ∷ xs) ys d e a = (
  λ h. elim (in_either xs ys x h) [ inl l ↦ d.0 l | inr r ↦ a x (in_head x xs) r ],
  distinct_append xs ys d.1 e (λ n h g. a n (in_tail x n xs h) g),
)

none_equal : (x : ℕ) (xs : List ℕ) → (IsIn xs x → ⊥) → AllByRecursion (λ y. nat_eq x y ≡ false) xs
none_equal x [] h = tt
none_equal x (y ∷ xs) h = (
  elim (told (nat_eq x y)) [ inl t ↦ absurd (h (or_left (nat_eq x y) (list_any (nat_eq x) xs) t)) | inr f ↦ f ],
  none_equal x xs (λ i. h (in_tail y x xs i)),
)

is_distinct : (ns : List ℕ) → Distinct ns → IsDistinct nat_eq ns
unfolding IsDistinct
is_distinct [] d = tt
is_distinct (n ∷ ns) d = (none_equal n ns d.0, is_distinct ns d.1)

-- distinct blocks below a number are no more than it
pub distinct_within : (count : ℕ) (ns : List ℕ) → Distinct ns → ((n : ℕ) → IsIn ns n → n < count) → length ns ≤ count
distinct_within count ns d below = length-le_from_distinct_below ns count (is_distinct ns d) below

-- ---- lists with the same blocks

abbrev pub SameBlocks : List ℕ → List ℕ → Type 0
SameBlocks xs ys = (n : ℕ) → list_any (nat_eq n) xs ≡ list_any (nat_eq n) ys

pub same_in : (xs ys : List ℕ) → SameBlocks xs ys → (n : ℕ) → IsIn xs n → IsIn ys n
same_in xs ys s n h = sym (s n) ∙ h

pub same_append : (xs ys zs : List ℕ) → SameBlocks xs ys → SameBlocks (xs ++ zs) (ys ++ zs)
same_append xs ys zs s n =
    list_any-append (nat_eq n) xs zs ∙ ap (λ b. b || list_any (nat_eq n) zs) (s n) ∙ sym (list_any-append (nat_eq n) ys zs)

pub same_behind : (xs ys zs : List ℕ) → SameBlocks ys zs → SameBlocks (xs ++ ys) (xs ++ zs)
same_behind xs ys zs s n =
    list_any-append (nat_eq n) xs ys ∙ ap (λ b. list_any (nat_eq n) xs || b) (s n) ∙ sym (list_any-append (nat_eq n) xs zs)

or_swap : (a b c : Bool) → (a || (b || c)) ≡ (b || (a || c))
or_swap true true c = refl
or_swap true false c = refl
or_swap false b c = refl

pub same_swap : (xs ys zs : List ℕ) → SameBlocks (xs ++ (ys ++ zs)) (ys ++ (xs ++ zs))
same_swap xs ys zs n =
    list_any-append (nat_eq n) xs (ys ++ zs) ∙ ap (λ b. list_any (nat_eq n) xs || b) (list_any-append (nat_eq n) ys zs)
    ∙ or_swap (list_any (nat_eq n) xs) (list_any (nat_eq n) ys) (list_any (nat_eq n) zs)
    ∙ ap (λ b. list_any (nat_eq n) ys || b) (sym (list_any-append (nat_eq n) xs zs)) ∙ sym (list_any-append (nat_eq n) ys (xs ++ zs))

pub same_from : (xs ys : List ℕ) → xs ≡ ys → SameBlocks xs ys
same_from xs ys e n = ap (list_any (nat_eq n)) e
