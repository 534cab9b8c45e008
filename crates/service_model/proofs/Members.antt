-- What is in a list.
use Rattle.std.proofs.Common.{◌≡◌, ◌≢◌, ◌⊎◌, inl, inr, ℕ, zero, suc, Bool, true, false, ◌||◌, cond, List, [], ◌∷◌, map, filter, set, Some, None, All, Contains, refl, sym, ap, ◌∙◌, subst, arith, slice_get}
use Rattle.std.specs.List.{list_any}
use Rattle.std.proofs.lemmas.Option.{slice_get_within, slice_get-get_or, get_or_from_slice_get}
use Rattle.std.proofs.lemmas.List.Elements.{All-contains_itself, All-weaker}
use Rattle.std.proofs.lemmas.Bool.{cases_Bool}

pub at_place : {X : Type 0} (xs : List X) (x : X) (h : Contains xs x) → slice_get xs h.0 ≡ Some x
at_place xs x (k, lt, is) = slice_get-get_or xs k x lt ∙ ap (λ y. Some y) is

pub from_place : {X : Type 0} (xs : List X) (x : X) (k : ℕ) → slice_get xs k ≡ Some x → Contains xs x
from_place xs x k e = (k, slice_get_within xs k x e, get_or_from_slice_get xs k x x e)

pub none_in : {X : Type 0} (x : X) → Contains [] x → ⊥
none_in x (k, lt, is) = omega (arith, lt)

pub in_front : {X : Type 0} (x : X) (xs : List X) → Contains (x ∷ xs) x
in_front x xs = (0, omega arith, refl)

pub in_rest : {X : Type 0} (x : X) (xs : List X) (y : X) → Contains xs y → Contains (x ∷ xs) y
in_rest x xs y (k, lt, is) = (suc k, omega (arith, lt), is)

pub front_or_rest : {X : Type 0} (x : X) (xs : List X) (y : X) → Contains (x ∷ xs) y → (x ≡ y) ⊎ Contains xs y
front_or_rest x xs y (zero, lt, is) = inl is
front_or_rest x xs y (suc k, lt, is) = inr (k, omega (arith, lt), is)

pub same_list : {X : Type 0} (xs ys : List X) (x : X) → xs ≡ ys → Contains ys x → Contains xs x
same_list {X} xs ys x e h = let F : List X → Type 0 = λ l. Contains l x in subst F (sym e) h

pub same_member : {X : Type 0} (xs : List X) (x y : X) → x ≡ y → Contains xs x → Contains xs y
same_member {X} xs x y e h = let F : X → Type 0 = λ z. Contains xs z in subst F e h

-- what holds of each that is in a list
pub all_in : {X : Type 0} (P : X → Type 0) (xs : List X) → ((x : X) → Contains xs x → P x) → All P xs
all_in P xs each = All-weaker (λ x. Contains xs x) P each xs (All-contains_itself xs)

-- ---- a list that is filtered

filter_yes : {X : Type 0} (p : X → Bool) (x : X) (xs : List X) → p x ≡ true → filter p (x ∷ xs) ≡ x ∷ filter p xs
filter_yes p x xs e = ap (λ b. cond b (x ∷ filter p xs) (filter p xs)) e

filter_no : {X : Type 0} (p : X → Bool) (x : X) (xs : List X) → p x ≡ false → filter p (x ∷ xs) ≡ filter p xs
filter_no p x xs e = ap (λ b. cond b (x ∷ filter p xs) (filter p xs)) e

pub in_filtered : {X : Type 0} (p : X → Bool) (xs : List X) (x : X) → Contains xs x → p x ≡ true → Contains (filter p xs) x
in_filtered p [] x h passes = absurd (none_in x h)
in_filtered {X} p (y ∷ xs) x h passes = by (λ rest. in_filtered p xs x rest passes) (front_or_rest y xs x h) (cases_Bool (p y))
  where
    by : (Contains xs x → Contains (filter p xs) x) → (y ≡ x) ⊎ Contains xs x → (p y ≡ true) ⊎ (p y ≡ false) → Contains (filter p (y ∷ xs)) x
    by later (inl same) (inl e) =
        same_list (filter p (y ∷ xs)) (y ∷ filter p xs) x (filter_yes p y xs e)
        (same_member (y ∷ filter p xs) y x same (in_front y (filter p xs)))
    by later (inl same) (inr e) = (let no : true ≡ false = sym passes ∙ ap p (sym same) ∙ e in absurd (cc no))
    by later (inr rest) (inl e) =
        same_list (filter p (y ∷ xs)) (y ∷ filter p xs) x (filter_yes p y xs e) (in_rest y (filter p xs) x (later rest))
    by later (inr rest) (inr e) = same_list (filter p (y ∷ xs)) (filter p xs) x (filter_no p y xs e) (later rest)

pub from_filtered : {X : Type 0} (p : X → Bool) (xs : List X) (x : X) → Contains (filter p xs) x → Contains xs x × (p x ≡ true)
from_filtered p [] x h = absurd (none_in x h)
from_filtered {X} p (y ∷ xs) x h = by (from_filtered p xs x) (cases_Bool (p y))
  where
    later : Contains xs x × (p x ≡ true) → Contains (y ∷ xs) x × (p x ≡ true)
    later r = (in_rest y xs x r.0, r.1)

    front : (Contains (filter p xs) x → Contains xs x × (p x ≡ true)) → (p y ≡ true) → (y ≡ x) ⊎ Contains (filter p xs) x
        → Contains (y ∷ xs) x × (p x ≡ true)
    front before e (inl same) = (same_member (y ∷ xs) y x same (in_front y xs), ap p (sym same) ∙ e)
    front before e (inr rest) = later (before rest)

    by : (Contains (filter p xs) x → Contains xs x × (p x ≡ true)) → (p y ≡ true) ⊎ (p y ≡ false) → Contains (y ∷ xs) x × (p x ≡ true)
    by before (inl e) =
        front before e (front_or_rest y (filter p xs) x
        (same_list (y ∷ filter p xs) (filter p (y ∷ xs)) x (sym (filter_yes p y xs e)) h))
    by before (inr e) = later (before (same_list (filter p xs) (filter p (y ∷ xs)) x (sym (filter_no p y xs e)) h))

-- ---- a list that is mapped

pub from_mapped : {X Y : Type 0} (f : X → Y) (xs : List X) (y : Y) → Contains (map f xs) y → (x : X) × Contains xs x × (f x ≡ y)
from_mapped f [] y h = absurd (none_in y h)
from_mapped {X} {Y} f (x ∷ xs) y h = by (from_mapped f xs y) (front_or_rest (f x) (map f xs) y h)
  where
    by : (Contains (map f xs) y → (z : X) × Contains xs z × (f z ≡ y)) → (f x ≡ y) ⊎ Contains (map f xs) y → (z : X) × Contains (x ∷ xs) z × (f z ≡ y)
    by before (inl same) = (x, in_front x xs, same)
    by before (inr rest) = (let r = before rest in (r.0, in_rest x xs r.0 r.1, r.2))

pub in_mapped : {X Y : Type 0} (f : X → Y) (xs : List X) (x : X) → Contains xs x → Contains (map f xs) (f x)
in_mapped f [] x h = absurd (none_in x h)
in_mapped {X} {Y} f (y ∷ xs) x h = by (in_mapped f xs x) (front_or_rest y xs x h)
  where
    by : (Contains xs x → Contains (map f xs) (f x)) → (y ≡ x) ⊎ Contains xs x → Contains (f y ∷ map f xs) (f x)
    by later (inl same) = let G : X → Type 0 = λ z. Contains (f y ∷ map f xs) (f z) in subst G same (in_front (f y) (map f xs))
    by later (inr rest) = in_rest (f y) (map f xs) (f x) (later rest)

-- ---- some element

pub in_any : {X : Type 0} (p : X → Bool) (xs : List X) (x : X) → Contains xs x → p x ≡ true → list_any p xs ≡ true
in_any p [] x h passes = absurd (none_in x h)
in_any {X} p (y ∷ xs) x h passes = by (λ rest. in_any p xs x rest passes) (front_or_rest y xs x h)
  where
    or_true : (b : Bool) → (b || true) ≡ true
    or_true true = refl
    or_true false = refl

    by : (Contains xs x → list_any p xs ≡ true) → (y ≡ x) ⊎ Contains xs x → (p y || list_any p xs) ≡ true
    by later (inl same) = ap (λ b. b || list_any p xs) (ap p same ∙ passes)
    by later (inr rest) = ap (λ b. p y || b) (later rest) ∙ or_true (p y)

pub from_any : {X : Type 0} (p : X → Bool) (xs : List X) → list_any p xs ≡ true → (x : X) × Contains xs x × (p x ≡ true)
from_any p [] h = (let no : true ≡ false = sym h in absurd (cc no))
from_any {X} p (y ∷ xs) h = by (from_any p xs) (cases_Bool (p y))
  where
    by : (list_any p xs ≡ true → (x : X) × Contains xs x × (p x ≡ true)) → (p y ≡ true) ⊎ (p y ≡ false) → (x : X) × Contains (y ∷ xs) x × (p x ≡ true)
    by before (inl e) = (y, in_front y xs, e)
    by before (inr e) = (let r = before (sym (ap (λ b. b || list_any p xs) e) ∙ h) in (r.0, in_rest y xs r.0 r.1, r.2))

-- ---- a list with another element at a place

pub set_here : {X : Type 0} (xs : List X) (i : ℕ) (x y : X) → slice_get xs i ≡ Some x → slice_get (set xs i y) i ≡ Some y
set_here [] i x y e = (let no : Some x ≡ None = sym e in absurd (cc no))
set_here (z ∷ xs) zero x y e = refl
set_here (z ∷ xs) (suc i) x y e = set_here xs i x y e

pub set_elsewhere : {X : Type 0} (xs : List X) (i j : ℕ) (y : X) → i ≢ j → slice_get (set xs i y) j ≡ slice_get xs j
set_elsewhere [] i j y ne = refl
set_elsewhere (x ∷ xs) zero zero y ne = absurd (ne refl)
set_elsewhere (x ∷ xs) zero (suc j) y ne = refl
set_elsewhere (x ∷ xs) (suc i) zero y ne = refl
set_elsewhere (x ∷ xs) (suc i) (suc j) y ne = set_elsewhere xs i j y (λ e. ne (ap suc e))
