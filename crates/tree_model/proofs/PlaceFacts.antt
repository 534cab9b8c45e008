-- What is among a list of places: on the way to a path, and at all slots of a page.
use Rattle.std.proofs.Common.{◌≡◌, ℕ, zero, suc, ◌<◌, Bool, true, false, ◌&&◌, ◌||◌, cond, nat_eq, List, [], ◌∷◌, ◌++◌, ◌⊎◌, inl, inr, refl, sym, ap, subst, ◌∙◌, map, filter, Ordering, Less, Equal, Greater, arith, is_eq, eq-eqb, eqb-true, true≢false}
use Rattle.std.specs.Ordering.{nat_cmp, ordering_then, eq_by_cmp}
use Rattle.std.specs.Cmp.{IsTotalOrder, tied_itself, Equal-is, then_total, on_total, nat_cmp_total, first_so, second_so}
use Rattle.std.specs.List.{list_any}
use Rattle.std.specs.FinMap.{IsAntisymmetric, nat_cmp-IsAntisymmetric}
use Rattle.std.proofs.lemmas.Bool.{eqb-false}
use Rattle.std.proofs.lemmas.List.Folds.{list_any-append}
use Rattle.afs_base.specs.Path.{path_cmp, is_prefix}
use Rattle.afs_base.specs.Kind.{kind_place}
use Rattle.afs_base.specs.declared.kind.Kind.{Kind}
use Rattle.afs_base.specs.declared.kind.Kind.TheVariants.{Data, Slot}
use Rattle.tree_model.specs.Trees.{Tree, has, path_of, numbers_below}
use Rattle.tree_model.specs.Accesses.{Place, place_cmp, is_among, slot_of, way_to, on_the_way, slots_at}
use Rattle.tree_model.proofs.Paths.{told, never, both_true, or_told, or_left, or_right, path_total, path_only}

-- ---- the order of places

pub place_total : IsTotalOrder place_cmp
place_total = then_total (on_total (λ (x : Place). x.0) path_total) (on_total (λ (x : Place). kind_place x.1) nat_cmp_total)

then_equal : (r s : Ordering) → ordering_then r s ≡ Equal → (r ≡ Equal) × (s ≡ Equal)
then_equal Less s e = absurd (true≢false (sym (ap is_eq e)))
then_equal Equal s e = (refl, e)
then_equal Greater s e = absurd (true≢false (sym (ap is_eq e)))

kind_only : (j k : Kind) → kind_place j ≡ kind_place k → j ≡ k
kind_only Data Data e = refl
kind_only Data (Slot k) e = absurd (omega arith)
kind_only (Slot j) Data e = absurd (omega arith)
kind_only (Slot j) (Slot k) e = let is : j ≡ k = omega arith in ap Slot is

pub place_only : IsAntisymmetric place_cmp
place_only x y e =
    let parts = then_equal (path_cmp x.0 y.0) (nat_cmp (kind_place x.1) (kind_place y.1)) e in
    λ i. (path_only x.0 y.0 parts.0 i, kind_only x.1 y.1 (nat_cmp-IsAntisymmetric (kind_place x.1) (kind_place y.1) parts.1) i)

abbrev pub same_place : Place → Place → Bool
same_place x y = eq_by_cmp place_cmp x y

pub same_place_self : (x : Place) → same_place x x ≡ true
same_place_self x = ap is_eq (tied_itself place_total x)

pub same_place_is : (x y : Place) → same_place x y ≡ true → x ≡ y
same_place_is x y h = place_only x y ((Equal-is (place_cmp x y)).0 h)

-- ---- lists of places

pub among_append : (xs ys : List Place) (x : Place) → is_among (xs ++ ys) x ≡ (is_among xs x || is_among ys x)
among_append xs ys x = list_any-append (same_place x) xs ys

pub among_left : (xs ys : List Place) (x : Place) → is_among xs x ≡ true → is_among (xs ++ ys) x ≡ true
among_left xs ys x h = among_append xs ys x ∙ or_left _ _ h

pub among_right : (xs ys : List Place) (x : Place) → is_among ys x ≡ true → is_among (xs ++ ys) x ≡ true
among_right xs ys x h = among_append xs ys x ∙ or_right _ _ h

pub among_either : (xs ys : List Place) (x : Place) → is_among (xs ++ ys) x ≡ true → (is_among xs x ≡ true) ⊎ (is_among ys x ≡ true)
among_either xs ys x h = or_told _ _ (sym (among_append xs ys x) ∙ h)

pub among_first : (x : Place) (xs : List Place) → is_among (x ∷ xs) x ≡ true
among_first x xs = or_left _ _ (same_place_self x)

pub among_later : (y : Place) (xs : List Place) (x : Place) → is_among xs x ≡ true → is_among (y ∷ xs) x ≡ true
among_later y xs x h = or_right _ _ h

pub among_told : (y : Place) (xs : List Place) (x : Place) → is_among (y ∷ xs) x ≡ true → (x ≡ y) ⊎ (is_among xs x ≡ true)
among_told y xs x h = elim (or_told _ _ h) [ inl e ↦ inl (same_place_is x y e) | inr e ↦ inr e ]

pub not_among : {A : Type 0} (x : Place) → is_among [] x ≡ true → A
not_among x h = never h refl

-- the same, of a list under a condition
pub among_if : (b : Bool) (xs : List Place) (x : Place) → is_among (cond b xs []) x ≡ true → (b ≡ true) × (is_among xs x ≡ true)
among_if true xs x h = (refl, h)
among_if false xs x h = not_among x h

pub if_among : (b : Bool) (xs : List Place) (x : Place) → b ≡ true → is_among xs x ≡ true → is_among (cond b xs []) x ≡ true
if_among b xs x e h = let F : Bool → Type 0 = λ c. is_among (cond c xs []) x ≡ true in subst F (sym e) h

-- ---- the way to a path

pub any_map : {A B : Type 0} (f : A → B) (p : B → Bool) (xs : List A) → list_any p (map f xs) ≡ list_any (λ x. p (f x)) xs
any_map f p [] = refl
any_map f p (x ∷ xs) = ap (λ b. p (f x) || b) (any_map f p xs)

pub any_filter : {A : Type 0} (test p : A → Bool) (xs : List A) → list_any p (filter test xs) ≡ list_any (λ x. test x && p x) xs
any_filter test p [] = refl
any_filter test p (x ∷ xs) = by (test x) ∙ ap (λ b. (test x && p x) || b) (any_filter test p xs)
  where
    by : (b : Bool) → list_any p (cond b (x ∷ filter test xs) (filter test xs)) ≡ ((b && p x) || list_any p (filter test xs))
    by true = refl
    by false = refl

abbrev pub Way : Type 0
Way = List ℕ × ℕ

-- a child on the way that passes a test
pub way_some : (test : Way → Bool) (p : List ℕ) → list_any test (way_to p) ≡ true → (c : Way) × (test c ≡ true) × (is_prefix (path_of c) p ≡ true)
way_some test [] h = never h refl
way_some test (s ∷ p) h =
    elim (or_told _ _ h) [
      | inl e ↦ (([], s), e, both_true _ _ (eq-eqb s s refl) refl)
      | inr e ↦
          let rest = way_some (λ (c : Way). test (s ∷ c.0, c.1)) p (sym (any_map (λ (c : Way). (s ∷ c.0, c.1)) test (way_to p)) ∙ e) in
          ((s ∷ rest.0.0, rest.0.1), rest.1, both_true _ _ (eq-eqb s s refl) rest.2)
    ]

-- each child on the way is there to be tested
way_any : (test : Way → Bool) (q : List ℕ) (k : ℕ) (p : List ℕ) → test (q, k) ≡ true → is_prefix (q ++ k ∷ []) p ≡ true → list_any test (way_to p) ≡ true
way_any test [] k [] t h = absurd (true≢false (sym h))
way_any test [] k (s ∷ p) t h = or_left _ _ (ap (λ (n : ℕ). test ([], n)) (sym (eqb-true k s (first_so _ _ h))) ∙ t)
way_any test (u ∷ q) k [] t h = absurd (true≢false (sym h))
way_any test (u ∷ q) k (s ∷ p) t h =
    or_right _ _ (any_map (λ (c : Way). (s ∷ c.0, c.1)) test (way_to p)
    ∙ way_any (λ (c : Way). test (s ∷ c.0, c.1)) q k p
    (ap (λ (n : ℕ). test (n ∷ q, k)) (sym (eqb-true u s (first_so _ _ h))) ∙ t)
    (second_so _ _ h))

way_places : (t : Tree) (p : List ℕ) (x : Place) → is_among (on_the_way t p) x ≡ list_any (λ (c : Way). has t c.0 && same_place x (slot_of c)) (way_to p)
way_places t p x =
    any_map slot_of (same_place x) (filter (λ (c : Way). has t c.0) (way_to p))
    ∙ any_filter (λ (c : Way). has t c.0) (λ (c : Way). same_place x (slot_of c)) (way_to p)

-- a place on the way to a path is a slot of a page that is there and above it
pub way_told : (t : Tree) (p : List ℕ) (x : Place) → is_among (on_the_way t p) x ≡ true → (c : Way) × (x ≡ slot_of c) × (has t c.0 ≡ true) × (is_prefix (path_of c) p ≡ true)
way_told t p x h =
    let found = way_some (λ (c : Way). has t c.0 && same_place x (slot_of c)) p (sym (way_places t p x) ∙ h) in
    (found.0, same_place_is x (slot_of found.0) (second_so _ _ found.1), first_so _ _ found.1, found.2)

-- each such slot is on the way
pub on_way : (t : Tree) (p : List ℕ) (c : Way) → has t c.0 ≡ true → is_prefix (path_of c) p ≡ true → is_among (on_the_way t p) (slot_of c) ≡ true
on_way t p c there h =
    way_places t p (slot_of c)
    ∙ way_any (λ (d : Way). has t d.0 && same_place (slot_of c) (slot_of d)) c.0 c.1 p (both_true _ _ there (same_place_self (slot_of c))) h

filter_map_cons : (s : ℕ) (f g : Way → Bool) (xs : List Way) → filter (λ (c : Way). f (s ∷ c.0, c.1)) xs ≡ filter (λ (c : Way). g (s ∷ c.0, c.1)) xs
    → filter f (map (λ (c : Way). (s ∷ c.0, c.1)) xs) ≡ filter g (map (λ (c : Way). (s ∷ c.0, c.1)) xs)
filter_map_cons s f g xs is = moved f xs ∙ ap (map (λ (c : Way). (s ∷ c.0, c.1))) is ∙ sym (moved g xs)
  where
    moved : (f : Way → Bool) (xs : List Way) → filter f (map (λ (c : Way). (s ∷ c.0, c.1)) xs) ≡ map (λ (c : Way). (s ∷ c.0, c.1)) (filter (λ (c : Way). f (s ∷ c.0, c.1)) xs)
    moved f [] = refl
    moved f (x ∷ xs) =
        ap (λ (ys : List Way). cond {A = List Way} (f (s ∷ x.0, x.1)) ((s ∷ x.0, x.1) ∷ ys) ys) (moved f xs) ∙ pushed (f (s ∷ x.0, x.1)) x (filter (λ (c : Way). f (s ∷ c.0, c.1)) xs)
      where
        pushed : (b : Bool) (x : Way) (ys : List Way) → cond {A = List Way} b ((s ∷ x.0, x.1) ∷ map (λ (c : Way). (s ∷ c.0, c.1)) ys) (map (λ (c : Way). (s ∷ c.0, c.1)) ys) ≡ map (λ (c : Way). (s ∷ c.0, c.1)) (cond b (x ∷ ys) ys)
        pushed true x ys = refl
        pushed false x ys = refl

-- two tests that agree on the way to a path
pub way_filter : (f g : Way → Bool) (p : List ℕ) → ((c : Way) → is_prefix (path_of c) p ≡ true → f c ≡ g c) → filter f (way_to p) ≡ filter g (way_to p)
way_filter f g [] is = refl
way_filter f g (s ∷ p) is =
    let rest = filter_map_cons s f g (way_to p)
    (way_filter (λ (c : Way). f (s ∷ c.0, c.1)) (λ (c : Way). g (s ∷ c.0, c.1)) p (λ c h. is (s ∷ c.0, c.1) (both_true _ _ (eq-eqb s s refl) h))) in
    λ i. cond {A = List Way} (is ([], s) (both_true _ _ (eq-eqb s s refl) refl) i) (([], s) ∷ rest i) (rest i)

-- ---- the slots of a page

pub map_push : {A B : Type 0} (f : A → B) (xs : List A) (x : A) → map f (xs ++ x ∷ []) ≡ map f xs ++ f x ∷ []
map_push f [] x = refl
map_push f (y ∷ xs) x = ap (λ ys. f y ∷ ys) (map_push f xs x)

below_told : (p : List ℕ) (n : ℕ) (x : Place) → is_among (map (λ s. slot_of (p, s)) (numbers_below n)) x ≡ true → (k : ℕ) × (k < n) × (x ≡ slot_of (p, k))
unfolding numbers_below
below_told p zero x h = never h refl
below_told p (suc n) x h =
    elim (among_either (map (λ s. slot_of (p, s)) (numbers_below n)) (slot_of (p, n) ∷ []) x (ap (λ ys. is_among ys x) (sym (map_push (λ s. slot_of (p, s)) (numbers_below n) n)) ∙ h)) [
      | inl e ↦ let rest = below_told p n x e in (rest.0, omega (arith, rest.1), rest.2)
      | inr e ↦ elim (among_told (slot_of (p, n)) [] x e) [ inl is ↦ (n, omega arith, is) | inr none ↦ not_among x none ]
    ]

below_among : (p : List ℕ) (n k : ℕ) → k < n → is_among (map (λ s. slot_of (p, s)) (numbers_below n)) (slot_of (p, k)) ≡ true
unfolding numbers_below
below_among p zero k h = absurd (omega arith)
below_among p (suc n) k h = ap (λ ys. is_among ys (slot_of (p, k))) (map_push (λ s. slot_of (p, s)) (numbers_below n) n) ∙ by (told (nat_eq k n)) (λ g. below_among p n k g)
  where
    by : (nat_eq k n ≡ true) ⊎ (nat_eq k n ≡ false) → (k < n → is_among (map (λ s. slot_of (p, s)) (numbers_below n)) (slot_of (p, k)) ≡ true) → is_among (map (λ s. slot_of (p, s)) (numbers_below n) ++ slot_of (p, n) ∷ []) (slot_of (p, k)) ≡ true
    by (inl e) rest = among_right (map (λ s. slot_of (p, s)) (numbers_below n)) (slot_of (p, n) ∷ []) (slot_of (p, k))
        (ap (λ m. is_among (slot_of (p, m) ∷ []) (slot_of (p, k))) (sym (eqb-true k n e)) ∙ among_first (slot_of (p, k)) [])
    by (inr e) rest = among_left (map (λ s. slot_of (p, s)) (numbers_below n)) (slot_of (p, n) ∷ []) (slot_of (p, k))
        (rest (omega (arith, eqb-false k n e)))

-- a slot of a page is one of its sixteen
pub slots_told : (p : List ℕ) (x : Place) → is_among (slots_at p) x ≡ true → (k : ℕ) × (k < 16) × (x ≡ slot_of (p, k))
slots_told p x h = below_told p 16 x h

pub slots_among : (p : List ℕ) (k : ℕ) → k < 16 → is_among (slots_at p) (slot_of (p, k)) ≡ true
slots_among p k h = below_among p 16 k h
