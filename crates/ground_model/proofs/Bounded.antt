-- How many turns a commit may have taken, and that this is within the bound of its line.
use Rattle.std.proofs.Common.{◌≡◌, ◌⊎◌, inl, inr, ℕ, ◌+◌, ◌*◌, ◌≤◌, Bool, true, false, not, ◌&&◌, ◌||◌, cond, nat_lt, List, [], ◌∷◌, ◌++◌, filter, length, Option, Some, None, is_some, ◌==◌, Contains, refl, sym, ap, ◌∙◌, subst, arith, le-ltb}
use Rattle.std.specs.Prelude.{count_by, sum_by}
use Rattle.std.specs.Cmp.{first_so, second_so}
use Rattle.std.specs.FinMap as map
use Rattle.std.proofs.lemmas.List.Elements.{filter-append}
use Rattle.std.proofs.lemmas.List.Sums.{sum_by-cons, sum_by-append, sum_by-le-sum_by, length-filter}
use Rattle.std.proofs.lemmas.Nat.{mul-le}
use Rattle.draft_model.specs.Told.{are_rising, is_one_of}
use Rattle.draft_model.proofs.Feeding.{holds_tree}
use Rattle.draft_model.proofs.Telling.{touched, touches_of}
use Rattle.draft_model.specs.Views.{View}
use Rattle.joint_walk.specs.Later.{did_access, is_own}
use Rattle.joint_walk.specs.Walks.{IsUnderWay, StateOf, WalkValue, is_shared}
use Rattle.joint_walk.proofs.Counting.{no_longer}
use Rattle.page_places.specs.Places.{Store, same}
use Rattle.service_model.specs.Standing.{Made, Work, need}
use Rattle.service_model.proofs.Members.{front_or_rest, in_filtered, none_in}
use Rattle.tree_model.specs.declared.step.Step.{Step}
use Rattle.store_model.specs.Laws.{pages_of}
use Rattle.tree_model.specs.Accesses.{Place, all_writes, fresh_as_top, fresh_of, touches, written_paths}
use Rattle.tree_model.specs.Trees.{IsTree, Tree, has, tree_after}
use Rattle.tree_model.proofs.Paths.{both_true, never, or_left, or_right, or_told, path_only, same_is, same_self, told}
use Rattle.ground_model.specs.Bounds.{TurnsAreLeft, TurnsFit, TurnsGrow, TurnsOfMore, WalkIsWithin, later_in, later_of, later_to, shared_in, shared_of, turns_for, turns_to}
use Rattle.ground_model.specs.Leaves.{made_of}

-- ---- sums over a part of a list

-- what one more adds
sum_of_front : {X : Type 0} (f : X → ℕ) (p : X → Bool) (x : X) (xs : List X) (b : Bool) → p x ≡ b
    → sum_by f (filter p (x ∷ xs)) ≡ cond b (f x) 0 + sum_by f (filter p xs)
sum_of_front f p x xs true e = ap (λ c. sum_by f (cond c (x ∷ filter p xs) (filter p xs))) e ∙ sum_by-cons f x (filter p xs)
sum_of_front f p x xs false e =
    let rest : sum_by f (filter p (x ∷ xs)) ≡ sum_by f (filter p xs) = ap (λ c. sum_by f (cond c (x ∷ filter p xs) (filter p xs))) e in
    omega (arith, rest)

-- where the second test is passed by all that pass the first
module _ {X : Type 0} (f : X → ℕ) (p q : X → Bool) (wider : (x : X) → p x ≡ true → q x ≡ true) where
  -- the sum is no smaller
  pub wider_sum : (xs : List X) → sum_by f (filter p xs) ≤ sum_by f (filter q xs)
  wider_sum [] = omega arith
  wider_sum (x ∷ xs) = by (told (p x)) (told (q x)) (wider_sum xs)
    where
      by : (p x ≡ true) ⊎ (p x ≡ false) → (q x ≡ true) ⊎ (q x ≡ false) → sum_by f (filter p xs) ≤ sum_by f (filter q xs)
          → sum_by f (filter p (x ∷ xs)) ≤ sum_by f (filter q (x ∷ xs))
      by (inl e) (inl g) rest = (let one = sum_of_front f p x xs true e in let two = sum_of_front f q x xs true g in omega (arith, one, two, rest))
      by (inl e) (inr g) rest = never (wider x e) g
      by (inr e) (inl g) rest = (let one = sum_of_front f p x xs false e in let two = sum_of_front f q x xs true g in omega (arith, one, two, rest))
      by (inr e) (inr g) rest = (let one = sum_of_front f p x xs false e in let two = sum_of_front f q x xs false g in omega (arith, one, two, rest))

  -- and by as much greater as one has that passes the second test alone
  pub wider_sum_by : (xs : List X) (y : X) → Contains xs y → p y ≡ false → q y ≡ true → sum_by f (filter p xs) + f y ≤ sum_by f (filter q xs)
  wider_sum_by [] y is without within = absurd (none_in y is)
  wider_sum_by (x ∷ xs) y is without within = by (front_or_rest x xs y is) (told (p x)) (told (q x)) (λ h. wider_sum_by xs y h without within)
    where
      by : (x ≡ y) ⊎ Contains xs y → (p x ≡ true) ⊎ (p x ≡ false) → (q x ≡ true) ⊎ (q x ≡ false) → (Contains xs y → sum_by f (filter p xs) + f y ≤ sum_by f (filter q xs))
          → sum_by f (filter p (x ∷ xs)) + f y ≤ sum_by f (filter q (x ∷ xs))
      by (inl e) before after rest =
          let one = sum_of_front f p x xs false (ap p e ∙ without) in
          let two = sum_of_front f q x xs true (ap q e ∙ within) in
          let same : f x ≡ f y = ap f e in
          let less = wider_sum xs in
          omega (arith, one, two, same, less)
      by (inr h) (inl e) (inl g) rest = (let one = sum_of_front f p x xs true e in let two = sum_of_front f q x xs true g in let more = rest h in omega (arith, one, two, more))
      by (inr h) (inl e) (inr g) rest = never (wider x e) g
      by (inr h) (inr e) (inl g) rest = (let one = sum_of_front f p x xs false e in let two = sum_of_front f q x xs true g in let more = rest h in omega (arith, one, two, more))
      by (inr h) (inr e) (inr g) rest = (let one = sum_of_front f p x xs false e in let two = sum_of_front f q x xs false g in let more = rest h in omega (arith, one, two, more))

-- ---- the versions up to a serial

-- whether a version was made after a base, and up to a serial
abbrev is_up_to : ℕ → ℕ → Made → Bool
is_up_to base upto m = nat_lt base m.serial && not (nat_lt upto m.serial)

not_past : (a b : ℕ) → b ≤ a → not (nat_lt a b) ≡ true
not_past a b low = ap not (le-ltb a b low)

one_higher : (base upto : ℕ) (m : Made) → is_up_to base upto m ≡ true → is_up_to base (upto + 1) m ≡ true
one_higher base upto m is =
    let first = first_so (nat_lt base m.serial) (not (nat_lt upto m.serial)) is in
    let second = second_so (nat_lt base m.serial) (not (nat_lt upto m.serial)) is in
    both_true (nat_lt base m.serial) (not (nat_lt (upto + 1) m.serial)) first (grind (arith, second))

pub turns_grow : TurnsGrow
turns_grow made held w m upto is object serial low =
    wider_sum_by (turns_for held w) (is_up_to w.serial upto) (is_up_to w.serial (upto + 1)) (one_higher w.serial upto)
    (made_of w.object made) m (in_filtered (λ (x : Made). x.object == w.object) made m is (grind (arith, object)))
    (grind (arith, serial)) (grind (arith, serial, low))

pub turns_of_more : TurnsOfMore
turns_of_more made held more w upto fewer =
    sum_by-le-sum_by (turns_for held w) (turns_for more w) (later_to made w upto) (λ m. omega (arith, fewer))

pub turns_are_left : TurnsAreLeft
turns_are_left k old new held w upto leaves on =
    let known = leaves.known w on in
    let f : Made → ℕ = turns_for held w in
    let p : Made → Bool = is_up_to w.serial upto in
    let one : turns_to new.standing.made held w upto ≡ sum_by f (filter p (made_of w.object old.standing.made ++ known.more)) =
    ap (λ (ms : List Made). sum_by f (filter p ms)) known.are in
    let two = ap (sum_by f) (filter-append p (made_of w.object old.standing.made) known.more) in
    let three = sum_by-append f (filter p (made_of w.object old.standing.made)) (filter p known.more) in
    omega (arith, one, two, three)

-- ---- the pages that a walk is fed

-- of the paths that pass a test each is one
one_kept : (test : List ℕ → Bool) (paths : List (List ℕ)) (p : List ℕ) → is_one_of paths p ≡ true → test p ≡ true → is_one_of (filter test paths) p ≡ true
one_kept test [] p h passes = h
one_kept test (q ∷ paths) p h passes = by (told (test q)) (or_told (same p q) (is_one_of paths p) h) (λ later. one_kept test paths p later passes)
  where
    by : (test q ≡ true) ⊎ (test q ≡ false) → (same p q ≡ true) ⊎ (is_one_of paths p ≡ true) → (is_one_of paths p ≡ true → is_one_of (filter test paths) p ≡ true)
        → is_one_of (filter test (q ∷ paths)) p ≡ true
    by (inl e) (inl is) rest =
        ap (λ b. is_one_of (cond b (q ∷ filter test paths) (filter test paths)) p) e ∙ or_left (same p q) (is_one_of (filter test paths) p) is
    by (inl e) (inr later) rest =
        ap (λ b. is_one_of (cond b (q ∷ filter test paths) (filter test paths)) p) e ∙ or_right (same p q) (is_one_of (filter test paths) p) (rest later)
    by (inr e) (inl is) rest = never (ap test (sym (same_is p q is)) ∙ passes) e
    by (inr e) (inr later) rest = ap (λ b. is_one_of (cond b (q ∷ filter test paths) (filter test paths)) p) e ∙ rest later

pub kept_has : (t : Tree) (places : List Place) (p : List ℕ) → has (map.retain_keys t (touches places)) p ≡ (touches places p && has t p)
kept_has t places p =
    ap is_some (map.get-retain_keys t (touches places) p (λ x e. ap (touches places) (sym (path_only p x e)))) ∙ by (touches places p)
  where
    by : (b : Bool) → is_some (cond b (map.get t p) None) ≡ (b && has t p)
    by true = refl
    by false = refl

module _ (a : Tree) (steps : List Step) (tree : IsTree (tree_after a steps)) where
  fresh_is : (p : List ℕ) → is_one_of (fresh_of a steps) p ≡ (touches (all_writes a steps) p && has (tree_after a steps) p)
  fresh_is p =
      sym (map.contains_key-keys (map.retain_keys (tree_after a steps) (touches (all_writes a steps))) p)
      ∙ kept_has (tree_after a steps) (all_writes a steps) p

  -- `/` is fresh wherever something is, and else alone
  top_fresh : (fresh : List (List ℕ)) → fresh_of a steps ≡ fresh → is_one_of (written_paths fresh) [] ≡ true
  top_fresh [] is = refl
  top_fresh (q ∷ rest) is =
      let w : List Place = all_writes a steps in
      let here : (touches w q && has (tree_after a steps) q) ≡ true =
      sym (fresh_is q) ∙ ap (λ (ps : List (List ℕ)). is_one_of ps q) is ∙ or_left (same q q) (is_one_of rest q) (same_self q) in
      let some = touched w q (first_so (touches w q) (has (tree_after a steps) q) here) in
      ap (λ (ps : List (List ℕ)). is_one_of ps []) (sym is) ∙ fresh_is []
      ∙ both_true (touches w []) (has (tree_after a steps) []) (touches_of w [] some.0 some.1 refl) tree.root

  also_written : (fresh : List (List ℕ)) (p : List ℕ) → is_one_of fresh p ≡ true → is_one_of (written_paths fresh) p ≡ true
  also_written [] p h = never h refl
  also_written (q ∷ rest) p h = h

  -- a page that is the version's own is at one of the fresh paths
  pub own_is_fresh : (p : List ℕ) → is_own a steps p ≡ true → is_one_of (fresh_as_top a steps) p ≡ true
  own_is_fresh p own =
      let w : List Place = all_writes a steps in
      let there = first_so (has (tree_after a steps) p) (same p [] || touches w p) own in
      elim (or_told (same p []) (touches w p) (second_so (has (tree_after a steps) p) (same p [] || touches w p) own)) [
        | inl e ↦ ap (is_one_of (fresh_as_top a steps)) (same_is p [] e) ∙ top_fresh (fresh_of a steps) refl
        | inr e ↦ also_written (fresh_of a steps) p (fresh_is p ∙ both_true (touches w p) (has (tree_after a steps) p) e there)
      ]

  -- paths in order that are shared are no more than the fresh ones that were accessed
  pub fed_within : (mine : List Step) (fed : List (List ℕ)) → are_rising fed ≡ true → ((p : List ℕ) → is_one_of fed p ≡ true → is_shared a mine steps p ≡ true)
      → length fed ≤ count_by (did_access a mine) (fresh_as_top a steps)
  fed_within mine fed rising shared =
      let most = no_longer fed (filter (did_access a mine) (fresh_as_top a steps)) rising
      (λ p h. let both = shared p h in
      one_kept (did_access a mine) (fresh_as_top a steps) p
      (own_is_fresh p (first_so (is_own a steps p) (did_access a mine p) both))
      (second_so (is_own a steps p) (did_access a mine p) both)) in
      let count = length-filter (did_access a mine) (fresh_as_top a steps) in
      omega (arith, most, count)

-- so many pages a walk under way is fed at most
pub way_within : (store : Store) (base root : ℕ) (a : Tree) (mine other : List Step) (n : ℕ) (w : WalkValue) (d : View)
    → IsUnderWay store base root a mine other n w d → n ≤ count_by (did_access a mine) (fresh_as_top a other)
way_within store base root a mine other n w d way = by w.clash way.state
  where
    tree : IsTree (tree_after a other)
    tree = holds_tree store root (tree_after a other) way.setting.later.holds

    by : (clash : Option Place) → StateOf store root a mine other way.start way.fed w d clash → n ≤ count_by (did_access a mine) (fresh_as_top a other)
    by None state =
        let most = fed_within a other tree mine way.fed state.has_fed.rising state.has_fed.shared in
        let count = way.count in
        omega (arith, most, count)
    by (Some x) state =
        let most = fed_within a other tree mine way.fed state.rising state.shared in
        let count = way.count in
        omega (arith, most, count)

pub walk_is_within : WalkIsWithin
walk_is_within scene w upto root tree before next m fed walk d walking =
    let F : Tree → Type 0 = λ t. fed ≤ count_by (did_access t w.steps) (fresh_as_top t m.steps) in
    subst F (sym walking.ahead.before) (way_within (pages_of scene.content) root next tree w.steps m.steps fed walk d walking.way)

-- ---- the bound

-- one number for each, and another sum
sum_of_each : (held : ℕ) (w : Work) (ms : List Made) → sum_by (turns_for held w) ms ≡ (1 + held) * length ms + sum_by (shared_of w) ms
sum_of_each held w [] = omega arith
sum_of_each held w (m ∷ ms) =
    let one = sum_by-cons (turns_for held w) m ms in
    let two = sum_by-cons (shared_of w) m ms in
    let rest = sum_of_each held w ms in
    omega (arith, one, two, rest)

pub turns_fit : TurnsFit
turns_fit made held u w upto works few =
    let within : turns_to made held w upto ≤ sum_by (turns_for held w) (later_of made w) =
    wider_sum (turns_for held w) (is_up_to w.serial upto) (λ m. nat_lt w.serial m.serial)
    (λ m is. first_so (nat_lt w.serial m.serial) (not (nat_lt upto m.serial)) is) (made_of w.object made) in
    let each = sum_of_each held w (later_of made w) in
    let later : later_in made u ≡ length (later_of made w) + 0 =
    ap (sum_by (λ (x : Work). length (later_of made x))) works ∙ sum_by-cons (λ (x : Work). length (later_of made x)) w [] in
    let shared : shared_in made u ≡ sum_by (shared_of w) (later_of made w) + 0 =
    ap (sum_by (λ (x : Work). sum_by (shared_of x) (later_of made x))) works ∙ sum_by-cons (λ (x : Work). sum_by (shared_of x) (later_of made x)) w [] in
    let most : (1 + held) * (1 + length (later_of made w)) ≤ (4 + 2 * need u) * (1 + later_in made u) =
    mul-le (1 + held) (1 + length (later_of made w)) (4 + 2 * need u) (1 + later_in made u) (omega (arith, few)) (omega (arith, later)) in
    omega (arith, within, each, shared, most)
