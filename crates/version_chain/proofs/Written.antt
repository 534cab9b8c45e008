-- The paths that are written, each with its block: one place more.
use Rattle.std.proofs.Common.{◌≡◌, ℕ, zero, suc, ◌+◌, ◌<◌, ◌≤◌, true, List, [], ◌∷◌, ◌++◌, length, take, count_by, ◌⊎◌, inl, inr, refl, sym, ap, subst, ◌∙◌, Option, Some, arith, add-one, eq-eqb, get_or, lit≤}
use Rattle.std.specs.Option.{option_map_or}
use Rattle.std.specs.List.{slice_get}
use Rattle.tree_model.specs.Accesses.{written_paths}
use Rattle.block_map.specs.States.{is_held, held_below}
use Rattle.block_map.specs.declared.states.BlockState.{BlockState}
use Rattle.block_map.specs.declared.states.BlockState.TheVariants.{Held}
use Rattle.block_map.proofs.Counting.{one, count_by-cons}
use Rattle.draft_model.specs.Told.{are_rising}
use Rattle.draft_model.specs.Flush.{Placed}
use Rattle.version_chain.specs.Flush.{paths_of, AreHeld}

abbrev Paths : Type 0
Paths = List (List ℕ)

-- ---- lists

length_paths : (placed : List Placed) → length (paths_of placed) ≡ length placed
length_paths [] = refl
length_paths (x ∷ placed) = ap suc (length_paths placed)

length_front : (xs : Paths) (k : ℕ) → k ≤ length xs → length (take k xs) ≡ k
length_front xs zero h = refl
length_front [] (suc k) h = absurd (omega arith)
length_front (x ∷ xs) (suc k) h = ap suc (length_front xs k (omega arith))

pub front_whole : (xs : Paths) → take (length xs) xs ≡ xs
front_whole [] = refl
front_whole (x ∷ xs) = ap (λ (ys : Paths). x ∷ ys) (front_whole xs)

path_is : (p q : List ℕ) → Some p ≡ Some q → p ≡ q
path_is p q e = ap (λ (o : Option (List ℕ)). option_map_or (λ (x : List ℕ). x) o p) e

placed_is : (x y : Placed) → Some x ≡ Some y → x ≡ y
placed_is x y e = ap (λ (o : Option Placed). option_map_or (λ (z : Placed). z) o x) e

front_more : (xs : Paths) (k : ℕ) (p : List ℕ) → slice_get xs k ≡ Some p → take (suc k) xs ≡ take k xs ++ p ∷ []
front_more [] k p at = absurd (cc)
front_more (x ∷ xs) zero p at = ap (λ (q : List ℕ). q ∷ []) (path_is x p at)
front_more (x ∷ xs) (suc k) p at = ap (λ (ys : Paths). x ∷ ys) (front_more xs k p at)

paths_more : (placed : List Placed) (x : Placed) → paths_of (placed ++ x ∷ []) ≡ paths_of placed ++ x.path ∷ []
paths_more [] x = refl
paths_more (y ∷ placed) x = ap (λ (ps : Paths). y.path ∷ ps) (paths_more placed x)

-- an element of a list with one more is one of the list or the last
pub get_more : (placed : List Placed) (y : Placed) (k : ℕ) (x : Placed) → slice_get (placed ++ y ∷ []) k ≡ Some x
    → (slice_get placed k ≡ Some x) ⊎ ((k ≡ length placed) × (x ≡ y))
get_more [] y zero x at = inr (refl, sym (placed_is y x at))
get_more [] y (suc k) x at = absurd (cc)
get_more (z ∷ placed) y zero x at = inl at
get_more (z ∷ placed) y (suc k) x at = elim (get_more placed y k x at) [ inl e ↦ inl e | inr e ↦ inr (ap suc e.0, e.1) ]

-- an element that is found lies within
pub got_lt : (placed : List Placed) (k : ℕ) (x : Placed) → slice_get placed k ≡ Some x → k < length placed
got_lt [] k x at = absurd (cc)
got_lt (y ∷ placed) zero x at = omega arith
got_lt (y ∷ placed) (suc k) x at = omega (arith, got_lt placed k x at)

-- .. and an element that is read is found
pub got_is : {A : Type 0} (xs : List A) (k : ℕ) (x : A) → k < length xs → x ≡ get_or xs k x → slice_get xs k ≡ Some x
got_is [] k x h e = absurd (omega arith)
got_is (y ∷ xs) zero x h e = ap Some (sym e)
got_is (y ∷ xs) (suc k) x h e = got_is xs k x (omega arith) e

-- some path is written
pub written_some : (fresh : Paths) → 1 ≤ length (written_paths fresh)
written_some [] = lit≤ tt
written_some (p ∷ fresh) = omega arith

pub rising_written : (fresh : Paths) → are_rising fresh ≡ true → are_rising (written_paths fresh) ≡ true
rising_written [] h = refl
rising_written (p ∷ fresh) h = h

-- ---- one place more

pub record PlacesSoFar (states : List BlockState) (client from : ℕ) (paths : Paths) (placed : List Placed) (k : ℕ) : Type 0 where
  pub paths_are : paths_of placed ≡ take k paths
  pub blocks : AreHeld states client from placed
  pub within : k ≤ length paths

-- no place yet
pub none_yet : (states : List BlockState) (client from : ℕ) (paths : Paths) (placed : List Placed) → placed ≡ [] → PlacesSoFar states client from paths placed 0
none_yet states client from paths placed none = record {
  paths_are = ap (λ (xs : List Placed). paths_of xs) none;
  blocks = λ k x at. absurd (cc (ap (λ (xs : List Placed). slice_get xs k) (sym none) ∙ at));
  within = omega arith;
}

-- so many places there are
pub so_far_size : (states : List BlockState) (client from : ℕ) (paths : Paths) (placed : List Placed) (k : ℕ) → PlacesSoFar states client from paths placed k → length placed ≡ k
so_far_size states client from paths placed k so_far = sym (length_paths placed) ∙ ap length so_far.paths_are ∙ length_front paths k so_far.within

pub one_place : (states : List BlockState) (client from : ℕ) (paths : Paths) (placed : List Placed) (k : ℕ) (path : List ℕ) (block : ℕ)
    → PlacesSoFar states client from paths placed k → k < length paths → slice_get paths k ≡ Some path
    → slice_get states block ≡ Some (Held client) → held_below client states block ≡ from + k
    → PlacesSoFar states client from paths (placed ++ record { path = path; block = block } ∷ []) (k + 1)
one_place states client from paths placed k path block so_far small at held place = record {
  paths_are =
      paths_more placed (record { path = path; block = block })
      ∙ ap (λ (ps : Paths). ps ++ path ∷ []) so_far.paths_are
      ∙ more;
  blocks = λ j x found. elim (get_more placed (record { path = path; block = block }) j x found) [
    | inl e ↦ so_far.blocks j x e
    | inr e ↦
        let F : Placed → Type 0 = λ y. (slice_get states y.block ≡ Some (Held client)) × (held_below client states y.block ≡ from + j) in
        subst F (sym e.1) (held, place ∙ ap (λ (n : ℕ). from + n) (sym (e.0 ∙ size)))
  ];
  within = omega arith;
}
  where
    more : take k paths ++ path ∷ [] ≡ take (k + 1) paths
    more = sym (front_more paths k path at) ∙ ap (λ (n : ℕ). take n paths) (sym (add-one k))

    size : length placed ≡ k
    size = so_far_size states client from paths placed k so_far

-- the block behind one that a client holds
pub behind_held : (states : List BlockState) (client b : ℕ) → slice_get states b ≡ Some (Held client) → held_below client states (b + 1) ≡ held_below client states b + 1
behind_held states client b at =
    ap (λ (n : ℕ). held_below client states n) (add-one b) ∙ more states b at
  where
    held_is : is_held client (Held client) ≡ true
    held_is = eq-eqb client client refl

    state_is : (x y : BlockState) → Some x ≡ Some y → x ≡ y
    state_is x y e = ap (λ (o : Option BlockState). option_map_or (λ (z : BlockState). z) o x) e

    more : (xs : List BlockState) (k : ℕ) → slice_get xs k ≡ Some (Held client) → count_by (is_held client) (take (suc k) xs) ≡ count_by (is_held client) (take k xs) + 1
    more [] k found = absurd (cc)
    more (x ∷ xs) zero found =
        count_by-cons (is_held client) x [] ∙ ap (λ b. one b + count_by (is_held client) []) (ap (is_held client) (state_is x (Held client) found) ∙ held_is)
    more (x ∷ xs) (suc k) found =
        omega (arith, count_by-cons (is_held client) x (take (suc k) xs), count_by-cons (is_held client) x (take k xs), more xs k found)
