-- The blocks that a client holds, counted upwards: each number has one block, and so paths that are placed from one number on have one list of places.
use Rattle.std.proofs.Common.{◌≡◌, ℕ, zero, suc, ◌+◌, ◌<◌, ◌≤◌, true, false, List, [], ◌∷◌, length, take, ◌⊎◌, inl, inr, refl, sym, ap, subst, ◌∙◌, Option, Some, arith, slice_get, eq-eqb, eqb-true, true≢false}
use Rattle.std.specs.Option.{option_map_or}
use Rattle.tree_model.proofs.Paths.{told}
use Rattle.block_map.specs.States.{held_below, held_count, is_held}
use Rattle.block_map.specs.declared.states.BlockState.{BlockState}
use Rattle.block_map.specs.declared.states.BlockState.TheVariants.{Free, Held, Kept}
use Rattle.block_map.proofs.Counting.{count_by-cons, one}
use Rattle.draft_model.specs.Flush.{Placed}
use Rattle.version_chain.specs.Flush.{paths_of, AreHeld}

state_is : (x y : BlockState) → Some x ≡ Some y → x ≡ y
state_is x y e = ap (λ (o : Option BlockState). option_map_or (λ (z : BlockState). z) o x) e

placed_is : (x y : Placed) → Some x ≡ Some y → x ≡ y
placed_is x y e = ap (λ (o : Option Placed). option_map_or (λ (z : Placed). z) o x) e

count_is : (client : ℕ) (x : BlockState) (xs : List BlockState) → held_count client (x ∷ xs) ≡ one (is_held client x) + held_count client xs
count_is client x xs = count_by-cons (is_held client) x xs

own_one : (client : ℕ) (x : BlockState) → Some x ≡ Some (Held client) → one (is_held client x) ≡ 1
own_one client x e = ap (λ (s : BlockState). one (is_held client s)) (state_is x (Held client) e) ∙ ap one (eq-eqb client client refl)

-- ---- one block

-- fewer are held below one that is held than are held
pub below_count : (client : ℕ) (states : List BlockState) (b : ℕ) → slice_get states b ≡ Some (Held client) → held_below client states b < held_count client states
below_count client [] b at = absurd (cc)
below_count client (x ∷ xs) zero at =
    let sum = count_is client x xs in
    let here = own_one client x at in
    omega (arith, sum, here)
below_count client (x ∷ xs) (suc b) at =
    let sum = count_is client x xs in
    let low = count_is client x (take b xs) in
    let rest = below_count client xs b at in
    omega (arith, sum, low, rest)

-- two blocks that are held, below which as many are, are one
pub same_block : (client : ℕ) (states : List BlockState) (a b : ℕ) → slice_get states a ≡ Some (Held client) → slice_get states b ≡ Some (Held client)
    → held_below client states a ≡ held_below client states b → a ≡ b
same_block client [] a b at_a at_b e = absurd (cc)
same_block client (x ∷ xs) zero zero at_a at_b e = refl
same_block client (x ∷ xs) zero (suc b) at_a at_b e =
    let low = count_is client x (take b xs) in
    let here = own_one client x at_a in
    absurd (omega (arith, low, here, e))
same_block client (x ∷ xs) (suc a) zero at_a at_b e =
    let low = count_is client x (take a xs) in
    let here = own_one client x at_b in
    absurd (omega (arith, low, here, e))
same_block client (x ∷ xs) (suc a) (suc b) at_a at_b e =
    let low_a = count_is client x (take a xs) in
    let low_b = count_is client x (take b xs) in
    ap suc (same_block client xs a b at_a at_b (omega (arith, low_a, low_b, e)))

-- the block of each number below the count
abbrev pub HasBlock : ℕ → List BlockState → ℕ → Type 0
HasBlock client states k = (b : ℕ) × (slice_get states b ≡ Some (Held client)) × (held_below client states b ≡ k)

held_state : (client : ℕ) (x : BlockState) → is_held client x ≡ true → x ≡ Held client
held_state client Free h = absurd (true≢false (sym h))
held_state client (Held by) h = ap Held (eqb-true by client h)
held_state client Kept h = absurd (true≢false (sym h))

pub kth_block : (client : ℕ) (states : List BlockState) (k : ℕ) → k < held_count client states → HasBlock client states k
kth_block client [] k small = absurd (omega (arith, small))
kth_block client (x ∷ xs) k small = by (told (is_held client x)) (kth_block client xs) k small
  where
    by : (is_held client x ≡ true) ⊎ (is_held client x ≡ false) → ((m : ℕ) → m < held_count client xs → HasBlock client xs m)
        → (n : ℕ) → n < held_count client (x ∷ xs) → HasBlock client (x ∷ xs) n
    by (inl e) rest zero low = (0, ap Some (held_state client x e), refl)
    by (inl e) rest (suc n) low =
        let sum = count_is client x xs in
        let here : one (is_held client x) ≡ 1 = ap one e in
        let found = rest n (omega (arith, sum, here, low)) in
        let more = count_is client x (take found.0 xs) in
        let last = found.2 in
        let own : held_below client (x ∷ xs) (suc found.0) ≡ suc n = omega (arith, more, here, last) in
        (suc found.0, found.1, own)
    by (inr e) rest n low =
        let sum = count_is client x xs in
        let here : one (is_held client x) ≡ 0 = ap one e in
        let found = rest n (omega (arith, sum, here, low)) in
        let more = count_is client x (take found.0 xs) in
        let last = found.2 in
        let own : held_below client (x ∷ xs) (suc found.0) ≡ n = omega (arith, more, here, last) in
        (suc found.0, found.1, own)

-- ---- places

pub held_rest : (states : List BlockState) (client from : ℕ) (x : Placed) (placed : List Placed) → AreHeld states client from (x ∷ placed) → AreHeld states client (from + 1) placed
held_rest states client from x placed held k y at =
    let own = (held (suc k) y at).1 in
    ((held (suc k) y at).0, omega (arith, own))

-- so many are held where some are placed
pub held_room : (states : List BlockState) (client from : ℕ) (placed : List Placed) → AreHeld states client from placed → 0 < length placed
    → from + length placed ≤ held_count client states
held_room states client from [] held some = absurd (omega (arith, some))
held_room states client from (x ∷ []) held some =
    let own = (held 0 x refl).1 in
    let low = below_count client states x.block (held 0 x refl).0 in
    omega (arith, own, low)
held_room states client from (x ∷ y ∷ placed) held some =
    let rest = held_room states client (from + 1) (y ∷ placed) (held_rest states client from x (y ∷ placed) held) (omega arith) in
    omega (arith, rest)

-- the same paths in blocks from the same number on are the same places
pub same_places : (states : List BlockState) (client from : ℕ) (xs ys : List Placed) → paths_of xs ≡ paths_of ys → AreHeld states client from xs → AreHeld states client from ys → xs ≡ ys
same_places states client from [] [] paths held_x held_y = refl
same_places states client from [] (y ∷ ys) paths held_x held_y = absurd (none (ap length paths))
  where
    none : 0 ≡ suc (length (paths_of ys)) → ⊥
    none e = omega (arith, e)
same_places states client from (x ∷ xs) [] paths held_x held_y = absurd (none (ap length paths))
  where
    none : suc (length (paths_of xs)) ≡ 0 → ⊥
    none e = omega (arith, e)
same_places states client from (x ∷ xs) (y ∷ ys) paths held_x held_y =
    let path : x.path ≡ y.path = ap (λ (ps : List (List ℕ)). first ps x.path) paths in
    let rest_paths : paths_of xs ≡ paths_of ys = ap rest paths in
    let own_x = held_x 0 x refl in
    let own_y = held_y 0 y refl in
    let block : x.block ≡ y.block = same_block client states x.block y.block own_x.0 own_y.0 (own_x.1 ∙ sym own_y.1) in
    let others : xs ≡ ys = same_places states client (from + 1) xs ys rest_paths (held_rest states client from x xs held_x) (held_rest states client from y ys held_y) in
    λ i. record { path = path i; block = block i } ∷ others i
  where
    first : List (List ℕ) → List ℕ → List ℕ
    first [] q = q
    first (p ∷ ps) q = p

    rest : List (List ℕ) → List (List ℕ)
    rest [] = []
    rest (p ∷ ps) = ps

-- paths can be placed, where enough is held
pub place_all : (states : List BlockState) (client from : ℕ) (paths : List (List ℕ)) → from + length paths ≤ held_count client states
    → (placed : List Placed) × (paths_of placed ≡ paths) × AreHeld states client from placed
place_all states client from [] room = ([], refl, λ k x at. absurd (cc at))
place_all states client from (p ∷ paths) room =
    let own = kth_block client states from (omega (arith, room)) in
    let rest = place_all states client (from + 1) paths (omega (arith, room)) in
    (record { path = p; block = own.0 } ∷ rest.0, ap (λ (ps : List (List ℕ)). p ∷ ps) rest.1, each own rest.0 rest.2)
  where
    each : (own : HasBlock client states from) (placed : List Placed) → AreHeld states client (from + 1) placed
        → AreHeld states client from (record { path = p; block = own.0 } ∷ placed)
    each own placed held zero x at =
        let is : record { path = p; block = own.0 } ≡ x = placed_is (record { path = p; block = own.0 }) x at in
        let F : Placed → Type 0 = λ y. (slice_get states y.block ≡ Some (Held client)) × (held_below client states y.block ≡ from + 0) in
        let last = own.2 in
        let place : held_below client states own.0 ≡ from + 0 = omega (arith, last) in
        subst F is (own.1, place)
    each own placed held (suc k) x at =
        let found = held k x at in
        let last = found.1 in
        (found.0, omega (arith, last))
