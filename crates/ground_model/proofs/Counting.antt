-- A client that holds as many blocks as a flush has places holds those and no others.
use Rattle.std.proofs.Common.{◌≡◌, ℕ, zero, suc, ◌≤◌, ◌<◌, ◌&&◌, ◌||◌, Bool, true, false, not, nat_eq, List, [], ◌∷◌, length, Some, refl, sym, ap, ◌∙◌, arith, slice_get, true≢false, eq-eqb}
use Rattle.std.specs.Prelude.{slice_set}
use Rattle.block_map.specs.States.{state_at, is_held, held_count}
use Rattle.block_map.specs.declared.states.BlockState.{BlockState}
use Rattle.block_map.specs.declared.states.BlockState.TheVariants.{Free, Held, Kept}
use Rattle.block_map.proofs.Counting.{one}
use Rattle.block_map.proofs.Taking.{count-give}
use Rattle.draft_model.specs.Flush.{Placed, is_block_of, are_apart}
use Rattle.service_model.proofs.Journals.{set_other}
use Rattle.ground_model.proofs.HeldWrites.{past_end}

both : (a b : Bool) → (not a && b) ≡ true → (a ≡ false) × (b ≡ true)
both true b e = absurd (true≢false (sym e))
both false b e = (refl, e)

-- a place's block is that of some place
pub has_block : (placed : List Placed) (i : ℕ) (x : Placed) → slice_get placed i ≡ Some x → is_block_of placed x.block ≡ true
has_block [] i x e = absurd cc
has_block (y ∷ placed) zero x e =
    let same : y ≡ x = cc in
    ap (λ (z : Placed). is_block_of (y ∷ placed) z.block) (sym same) ∙ first (nat_eq y.block y.block) (eq-eqb y.block y.block refl)
  where
    first : (b : Bool) → b ≡ true → (b || is_block_of placed y.block) ≡ true
    first true e = refl
    first false e = absurd (true≢false (sym e))
has_block (y ∷ placed) (suc i) x e = later (nat_eq x.block y.block) (has_block placed i x e)
  where
    later : (b : Bool) → is_block_of placed x.block ≡ true → (b || is_block_of placed x.block) ≡ true
    later true e = refl
    later false e = e

-- it holds at least as many
pub held_many : (k : ℕ) (placed : List Placed) (xs : List BlockState) → are_apart placed ≡ true
    → ((i : ℕ) (x : Placed) → slice_get placed i ≡ Some x → state_at xs x.block ≡ Held k) → length placed ≤ held_count k xs
held_many k [] xs apart mine = omega arith
held_many k (x ∷ placed) xs apart mine =
    let rest = both (is_block_of placed x.block) (are_apart placed) apart in
    let here : state_at xs x.block ≡ Held k = mine 0 x refl in
    let less : x.block < length xs = past_end xs x.block k here in
    let fewer : length placed ≤ held_count k (slice_set xs x.block Free) =
    held_many k placed (slice_set xs x.block Free) rest.1
    (λ i y at. set_other xs x.block y.block Free Kept (λ e. true≢false (sym (ap (is_block_of placed) e ∙ has_block placed i y at) ∙ rest.0)) ∙ mine (suc i) y at) in
    let gave = count-give (is_held k) xs x.block Free less in
    let was : one (is_held k (state_at xs x.block)) ≡ 1 = ap (λ s. one (is_held k s)) here ∙ ap one (eq-eqb k k refl) in
    omega (arith, fewer, gave, was)

-- where it holds no more, every block that it holds is that of a place
pub held_is_placed : (k : ℕ) (placed : List Placed) (xs : List BlockState) → are_apart placed ≡ true
    → ((i : ℕ) (x : Placed) → slice_get placed i ≡ Some x → state_at xs x.block ≡ Held k) → held_count k xs ≡ length placed
    → (n : ℕ) → state_at xs n ≡ Held k → is_block_of placed n ≡ true
held_is_placed k placed xs apart mine count n held = by (is_block_of placed n) refl
  where
    by : (b : Bool) → is_block_of placed n ≡ b → is_block_of placed n ≡ true
    by true e = e
    by false e = absurd (let
        more : Placed = record { path = []; block = n } in
        let many : suc (length placed) ≤ held_count k xs =
        held_many k (more ∷ placed) xs (ap (λ b. not b && are_apart placed) e ∙ apart) all in
        omega (arith, many, count))
      where
        all : (i : ℕ) (x : Placed) → slice_get (record { path = []; block = n } ∷ placed) i ≡ Some x → state_at xs x.block ≡ Held k
        all zero x at = (let same : (let y : Placed = record { path = []; block = n } in y) ≡ x = cc in ap (λ (y : Placed). state_at xs y.block) (sym same) ∙ held)
        all (suc i) x at = mine i x at
