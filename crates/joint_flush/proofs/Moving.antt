-- What the calls of a commit of several files rest on: the blocks that it gives out are held, the drafts are those of the plan, and there is room.
use Rattle.std.proofs.Common.{◌≡◌, ◌≢◌, ℕ, zero, suc, ◌+◌, ◌<◌, ◌≤◌, List, [], ◌∷◌, ◌++◌, drop, length, inl, inr, refl, sym, ap, subst, ◌∙◌, Option, Some, arith, slice_get}
use Rattle.std.specs.Prelude.{slice_index}
use Rattle.std.specs.Option.{option_map_or}
use Rattle.std.specs.List.{AllByRecursion}
use Rattle.std.proofs.lemmas.List.Sums.{count_by-le-length}
use Rattle.block_map.specs.States.{held_count, is_held}
use Rattle.block_map.specs.declared.states.BlockState.{BlockState}
use Rattle.block_map.specs.declared.states.BlockState.TheVariants.{Held, Kept}
use Rattle.page_codec.specs.Values.{MemberValue}
use Rattle.page_codec.specs.Bounds.{IsSoundMember}
use Rattle.draft_model.specs.Views.{View}
use Rattle.draft_model.specs.Flush.{Placed, IsPlaced, block_of, in_turn}
use Rattle.version_chain.specs.Flush.{Plan, StartsAtRoot, GivesNext, base_of}
use Rattle.version_chain.proofs.Written.{get_more}
use Rattle.pool_draft.specs.declared.pool_set.PoolSet.{PoolSet}
use Rattle.pool_draft.specs.Roots.{root_in, object_in, serial_in}
use Rattle.pool_draft.specs.Sets.{AreSameDrafts, picked_of, view_at}
use Rattle.joint_flush.specs.Joint.{Joint, Part, base_in, paths_at, pages_in, IsReadyNumber, IsUnbegun, IsJoint, top_of, current_of, AreHeldBlocks, IsReadyJoint, IsNextPlan, IsOver, MovesOn}
use Rattle.joint_flush.proofs.Fresh.{same_paths}
use Rattle.joint_flush.proofs.Staying.{holds_itself, joint_stays, numbers_stay, pages_same, ready_stays, same_base, within_ready}
use Rattle.joint_flush.proofs.Readying.{count_more, part_size, ready_moved, ready_plan, room_moved, with_plan}
use Rattle.joint_flush.proofs.Stepping.{gives_as}
use Rattle.joint_flush.proofs.Laying.{first_block, lay}

-- ---- blocks that are held

pub held_within : (states : List BlockState) (b : ℕ) (s : BlockState) → slice_get states b ≡ Some s → b < length states
held_within [] b s at = absurd (cc)
held_within (x ∷ states) zero s at = omega arith
held_within (x ∷ states) (suc b) s at = (let rest = held_within states b s at in omega (arith, rest))

some_block : (a b : ℕ) → Some a ≡ Some b → a ≡ b
some_block a b e = cc e

state_is : (x y : BlockState) → Some x ≡ Some y → x ≡ y
state_is x y e = ap (λ (o : Option BlockState). option_map_or (λ (z : BlockState). z) o x) e

-- the block of `/`
pub top_held : (states : List BlockState) (client : ℕ) (placed : List Placed) (block : ℕ) → StartsAtRoot placed → AreHeldBlocks states client placed → block_of placed [] ≡ Some block
    → slice_get states block ≡ Some (Held client)
top_held states client placed block starts held top =
    let is : starts.0 ≡ block = some_block starts.0 block (sym (first_block placed starts) ∙ top) in
    subst (λ (b : ℕ). slice_get states b ≡ Some (Held client)) is (held 0 (record { path = []; block = starts.0 }) starts.1)

-- the block whose turn it is
pub turn_held : (states : List BlockState) (client : ℕ) (placed : List Placed) (k : ℕ) (x : Placed) → AreHeldBlocks states client placed → slice_get (in_turn placed) k ≡ Some x
    → slice_get states x.block ≡ Some (Held client)
turn_held states client [] k x held at = absurd (cc at)
turn_held states client (y ∷ placed) k x held at = elim (get_more placed y k x at) [
  | inl e ↦ held (suc k) x e
  | inr e ↦ subst (λ (z : Placed). slice_get states z.block ≡ Some (Held client)) (sym e.1) (held 0 y refl)
]

-- it is not the table's
pub member_sound : (states : List BlockState) (client object block : ℕ) (state : BlockState) → slice_get states block ≡ Some (Held client) → slice_get states block ≡ Some state
    → (block ≡ 0 → state ≡ Kept) → 0 < object → IsSoundMember (record { object = object; block = block })
member_sound states client object block state held found table some = record {
  object = omega (arith, some);
  block =
      let off : block ≢ 0 = (λ e. clash (state_is (Held client) state (sym held ∙ found) ∙ table e)) in
      omega (arith, off);
}
  where
    clash : Held client ≡ Kept → ⊥
    clash e = cc e

-- ---- the next file

-- what the file that is over takes, and those behind it, is held
pub moved_room : (set : PoolSet) (states : List BlockState) (client : ℕ) (j : Joint) → IsReadyJoint set states client j → IsOver j
    → (j.from + length j.flush.placed) + pages_in set (drop (length j.members + 1 + 1) j.numbers) ≤ held_count client states
moved_room set states client j is over =
    room_moved set j.numbers (length j.members + 1) j.from (length j.flush.placed) (held_count client states) (top_of j) over.0
    (part_size set (record { number = current_of j; plan = j.flush }) is.part) is.room

pub held_few : (client : ℕ) (states : List BlockState) → held_count client states ≤ length states
held_few client states = count_by-le-length (is_held client) states

-- .. as the next plan asks for it
pub next_room : (set : PoolSet) (states : List BlockState) (client : ℕ) (j : Joint) (size : ℕ) (numbers : List ℕ) (members : List MemberValue) (m : MemberValue) → IsReadyJoint set states client j → IsOver j
    → size ≡ length j.flush.placed → numbers ≡ j.numbers → members ≡ j.members ++ m ∷ []
    → (j.from + size) + pages_in set (drop (length members + 1) numbers) ≤ held_count client states
next_room set states client j size numbers members m is over size_is numbers_are members_are =
    let room = moved_room set states client j is over in
    let count : length members ≡ length j.members + 1 = ap length members_are ∙ count_more j.members m in
    let pages : pages_in set (drop (length members + 1) numbers) ≡ pages_in set (drop (length j.members + 1 + 1) j.numbers) = (λ i. pages_in set (drop (count i + 1) (numbers_are i))) in
    omega (arith, room, pages, size_is)

-- ---- one block more

pub picked_view : (old mid : PoolSet) (j : Joint) → AreSameDrafts old mid → picked_of mid ≡ current_of j → view_at mid (picked_of mid) ≡ view_at old (current_of j)
picked_view old mid j same picked = ap (view_at mid) picked ∙ same.views (current_of j)

picked_base : (old mid : PoolSet) (j : Joint) → AreSameDrafts old mid → picked_of mid ≡ current_of j → base_in mid (picked_of mid) ≡ base_in old (current_of j)
picked_base old mid j same picked =
    ap (base_in mid) picked ∙ (λ i. base_of (root_in (same_base old mid same (current_of j) i)) (object_in (same_base old mid same (current_of j) i)) (serial_in (same_base old mid same (current_of j) i)))

pub picked_placed : (old mid : PoolSet) (states : List BlockState) (client : ℕ) (j : Joint) → AreSameDrafts old mid → picked_of mid ≡ current_of j → IsReadyJoint old states client j
    → IsPlaced (view_at mid (picked_of mid)) j.flush.placed
picked_placed old mid states client j same picked is = subst (λ (d : View). IsPlaced d j.flush.placed) (sym (picked_view old mid j same picked)) is.part.placed

pub picked_gives : (old mid : PoolSet) (j : Joint) (plan : Plan) (block : ℕ) (bytes : List ℕ) → AreSameDrafts old mid → picked_of mid ≡ current_of j
    → GivesNext (view_at mid (picked_of mid)) (base_in mid (picked_of mid)) j.flush plan block bytes
    → GivesNext (view_at old (current_of j)) (base_in old (current_of j)) j.flush plan block bytes
picked_gives old mid j plan block bytes same picked gives =
    gives_as _ _ _ _ _ _ _ _ block bytes (picked_view old mid j same picked) (picked_base old mid j same picked) refl refl gives

pub gives_now : (old mid : PoolSet) (was j : Joint) (plan : Plan) (block : ℕ) (bytes : List ℕ) → was ≡ j → AreSameDrafts old mid → picked_of mid ≡ current_of j
    → GivesNext (view_at mid (picked_of mid)) (base_in mid (picked_of mid)) was.flush plan block bytes
    → (x : Plan) × GivesNext (view_at old (current_of j)) (base_in old (current_of j)) j.flush x block bytes
gives_now old mid was j plan block bytes is same picked gives = (
  plan,
  picked_gives old mid j plan block bytes same picked
      (subst (λ (k : Joint). GivesNext (view_at mid (picked_of mid)) (base_in mid (picked_of mid)) k.flush plan block bytes) is gives),
)

-- it stays ready, with another plan of the same places
pub ready_next : (old mid : PoolSet) (states : List BlockState) (client : ℕ) (j : Joint) (plan : Plan) → AreSameDrafts old mid → plan.placed ≡ j.flush.placed → IsReadyJoint old states client j
    → IsReadyJoint mid states client (with_plan j plan)
ready_next old mid states client j plan same places is =
    ready_stays old mid states states client (with_plan j plan) same (holds_itself client states) (ready_plan old states client j plan places is)

pub ready_moves : (mid new : PoolSet) (states : List BlockState) (client : ℕ) (j after : Joint) → AreSameDrafts mid new → IsReadyJoint mid states client j → MovesOn mid states client j after
    → IsReadyJoint new states client after
ready_moves mid new states client j after same is (inl still) =
    ready_stays mid new states states client after same (holds_itself client states) (subst (IsReadyJoint mid states client) (sym still.1) is)
ready_moves mid new states client j after same is (inr over) =
    ready_stays mid new states states client after same (holds_itself client states) (ready_moved mid states client j after is over.0 over.1)

pub numbers_move : (set : PoolSet) (states : List BlockState) (client : ℕ) (j after : Joint) → MovesOn set states client j after → after.numbers ≡ j.numbers
numbers_move set states client j after (inl still) = ap (λ (k : Joint). k.numbers) still.1
numbers_move set states client j after (inr over) = over.1.numbers

-- ---- the plan

-- the room for the files behind the top, and for the top
pub first_room : (old mid : PoolSet) (numbers : List ℕ) (from most : ℕ) → 0 < length numbers → AreSameDrafts old mid → AllByRecursion (IsReadyNumber old) numbers
    → from ≡ length (paths_at old (slice_index numbers 0)) → pages_in old numbers ≤ most → from + pages_in mid (drop 1 numbers) ≤ most
first_room old mid [] from most some same ready is room = absurd (omega (arith, some))
first_room old mid (n ∷ numbers) from most some same ready is room =
    let pages = pages_same old mid same numbers (within_ready old numbers ready.1) in
    let here : from ≡ length (paths_at old n) = is in
    omega (arith, pages, here, room)

pub first_top_room : (old mid : PoolSet) (numbers : List ℕ) (most : ℕ) → 0 < length numbers → AreSameDrafts old mid → AllByRecursion (IsReadyNumber old) numbers
    → pages_in old numbers ≤ most → length (paths_at mid (slice_index numbers 0)) ≤ most
first_top_room old mid [] most some same ready room = absurd (omega (arith, some))
first_top_room old mid (n ∷ numbers) most some same ready room =
    let here : length (paths_at mid n) ≡ length (paths_at old n) = ap length (same_paths old mid same n ready.0.0) in
    omega (arith, here, room)

-- the numbers of the old set are those of the new one
pub ready_same : (old new : PoolSet) → AreSameDrafts old new → (numbers : List ℕ) → AllByRecursion (IsReadyNumber old) numbers → AllByRecursion (IsReadyNumber new) numbers
ready_same old new same numbers are = numbers_stay old new same numbers are

-- the plan has parts
pub plan_parts : (old mid new : PoolSet) (states : List BlockState) (client : ℕ) (j : Joint) → AreSameDrafts old mid → AreSameDrafts mid new → 0 < length j.numbers
    → AllByRecursion (IsReadyNumber old) j.numbers → pages_in old j.numbers ≤ held_count client states → j.from ≡ length (paths_at old (top_of j)) → j.members ≡ []
    → IsNextPlan mid states client j.numbers [] j.from j.flush
    → (parts : List Part) × IsJoint new states client j parts × AllByRecursion IsUnbegun parts
plan_parts old mid new states client j to_mid to_new some ready room from members next = by j.numbers refl some ready room from
  where
    by : (numbers : List ℕ) → numbers ≡ j.numbers → 0 < length numbers → AllByRecursion (IsReadyNumber old) numbers → pages_in old numbers ≤ held_count client states
        → j.from ≡ length (paths_at old (slice_index numbers 0)) → (parts : List Part) × IsJoint new states client j parts × AllByRecursion IsUnbegun parts
    by [] is more ready_all room_all own = absurd (omega (arith, more))
    by (n ∷ numbers) is more ready_all room_all own =
        let all = ready_same old mid to_mid (n ∷ numbers) ready_all in
        let pages = pages_same old mid to_mid (n ∷ numbers) (within_ready old (n ∷ numbers) ready_all) in
        let here : length (paths_at mid n) ≡ length (paths_at old n) = ap length (same_paths old mid to_mid n ready_all.0.0) in
        let laid = lay mid states client j n numbers is members (within_ready mid (n ∷ numbers) all) (omega (arith, pages, room_all)) (own ∙ sym here) next in
        (laid.0, joint_stays mid new states states client j laid.0 to_new (holds_itself client states) laid.1, laid.2)
