-- A commit is ready for its next block: as it stands, after one block more, and behind a file that is over.
use Rattle.std.proofs.Common.{◌≡◌, ℕ, suc, ◌+◌, ◌<◌, ◌≤◌, List, [], ◌∷◌, ◌++◌, map, drop, length, refl, sym, ap, subst, ◌∙◌, Option, Some, None, MatchOption, option_map, arith, slice_get}
use Rattle.std.specs.Prelude.{slice_index}
use Rattle.std.specs.Option.{option_map_or}
use Rattle.std.specs.List.{AllByRecursion}
use Rattle.block_map.specs.States.{held_count}
use Rattle.block_map.specs.declared.states.BlockState.{BlockState}
use Rattle.page_codec.specs.Values.{MemberValue}
use Rattle.draft_model.specs.Flush.{Placed, IsPlaced}
use Rattle.version_chain.specs.Flush.{Plan, AreHeld, StartsAtRoot, paths_of}
use Rattle.pool_draft.specs.declared.pool_set.PoolSet.{PoolSet}
use Rattle.pool_draft.specs.Sets.{view_at}
use Rattle.joint_flush.specs.Joint.{Joint, Part, paths_at, pages_in, IsReadyNumber, IsPart, AreHeldInTurn, AreParts, IsJoint, HasCome, top_of, current_of, AreHeldBlocks, IsReadyJoint, IsPlanned, IsNextPlan, IsOver, IsMoved}
use Rattle.joint_flush.proofs.Blocks.{held_room}
use Rattle.joint_flush.proofs.Lists.{number_of, number_at, each_at, get_behind, drop_behind, drop_at}
use Rattle.joint_flush.proofs.Coming.{come_current, come_top, held_behind}

-- ---- one part

pub part_with : (set : PoolSet) (number : ℕ) (old new : Plan) → new.placed ≡ old.placed → IsPart set (record { number = number; plan = old }) → IsPart set (record { number = number; plan = new })
part_with set number old new same is = record {
  number = is.number;
  paths = ap paths_of same ∙ is.paths;
  placed = subst (λ (placed : List Placed). IsPlaced (view_at set number) placed) (sym same) is.placed;
  starts = subst StartsAtRoot (sym same) is.starts;
}

-- it has as many places as pages are written
count_paths : (placed : List Placed) → length (paths_of placed) ≡ length placed
count_paths [] = refl
count_paths (x ∷ placed) = ap suc (count_paths placed)

pub part_size : (set : PoolSet) (part : Part) → IsPart set part → length part.plan.placed ≡ length (paths_at set part.number)
part_size set part is = sym (count_paths part.plan.placed) ∙ ap length is.paths

some_places : (placed : List Placed) → StartsAtRoot placed → 0 < length placed
some_places [] starts = absurd (cc starts.1)
some_places (x ∷ placed) starts = omega arith

pub part_some : (set : PoolSet) (part : Part) → IsPart set part → 0 < length part.plan.placed
part_some set part is = some_places part.plan.placed is.starts

pub blocks_held : (states : List BlockState) (client from : ℕ) (placed : List Placed) → AreHeld states client from placed → AreHeldBlocks states client placed
blocks_held states client from placed held k x at = (held k x at).0

-- ---- one block more

abbrev pub with_plan : Joint → Plan → Joint
with_plan j plan = record { numbers = j.numbers; members = j.members; from = j.from; flush = plan }

pub ready_plan : (set : PoolSet) (states : List BlockState) (client : ℕ) (j : Joint) (plan : Plan) → plan.placed ≡ j.flush.placed → IsReadyJoint set states client j
    → IsReadyJoint set states client (with_plan j plan)
ready_plan set states client j plan same is = record {
  numbers = is.numbers;
  part = part_with set (current_of j) j.flush plan same is.part;
  held = subst (AreHeldBlocks states client) (sym same) is.held;
  room = is.room;
  top_room = is.top_room;
}

-- ---- the next file

-- what is known of the flush that is planned next
pub record IsFresh (set : PoolSet) (states : List BlockState) (client : ℕ) (number : ℕ) (plan : Plan) : Type 0 where
  pub part : IsPart set (record { number = number; plan = plan })
  pub held : AreHeldBlocks states client plan.placed

next_fresh : (set : PoolSet) (states : List BlockState) (client : ℕ) (numbers : List ℕ) (members : List MemberValue) (from : ℕ) (plan : Plan) → IsNextPlan set states client numbers members from plan
    → IsFresh set states client (option_map_or (λ n. n) (slice_get numbers (length members + 1)) (slice_index numbers 0)) plan
next_fresh set states client numbers members from plan = by (slice_get numbers (length members + 1))
  where
    by : (o : Option ℕ) → MatchOption o (IsPlanned set states client 0 members (slice_index numbers 0) plan) (λ number. IsPlanned set states client from [] number plan)
        → IsFresh set states client (option_map_or (λ n. n) o (slice_index numbers 0)) plan
    by None planned = record { part = planned.part; held = blocks_held states client 0 plan.placed planned.held }
    by (Some number) planned = record { part = planned.part; held = blocks_held states client from plan.placed planned.held }

pub count_more : (ms : List MemberValue) (m : MemberValue) → length (ms ++ m ∷ []) ≡ length ms + 1
count_more [] m = refl
count_more (n ∷ ms) m = (let rest = count_more ms m in omega (arith, rest))

-- the pages of the file that is over were counted
pub room_moved : (set : PoolSet) (numbers : List ℕ) (k from size most : ℕ) (other : ℕ) → k < length numbers → size ≡ length (paths_at set (option_map_or (λ n. n) (slice_get numbers k) other))
    → from + pages_in set (drop k numbers) ≤ most → (from + size) + pages_in set (drop (k + 1) numbers) ≤ most
room_moved set numbers k from size most other within own room =
    let rest = drop_at numbers k within in
    let pages : pages_in set (drop k numbers) ≡ length (paths_at set rest.0) + pages_in set (drop (k + 1) numbers) = ap (pages_in set) rest.2 in
    let here : size ≡ length (paths_at set rest.0) = own ∙ ap (λ (o : Option ℕ). length (paths_at set (option_map_or (λ n. n) o other))) rest.1 in
    omega (arith, pages, here, room)

pub ready_moved : (set : PoolSet) (states : List BlockState) (client : ℕ) (old new : Joint) → IsReadyJoint set states client old → IsOver old → IsMoved set states client old new
    → IsReadyJoint set states client new
ready_moved set states client old new is over moved =
    let next = next_fresh set states client new.numbers new.members new.from new.flush moved.next in
    let count : length new.members ≡ length old.members + 1 = ap length moved.members ∙ count_more old.members moved.member in
    let size = part_size set (record { number = current_of old; plan = old.flush }) is.part in
    let room = room_moved set old.numbers (length old.members + 1) old.from (length old.flush.placed) (held_count client states) (top_of old) over.0 size is.room in
    record {
      numbers = subst (AllByRecursion (IsReadyNumber set)) (sym moved.numbers) is.numbers;
      part = next.part;
      held = next.held;
      room =
          let from = moved.from in
          let pages : pages_in set (drop (length new.members + 1) new.numbers) ≡ pages_in set (drop (length old.members + 1 + 1) old.numbers) =
          (λ i. pages_in set (drop (count i + 1) (moved.numbers i))) in
          omega (arith, from, pages, room);
      top_room = subst (λ (numbers : List ℕ). length (paths_at set (slice_index numbers 0)) ≤ held_count client states) (sym moved.numbers) is.top_room;
    }

-- ---- the parts

-- what is held is enough for these parts
turn_room : (set : PoolSet) (states : List BlockState) (client from : ℕ) (ps : List Part) → AllByRecursion (IsPart set) ps → AreHeldInTurn states client from ps → from ≤ held_count client states
    → from + pages_in set (map number_of ps) ≤ held_count client states
turn_room set states client from [] each held room = omega (arith, room)
turn_room set states client from (p ∷ ps) each held room =
    let here = held_room states client from p.plan.placed held.0 (part_some set p each.0) in
    let rest = turn_room set states client (from + length p.plan.placed) ps each.1 held.1 here in
    let size = part_size set p each.0 in
    omega (arith, rest, size)

come_room : (set : PoolSet) (states : List BlockState) (client : ℕ) (j : Joint) (top : Part) (from : ℕ) (ms : List MemberValue) (ps : List Part) → HasCome set j top from ms ps
    → AllByRecursion (IsPart set) ps → AreHeldInTurn states client from ps → from ≤ held_count client states
    → j.from + pages_in set (drop (length ms) (map number_of ps)) ≤ held_count client states
come_room set states client j top from [] [] come each held room = (let is = come.0 in omega (arith, is, room))
come_room set states client j top from [] (p ∷ ps) come each held room =
    let is = come.place in
    let all = turn_room set states client from (p ∷ ps) each held room in
    omega (arith, is, all)
come_room set states client j top from (m ∷ ms) [] come each held room = absurd come
come_room set states client j top from (m ∷ ms) (p ∷ ps) come each held room =
    come_room set states client j top (from + length p.plan.placed) ms ps come.2 each.1 held.1 (held_room states client from p.plan.placed held.0 (part_some set p each.0))

-- the number of the part that is being written
pub number_current : (j : Joint) (top : Part) (behind : List Part) → map number_of (top ∷ behind) ≡ j.numbers
    → current_of j ≡ option_map_or number_of (slice_get behind (length j.members)) top.number
number_current j top behind numbers =
    sym (ap (λ (ns : List ℕ). option_map_or (λ n. n) (slice_get ns (length j.members + 1)) (slice_index ns 0)) numbers)
    ∙ ap (λ (o : Option ℕ). option_map_or (λ n. n) o top.number) (get_behind top.number (map number_of behind) (length j.members) ∙ number_at behind (length j.members))
    ∙ both (slice_get behind (length j.members))
  where
    both : (o : Option Part) → option_map_or (λ n. n) (option_map number_of o) top.number ≡ option_map_or number_of o top.number
    both None = refl
    both (Some part) = refl

-- the flush under way is that part's
current_fresh : (set : PoolSet) (states : List BlockState) (client : ℕ) (j : Joint) (top : Part) (behind : List Part) → AreParts set states client j top behind
    → IsFresh set states client (option_map_or number_of (slice_get behind (length j.members)) top.number) j.flush
current_fresh set states client j top behind are = by (slice_get behind (length j.members)) refl
  where
    by : (o : Option Part) → slice_get behind (length j.members) ≡ o → IsFresh set states client (option_map_or number_of o top.number) j.flush
    by None at =
        let flush = (come_top set j top (length top.plan.placed) j.members behind are.come at).0 in
        record {
          part = part_with set top.number top.plan j.flush (ap (λ (plan : Plan). plan.placed) flush) are.each.0;
          held = subst (λ (plan : Plan). AreHeldBlocks states client plan.placed) (sym flush) (blocks_held states client 0 top.plan.placed are.held.0);
        }
    by (Some part) at =
        let current = come_current set states client j top (length top.plan.placed) j.members behind part are.come (held_behind states client top behind are.held) at in
        record {
          part = part_with set part.number part.plan j.flush (ap (λ (plan : Plan). plan.placed) current.flush) (each_at (IsPart set) behind (length j.members) part are.each.1 at);
          held = subst (λ (plan : Plan). AreHeldBlocks states client plan.placed) (sym current.flush) (blocks_held states client j.from part.plan.placed current.held);
        }

ready_parts : (set : PoolSet) (states : List BlockState) (client : ℕ) (j : Joint) (top : Part) (behind : List Part) → AllByRecursion (IsReadyNumber set) j.numbers
    → AreParts set states client j top behind → IsReadyJoint set states client j
ready_parts set states client j top behind numbers are =
    let current = current_fresh set states client j top behind are in
    let top_held = held_room states client 0 top.plan.placed are.held.0 (part_some set top are.each.0) in
    let size = part_size set top are.each.0 in
    let room = come_room set states client j top (length top.plan.placed) j.members behind are.come are.each.1 (held_behind states client top behind are.held) (omega (arith, top_held)) in
    let left : drop (length j.members + 1) j.numbers ≡ drop (length j.members) (map number_of behind) =
    sym (ap (λ (ns : List ℕ). drop (length j.members + 1) ns) are.numbers) ∙ drop_behind top.number (map number_of behind) (length j.members) in
    let pages : pages_in set (drop (length j.members + 1) j.numbers) ≡ pages_in set (drop (length j.members) (map number_of behind)) = ap (pages_in set) left in
    record {
      numbers = numbers;
      part = subst (λ (n : ℕ). IsPart set (record { number = n; plan = j.flush })) (sym (number_current j top behind are.numbers)) current.part;
      held = current.held;
      room = omega (arith, room, pages);
      top_room = subst (λ (ns : List ℕ). length (paths_at set (slice_index ns 0)) ≤ held_count client states) are.numbers (omega (arith, top_held, size));
    }

pub joint_ready : (set : PoolSet) (states : List BlockState) (client : ℕ) (j : Joint) (parts : List Part) → AllByRecursion (IsReadyNumber set) j.numbers
    → IsJoint set states client j parts → IsReadyJoint set states client j
joint_ready set states client j [] numbers is = absurd is
joint_ready set states client j (top ∷ behind) numbers is = ready_parts set states client j top behind numbers is
