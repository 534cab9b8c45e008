-- What stays of a commit where the drafts are the same, and the client holds the same blocks.
use Rattle.std.proofs.Common.{◌≡◌, ℕ, ◌+◌, ◌<◌, ◌^◌, List, [], ◌∷◌, drop, length, refl, sym, ap, subst, ◌∙◌, Option, arith, slice_get, suc, zero}
use Rattle.std.specs.Prelude.{slice_index}
use Rattle.std.specs.Option.{option_map_or}
use Rattle.std.specs.List.{AllByRecursion}
use Rattle.block_map.specs.declared.states.BlockState.{BlockState}
use Rattle.block_map.specs.declared.states.BlockState.TheVariants.{Held}
use Rattle.page_codec.specs.Values.{MemberValue}
use Rattle.draft_model.specs.Views.{View}
use Rattle.draft_model.specs.Flush.{Placed, IsPlaced}
use Rattle.pool_draft.specs.declared.base.Base.{Base}
use Rattle.pool_draft.specs.declared.pool_set.PoolSet.{PoolSet}
use Rattle.pool_draft.specs.Roots.{object_in, serial_in}
use Rattle.pool_draft.specs.Sets.{AreSameDrafts, base_at, roots_of}
use Rattle.joint_flush.specs.Joint.{Joint, Part, paths_at, pages_in, IsReadyNumber, IsPart, AreHeldInTurn, IsNamed, AreNamed, HasCome, IsJoint, AreHeldBlocks, IsReadyJoint, top_of, current_of}
use Rattle.joint_flush.specs.Laws.{HoldsSame}
use Rattle.joint_flush.proofs.Fresh.{same_paths, same_roots}
use Rattle.joint_flush.proofs.HeldStays.{at_slice, held_stay, slice_at}
use Rattle.joint_flush.proofs.Lists.{each_map}

-- ---- the drafts

pub same_base : (old new : PoolSet) → AreSameDrafts old new → (number : ℕ) → base_at new number ≡ base_at old number
same_base old new same number = ap (λ (bases : List Base). slice_get bases number) same.bases

pub part_stays : (old new : PoolSet) → AreSameDrafts old new → (part : Part) → IsPart old part → IsPart new part
part_stays old new same part is =
    let roots = same_roots old new same in
    let within = is.number in
    record {
      number = omega (arith, roots, within);
      paths = is.paths ∙ sym (same_paths old new same part.number is.number);
      placed = subst (λ (d : View). IsPlaced d part.plan.placed) (sym (same.views part.number)) is.placed;
      starts = is.starts;
    }

named_stays : (old new : PoolSet) → AreSameDrafts old new → (m : MemberValue) (part : Part) → IsNamed old m part → IsNamed new m part
named_stays old new same m part named = (named.0 ∙ ap object_in (sym (same_base old new same part.number)), named.1)

all_named_stay : (old new : PoolSet) → AreSameDrafts old new → (ms : List MemberValue) (ps : List Part) → AreNamed old ms ps → AreNamed new ms ps
all_named_stay old new same [] [] named = tt
all_named_stay old new same [] (p ∷ ps) named = absurd named
all_named_stay old new same (m ∷ ms) [] named = absurd named
all_named_stay old new same (m ∷ ms) (p ∷ ps) named = (named_stays old new same m p named.0, all_named_stay old new same ms ps named.1)

come_stays : (old new : PoolSet) → AreSameDrafts old new → (j : Joint) (top : Part) (from : ℕ) (ms : List MemberValue) (ps : List Part) → HasCome old j top from ms ps → HasCome new j top from ms ps
come_stays old new same j top from [] [] come = come
come_stays old new same j top from [] (p ∷ ps) come = come
come_stays old new same j top from (m ∷ ms) [] come = absurd come
come_stays old new same j top from (m ∷ ms) (p ∷ ps) come =
    (come.0, named_stays old new same m p come.1, come_stays old new same j top (from + length p.plan.placed) ms ps come.2)

-- ---- the blocks

held_stays : (old new : List BlockState) (client : ℕ) → HoldsSame client old new → (from : ℕ) (ps : List Part) → AreHeldInTurn old client from ps → AreHeldInTurn new client from ps
held_stays old new client holds from [] held = tt
held_stays old new client holds from (p ∷ ps) held =
    (held_stay client from old new p.plan.placed holds.held holds.count held.0, held_stays old new client holds (from + length p.plan.placed) ps held.1)

pub joint_stays : (set set' : PoolSet) (old new : List BlockState) (client : ℕ) (j : Joint) (parts : List Part) → AreSameDrafts set set' → HoldsSame client old new
    → IsJoint set old client j parts → IsJoint set' new client j parts
joint_stays set set' old new client j [] same holds is = absurd is
joint_stays set set' old new client j (top ∷ behind) same holds is = record {
  numbers = is.numbers;
  each = each_map (IsPart set) (IsPart set') (top ∷ behind) (part_stays set set' same) is.each;
  held = held_stays old new client holds 0 (top ∷ behind) is.held;
  named = all_named_stay set set' same top.plan.members behind is.named;
  none = is.none;
  come = come_stays set set' same j top (length top.plan.placed) j.members behind is.come;
}

pub holds_itself : (client : ℕ) (states : List BlockState) → HoldsSame client states states
holds_itself client states = record { held = λ n at. at; count = refl }

-- ---- with no parts

number_stays : (old new : PoolSet) → AreSameDrafts old new → (number : ℕ) → IsReadyNumber old number → IsReadyNumber new number
number_stays old new same number is =
    let roots = same_roots old new same in
    let within = is.0 in
    (omega (arith, roots, within), subst (λ (o : Option Base). serial_in o + 1 < 2 ^ 64) (sym (same_base old new same number)) is.1)

pub numbers_stay : (old new : PoolSet) → AreSameDrafts old new → (numbers : List ℕ) → AllByRecursion (IsReadyNumber old) numbers → AllByRecursion (IsReadyNumber new) numbers
numbers_stay old new same [] are = tt
numbers_stay old new same (n ∷ numbers) are = (number_stays old new same n are.0, numbers_stay old new same numbers are.1)

pub pages_same : (old new : PoolSet) → AreSameDrafts old new → (numbers : List ℕ) → AllByRecursion (λ n. n < roots_of old) numbers → pages_in new numbers ≡ pages_in old numbers
pages_same old new same [] are = refl
pages_same old new same (n ∷ numbers) are =
    let here : length (paths_at new n) ≡ length (paths_at old n) = ap length (same_paths old new same n are.0) in
    let rest = pages_same old new same numbers are.1 in
    omega (arith, here, rest)

pub within_ready : (set : PoolSet) (numbers : List ℕ) → AllByRecursion (IsReadyNumber set) numbers → AllByRecursion (λ n. n < roots_of set) numbers
within_ready set [] are = tt
within_ready set (n ∷ numbers) are = (are.0.0, within_ready set numbers are.1)

pub within_drop : (P : ℕ → Type 0) (k : ℕ) (numbers : List ℕ) → AllByRecursion P numbers → AllByRecursion P (drop k numbers)
within_drop P zero numbers are = are
within_drop P (suc k) [] are = tt
within_drop P (suc k) (n ∷ numbers) are = within_drop P k numbers are.1

-- the top is a draft of the set
top_in : (roots : ℕ) (numbers : List ℕ) (k : ℕ) → AllByRecursion (λ n. n < roots) numbers → option_map_or (λ n. n) (slice_get numbers k) (slice_index numbers 0) < roots → slice_index numbers 0 < roots
top_in roots [] k are within = within
top_in roots (n ∷ numbers) k are within = are.0

pub top_within : (set : PoolSet) (states : List BlockState) (client : ℕ) (j : Joint) → IsReadyJoint set states client j → top_of j < roots_of set
top_within set states client j is = top_in (roots_of set) j.numbers (length j.members + 1) (within_ready set j.numbers is.numbers) is.part.number

blocks_stay : (old new : List BlockState) (client : ℕ) → HoldsSame client old new → (placed : List Placed) → AreHeldBlocks old client placed → AreHeldBlocks new client placed
blocks_stay old new client holds placed held k x at = slice_at new x.block client (holds.held x.block (at_slice old x.block (Held client) (held k x at)))

pub ready_stays : (set set' : PoolSet) (old new : List BlockState) (client : ℕ) (j : Joint) → AreSameDrafts set set' → HoldsSame client old new
    → IsReadyJoint set old client j → IsReadyJoint set' new client j
ready_stays set set' old new client j same holds is =
    let count = holds.count in
    let room = is.room in
    let top_room = is.top_room in
    let pages = pages_same set set' same (drop (length j.members + 1) j.numbers) (within_drop (λ n. n < roots_of set) (length j.members + 1) j.numbers (within_ready set j.numbers is.numbers)) in
    let top : length (paths_at set' (top_of j)) ≡ length (paths_at set (top_of j)) = ap length (same_paths set set' same (top_of j) (top_within set old client j is)) in
    record {
      numbers = numbers_stay set set' same j.numbers is.numbers;
      part = part_stays set set' same (record { number = current_of j; plan = j.flush }) is.part;
      held = blocks_stay old new client holds j.flush.placed is.held;
      room = omega (arith, room, pages, count);
      top_room = omega (arith, top_room, top, count);
    }
