-- The parts of a commit as it is planned: of each number the pages that are written, in the blocks behind those of the numbers before it.
use Rattle.std.proofs.Common.{◌≡◌, ℕ, ◌+◌, ◌<◌, ◌≤◌, List, [], ◌∷◌, map, length, refl, sym, ap, subst, ◌∙◌, Some, MatchOption, arith, slice_get}
use Rattle.std.specs.Prelude.{slice_index}
use Rattle.std.specs.List.{AllByRecursion}
use Rattle.block_map.specs.States.{held_count}
use Rattle.block_map.specs.declared.states.BlockState.{BlockState}
use Rattle.page_codec.specs.Values.{MemberValue}
use Rattle.draft_model.specs.Flush.{Placed, block_of}
use Rattle.version_chain.specs.Flush.{Plan, AreHeld, StartsAtRoot}
use Rattle.version_chain.proofs.Writing.{top_block}
use Rattle.pool_draft.specs.declared.pool_set.PoolSet.{PoolSet}
use Rattle.pool_draft.specs.Roots.{object_in}
use Rattle.pool_draft.specs.Sets.{base_at, roots_of}
use Rattle.joint_flush.specs.Joint.{Joint, Part, paths_at, pages_in, IsPart, AreHeldInTurn, AreNamed, IsUnbegun, HasCome, IsJoint, IsPlanned, IsNextPlan}
use Rattle.joint_flush.proofs.Blocks.{place_all, same_places}
use Rattle.joint_flush.proofs.Fresh.{part_at}
use Rattle.joint_flush.proofs.Lists.{number_of}
use Rattle.joint_flush.proofs.Coming.{held_behind}
use Rattle.joint_flush.proofs.Readying.{part_size, part_some}
use Rattle.joint_flush.proofs.Stepping.{plan_same}

-- ---- one part

record IsLaidPart (set : PoolSet) (states : List BlockState) (client from number : ℕ) (named : List MemberValue) : Type 0 where
  plan : Plan
  planned : IsPlanned set states client from named number plan

lay_part : (set : PoolSet) (states : List BlockState) (client from number : ℕ) (named : List MemberValue) → number < roots_of set
    → from + length (paths_at set number) ≤ held_count client states → IsLaidPart set states client from number named
lay_part set states client from number named within room =
    let all = place_all states client from (paths_at set number) room in
    let plan : Plan = record { placed = all.0; members = named; written = 0 } in
    record {
      plan = plan;
      planned = record { part = part_at set number plan within all.1; held = all.2; members = refl; start = refl };
    }

-- ---- the parts behind the first

record AreLaid (set : PoolSet) (states : List BlockState) (client from : ℕ) (numbers : List ℕ) : Type 0 where
  parts : List Part
  numbers_are : map number_of parts ≡ numbers
  each : AllByRecursion (IsPart set) parts
  held : AreHeldInTurn states client from parts
  none : AllByRecursion (λ (part : Part). part.plan.members ≡ []) parts
  unbegun : AllByRecursion IsUnbegun parts

lay_behind : (set : PoolSet) (states : List BlockState) (client from : ℕ) (numbers : List ℕ) → AllByRecursion (λ n. n < roots_of set) numbers
    → from + pages_in set numbers ≤ held_count client states → AreLaid set states client from numbers
lay_behind set states client from [] within room = record { parts = []; numbers_are = refl; each = tt; held = tt; none = tt; unbegun = tt }
lay_behind set states client from (n ∷ numbers) within room =
    let one = lay_part set states client from n [] within.0 (omega (arith, room)) in
    let part : Part = record { number = n; plan = one.plan } in
    let size : length one.plan.placed ≡ length (paths_at set n) = part_size set part one.planned.part in
    let rest = lay_behind set states client (from + length one.plan.placed) numbers within.1 (omega (arith, room, size)) in
    record {
      parts = part ∷ rest.parts;
      numbers_are = ap (λ (ns : List ℕ). n ∷ ns) rest.numbers_are;
      each = (one.planned.part, rest.each);
      held = (one.planned.held, rest.held);
      none = (one.planned.members, rest.none);
      unbegun = (one.planned.start, rest.unbegun);
    }

-- their names
record AreListed (set : PoolSet) (parts : List Part) : Type 0 where
  members : List MemberValue
  named : AreNamed set members parts

pub first_block : (placed : List Placed) (is : StartsAtRoot placed) → block_of placed [] ≡ Some is.0
first_block placed is = top_block placed (record { path = []; block = is.0 }) is is.1

list_parts : (set : PoolSet) (parts : List Part) → AllByRecursion (IsPart set) parts → AreListed set parts
list_parts set [] each = record { members = []; named = tt }
list_parts set (p ∷ parts) each =
    let rest = list_parts set parts each.1 in
    record {
      members = record { object = object_in (base_at set p.number); block = each.0.starts.0 } ∷ rest.members;
      named = ((refl, first_block p.plan.placed each.0.starts), rest.named);
    }

-- ---- all parts

-- the first flush is that of the first part behind the top, or of the top
first_plan : (set : PoolSet) (states : List BlockState) (client : ℕ) (j : Joint) (top : Part) (behind : List Part) → map number_of (top ∷ behind) ≡ j.numbers
    → AllByRecursion (IsPart set) (top ∷ behind) → AreHeldInTurn states client 0 (top ∷ behind) → AllByRecursion IsUnbegun (top ∷ behind)
    → AllByRecursion (λ (part : Part). part.plan.members ≡ []) behind → AreNamed set top.plan.members behind
    → j.from ≡ length top.plan.placed → IsNextPlan set states client j.numbers [] j.from j.flush
    → HasCome set j top (length top.plan.placed) [] behind
first_plan set states client j top [] numbers each held unbegun none named from next = (from, flush (subst F (sym numbers) next))
  where
    F : List ℕ → Type 0
    F ns = MatchOption (slice_get ns 1) (IsPlanned set states client 0 [] (slice_index ns 0) j.flush) (λ number. IsPlanned set states client j.from [] number j.flush)

    no_members : (ms : List MemberValue) → AreNamed set ms [] → [] ≡ ms
    no_members [] all = refl
    no_members (m ∷ ms) all = absurd all

    flush : IsPlanned set states client 0 [] top.number j.flush → j.flush ≡ top.plan
    flush planned =
        plan_same j.flush top.plan
        (same_places states client 0 j.flush.placed top.plan.placed (planned.part.paths ∙ sym each.0.paths) planned.held held.0)
        (planned.members ∙ no_members top.plan.members named)
        (planned.start ∙ sym unbegun.0)
first_plan set states client j top (p ∷ behind) numbers each held unbegun none named from next =
    let flush = flush_of (subst F (sym numbers) next) in
    let some = part_some set p each.1.0 in
    let waits = unbegun.1.0 in
    record {
      place = from;
      flush = flush;
      left = omega (arith, some, waits);
      wait = (unbegun.0, unbegun.1.1);
    }
  where
    F : List ℕ → Type 0
    F ns = MatchOption (slice_get ns 1) (IsPlanned set states client 0 [] (slice_index ns 0) j.flush) (λ number. IsPlanned set states client j.from [] number j.flush)

    flush_of : IsPlanned set states client j.from [] p.number j.flush → j.flush ≡ p.plan
    flush_of planned =
        plan_same j.flush p.plan
        (same_places states client j.from j.flush.placed p.plan.placed (planned.part.paths ∙ sym each.1.0.paths) planned.held
        (subst (λ (n : ℕ). AreHeld states client n p.plan.placed) (sym from) (held_behind states client top (p ∷ behind) held).0))
        (planned.members ∙ sym none.0)
        (planned.start ∙ sym unbegun.1.0)

-- a commit as it is planned has parts, none of which is begun
pub lay : (set : PoolSet) (states : List BlockState) (client : ℕ) (j : Joint) (n : ℕ) (numbers : List ℕ) → n ∷ numbers ≡ j.numbers → j.members ≡ []
    → AllByRecursion (λ k. k < roots_of set) (n ∷ numbers) → pages_in set (n ∷ numbers) ≤ held_count client states
    → j.from ≡ length (paths_at set n) → IsNextPlan set states client j.numbers [] j.from j.flush
    → (parts : List Part) × IsJoint set states client j parts × AllByRecursion IsUnbegun parts
lay set states client j n numbers numbers_are members within room from next =
    let behind = lay_behind set states client (length (paths_at set n)) numbers within.1 (omega (arith, room)) in
    let listed = list_parts set behind.parts behind.each in
    let top = lay_part set states client 0 n listed.members within.0 (omega (arith, room)) in
    let part : Part = record { number = n; plan = top.plan } in
    let size : length top.plan.placed ≡ length (paths_at set n) = part_size set part top.planned.part in
    let held : AreHeldInTurn states client 0 (part ∷ behind.parts) = (top.planned.held, subst (λ (k : ℕ). AreHeldInTurn states client k behind.parts) (sym size ∙ zero_more (length top.plan.placed)) behind.held) in
    let each : AllByRecursion (IsPart set) (part ∷ behind.parts) = (top.planned.part, behind.each) in
    let unbegun : AllByRecursion IsUnbegun (part ∷ behind.parts) = (top.planned.start, behind.unbegun) in
    let all : map number_of (part ∷ behind.parts) ≡ j.numbers = ap (λ (ns : List ℕ). n ∷ ns) behind.numbers_are ∙ numbers_are in
    let named : AreNamed set top.plan.members behind.parts = subst (λ (ms : List MemberValue). AreNamed set ms behind.parts) (sym top.planned.members) listed.named in
    let come = first_plan set states client j part behind.parts all each held unbegun behind.none named (from ∙ sym size) next in (
      part ∷ behind.parts,
      record {
        numbers = all;
        each = each;
        held = held;
        named = named;
        none = behind.none;
        come = subst (λ (ms : List MemberValue). HasCome set j part (length top.plan.placed) ms behind.parts) (sym members) come;
      },
      unbegun,
    )
  where
    zero_more : (k : ℕ) → k ≡ 0 + k
    zero_more k = omega arith
