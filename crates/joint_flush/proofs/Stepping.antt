-- One block more of a commit: which part it is of, and what the parts are behind it.
use Rattle.std.proofs.Common.{◌≡◌, ◌≢◌, ℕ, suc, ◌+◌, List, [], ◌∷◌, ◌++◌, map, length, inl, inr, refl, sym, ap, subst, ◌∙◌, Option, Some, None, MatchOption, option_map, arith, slice_get, slice_set, add-one}
use Rattle.std.specs.Prelude.{slice_index}
use Rattle.std.specs.Option.{option_map_or}
use Rattle.std.specs.List.{AllByRecursion}
use Rattle.block_map.specs.declared.states.BlockState.{BlockState}
use Rattle.page_codec.specs.Values.{MemberValue}
use Rattle.draft_model.specs.Views.{View}
use Rattle.draft_model.specs.Flush.{block_of}
use Rattle.version_chain.specs.Flush.{Plan, Base, base_of, AreHeld, GivesNext}
use Rattle.pool_draft.specs.declared.pool_set.PoolSet.{PoolSet}
use Rattle.pool_draft.specs.Roots.{root_in, object_in, serial_in}
use Rattle.pool_draft.specs.Sets.{AreSameDrafts, base_at, picked_of, view_at}
use Rattle.joint_flush.specs.Joint.{Joint, Part, base_in, IsPart, IsNamed, AreNamed, IsWhole, HasCome, AreParts, IsJoint, GivesPart, current_of, IsPlanned, IsNextPlan, IsOver, IsMoved, MovesOn}
use Rattle.joint_flush.proofs.Blocks.{same_places}
use Rattle.joint_flush.proofs.Lists.{number_of, each_at, each_set, number_at, numbers_set, count_numbers, found_within, none_past, get_behind}
use Rattle.joint_flush.proofs.Coming.{more_plan, more, IsCurrent, come_current, come_next, come_named, come_top, named_same, top_more, part_more, ComesNext, part_over, held_behind, held_set, named_set}
use Rattle.joint_flush.proofs.Staying.{holds_itself, joint_stays, same_base}
use Rattle.joint_flush.proofs.Readying.{count_more, number_current, part_some, part_with, with_plan}

pub plan_same : (a b : Plan) → a.placed ≡ b.placed → a.members ≡ b.members → a.written ≡ b.written → a ≡ b
plan_same a b placed members written = λ i. record { placed = placed i; members = members i; written = written i }

pub part_more_is : (set : PoolSet) (part : Part) → IsPart set part → IsPart set (more part)
part_more_is set part is = part_with set part.number part.plan (more_plan part.plan) refl is

-- the parts behind one block more, of which part it is
pub record IsStepped (set : PoolSet) (states : List BlockState) (client : ℕ) (j new : Joint) (parts : List Part) : Type 0 where
  pub index : ℕ
  pub part : Part
  pub at : slice_get parts index ≡ Some part
  pub number : current_of j ≡ part.number
  pub flush : j.flush ≡ part.plan
  pub joint : IsJoint set states client new (slice_set parts index (more part))

-- ---- of the top

top_parts : (set : PoolSet) (states : List BlockState) (client : ℕ) (j : Joint) (top : Part) (behind : List Part) → AreParts set states client j top behind
    → slice_get behind (length j.members) ≡ None → AreParts set states client (with_plan j (more_plan j.flush)) (more top) behind
top_parts set states client j top behind are at =
    let flush = (come_top set j top (length top.plan.placed) j.members behind are.come at).0 in
    record {
      numbers = are.numbers;
      each = (part_more_is set top are.each.0, are.each.1);
      held = are.held;
      named = are.named;
      none = are.none;
      come = top_more set j (with_plan j (more_plan j.flush)) top (more top) (length top.plan.placed) j.members behind are.come at refl (ap more_plan flush);
    }

size_is : (j : Joint) (top : Part) (behind : List Part) → map number_of (top ∷ behind) ≡ j.numbers → length j.numbers ≡ suc (length behind)
size_is j top behind numbers = sym (ap length numbers) ∙ ap suc (count_numbers behind)

step_top : (set : PoolSet) (states : List BlockState) (client : ℕ) (j new : Joint) (top : Part) (behind : List Part) → AreParts set states client j top behind
    → slice_get behind (length j.members) ≡ None → MovesOn set states client (with_plan j (more_plan j.flush)) new → IsStepped set states client j new (top ∷ behind)
step_top set states client j new top behind are at (inl still) = record {
  index = 0;
  part = top;
  at = refl;
  number = number_current j top behind are.numbers ∙ ap (λ (o : Option Part). option_map_or number_of o top.number) at;
  flush = (come_top set j top (length top.plan.placed) j.members behind are.come at).0;
  joint = subst (λ (k : Joint). AreParts set states client k (more top) behind) (sym still.1) (top_parts set states client j top behind are at);
}
step_top set states client j new top behind are at (inr over) =
    let past = none_past behind (length j.members) at in
    let size = size_is j top behind are.numbers in
    let within = over.0.0 in
    absurd (omega (arith, past, size, within))

-- ---- of a part behind it

none_more : (parts : List Part) (k : ℕ) (part : Part) → slice_get parts k ≡ Some part → AllByRecursion (λ (x : Part). x.plan.members ≡ []) parts
    → AllByRecursion (λ (x : Part). x.plan.members ≡ []) (slice_set parts k (more part))
none_more parts k part at none = each_set (λ (x : Part). x.plan.members ≡ []) parts k (more part) none (each_at (λ (x : Part). x.plan.members ≡ []) parts k part none at)

-- the parts with one block more, as far as it has come
parts_set : (set : PoolSet) (states : List BlockState) (client : ℕ) (j new : Joint) (top : Part) (behind : List Part) (part : Part) → AreParts set states client j top behind
    → slice_get behind (length j.members) ≡ Some part → new.numbers ≡ j.numbers
    → HasCome set new top (length top.plan.placed) new.members (slice_set behind (length j.members) (more part))
    → AreParts set states client new top (slice_set behind (length j.members) (more part))
parts_set set states client j new top behind part are at same come =
    let k = length j.members in
    record {
      numbers = ap (λ (ns : List ℕ). top.number ∷ ns) (numbers_set behind k part (more part) at refl) ∙ are.numbers ∙ sym same;
      each = (are.each.0, each_set (IsPart set) behind k (more part) are.each.1 (part_more_is set part (each_at (IsPart set) behind k part are.each.1 at)));
      held = (are.held.0, held_set states client (0 + length top.plan.placed) behind k part at are.held.1);
      named = named_set set top.plan.members behind k part at are.named;
      none = none_more behind k part at are.none;
      come = come;
    }

-- the plan of the next file
next_at : (set : PoolSet) (states : List BlockState) (client : ℕ) (j new : Joint) (top : Part) (behind : List Part) (m : MemberValue) → map number_of (top ∷ behind) ≡ j.numbers
    → new.numbers ≡ j.numbers → new.members ≡ j.members ++ m ∷ [] → IsNextPlan set states client new.numbers new.members new.from new.flush
    → MatchOption (option_map number_of (slice_get behind (suc (length j.members)))) (IsPlanned set states client 0 new.members top.number new.flush)
    (λ number. IsPlanned set states client new.from [] number new.flush)
next_at set states client j new top behind m numbers same members next =
    let all : new.numbers ≡ map number_of (top ∷ behind) = same ∙ sym numbers in
    let count : length new.members ≡ suc (length j.members) = ap length members ∙ count_more j.members m ∙ add-one (length j.members) in
    let found : slice_get new.numbers (length new.members + 1) ≡ option_map number_of (slice_get behind (suc (length j.members))) =
    (λ i. slice_get (all i) (count i + 1)) ∙ get_behind top.number (map number_of behind) (suc (length j.members)) ∙ number_at behind (suc (length j.members)) in
    let first : slice_index new.numbers 0 ≡ top.number = ap (λ (ns : List ℕ). slice_index ns 0) all in
    subst (λ (n : ℕ). MatchOption (option_map number_of (slice_get behind (suc (length j.members)))) (IsPlanned set states client 0 new.members n new.flush) (λ number. IsPlanned set states client new.from [] number new.flush)) first
    (subst (λ (o : Option ℕ). MatchOption o (IsPlanned set states client 0 new.members (slice_index new.numbers 0) new.flush) (λ number. IsPlanned set states client new.from [] number new.flush)) found next)

-- the part that is over, with its member
over_named : (set : PoolSet) (j : Joint) (m : MemberValue) (part : Part) → current_of j ≡ part.number → j.flush ≡ part.plan
    → IsNamed set m (record { number = current_of j; plan = j.flush }) → IsNamed set m part
over_named set j m part number flush named =
    let F : ℕ → Plan → Type 0 = λ n plan. (m.object ≡ object_in (base_at set n)) × (block_of plan.placed [] ≡ Some m.block) in
    subst (λ (n : ℕ). F n part.plan) number (subst (λ (plan : Plan). F (current_of j) plan) flush named)

-- which is that of the part behind it, or else of the top
comes_next : (set : PoolSet) (states : List BlockState) (client : ℕ) (j new : Joint) (top : Part) (behind : List Part) (part : Part) (m : MemberValue)
    → AreParts set states client j top behind → slice_get behind (length j.members) ≡ Some part → IsCurrent states client j top part
    → new.numbers ≡ j.numbers → new.members ≡ j.members ++ m ∷ [] → IsNamed set m part → new.from ≡ j.from + length part.plan.placed
    → IsNextPlan set states client new.numbers new.members new.from new.flush
    → ComesNext new.flush top (slice_get behind (suc (length j.members)))
comes_next set states client j new top behind part m are at current same members named from next =
    by (slice_get behind (suc (length j.members))) refl (next_at set states client j new top behind m are.numbers same members next)
  where
    by : (o : Option Part) → slice_get behind (suc (length j.members)) ≡ o
        → MatchOption (option_map number_of o) (IsPlanned set states client 0 new.members top.number new.flush) (λ number. IsPlanned set states client new.from [] number new.flush)
        → ComesNext new.flush top o
    by None last planned =
        let all : AreNamed set (j.members ++ m ∷ []) behind = come_named set j top (length top.plan.placed) j.members behind part m are.come at last named in
        plan_same new.flush top.plan
        (same_places states client 0 new.flush.placed top.plan.placed (planned.part.paths ∙ sym are.each.0.paths) planned.held are.held.0)
        (planned.members ∙ members ∙ named_same set (j.members ++ m ∷ []) top.plan.members behind all are.named)
        (planned.start ∙ sym current.top_waits)
    by (Some behind_it) there planned =
        let coming = come_next set states client j top (length top.plan.placed) j.members behind part behind_it are.come (held_behind states client top behind are.held) at there in
        let is = each_at (IsPart set) behind (suc (length j.members)) behind_it are.each.1 there in
        let none = each_at (λ (x : Part). x.plan.members ≡ []) behind (suc (length j.members)) behind_it are.none there in
        let some = part_some set behind_it is in
        let waits = coming.waits in (
          plan_same new.flush behind_it.plan
              (same_places states client new.from new.flush.placed behind_it.plan.placed (planned.part.paths ∙ sym is.paths) planned.held
              (subst (λ (n : ℕ). AreHeld states client n behind_it.plan.placed) (sym from) coming.held))
              (planned.members ∙ sym none)
              (planned.start ∙ sym waits),
          omega (arith, waits, some),
        )

step_still : (set : PoolSet) (states : List BlockState) (client : ℕ) (j : Joint) (top : Part) (behind : List Part) (part : Part) → AreParts set states client j top behind
    → slice_get behind (length j.members) ≡ Some part → IsCurrent states client j top part → (IsOver (with_plan j (more_plan j.flush)) → ⊥)
    → AreParts set states client (with_plan j (more_plan j.flush)) top (slice_set behind (length j.members) (more part))
step_still set states client j top behind part are at current not_over =
    let within = found_within behind (length j.members) part at in
    let size = size_is j top behind are.numbers in
    let off : j.flush.written + 1 ≢ length j.flush.placed = (λ e. not_over (omega (arith, within, size), e)) in
    let written : j.flush.written ≡ part.plan.written = ap (λ (plan : Plan). plan.written) current.flush in
    let places : length j.flush.placed ≡ length part.plan.placed = ap (λ (plan : Plan). length plan.placed) current.flush in
    let left = current.left in
    parts_set set states client j (with_plan j (more_plan j.flush)) top behind part are at refl
    (part_more set j (with_plan j (more_plan j.flush)) top (length top.plan.placed) j.members behind part are.come at refl (ap more_plan current.flush) (omega (arith, off, written, places, left)))

step_over : (set : PoolSet) (states : List BlockState) (client : ℕ) (j new : Joint) (top : Part) (behind : List Part) (part : Part) → AreParts set states client j top behind
    → slice_get behind (length j.members) ≡ Some part → current_of j ≡ part.number → IsCurrent states client j top part
    → IsOver (with_plan j (more_plan j.flush)) → IsMoved set states client (with_plan j (more_plan j.flush)) new
    → AreParts set states client new top (slice_set behind (length j.members) (more part))
step_over set states client j new top behind part are at number current over moved =
    let m = moved.member in
    let named : IsNamed set m part = over_named set j m part number current.flush moved.named in
    let places : length j.flush.placed ≡ length part.plan.placed = ap (λ (plan : Plan). length plan.placed) current.flush in
    let from : new.from ≡ j.from + length part.plan.placed = moved.from ∙ ap (λ (n : ℕ). j.from + n) places in
    let whole : part.plan.written + 1 ≡ length part.plan.placed = ap (λ (plan : Plan). plan.written + 1) (sym current.flush) ∙ over.1 ∙ places in
    let next = comes_next set states client j new top behind part m are at current moved.numbers moved.members named from moved.next in
    let come = part_over set j new top (length top.plan.placed) j.members behind part m are.come at from whole named next in
    parts_set set states client j new top behind part are at moved.numbers
    (subst (λ (ms : List MemberValue). HasCome set new top (length top.plan.placed) ms (slice_set behind (length j.members) (more part))) (sym moved.members) come)

step_behind : (set : PoolSet) (states : List BlockState) (client : ℕ) (j new : Joint) (top : Part) (behind : List Part) (part : Part) → AreParts set states client j top behind
    → slice_get behind (length j.members) ≡ Some part → MovesOn set states client (with_plan j (more_plan j.flush)) new → IsStepped set states client j new (top ∷ behind)
step_behind set states client j new top behind part are at moves = record {
  index = suc (length j.members);
  part = part;
  at = at;
  number = number;
  flush = current.flush;
  joint = by moves;
}
  where
    number : current_of j ≡ part.number
    number = number_current j top behind are.numbers ∙ ap (λ (o : Option Part). option_map_or number_of o top.number) at

    current : IsCurrent states client j top part
    current = come_current set states client j top (length top.plan.placed) j.members behind part are.come (held_behind states client top behind are.held) at

    by : MovesOn set states client (with_plan j (more_plan j.flush)) new → AreParts set states client new top (slice_set behind (length j.members) (more part))
    by (inl still) =
        subst (λ (k : Joint). AreParts set states client k top (slice_set behind (length j.members) (more part))) (sym still.1)
        (step_still set states client j top behind part are at current still.0)
    by (inr over) = step_over set states client j new top behind part are at number current over.0 over.1

pub step : (set : PoolSet) (states : List BlockState) (client : ℕ) (j new : Joint) (parts : List Part) → IsJoint set states client j parts
    → MovesOn set states client (with_plan j (more_plan j.flush)) new → IsStepped set states client j new parts
step set states client j new [] is moves = absurd is
step set states client j new (top ∷ behind) is moves = by (slice_get behind (length j.members)) refl
  where
    by : (o : Option Part) → slice_get behind (length j.members) ≡ o → IsStepped set states client j new (top ∷ behind)
    by None at = step_top set states client j new top behind is at moves
    by (Some part) at = step_behind set states client j new top behind part is at moves

-- ---- the block that is given out

pub same_then : (a b c : PoolSet) → AreSameDrafts a b → AreSameDrafts b c → AreSameDrafts a c
same_then a b c ab bc = record {
  bases = bc.bases ∙ ab.bases;
  views = λ k. bc.views k ∙ ab.views k;
  count = bc.count ∙ ab.count;
  fed = bc.fed ∙ ab.fed;
  frames = bc.frames ∙ ab.frames;
}

pub gives_as : (d d' : View) (b b' : Base) (old old' new new' : Plan) (block : ℕ) (bytes : List ℕ) → d ≡ d' → b ≡ b' → old ≡ old' → new ≡ new'
    → GivesNext d b old new block bytes → GivesNext d' b' old' new' block bytes
gives_as d d' b b' old old' new new' block bytes e_d e_b e_old e_new gives =
    subst (λ (x : Plan). GivesNext d' b' old' x block bytes) e_new
    (subst (λ (x : Plan). GivesNext d' b' x new block bytes) e_old
    (subst (λ (x : Base). GivesNext d' x old new block bytes) e_b
    (subst (λ (x : View). GivesNext x b old new block bytes) e_d gives)))

pub gives_part : (old mid new : PoolSet) (states : List BlockState) (client : ℕ) (parts : List Part) (j after : Joint) (plan : Plan) (block : ℕ) (bytes : List ℕ)
    → AreSameDrafts old mid → AreSameDrafts mid new → picked_of mid ≡ current_of j → IsJoint old states client j parts
    → GivesNext (view_at mid (picked_of mid)) (base_in mid (picked_of mid)) j.flush plan block bytes
    → MovesOn mid states client (with_plan j plan) after
    → GivesPart old new states client parts after block bytes
gives_part old mid new states client parts j after plan block bytes to_mid to_new picked is gives moves =
    let more_is : plan ≡ more_plan j.flush = gives.plan in
    let stepped = step mid states client j after parts (joint_stays old mid states states client j parts to_mid (holds_itself client states) is)
    (subst (λ (x : Plan). MovesOn mid states client (with_plan j x) after) more_is moves) in
    let number : picked_of mid ≡ stepped.part.number = picked ∙ stepped.number in
    let view : view_at mid (picked_of mid) ≡ view_at old stepped.part.number = ap (view_at mid) number ∙ to_mid.views stepped.part.number in
    let base : base_in mid (picked_of mid) ≡ base_in old stepped.part.number =
    ap (base_in mid) number ∙ (λ i. base_of (root_in (same_base old mid to_mid stepped.part.number i)) (object_in (same_base old mid to_mid stepped.part.number i)) (serial_in (same_base old mid to_mid stepped.part.number i))) in
    record {
      index = stepped.index;
      part = stepped.part;
      plan = more_plan stepped.part.plan;
      at = stepped.at;
      gives = gives_as _ _ _ _ _ _ _ _ block bytes view base stepped.flush (more_is ∙ ap more_plan stepped.flush) gives;
      joint = joint_stays mid new states states client after _ to_new (holds_itself client states) stepped.joint;
    }

-- ---- where all were given out

pub all_given : (set : PoolSet) (states : List BlockState) (client : ℕ) (j : Joint) (parts : List Part) → IsJoint set states client j parts → j.flush.written ≡ length j.flush.placed
    → AllByRecursion IsWhole parts
all_given set states client j [] is done = absurd is
all_given set states client j (top ∷ behind) is done = by (slice_get behind (length j.members)) refl
  where
    by : (o : Option Part) → slice_get behind (length j.members) ≡ o → AllByRecursion IsWhole (top ∷ behind)
    by None at =
        let all = come_top set j top (length top.plan.placed) j.members behind is.come at in
        (subst (λ (plan : Plan). plan.written ≡ length plan.placed) all.0 done, all.1)
    by (Some part) at =
        let current = come_current set states client j top (length top.plan.placed) j.members behind part is.come (held_behind states client top behind is.held) at in
        let whole : part.plan.written ≡ length part.plan.placed = subst (λ (plan : Plan). plan.written ≡ length plan.placed) current.flush done in
        let left = current.left in
        absurd (omega (arith, whole, left))
