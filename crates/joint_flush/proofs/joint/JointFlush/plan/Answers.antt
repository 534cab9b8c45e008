use Rattle.std.proofs.Common.{◌+◌, ◌≤◌, List, ℕ, [], drop, length, sym, ap, subst, ◌∙◌}
use Rattle.std.specs.Prelude.{slice_index}
use Rattle.page_codec.specs.Values.{MemberValue}
use Rattle.block_map.specs.States.{held_count}
use Rattle.joint_flush.specs.Joint.{IsNextPlan, pages_in, paths_at}
use Rattle.joint_flush.proofs.Moving.{first_room, first_top_room, plan_parts, ready_same}
use Rattle.joint_flush.proofs.Readying.{joint_ready}
use Rattle.joint_flush.proofs.Stepping.{same_then}
use Rattle.joint_flush.proofs.joint.JointFlush.plan.Goals as goal

pub plan_behind-flush-requires-clause-room : goal.plan_behind-flush-requires-clause-room
plan_behind-flush-requires-clause-room c =
    let from = c.pages_of-from.ensures.value ∙ ap (λ (numbers : List ℕ). length (paths_at c.args.set.now (slice_index numbers 0))) c.as_slice.ensures.value in
    let room = first_room c.args.set.now c.pages_of-from.new.set c.args.numbers.items c.pages_of-from.result (held_count c.args.client c.args.map.now) c.requires.some c.pages_of-from.ensures.same c.requires.ready from c.requires.room in
    subst (λ (numbers : List ℕ). c.pages_of-from.result + pages_in c.pages_of-from.new.set (drop (length c.none-members.result + 1) numbers) ≤ held_count c.args.client c.args.map.now) (sym c.as_slice-2.ensures.value)
    (subst (λ (members : List MemberValue). c.pages_of-from.result + pages_in c.pages_of-from.new.set (drop (length members + 1) c.args.numbers.items) ≤ held_count c.args.client c.args.map.now) (sym c.none-members.ensures) room)

pub plan_behind-flush-requires-clause-top_room : goal.plan_behind-flush-requires-clause-top_room
plan_behind-flush-requires-clause-top_room c =
    subst (λ (numbers : List ℕ). length (paths_at c.pages_of-from.new.set (slice_index numbers 0)) ≤ held_count c.args.client c.args.map.now) (sym c.as_slice-2.ensures.value)
    (first_top_room c.args.set.now c.pages_of-from.new.set c.args.numbers.items (held_count c.args.client c.args.map.now) c.requires.some c.pages_of-from.ensures.same c.requires.ready c.requires.room)

pub returns-clause-same : goal.returns-clause-same
returns-clause-same c = same_then c.args.set.now c.pages_of-from.new.set c.plan_behind-flush.new.set c.pages_of-from.ensures.same c.plan_behind-flush.ensures.same

pub returns-clause-ready : goal.returns-clause-ready
returns-clause-ready c =
    let from = c.pages_of-from.ensures.value ∙ ap (λ (numbers : List ℕ). length (paths_at c.args.set.now (slice_index numbers 0))) c.as_slice.ensures.value in
    let next = subst (λ (numbers : List ℕ). IsNextPlan c.pages_of-from.new.set c.args.map.now c.args.client numbers [] c.pages_of-from.result c.plan_behind-flush.result) c.as_slice-2.ensures.value
    (subst (λ (members : List MemberValue). IsNextPlan c.pages_of-from.new.set c.args.map.now c.args.client c.as_slice-2.result.now members c.pages_of-from.result c.plan_behind-flush.result) c.none-members.ensures c.plan_behind-flush.ensures.next) in
    let same = same_then c.args.set.now c.pages_of-from.new.set c.plan_behind-flush.new.set c.pages_of-from.ensures.same c.plan_behind-flush.ensures.same in
    let parts = plan_parts c.args.set.now c.pages_of-from.new.set c.plan_behind-flush.new.set c.args.map.now c.args.client
    (record { numbers = c.args.numbers.items; members = c.none-members.result; from = c.pages_of-from.result; flush = c.plan_behind-flush.result })
    c.pages_of-from.ensures.same c.plan_behind-flush.ensures.same c.requires.some c.requires.ready c.requires.room from c.none-members.ensures next in
    joint_ready c.plan_behind-flush.new.set c.args.map.now c.args.client _ parts.0 (ready_same c.args.set.now c.plan_behind-flush.new.set same c.args.numbers.items c.requires.ready) parts.1

pub returns-clause-planned : goal.returns-clause-planned
returns-clause-planned c =
    let from = c.pages_of-from.ensures.value ∙ ap (λ (numbers : List ℕ). length (paths_at c.args.set.now (slice_index numbers 0))) c.as_slice.ensures.value in
    let next = subst (λ (numbers : List ℕ). IsNextPlan c.pages_of-from.new.set c.args.map.now c.args.client numbers [] c.pages_of-from.result c.plan_behind-flush.result) c.as_slice-2.ensures.value
    (subst (λ (members : List MemberValue). IsNextPlan c.pages_of-from.new.set c.args.map.now c.args.client c.as_slice-2.result.now members c.pages_of-from.result c.plan_behind-flush.result) c.none-members.ensures c.plan_behind-flush.ensures.next) in
    plan_parts c.args.set.now c.pages_of-from.new.set c.plan_behind-flush.new.set c.args.map.now c.args.client
    (record { numbers = c.args.numbers.items; members = c.none-members.result; from = c.pages_of-from.result; flush = c.plan_behind-flush.result })
    c.pages_of-from.ensures.same c.plan_behind-flush.ensures.same c.requires.some c.requires.ready c.requires.room from c.none-members.ensures next
