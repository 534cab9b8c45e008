use Rattle.std.proofs.Common.{◌<◌, sym, subst, arith}
use Rattle.std.specs.List.{AllByRecursion}
use Rattle.block_map.specs.declared.states.BlockState.TheVariants.{Held}
use Rattle.pool_draft.specs.Sets.{roots_of}
use Rattle.joint_flush.specs.Joint.{IsOver, IsReadyJoint}
use Rattle.joint_flush.proofs.Moving.{held_few, held_within, member_sound, moved_room, next_room, top_held}
use Rattle.joint_flush.proofs.Staying.{within_ready}
use Rattle.joint_flush.proofs.joint.JointFlush.move_on.Goals as goal

pub state-held-requires : goal.state-held-requires
state-held-requires c =
    let ready = subst (IsReadyJoint c.args.set.now c.args.map.now c.args.client) (sym c.self.view_is) c.requires.ready in
    held_within c.args.map.now c.top-block.result (Held c.args.client) (top_held c.args.map.now c.args.client c.self.inside.flush.placed c.top-block.result ready.part.starts ready.held c.top-block.ensures)

pub overflow_cast-self : goal.overflow_cast-self
overflow_cast-self c =
    let ready = subst (IsReadyJoint c.args.set.now c.args.map.now c.args.client) (sym c.self.view_is) c.requires.ready in
    let over = subst IsOver (sym c.self.view_is) c.requires.over in
    let room = moved_room c.args.set.now c.args.map.now c.args.client _ ready over in
    let few = held_few c.args.client c.args.map.now in
    let most = c.free-free.ensures.most in
    let size = c.len.ensures in
    omega (arith, room, few, most, size)

pub overflow_add-self : goal.overflow_add-self
overflow_add-self c =
    let ready = subst (IsReadyJoint c.args.set.now c.args.map.now c.args.client) (sym c.self.view_is) c.requires.ready in
    let over = subst IsOver (sym c.self.view_is) c.requires.over in
    let room = moved_room c.args.set.now c.args.map.now c.args.client _ ready over in
    let few = held_few c.args.client c.args.map.now in
    let most = c.free-free.ensures.most in
    let size = c.len.ensures in
    omega (arith, room, few, most, size)

pub invariant_of-push : goal.invariant_of-push
invariant_of-push c =
    let ready = subst (IsReadyJoint c.args.set.now c.args.map.now c.args.client) (sym c.self.view_is) c.requires.ready in
    member_sound c.args.map.now c.args.client c.object-object.result c.top-block.result c.state-held.result
    (top_held c.args.map.now c.args.client c.self.inside.flush.placed c.top-block.result ready.part.starts ready.held c.top-block.ensures)
    c.state-held.ensures.value c.state-held.ensures.table c.object-object.ensures.some

pub plan_behind-self-inside-requires-clause-within :
    goal.plan_behind-self-inside-requires-clause-within
plan_behind-self-inside-requires-clause-within c =
    let ready = subst (IsReadyJoint c.args.set.now c.args.map.now c.args.client) (sym c.self.view_is) c.requires.ready in
    subst (AllByRecursion (λ n. n < roots_of c.args.set.now)) (sym c.as_slice.ensures.value) (within_ready c.args.set.now _ ready.numbers)

pub plan_behind-self-inside-requires-clause-room : goal.plan_behind-self-inside-requires-clause-room
plan_behind-self-inside-requires-clause-room c =
    let ready = subst (IsReadyJoint c.args.set.now c.args.map.now c.args.client) (sym c.self.view_is) c.requires.ready in
    let over = subst IsOver (sym c.self.view_is) c.requires.over in
    next_room c.args.set.now c.args.map.now c.args.client _ c.len.result c.as_slice.result.now c.push.new.self _ ready over c.len.ensures c.as_slice.ensures.value c.push.ensures
