use Rattle.std.proofs.Common.{sym, ap, subst, ◌∙◌}
use Rattle.joint_flush.specs.Joint.{Joint, IsJoint, IsReadyJoint, current_of}
use Rattle.joint_flush.proofs.Moving.{gives_now, picked_placed, ready_moves, ready_next, turn_held}
use Rattle.joint_flush.proofs.Stepping.{all_given, gives_part, same_then}
use Rattle.joint_flush.proofs.joint.JointFlush.next.Goals as goal

pub next-requires-clause-placed : goal.next-requires-clause-placed
next-requires-clause-placed c =
    let ready = subst (IsReadyJoint c.args.set.now c.args.map.now c.args.client) (sym c.self.view_is) c.requires in
    let picked = c.pick.ensures.picked ∙ c.current.ensures ∙ ap current_of (sym c.self.view_is) in
    picked_placed c.args.set.now c.pick.new.self c.args.map.now c.args.client _ c.pick.ensures.same picked ready

pub go_on-requires-clause-ready : goal.go_on-requires-clause-ready
go_on-requires-clause-ready c =
    let ready = subst (IsReadyJoint c.args.set.now c.args.map.now c.args.client) (sym c.self.view_is) c.requires in
    ready_next c.args.set.now c.pick.new.self c.args.map.now c.args.client _ c.next.new.self c.pick.ensures.same c.next.ensures.same.0 ready

pub returns-in-Some-clause-same : goal.returns-in-Some-clause-same
returns-in-Some-clause-same c = same_then c.args.set.now c.pick.new.self c.go_on.new.set c.pick.ensures.same c.go_on.ensures.same

pub returns-in-Some-clause-ready : goal.returns-in-Some-clause-ready
returns-in-Some-clause-ready c =
    let ready = subst (IsReadyJoint c.args.set.now c.args.map.now c.args.client) (sym c.self.view_is) c.requires in
    let mid = ready_next c.args.set.now c.pick.new.self c.args.map.now c.args.client _ c.next.new.self c.pick.ensures.same c.next.ensures.same.0 ready in
    ready_moves c.pick.new.self c.go_on.new.set c.args.map.now c.args.client _ c.go_on.new.self c.go_on.ensures.same mid c.go_on.ensures.moves

pub returns-in-Some-clause-held : goal.returns-in-Some-clause-held
returns-in-Some-clause-held c =
    let ready = subst (IsReadyJoint c.args.set.now c.args.map.now c.args.client) (sym c.self.view_is) c.requires in
    let gives = c.in-Some.ensures.gives in
    turn_held c.args.map.now c.args.client c.self.inside.flush.placed c.self.inside.flush.written (record { path = gives.path; block = c.in-Some.block }) ready.held gives.turn

pub returns-in-Some-clause-written : goal.returns-in-Some-clause-written
returns-in-Some-clause-written c =
    let picked = c.pick.ensures.picked ∙ c.current.ensures in
    gives_now c.args.set.now c.pick.new.self _ c.args.self.now c.next.new.self c.in-Some.block c.next.new.into c.self.view_is c.pick.ensures.same picked c.in-Some.ensures.gives

pub returns-in-Some-clause-gives : goal.returns-in-Some-clause-gives
returns-in-Some-clause-gives c parts is =
    let picked = c.pick.ensures.picked ∙ c.current.ensures ∙ ap current_of (sym c.self.view_is) in
    let was = subst (λ (j : Joint). IsJoint c.args.set.now c.args.map.now c.args.client j parts) (sym c.self.view_is) is in
    gives_part c.args.set.now c.pick.new.self c.go_on.new.set c.args.map.now c.args.client parts _ c.go_on.new.self c.next.new.self c.in-Some.block c.next.new.into
    c.pick.ensures.same c.go_on.ensures.same picked was c.in-Some.ensures.gives c.go_on.ensures.moves

pub returns-in-None-clause-ready : goal.returns-in-None-clause-ready
returns-in-None-clause-ready c =
    let ready = subst (IsReadyJoint c.args.set.now c.args.map.now c.args.client) (sym c.self.view_is) c.requires in
    ready_next c.args.set.now c.pick.new.self c.args.map.now c.args.client _ c.next.new.self c.pick.ensures.same c.next.ensures.same.0 ready

pub returns-in-None-clause-gives : goal.returns-in-None-clause-gives
returns-in-None-clause-gives c parts is =
    let done = c.in-None.ensures.gives in
    let was = subst (λ (j : Joint). IsJoint c.args.set.now c.args.map.now c.args.client j parts) (sym c.self.view_is) is in
    record {
      all = all_given c.args.set.now c.args.map.now c.args.client _ parts was done.all;
      same = (λ i. record { numbers = c.self.inside.numbers.items; members = c.self.inside.members; from = c.self.inside.from; flush = done.plan i }) ∙ c.self.view_is;
      bytes = done.bytes;
    }
