use Rattle.std.proofs.Common.{◌∙◌}
use Rattle.session.proofs.Planning.{planned_call, planned_safe, unneeded_call}
use Rattle.session.proofs.course.Course.plan.Goals as goal

pub returns-then-needed-self : goal.returns-then-needed-self
returns-then-needed-self g c =
    unneeded_call g.B.Blocks c.args.script.now c.args.common.now c.args.self.now c.requires.ready c.requires.draft c.args.needed c.requires.needed c.root-block.result _ c.if-needed-self.true

pub write_on-requires-clause-flush : goal.write_on-requires-clause-flush
write_on-requires-clause-flush g c =
    let e = c.plan-flush.ensures in
    planned_safe g.B.Blocks c.args.script.now c.args.common.now c.args.self.now c.requires.ready c.requires.draft c.args.needed c.requires.needed c.plan-flush.result
    (record { paths = e.paths; placed = e.placed; blocks = e.blocks; apart = e.apart; top = e.top; members = e.members ∙ c.none-members.ensures; start = e.start }) c.requires.serial

pub returns : goal.returns
returns g c =
    let e = c.plan-flush.ensures in
    planned_call g.B.Blocks c.args.script.now c.args.common.now c.args.self.now c.requires.ready c.requires.draft c.args.needed c.requires.needed c.plan-flush.result
    (record { paths = e.paths; placed = e.placed; blocks = e.blocks; apart = e.apart; top = e.top; members = e.members ∙ c.none-members.ensures; start = e.start })
    c.if-needed-self.false c.write_on.new.common c.write_on.new.self c.write_on.result c.write_on.ensures
