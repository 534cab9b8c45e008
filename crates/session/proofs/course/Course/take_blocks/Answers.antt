use Rattle.std.proofs.Common.{◌≡◌, arith}
use Rattle.session.proofs.Taking.{worn_call, held_call, taken_call, needed_is, space_refused}
use Rattle.session.proofs.course.Course.take_blocks.Goals as goal

pub returns-then-serial : goal.returns-then-serial
returns-then-serial g c =
    worn_call g.B.Blocks c.args.script.now c.args.common.now c.args.self.now c.requires.ready c.requires.draft c.serial.result c.serial.ensures
    c.refuse_commit.new.common c.refuse_commit.new.self c.refuse_commit.result c.if-serial.true c.refuse_commit.ensures

pub returns-then-self-gt0 : goal.returns-then-self-gt0
returns-then-self-gt0 g c =
    held_call g.B.Blocks c.args.script.now c.args.common.now c.args.self.now c.requires.ready c.requires.draft c.serial.result c.serial.ensures
    c.plan.new.common c.plan.new.self c.plan.result (omega arith) c.if-self-gt0.true c.plan.ensures

pub returns-in-Ok : goal.returns-in-Ok
returns-in-Ok g c =
    taken_call g.B.Blocks c.args.script.now c.args.common.now c.args.self.now c.requires.ready c.requires.draft c.serial.result c.serial.ensures
    c.plan-in-Ok.new.common c.plan-in-Ok.new.self c.plan-in-Ok.result (omega arith) c.hold.new.common c.hold.new.self c.in-Ok.ensures.taken c.in-Ok.ensures.held.3 c.plan-in-Ok.ensures

pub returns-in-Err : goal.returns-in-Err
returns-in-Err g c =
    let none : c.args.self.now.held ≡ 0 = omega arith in
    space_refused g.B.Blocks c.args.script.now c.args.common.now c.hold.new.common c.refuse_commit-in-Err.new.common c.args.self.now c.hold.new.self c.refuse_commit-in-Err.new.self
    c.refuse_commit-in-Err.result c.requires.ready c.requires.draft c.serial.result c.serial.ensures (omega arith) none c.max-needed.result
    (needed_is c.args.self.now c.fresh_count.result c.max-needed.result c.fresh_count.ensures.count c.max-needed.ensures) c.in-Err.no_space c.in-Err.ensures.short c.in-Err.ensures.same
    c.refuse_commit-in-Err.ensures
