use Rattle.session.specs.Own.{IsWalkingBy}
use Rattle.session.proofs.Calling.{moved_call}
use Rattle.session.proofs.WalkEnds.{IsSameBeside, beside_settled, ready_then, settles_move}
use Rattle.session.proofs.course.Course.walk_on.Goals as goal

pub returns-in-Some-clause-turn : goal.returns-in-Some-clause-turn
returns-in-Some-clause-turn g c =
    let b = g.B.Blocks in
    let script = c.args.script.now in
    let common = c.args.common.now in
    let s = c.args.self.now in
    let t = c.settle_walk.new.self in
    let more = c.settle_walk.new.walk in
    let e = c.settle_walk.ensures.settled in
    let beside : IsSameBeside s t = beside_settled s t c.args.walk more e in
    moved_call b (IsWalkingBy c.args.walk) (IsWalkingBy more) script common common c.feed_walk.new.common s t c.feed_walk.new.self c.feed_walk.result c.requires.ready.line
    (settles_move b script common s t c.requires.ready c.requires.draft e.same beside c.args.walk more e)
    (c.feed_walk.ensures script (ready_then b script common s t c.requires.ready c.requires.draft e.same beside)) beside.turns

pub returns-in-None-clause-turn : goal.returns-in-None-clause-turn
returns-in-None-clause-turn g c =
    let b = g.B.Blocks in
    let script = c.args.script.now in
    let common = c.args.common.now in
    let s = c.args.self.now in
    let t = c.settle_walk.new.self in
    let more = c.settle_walk.new.walk in
    let e = c.settle_walk.ensures.settled in
    let beside : IsSameBeside s t = beside_settled s t c.args.walk more e in
    moved_call b (IsWalkingBy c.args.walk) (IsWalkingBy more) script common common c.end_walk.new.common s t c.end_walk.new.self c.end_walk.result c.requires.ready.line
    (settles_move b script common s t c.requires.ready c.requires.draft e.same beside c.args.walk more e)
    c.end_walk.ensures beside.turns
