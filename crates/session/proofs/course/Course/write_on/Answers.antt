use Rattle.std.proofs.Common.{subst}
use Rattle.session.specs.Calls.{TurnCall}
use Rattle.session.specs.Own.{IsWritingBy}
use Rattle.session.proofs.BlockLaws.{BlockLaws, block_laws}
use Rattle.session.proofs.WritingOut.{block_within, gate_open, gives, its_place, more_safe}
use Rattle.session.proofs.WrittenPages.{failed_by, written_by}
use Rattle.session.proofs.course.Course.write_on.Given as given
use Rattle.session.proofs.course.Course.write_on.Goals as goal

laws : (g : given.Over) → g.B.Blocks.tells → BlockLaws g.B.Blocks
laws g = block_laws g.B.Blocks g.met.B.Blocks.clock g.met.B.Blocks.settled_left g.met.B.Blocks.whole g.met.B.Blocks.bytes

pub write-requires-clause-block : goal.write-requires-clause-block
write-requires-clause-block g c =
    block_within g.B.Blocks c.args.script.now c.args.common.now c.args.self.now c.requires.ready c.requires.draft c.args.flush c.next.new.self c.in-Some.at c.next.new.into c.requires.flush
    c.in-Some.ensures.gives

pub write-requires-clause-open : goal.write-requires-clause-open
write-requires-clause-open g c =
    gate_open g.B.Blocks c.args.script.now c.args.common.now c.args.self.now c.requires.ready c.requires.draft c.args.flush c.next.new.self c.in-Some.at c.next.new.into c.requires.flush
    c.in-Some.ensures.gives

pub returns-in-Ok : goal.returns-in-Ok
returns-in-Ok g c =
    let b = g.B.Blocks in
    let script = c.args.script.now in
    let common = c.args.common.now in
    let s = c.args.self.now in
    let flush = c.args.flush in
    let more = c.next.new.self in
    let place = its_place b script common s c.requires.ready c.requires.draft flush more c.in-Some.at c.next.new.into c.requires.flush c.in-Some.ensures.gives in
    written_by b (laws g) script common c.write.new.self s c.requires.ready c.requires.draft flush more c.in-Some.at place.0 c.next.new.into _ place.1 c.write.ensures.alone
    (more_safe b script common s c.requires.ready c.requires.draft flush more c.in-Some.at c.next.new.into c.requires.flush c.in-Some.ensures.gives)
    (gives b script common s c.requires.ready c.requires.draft flush more c.in-Some.at c.next.new.into c.requires.flush c.in-Some.ensures.gives) c.go_on.new.self c.go_on.ensures c.in-Ok.ensures

pub returns-in-Err : goal.returns-in-Err
returns-in-Err g c =
    let b = g.B.Blocks in
    let script = c.args.script.now in
    let common = c.args.common.now in
    let s = c.args.self.now in
    let flush = c.args.flush in
    let more = c.next.new.self in
    let place = its_place b script common s c.requires.ready c.requires.draft flush more c.in-Some.at c.next.new.into c.requires.flush c.in-Some.ensures.gives in
    failed_by b (laws g) script common c.write.new.self s c.requires.ready c.requires.draft flush more c.in-Some.at place.0 c.next.new.into _ place.1 c.in-Err.fault c.in-Err.ensures

pub returns-in-None : goal.returns-in-None
returns-in-None g c =
    subst (λ x. TurnCall g.B.Blocks (IsWritingBy x) c.args.script.now c.args.common.now c.link.new.common c.args.self.now c.link.new.self c.link.result) c.in-None.ensures.gives.plan
    c.link.ensures
