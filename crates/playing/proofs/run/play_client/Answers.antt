use Rattle.std.proofs.Common.{subst, arith}
use Rattle.playing.specs.Lines.{LineCall}
use Rattle.playing.proofs.LinePlay.{as_many}
use Rattle.playing.proofs.RunPlay.{climb_begins, climb_done, climb_ends, climb_stops, climbs}
use Rattle.playing.proofs.run.play_client.Goals as goal

pub loop-init : goal.loop-init
loop-init g c = climb_begins g.B.Blocks c.args.client c.args.run.now c.requires.going

pub play_line-requires-clause-client : goal.play_line-requires-clause-client
play_line-requires-clause-client g c =
    let many = as_many g.B.Blocks c.args.run.now c.loop.run c.loop.invariant.part.same in
    let high = c.requires.client in
    omega (arith, many, high)

pub play_line-requires-clause-going : goal.play_line-requires-clause-going
play_line-requires-clause-going g c = c.loop.invariant.part.ends.0.fault

pub returns-in-Finished : goal.returns-in-Finished
returns-in-Finished g c = climb_done g.B.Blocks c.args.client c.loop.counter c.args.run.now c.loop.run c.play_line.new.run c.loop.invariant (subst (LineCall g.B.Blocks c.loop.run c.play_line.new.run c.args.client) c.in-Finished.is c.play_line.ensures)

pub returns-in-Stopped : goal.returns-in-Stopped
returns-in-Stopped g c =
    climb_stops g.B.Blocks c.args.client c.loop.counter c.args.run.now c.loop.run c.play_line.new.run c.loop.invariant c.in-Stopped.fault _ (subst (LineCall g.B.Blocks c.loop.run c.play_line.new.run c.args.client) c.in-Stopped.is c.play_line.ensures)

pub loop-preserved : goal.loop-preserved
loop-preserved g c = climbs g.B.Blocks c.args.client c.loop.counter c.args.run.now c.loop.run c.play_line.new.run c.loop.invariant (subst (LineCall g.B.Blocks c.loop.run c.play_line.new.run c.args.client) c.in-Answered.is c.play_line.ensures)

pub returns : goal.returns
returns g c =
    climb_ends g.B.Blocks c.args.client c.loop.counter c.args.run.now c.loop.run c.loop.run c.loop.invariant c.script.result.now c.script.ensures
    (let end = c.loop-test.false in let value = c.len-end.ensures.value in omega (arith, end, value)) (omega arith) c.requires.client c.promise.ensures
