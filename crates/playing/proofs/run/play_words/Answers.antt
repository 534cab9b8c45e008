use Rattle.std.proofs.Common.{◌≤◌, length, subst, arith}
use Rattle.playing.specs.Lines.{LineCall}
use Rattle.playing.proofs.LinePlay.{as_many}
use Rattle.playing.proofs.RunPlay.{all_at, along_begins, word_answered, word_passed, word_stops, words_end}
use Rattle.playing.proofs.run.play_words.Goals as goal
use Rattle.playing.proofs.run.play_words.Goals.{in-Answered, in-Finished}

pub loop-number-init : goal.loop-number-init
loop-number-init g c = along_begins g.B.Blocks c.args.words.now c.args.run.now c.requires.going

pub play_line-requires-clause-client : goal.play_line-requires-clause-client
play_line-requires-clause-client g c =
    let many = as_many g.B.Blocks c.args.run.now c.loop-number.run c.loop-number.invariant.same in
    let within = all_at (λ k. (1 ≤ k) × (k ≤ length c.args.run.now.sessions)) c.args.words.now c.loop-number.number-index c.requires.clients c.loop-number-test.true in
    let high = within.1 in
    let is = c.client_of.ensures in
    omega (arith, many, high, is)

pub play_line-requires-clause-going : goal.play_line-requires-clause-going
play_line-requires-clause-going g c = c.loop-number.invariant.ends.0.fault

pub returns-in-Stopped : goal.returns-in-Stopped
returns-in-Stopped g c =
    word_stops g.B.Blocks c.args.words.now c.loop-number.number-index c.client_of.result c.args.run.now c.loop-number.run c.play_line.new.run c.loop-number-test.true c.client_of.ensures
    c.loop-number.invariant c.in-Stopped.fault _
    (subst (LineCall g.B.Blocks c.loop-number.run c.play_line.new.run c.client_of.result) c.in-Stopped.is c.play_line.ensures)

pub loop-number-preserved : goal.loop-number-preserved
loop-number-preserved g c = elim c.match-play_line.branch [
  | in-Answered w ↦
      word_answered g.B.Blocks c.args.words.now c.loop-number.number-index c.client_of.result c.args.run.now c.loop-number.run c.play_line.new.run c.loop-number-test.true c.client_of.ensures
      c.loop-number.invariant (subst (LineCall g.B.Blocks c.loop-number.run c.play_line.new.run c.client_of.result) w.in-Answered.is c.play_line.ensures)
  | in-Finished w ↦
      word_passed g.B.Blocks c.args.words.now c.loop-number.number-index c.client_of.result c.args.run.now c.loop-number.run c.play_line.new.run c.loop-number-test.true c.client_of.ensures
      c.loop-number.invariant (omega arith) (subst (LineCall g.B.Blocks c.loop-number.run c.play_line.new.run c.client_of.result) w.in-Finished.is c.play_line.ensures)
]

pub returns : goal.returns
returns g c = words_end g.B.Blocks c.args.words.now c.loop-number.number-index c.args.run.now c.loop-number.run (let end = c.loop-number-test.false in omega (arith, end)) c.loop-number.invariant
