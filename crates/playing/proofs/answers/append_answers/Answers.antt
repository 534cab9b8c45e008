use Rattle.std.proofs.Common.{arith}
use Rattle.playing.proofs.Printing.{answers_more, answers_whole}
use Rattle.playing.proofs.answers.append_answers.Goals as goal

pub loop-place-preserved : goal.loop-place-preserved
loop-place-preserved g c =
    answers_more (g.R.Played.scripts c.args.run.now) (g.R.Played.answers c.args.run.now)
    c.loop-place.place c.args.text.now.items c.loop-place.text.items c.loop-place.invariant
    c.append_client.new.text.items (omega arith) c.in_ok-append_client.ensures

pub returns : goal.returns
returns g c = λ clients are.
    answers_whole (g.R.Played.scripts c.args.run.now) (g.R.Played.answers c.args.run.now)
    c.loop-place.place c.args.text.now.items c.loop-place.text.items c.loop-place.invariant
    (omega arith) clients are
