use Rattle.std.proofs.Common.{◌≡◌, ◌+◌, ◌++◌, drop}
use Rattle.playing.proofs.Printing.{answers_text}
use Rattle.playing.proofs.answers.append_answers.Given as goal

abbrev pub invariant-loop-place : goal.invariant-loop-place
invariant-loop-place g l =
    l.text.items
    ++ answers_text (l.place + 1) (drop l.place (g.R.Played.scripts l.run))
    (drop l.place (g.R.Played.answers l.run))
    ≡ l.fn.text.items
    ++ answers_text 1 (g.R.Played.scripts l.run) (g.R.Played.answers l.run)
