use Rattle.std.proofs.Common.{◌≡◌, ◌+◌, ◌++◌, drop}
use Rattle.service_model.specs.Print.{client_text}
use Rattle.playing.specs.Running.{answers_of}
use Rattle.playing.proofs.answers.append_client.Given as goal

abbrev pub invariant-loop-line : goal.invariant-loop-line
invariant-loop-line g l =
    l.text.items
    ++ client_text (l.place + 1) (drop l.line l.script.lines)
    (drop l.line (answers_of (g.R.Played.answers l.run) l.place))
    ≡ l.fn.text.items
    ++ client_text (l.place + 1) l.script.lines (answers_of (g.R.Played.answers l.run) l.place)
