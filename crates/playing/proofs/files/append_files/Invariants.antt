use Rattle.std.proofs.Common.{◌≡◌, ◌+◌, ◌++◌, drop}
use Rattle.playing.proofs.Telling.{told_text}
use Rattle.playing.proofs.files.append_files.Given as goal

abbrev pub invariant-loop-place : goal.invariant-loop-place
invariant-loop-place g l =
    l.text.items ++ told_text (l.place + 1) (drop l.place (g.R.Played.told l.run))
    ≡ l.fn.text.items ++ told_text 1 (g.R.Played.told l.run)
