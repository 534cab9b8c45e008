use Rattle.std.proofs.Common.{◌≡◌, ◌+◌, ◌∷◌}
use Rattle.std.specs.String.{string_bytes}
use Rattle.std.specs.List.{flat_map, range_with_len}
use Rattle.script_text.specs.ReplyText.{spaced}
use Rattle.endings.proofs.file_line.serials_text.Given as goal

abbrev pub invariant-later : goal.invariant-later
invariant-later l =
    string_bytes l.text ≡ flat_map spaced (l.first ∷ range_with_len (l.first + 1) l.k)
