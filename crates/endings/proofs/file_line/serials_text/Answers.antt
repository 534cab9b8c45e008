use Rattle.std.proofs.Common.{◌++◌, ◌+◌, ap, sym, ◌∙◌}
use Rattle.script_text.specs.ReplyText.{spaced}
use Rattle.endings.proofs.Serials.{serials_more}
use Rattle.endings.proofs.file_line.serials_text.Goals as goal

pub later-preserved : goal.later-preserved
later-preserved c =
    let first = c.args.first in
    c.in_ok-write.ensures.bytes
    ∙ ap (λ xs. xs ++ spaced (first + 1 + c.later.k)) c.later.invariant
    ∙ sym (serials_more first c.later.k)
