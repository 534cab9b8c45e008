use Rattle.std.proofs.Common.{arith}
use Rattle.command_words.proofs.Forms.{cap_only}
use Rattle.command_words.proofs.call.cap_of.Goals as goal

pub returns-clause-only : goal.returns-clause-only
returns-clause-only c =
    cap_only c.args.word.now c.args.object.now c.args.rights.now c.from.result c.from-2.result
    c.in_ok-object.field-0 c.in_ok-rights.field-0 (omega arith) (omega arith)
    c.requires c.in_ok-object.ensures.says c.in_ok-rights.ensures.says
