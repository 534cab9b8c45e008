use Rattle.std.proofs.Common.{arith}
use Rattle.std.proofs.lemmas.Grind.{common_steps}
use Rattle.script_text.proofs.Taking.{took}
use Rattle.script_text.proofs.sure_source.SureSourceSource.read.Goals as goal

pub returns-clause-bytes : goal.returns-clause-bytes
returns-clause-bytes c =
    took c.args.self.now c.self.inside.bytes.items c.args.buf.now c.copy_front-n.new.to c.self.inside.at c.copy_front-n.result c.self.invariant c.self.view_is (grind (arith, common_steps)) (grind (arith, common_steps))
