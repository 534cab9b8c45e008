use Rattle.std.proofs.Common.{ap, arith}
use Rattle.std.proofs.lemmas.Grind.{common_steps}
use Rattle.script_text.proofs.Taking.{took}
use Rattle.script_text.proofs.mem_source.MemSourceSource.read.Goals as goal

pub returns-clause-bytes : goal.returns-clause-bytes
returns-clause-bytes c =
    took c.args.self.now.left c.self.inside.bytes.items c.args.buf.now c.copy_front-n.new.to c.self.inside.at c.copy_front-n.result c.self.invariant (ap (λ s. s.left) c.self.view_is) (grind (arith, common_steps)) (grind (arith, common_steps))
