use Rattle.std.proofs.Common.{rules}
use Rattle.session.specs.Reads.{IsPageOf}
use Rattle.session.proofs.Reading.{read_failed}
use Rattle.session.proofs.common.Common.read_page.Goals as goal

pub returns-in_err-read-clause-read : goal.returns-in_err-read-clause-read
returns-in_err-read-clause-read g c =
    read_failed g.B.Blocks (IsPageOf c.args.level) c.args.self.now c.read.new.self c.args.n c.read.result c.in_err-read.field-0.0 c.from_residual.result c.read.ensures.read c.in_err-read.was (search rules)
