use Rattle.std.proofs.Common.{rules}
use Rattle.session.specs.Reads.{IsVersionOf}
use Rattle.session.proofs.Reading.{read_failed}
use Rattle.session.proofs.common.Common.read_version.Goals as goal

pub returns-in_err-read : goal.returns-in_err-read
returns-in_err-read g c =
    read_failed g.B.Blocks IsVersionOf c.args.self.now c.read.new.self c.args.n c.read.result c.in_err-read.field-0.0 c.from_residual.result c.read.ensures.read c.in_err-read.was (search rules)
