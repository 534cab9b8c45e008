use Rattle.std.proofs.Common.{arith}
use Rattle.session.proofs.NameCauses.{denied_is_caused}
use Rattle.session.proofs.course.Course.begin.Goals as goal

pub refuse-requires-in-Err-clause-cause : goal.refuse-requires-in-Err-clause-cause
refuse-requires-in-Err-clause-cause g c = λ told.
    denied_is_caused g.B.Blocks c.args.script.now c.args.common.now c.args.self.now c.args.file.now c.in-Err.denied c.requires.command
    (omega (arith, c.roots.ensures.value)) c.in-Err.ensures
