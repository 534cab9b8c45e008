use Rattle.session.proofs.Frames.{own_is_left, safe_is_left}
use Rattle.session.proofs.laws.others_are_left.Goals as goal

pub returns-clause-own : goal.returns-clause-own
returns-clause-own g c = own_is_left _

pub returns-clause-safe : goal.returns-clause-safe
returns-clause-safe g c = safe_is_left _
