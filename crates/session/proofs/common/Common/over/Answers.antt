use Rattle.std.proofs.Common.{refl}
use Rattle.session.proofs.Beginning.{over_is_safe}
use Rattle.session.proofs.common.Common.over.Goals as goal

pub returns-in-Ok-clause-safe : goal.returns-in-Ok-clause-safe
returns-in-Ok-clause-safe g c = over_is_safe _ c.args.opened _ c.requires refl c.give_all_back.ensures.size c.all_beyond_root.ensures
