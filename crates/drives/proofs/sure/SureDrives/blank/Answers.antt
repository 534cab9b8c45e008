use Rattle.std.proofs.Common.{rules}
use Rattle.drives.specs.New.{blank_bytes}
use Rattle.drives.proofs.sure.SureDrives.blank.Goals as goal

pub returns-clause-fresh : goal.returns-clause-fresh
unfolding blank_bytes
returns-clause-fresh c = search rules
