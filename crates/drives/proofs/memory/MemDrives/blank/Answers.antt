use Rattle.std.proofs.Common.{rules}
use Rattle.drives.specs.New.{blank_bytes}
use Rattle.drives.proofs.memory.MemDrives.blank.Goals as goal

pub returns-clause-fresh : goal.returns-clause-fresh
unfolding blank_bytes
returns-clause-fresh c = search rules
