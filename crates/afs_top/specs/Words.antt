-- How a call ends whose words are no command.
use Rattle.endings.specs.declared.status.Status.{Status}
use Rattle.endings.specs.declared.status.Status.TheVariants.{Success, Usage, BadScript, DriveFault, BadStore, SinkFault, SourceFault, Memory}

-- the call ended because its words were no command
abbrev pub IsUsage : Status → Type 0
IsUsage Success = ⊥
IsUsage Usage = Unit {0}
IsUsage BadScript = ⊥
IsUsage DriveFault = ⊥
IsUsage BadStore = ⊥
IsUsage SinkFault = ⊥
IsUsage SourceFault = ⊥
IsUsage Memory = ⊥
