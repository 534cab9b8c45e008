-- How calls end that play scripts.
use Rattle.endings.specs.declared.status.Status.{Status}
use Rattle.endings.specs.declared.status.Status.TheVariants.{Success, Usage, BadScript, DriveFault, BadStore, SinkFault, SourceFault, Memory}

-- The call ended before it looked at the halves.
abbrev pub IsBeforeOpening : Status → Type 0
IsBeforeOpening Success = ⊥
IsBeforeOpening Usage = Unit {0}
IsBeforeOpening BadScript = Unit {0}
IsBeforeOpening DriveFault = ⊥
IsBeforeOpening BadStore = ⊥
IsBeforeOpening SinkFault = ⊥
IsBeforeOpening SourceFault = Unit {0}
IsBeforeOpening Memory = ⊥
