use Rattle.std.specs.Prelude.{ℕ}
use Rattle.endings.specs.declared.status.Status.{Status}
use Rattle.endings.specs.declared.status.Status.TheVariants.{Success, Usage, BadScript, DriveFault, BadStore, SinkFault, SourceFault, Memory}

-- the exit status of a program that ends so
abbrev pub status_code : Status → ℕ
status_code Success = 0
status_code Usage = 1
status_code BadScript = 2
status_code DriveFault = 3
status_code BadStore = 4
status_code SinkFault = 5
status_code SourceFault = 6
status_code Memory = 7

-- all was done, or memory ran out
abbrev pub IsDone : Status → Type 0
IsDone Success = Unit {0}
IsDone Usage = ⊥
IsDone BadScript = ⊥
IsDone DriveFault = ⊥
IsDone BadStore = ⊥
IsDone SinkFault = ⊥
IsDone SourceFault = ⊥
IsDone Memory = Unit {0}
