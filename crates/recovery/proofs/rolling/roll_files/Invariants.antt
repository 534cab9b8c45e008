use Rattle.std.proofs.Common.{ℕ, Ok}
use Rattle.recovery.specs.Rolling.{IsEdited, Rolling, Rolls}
use Rattle.recovery.proofs.rolling.roll_files.Given as goal

abbrev pub invariant-files : goal.invariant-files
invariant-files g l =
    (most : ℕ) → Rolls {T = Unit {0}} g.B.Blocks most (IsEdited l.known) (Rolling l.step most l.known 0) (Rolling l.step most l.known l.i) (Ok tt) l.fn.store l.store
