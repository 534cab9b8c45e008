use Rattle.std.proofs.Common.{◌≡◌, ◌-◌, ◌^◌, ◌++◌, length}
use Rattle.pool_draft.specs.Keys.{path_in}
use Rattle.pool_draft.proofs.row_key.RowKey.path.Given as goal

abbrev pub invariant-loop-level : goal.invariant-loop-level
invariant-loop-level l = (l.width ≡ 32 ^ (7 - l._level))
    × (l.path ++ path_in (7 - l._level) l.rest ≡ l.self.path)
    × (length l.path ≡ l._level)
