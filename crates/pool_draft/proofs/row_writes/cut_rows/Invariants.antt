use Rattle.std.proofs.Common.{◌≡◌, ◌++◌, length, map, take, drop, vec_capacity}
use Rattle.pool_draft.specs.Writes.{cut_row}
use Rattle.pool_draft.proofs.row_writes.cut_rows.Given as goal

abbrev pub invariant-loop-k : goal.invariant-loop-k
invariant-loop-k l = (l.rows.items ≡ map (cut_row l.root l.at) (take l.k l.initial.rows.items) ++ drop l.k l.initial.rows.items)
    × (length l.rows.items ≡ length l.initial.rows.items)
    × (vec_capacity l.rows ≡ vec_capacity l.initial.rows)
