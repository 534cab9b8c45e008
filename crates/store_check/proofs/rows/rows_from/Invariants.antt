use Rattle.std.proofs.Common.{◌≡◌, length, map, take}
use Rattle.store_model.specs.Tables.{rows_in}
use Rattle.store_check.specs.Rows.{row_of}
use Rattle.store_check.proofs.rows.rows_from.Given as goal

abbrev pub invariant-entries : goal.invariant-entries
invariant-entries l = record {
  rows : map row_of l.rows.items ≡ rows_in l.block (take l.entry-index l.entries);
  entries : map (λ row. row.entry) l.rows.items ≡ take l.entry-index l.entries;
  size : length l.rows.items ≡ l.entry-index;
}
