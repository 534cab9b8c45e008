use Rattle.std.proofs.Common.{◌≡◌, length, map, take}
use Rattle.store_check.proofs.checking.fill_table.Given as goal

abbrev pub invariant-entries : goal.invariant-entries
invariant-entries l = record {
  format : l.table.format ≡ l.fn.table.format;
  blocks : l.table.blocks ≡ l.fn.table.blocks;
  key : l.table.key ≡ l.fn.table.key;
  parts : l.table.parts ≡ l.fn.table.parts;
  size : length l.table.entries ≡ length l.fn.table.entries;
  entries : take l.i l.table.entries ≡ map (λ row. row.entry) (take l.i l.rows);
}
