-- Entries of the table, as the walk in code keeps them.
use Rattle.store_model.specs.Tables.{Row as ModelRow}
use Rattle.store_check.specs.declared.rows.Row.{Row}

-- an entry, and the block of the table that has it
abbrev pub row_of : Row → ModelRow
row_of row = record { entry = row.entry; block = row.block }
