-- What a store's table has to do with capabilities.
use Rattle.std.specs.Prelude.{ℕ, ◌-◌, ◌==◌, if◌then◌else◌, List, Option, Some, None, Result}
use Rattle.std.specs.Option.{option_and_then}
use Rattle.std.specs.List.{slice_get}
use Rattle.page_codec.specs.Values.{EntryValue, TableValue}
use Rattle.caps.specs.declared.denied.DeniedWhy.{DeniedWhy}
use Rattle.caps.specs.Grant.{SealValue, object_of, granted, restricted}

-- the seal of an entry's object, where that is live: where the entry names the block of a first version
abbrev pub seal_when : Option ℕ → EntryValue → Option SealValue
seal_when None entry = None
seal_when (Some block) entry = Some (record { secret = entry.secret; generation = entry.generation })

abbrev pub entry_seal : EntryValue → Option SealValue
entry_seal entry = seal_when entry.first entry

-- the seal of an object, counted from 1, where it is live
abbrev pub seal_of : TableValue → ℕ → Option SealValue
seal_of table object = if object == 0 then None else option_and_then entry_seal (slice_get table.entries (object - 1))

-- the object that a capability grants for a need, or why it does not
abbrev pub table_grant : TableValue → List ℕ → ℕ → Result ℕ DeniedWhy
table_grant table cap need = granted (seal_of table (object_of cap)) cap need

-- the capability with the rights that both it and a mask have, or why there is none
abbrev pub table_restrict : TableValue → List ℕ → ℕ → Result (List ℕ) DeniedWhy
table_restrict table cap mask = restricted (seal_of table (object_of cap)) cap mask
