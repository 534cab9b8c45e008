-- What is empty: slots, pages, entries and parts.
use Rattle.std.specs.Prelude.{ℕ, Option, None, List, [], replicate}
use Rattle.afs_base.specs.declared.limits.TheConstants.{PARTS, SECRET_BYTES, SLOTS}
use Rattle.ref_flags.specs.Flagged.{no_flags}
use Rattle.page_codec.specs.Numbers.{zeros}
use Rattle.page_codec.specs.Values.{ReferenceValue, PageValue, EntryValue}

-- a slot that names no page
abbrev pub empty_reference : ReferenceValue
empty_reference = record { flags = no_flags; block = None }

-- sixteen slots that name no page
unfoldable pub empty_slots : List ReferenceValue
empty_slots = replicate SLOTS empty_reference

-- a page of some level with no data and no slots in use
abbrev pub empty_page : ℕ → PageValue
empty_page level = record { level = level; modified = 0; refs = empty_slots; bytes = [] }

-- an entry where no file ever was
abbrev pub no_entry : EntryValue
no_entry = record { first = None; generation = 0; secret = zeros SECRET_BYTES }

-- so many of them
unfoldable pub no_entries : ℕ → List EntryValue
no_entries count = replicate count no_entry

-- no part has a block
unfoldable pub no_parts : List (Option ℕ)
no_parts = replicate PARTS None
