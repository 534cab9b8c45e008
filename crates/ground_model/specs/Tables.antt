-- What the table of a store tells of the seals of capabilities.
use Rattle.std.specs.Prelude.{◌≡◌, ℕ, Bool, true, false, List, [], ◌++◌, Ok}
use Rattle.std.specs.List.{list_all}
use Rattle.caps.specs.Tables.{seal_of}
use Rattle.page_codec.specs.Values.{TableValue}
use Rattle.service_model.specs.declared.journal.Entry.{Entry}
use Rattle.service_model.specs.declared.journal.What.{What}
use Rattle.service_model.specs.declared.journal.What.TheVariants.{Created, Destroyed, Pruned}
use Rattle.service_model.specs.Entries.{after_entries}
use Rattle.service_model.specs.Legal.{Reaches}
use Rattle.service_model.specs.Standing.{Scripts, Standing, seal_in}
use Rattle.store_changes.specs.Writes.{Content}
use Rattle.store_check.specs.Checked.{LikeTable}
use Rattle.store_model.specs.Found.{LaidStore, laid, state_in}
use Rattle.tree_model.specs.States.{State}

-- The table has for each object the seal that the object has in the state, where it is live.
abbrev pub HasSeals : TableValue → State → Type 0
HasSeals table state = (object : ℕ) → seal_of table object ≡ seal_in state object

-- The table of a store has the seals of the state that the store stands for.
abbrev pub TableTells : Type 0
TableTells =
    (content : Content) (most : ℕ) (store : LaidStore) (places : List ℕ) (table : TableValue)
    → laid content most [] ≡ Ok (store, places) → LikeTable table store
    → HasSeals table (state_in store)

-- ---- entries

-- What an entry says makes no file, removes none, and takes no version away.
abbrev pub is_keeping : What → Bool
is_keeping (Created object at) = false
is_keeping (Destroyed object blocks at) = false
is_keeping (Pruned object first blocks at) = false
is_keeping _ = true

-- So it is of the entry.
abbrev pub keeps_files : Entry → Bool
keeps_files e = is_keeping e.what

-- By such entries each object stays live or not, with its seal.
abbrev pub SealsStay : Type 0
SealsStay =
    (scripts : Scripts) (s : Standing) (es : List Entry) → list_all keeps_files es ≡ true
    → (object : ℕ) → seal_in (after_entries scripts s es).state object ≡ seal_in s.state object

-- So a table that has the seals where a journal leads has them where it goes on by such entries.
abbrev pub TableGoesOn : Type 0
TableGoesOn =
    (opening : State) (scripts : Scripts) (es fs : List Entry) (old new : Standing)
    (table : TableValue)
    → Reaches opening scripts es old → Reaches opening scripts (es ++ fs) new
    → list_all keeps_files fs ≡ true → HasSeals table old.state → HasSeals table new.state
