-- What maintenance does to the files, and how many blocks it frees.
use Rattle.std.specs.Prelude.{ℕ, suc, ◌+◌, ◌-◌, ◌^◌, ◌/◌, Bool, not, ◌&&◌, ◌==◌, nat_lt, min, max, List, [], ◌∷◌, find, if◌then◌else◌, Option, Some, None, option_map, option_and_then, slice_get}
use Rattle.std.specs.List.{filter_map}
use Rattle.std.specs.Option.{option_map_or}
use Rattle.std.specs.FinMap as map
use Rattle.page_codec.specs.NewStore.{secret_of}
use Rattle.page_codec.specs.Numbers.{zeros}
use Rattle.tree_model.specs.Trees.{single}
use Rattle.tree_model.specs.States.{State, File, Version, is_live, group_of, is_used}
use Rattle.service_model.specs.Standing.{Standing, Client, Update, Work, versions_of, serial_of, kept_blocks}

-- ---- a new file

-- the entry can take a new file: none is there, and its generation can rise
abbrev pub is_open_entry : File → Bool
is_open_entry file = not (is_live file) && nat_lt file.generation (2 ^ 32 - 1)

-- the least object from this one on whose entry can take a new file
abbrev pub first_open : ℕ → List File → Option ℕ
first_open object [] = None
first_open object (file ∷ files) = if is_open_entry file then Some object else first_open (suc object) files

-- the object of the next new file
abbrev pub new_object : State → Option ℕ
new_object state = first_open 1 state.files

-- how many blocks a new file takes: its version page, and in format 2 a part of the table where none of
-- its entries was used
abbrev pub new_blocks : State → ℕ → ℕ
new_blocks state object =
    if state.format == 1 then 1
    else if is_used (group_of state.files ((object - 1) / 63)) then 1 else 2

-- a file that was just made
abbrev pub new_file : ℕ → ℕ → ℕ → File
new_file key object generation =
    record {
      generation = generation;
      secret = secret_of key object generation;
      versions = record { serial = 1; tree = single; fresh = [] ∷ [] } ∷ [];
    }

-- the entry of a file that is gone
abbrev pub no_file : File → File
no_file file = record { generation = file.generation; secret = zeros 8; versions = [] }

-- ---- pruning

-- the base serial of an update of an object
abbrev pub base_in : ℕ → Update → Option ℕ
base_in object u = option_map (λ (w : Work). w.serial) (find (λ (w : Work). w.object == object) u.works)

-- the base serial of a client's open update of an object
abbrev pub base_on : ℕ → Client → Option ℕ
base_on object c = option_and_then (base_in object) c.update

-- the base serials of all open updates of an object
abbrev pub bases_on : Standing → ℕ → List ℕ
bases_on s object = filter_map (base_on object) s.clients

-- the least of these numbers and n
abbrev pub least_of : ℕ → List ℕ → ℕ
least_of n [] = n
least_of n (m ∷ ms) = least_of (min n m) ms

-- the serial of the first version of an object
abbrev pub first_serial : State → ℕ → ℕ
first_serial state object =
    option_map_or (λ (v : Version). v.serial) (slice_get (versions_of state object) 0) 0

-- the serial from which a pruning that keeps so many versions keeps: no base of an open update is taken away
abbrev pub kept_from : Standing → ℕ → ℕ → ℕ
kept_from s object keep =
    max (least_of (max (serial_of s.state object + 1 - keep) 1) (bases_on s object))
    (first_serial s.state object)

-- the version with all its paths fresh
abbrev pub as_first : Version → Version
as_first v = record v { fresh = map.keys v.tree }

-- of these versions those from a serial on, the first of which has all its paths fresh
abbrev pub versions_from : ℕ → List Version → List Version
versions_from first [] = []
versions_from first (v ∷ vs) = if nat_lt v.serial first then versions_from first vs else as_first v ∷ vs

-- a file without the versions before a serial
abbrev pub file_from : ℕ → File → File
file_from first file = record file { versions = versions_from first file.versions }

-- how many blocks a pruning frees: those that the file's versions hold and would not hold after it
abbrev pub pruned_blocks : ℕ → File → ℕ
pruned_blocks first file = kept_blocks file - kept_blocks (file_from first file)
