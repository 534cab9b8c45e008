-- Stores made by hand before and after their table is written: that the laws of such writes speak
-- of something, and what they say there. Each line is checked by computing.
use Rattle.std.specs.Prelude.{◌≡◌, ◌≢◌, ℕ, zero, suc, List, [], ◌∷◌, ◌++◌, replicate, Option, Some, None, Ok, refl}
use Rattle.page_codec.specs.Values.{EntryValue, RootValue}
use Rattle.page_codec.specs.Blank.{empty_slots, no_entry, no_entries, no_parts}
use Rattle.page_codec.specs.Numbers.{zeros}
use Rattle.page_codec.specs.NewStore.{new_version}
use Rattle.page_codec.specs.Spelling.{page_bytes, version_bytes}
use Rattle.page_codec.specs.TableSpelling.{root_bytes, part_bytes}
use Rattle.store_model.specs.NewStores.{root_in_block}
use Rattle.store_model.specs.Examples.{Store, content_of, entry, table, page, own, shared, empty_slot, version, first_version, three_versions, serials_in, lies_in, one_file, two_files}
use Rattle.store_model.specs.ChangeExamples.{page_in}
use Rattle.store_changes.specs.Writes.{part_with, part_in_block, put_at, InRoot}
use Rattle.store_changes.specs.Upgrading.{widened}

-- block 0 in format 1, as a value
abbrev pub root_with : List EntryValue → ℕ → RootValue
root_with entries others =
    record {
      format = 1;
      blocks = 64;
      key = 7;
      parts = no_parts;
      first = entries ++ replicate others no_entry;
    }

-- what a block reads as: a table, or part j of one
unfoldable pub root_in : Store → Option RootValue
unfolding serials_in
root_in blocks = root_in_block (content_of blocks) 0

unfoldable pub part_in : ℕ → Store → ℕ → Option (List EntryValue)
unfolding serials_in
part_in j blocks block = part_in_block (content_of blocks) j block

-- ---- a file more

-- block 2 has the first version of object 2, and is free; then the table names it
abbrev pub before_creation : Store
before_creation =
    Some (table 64 (entry 1 ∷ []) 59)
    ∷ Some (version_bytes (first_version 1))
    ∷ Some (version_bytes (first_version 2))
    ∷ []

abbrev pub after_creation : Store
after_creation =
    Some (table 64 (entry 1 ∷ entry 2 ∷ []) 58)
    ∷ Some (version_bytes (first_version 1))
    ∷ Some (version_bytes (first_version 2))
    ∷ []

pub the_new_page : page_in before_creation 2 ≡ Some (new_version 2)
unfolding page_in empty_slots
the_new_page = refl

pub one_file_before : serials_in before_creation ≡ one_file (1 ∷ [])
unfolding serials_in
one_file_before = refl

-- block 0 alone was written, and has the entry
pub the_entry_is_written : InRoot
    (content_of before_creation) (content_of after_creation) (root_with (entry 1 ∷ []) 59)
    1 (entry 2)
unfolding root_in
the_entry_is_written = record { format = refl; is = refl; others = but_zero }
  where
    but_zero : (n : ℕ) → n ≢ 0 → content_of before_creation n ≡ content_of after_creation n
    but_zero zero h = absurd (h refl)
    but_zero (suc n) h = refl

pub two_files_then : serials_in after_creation ≡ two_files (1 ∷ []) (1 ∷ [])
unfolding serials_in
two_files_then = refl

-- ---- a file less

-- the entry of object 2 after its destruction: no block, and no secret
abbrev pub gone : EntryValue
gone = record { first = None; generation = 1; secret = zeros 8 }

abbrev pub after_destruction : Store
after_destruction =
    Some (table 64 (entry 1 ∷ gone ∷ []) 58)
    ∷ Some (version_bytes (first_version 1))
    ∷ Some (version_bytes (first_version 2))
    ∷ []

pub one_file_left : serials_in after_destruction ≡ one_file (1 ∷ [])
unfolding serials_in
one_file_left = refl

-- ---- fewer versions

-- Three versions, in blocks 1, 4 and 6; the second wrote `/0` and shares `/1` with the first. The
-- table names the second as the first.
abbrev pub pruned : Store
pruned =
    Some (table 64 (entry 4 ∷ []) 59)
    ∷ Some (version_bytes (version 1 1 0 (Some 4) None (page 0 (shared 2) (shared 3) [])))
    ∷ Some (page_bytes (page 1 empty_slot empty_slot (10 ∷ [])))
    ∷ Some (page_bytes (page 1 empty_slot empty_slot (11 ∷ [])))
    ∷ Some (version_bytes (version 1 2 2 (Some 6) (Some 1) (page 0 (own 5) (shared 3) [])))
    ∷ Some (page_bytes (page 1 empty_slot empty_slot (12 ∷ [])))
    ∷ Some (version_bytes
    (version 1 3 7 None (Some 4) (page 0 (shared 5) (shared 3) (104 ∷ 105 ∷ []))))
    ∷ []

pub three_before : serials_in (three_versions (shared 5) (shared 3)) ≡ one_file (1 ∷ 2 ∷ 3 ∷ [])
unfolding serials_in
three_before = refl

pub two_left : serials_in pruned ≡ one_file (2 ∷ 3 ∷ [])
unfolding serials_in
two_left = refl

-- a page that the first kept version shared is where it was, and blocks 1 and 2 are free
pub a_shared_page_stays : lies_in pruned 2 (1 ∷ []) ≡ Some 3
unfolding lies_in
a_shared_page_stays = refl

-- ---- a table of the other format

-- no file ever was: block 0 in format 1, and in format 2
pub widened_alone : root_in (Some (root_bytes (widened no_parts (root_with [] 60))) ∷ [])
    ≡ Some (widened no_parts (root_with [] 60))
unfolding root_in
widened_alone = refl

-- block 2 holds part 0, and object 1 is in block 1; then block 0 names it
abbrev pub widened_store : Store
widened_store =
    Some (root_bytes (widened (put_at (Some 2) 0 no_parts) (root_with (entry 1 ∷ []) 59)))
    ∷ Some (version_bytes (first_version 1))
    ∷ Some (part_bytes 0 (entry 1 ∷ replicate 62 no_entry))
    ∷ []

pub the_part_of_sixty : part_in 0 widened_store 2
    ≡ Some ((root_with (entry 1 ∷ []) 59).first ++ replicate 3 no_entry)
unfolding part_in
the_part_of_sixty = refl

pub as_many_files : serials_in widened_store ≡ Ok ((1 ∷ []) ∷ replicate 4031 [])
unfolding serials_in
as_many_files = refl

-- ---- a file more in a new part

-- block 0 in format 2, as a value
abbrev pub wide_root : List (Option ℕ) → RootValue
wide_root parts =
    record { format = 2; blocks = 64; key = 7; parts = parts; first = no_entries 60 }

-- block 3 holds part 1, with the entry of object 64 in block 4; then block 0 names it
abbrev pub with_parts : List (Option ℕ) → Store
with_parts parts =
    Some (root_bytes (wide_root parts))
    ∷ Some (version_bytes (first_version 1))
    ∷ Some (part_bytes 0 (part_with 0 (entry 1)))
    ∷ Some (part_bytes 1 (part_with 0 (entry 4)))
    ∷ Some (version_bytes (first_version 64))
    ∷ []

pub the_new_part : part_in 1 (with_parts (Some 2 ∷ replicate 63 None)) 3
    ≡ Some (part_with 0 (entry 4))
unfolding part_in
the_new_part = refl

pub found_in_it : serials_in (with_parts (Some 2 ∷ Some 3 ∷ replicate 62 None))
    ≡ Ok (((1 ∷ []) ∷ replicate 62 []) ++ ((1 ∷ []) ∷ replicate 3968 []))
unfolding serials_in
found_in_it = refl
