-- Stores made by hand, and what they hold. Each line is checked by computing.
use Rattle.std.specs.Prelude.{◌≡◌, ℕ, List, [], ◌∷◌, ◌++◌, map, replicate, slice_get, Option, Some, None, Result, Ok, Err, refl}
use Rattle.std.specs.Option.{option_and_then}
use Rattle.ref_flags.specs.Flagged.{no_flags}
use Rattle.ref_flags.specs.Codes.{flags_of}
use Rattle.tree_model.specs.States.{State, File}
use Rattle.page_codec.specs.declared.why.Why.{Why}
use Rattle.page_codec.specs.declared.why.Why.TheVariants as why
use Rattle.page_codec.specs.Values.{ReferenceValue, PageValue, MemberValue, VersionValue, EntryValue}
use Rattle.page_codec.specs.Blank.{empty_slots, no_entry, no_entries, no_parts}
use Rattle.page_codec.specs.Numbers.{big_endian, number_at, zeros, pieces}
use Rattle.page_codec.specs.Spelling.{frame_bytes, version_middle, page_bytes, version_bytes}
use Rattle.page_codec.specs.TableSpelling.{rest_bytes, root_bytes, part_bytes}
use Rattle.page_codec.specs.Reading.{slots, frame_value, members_value, version_value}
use Rattle.page_codec.specs.Causes.{page_causes, version_causes}
use Rattle.page_codec.specs.TableReading.{raw_entries, part_numbers, head_causes, one_causes, two_causes, root_value, part_causes, part_value}
use Rattle.store_model.specs.Walk.{Refused, bind, done, refuse, check, decoded, content_at, if_some, is_new, add, place}
use Rattle.store_model.specs.Pages.{page_at, own_from, named_from, slot_from, slots_from, pages_below}
use Rattle.store_model.specs.Chains.{follows, version_at, chain_from, chain_at}
use Rattle.store_model.specs.Tables.{part_rows, parts_from, table_rows, files_from}
use Rattle.store_model.specs.Members.{version_linked, member_linked, members_linked, tops_linked}
use Rattle.store_model.specs.Found.{laid_from, laid, found}
use Rattle.store_model.specs.Places.{block_at, marks_at, mask_at}

-- a store as a list of blocks, block 0 first; those behind the list are closed
abbrev pub Store : Type 0
Store = List (Option (List ℕ))

abbrev pub content_of : Store → ℕ → Option (List ℕ)
content_of blocks n = option_and_then (λ block. block) (slice_get blocks n)

-- the serials of each live object's versions, and their data at `/`
abbrev pub serials_of : List File → List (List ℕ)
serials_of files = map (λ file. map (λ v. v.serial) file.versions) files

-- an entry of a file whose first version is in this block
abbrev pub entry : ℕ → EntryValue
entry block = record { first = Some block; generation = 1; secret = replicate 8 9 }

-- block 0 in format 1, with these entries first
abbrev pub table : ℕ → List EntryValue → ℕ → List ℕ
table blocks entries others =
    root_bytes (record { format = 1; blocks = blocks; key = 7; parts = no_parts; first = entries ++ replicate others no_entry })

-- a slot that names a page of the update's own, and one that names a page of the version before
abbrev pub own : ℕ → ReferenceValue
own block = record { flags = flags_of 1; block = Some block }

abbrev pub shared : ℕ → ReferenceValue
shared block = record { flags = no_flags; block = Some block }

abbrev pub empty_slot : ReferenceValue
empty_slot = record { flags = no_flags; block = None }

-- a page with these two slots, and this data
abbrev pub page : ℕ → ReferenceValue → ReferenceValue → List ℕ → PageValue
page level first second bytes =
    record { level = level; modified = 0; refs = first ∷ second ∷ replicate 14 empty_slot; bytes = bytes }

-- a version of an object: its serial, its flags as a code, the blocks of the one after it and of the one before it, its root page
abbrev pub version : ℕ → ℕ → ℕ → Option ℕ → Option ℕ → PageValue → VersionValue
version object serial code commit base root =
    record { root = flags_of code; page = root; object = object; serial = serial; commit = commit; base = base; members = [] }

abbrev pub blank_root : PageValue
blank_root = page 0 empty_slot empty_slot []

-- the serials, or the cause
abbrev pub outcome : Result State Refused → Result (List (List ℕ)) Refused
outcome (Ok state) = Ok (serials_of state.files)
outcome (Err e) = Err e

unfoldable pub serials_in : Store → Result (List (List ℕ)) Refused
unfolding big_endian number_at zeros pieces empty_slots no_entries no_parts frame_bytes version_middle page_bytes version_bytes rest_bytes root_bytes part_bytes slots frame_value members_value version_value page_causes version_causes raw_entries part_numbers head_causes one_causes two_causes root_value part_causes part_value bind done refuse check decoded content_at if_some is_new add place page_at own_from named_from slot_from slots_from pages_below follows version_at chain_from chain_at part_rows parts_from table_rows files_from version_linked member_linked members_linked tops_linked laid_from laid
serials_in blocks = outcome (found (content_of blocks) 64)

-- the block of a page of object 1, the flag code of the reference to it, and its mask
unfoldable pub lies_in : Store → ℕ → List ℕ → Option ℕ
unfolding serials_in
lies_in blocks serial path = block_at (content_of blocks) 64 1 serial path

unfoldable pub marked_in : Store → ℕ → List ℕ → Option ℕ
unfolding serials_in
marked_in blocks serial path = marks_at (content_of blocks) 64 1 serial path

unfoldable pub masked_in : Store → ℕ → List ℕ → Option ℕ
unfolding serials_in
masked_in blocks serial path = mask_at (content_of blocks) 64 1 serial path

-- one file with these serials, and fifty-nine entries with no file
abbrev pub one_file : List ℕ → Result (List (List ℕ)) Refused
one_file serials = Ok (serials ∷ replicate 59 [])

abbrev pub two_files : List ℕ → List ℕ → Result (List (List ℕ)) Refused
two_files first second = Ok (first ∷ second ∷ replicate 58 [])

abbrev pub refused_at : ℕ → Why → Result (List (List ℕ)) Refused
refused_at block cause = Err (record { block = block; why = cause })

-- One file with three versions. The first has pages at `/0` (block 2) and `/1` (block 3); the second wrote `/0` (block 5) and shares
-- `/1`; the third is in block 6, and its slots are those that are given.
abbrev pub three_versions : ReferenceValue → ReferenceValue → Store
three_versions first second =
    Some (table 64 (entry 1 ∷ []) 59)
    ∷ Some (version_bytes (version 1 1 0 (Some 4) None (page 0 (shared 2) (shared 3) [])))
    ∷ Some (page_bytes (page 1 empty_slot empty_slot (10 ∷ [])))
    ∷ Some (page_bytes (page 1 empty_slot empty_slot (11 ∷ [])))
    ∷ Some (version_bytes (version 1 2 2 (Some 6) (Some 1) (page 0 (own 5) (shared 3) [])))
    ∷ Some (page_bytes (page 1 empty_slot empty_slot (12 ∷ [])))
    ∷ Some (version_bytes (version 1 3 7 None (Some 4) (page 0 first second (104 ∷ 105 ∷ []))))
    ∷ []

-- two files of one version each in blocks 1 and 2, and these two blocks behind them
abbrev pub two_with : VersionValue → VersionValue → VersionValue → Store
two_with first second third =
    Some (table 64 (entry 1 ∷ entry 2 ∷ []) 58)
    ∷ Some (version_bytes first)
    ∷ Some (version_bytes second)
    ∷ Some (version_bytes third)
    ∷ []

abbrev pub first_version : ℕ → VersionValue
first_version object = version object 1 0 None None blank_root

-- ---- lawful stores

-- two new files
pub a_new_store : serials_in (two_with (first_version 1) (first_version 2) (first_version 3)) ≡ two_files (1 ∷ []) (1 ∷ [])
unfolding serials_in
a_new_store = refl

-- three versions, the last of which shares both pages of the one before
abbrev pub shares_both : Store
shares_both = three_versions (shared 5) (shared 3)

pub a_chain : serials_in shares_both ≡ one_file (1 ∷ 2 ∷ 3 ∷ [])
unfolding serials_in
a_chain = refl

pub the_second_has_its_own : lies_in shares_both 2 (0 ∷ []) ≡ Some 5
unfolding lies_in
the_second_has_its_own = refl

pub the_third_shares_it : lies_in shares_both 3 (0 ∷ []) ≡ Some 5
unfolding lies_in
the_third_shares_it = refl

pub all_share_the_first : lies_in shares_both 3 (1 ∷ []) ≡ Some 3
unfolding lies_in
all_share_the_first = refl

pub the_root_was_written : marked_in shares_both 3 [] ≡ Some 7
unfolding marked_in
the_root_was_written = refl

pub the_second_copied_it : marked_in shares_both 2 (0 ∷ []) ≡ Some 1
unfolding marked_in
the_second_copied_it = refl

-- the third version names the same block without marks
pub a_shared_page_has_no_marks : marked_in shares_both 3 (0 ∷ []) ≡ Some 0
unfolding marked_in
a_shared_page_has_no_marks = refl

-- One file with two versions. The first has a page at `/0` (block 2) and one below it at `/0/1` (block 3), which it wrote with code 5 and
-- mask 6; the second shares both.
abbrev pub shares_two_levels : Store
shares_two_levels =
    Some (table 64 (entry 1 ∷ []) 59)
    ∷ Some (version_bytes (version 1 1 0 (Some 4) None (page 0 (own 2) empty_slot [])))
    ∷ Some (page_bytes (page 1 empty_slot (record { flags = flags_of 5; block = Some 3 }) []))
    ∷ Some (page_bytes (record (page 2 empty_slot empty_slot (10 ∷ [])) { modified = 6 }))
    ∷ Some (version_bytes (version 1 2 7 None (Some 1) (page 0 (shared 2) empty_slot [])))
    ∷ []

pub the_topmost_has_no_marks : marked_in shares_two_levels 2 (0 ∷ []) ≡ Some 0
unfolding marked_in
the_topmost_has_no_marks = refl

-- the slot that names it stands in a page of the version before
pub below_it_marks_stay : marked_in shares_two_levels 2 (0 ∷ 1 ∷ []) ≡ Some 5
unfolding marked_in
below_it_marks_stay = refl

pub the_mask_is_read : masked_in shares_two_levels 2 (0 ∷ 1 ∷ []) ≡ Some 6
unfolding masked_in
the_mask_is_read = refl

-- ---- refused, each for its cause

pub a_slot_of_another_block : serials_in (three_versions (shared 2) (shared 3)) ≡ refused_at 6 why.Reference
unfolding serials_in
a_slot_of_another_block = refl

pub a_page_twice : serials_in (three_versions (own 5) (shared 3)) ≡ refused_at 5 why.Seen
unfolding serials_in
a_page_twice = refl

pub a_closed_page : serials_in (three_versions (own 9) (shared 3)) ≡ refused_at 9 why.Closed
unfolding serials_in
a_closed_page = refl

pub no_table : serials_in (None ∷ []) ≡ refused_at 0 why.Closed
unfolding serials_in
no_table = refl

pub a_table_of_too_many_blocks : serials_in (Some (table 65 [] 60) ∷ []) ≡ refused_at 0 why.Blocks
unfolding serials_in
a_table_of_too_many_blocks = refl

pub another_object : serials_in (two_with (first_version 2) (first_version 2) (first_version 3)) ≡ refused_at 1 why.Object
unfolding serials_in
another_object = refl

pub a_first_block_twice :
    serials_in (Some (table 64 (entry 1 ∷ entry 1 ∷ []) 58) ∷ Some (version_bytes (first_version 1)) ∷ []) ≡ refused_at 1 why.Seen
unfolding serials_in
a_first_block_twice = refl

-- the next version of object 1 is in block 3
abbrev pub followed_by : VersionValue → Store
followed_by next = two_with (version 1 1 0 (Some 3) None blank_root) (first_version 2) next

pub followed : serials_in (followed_by (version 1 2 1 None (Some 1) blank_root)) ≡ two_files (1 ∷ 2 ∷ []) (1 ∷ [])
unfolding serials_in
followed = refl

pub a_serial_left_out : serials_in (followed_by (version 1 3 1 None (Some 1) blank_root)) ≡ refused_at 3 why.Serial
unfolding serials_in
a_serial_left_out = refl

pub another_base : serials_in (followed_by (version 1 2 1 None (Some 2) blank_root)) ≡ refused_at 3 why.Base
unfolding serials_in
another_base = refl

pub a_root_not_copied : serials_in (followed_by (version 1 2 0 None (Some 1) blank_root)) ≡ refused_at 3 why.Code
unfolding serials_in
a_root_not_copied = refl

-- ---- members

abbrev pub naming : List MemberValue → VersionValue → VersionValue
naming members v = record v { members = members }

abbrev pub member : ℕ → ℕ → List MemberValue
member object block = record { object = object; block = block } ∷ []

-- the last version of object 1 names this member; block 3 has the next version of object 2, which no link names yet
abbrev pub naming_store : List MemberValue → Option ℕ → Store
naming_store members base =
    two_with (naming members (first_version 1)) (first_version 2) (version 2 2 1 None base blank_root)

pub a_member_counts_before_its_link : serials_in (naming_store (member 2 3) (Some 2)) ≡ two_files (1 ∷ []) (1 ∷ 2 ∷ [])
unfolding serials_in
a_member_counts_before_its_link = refl

pub a_linked_member : serials_in (naming_store (member 2 2) (Some 2)) ≡ two_files (1 ∷ []) (1 ∷ [])
unfolding serials_in
a_linked_member = refl

pub a_member_with_another_base : serials_in (naming_store (member 2 3) (Some 1)) ≡ refused_at 3 why.Base
unfolding serials_in
a_member_with_another_base = refl

pub a_member_of_no_file : serials_in (naming_store (member 3 3) (Some 2)) ≡ refused_at 1 why.Member
unfolding serials_in
a_member_of_no_file = refl

pub the_top_as_its_member : serials_in (naming_store (member 1 3) (Some 2)) ≡ refused_at 1 why.Member
unfolding serials_in
the_top_as_its_member = refl

pub a_member_twice : serials_in (naming_store (member 2 3 ++ member 2 3) (Some 2)) ≡ refused_at 1 why.Member
unfolding serials_in
a_member_twice = refl

-- ---- a table of two blocks

-- block 0 in format 2 names block 1 as part 0; that has this index, and object 1 is in block 2
abbrev pub in_parts : ℕ → Store
in_parts index =
    Some (root_bytes (record { format = 2; blocks = 64; key = 7; parts = Some 1 ∷ replicate 63 None; first = no_entries 60 }))
    ∷ Some (part_bytes index (entry 2 ∷ replicate 62 no_entry))
    ∷ Some (version_bytes (first_version 1))
    ∷ []

pub a_table_in_parts : serials_in (in_parts 0) ≡ Ok ((1 ∷ []) ∷ replicate 4031 [])
unfolding serials_in
a_table_in_parts = refl

pub a_part_of_another_index : serials_in (in_parts 1) ≡ refused_at 1 why.Index
unfolding serials_in
a_part_of_another_index = refl
