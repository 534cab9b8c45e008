-- Stores made by hand before and after one of their blocks is written: that the laws of such writes speak of something, and what they say there.
-- Each line is checked by computing.
use Rattle.std.specs.Prelude.{◌≡◌, ◌≢◌, ℕ, zero, suc, List, [], ◌∷◌, map, Option, Some, None, option_map, Result, Ok, Err, slice_get, refl}
use Rattle.std.specs.Option.{option_and_then}
use Rattle.page_codec.specs.Values.{VersionValue}
use Rattle.page_codec.specs.Numbers.{big_endian, number_at, zeros, pieces}
use Rattle.page_codec.specs.Blank.{empty_slots, no_entries, no_parts}
use Rattle.page_codec.specs.Spelling.{frame_bytes, version_middle, page_bytes, version_bytes}
use Rattle.page_codec.specs.TableSpelling.{rest_bytes, root_bytes, part_bytes}
use Rattle.page_codec.specs.Reading.{slots, frame_value, members_value, version_value}
use Rattle.page_codec.specs.Causes.{page_causes, version_causes}
use Rattle.page_codec.specs.TableReading.{raw_entries, part_numbers, head_causes, one_causes, two_causes, root_value, part_causes, part_value}
use Rattle.store_model.specs.Walk.{Refused, bind, done, refuse, check, decoded, content_at, if_some, is_new, add, place}
use Rattle.store_model.specs.Laid.{LaidVersion, last_laid}
use Rattle.store_model.specs.Pages.{page_at, own_from, named_from, slot_from, slots_from, pages_below}
use Rattle.store_model.specs.Chains.{follows, version_at, chain_from, chain_at}
use Rattle.store_model.specs.Tables.{part_rows, parts_from, table_rows, files_from}
use Rattle.store_model.specs.Members.{version_linked, member_linked, members_linked, tops_linked}
use Rattle.store_model.specs.Found.{LaidStore, laid_from, laid}
use Rattle.store_model.specs.Changes.{version_in_block, Rewrites, with_commit, without_members}
use Rattle.store_model.specs.Examples.{Store, content_of, entry, table, blank_root, version, first_version, naming, member, two_with, naming_store, serials_in, two_files}

-- the blocks of the versions of an object, which counts from 0, each with the block that it names as the next
abbrev pub links_of : ℕ → Result (LaidStore × List ℕ) Refused → Option (List (ℕ × Option ℕ))
links_of object (Ok x) = option_map (λ file. map (λ v. (v.block, v.commit)) file.versions) (slice_get x.0.files object)
links_of object (Err e) = None

unfoldable pub links_in : Store → ℕ → Option (List (ℕ × Option ℕ))
unfolding big_endian number_at zeros pieces empty_slots no_entries no_parts frame_bytes version_middle page_bytes version_bytes rest_bytes root_bytes part_bytes slots frame_value members_value version_value page_causes version_causes raw_entries part_numbers head_causes one_causes two_causes root_value part_causes part_value bind done refuse check decoded content_at if_some is_new add place page_at own_from named_from slot_from slots_from pages_below follows version_at chain_from chain_at part_rows parts_from table_rows files_from version_linked member_linked members_linked tops_linked laid_from laid
links_in blocks object = links_of object (laid (content_of blocks) 64 [])

-- the version page in a block
unfoldable pub page_in : Store → ℕ → Option VersionValue
unfolding big_endian number_at zeros pieces frame_bytes version_middle version_bytes slots frame_value members_value version_value version_causes
page_in blocks block = version_in_block (content_of blocks) block

-- the serial of the version in a block, read as the next version of an object after the last one that is found, and all places then
abbrev pub next_after : Store → ℕ → ℕ → Result (LaidStore × List ℕ) Refused → Option (ℕ × List ℕ)
next_after blocks object block (Err e) = None
next_after blocks object block (Ok x) =
    option_and_then
    (λ base.
    outcome_of
    (version_at (record { content = content_of blocks; count = x.0.root.blocks }) (suc object) base.block block (Some base) x.1))
    (option_and_then (λ file. last_laid file.versions) (slice_get x.0.files object))
  where
    outcome_of : Result (LaidVersion × List ℕ) Refused → Option (ℕ × List ℕ)
    outcome_of (Ok y) = Some (y.0.serial, y.1)
    outcome_of (Err e) = None

unfoldable pub next_in : Store → ℕ → ℕ → Option (ℕ × List ℕ)
unfolding links_in
next_in blocks object block = next_after blocks object block (laid (content_of blocks) 64 [])

-- ---- a link

-- Object 2 has its first version in block 2. Its second one is in block 3, named by object 1 alone, and then by both.
abbrev pub named_alone : Store
named_alone = naming_store (member 2 3) (Some 2)

abbrev pub named_by_both : Store
named_by_both = two_with (naming (member 2 3) (first_version 1)) (version 2 1 0 (Some 3) None blank_root) (version 2 2 1 None (Some 2) blank_root)

pub the_link_is_outstanding : links_in named_alone 1 ≡ Some ((2, None) ∷ (3, None) ∷ [])
unfolding links_in
the_link_is_outstanding = refl

pub the_link_is_set : links_in named_by_both 1 ≡ Some ((2, Some 3) ∷ (3, None) ∷ [])
unfolding links_in
the_link_is_set = refl

pub the_page_before : page_in named_alone 2 ≡ Some (first_version 2)
unfolding page_in
the_page_before = refl

pub the_page_with_the_link : page_in named_by_both 2 ≡ Some (with_commit 3 (first_version 2))
unfolding page_in
the_page_with_the_link = refl

pub as_many_versions : serials_in named_by_both ≡ two_files (1 ∷ []) (1 ∷ 2 ∷ [])
unfolding serials_in
as_many_versions = refl

-- the premise of the law: block 2 was written, and no other
pub the_link_is_written : Rewrites (content_of named_alone) (content_of named_by_both) 2 (with_commit 3)
unfolding page_in
the_link_is_written = record { page = first_version 2; was = refl; is = refl; others = but_two }
  where
    but_two : (n : ℕ) → n ≢ 2 → content_of named_alone n ≡ content_of named_by_both n
    but_two zero h = refl
    but_two (suc zero) h = refl
    but_two (suc (suc zero)) h = absurd (h refl)
    but_two (suc (suc (suc n))) h = refl

-- ---- a list of members

-- the same without the members of object 1
abbrev pub named_by_its_own : Store
named_by_its_own = two_with (first_version 1) (version 2 1 0 (Some 3) None blank_root) (version 2 2 1 None (Some 2) blank_root)

pub the_page_without_members : page_in named_by_its_own 1 ≡ option_map without_members (page_in named_by_both 1)
unfolding page_in
the_page_without_members = refl

pub as_many_versions_still : serials_in named_by_its_own ≡ two_files (1 ∷ []) (1 ∷ 2 ∷ [])
unfolding serials_in
as_many_versions_still = refl

-- block 1 was written, and no other
pub the_list_is_cleared : Rewrites (content_of named_by_both) (content_of named_by_its_own) 1 without_members
unfolding page_in
the_list_is_cleared = record { page = naming (member 2 3) (first_version 1); was = refl; is = refl; others = but_one }
  where
    but_one : (n : ℕ) → n ≢ 1 → content_of named_by_both n ≡ content_of named_by_its_own n
    but_one zero h = refl
    but_one (suc zero) h = absurd (h refl)
    but_one (suc (suc n)) h = refl

-- cleared before the link is set, the version that no link names is lost
pub a_version_is_lost :
    serials_in (two_with (first_version 1) (first_version 2) (version 2 2 1 None (Some 2) blank_root)) ≡ two_files (1 ∷ []) (1 ∷ [])
unfolding serials_in
a_version_is_lost = refl

-- ---- a commit

-- block 3 has the next version of object 1, and is free; then block 1 names it
abbrev pub before_commit : Store
before_commit = two_with (first_version 1) (first_version 2) (version 1 2 1 None (Some 1) blank_root)

abbrev pub after_commit : Store
after_commit = two_with (version 1 1 0 (Some 3) None blank_root) (first_version 2) (version 1 2 1 None (Some 1) blank_root)

pub the_next_version : next_in before_commit 0 3 ≡ Some (2, 3 ∷ 2 ∷ 1 ∷ [])
unfolding next_in
the_next_version = refl

pub not_yet_found : serials_in before_commit ≡ two_files (1 ∷ []) (1 ∷ [])
unfolding serials_in
not_yet_found = refl

pub the_page_that_commits : page_in after_commit 1 ≡ option_map (with_commit 3) (page_in before_commit 1)
unfolding page_in
the_page_that_commits = refl

pub the_commit_is_written : Rewrites (content_of before_commit) (content_of after_commit) 1 (with_commit 3)
unfolding page_in
the_commit_is_written = record { page = first_version 1; was = refl; is = refl; others = but_one }
  where
    but_one : (n : ℕ) → n ≢ 1 → content_of before_commit n ≡ content_of after_commit n
    but_one zero h = refl
    but_one (suc zero) h = absurd (h refl)
    but_one (suc (suc n)) h = refl

pub found_now : serials_in after_commit ≡ two_files (1 ∷ 2 ∷ []) (1 ∷ [])
unfolding serials_in
found_now = refl

-- ---- a commit of two files

-- block 3 has the next version of object 1, which names that of object 2 in block 4; then block 1 names block 3
abbrev pub two_next : Option ℕ → Store
two_next commit =
    Some (table 64 (entry 1 ∷ entry 2 ∷ []) 58)
    ∷ Some (version_bytes (version 1 1 0 commit None blank_root))
    ∷ Some (version_bytes (first_version 2))
    ∷ Some (version_bytes (naming (member 2 4) (version 1 2 1 None (Some 1) blank_root)))
    ∷ Some (version_bytes (version 2 2 1 None (Some 2) blank_root))
    ∷ []

pub the_top_of_both : next_in (two_next None) 0 3 ≡ Some (2, 3 ∷ 2 ∷ 1 ∷ [])
unfolding next_in
the_top_of_both = refl

pub neither_yet : serials_in (two_next None) ≡ two_files (1 ∷ []) (1 ∷ [])
unfolding serials_in
neither_yet = refl

pub both_at_once : serials_in (two_next (Some 3)) ≡ two_files (1 ∷ 2 ∷ []) (1 ∷ 2 ∷ [])
unfolding serials_in
both_at_once = refl
