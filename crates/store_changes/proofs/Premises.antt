-- Stores made by hand that meet the premises of the laws, in format 1: each law is applied to one. What the blocks hold is computed.
use Rattle.std.proofs.Common.{◌≡◌, ◌≢◌, ◌⊎◌, inl, inr, ℕ, zero, suc, ◌+◌, ◌<◌, true, false, length, List, [], ◌∷◌, replicate, Some, None, Ok, refl, sym, ap, subst, ◌∙◌, arith, true≢false, slice_get}
use Rattle.ref_flags.specs.Flagged.{Flagged, no_flags}
use Rattle.ref_flags.specs.Codes.{flags_of}
use Rattle.page_codec.specs.Blank.{empty_slots, no_entry}
use Rattle.page_codec.specs.NewStore.{new_version}
use Rattle.page_codec.specs.Spelling.{version_bytes}
use Rattle.page_places.specs.Places.{block_at}
use Rattle.store_model.specs.Laid.{Node, LaidVersion, LaidFile, last_laid}
use Rattle.store_model.specs.Members.{Linked, names_none, members_linked}
use Rattle.store_model.specs.Chains.{version_at}
use Rattle.store_model.specs.Found.{LaidStore, state_in, laid}
use Rattle.store_model.specs.Laws.{pages_of}
use Rattle.store_model.specs.NewStores.{root_in_block}
use Rattle.store_model.specs.Changes.{version_in_block, files_committed, NextVersion}
use Rattle.store_model.specs.Examples.{Store, content_of, entry, table, shared, version, first_version, three_versions}
use Rattle.store_model.specs.ChangeExamples.{links_in, before_commit, after_commit, the_commit_is_written}
use Rattle.store_model.proofs.PlaceLists.{IsIn, in_cons, in_one}
use Rattle.store_model.proofs.Edits.{some_is, none_some}
use Rattle.store_changes.specs.Writes.{put_at, with_first, InRoot}
use Rattle.store_changes.specs.Stands.{Stands, Another, IsPlace, IsPageOf, IsPageOfAny, IsThereWhole, with_file}
use Rattle.store_changes.specs.Creating.{NewFile, file_made, Created}
use Rattle.store_changes.specs.Destroying.{IsUntied, file_gone}
use Rattle.store_changes.specs.Pruning.{Kept, Pruned, begun_at, freed}
use Rattle.store_changes.specs.TableEntries.{HoldsTable}
use Rattle.store_changes.specs.Examples.{root_with, root_in, before_creation, after_creation, the_entry_is_written, gone, after_destruction, pruned}
use Rattle.store_changes.proofs.Creating.{creating_adds}
use Rattle.store_changes.proofs.Destroying.{destroying_removes}
use Rattle.store_changes.proofs.Pruning.{pruning_keeps}
use Rattle.store_changes.proofs.Counting.{chain_of_places}
use Rattle.store_changes.proofs.InPlaces.{pages_are_places}
use Rattle.store_changes.proofs.Shown.{tables_show_no_page}
use Rattle.store_changes.proofs.Keeping.{free_blocks_are_free, kept_are_kept, commits_keep_versions}
use Rattle.store_changes.proofs.Trees.{links_show_the_same, entries_show_the_same}
use Rattle.store_changes.proofs.TableEntries.{tables_hold_entries}

-- a page of a version's own, and one that is shared
abbrev pub a_node : List ℕ → ℕ → Flagged → List ℕ → Node
a_node path block flags bytes = record { path = path; block = block; flags = flags; modified = 0; bytes = bytes; is_own = true }

abbrev a_shared : List ℕ → ℕ → List ℕ → Node
a_shared path block bytes = record { path = path; block = block; flags = no_flags; modified = 0; bytes = bytes; is_own = false }

-- a first version in this block, without data
abbrev pub first_in : ℕ → LaidVersion
first_in block = record { serial = 1; block = block; commit = None; members = []; nodes = a_node [] block (flags_of 0) [] ∷ [] }

abbrev pub file_in_block : ℕ → LaidFile
file_in_block block = record { entry = entry block; versions = first_in block ∷ [] }

abbrev pub no_file_at : LaidFile
no_file_at = record { entry = no_entry; versions = [] }

-- ---- a creation

abbrev pub before : LaidStore
before = record { root = root_with (entry 1 ∷ []) 59; files = file_in_block 1 ∷ replicate 59 no_file_at }

before_is_found : laid (content_of before_creation) 64 [] ≡ Ok (before, 1 ∷ [])
unfolding links_in
before_is_found = refl

the_page_is : version_in_block (content_of before_creation) 2 ≡ Some (new_version 2)
unfolding links_in empty_slots
the_page_is = refl

pub a_new_file : NewFile (content_of before_creation) before (1 ∷ []) 1 2
a_new_file = record { file = no_file_at; listed = refl; dead = refl; low = omega arith; high = omega arith; free = refl; page = the_page_is }

a_file_is_made : Created (content_of after_creation) 64 before 1 2 (entry 2) (λ n. IsPlace (1 ∷ []) n ⊎ (n ≡ 2))
a_file_is_made =
    creating_adds (content_of before_creation) (content_of after_creation) 64 before (1 ∷ []) before_is_found 1 2 a_new_file (entry 2) refl (inl the_entry_is_written)

-- the table shows no page, and holds the entries of the files; each block shows the page that it showed
the_table_is : root_in_block (content_of before_creation) 0 ≡ Some (root_with (entry 1 ∷ []) 59)
unfolding root_in
the_table_is = refl

the_table_shows_no_page : pages_of (content_of before_creation) 0 ≡ None
the_table_shows_no_page = tables_show_no_page (content_of before_creation) 0 (root_with (entry 1 ∷ []) 59) the_table_is

the_table_has_entries : HoldsTable (content_of before_creation) before (1 ∷ [])
the_table_has_entries = tables_hold_entries (content_of before_creation) 64 before (1 ∷ []) before_is_found

the_same_is_shown : (n : ℕ) → pages_of (content_of after_creation) n ≡ pages_of (content_of before_creation) n
the_same_is_shown =
    entries_show_the_same (content_of before_creation) (content_of after_creation) 64 before (1 ∷ []) before_is_found 1 (entry 2) (inl (inl the_entry_is_written))

-- ---- a block that is no place

-- before the page of the new file was written
abbrev one_alone : Store
one_alone = Some (table 64 (entry 1 ∷ []) 59) ∷ Some (version_bytes (first_version 1)) ∷ []

one_alone_is_found : laid (content_of one_alone) 64 [] ≡ Ok (before, 1 ∷ [])
unfolding links_in
one_alone_is_found = refl

one_block_is_written : (n : ℕ) → n ≢ 2 → content_of one_alone n ≡ content_of before_creation n
one_block_is_written zero h = refl
one_block_is_written (suc zero) h = refl
one_block_is_written (suc (suc zero)) h = absurd (h refl)
one_block_is_written (suc (suc (suc n))) h = refl

the_same_is_found : laid (content_of before_creation) 64 [] ≡ Ok (before, 1 ∷ [])
the_same_is_found =
    free_blocks_are_free (content_of one_alone) (content_of before_creation) 64 before (1 ∷ []) one_alone_is_found 2 (omega arith) refl one_block_is_written

-- ---- a destruction

abbrev pub two_files : LaidStore
two_files = record { root = root_with (entry 1 ∷ entry 2 ∷ []) 58; files = file_in_block 1 ∷ file_in_block 2 ∷ replicate 58 no_file_at }

two_are_found : laid (content_of after_creation) 64 [] ≡ Ok (two_files, 2 ∷ 1 ∷ [])
unfolding links_in
two_are_found = refl

-- what is found after the creation is what the law says
two_are_as_made : state_in two_files ≡ with_file 1 (file_made (entry 2)) (state_in before)
two_are_as_made = refl

-- none of the files names members
pub no_top : (n k : ℕ) (file : LaidFile) (last : LaidVersion) → slice_get (replicate n no_file_at) k ≡ Some file → last_laid file.versions ≡ Some last → ⊥
no_top zero k file last at is = none_some at
no_top (suc n) zero file last at is = none_some (ap (λ (f : LaidFile). last_laid f.versions) (some_is at) ∙ is)
no_top (suc n) (suc k) file last at is = no_top n k file last at is

pub names_some_not : (k : ℕ) (file : LaidFile) (last : LaidVersion) → slice_get two_files.files k ≡ Some file → last_laid file.versions ≡ Some last → names_none last ≡ true
names_some_not zero file last at is = ap names_none (sym (some_is (ap (λ (f : LaidFile). last_laid f.versions) (some_is at) ∙ is)))
names_some_not (suc zero) file last at is = ap names_none (sym (some_is (ap (λ (f : LaidFile). last_laid f.versions) (some_is at) ∙ is)))
names_some_not (suc (suc k)) file last at is = absurd (no_top 58 k file last at is)

pub an_untied_file : IsUntied two_files 1 (file_in_block 2)
an_untied_file =
    record {
      none = λ last is. names_some_not 1 (file_in_block 2) last refl is;
      unnamed = λ top is k member at. absurd (true≢false (sym (names_some_not is.object is.file top is.listed is.last) ∙ is.names));
    }

the_table_without : root_in_block (content_of after_destruction) 0 ≡ Some (with_first (put_at gone 1 two_files.root.first) two_files.root)
unfolding root_in
the_table_without = refl

the_entry_is_emptied : InRoot (content_of after_creation) (content_of after_destruction) two_files.root 1 gone
the_entry_is_emptied = record { format = refl; is = the_table_without; others = but_zero }
  where
    but_zero : (n : ℕ) → n ≢ 0 → content_of after_creation n ≡ content_of after_destruction n
    but_zero zero h = absurd (h refl)
    but_zero (suc n) h = refl

a_file_is_gone : Stands (content_of after_destruction) 64 two_files (Another 1) (with_file 1 (file_gone gone) (state_in two_files))
    (λ n. IsPlace (2 ∷ 1 ∷ []) n × (IsPageOfAny (file_in_block 2).versions n → ⊥))
a_file_is_gone =
    destroying_removes (content_of after_creation) (content_of after_destruction) 64 two_files (2 ∷ 1 ∷ []) two_are_found 1 (file_in_block 2) refl an_untied_file gone refl
    (inl the_entry_is_emptied)

one_is_left :
    laid (content_of after_destruction) 64 []
    ≡ Ok ((let s : LaidStore = record { root = root_with (entry 1 ∷ gone ∷ []) 58; files = put_at (record { entry = gone; versions = [] }) 1 two_files.files } in s), 1 ∷ [])
unfolding links_in
one_is_left = refl

-- ---- a pruning

-- the three versions of a file: the second wrote `/0`, and the third shares both pages
abbrev first_of_three : LaidVersion
first_of_three =
    record {
      serial = 1;
      block = 1;
      commit = Some 4;
      members = [];
      nodes = a_node [] 1 (flags_of 0) [] ∷ a_node (0 ∷ []) 2 no_flags (10 ∷ []) ∷ a_node (1 ∷ []) 3 no_flags (11 ∷ []) ∷ [];
    }

abbrev second_of_three : LaidVersion
second_of_three =
    record {
      serial = 2;
      block = 4;
      commit = Some 6;
      members = [];
      nodes = a_node [] 4 (flags_of 2) [] ∷ a_node (0 ∷ []) 5 (flags_of 1) (12 ∷ []) ∷ a_shared (1 ∷ []) 3 (11 ∷ []) ∷ [];
    }

abbrev third_of_three : LaidVersion
third_of_three =
    record {
      serial = 3;
      block = 6;
      commit = None;
      members = [];
      nodes = a_node [] 6 (flags_of 7) (104 ∷ 105 ∷ []) ∷ a_shared (0 ∷ []) 5 (12 ∷ []) ∷ a_shared (1 ∷ []) 3 (11 ∷ []) ∷ [];
    }

abbrev three_file : LaidFile
three_file = record { entry = entry 1; versions = first_of_three ∷ second_of_three ∷ third_of_three ∷ [] }

abbrev three_store : LaidStore
three_store = record { root = root_with (entry 1 ∷ []) 59; files = three_file ∷ replicate 59 no_file_at }

three_are_found : laid (content_of (three_versions (shared 5) (shared 3))) 64 [] ≡ Ok (three_store, 6 ∷ 5 ∷ 4 ∷ 3 ∷ 2 ∷ 1 ∷ [])
unfolding links_in
three_are_found = refl

pub a_kept_version : Kept three_store 0 1
a_kept_version = record { file = three_file; first = second_of_three; listed = refl; kept = refl; linked = by }
  where
    by : (i : ℕ) (version : LaidVersion) → i < 1 → slice_get three_file.versions i ≡ Some version → version.commit ≢ None
    by zero version small at none = let clash : Some 4 ≡ None = ap (λ (v : LaidVersion). v.commit) (some_is at) ∙ none in absurd cc
    by (suc i) version small at none = omega (arith, small)

the_table_then : root_in_block (content_of pruned) 0 ≡ Some (with_first (put_at (begun_at 4 (entry 1)) 0 three_store.root.first) three_store.root)
unfolding root_in
the_table_then = refl

the_first_is_named : InRoot (content_of (three_versions (shared 5) (shared 3))) (content_of pruned) three_store.root 0 (begun_at 4 (entry 1))
the_first_is_named = record { format = refl; is = the_table_then; others = but_zero }
  where
    but_zero : (n : ℕ) → n ≢ 0 → content_of (three_versions (shared 5) (shared 3)) n ≡ content_of pruned n
    but_zero zero h = absurd (h refl)
    but_zero (suc n) h = refl

abbrev three_places : List ℕ
three_places = 6 ∷ 5 ∷ 4 ∷ 3 ∷ 2 ∷ 1 ∷ []

a_file_is_pruned : Pruned (content_of pruned) 64 three_store three_places 0 1 a_kept_version
unfolding a_kept_version
a_file_is_pruned =
    pruning_keeps (content_of (three_versions (shared 5) (shared 3))) (content_of pruned) 64 three_store three_places three_are_found 0 1 a_kept_version (inl the_first_is_named)

-- the third version shares `/1` with the first one, in block 3; the second one, which is kept, has it too
a_shared_block_is_kept : IsPageOf second_of_three 3
unfolding a_kept_version
a_shared_block_is_kept =
    kept_are_kept (content_of (three_versions (shared 5) (shared 3))) (content_of pruned) 64 three_store three_places three_are_found 0 1 a_kept_version (inl the_first_is_named)
    1 third_of_three refl 3 (1 ∷ [], refl) (0, first_of_three, refl, (1 ∷ [], refl))

-- ---- what became free

-- the second version as the first one
abbrev second_as_first : LaidVersion
second_as_first =
    record {
      serial = 2;
      block = 4;
      commit = Some 6;
      members = [];
      nodes = a_node [] 4 (flags_of 2) [] ∷ a_node (0 ∷ []) 5 (flags_of 1) (12 ∷ []) ∷ a_node (1 ∷ []) 3 no_flags (11 ∷ []) ∷ [];
    }

abbrev pruned_store : LaidStore
pruned_store =
    record {
      root = root_with (entry 4 ∷ []) 59;
      files = record { entry = entry 4; versions = second_as_first ∷ third_of_three ∷ [] } ∷ replicate 59 no_file_at;
    }

pruned_is_found : laid (content_of pruned) 64 [] ≡ Ok (pruned_store, 6 ∷ 3 ∷ 5 ∷ 4 ∷ [])
unfolding links_in
pruned_is_found = refl

were_places : (n : ℕ) → IsPlace (6 ∷ 3 ∷ 5 ∷ 4 ∷ []) n → IsPlace three_places n
were_places n h = elim (in_cons 6 n (3 ∷ 5 ∷ 4 ∷ []) h) [
  | inl x ↦ subst (IsIn three_places) (sym x) refl
  | inr i ↦ elim (in_cons 3 n (5 ∷ 4 ∷ []) i) [
    | inl x ↦ subst (IsIn three_places) (sym x) refl
    | inr j ↦ elim (in_cons 5 n (4 ∷ []) j) [ inl x ↦ subst (IsIn three_places) (sym x) refl | inr k ↦ subst (IsIn three_places) (sym (in_one 4 n k)) refl ]
  ]
]

two_blocks_are_free : length (freed three_places (6 ∷ 3 ∷ 5 ∷ 4 ∷ [])) + 4 ≡ 6
two_blocks_are_free =
    (chain_of_places (content_of (three_versions (shared 5) (shared 3))) (content_of pruned) 64 three_store pruned_store three_places (6 ∷ 3 ∷ 5 ∷ 4 ∷ []) three_are_found
    pruned_is_found were_places).1

these_are_free : freed three_places (6 ∷ 3 ∷ 5 ∷ 4 ∷ []) ≡ 2 ∷ 1 ∷ []
these_are_free = refl

-- ---- pages in places

the_way_to_one : block_at (pages_of (content_of (three_versions (shared 5) (shared 3)))) 4 (1 ∷ []) ≡ Some 3
unfolding links_in
the_way_to_one = refl

a_page_is_in_a_place : IsPlace three_places 3
a_page_is_in_a_place =
    pages_are_places (content_of (three_versions (shared 5) (shared 3))) 64 three_store three_places three_are_found second_of_three
    (record { object = 0; file = three_file; place = 1; listed = refl; kept = refl }) (1 ∷ []) 3 the_way_to_one

-- ---- a commit

-- block 3 has the next version of object 1, and is free; then block 1 names it
abbrev second_in : ℕ → LaidVersion
second_in block = record { serial = 2; block = block; commit = None; members = []; nodes = a_node [] block (flags_of 1) [] ∷ [] }

two_before_commit : laid (content_of before_commit) 64 [] ≡ Ok (two_files, 2 ∷ 1 ∷ [])
unfolding links_in
two_before_commit = refl

the_next_is_read :
    version_at (record { content = content_of before_commit; count = 64 }) 1 1 3 (Some (first_in 1)) (2 ∷ 1 ∷ []) ≡ Ok (second_in 3, 3 ∷ 2 ∷ 1 ∷ [])
unfolding links_in
the_next_is_read = refl

abbrev two_linked : Linked
two_linked = record { files = (files_committed 0 3 (second_in 3) two_files).files; named = 1 ∷ [] }

no_member_is_looked_at :
    members_linked (record { content = content_of before_commit; count = 64 }) (record { object = 1; version = second_in 3 }) []
    (files_committed 0 3 (second_in 3) two_files) (3 ∷ 2 ∷ 1 ∷ [])
    ≡ Ok (two_linked, 3 ∷ 2 ∷ 1 ∷ [])
unfolding links_in
no_member_is_looked_at = refl

a_next_version : NextVersion (content_of before_commit) two_files (2 ∷ 1 ∷ [])
a_next_version =
    record {
      object = 0;
      file = file_in_block 1;
      base = first_in 1;
      listed = refl;
      last = refl;
      none = refl;
      block = 3;
      version = second_in 3;
      own = 3 ∷ 2 ∷ 1 ∷ [];
      read = the_next_is_read;
      nil = refl;
      linked = two_linked;
      after = 3 ∷ 2 ∷ 1 ∷ [];
      members = no_member_is_looked_at;
      unnamed = λ top is k member at. absurd (true≢false (sym (names_some_not is.object is.file top is.listed is.last) ∙ is.names));
    }

abbrev two_then : LaidStore
two_then = record { root = two_files.root; files = two_linked.files }

two_after_commit : laid (content_of after_commit) 64 [] ≡ Ok (two_then, 2 ∷ 3 ∷ 1 ∷ [])
unfolding links_in
two_after_commit = refl

the_first_is_there : IsThereWhole two_then 0 0 (first_in 1)
unfolding a_next_version
the_first_is_there =
    commits_keep_versions (content_of before_commit) (content_of after_commit) 64 two_files (2 ∷ 1 ∷ []) two_before_commit a_next_version the_commit_is_written
    two_then (2 ∷ 3 ∷ 1 ∷ []) two_after_commit (first_in 1)
    (record { object = 0; file = file_in_block 1; place = 0; listed = refl; kept = refl })

the_commit_shows_the_same : (n : ℕ) → pages_of (content_of after_commit) n ≡ pages_of (content_of before_commit) n
the_commit_shows_the_same = links_show_the_same (content_of before_commit) (content_of after_commit) 1 _ the_commit_is_written (λ page. refl)
