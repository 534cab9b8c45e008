-- Stores made by hand that meet the premises of the laws, where the table is or becomes one of format 2: each law is applied to one.
use Rattle.std.proofs.Common.{◌≡◌, ◌≢◌, ◌⊎◌, inr, ℕ, zero, suc, List, [], ◌∷◌, ◌++◌, replicate, Option, Some, None, Ok, refl, sym, arith, slice_get}
use Rattle.page_codec.specs.Blank.{empty_slots, no_entry, no_parts}
use Rattle.page_codec.specs.Values.{EntryValue}
use Rattle.page_codec.specs.NewStore.{new_version}
use Rattle.page_codec.specs.Spelling.{version_bytes}
use Rattle.page_codec.specs.TableSpelling.{root_bytes, part_bytes}
use Rattle.store_model.specs.Found.{LaidStore, state_in, laid}
use Rattle.store_model.specs.Laws.{pages_of}
use Rattle.store_model.specs.NewStores.{root_in_block}
use Rattle.store_model.specs.Changes.{version_in_block}
use Rattle.store_model.specs.Examples.{Store, content_of, entry, table, first_version}
use Rattle.store_model.specs.ChangeExamples.{links_in}
use Rattle.store_model.proofs.Edits.{some_is, none_some}
use Rattle.store_changes.specs.Writes.{part_in_block, part_with, with_part, put_at, InPart, InNewPart}
use Rattle.store_changes.specs.Stands.{Stands, IsPlace}
use Rattle.store_changes.specs.Creating.{NewFile, Created}
use Rattle.store_changes.specs.Upgrading.{IsUnused, widened, state_widened}
use Rattle.store_changes.specs.TableEntries.{HoldsTable}
use Rattle.store_changes.specs.Examples.{root_with, root_in, part_in, wide_root, with_parts, widened_store}
use Rattle.store_changes.proofs.Creating.{creating_adds, creating_adds_part}
use Rattle.store_changes.proofs.Upgrading.{upgrading_widens, upgrading_widens_part}
use Rattle.store_changes.proofs.Shown.{parts_show_no_page}
use Rattle.store_changes.proofs.Trees.{entries_show_the_same}
use Rattle.store_changes.proofs.TableEntries.{tables_hold_entries}
use Rattle.store_changes.proofs.Premises.{file_in_block, no_file_at, before}

-- ---- a store of format 2, with one part

abbrev one_part : List (Option ℕ)
one_part = Some 2 ∷ replicate 63 None

abbrev wide_store : LaidStore
wide_store = record { root = wide_root one_part; files = file_in_block 1 ∷ replicate 4031 no_file_at }

-- ---- an entry in a part that is there

-- part 0 is in block 2; block 3 has the first version of object 2, and is free
abbrev in_part : List EntryValue → Store
in_part entries =
    Some (root_bytes (wide_root one_part))
    ∷ Some (version_bytes (first_version 1))
    ∷ Some (part_bytes 0 entries)
    ∷ Some (version_bytes (first_version 2))
    ∷ []

abbrev part_before : List EntryValue
part_before = part_with 0 (entry 1)

in_part_is_found : laid (content_of (in_part part_before)) 64 [] ≡ Ok (wide_store, 1 ∷ 2 ∷ [])
unfolding links_in
in_part_is_found = refl

page_beside_the_part : version_in_block (content_of (in_part part_before)) 3 ≡ Some (new_version 2)
unfolding links_in empty_slots
page_beside_the_part = refl

new_in_part : NewFile (content_of (in_part part_before)) wide_store (1 ∷ 2 ∷ []) 1 3
new_in_part = record { file = no_file_at; listed = refl; dead = refl; low = omega arith; high = omega arith; free = refl; page = page_beside_the_part }

part_was : part_in_block (content_of (in_part part_before)) 0 2 ≡ Some part_before
unfolding part_in
part_was = refl

part_is : part_in_block (content_of (in_part (put_at (entry 3) 1 part_before))) 0 2 ≡ Some (put_at (entry 3) 1 part_before)
unfolding part_in
part_is = refl

the_part_is_written : InPart (content_of (in_part part_before)) (content_of (in_part (put_at (entry 3) 1 part_before))) wide_store.root 1 (entry 3)
the_part_is_written =
    record {
      format = refl;
      part = 0;
      at = 1;
      place = refl;
      within = omega arith;
      block = 2;
      named = refl;
      entries = part_before;
      was = part_was;
      is = part_is;
      others = but_two;
    }
  where
    but_two : (n : ℕ) → n ≢ 2 → content_of (in_part part_before) n ≡ content_of (in_part (put_at (entry 3) 1 part_before)) n
    but_two zero h = refl
    but_two (suc zero) h = refl
    but_two (suc (suc zero)) h = absurd (h refl)
    but_two (suc (suc (suc n))) h = refl

made_in_part : Created (content_of (in_part (put_at (entry 3) 1 part_before))) 64 wide_store 1 3 (entry 3) (λ n. IsPlace (1 ∷ 2 ∷ []) n ⊎ (n ≡ 3))
made_in_part =
    creating_adds (content_of (in_part part_before)) (content_of (in_part (put_at (entry 3) 1 part_before))) 64 wide_store (1 ∷ 2 ∷ []) in_part_is_found 1 3 new_in_part
    (entry 3) refl (inr the_part_is_written)

-- what is found then is what the law says
made_is_found :
    laid (content_of (in_part (put_at (entry 3) 1 part_before))) 64 []
    ≡ Ok ((let s : LaidStore = record wide_store { files = put_at (file_in_block 3) 1 wide_store.files } in s), 3 ∷ 1 ∷ 2 ∷ [])
unfolding links_in
made_is_found = refl

-- the part shows no page, and the table has the entries of the files
the_part_shows_no_page : pages_of (content_of (in_part part_before)) 2 ≡ None
the_part_shows_no_page = parts_show_no_page (content_of (in_part part_before)) 0 2 part_before part_was

the_parts_have_entries : HoldsTable (content_of (in_part part_before)) wide_store (1 ∷ 2 ∷ [])
the_parts_have_entries = tables_hold_entries (content_of (in_part part_before)) 64 wide_store (1 ∷ 2 ∷ []) in_part_is_found

-- ---- an entry in a new part

-- block 3 has part 1 with the entry of object 64, whose page is in block 4; then block 0 names it
abbrev two_parts : List (Option ℕ)
two_parts = Some 2 ∷ Some 3 ∷ replicate 62 None

new_part_is_found : laid (content_of (with_parts one_part)) 64 [] ≡ Ok (wide_store, 1 ∷ 2 ∷ [])
unfolding links_in
new_part_is_found = refl

page_behind_the_part : version_in_block (content_of (with_parts one_part)) 4 ≡ Some (new_version 64)
unfolding links_in empty_slots
page_behind_the_part = refl

new_behind : NewFile (content_of (with_parts one_part)) wide_store (1 ∷ 2 ∷ []) 63 4
new_behind = record { file = no_file_at; listed = refl; dead = refl; low = omega arith; high = omega arith; free = refl; page = page_behind_the_part }

the_part_holds : part_in_block (content_of (with_parts one_part)) 1 3 ≡ Some (part_with 0 (entry 4))
unfolding part_in
the_part_holds = refl

the_part_is_named : root_in_block (content_of (with_parts two_parts)) 0 ≡ Some (with_part 1 3 wide_store.root)
unfolding root_in
the_part_is_named = refl

a_new_part : InNewPart (content_of (with_parts one_part)) (content_of (with_parts two_parts)) wide_store.root (1 ∷ 2 ∷ []) 63 (entry 4)
a_new_part =
    record {
      format = refl;
      part = 1;
      at = 0;
      place = refl;
      within = omega arith;
      absent = refl;
      block = 3;
      low = omega arith;
      high = omega arith;
      free = refl;
      holds = the_part_holds;
      is = the_part_is_named;
      others = but_zero;
    }
  where
    but_zero : (n : ℕ) → n ≢ 0 → content_of (with_parts one_part) n ≡ content_of (with_parts two_parts) n
    but_zero zero h = absurd (h refl)
    but_zero (suc n) h = refl

made_behind : Created (content_of (with_parts two_parts)) 64 wide_store 63 4 (entry 4) (λ n. IsPlace (1 ∷ 2 ∷ []) n ⊎ ((n ≡ 4) ⊎ (n ≡ 3)))
unfolding a_new_part
made_behind =
    creating_adds_part (content_of (with_parts one_part)) (content_of (with_parts two_parts)) 64 wide_store (1 ∷ 2 ∷ []) new_part_is_found 63 4 new_behind (entry 4) refl
    a_new_part (λ h. omega (arith, h))

the_parts_show_the_same : (n : ℕ) → pages_of (content_of (with_parts two_parts)) n ≡ pages_of (content_of (with_parts one_part)) n
the_parts_show_the_same =
    entries_show_the_same (content_of (with_parts one_part)) (content_of (with_parts two_parts)) 64 wide_store (1 ∷ 2 ∷ []) new_part_is_found 63 (entry 4) (inr a_new_part)

-- ---- an upgrade, where no file ever was

abbrev unused : Store
unused = Some (table 64 [] 60) ∷ []

abbrev unused_store : LaidStore
unused_store = record { root = root_with [] 60; files = replicate 60 no_file_at }

unused_is_found : laid (content_of unused) 64 [] ≡ Ok (unused_store, [])
unfolding links_in
unused_is_found = refl

all_empty : (n k : ℕ) (x : EntryValue) → slice_get (replicate n no_entry) k ≡ Some x → x ≡ no_entry
all_empty zero k x at = none_some at
all_empty (suc n) zero x at = sym (some_is at)
all_empty (suc n) (suc k) x at = all_empty n k x at

no_file_was : IsUnused unused_store.root
no_file_was k x at = all_empty 60 k x at

abbrev unused_widened : Store
unused_widened = Some (root_bytes (widened no_parts (root_with [] 60))) ∷ []

block_zero_alone : root_in_block (content_of unused_widened) 0 ≡ Some (widened no_parts unused_store.root)
unfolding root_in
block_zero_alone = refl

upgraded_alone : Stands (content_of unused_widened) 64 unused_store (λ _. Unit {0}) (state_widened (state_in unused_store)) (IsPlace [])
upgraded_alone =
    upgrading_widens (content_of unused) (content_of unused_widened) 64 unused_store [] unused_is_found refl no_file_was block_zero_alone but_zero
  where
    but_zero : (n : ℕ) → n ≢ 0 → content_of unused n ≡ content_of unused_widened n
    but_zero zero h = absurd (h refl)
    but_zero (suc n) h = refl

as_many_entries :
    laid (content_of unused_widened) 64 []
    ≡ Ok ((let s : LaidStore = record { root = widened no_parts unused_store.root; files = replicate 4032 no_file_at } in s), [])
unfolding links_in
as_many_entries = refl

-- ---- and with part 0

-- block 2 has part 0, and is free; then block 0 names it
abbrev to_be_widened : Store
to_be_widened = Some (table 64 (entry 1 ∷ []) 59) ∷ Some (version_bytes (first_version 1)) ∷ Some (part_bytes 0 (entry 1 ∷ replicate 62 no_entry)) ∷ []

to_be_widened_is_found : laid (content_of to_be_widened) 64 [] ≡ Ok (before, 1 ∷ [])
unfolding links_in
to_be_widened_is_found = refl

the_part_has_sixty : part_in_block (content_of to_be_widened) 0 2 ≡ Some (before.root.first ++ replicate 3 no_entry)
unfolding part_in
the_part_has_sixty = refl

block_zero_names_it : root_in_block (content_of widened_store) 0 ≡ Some (widened (put_at (Some 2) 0 no_parts) before.root)
unfolding root_in
block_zero_names_it = refl

upgraded_with_a_part : Stands (content_of widened_store) 64 before (λ _. Unit {0}) (state_widened (state_in before)) (λ n. IsPlace (1 ∷ []) n ⊎ (n ≡ 2))
upgraded_with_a_part =
    upgrading_widens_part (content_of to_be_widened) (content_of widened_store) 64 before (1 ∷ []) to_be_widened_is_found refl 2 (omega arith) (omega arith) refl
    the_part_has_sixty block_zero_names_it but_zero
  where
    but_zero : (n : ℕ) → n ≢ 0 → content_of to_be_widened n ≡ content_of widened_store n
    but_zero zero h = absurd (h refl)
    but_zero (suc n) h = refl
