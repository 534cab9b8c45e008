-- A new store is found as such, in both formats; and what the making of one may leave is found as the old files, none, or the new ones.
use mathlib.Core.Path.{fun_ext}
use Rattle.std.proofs.Common.{◌≡◌, inl, inr, ℕ, ◌<◌, ◌≤◌, Bool, true, false, cond, nat_le, List, [], map, length, Some, Ok, refl, sym, ap, ◌∙◌, arith}
use Rattle.std.specs.List.{range_with_len}
use Rattle.std.specs.Option.{option_and_then}
use Rattle.std.proofs.lemmas.Bool.{le-leb, leb-false}
use Rattle.drives.specs.Changes.{Changes}
use Rattle.drives.proofs.Composing.{weaker}
use Rattle.pair_store.specs.Blocks.{SameContents}
use Rattle.tree_model.specs.States.{State, entry_count}
use Rattle.page_codec.specs.NewStore.{new_version}
use Rattle.page_codec.specs.Causes.{version_of}
use Rattle.page_codec.specs.Spelling.{version_bytes}
use Rattle.page_codec.proofs.VersionLaws.{version_of-version_bytes}
use Rattle.store_model.specs.Laid.{LaidFile}
use Rattle.store_model.specs.Laws.{read_of}
use Rattle.store_model.specs.Tables.{parts_from, table_rows}
use Rattle.store_model.specs.Members.{tops_linked}
use Rattle.store_model.specs.Found.{file_in, found, laid, state_of}
use Rattle.store_model.specs.Changes.{version_in_block}
use Rattle.store_model.specs.Walk.{done}
use Rattle.store_model.proofs.PlaceLists.{none_in}
use Rattle.store_model.proofs.Steps.{Content, blocks_of}
use Rattle.store_model.proofs.Stores.{made_again, store_of, unlinked}
use Rattle.store_model.proofs.NewBytes.{new_store_read, version_lawful}
use Rattle.store_model.proofs.NewFiles.{closed_is_refused, found_files, laid_file, new_store_is_found, no_tops}
use Rattle.new_store.specs.declared.store.NewStore.{NewStore}
use Rattle.new_store.specs.Formatting.{IsFormatting}
use Rattle.new_store.specs.Fresh.{OldNoneOrNew, new_files, new_state}
use Rattle.new_store.specs.Layout.{HasNewStore, new_block, part_blocks}
use Rattle.new_store.specs.Sizes.{used_blocks}
use Rattle.new_store.proofs.NewBlocks.{block_page, part_blocks-is, table_one, table_read, table_two}
use Rattle.new_store.proofs.NewParts.{PartsRead, parts_read}
use Rattle.new_store.proofs.NewRows.{FilesRead, files_read}

page_at : (s : NewStore) (c : Content) → HasNewStore s c → (n : ℕ) → 1 ≤ n → n ≤ s.files → c n ≡ Some (version_bytes (new_version n))
page_at s c has n low high =
    let within : n < used_blocks s.files = omega (arith, high) in
    has n within ∙ ap (λ (b : List ℕ). Some b) (block_page s n low high)

pages_read : (s : NewStore) (c : Content) → HasNewStore s c → (n : ℕ) → 1 ≤ n → n ≤ s.files → version_in_block c n ≡ Some (new_version n)
pages_read s c has n low high =
    ap (option_and_then (λ bytes. read_of (version_of bytes))) (page_at s c has n low high)
    ∙ ap read_of (version_of-version_bytes (version_bytes (new_version n)) (new_version n) (version_lawful n low (omega (arith, high, s.most))) refl)

first_within : (s : NewStore) → 0 < used_blocks s.files
first_within s = omega arith

files_within : (s : NewStore) → s.files < s.blocks
files_within s = let room = s.room in omega (arith, room)

-- the state by the format
abbrev state_at : NewStore → Bool → State
state_at s few =
    record { format = cond few 1 2; blocks = s.blocks; key = s.key; files = new_files s.files s.key (entry_count (cond few 1 2)) }

one_found : (s : NewStore) (c : Content) (most : ℕ) → s.blocks ≤ most → HasNewStore s c → nat_le s.files 60 ≡ true → found c most ≡ Ok (state_at s true)
unfolding new_files
one_found s c most room has few =
    new_store_is_found c s.files s.blocks s.key most (files_within s) room
    (new_store_read c s.files s.blocks s.key (files_within s) (omega (arith, s.some, files_within s)) s.fits s.word
    (has 0 (first_within s) ∙ ap (λ (b : List ℕ). Some b) (table_one s few)) (page_at s c has))

-- what is found of so many rows
files_found : (s : NewStore) (n : ℕ) → map file_in (map (laid_file s.files s.key) (range_with_len 1 n)) ≡ new_files s.files s.key n
unfolding new_files
files_found s n = found_files s.files s.key 1 n

two_found : (s : NewStore) (c : Content) (most : ℕ) → s.blocks ≤ most → HasNewStore s c → nat_le s.files 60 ≡ false → found c most ≡ Ok (state_at s false)
unfolding table_rows tops_linked done
two_found s c most room has few =
    let many : 60 < s.files = leb-false s.files 60 few in
    let p : PartsRead c s 0 64 [] = parts_read c s 0 64 [] many has (λ m h. absurd (none_in m h)) in
    let f : FilesRead c s.blocks s.files s.key 1 p.rows p.places = files_read c s.blocks s.files s.key p.rows 1 p.places (files_within s) (omega arith) (λ m h. inr (p.past m h)) (pages_read s c has) p.are in
    let all : List LaidFile = map (laid_file s.files s.key) (range_with_len 1 (length p.rows)) in
    let table : parts_from (blocks_of c s.blocks) 0 (part_blocks s.files) [] ≡ Ok (p.rows, p.places) =
    ap (λ parts. parts_from (blocks_of c s.blocks) 0 parts []) (part_blocks-is s.files) ∙ p.runs in
    let laid_is : laid c most [] ≡ Ok (store_of (table_two s) all, f.places) =
    made_again c most (new_block s 0) (table_two s) p.rows all (unlinked all) p.places f.places f.places
    (has 0 (first_within s)) (table_read s many) (le-leb s.blocks most room) table f.runs
    (ap (λ t. tops_linked (blocks_of c s.blocks) t (unlinked all) f.places) (no_tops s.files s.key 1 1 (length p.rows))) in
    ap state_of laid_is
    ∙ ap (λ l. Ok ((let x : State = record { format = 2; blocks = s.blocks; key = s.key; files = l } in x))) (files_found s (length p.rows) ∙ ap (new_files s.files s.key) p.count)

pub new_store_found : (s : NewStore) (c : Content) (most : ℕ) → s.blocks ≤ most → HasNewStore s c → found c most ≡ Ok (new_state s)
new_store_found s c most room has = of (nat_le s.files 60) refl
  where
    of : (few : Bool) → nat_le s.files 60 ≡ few → found c most ≡ Ok (new_state s)
    of true is = one_found s c most room has is ∙ ap (λ (t : Bool). Ok (state_at s t)) (sym is)
    of false is = two_found s c most room has is ∙ ap (λ (t : Bool). Ok (state_at s t)) (sym is)

-- contents that are the same stand for the same files
same_found : (f g : Content) (most : ℕ) → SameContents f g → found g most ≡ found f most
same_found f g most same = ap (λ (c : Content). found c most) (fun_ext same)

pub formatting_stands : (s : NewStore) (most : ℕ) (f g : Content) → s.blocks ≤ most → IsFormatting s f g → OldNoneOrNew s most f g
formatting_stands s most f g room r =
    elim r.stage [
      | inl same ↦ inl (same_found f g most same)
      | inr other ↦ elim other [
        | inl closed ↦ inr (inl (closed_is_refused g most closed))
        | inr has ↦ inr (inr (new_store_found s g most room has))
      ]
    ]

pub formatting_found : {D : Type 0} (moment : D → ℕ) (left : D → ℕ → Content → Type 0) (s : NewStore) (most : ℕ) (old new : D) → s.blocks ≤ most → Changes moment left old new (IsFormatting s) → Changes moment left old new (OldNoneOrNew s most)
formatting_found moment left s most old new room changes = weaker moment left old new (IsFormatting s) (OldNoneOrNew s most) changes (λ f g _ r. formatting_stands s most f g room r)
