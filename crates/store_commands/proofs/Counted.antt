-- What is counted of a store that was opened is what its state has.
use Rattle.std.proofs.Common.{◌≡◌, ℕ, ◌+◌, ◌-◌, ◌*◌, ◌==◌, Bool, not, cond, nat_eq, nat_lt, List, [], ◌∷◌, length, map, filter, take, drop, sum_by, count_by, Option, Some, option_map, Ok, refl, sym, ap, ◌∙◌, slice_get, arith}
use Rattle.std.specs.Option.{is_some}
use Rattle.std.specs.List.{list_any}
use Rattle.std.proofs.lemmas.List.{length-map}
use Rattle.std.proofs.lemmas.List.Sums.{sum_by-cons}
use Rattle.std.proofs.lemmas.Simd.{map-map}
use Rattle.page_codec.specs.Values.{EntryValue, TableValue}
use Rattle.page_codec.specs.Bounds.{has_generation}
use Rattle.page_codec.specs.TableSpelling.{part_entries}
use Rattle.tree_model.specs.States.{State, File, Version, group_of, is_live, is_used, table_blocks}
use Rattle.tree_model.specs.Trees.{numbers_below}
use Rattle.service_model.specs.Standing.{kept_blocks}
use Rattle.store_model.specs.Laid.{LaidVersion, LaidFile, Node, last_laid}
use Rattle.store_model.specs.Found.{LaidStore, file_in, laid, state_in, version_in}
use Rattle.store_model.proofs.Chaining.{last_from}
use Rattle.store_model.proofs.LastVersions.{last_get}
use Rattle.store_model.proofs.Lying.{Each}
use Rattle.store_check.specs.Checked.{LikeTable}
use Rattle.store_check.specs.Files.{kept_by, own_pages}
use Rattle.afs_base.specs.declared.head.Head.{Head}
use Rattle.recovery.specs.Opening.{head_of, heads_of}
use Rattle.store_commands.specs.Counting.{blocks_of_table, counted_text, head_kept, head_versions, heads_kept, heads_live, heads_versions, used_parts}
use Rattle.store_commands.specs.Texts.{check_text, counts_text, free_count, kept_count, live_count, version_count}
use Rattle.store_commands.proofs.Numbering.{IsNumbered, Rises, last_serial, files_numbered}
use Rattle.store_commands.proofs.Sums.{above_0, any_same, some_above, sums_same}

-- ---- which counts make the same line

-- a state has the numbers of a table and its heads
pub record HasCounts (table : TableValue) (heads : List (Option Head)) (state : State) : Type 0 where
  pub format : state.format ≡ table.format
  pub blocks : state.blocks ≡ table.blocks
  pub generations : map (λ (e : EntryValue). e.generation) table.entries ≡ map (λ (f : File). f.generation) state.files
  pub live : heads_live heads ≡ live_count state
  pub versions : heads_versions heads ≡ version_count state
  pub kept : heads_kept heads ≡ kept_count state

parts_same : (entries : List EntryValue) (files : List File) → map (λ (e : EntryValue). e.generation) entries ≡ map (λ (f : File). f.generation) files
    → (j : ℕ) → list_any has_generation (part_entries j entries) ≡ is_used (group_of files j)
parts_same entries files same j =
    any_same (λ n. not (n == 0)) (λ (e : EntryValue). e.generation) (λ (f : File). f.generation) 63 (63 * j) entries files same
    ∙ ap (λ (test : ℕ → Bool). list_any (λ (f : File). test f.generation) (take 63 (drop (63 * j) files))) (λ i n. above_0 n i)

table_same : (table : TableValue) (heads : List (Option Head)) (state : State) → HasCounts table heads state → blocks_of_table table ≡ table_blocks state
table_same table heads state counts =
    let used : used_parts table ≡ count_by (λ j. is_used (group_of state.files j)) (numbers_below 64)
    = ap (λ (test : ℕ → Bool). count_by test (numbers_below 64)) (λ i j. parts_same table.entries state.files counts.generations j i) in
    ap (λ n. cond (nat_eq table.format 1) 1 (1 + n)) used ∙ ap (λ n. cond (nat_eq n 1) 1 (1 + count_by (λ j. is_used (group_of state.files j)) (numbers_below 64))) (sym counts.format)

pub text_same : (table : TableValue) (heads : List (Option Head)) (state : State) → HasCounts table heads state → check_text state ≡ counted_text table heads
text_same table heads state counts =
    let free : table.blocks - blocks_of_table table - heads_kept heads ≡ free_count state
    = (λ i. sym counts.blocks i - table_same table heads state counts i - counts.kept i) in
    sym (λ i. counts_text (counts.live i) (counts.versions i) (counts.kept i) (free i))

-- ---- the state that is found

-- what is told of a chain that is not empty
head_some : (version : LaidVersion) (rest : List LaidVersion)
    → head_of (version ∷ rest)
    ≡ Some (let h : Head = record { block = (last_from version rest).block; first = version.serial; serial = (last_from version rest).serial; kept = kept_by (version ∷ rest) } in h)
head_some version rest =
    let one : length (version ∷ rest) - 1 ≡ length rest = omega arith in
    let last : last_laid (version ∷ rest) ≡ Some (last_from version rest) = ap (slice_get (version ∷ rest)) one ∙ last_get version rest in
    ap (option_map (λ (v : LaidVersion). (let h : Head = record { block = v.block; first = version.serial; serial = v.serial; kept = kept_by (version ∷ rest) } in h))) last

live_same : (versions : List LaidVersion) → is_some (head_of versions) ≡ nat_lt 0 (length (map version_in versions))
live_same [] = refl
live_same (version ∷ rest) = ap (λ (h : Option Head). is_some h) (head_some version rest) ∙ some_above (length (map version_in rest))

versions_same : (versions : List LaidVersion) → Rises versions → head_versions (head_of versions) ≡ length (map version_in versions)
versions_same [] rises = refl
versions_same (version ∷ rest) rises =
    ap head_versions (head_some version rest) ∙ omega (arith, last_serial version rest rises, length-map (version ∷ rest) version_in)

fresh_same : (versions : List LaidVersion) → kept_by versions ≡ sum_by (λ (v : Version). length v.fresh) (map version_in versions)
fresh_same [] = refl
fresh_same (version ∷ others) =
    let fresh : Version → ℕ = λ v. length v.fresh in
    let here : own_pages version ≡ length (version_in version).fresh = sym (length-map (filter (λ (node : Node). node.is_own) version.nodes) (λ (node : Node). node.path)) in
    sum_by-cons own_pages version others ∙ (λ i. here i + fresh_same others i) ∙ sym (sum_by-cons fresh (version_in version) (map version_in others))

kept_same : (versions : List LaidVersion) → head_kept (head_of versions) ≡ sum_by (λ (v : Version). length v.fresh) (map version_in versions)
kept_same [] = refl
kept_same (version ∷ rest) = ap head_kept (head_some version rest) ∙ fresh_same (version ∷ rest)

-- the numbers of a store that was opened are those of its state
pub found_counts : (content : ℕ → Option (List ℕ)) (most : ℕ) (store : LaidStore) (places : List ℕ) (table : TableValue) → laid content most [] ≡ Ok (store, places) → LikeTable table store
    → HasCounts table (heads_of store.files) (state_in store)
found_counts content most store places table found like =
    let each : Each IsNumbered store.files = files_numbered content most store places found in
    record {
      format = sym like.format;
      blocks = sym like.blocks;
      generations =
          ap (map (λ (e : EntryValue). e.generation)) like.entries
          ∙ map-map (λ (e : EntryValue). e.generation) (λ (file : LaidFile). file.entry) store.files
          ∙ sym (map-map (λ (f : File). f.generation) file_in store.files);
      live = sums_same (λ (h : Option Head). cond (is_some h) 1 0) (λ (f : File). cond (is_live f) 1 0) (λ (file : LaidFile). head_of file.versions) file_in IsNumbered store.files
          (λ file _. ap (λ (b : Bool). cond b 1 0) (live_same file.versions)) each;
      versions = sums_same head_versions (λ (f : File). length f.versions) (λ (file : LaidFile). head_of file.versions) file_in IsNumbered store.files
          (λ file numbered. versions_same file.versions numbered.rising) each;
      kept = sums_same head_kept kept_blocks (λ (file : LaidFile). head_of file.versions) file_in IsNumbered store.files
          (λ file _. kept_same file.versions) each;
    }
