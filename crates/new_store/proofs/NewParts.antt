-- The parts of a new table are found, one after the other, in the blocks behind the version pages.
use Rattle.std.proofs.Common.{◌≡◌, inl, inr, ℕ, zero, suc, ◌+◌, ◌*◌, ◌<◌, ◌≤◌, Bool, true, false, cond, nat_lt, nat_le, List, [], ◌∷◌, ◌++◌, map, replicate, length, Some, None, Ok, refl, ap, ◌∙◌, arith, length-append}
use Rattle.std.proofs.lemmas.List.{length-replicate}
use Rattle.std.specs.List.{range_with_len}
use Rattle.std.proofs.lemmas.Bool.{ltb-true, ltb-false, le-leb, lt-ltb}
use Rattle.tree_model.proofs.Paths.{both_true}
use Rattle.page_codec.specs.Blank.{no_entry}
use Rattle.page_codec.specs.TableReading.{part_of}
use Rattle.store_model.specs.Walk.{done, decoded, place}
use Rattle.store_model.specs.Tables.{Row, rows_in, part_rows, parts_from}
use Rattle.store_model.proofs.PlaceLists.{IsIn, in_cons}
use Rattle.store_model.proofs.Steps.{Content, blocks_of, went_on}
use Rattle.store_model.proofs.Rewriting.{decodes, places_again}
use Rattle.new_store.specs.declared.store.NewStore.{NewStore}
use Rattle.new_store.specs.Layout.{HasNewStore, new_block, part_block, part_of_new}
use Rattle.new_store.specs.Sizes.{part_count, used_blocks}
use Rattle.new_store.proofs.NewBlocks.{length-part_of_new, part_count_two, part_read}
use Rattle.new_store.proofs.NewRows.{AreRows, AreRows-append, AreRows-in, AreRows-none, length-rows_in}

-- the places found so far are parts before this one
abbrev pub AreParts : ℕ → ℕ → List ℕ → Type 0
AreParts files j seen = (m : ℕ) → IsIn seen m → (files < m) × (m < files + 1 + j)

record OnePart (c : Content) (s : NewStore) (j : ℕ) (seen : List ℕ) : Type 0 where
  rows : List Row
  places : List ℕ
  runs : part_rows (blocks_of c s.blocks) j (part_block s.files j) seen ≡ Ok (rows, places)
  are : AreRows s.files s.key (63 * j + 1) rows
  count : length rows ≡ 63
  past : AreParts s.files (j + 1) places

later : (files j : ℕ) (seen : List ℕ) → AreParts files j seen → AreParts files (j + 1) seen
later files j seen past m h = let low = past m h in (low.0, omega (arith, low.1))

taken : (files j : ℕ) (seen : List ℕ) → AreParts files j seen → AreParts files (j + 1) ((files + 1 + j) ∷ seen)
taken files j seen past m h =
    elim (in_cons (files + 1 + j) m seen h) [
      | inl e ↦ (omega (arith, e), omega (arith, e))
      | inr i ↦ later files j seen past m i
    ]

fresh : (files j : ℕ) (seen : List ℕ) → AreParts files j seen → IsIn seen (files + 1 + j) → ⊥
fresh files j seen past h = let low = past (files + 1 + j) h in omega (arith, low.1)

-- a part that is there has a file; one that is not there has none
first_file : (files j : ℕ) → 60 < files → j < part_count files → 63 * j + 1 ≤ files
first_file files j many low = let e = part_count_two files many in omega (arith, e, low)

no_file : (files j : ℕ) → 60 < files → part_count files ≤ j → files < 63 * j + 1
no_file files j many high = let e = part_count_two files many in omega (arith, e, high)

one_part : (c : Content) (s : NewStore) (j : ℕ) (seen : List ℕ) → 60 < s.files → HasNewStore s c → AreParts s.files j seen → OnePart c s j seen
unfolding part_rows done part_of_new
one_part c s j seen many has past = of (nat_lt j (part_count s.files)) refl
  where
    of : (there : Bool) → nat_lt j (part_count s.files) ≡ there → OnePart c s j seen
    of true is =
        let block = s.files + 1 + j in
        let low : j < part_count s.files = ltb-true j (part_count s.files) is in
        let within : block < used_blocks s.files = omega (arith, low) in
        let in_store : block < s.blocks = omega (arith, within, s.room) in
        let some : 1 ≤ block = omega arith in
        let bytes = new_block s block in
        let entries = part_of_new s j in
        let reads = part_read s j (first_file s.files j many low) in
        record {
          rows = rows_in block entries;
          places = block ∷ seen;
          runs =
              ap (λ (t : Bool). part_rows (blocks_of c s.blocks) j (cond t (Some block) None) seen) is
              ∙ went_on (place (blocks_of c s.blocks) 0 block) _ seen bytes (block ∷ seen) _
              (places_again c s.blocks 0 block seen bytes (both_true (nat_le 1 block) (nat_lt block s.blocks) (le-leb 1 block some) (lt-ltb block s.blocks in_store)) (fresh s.files j seen past) (has block within))
              (went_on (decoded block (part_of j bytes)) _ (block ∷ seen) entries (block ∷ seen) _ (decodes block (part_of j bytes) (block ∷ seen) entries reads) refl);
          are = AreRows-in s.files s.key block (63 * j + 1) 63;
          count = length-rows_in block entries ∙ length-part_of_new s j;
          past = taken s.files j seen past;
        }
    of false is =
        let high : part_count s.files ≤ j = ltb-false j (part_count s.files) is in
        record {
          rows = rows_in 0 (replicate 63 no_entry);
          places = seen;
          runs = ap (λ (t : Bool). part_rows (blocks_of c s.blocks) j (cond t (Some (s.files + 1 + j)) None) seen) is;
          are = AreRows-none s.files s.key 0 (63 * j + 1) 63 (no_file s.files j many high);
          count = length-rows_in 0 (replicate 63 no_entry) ∙ length-replicate 63 no_entry;
          past = later s.files j seen past;
        }

pub record PartsRead (c : Content) (s : NewStore) (j n : ℕ) (seen : List ℕ) : Type 0 where
  pub rows : List Row
  pub places : List ℕ
  pub runs : parts_from (blocks_of c s.blocks) j (map (part_block s.files) (range_with_len j n)) seen ≡ Ok (rows, places)
  pub are : AreRows s.files s.key (63 * j + 1) rows
  pub count : length rows ≡ 63 * n
  pub past : (m : ℕ) → IsIn places m → s.files < m

pub parts_read : (c : Content) (s : NewStore) (j n : ℕ) (seen : List ℕ) → 60 < s.files → HasNewStore s c → AreParts s.files j seen → PartsRead c s j n seen
unfolding parts_from done
parts_read c s j zero seen many has past = record { rows = []; places = seen; runs = refl; are = tt; count = refl; past = λ m h. (past m h).0 }
parts_read c s j (suc n) seen many has past =
    let one : OnePart c s j seen = one_part c s j seen many has past in
    let rest : PartsRead c s (j + 1) n one.places = parts_read c s (j + 1) n one.places many has one.past in
    let next_one : suc j ≡ j + 1 = omega arith in
    let one_count = one.count in
    let rest_count = rest.count in
    record {
      rows = one.rows ++ rest.rows;
      places = rest.places;
      runs =
          went_on (part_rows (blocks_of c s.blocks) j (part_block s.files j)) _ seen one.rows one.places _ one.runs
          (went_on (parts_from (blocks_of c s.blocks) (suc j) (map (part_block s.files) (range_with_len (j + 1) n))) _ one.places rest.rows rest.places _
          (ap (λ (i : ℕ). parts_from (blocks_of c s.blocks) i (map (part_block s.files) (range_with_len (j + 1) n)) one.places) next_one ∙ rest.runs) refl);
      are = AreRows-append s.files s.key (63 * j + 1) (63 * (j + 1) + 1) one.rows rest.rows (omega (arith, one_count)) one.are rest.are;
      count = length-append one.rows rest.rows ∙ omega (arith, one_count, rest_count);
      past = rest.past;
    }
