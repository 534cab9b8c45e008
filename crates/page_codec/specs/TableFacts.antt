-- What holds of block 0, or a part, to which no cause applies.
use Rattle.std.specs.Prelude.{◌≡◌, ℕ, ◌≤◌, false, nat_le, List, slice_index}
use Rattle.std.specs.List.{list_any, list_all}
use Rattle.afs_base.specs.declared.limits.TheConstants.{BLOCK_BYTES, BLOCK_NUMBERS, MAX_BLOCKS, MIN_BLOCKS, OPEN_GATE, PART_ENTRIES, ROOT_ENTRIES}
use Rattle.page_codec.specs.declared.layout.TheConstants.{ENTRIES_AT, PART, PARTS_END, ROOT_END, TABLE}
use Rattle.page_codec.specs.Causes.{has_other}
use Rattle.page_codec.specs.TableReading.{raw_entries, is_far, is_uncounted, is_stray, is_unused, block_count, part_numbers}

-- of the entries of block 0 in format 1
pub record OneFacts (b : List ℕ) : Type 0 where
  pub far : list_any (is_far (block_count b)) (raw_entries ROOT_ENTRIES b) ≡ false
  pub counted : list_any is_uncounted (raw_entries ROOT_ENTRIES b) ≡ false
  pub stray : list_any is_stray (raw_entries ROOT_ENTRIES b) ≡ false
  pub rest : has_other ROOT_END BLOCK_BYTES b ≡ false

-- of the parts' blocks in format 2
pub record TwoFacts (b : List ℕ) : Type 0 where
  pub far : list_any (nat_le (block_count b)) (part_numbers b) ≡ false
  pub rest : has_other PARTS_END BLOCK_BYTES b ≡ false

-- of block 0
pub record RootFacts (b : List ℕ) : Type 0 where
  pub gate : slice_index b 0 ≡ OPEN_GATE
  pub kind : slice_index b 1 ≡ TABLE
  pub first_format : 1 ≤ slice_index b 2
  pub last_format : slice_index b 2 ≤ 2
  pub least : MIN_BLOCKS ≤ block_count b
  pub most : block_count b ≤ MAX_BLOCKS
  pub plain : slice_index b 3 ≡ 0
  pub one : slice_index b 2 ≡ 1 → OneFacts b
  pub two : (slice_index b 2 ≡ 1 → ⊥) → TwoFacts b

-- of a part
pub record PartFacts (j : ℕ) (b : List ℕ) : Type 0 where
  pub gate : slice_index b 0 ≡ OPEN_GATE
  pub kind : slice_index b 1 ≡ PART
  pub index : slice_index b 2 ≡ j
  pub far : list_any (is_far BLOCK_NUMBERS) (raw_entries PART_ENTRIES b) ≡ false
  pub counted : list_any is_uncounted (raw_entries PART_ENTRIES b) ≡ false
  pub stray : list_any is_stray (raw_entries PART_ENTRIES b) ≡ false
  pub blank : has_other 3 ENTRIES_AT b ≡ false
  pub used : list_all is_unused (raw_entries PART_ENTRIES b) ≡ false
