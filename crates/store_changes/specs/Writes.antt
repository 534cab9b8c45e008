-- The writes of a table: which entries it has afterwards.
use Rattle.std.specs.Prelude.{◌≡◌, ◌≢◌, ◌⊎◌, ℕ, ◌+◌, ◌*◌, ◌<◌, ◌≤◌, nat_eq, false, List, replicate, Option, Some, None, slice_get}
use Rattle.std.specs.List.{list_any}
use Rattle.std.specs.Option.{option_and_then}
use Rattle.page_codec.specs.Blank.{no_entry}
use Rattle.page_codec.specs.Values.{EntryValue, RootValue}
use Rattle.page_codec.specs.TableReading.{part_of}
use Rattle.store_model.specs.Laws.{read_of}
use Rattle.store_model.specs.Changes.{changed_at}
use Rattle.store_model.specs.NewStores.{root_in_block}

-- what each block holds, or none where it is closed
abbrev pub Content : Type 0
Content = ℕ → Option (List ℕ)

-- the entries of part j of a table of format 2, where a block holds that part
abbrev pub part_in_block : Content → ℕ → ℕ → Option (List EntryValue)
part_in_block content j block = option_and_then (λ bytes. read_of (part_of j bytes)) (content block)

-- a list with this item at a place
abbrev pub put_at : {X : Type 0} → X → ℕ → List X → List X
put_at x place xs = changed_at (λ _. x) place xs

-- the same table with these entries in block 0, and with this block for a part
abbrev pub with_first : List EntryValue → RootValue → RootValue
with_first entries root = record root { first = entries }

abbrev pub with_part : ℕ → ℕ → RootValue → RootValue
with_part j block root = record root { parts = put_at (Some block) j root.parts }

-- a part with one entry: all others are of no file
abbrev pub part_with : ℕ → EntryValue → List EntryValue
part_with place entry = put_at entry place (replicate 63 no_entry)

-- In format 1: block 0 was written, and has this entry in place of entry k. Entries count from 0,
-- as objects do in these laws.
pub record InRoot (c d : Content) (root : RootValue) (k : ℕ) (entry : EntryValue) : Type 0 where
  pub format : root.format ≡ 1
  pub is : root_in_block d 0 ≡ Some (with_first (put_at entry k root.first) root)
  pub others : (n : ℕ) → n ≢ 0 → c n ≡ d n

-- in format 2: the block of the part that has entry k was written
pub record InPart (c d : Content) (root : RootValue) (k : ℕ) (entry : EntryValue) : Type 0 where
  pub format : root.format ≡ 2
  pub part : ℕ
  pub at : ℕ
  pub place : k ≡ 63 * part + at
  pub within : at < 63
  pub block : ℕ
  pub named : slice_get root.parts part ≡ Some (Some block)
  pub entries : List EntryValue
  pub was : part_in_block c part block ≡ Some entries
  pub is : part_in_block d part block ≡ Some (put_at entry at entries)
  pub others : (n : ℕ) → n ≢ block → c n ≡ d n

-- entry k of the table is this one now, and nothing else was written
abbrev pub WritesEntry : Content → Content → RootValue → ℕ → EntryValue → Type 0
WritesEntry c d root k entry = InRoot c d root k entry ⊎ InPart c d root k entry

-- In format 2, where the part was not there: a block that is no place holds it, with the one entry,
-- and block 0 was written and names it.
pub record InNewPart (c d : Content) (root : RootValue) (places : List ℕ) (k : ℕ)
    (entry : EntryValue) : Type 0 where
  pub format : root.format ≡ 2
  pub part : ℕ
  pub at : ℕ
  pub place : k ≡ 63 * part + at
  pub within : at < 63
  pub absent : slice_get root.parts part ≡ Some None
  pub block : ℕ
  pub low : 1 ≤ block
  pub high : block < root.blocks
  pub free : list_any (nat_eq block) places ≡ false
  pub holds : part_in_block c part block ≡ Some (part_with at entry)
  pub is : root_in_block d 0 ≡ Some (with_part part block root)
  pub others : (n : ℕ) → n ≢ 0 → c n ≡ d n
