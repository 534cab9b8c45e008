-- What the blocks of a new store are, number by number, and that they are read as what they spell.
use Rattle.std.proofs.Common.{◌≡◌, ℕ, zero, suc, ◌+◌, ◌-◌, ◌*◌, ◌/◌, ◌<◌, ◌≤◌, Bool, true, false, cond, nat_eq, nat_le, List, ◌∷◌, map, length, Some, Ok, refl, ap, ◌∙◌, inl, inr, arith}
use Rattle.std.specs.List.{range_with_len, list_any}
use Rattle.std.proofs.lemmas.Bool.{cases_lt, le-leb}
use Rattle.page_codec.specs.Values.{EntryValue, RootValue}
use Rattle.page_codec.specs.Blank.{no_entry, no_entries}
use Rattle.page_codec.specs.Bounds.{IsPart, IsRoot, has_generation}
use Rattle.page_codec.specs.NewStore.{new_entry, new_root, new_version, secret_of}
use Rattle.page_codec.specs.Spelling.{version_bytes}
use Rattle.page_codec.specs.TableReading.{part_of, root_of}
use Rattle.page_codec.specs.TableSpelling.{part_bytes, root_bytes}
use Rattle.page_codec.proofs.CauseLaws.{passes_below, passes_positive}
use Rattle.page_codec.proofs.EntryLaws.{IsEntry-no_entries, IsFirstBelow-no_entries, length-no_entries}
use Rattle.page_codec.proofs.PartLaws.{part_of-part_bytes}
use Rattle.page_codec.proofs.RootLaws.{root_of-root_bytes}
use Rattle.store_model.proofs.NewBytes.{entries_count, entries_lawful}
use Rattle.new_store.specs.declared.store.NewStore.{NewStore}
use Rattle.new_store.specs.Layout.{new_block, part_block, part_blocks, part_of_new, table_of}
use Rattle.new_store.specs.Sizes.{part_count, used_blocks}
use Rattle.new_store.proofs.PartBlocks.{IsPartBelow-part_blocks}

pub block_table : (s : NewStore) → new_block s 0 ≡ root_bytes (table_of s)
unfolding new_block
block_table s = refl

-- behind block 0
inner : NewStore → ℕ → Bool → Bool → List ℕ
inner s n first page = cond first (root_bytes (table_of s)) (cond page (version_bytes (new_version n)) (part_bytes (n - (s.files + 1)) (part_of_new s (n - (s.files + 1)))))

block_is : (s : NewStore) (n : ℕ) (first page : Bool) → nat_eq n 0 ≡ first → nat_le n s.files ≡ page → new_block s n ≡ inner s n first page
unfolding new_block inner
block_is s n first page e e' = ap (λ (t : Bool). inner s n t (nat_le n s.files)) e ∙ ap (λ (t : Bool). inner s n first t) e'

pub block_page : (s : NewStore) (n : ℕ) → 1 ≤ n → n ≤ s.files → new_block s n ≡ version_bytes (new_version n)
unfolding inner
block_page s n low high = block_is s n false true (passes_positive n low) (le-leb n s.files high)

pub block_part : (s : NewStore) (j : ℕ) → new_block s (s.files + 1 + j) ≡ part_bytes j (part_of_new s j)
unfolding inner
block_part s j =
    let n = s.files + 1 + j in
    let past : s.files < n = omega arith in
    let some : 1 ≤ n = omega arith in
    let same : n - (s.files + 1) ≡ j = omega arith in
    block_is s n false false (passes_positive n some) (passes_below n s.files past)
    ∙ ap (λ (i : ℕ). part_bytes i (part_of_new s i)) same

-- the number of parts of a table that has some
pub part_count_two : (files : ℕ) → 60 < files → part_count files ≡ (files + 62) / 63
part_count_two files many = ap (λ (t : Bool). cond t 0 ((files + 62) / 63)) (passes_below files 60 many)

pub length-part_of_new : (s : NewStore) (j : ℕ) → length (part_of_new s j) ≡ 63
unfolding part_of_new
length-part_of_new s j = entries_count s.files s.key (63 * j + 1) 63

used : (s : NewStore) (object n : ℕ) → object ≤ s.files → list_any has_generation (map (new_entry s.files s.key) (range_with_len object (suc n))) ≡ true
used s object n small =
    ap (λ (t : Bool). list_any has_generation (cond t (let e : EntryValue = record { first = Some object; generation = 1; secret = secret_of s.key object 1 } in e) no_entry ∷ map (new_entry s.files s.key) (range_with_len (object + 1) n))) (le-leb object s.files small)

-- a block in use behind the version pages is a part of which a file is there
pub part_is_used : (files n : ℕ) → files < n → n < used_blocks files → 63 * (n - (files + 1)) + 1 ≤ files
part_is_used files n past inside =
    elim (cases_lt 60 files) [
      | inl many ↦ omega (arith, part_count_two files many)
      | inr few ↦ let none : part_count files ≡ 0 = ap (λ (t : Bool). cond t 0 ((files + 62) / 63)) (le-leb files 60 few) in absurd (omega (arith, none))
    ]

-- a part of which a file is there has a spelling
pub part_lawful : (s : NewStore) (j : ℕ) → 63 * j + 1 ≤ s.files → IsPart (part_of_new s j)
unfolding part_of_new
part_lawful s j small =
    record {
      count = entries_count s.files s.key (63 * j + 1) 63;
      each = entries_lawful s.files s.key (63 * j + 1) 63 (omega (arith, s.most)) (omega arith);
      used = used s (63 * j + 1) 62 small;
    }

pub part_read : (s : NewStore) (j : ℕ) → 63 * j + 1 ≤ s.files → part_of j (new_block s (s.files + 1 + j)) ≡ Ok (part_of_new s j)
part_read s j small = part_of-part_bytes j (new_block s (s.files + 1 + j)) (part_of_new s j) (part_lawful s j small) (block_part s j)

-- block 0 in format 2
abbrev pub table_two : NewStore → RootValue
table_two s = record { format = 2; blocks = s.blocks; key = s.key; parts = part_blocks s.files; first = no_entries 60 }

blocks_count : (files j n : ℕ) → length (map (part_block files) (range_with_len j n)) ≡ n
blocks_count files j zero = refl
blocks_count files j (suc n) = ap suc (blocks_count files (j + 1) n)

pub part_blocks-is : (files : ℕ) → part_blocks files ≡ map (part_block files) (range_with_len 0 64)
unfolding part_blocks
part_blocks-is files = refl

pub table_lawful : (s : NewStore) → IsRoot (table_two s)
table_lawful s =
    let room = s.room in
    record {
      sound = record {
        first_format = omega arith;
        last_format = omega arith;
        least = omega (arith, s.some, room);
        most = s.fits;
        parts_below = IsPartBelow-part_blocks s.files s.blocks room;
        first_below = IsFirstBelow-no_entries s.blocks 60;
        no_parts = λ h. absurd cc;
        no_first = λ h. refl;
      };
      key_below = s.word;
      parts_count = ap length (part_blocks-is s.files) ∙ blocks_count s.files 0 64;
      first_count = length-no_entries 60;
      each = IsEntry-no_entries 60;
    }

pub table_read : (s : NewStore) → 60 < s.files → root_of (new_block s 0) ≡ Ok (table_two s)
table_read s many =
    root_of-root_bytes (new_block s 0) (table_two s) (table_lawful s)
    (block_table s ∙ ap (λ (t : Bool). root_bytes (cond t (new_root s.files s.blocks s.key) (table_two s))) (passes_below s.files 60 many))

pub table_one : (s : NewStore) → nat_le s.files 60 ≡ true → new_block s 0 ≡ root_bytes (new_root s.files s.blocks s.key)
table_one s few = block_table s ∙ ap (λ (t : Bool). root_bytes (cond t (new_root s.files s.blocks s.key) (table_two s))) few
