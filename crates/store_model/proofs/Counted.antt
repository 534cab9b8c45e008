-- How many entries a table has, and how many files are found.
use Rattle.std.proofs.Common.{◌≡◌, ℕ, zero, suc, ◌*◌, ◌≤◌, ◌==◌, Bool, true, false, cond, List, [], ◌∷◌, ◌++◌, length, map, replicate, Option, Some, None, Ok, ◌⊎◌, inl, inr, refl, sym, ap, subst, ◌∙◌, arith, length-append}
use Rattle.std.proofs.lemmas.List.{length-map, length-replicate}
use Rattle.tree_model.specs.States.{entry_count}
use Rattle.page_codec.specs.Values.{EntryValue, RootValue}
use Rattle.page_codec.specs.Numbers.{pieces, or_none}
use Rattle.page_codec.specs.Blank.{no_entry, no_entries, no_parts}
use Rattle.page_codec.specs.Causes.{first_cause}
use Rattle.page_codec.specs.TableReading.{raw_value, raw_entries, entry_value, part_numbers, root_causes, root_value, part_causes, part_value, root_of, part_of}
use Rattle.page_codec.specs.TableFacts.{RootFacts}
use Rattle.page_codec.proofs.TableFactLaws.{RootFacts-none}
use Rattle.store_model.specs.Walk.{Blocks}
use Rattle.store_model.specs.Laid.{LaidFile}
use Rattle.store_model.specs.Tables.{Row, rows_in, part_rows, parts_from, table_rows, files_from}
use Rattle.store_model.proofs.Giving.{Gives, gives_bind, gives_done, gives_any, gives_if, gives_decoded}
use Rattle.store_model.proofs.Reading.{Uncaused, uncaused}
use Rattle.store_model.proofs.KeptTrees.{length-pieces}

length-raw : (n : ℕ) (b : List ℕ) → length (raw_entries n b) ≡ n
unfolding raw_entries
length-raw n b = length-map (pieces 16 n _) raw_value ∙ length-pieces 16 n _

-- what block 0 says of itself
pub record IsRootShape (root : RootValue) : Type 0 where
  pub format : (root.format ≡ 1) ⊎ (root.format ≡ 2)
  pub entries : length root.first ≡ 60
  pub parts : length root.parts ≡ 64

length-first : (t : Bool) (b : List ℕ) → length (cond t (map entry_value (raw_entries 60 b)) (no_entries 60)) ≡ 60
unfolding no_entries
length-first true b = length-map (raw_entries 60 b) entry_value ∙ length-raw 60 b
length-first false b = length-replicate 60 no_entry

length-parts : (t : Bool) (b : List ℕ) → length (cond t no_parts (map or_none (part_numbers b))) ≡ 64
unfolding no_parts part_numbers
length-parts true b = let none : Option ℕ = None in length-replicate 64 none
length-parts false b = length-map (part_numbers b) or_none ∙ length-map (pieces 4 64 _) _ ∙ length-pieces 4 64 _

pub root_shape : (b : List ℕ) (root : RootValue) → root_of b ≡ Ok root → IsRootShape root
unfolding root_value
root_shape b root e =
    let u : Uncaused (first_cause (root_causes b)) (root_value b) root = uncaused (first_cause (root_causes b)) (root_value b) root e in
    let facts : RootFacts b = RootFacts-none b u.none in
    subst IsRootShape u.value
    (record {
      format = one_or_two _ facts.first_format facts.last_format;
      entries = length-first _ b;
      parts = length-parts _ b;
    })
  where
    one_or_two : (n : ℕ) → 1 ≤ n → n ≤ 2 → (n ≡ 1) ⊎ (n ≡ 2)
    one_or_two zero low high = absurd (omega arith)
    one_or_two (suc zero) low high = inl refl
    one_or_two (suc (suc n)) low high = inr (omega arith)

-- ---- the rows

part_length : (j : ℕ) (b : List ℕ) (entries : List EntryValue) → part_of j b ≡ Ok entries → length entries ≡ 63
unfolding part_value
part_length j b entries e =
    let u : Uncaused (first_cause (part_causes j b)) (part_value b) entries = uncaused (first_cause (part_causes j b)) (part_value b) entries e in
    ap length (sym u.value) ∙ length-map (raw_entries 63 b) entry_value ∙ length-raw 63 b

length-rows : (block : ℕ) (entries : List EntryValue) (n : ℕ) → length entries ≡ n → length (rows_in block entries) ≡ n
length-rows block entries n e = length-map entries _ ∙ e

abbrev SoMany : ℕ → List Row → Type 0
SoMany n rows = length rows ≡ n

gives_part : (blocks : Blocks) (j : ℕ) (part : Option ℕ) → Gives (part_rows blocks j part) (SoMany 63)
unfolding part_rows
gives_part blocks j None = gives_done (rows_in 0 (replicate 63 no_entry)) (SoMany 63) (length-rows 0 (replicate 63 no_entry) 63 (length-replicate 63 no_entry))
gives_part blocks j (Some block) =
    gives_bind _ _ (λ _. Unit {0}) (SoMany 63) (gives_any _)
    (λ bytes _. gives_bind _ _ (λ entries. part_of j bytes ≡ Ok entries) (SoMany 63) (gives_decoded block (part_of j bytes))
    (λ entries e. gives_done (rows_in block entries) (SoMany 63) (length-rows block entries 63 (part_length j bytes entries e))))

gives_parts : (blocks : Blocks) (j : ℕ) (parts : List (Option ℕ)) → Gives (parts_from blocks j parts) (SoMany (63 * length parts))
unfolding parts_from
gives_parts blocks j [] = gives_done [] (SoMany 0) refl
gives_parts blocks j (part ∷ others) =
    gives_bind _ _ (SoMany 63) (SoMany (63 * length (part ∷ others))) (gives_part blocks j part)
    (λ here is. gives_bind _ _ (SoMany (63 * length others)) (SoMany (63 * length (part ∷ others))) (gives_parts blocks (suc j) others)
    (λ rest are. gives_done (here ++ rest) (SoMany (63 * length (part ∷ others))) (omega (arith, length-append here rest, is, are))))

pub gives_rows : (blocks : Blocks) (root : RootValue) → IsRootShape root → Gives (table_rows blocks root) (λ rows. length rows ≡ entry_count root.format)
unfolding table_rows
gives_rows blocks root shape =
    gives_if (root.format == 1) _ _ (SoMany (entry_count root.format))
    (λ one. gives_done (rows_in 0 root.first) (SoMany (entry_count root.format))
    (length-rows 0 root.first 60 shape.entries ∙ ap (λ (b : Bool). cond b 60 4032) (sym one)))
    (λ two seen rows all e.
    gives_parts blocks 0 root.parts seen rows all e ∙ ap (λ n. 63 * n) shape.parts ∙ ap (λ (b : Bool). cond b 60 4032) (sym two))

-- ---- the files

pub gives_count : (blocks : Blocks) (object : ℕ) (rows : List Row) → Gives (files_from blocks object rows) (λ files. length files ≡ length rows)
unfolding files_from
gives_count blocks object [] = gives_done [] (λ (files : List LaidFile). length files ≡ 0) refl
gives_count blocks object (row ∷ others) =
    gives_bind _ _ (λ _. Unit {0}) (λ (files : List LaidFile). length files ≡ length (row ∷ others)) (gives_any _)
    (λ versions _. gives_bind _ _ (λ (files : List LaidFile). length files ≡ length others) (λ (files : List LaidFile). length files ≡ length (row ∷ others))
    (gives_count blocks (suc object) others)
    (λ rest is. gives_done _ (λ (files : List LaidFile). length files ≡ length (row ∷ others)) (ap (λ n. suc n) is)))
