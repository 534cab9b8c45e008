-- The table of a store that is found takes block 0, and in format 2 one block for each part that is there: those are the parts with an entry
-- where a file once was.
use Rattle.std.proofs.Common.{◌≡◌, inl, inr, ℕ, zero, suc, ◌+◌, ◌*◌, ◌<◌, ◌≤◌, ◌&&◌, ◌||◌, ◌==◌, Bool, true, false, cond, nat_lt, List, [], ◌∷◌, ◌++◌, length, map, take, drop, replicate, Option, Some, None, Ok, refl, sym, ap, ◌∙◌, arith, true≢false, slice_get, get_or}
use Rattle.std.specs.Prelude.{is_some}
use Rattle.std.specs.List.{count_by, list_all, list_any}
use Rattle.std.proofs.lemmas.Bool.{lt-ltb}
use Rattle.std.proofs.lemmas.List.{drop-map, take-map, take_all}
use Rattle.std.proofs.lemmas.List.Elements.{All-replicate}
use Rattle.std.proofs.lemmas.List.Folds.{list_any_none}
use Rattle.std.proofs.lemmas.List.Sums.{sum_by_more, sum_by_push}
use Rattle.std.proofs.lemmas.Option.{slice_get-get_or}
use Rattle.page_codec.specs.Blank.{no_entry}
use Rattle.page_codec.specs.Causes.{first_cause}
use Rattle.page_codec.specs.TableFacts.{PartFacts}
use Rattle.page_codec.specs.TableReading.{entry_value, is_unused, part_causes, part_of, part_value, raw_entries, root_of}
use Rattle.page_codec.specs.Values.{EntryValue}
use Rattle.page_codec.specs.declared.raw_entry.RawEntry.{RawEntry}
use Rattle.page_codec.proofs.TableFactLaws.{PartFacts-none}
use Rattle.store_changes.specs.TableEntries.{HoldsTable, IsPartOf, part_entries}
use Rattle.store_changes.specs.Writes.{Content}
use Rattle.store_changes.proofs.Shown.{Told, told_of}
use Rattle.store_changes.proofs.TableEntries.{tables_hold_entries}
use Rattle.store_check.specs.Counts.{parts_in}
use Rattle.store_model.specs.Found.{LaidStore, file_in, laid, state_in}
use Rattle.store_model.specs.Laid.{LaidFile}
use Rattle.store_model.proofs.Counted.{IsRootShape, root_shape}
use Rattle.store_model.proofs.Reading.{Uncaused, uncaused}
use Rattle.tree_model.specs.States.{File, group_of, is_used, table_blocks}
use Rattle.tree_model.specs.Trees.{numbers_below}
use Rattle.tree_model.proofs.PlaceFacts.{any_map}
use Rattle.block_map.proofs.Counting.{one}

-- ---- parts

-- a file was once in the entry
abbrev was_used : EntryValue → Bool
was_used entry = nat_lt 0 entry.generation

some_used : (raws : List RawEntry) → list_all is_unused raws ≡ false → list_any was_used (map entry_value raws) ≡ true
some_used [] h = absurd (true≢false h)
some_used (raw ∷ raws) h = by raw.generation h (some_used raws)
  where
    by : (n : ℕ) → ((n == 0) && list_all is_unused raws) ≡ false → (list_all is_unused raws ≡ false → list_any was_used (map entry_value raws) ≡ true)
        → (nat_lt 0 n || list_any was_used (map entry_value raws)) ≡ true
    by zero e rest = rest e
    by (suc n) e rest = ap (λ b. b || list_any was_used (map entry_value raws)) (lt-ltb 0 (suc n) (omega arith))

-- a part that is there has an entry where a file once was
part_is_used : (j : ℕ) (bytes : List ℕ) (entries : List EntryValue) → part_of j bytes ≡ Ok entries → list_any was_used entries ≡ true
unfolding part_value
part_is_used j bytes entries e =
    let u : Uncaused (first_cause (part_causes j bytes)) (part_value bytes) entries = uncaused (first_cause (part_causes j bytes)) (part_value bytes) entries e in
    let facts : PartFacts j bytes = PartFacts-none j bytes u.none in
    ap (list_any was_used) (sym u.value) ∙ some_used (raw_entries 63 bytes) facts.used

-- and where it is not there, there is none
none_used : list_any was_used (replicate 63 no_entry) ≡ false
none_used = list_any_none was_used (replicate 63 no_entry) (All-replicate (λ (e : EntryValue). was_used e ≡ false) 63 no_entry refl)

part_told : (content : Content) (places : List ℕ) (j : ℕ) (part : Option ℕ) (entries : List EntryValue) → IsPartOf content places j part entries
    → list_any was_used entries ≡ is_some part
part_told content places j None entries is = ap (list_any was_used) is ∙ none_used
part_told content places j (Some block) entries is =
    let t : Told (content block) (part_of j) entries = told_of (part_of j) (content block) entries is.1 in
    part_is_used j t.bytes entries t.reads

abbrev entry_in : LaidFile → EntryValue
entry_in file = file.entry

group_told : (files : List LaidFile) (j : ℕ) → is_used (group_of (map file_in files) j) ≡ list_any was_used (take 63 (drop (63 * j) (map entry_in files)))
group_told files j =
    ap (λ (fs : List File). is_used (take 63 fs)) (drop-map file_in (63 * j) files)
    ∙ ap is_used (take-map file_in 63 (drop (63 * j) files))
    ∙ any_map file_in (λ (f : File). nat_lt 0 f.generation) (take 63 (drop (63 * j) files))
    ∙ sym (ap (λ (es : List EntryValue). list_any was_used (take 63 es)) (drop-map entry_in (63 * j) files)
    ∙ ap (list_any was_used) (take-map entry_in 63 (drop (63 * j) files))
    ∙ any_map entry_in was_used (take 63 (drop (63 * j) files)))

-- ---- the count

-- as many numbers pass as parts are there, where each number passes where its part is there
count_parts : (p : ℕ → Bool) (parts : List (Option ℕ)) → ((j : ℕ) (part : Option ℕ) → slice_get parts j ≡ Some part → p j ≡ is_some part)
    → (n : ℕ) → n ≤ length parts → count_by p (numbers_below n) ≡ count_by is_some (take n parts)
unfolding numbers_below
count_parts p parts same zero low = refl
count_parts p parts same (suc n) low =
    let less : n < length parts = omega (arith, low) in
    let before : count_by p (numbers_below n) ≡ count_by is_some (take n parts) = count_parts p parts same n (omega (arith, low)) in
    let left : count_by p (numbers_below n ++ n ∷ []) ≡ count_by p (numbers_below n) + one (p n) = sum_by_push (λ (x : ℕ). one (p x)) (numbers_below n) n in
    let here : p n ≡ is_some (get_or parts n None) = same n (get_or parts n None) (slice_get-get_or parts n None less) in
    let right : count_by is_some (take (n + 1) parts) ≡ count_by is_some (take n parts) + one (is_some (get_or parts n None)) =
    sum_by_more (λ (o : Option ℕ). one (is_some o)) parts n None less in
    let next : n + 1 ≡ suc n = omega arith in
    left ∙ (let both : count_by p (numbers_below n) + one (p n) ≡ count_by is_some (take n parts) + one (is_some (get_or parts n None)) = (λ i. before i + one (here i)) in both)
    ∙ sym right ∙ ap (λ m. count_by is_some (take m parts)) next

pub table_counted : (c : Content) (most : ℕ) (store : LaidStore) (places : List ℕ) → laid c most [] ≡ Ok (store, places)
    → table_blocks (state_in store) ≡ 1 + parts_in store.root
table_counted c most store places e = by (store.root.format == 1) refl
  where
    holds : HoldsTable c store places
    holds = tables_hold_entries c most store places e

    shape : IsRootShape store.root
    shape =
        let t : Told (c 0) root_of store.root = told_of root_of (c 0) store.root holds.root in
        root_shape t.bytes store.root t.reads

    p : ℕ → Bool
    p j = is_used (group_of (map file_in store.files) j)

    two_of : (store.root.format == 1) ≡ false → store.root.format ≡ 2
    two_of other = elim shape.format [
      | inl is ↦ absurd (true≢false (sym (ap (λ (n : ℕ). n == 1) is) ∙ other))
      | inr is ↦ is
    ]

    counted : (store.root.format == 1) ≡ false → count_by p (numbers_below 64) ≡ count_by is_some store.root.parts
    counted other =
        let all : 64 ≤ length store.root.parts = (let many = shape.parts in omega (arith, many)) in
        let whole : length store.root.parts ≤ 64 = (let many = shape.parts in omega (arith, many)) in
        count_parts p store.root.parts
        (λ j part at. group_told store.files j ∙ part_told c places j part (part_entries j store) (holds.two (two_of other) j part at)) 64 all
        ∙ ap (count_by is_some) (take_all 64 store.root.parts whole)

    by : (b : Bool) → (store.root.format == 1) ≡ b → cond b 1 (1 + count_by p (numbers_below 64)) ≡ 1 + cond b 0 (count_by is_some store.root.parts)
    by true is = refl
    by false is = ap (λ n. 1 + n) (counted is)
