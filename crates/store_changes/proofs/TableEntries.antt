-- The entries of the files of a store, where they stand.
use Rattle.std.proofs.Common.{◌≡◌, ℕ, zero, suc, ◌+◌, ◌*◌, ◌==◌, List, [], ◌∷◌, ◌++◌, map, take, drop, replicate, length, Option, Some, None, Result, Ok, refl, sym, ap, ◌∙◌, subst, arith, slice_get}
use Rattle.std.specs.Option.{option_and_then}
use Rattle.std.proofs.Math.Seq.{drop-append-add, take-append_seam}
use Rattle.page_codec.specs.declared.why.Why.TheVariants.{Member}
use Rattle.page_codec.specs.Values.{EntryValue, MemberValue}
use Rattle.page_codec.specs.Blank.{no_entry}
use Rattle.page_codec.specs.TableReading.{root_of, part_of}
use Rattle.store_model.specs.Walk.{Walk, Refused, done}
use Rattle.store_model.specs.Laid.{LaidVersion, LaidFile}
use Rattle.store_model.specs.Tables.{Row, rows_in, part_rows, parts_from, files_from}
use Rattle.store_model.specs.Members.{Top, Linked, last_in, with_version_at, version_linked, member_linked, members_linked, tops_from, tops_linked}
use Rattle.store_model.specs.Found.{LaidStore, laid}
use Rattle.store_model.specs.Laws.{read_of}
use Rattle.store_model.proofs.PlaceLists.{IsIn, in_head, in_right, in_along}
use Rattle.store_model.proofs.Steps.{blocks_of, InRange, Ran, same_value}
use Rattle.store_model.proofs.Locality.{framed_parts}
use Rattle.store_model.proofs.Giving.{Gives, gives_bind, gives_done, gives_refuse, gives_any, gives_if}
use Rattle.store_model.proofs.Edits.{some_is, none_some}
use Rattle.store_model.proofs.Stores.{Parts, parts_of, store_of, unlinked}
use Rattle.store_changes.specs.Writes.{Content}
use Rattle.store_changes.specs.TableEntries.{IsPartOf, HoldsTable, part_entries}
use Rattle.store_changes.proofs.Entries.{entries_in}
use Rattle.store_changes.proofs.Tables.{entries_rows, entries_append, PartRead, part_read, no_part_goes, rows_length, PartsStep, parts_step, rows_one, rows_two}
use Rattle.store_changes.proofs.Wider.{table_within}

-- ---- the files have the entries of the table, whatever is linked

abbrev of_files : List LaidFile → List EntryValue
of_files files = map (λ file. file.entry) files

same_entries : (i : ℕ) (version : LaidVersion) (files : List LaidFile) → of_files (with_version_at i version files) ≡ of_files files
same_entries i version [] = refl
same_entries zero version (file ∷ others) = refl
same_entries (suc i) version (file ∷ others) = ap (λ es. file.entry ∷ es) (same_entries i version others)

abbrev Same : List LaidFile → List LaidFile → Type 0
Same files found = of_files found ≡ of_files files

version_entries : (c : Content) (count namer : ℕ) (member : MemberValue) (last : LaidVersion) (files : List LaidFile)
    → Gives (version_linked (blocks_of c count) namer member last files) (Same files)
unfolding version_linked
version_entries c count namer member last files =
    gives_if (last.block == member.block) _ _ (Same files) (λ _. gives_done files (Same files) refl)
    (λ _. gives_bind _ _ (λ _. Unit {0}) (Same files) (gives_any _)
    (λ version _. gives_bind _ _ (λ _. Unit {0}) (Same files) (gives_any _) (λ _ _. gives_done _ (Same files) (same_entries _ version files))))

member_entries : (c : Content) (count : ℕ) (top : Top) (member : MemberValue) (linked : Linked) (last : Option LaidVersion)
    → Gives (member_linked (blocks_of c count) top member linked last) (λ found. Same linked.files found.files)
unfolding member_linked
member_entries c count top member linked None = gives_refuse top.version.block Member (λ (found : Linked). Same linked.files found.files)
member_entries c count top member linked (Some last) =
    gives_bind _ _ (λ _. Unit {0}) (λ (found : Linked). Same linked.files found.files) (gives_any _)
    (λ _ _. gives_bind _ _ (Same linked.files) (λ (found : Linked). Same linked.files found.files) (version_entries c count top.version.block member last linked.files)
    (λ files same. gives_done _ (λ (found : Linked). Same linked.files found.files) same))

members_entries : (c : Content) (count : ℕ) (top : Top) (members : List MemberValue) (linked : Linked)
    → Gives (members_linked (blocks_of c count) top members linked) (λ found. Same linked.files found.files)
unfolding members_linked
members_entries c count top [] linked = gives_done _ (λ (found : Linked). Same linked.files found.files) refl
members_entries c count top (member ∷ others) linked =
    gives_bind _ _ (λ (found : Linked). Same linked.files found.files) (λ (found : Linked). Same linked.files found.files)
    (member_entries c count top member linked (last_in member.object linked.files))
    (λ next same seen x all e. members_entries c count top others next seen x all e ∙ same)

tops_entries : (c : Content) (count : ℕ) (tops : List Top) (linked : Linked) → Gives (tops_linked (blocks_of c count) tops linked) (λ found. Same linked.files found.files)
unfolding tops_linked
tops_entries c count [] linked = gives_done linked (λ (found : Linked). Same linked.files found.files) refl
tops_entries c count (top ∷ others) linked =
    gives_bind _ _ (λ (found : Linked). Same linked.files found.files) (λ (found : Linked). Same linked.files found.files)
    (members_entries c count top top.version.members linked)
    (λ next same seen x all e. tops_entries c count others next seen x all e ∙ same)

files_entries : (c : Content) (count object : ℕ) (rows : List Row) → Gives (files_from (blocks_of c count) object rows) (λ files. of_files files ≡ entries_in rows)
unfolding files_from
files_entries c count object [] = gives_done [] (λ files. of_files files ≡ []) refl
files_entries c count object (row ∷ others) =
    gives_bind _ _ (λ _. Unit {0}) (λ files. of_files files ≡ row.entry ∷ entries_in others) (gives_any _)
    (λ versions _. gives_bind _ _ (λ files. of_files files ≡ entries_in others) (λ files. of_files files ≡ row.entry ∷ entries_in others) (files_entries c count (suc object) others)
    (λ rest same. gives_done _ (λ files. of_files files ≡ row.entry ∷ entries_in others) (ap (λ es. row.entry ∷ es) same)))

-- ---- the parts

-- the first part's entries, and those of the parts behind it
first_entries : (here rest : List Row) → length (entries_in here) ≡ 63 → take 63 (drop (63 * 0) (entries_in (here ++ rest))) ≡ entries_in here
first_entries here rest many =
    ap (λ l. take 63 (drop (63 * 0) l)) (entries_append here rest)
    ∙ ap (λ n. take 63 (drop n (entries_in here ++ entries_in rest))) (let z : 63 * 0 ≡ 0 = omega arith in z)
    ∙ ap (λ n. take n (entries_in here ++ entries_in rest)) (sym many) ∙ take-append_seam (entries_in here) (entries_in rest)

later_entries : (i : ℕ) (here rest : List Row) → length (entries_in here) ≡ 63
    → take 63 (drop (63 * suc i) (entries_in (here ++ rest))) ≡ take 63 (drop (63 * i) (entries_in rest))
later_entries i here rest many =
    ap (λ l. take 63 (drop (63 * suc i) l)) (entries_append here rest)
    ∙ ap (λ n. take 63 (drop n (entries_in here ++ entries_in rest))) (let z : 63 * suc i ≡ length (entries_in here) + 63 * i = omega (arith, many) in z)
    ∙ ap (take 63) (drop-append-add (entries_in here) (entries_in rest) (63 * i))

part_is : (c : Content) (count j : ℕ) (part : Option ℕ) (seen : List ℕ) (rows : List Row) (all : List ℕ)
    → part_rows (blocks_of c count) j part seen ≡ Ok (rows, all) → IsPartOf c all j part (entries_in rows)
part_is c count j None seen rows all e =
    ap entries_in (sym (same_value seen all (rows_in 0 (replicate 63 no_entry)) rows (sym (no_part_goes c count j seen) ∙ e))) ∙ entries_rows 0 (replicate 63 no_entry)
part_is c count j (Some block) seen rows all e =
    let r : PartRead c count j block seen rows all = part_read c count j block seen rows all e in
    let are : r.entries ≡ entries_in rows = sym (ap entries_in r.is ∙ entries_rows block r.entries) in (
      in_along (block ∷ seen) all (sym r.grown) block (in_head block seen),
      ap (option_and_then (λ bytes. read_of (part_of j bytes))) r.holds ∙ ap read_of r.reads ∙ ap Some are,
    )

part_wider : (c : Content) (all more : List ℕ) (j : ℕ) (part : Option ℕ) (es fs : List EntryValue) → ((n : ℕ) → IsIn all n → IsIn more n) → es ≡ fs
    → IsPartOf c all j part es → IsPartOf c more j part fs
part_wider c all more j None es fs wider same is = sym same ∙ is
part_wider c all more j (Some block) es fs wider same is = (wider block is.0, is.1 ∙ ap Some same)

parts_are : (c : Content) (count j i : ℕ) (part : Option ℕ) (parts : List (Option ℕ)) (seen : List ℕ) (rows : List Row) (all : List ℕ)
    → parts_from (blocks_of c count) j parts seen ≡ Ok (rows, all) → slice_get parts i ≡ Some part → IsPartOf c all (j + i) part (take 63 (drop (63 * i) (entries_in rows)))
parts_are c count j i part [] seen rows all e named = none_some named
parts_are c count j zero part (x ∷ parts) seen rows all e named =
    let s : PartsStep c count j x parts seen rows all = parts_step c count j x parts seen rows all e in
    let many : length (entries_in s.here) ≡ 63 = rows_length c count j x seen s.here s.mid s.first in
    let ran : Ran c c (InRange count) (parts_from (blocks_of c count) (suc j) parts) s.mid s.rest all = (framed_parts c c count (suc j) parts).runs s.mid s.rest all s.later in
    let at_j : j ≡ j + 0 = omega arith in
    subst (λ n. IsPartOf c all n part (take 63 (drop (63 * 0) (entries_in rows)))) at_j
    (subst (λ o. IsPartOf c all j o (take 63 (drop (63 * 0) (entries_in rows)))) (some_is named)
    (part_wider c s.mid all j x (entries_in s.here) (take 63 (drop (63 * 0) (entries_in rows)))
    (λ n h. in_along (ran.new ++ s.mid) all (sym ran.grown) n (in_right ran.new s.mid n h))
    (sym (ap (λ (rs : List Row). take 63 (drop (63 * 0) (entries_in rs))) s.is ∙ first_entries s.here s.rest many))
    (part_is c count j x seen s.here s.mid s.first)))
parts_are c count j (suc i) part (x ∷ parts) seen rows all e named =
    let s : PartsStep c count j x parts seen rows all = parts_step c count j x parts seen rows all e in
    let many : length (entries_in s.here) ≡ 63 = rows_length c count j x seen s.here s.mid s.first in
    let past : suc j + i ≡ j + suc i = omega arith in
    subst (λ n. IsPartOf c all n part (take 63 (drop (63 * suc i) (entries_in rows)))) past
    (part_wider c all all (suc j + i) part (take 63 (drop (63 * i) (entries_in s.rest))) (take 63 (drop (63 * suc i) (entries_in rows))) (λ n h. h)
    (sym (ap (λ (rs : List Row). take 63 (drop (63 * suc i) (entries_in rs))) s.is ∙ later_entries i s.here s.rest many))
    (parts_are c count (suc j) i part parts s.mid s.rest all s.later named))

-- ---- the table

holds_table : (c : Content) (most : ℕ) (store : LaidStore) (places : List ℕ) (p : Parts c most store places) → HoldsTable c (store_of p.root p.linked.files) places
unfolding done
holds_table c most store places p =
    record {
      root = ap (option_and_then (λ bytes. read_of (root_of bytes))) p.holds ∙ ap read_of p.reads;
      one = λ format.
          let was : (let r : Result (List Row × List ℕ) Refused = Ok (rows_in 0 p.root.first, []) in r) ≡ Ok (p.rows, p.in_table) =
          ap (λ (walk : Walk (List Row)). walk []) (sym (rows_one c p.root.blocks p.root format)) ∙ p.table in
          sym (entries_rows 0 p.root.first) ∙ ap entries_in (same_value [] p.in_table (rows_in 0 p.root.first) p.rows was) ∙ sym are;
      two = λ format j part named.
          let was : parts_from (blocks_of c p.root.blocks) 0 p.root.parts [] ≡ Ok (p.rows, p.in_table) =
          ap (λ (walk : Walk (List Row)). walk []) (sym (rows_two c p.root.blocks p.root format)) ∙ p.table in
          let zero_more : 0 + j ≡ j = omega arith in
          subst (λ n. IsPartOf c places n part (part_entries j (store_of p.root p.linked.files))) zero_more
          (part_wider c p.in_table places (0 + j) part (take 63 (drop (63 * j) (entries_in p.rows))) (part_entries j (store_of p.root p.linked.files)) (table_within c most store places p)
          (ap (λ es. take 63 (drop (63 * j) es)) (sym are)) (parts_are c p.root.blocks 0 j part p.root.parts [] p.rows p.in_table was named));
    }
  where
    are : of_files p.linked.files ≡ entries_in p.rows
    are =
        tops_entries c p.root.blocks (tops_from 1 p.files) (unlinked p.files) p.in_files p.linked places p.tops
        ∙ files_entries c p.root.blocks 1 p.rows p.in_table p.files p.in_files p.chains

pub tables_hold_entries : (c : Content) (most : ℕ) (store : LaidStore) (places : List ℕ) → laid c most [] ≡ Ok (store, places) → HoldsTable c store places
tables_hold_entries c most store places e =
    let p : Parts c most store places = parts_of c most store places e in
    subst (λ (s : LaidStore). HoldsTable c s places) (sym p.made) (holds_table c most store places p)
