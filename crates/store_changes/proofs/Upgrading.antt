-- A table of the other format: as many entries more as it has, and none of a file.
use Rattle.std.proofs.Common.{◌≡◌, ◌≢◌, ◌⊎◌, inl, inr, ℕ, zero, suc, ◌+◌, ◌-◌, ◌*◌, ◌<◌, ◌≤◌, nat_le, nat_lt, nat_eq, false, List, [], ◌∷◌, ◌++◌, map, replicate, length, Some, None, Ok, Result, refl, sym, ap, ◌∙◌, subst, arith, append_assoc, slice_get, true≢false}
use Rattle.std.specs.List.{list_any}
use Rattle.std.specs.Option.{option_and_then}
use Rattle.std.proofs.lemmas.Bool.{le-leb, lt-ltb}
use Rattle.std.proofs.lemmas.List.{map-append}
use Rattle.tree_model.proofs.Paths.{both_true}
use Rattle.page_codec.specs.Values.{RootValue, MemberValue}
use Rattle.page_codec.specs.Blank.{no_entry, no_parts}
use Rattle.page_codec.specs.TableReading.{root_of, part_of}
use Rattle.store_model.specs.Walk.{Walk, Refused, bind, done, if_some}
use Rattle.store_model.specs.Laid.{LaidFile, last_laid}
use Rattle.store_model.specs.Tables.{Row, rows_in, part_rows, parts_from, table_rows, files_from}
use Rattle.store_model.specs.Members.{Top, Linked, longer, last_in, top_of, tops_from, members_linked, tops_linked}
use Rattle.store_model.specs.Found.{LaidStore, laid, file_in, state_in}
use Rattle.store_model.specs.Changes.{changed_at}
use Rattle.store_model.specs.Laws.{read_of}
use Rattle.store_model.specs.NewStores.{root_in_block}
use Rattle.store_model.proofs.PlaceLists.{IsIn, in_head, in_one, in_along, none_in}
use Rattle.store_model.proofs.Steps.{blocks_of, InRange, Ran, Passed, passed, went_on, same_value, same_places}
use Rattle.store_model.proofs.Locality.{framed_files, framed_tops}
use Rattle.store_model.proofs.Edits.{changed_append, get_append, within}
use Rattle.store_model.proofs.Counted.{IsRootShape, root_shape}
use Rattle.store_model.proofs.Linking.{InFile, in_file, last_again, Already, Extended, already_goes, extended_goes, MemberRan, member_step, member_goes}
use Rattle.store_model.proofs.Aside.{member_run}
use Rattle.store_model.proofs.Stores.{Parts, parts_of, made_again, unlinked, store_of}
use Rattle.store_changes.specs.Writes.{Content, put_at, part_in_block}
use Rattle.store_changes.specs.Stands.{Stands, IsPlace}
use Rattle.store_changes.specs.Upgrading.{state_widened, widened, IsUnused}
use Rattle.store_changes.proofs.Shown.{Told, told_of}
use Rattle.store_changes.proofs.Entries.{Filed, files_step, files_go, here_from, entries_in, rows_alike}
use Rattle.store_changes.proofs.Tables.{Written, entries_rows, entries_append, no_part_goes, part_goes, parts_go, rows_one, rows_two}
use Rattle.store_changes.proofs.Creating.{stands_as}
use Rattle.store_changes.proofs.Quiet.{state_of_root, rooted}
use Rattle.store_changes.proofs.Wider as wider
use Rattle.store_changes.proofs.Wider.{Wider}

-- ---- lists of one item

pub replicate_more : {X : Type 0} (m n : ℕ) (x : X) → replicate m x ++ replicate n x ≡ replicate (m + n) x
replicate_more zero n x = ap (λ k. replicate k x) (let e : n ≡ 0 + n = omega arith in e)
replicate_more (suc m) n x = ap (λ l. x ∷ l) (replicate_more m n x) ∙ ap (λ k. replicate k x) (let e : suc (m + n) ≡ suc m + n = omega arith in e)

all_one : {X : Type 0} (x : X) (xs : List X) → ((k : ℕ) (y : X) → slice_get xs k ≡ Some y → y ≡ x) → xs ≡ replicate (length xs) x
all_one x [] h = refl
all_one x (y ∷ ys) h = ap (λ z. z ∷ ys) (h 0 y refl) ∙ ap (λ l. x ∷ l) (all_one x ys (λ k z e. h (suc k) z e))

map_replicate : {X Y : Type 0} (f : X → Y) (n : ℕ) (x : X) → map f (replicate n x) ≡ replicate n (f x)
map_replicate f zero x = refl
map_replicate f (suc n) x = ap (λ l. f x ∷ l) (map_replicate f n x)

-- ---- files that are not there

abbrev blank_file : LaidFile
blank_file = record { entry = no_entry; versions = [] }

nothing_here : (c : Content) (count object block : ℕ) (seen : List ℕ) → here_from c count object (record { entry = no_entry; block = block }) seen ≡ Ok ([], seen)
unfolding if_some done
nothing_here c count object block seen = refl

files_done : (c : Content) (count object : ℕ) (seen : List ℕ) → files_from (blocks_of c count) object [] seen ≡ Ok ([], seen)
unfolding files_from done
files_done c count object seen = refl

files_blank : (c : Content) (count object n : ℕ) (seen : List ℕ)
    → files_from (blocks_of c count) object (rows_in 0 (replicate n no_entry)) seen ≡ Ok (replicate n blank_file, seen)
files_blank c count object zero seen = files_done c count object seen
files_blank c count object (suc n) seen =
    files_go c count object (record { entry = no_entry; block = 0 }) (rows_in 0 (replicate n no_entry)) seen seen seen [] (replicate n blank_file)
    (nothing_here c count object 0 seen) (files_blank c count (suc object) n seen)

files_more : (c : Content) (count object n : ℕ) (rows : List Row) (seen : List ℕ) (files : List LaidFile) (all : List ℕ)
    → files_from (blocks_of c count) object rows seen ≡ Ok (files, all)
    → files_from (blocks_of c count) object (rows ++ rows_in 0 (replicate n no_entry)) seen ≡ Ok (files ++ replicate n blank_file, all)
files_more c count object n [] seen files all e =
    files_blank c count object n seen
    ∙ ap (λ l. Ok (l ++ replicate n blank_file, seen)) (same_value seen all [] files (sym (files_done c count object seen) ∙ e))
    ∙ ap (λ l. Ok (files ++ replicate n blank_file, l)) (same_places seen all [] files (sym (files_done c count object seen) ∙ e))
files_more c count object n (r ∷ rows) seen files all e =
    let f : Filed c count object r rows seen files all = files_step c count object r rows seen files all e in
    files_go c count object r (rows ++ rows_in 0 (replicate n no_entry)) seen f.mid all f.versions (f.rest ++ replicate n blank_file) f.here
    (files_more c count (suc object) n rows f.mid f.rest all f.goes)
    ∙ ap (λ l. Ok (l ++ replicate n blank_file, all)) (sym f.list)

no_tops : (object n : ℕ) → tops_from object (replicate n blank_file) ≡ []
no_tops object zero = refl
no_tops object (suc n) = no_tops (suc object) n

tops_stay : (object n : ℕ) (files : List LaidFile) → tops_from object (files ++ replicate n blank_file) ≡ tops_from object files
tops_stay object n [] = no_tops object n
tops_stay object n (file ∷ files) = ap (λ l. top_of object (last_laid file.versions) ++ l) (tops_stay (suc object) n files)

-- ---- members of tops, with more files behind

abbrev more_files : List LaidFile → Linked → Linked
more_files extra linked = record { files = linked.files ++ extra; named = linked.named }

member_more : (c : Content) (count : ℕ) (top : Top) (member : MemberValue) (extra : List LaidFile) (linked : Linked) (seen : List ℕ) (after : Linked) (all : List ℕ)
    → MemberRan c count top member linked seen after all → member_run c count top member (more_files extra linked) seen ≡ Ok (more_files extra after, all)
member_more c count top member extra linked seen after all r = elim r.how [ inl x ↦ stays x | inr x ↦ grows x ]
  where
    f : InFile member.object linked.files r.last
    f = in_file member.object linked.files r.last r.is

    there : last_in member.object (linked.files ++ extra) ≡ Some r.last
    there = last_again member.object (linked.files ++ extra) f.file r.last f.counts (get_append linked.files extra (member.object - 1) f.file f.listed) f.is

    stays : Already member r.last linked.files after.files seen all → member_run c count top member (more_files extra linked) seen ≡ Ok (more_files extra after, all)
    stays x =
        member_goes c count top member (linked.files ++ extra) (linked.files ++ extra) linked.named r.last seen seen there r.other r.none r.unnamed
        (already_goes c count top.version.block member r.last (linked.files ++ extra) seen x.is_last)
        ∙ ap (λ l. Ok ((let m : Linked = record { files = l ++ extra; named = member.object ∷ linked.named } in m), seen)) (sym x.keeps)
        ∙ ap (λ n. Ok ((let m : Linked = record { files = after.files ++ extra; named = n } in m), seen)) (sym r.named)
        ∙ ap (λ l. Ok (more_files extra after, l)) (sym x.stays)

    grows : Extended c count top.version.block member r.last linked.files after.files seen all
        → member_run c count top member (more_files extra linked) seen ≡ Ok (more_files extra after, all)
    grows x =
        member_goes c count top member (linked.files ++ extra) (changed_at (longer x.version) (member.object - 1) (linked.files ++ extra)) linked.named r.last seen all there r.other r.none r.unnamed
        (extended_goes c count top.version.block member r.last x.version (linked.files ++ extra) seen all x.not_last x.read x.ends)
        ∙ ap (λ l. Ok ((let m : Linked = record { files = l; named = member.object ∷ linked.named } in m), all))
        (changed_append (longer x.version) (member.object - 1) linked.files extra (within linked.files (member.object - 1) f.file f.listed) ∙ ap (λ l. l ++ extra) (sym x.extends))
        ∙ ap (λ n. Ok ((let m : Linked = record { files = after.files ++ extra; named = n } in m), all)) (sym r.named)

members_more : (c : Content) (count : ℕ) (top : Top) (members : List MemberValue) (extra : List LaidFile) (linked : Linked) (seen : List ℕ) (after : Linked) (all : List ℕ)
    → members_linked (blocks_of c count) top members linked seen ≡ Ok (after, all)
    → members_linked (blocks_of c count) top members (more_files extra linked) seen ≡ Ok (more_files extra after, all)
unfolding members_linked bind done
members_more c count top [] extra linked seen after all e =
    let end : Linked = record { files = linked.files; named = top.object ∷ linked.named } in
    ap (λ (l : Linked). Ok (more_files extra l, seen)) (same_value seen all end after e) ∙ ap (λ l. Ok (more_files extra after, l)) (same_places seen all end after e)
members_more c count top (member ∷ others) extra linked seen after all e =
    let p : Passed (member_run c count top member linked seen) (members_linked (blocks_of c count) top others) after all =
    passed (member_run c count top member linked seen) (members_linked (blocks_of c count) top others) after all e in
    went_on (member_run c count top member (more_files extra linked)) (members_linked (blocks_of c count) top others) seen (more_files extra p.value) p.places _
    (member_more c count top member extra linked seen p.value p.places (member_step c count top member linked seen p.value p.places p.first))
    (members_more c count top others extra p.value p.places after all p.second)

tops_more : (c : Content) (count : ℕ) (tops : List Top) (extra : List LaidFile) (linked : Linked) (seen : List ℕ) (after : Linked) (all : List ℕ)
    → tops_linked (blocks_of c count) tops linked seen ≡ Ok (after, all) → tops_linked (blocks_of c count) tops (more_files extra linked) seen ≡ Ok (more_files extra after, all)
unfolding tops_linked bind done
tops_more c count [] extra linked seen after all e =
    ap (λ (l : Linked). Ok (more_files extra l, seen)) (same_value seen all linked after e) ∙ ap (λ l. Ok (more_files extra after, l)) (same_places seen all linked after e)
tops_more c count (top ∷ others) extra linked seen after all e =
    let p : Passed (members_linked (blocks_of c count) top top.version.members linked seen) (tops_linked (blocks_of c count) others) after all =
    passed (members_linked (blocks_of c count) top top.version.members linked seen) (tops_linked (blocks_of c count) others) after all e in
    went_on (members_linked (blocks_of c count) top top.version.members (more_files extra linked)) (tops_linked (blocks_of c count) others) seen (more_files extra p.value) p.places _
    (members_more c count top top.version.members extra linked seen p.value p.places p.first)
    (tops_more c count others extra p.value p.places after all p.second)

-- ---- the store

upgrades : (c d : Content) (most : ℕ) (store : LaidStore) (places : List ℕ) (p : Parts c most store places) (Extra : ℕ → Type 0)
    → (w : Written c d p.root 2 (entries_in p.rows ++ replicate 3972 no_entry) p.in_table Extra) → ((n : ℕ) → Extra n → IsIn places n → ⊥)
    → Stands d most (store_of p.root p.linked.files) (λ _. Unit {0}) (state_widened (state_in (store_of p.root p.linked.files))) (λ n. IsPlace places n ⊎ Extra n)
upgrades c d most store places p Extra w free =
    let N : ℕ = p.root.blocks in
    let wd : Wider c most store places p w.places Extra = wider.widened c most store places p w.places Extra w.has w.only free in
    let f : Ran c d (InRange N) (files_from (blocks_of d N) 1 p.rows) w.places p.files wd.in_files = (framed_files c d N 1 p.rows).runs w.places p.files wd.in_files wd.chains in
    let same : files_from (blocks_of d N) 1 p.rows w.places ≡ Ok (p.files, wd.in_files) =
    f.anywhere w.places f.apart (λ n h. w.agree n (f.each n h).0 (f.apart n h)) ∙ ap (λ l. Ok (p.files, l)) (sym f.grown) in
    let chains : files_from (blocks_of d N) 1 w.rows w.places ≡ Ok (p.files ++ replicate 3972 blank_file, wd.in_files) =
    rows_alike d N 1 (p.rows ++ rows_in 0 (replicate 3972 no_entry)) w.rows w.places (p.files ++ replicate 3972 blank_file) wd.in_files
    (w.are ∙ ap (λ l. entries_in p.rows ++ l) (sym (entries_rows 0 (replicate 3972 no_entry))) ∙ sym (entries_append p.rows (rows_in 0 (replicate 3972 no_entry))))
    (files_more d N 1 3972 p.rows w.places p.files wd.in_files same) in
    let after : Linked = more_files (replicate 3972 blank_file) p.linked in
    let t : Ran c d (InRange N) (tops_linked (blocks_of d N) (tops_from 1 p.files) (more_files (replicate 3972 blank_file) (unlinked p.files))) wd.in_files after wd.in_all =
    (framed_tops c d N (tops_from 1 p.files) (more_files (replicate 3972 blank_file) (unlinked p.files))).runs wd.in_files after wd.in_all
    (tops_more c N (tops_from 1 p.files) (replicate 3972 blank_file) (unlinked p.files) wd.in_files p.linked wd.in_all wd.tops) in
    let tops : tops_linked (blocks_of d N) (tops_from 1 (p.files ++ replicate 3972 blank_file)) (unlinked (p.files ++ replicate 3972 blank_file)) wd.in_files ≡ Ok (after, wd.in_all) =
    ap (λ l. tops_linked (blocks_of d N) l (unlinked (p.files ++ replicate 3972 blank_file)) wd.in_files) (tops_stay 1 3972 p.files)
    ∙ t.anywhere wd.in_files t.apart (λ n h. w.agree n (t.each n h).0 (λ x. t.apart n h (wd.table_in n x))) ∙ ap (λ l. Ok (after, l)) (sym t.grown) in
    record {
      store = store_of w.after (p.linked.files ++ replicate 3972 blank_file);
      order = wd.in_all;
      lies = made_again d most w.bytes w.after w.rows (p.files ++ replicate 3972 blank_file) after w.places wd.in_files wd.in_all w.holds w.reads
          (ap (λ n. nat_le n most) w.blocks_is ∙ p.few)
          (ap (λ n. table_rows (blocks_of d n) w.after []) w.blocks_is ∙ w.table)
          (ap (λ n. files_from (blocks_of d n) 1 w.rows w.places) w.blocks_is ∙ chains)
          (ap (λ n. tops_linked (blocks_of d n) (tops_from 1 (p.files ++ replicate 3972 blank_file)) (unlinked (p.files ++ replicate 3972 blank_file)) wd.in_files) w.blocks_is ∙ tops);
      is = rooted 2 p.root.blocks p.root.key w.after (map file_in (p.linked.files ++ replicate 3972 blank_file)) w.format_is w.blocks_is w.key_is
          ∙ ap (state_of_root 2 p.root.blocks p.root.key)
          (map-append file_in p.linked.files (replicate 3972 blank_file) ∙ ap (λ l. map file_in p.linked.files ++ l) (map_replicate file_in 3972 blank_file));
      places = λ n. (λ h. wd.only n h, λ h. elim h [ inl x ↦ wd.has n x | inr x ↦ wd.files_in n (wd.table_in n (w.extra n x)) ]);
      beside = λ j file _ at. get_append p.linked.files (replicate 3972 blank_file) j file at;
    }

-- ---- the table

record BlankParts (d : Content) (count j n : ℕ) (seen : List ℕ) : Type 0 where
  rows : List Row
  runs : parts_from (blocks_of d count) j (replicate n None) seen ≡ Ok (rows, seen)
  are : entries_in rows ≡ replicate (63 * n) no_entry

parts_done : (d : Content) (count j : ℕ) (seen : List ℕ) → parts_from (blocks_of d count) j [] seen ≡ Ok ([], seen)
unfolding parts_from done
parts_done d count j seen = refl

blank_parts : (d : Content) (count j n : ℕ) (seen : List ℕ) → BlankParts d count j n seen
blank_parts d count j zero seen = record { rows = []; runs = parts_done d count j seen; are = refl }
blank_parts d count j (suc n) seen =
    let r : BlankParts d count (suc j) n seen = blank_parts d count (suc j) n seen in
    record {
      rows = rows_in 0 (replicate 63 no_entry) ++ r.rows;
      runs = parts_go d count j None (replicate n None) seen seen seen (rows_in 0 (replicate 63 no_entry)) r.rows (no_part_goes d count j seen) r.runs;
      are = entries_append (rows_in 0 (replicate 63 no_entry)) r.rows
          ∙ ap (λ l. l ++ entries_in r.rows) (entries_rows 0 (replicate 63 no_entry)) ∙ ap (λ l. replicate 63 no_entry ++ l) r.are
          ∙ replicate_more 63 (63 * n) no_entry ∙ ap (λ k. replicate k no_entry) (let e : 63 + 63 * n ≡ 63 * suc n = omega arith in e);
    }

-- the entries of a table of format 1
record FirstTable (rows : List Row) (root : RootValue) (in_table : List ℕ) : Type 0 where
  are : entries_in rows ≡ root.first
  none : [] ≡ in_table

first_table : (c : Content) (root : RootValue) (rows : List Row) (in_table : List ℕ) → root.format ≡ 1
    → table_rows (blocks_of c root.blocks) root [] ≡ Ok (rows, in_table) → FirstTable rows root in_table
unfolding done
first_table c root rows in_table one e =
    let was : (let r : Result (List Row × List ℕ) Refused = Ok (rows_in 0 root.first, []) in r) ≡ Ok (rows, in_table) =
    ap (λ (walk : Walk (List Row)). walk []) (sym (rows_one c root.blocks root one)) ∙ e in
    record {
      are = ap entries_in (sym (same_value [] in_table (rows_in 0 root.first) rows was)) ∙ entries_rows 0 root.first;
      none = same_places [] in_table (rows_in 0 root.first) rows was;
    }

no_parts_are : no_parts ≡ replicate 64 None
unfolding no_parts
no_parts_are = refl

one_part_is : (block : ℕ) → put_at (Some block) 0 no_parts ≡ Some block ∷ replicate 63 None
unfolding no_parts
one_part_is block = refl

widened_alone : (c d : Content) (most : ℕ) (store : LaidStore) (places : List ℕ) (p : Parts c most store places) → p.root.format ≡ 1 → IsUnused p.root
    → root_in_block d 0 ≡ Some (widened no_parts p.root) → ((n : ℕ) → n ≢ 0 → c n ≡ d n)
    → Written c d p.root 2 (entries_in p.rows ++ replicate 3972 no_entry) p.in_table (λ _. ⊥)
widened_alone c d most store places p one unused is others =
    let after : RootValue = widened no_parts p.root in
    let t : Told (d 0) root_of after = told_of root_of (d 0) after is in
    let f : FirstTable p.rows p.root p.in_table = first_table c p.root p.rows p.in_table one p.table in
    let b : BlankParts d p.root.blocks 0 64 [] = blank_parts d p.root.blocks 0 64 [] in
    let shape : IsRootShape p.root = root_shape p.held p.root p.reads in
    let blank : p.root.first ≡ replicate 60 no_entry = all_one no_entry p.root.first unused ∙ ap (λ n. replicate n no_entry) shape.entries in
    record {
      after = after;
      bytes = t.bytes;
      holds = t.holds;
      reads = t.reads;
      format_is = refl;
      blocks_is = refl;
      key_is = refl;
      rows = b.rows;
      places = [];
      table = ap (λ (walk : Walk (List Row)). walk []) (rows_two d p.root.blocks after refl) ∙ ap (λ ps. parts_from (blocks_of d p.root.blocks) 0 ps []) no_parts_are ∙ b.runs;
      are = b.are ∙ sym (replicate_more 60 3972 no_entry) ∙ ap (λ l. l ++ replicate 3972 no_entry) (sym (f.are ∙ blank));
      has = λ n h. in_along p.in_table [] (sym f.none) n h;
      extra = λ n h. absurd h;
      only = λ n h. absurd (none_in n h);
      agree = λ n low out. others n (λ z. omega (arith, z, low));
    }

widened_with : (c d : Content) (most : ℕ) (store : LaidStore) (places : List ℕ) (p : Parts c most store places) → p.root.format ≡ 1
    → (block : ℕ) → 1 ≤ block → block < p.root.blocks → part_in_block c 0 block ≡ Some (p.root.first ++ replicate 3 no_entry)
    → root_in_block d 0 ≡ Some (widened (put_at (Some block) 0 no_parts) p.root) → ((n : ℕ) → n ≢ 0 → c n ≡ d n)
    → Written c d p.root 2 (entries_in p.rows ++ replicate 3972 no_entry) p.in_table (λ n. n ≡ block)
widened_with c d most store places p one block low high part is others =
    let after : RootValue = widened (put_at (Some block) 0 no_parts) p.root in
    let t : Told (d 0) root_of after = told_of root_of (d 0) after is in
    let f : FirstTable p.rows p.root p.in_table = first_table c p.root p.rows p.in_table one p.table in
    let above : block ≢ 0 = λ z. omega (arith, z, low) in
    let there : part_in_block d 0 block ≡ Some (p.root.first ++ replicate 3 no_entry) = ap (option_and_then (λ bytes. read_of (part_of 0 bytes))) (sym (others block above)) ∙ part in
    let here : part_rows (blocks_of d p.root.blocks) 0 (Some block) [] ≡ Ok (rows_in block (p.root.first ++ replicate 3 no_entry), block ∷ []) =
    part_goes d p.root.blocks 0 block (p.root.first ++ replicate 3 no_entry) []
    (both_true (nat_le 1 block) (nat_lt block p.root.blocks) (le-leb 1 block low) (lt-ltb block p.root.blocks high)) (none_in block) there in
    let b : BlankParts d p.root.blocks 1 63 (block ∷ []) = blank_parts d p.root.blocks 1 63 (block ∷ []) in
    let parts : parts_from (blocks_of d p.root.blocks) 0 (Some block ∷ replicate 63 None) [] ≡ Ok (rows_in block (p.root.first ++ replicate 3 no_entry) ++ b.rows, block ∷ []) =
    parts_go d p.root.blocks 0 (Some block) (replicate 63 None) [] (block ∷ []) (block ∷ []) (rows_in block (p.root.first ++ replicate 3 no_entry)) b.rows here b.runs in
    record {
      after = after;
      bytes = t.bytes;
      holds = t.holds;
      reads = t.reads;
      format_is = refl;
      blocks_is = refl;
      key_is = refl;
      rows = rows_in block (p.root.first ++ replicate 3 no_entry) ++ b.rows;
      places = block ∷ [];
      table = ap (λ (walk : Walk (List Row)). walk []) (rows_two d p.root.blocks after refl) ∙ ap (λ ps. parts_from (blocks_of d p.root.blocks) 0 ps []) (one_part_is block) ∙ parts;
      are = entries_append (rows_in block (p.root.first ++ replicate 3 no_entry)) b.rows
          ∙ ap (λ l. l ++ entries_in b.rows) (entries_rows block (p.root.first ++ replicate 3 no_entry)) ∙ ap (λ l. (p.root.first ++ replicate 3 no_entry) ++ l) b.are
          ∙ append_assoc p.root.first (replicate 3 no_entry) (replicate 3969 no_entry)
          ∙ ap (λ l. p.root.first ++ l) (replicate_more 3 3969 no_entry) ∙ ap (λ l. l ++ replicate 3972 no_entry) (sym f.are);
      has = λ n h. absurd (none_in n (in_along p.in_table [] (sym f.none) n h));
      extra = λ n z. subst (IsIn (block ∷ [])) (sym z) (in_head block []);
      only = λ n h. inr (in_one block n h);
      agree = λ n one out. others n (λ z. omega (arith, z, one));
    }

-- ---- the laws

pub upgrading_widens : (c d : Content) (most : ℕ) (store : LaidStore) (places : List ℕ) → laid c most [] ≡ Ok (store, places)
    → store.root.format ≡ 1 → IsUnused store.root → root_in_block d 0 ≡ Some (widened no_parts store.root) → ((n : ℕ) → n ≢ 0 → c n ≡ d n)
    → Stands d most store (λ _. Unit {0}) (state_widened (state_in store)) (IsPlace places)
upgrading_widens c d most store places e =
    let p : Parts c most store places = parts_of c most store places e in
    subst
    (λ (s : LaidStore). s.root.format ≡ 1 → IsUnused s.root → root_in_block d 0 ≡ Some (widened no_parts s.root) → ((n : ℕ) → n ≢ 0 → c n ≡ d n)
    → Stands d most s (λ _. Unit {0}) (state_widened (state_in s)) (IsPlace places))
    (sym p.made)
    (λ one unused is others.
    stands_as d most (store_of p.root p.linked.files) (λ _. Unit {0}) (state_widened (state_in (store_of p.root p.linked.files))) (λ n. IsPlace places n ⊎ ⊥) (IsPlace places)
    (λ n h. elim h [ inl x ↦ x | inr x ↦ absurd x ]) (λ n h. inl h)
    (upgrades c d most store places p (λ _. ⊥) (widened_alone c d most store places p one unused is others) (λ n h _. h)))

pub upgrading_widens_part : (c d : Content) (most : ℕ) (store : LaidStore) (places : List ℕ) → laid c most [] ≡ Ok (store, places)
    → store.root.format ≡ 1 → (block : ℕ) → 1 ≤ block → block < store.root.blocks → list_any (nat_eq block) places ≡ false
    → part_in_block c 0 block ≡ Some (store.root.first ++ replicate 3 no_entry)
    → root_in_block d 0 ≡ Some (widened (put_at (Some block) 0 no_parts) store.root) → ((n : ℕ) → n ≢ 0 → c n ≡ d n)
    → Stands d most store (λ _. Unit {0}) (state_widened (state_in store)) (λ n. IsPlace places n ⊎ (n ≡ block))
upgrading_widens_part c d most store places e =
    let p : Parts c most store places = parts_of c most store places e in
    subst
    (λ (s : LaidStore). s.root.format ≡ 1 → (block : ℕ) → 1 ≤ block → block < s.root.blocks → list_any (nat_eq block) places ≡ false
    → part_in_block c 0 block ≡ Some (s.root.first ++ replicate 3 no_entry)
    → root_in_block d 0 ≡ Some (widened (put_at (Some block) 0 no_parts) s.root) → ((n : ℕ) → n ≢ 0 → c n ≡ d n)
    → Stands d most s (λ _. Unit {0}) (state_widened (state_in s)) (λ n. IsPlace places n ⊎ (n ≡ block)))
    (sym p.made)
    (λ one block low high free part is others.
    upgrades c d most store places p (λ n. n ≡ block) (widened_with c d most store places p one block low high part is others)
    (λ n z i. true≢false (sym (subst (IsIn places) z i) ∙ free)))
