-- A store taken apart and put together again.
use Rattle.std.proofs.Common.{◌≡◌, ℕ, zero, suc, ◌+◌, true, nat_le, List, [], ◌∷◌, ◌++◌, Option, Some, None, Result, Ok, Err, refl, sym, ap, ◌∙◌, append_assoc, arith, slice_get}
use Rattle.page_codec.specs.declared.why.Why.TheVariants.{Blocks as TooMany}
use Rattle.page_codec.specs.Values.{RootValue}
use Rattle.page_codec.specs.TableReading.{root_of}
use Rattle.store_model.specs.Walk.{Refused, and_then, bind, done, refuse, check, decoded, content_at}
use Rattle.store_model.specs.Laid.{LaidFile, last_laid}
use Rattle.store_model.specs.Tables.{Row, table_rows, files_from}
use Rattle.store_model.specs.Members.{Top, Linked, top_of, tops_from, members_linked, tops_linked}
use Rattle.store_model.specs.Found.{LaidStore, laid_from, laid}
use Rattle.store_model.specs.Changes.{changed_at}
use Rattle.store_model.proofs.Steps.{Content, blocks_of, Passed, passed, went_on, ok≢err, same_value, same_places}
use Rattle.store_model.proofs.Rewriting.{Checked, checked, checks, Decoded, decoded_told, decodes}
use Rattle.store_model.proofs.Edits.{some_is, none_some}

-- before any member was looked at
abbrev pub unlinked : List LaidFile → Linked
unlinked files = record { files = files; named = [] }

abbrev pub store_of : RootValue → List LaidFile → LaidStore
store_of root files = record { root = root; files = files }

-- what a store was found from
pub record Parts (c : Content) (most : ℕ) (store : LaidStore) (places : List ℕ) : Type 0 where
  pub held : List ℕ
  pub holds : c 0 ≡ Some held
  pub root : RootValue
  pub reads : root_of held ≡ Ok root
  pub few : nat_le root.blocks most ≡ true
  pub rows : List Row
  pub in_table : List ℕ
  pub table : table_rows (blocks_of c root.blocks) root [] ≡ Ok (rows, in_table)
  pub files : List LaidFile
  pub in_files : List ℕ
  pub chains : files_from (blocks_of c root.blocks) 1 rows in_table ≡ Ok (files, in_files)
  pub linked : Linked
  pub tops : tops_linked (blocks_of c root.blocks) (tops_from 1 files) (unlinked files) in_files ≡ Ok (linked, places)
  pub made : store ≡ store_of root linked.files

record Held (bytes : Option (List ℕ)) (seen : List ℕ) (x all : List ℕ) : Type 0 where
  holds : bytes ≡ Some x
  stays : seen ≡ all

held_told : (block : ℕ) (bytes : Option (List ℕ)) (seen x all : List ℕ) → content_at block bytes seen ≡ Ok (x, all) → Held bytes seen x all
unfolding content_at done refuse
held_told block None seen x all e = absurd (ok≢err e)
held_told block (Some b) seen x all e = record { holds = ap Some (same_value seen all b x e); stays = same_places seen all b x e }

pub parts_of : (c : Content) (most : ℕ) (store : LaidStore) (places : List ℕ) → laid c most [] ≡ Ok (store, places) → Parts c most store places
unfolding laid laid_from bind done
parts_of c most store places e =
    let p : Passed (content_at 0 (c 0) []) (laid_from c most) store places = passed (content_at 0 (c 0) []) (laid_from c most) store places e in
    let h : Held (c 0) [] p.value p.places = held_told 0 (c 0) [] p.value p.places p.first in
    let q : Passed (decoded 0 (root_of p.value) p.places) _ store places = passed (decoded 0 (root_of p.value) p.places) _ store places p.second in
    let r : Decoded (root_of p.value) p.places q.value q.places = decoded_told 0 (root_of p.value) p.places q.value q.places q.first in
    let s : Passed (check (nat_le q.value.blocks most) 0 TooMany q.places) _ store places = passed (check (nat_le q.value.blocks most) 0 TooMany q.places) _ store places q.second in
    let k : Checked (nat_le q.value.blocks most) q.places s.places = checked (nat_le q.value.blocks most) 0 TooMany q.places s.value s.places s.first in
    let t : Passed (table_rows (blocks_of c q.value.blocks) q.value s.places) _ store places = passed (table_rows (blocks_of c q.value.blocks) q.value s.places) _ store places s.second in
    let u : Passed (files_from (blocks_of c q.value.blocks) 1 t.value t.places) _ store places = passed (files_from (blocks_of c q.value.blocks) 1 t.value t.places) _ store places t.second in
    let w : Passed (tops_linked (blocks_of c q.value.blocks) (tops_from 1 u.value) (unlinked u.value) u.places) _ store places =
    passed (tops_linked (blocks_of c q.value.blocks) (tops_from 1 u.value) (unlinked u.value) u.places) _ store places u.second in
    record {
      held = p.value;
      holds = h.holds;
      root = q.value;
      reads = r.reads;
      few = k.holds;
      rows = t.value;
      in_table = t.places;
      table = ap (table_rows (blocks_of c q.value.blocks) q.value) (h.stays ∙ r.stays ∙ k.stays) ∙ t.first;
      files = u.value;
      in_files = u.places;
      chains = u.first;
      linked = w.value;
      tops = w.first ∙ ap (λ z. Ok (w.value, z)) (same_places w.places places (store_of q.value w.value.files) store w.second);
      made = sym (same_value w.places places (store_of q.value w.value.files) store w.second);
    }

pub made_again : (d : Content) (most : ℕ) (held : List ℕ) (root : RootValue) (rows : List Row) (files : List LaidFile) (linked : Linked) (in_table in_files places : List ℕ)
    → d 0 ≡ Some held → root_of held ≡ Ok root → nat_le root.blocks most ≡ true → table_rows (blocks_of d root.blocks) root [] ≡ Ok (rows, in_table)
    → files_from (blocks_of d root.blocks) 1 rows in_table ≡ Ok (files, in_files)
    → tops_linked (blocks_of d root.blocks) (tops_from 1 files) (unlinked files) in_files ≡ Ok (linked, places)
    → laid d most [] ≡ Ok (store_of root linked.files, places)
unfolding laid laid_from done content_at
made_again d most held root rows files linked in_table in_files places holds reads few table chains tops =
    went_on (content_at 0 (d 0)) (laid_from d most) [] held [] _ (ap (λ o. content_at 0 o []) holds)
    (went_on (decoded 0 (root_of held)) _ [] root [] _ (decodes 0 (root_of held) [] root reads)
    (went_on (check (nat_le root.blocks most) 0 TooMany) _ [] true [] _ (checks (nat_le root.blocks most) 0 TooMany [] few)
    (went_on (table_rows (blocks_of d root.blocks) root) _ [] rows in_table _ table
    (went_on (files_from (blocks_of d root.blocks) 1 rows) _ in_table files in_files _ chains
    (went_on (tops_linked (blocks_of d root.blocks) (tops_from 1 files) (unlinked files)) _ in_files linked places _ tops refl)))))

-- ---- the tops of the files

-- the tops before and after those of one file, whatever that file is
pub record TopsSplit (k named object : ℕ) (files : List LaidFile) (file : LaidFile) : Type 0 where
  pub before : List Top
  pub after : List Top
  pub is : tops_from object files ≡ before ++ (top_of named (last_laid file.versions) ++ after)
  pub other : (g : LaidFile → LaidFile) → tops_from object (changed_at g k files) ≡ before ++ (top_of named (last_laid (g file).versions) ++ after)

pub tops_split : (k named object : ℕ) (files : List LaidFile) (file : LaidFile) → object + k ≡ named → slice_get files k ≡ Some file → TopsSplit k named object files file
tops_split k named object [] file at e = none_some e
tops_split zero named object (x ∷ files) file at e =
    let one : x ≡ file = some_is e in
    let same : object ≡ named = omega arith in
    record {
      before = [];
      after = tops_from (suc object) files;
      is = ap (λ (y : LaidFile). top_of object (last_laid y.versions) ++ tops_from (suc object) files) one
          ∙ ap (λ o. top_of o (last_laid file.versions) ++ tops_from (suc object) files) same;
      other = λ g. ap (λ (y : LaidFile). top_of object (last_laid (g y).versions) ++ tops_from (suc object) files) one
          ∙ ap (λ o. top_of o (last_laid (g file).versions) ++ tops_from (suc object) files) same;
    }
tops_split (suc k) named object (x ∷ files) file at e =
    let rest : TopsSplit k named (suc object) files file = tops_split k named (suc object) files file (omega arith) e in
    let here : List Top = top_of object (last_laid x.versions) in
    record {
      before = here ++ rest.before;
      after = rest.after;
      is = ap (λ l. here ++ l) rest.is ∙ sym (append_assoc here rest.before (top_of named (last_laid file.versions) ++ rest.after));
      other = λ g. ap (λ l. here ++ l) (rest.other g) ∙ sym (append_assoc here rest.before (top_of named (last_laid (g file).versions) ++ rest.after));
    }

-- some tops, and then the others
pub tops_append : (c : Content) (count : ℕ) (xs ys : List Top) (linked : Linked) (seen : List ℕ)
    → tops_linked (blocks_of c count) (xs ++ ys) linked seen ≡ and_then (tops_linked (blocks_of c count) xs linked seen) (tops_linked (blocks_of c count) ys)
unfolding tops_linked bind done
tops_append c count [] ys linked seen = refl
tops_append c count (top ∷ xs) ys linked seen =
    of (members_linked (blocks_of c count) top top.version.members linked seen) (λ mid places. tops_append c count xs ys mid places)
  where
    of : (r : Result (Linked × List ℕ) Refused)
        → ((mid : Linked) (places : List ℕ)
        → tops_linked (blocks_of c count) (xs ++ ys) mid places ≡ and_then (tops_linked (blocks_of c count) xs mid places) (tops_linked (blocks_of c count) ys))
        → and_then r (tops_linked (blocks_of c count) (xs ++ ys)) ≡ and_then (and_then r (tops_linked (blocks_of c count) xs)) (tops_linked (blocks_of c count) ys)
    of (Ok p) rest = rest p.0 p.1
    of (Err e) rest = refl
