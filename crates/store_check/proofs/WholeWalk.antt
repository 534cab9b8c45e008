-- The walk over a whole store.
use Rattle.std.proofs.Common.{◌≡◌, ◌<◌, ◌≤◌, ◌==◌, if◌then◌else◌, nat_le, ℕ, zero, suc, Bool, true, false, List, [], ◌∷◌, length, map, replicate, Option, Some, None, Result, Ok, Err, refl, sym, ap, subst, ◌∙◌, slice_get, arith}
use Rattle.page_codec.specs.declared.why.Why.{Why}
use Rattle.page_codec.specs.declared.why.Why.TheVariants.{Member, Blocks as TooMany}
use Rattle.page_codec.specs.Values.{EntryValue, MemberValue, RootValue, TableValue}
use Rattle.page_codec.specs.TableReading.{root_of}
use Rattle.page_places.specs.Places.{Store}
use Rattle.drives.specs.declared.device.Half.{Half}
use Rattle.store_model.specs.Walk.{Blocks, Walk, Refused, and_then, bind, done, refuse, check, decoded, content_at}
use Rattle.store_model.specs.Laid.{LaidVersion, LaidFile}
use Rattle.store_model.specs.Tables.{Row as ModelRow, table_rows, files_from}
use Rattle.store_model.specs.Members.{Top as ModelTop, Linked as ModelLinked, last_in, with_version_at, version_linked, member_linked, members_linked, tops_from, tops_linked}
use Rattle.store_model.specs.Found.{LaidStore, laid_from, laid}
use Rattle.store_model.proofs.Giving.{Gives, gives_bind, gives_done, gives_refuse, gives_any, gives_if}
use Rattle.store_check.specs.declared.refused.WalkRefused.{WalkRefused}
use Rattle.store_check.specs.declared.refused.WalkRefused.TheVariants.{ReadFault, BadStore, Memory}
use Rattle.store_check.specs.declared.checking.Checked.{Checked}
use Rattle.store_check.specs.declared.checking.Found.{Found}
use Rattle.store_check.specs.declared.rows.Row.{Row}
use Rattle.store_check.specs.declared.chain.FoundFile.{FoundFile}
use Rattle.store_check.specs.declared.tops.Top.{Top}
use Rattle.store_check.specs.declared.tops.Linked.{Linked}
use Rattle.store_check.specs.Rows.{row_of}
use Rattle.store_check.specs.Files.{LikeFiles, chains_of}
use Rattle.store_check.specs.Counts.{kept_in}
use Rattle.store_check.specs.Tops.{LikeLinked, shown_top, tops_in}
use Rattle.store_check.specs.Checked.{root_from, walk_from, Answers, IsEnded, LikeTable}
use Rattle.store_check.specs.Results.{Outcome, Shows}
use Rattle.store_check.proofs.TopLists.{tops_are}
use Rattle.store_check.proofs.VersionWalk.{further}

-- ---- the entries of the files

abbrev pub entries : List LaidFile → List EntryValue
entries files = map (λ file. file.entry) files

same_entries : (i : ℕ) (version : LaidVersion) (files : List LaidFile) → entries (with_version_at i version files) ≡ entries files
same_entries i version [] = refl
same_entries zero version (file ∷ others) = refl
same_entries (suc i) version (file ∷ others) = ap (λ es. file.entry ∷ es) (same_entries i version others)

module _ (blocks : Blocks) where
  abbrev Same : List LaidFile → List LaidFile → Type 0
  Same files found = entries found ≡ entries files

  version_entries : (namer : ℕ) (member : MemberValue) (last : LaidVersion) (files : List LaidFile) → Gives (version_linked blocks namer member last files) (Same files)
  unfolding version_linked
  version_entries namer member last files =
      gives_if (last.block == member.block) _ _ (Same files) (λ _. gives_done files (Same files) refl)
      (λ _. gives_bind _ _ (λ _. Unit {0}) (Same files) (gives_any _)
      (λ version _. gives_bind _ _ (λ _. Unit {0}) (Same files) (gives_any _)
      (λ _ _. gives_done _ (Same files) (same_entries _ version files))))

  member_entries : (top : ModelTop) (member : MemberValue) (linked : ModelLinked) (last : Option LaidVersion) → Gives (member_linked blocks top member linked last) (λ found. Same linked.files found.files)
  unfolding member_linked
  member_entries top member linked None = gives_refuse top.version.block Member (λ found. Same linked.files found.files)
  member_entries top member linked (Some last) =
      gives_bind _ _ (λ _. Unit {0}) (λ found. Same linked.files found.files) (gives_any _)
      (λ _ _. gives_bind _ _ (Same linked.files) (λ found. Same linked.files found.files) (version_entries top.version.block member last linked.files)
      (λ files same. gives_done _ (λ found. Same linked.files found.files) same))

  members_entries : (top : ModelTop) (members : List MemberValue) (linked : ModelLinked) → Gives (members_linked blocks top members linked) (λ found. Same linked.files found.files)
  unfolding members_linked
  members_entries top [] linked = gives_done _ (λ found. Same linked.files found.files) refl
  members_entries top (member ∷ others) linked =
      gives_bind _ _ (λ found. Same linked.files found.files) (λ found. Same linked.files found.files) (member_entries top member linked (last_in member.object linked.files))
      (λ next same seen x all e. members_entries top others next seen x all e ∙ same)

  tops_entries : (tops : List ModelTop) (linked : ModelLinked) → Gives (tops_linked blocks tops linked) (λ found. Same linked.files found.files)
  unfolding tops_linked
  tops_entries [] linked = gives_done linked (λ found. Same linked.files found.files) refl
  tops_entries (top ∷ others) linked =
      gives_bind _ _ (λ found. Same linked.files found.files) (λ found. Same linked.files found.files) (members_entries top top.version.members linked)
      (λ next same seen x all e. tops_entries others next seen x all e ∙ same)

  files_entries : (object : ℕ) (rows : List ModelRow) → Gives (files_from blocks object rows) (λ files. entries files ≡ map (λ r. r.entry) rows)
  unfolding files_from
  files_entries object [] = gives_done [] (λ files. entries files ≡ []) refl
  files_entries object (row ∷ others) =
      gives_bind _ _ (λ _. Unit {0}) (λ files. entries files ≡ row.entry ∷ map (λ r. r.entry) others) (gives_any _)
      (λ versions _. gives_bind _ _ (λ files. entries files ≡ map (λ r. r.entry) others) (λ files. entries files ≡ row.entry ∷ map (λ r. r.entry) others) (files_entries (suc object) others)
      (λ rest same. gives_done _ (λ files. entries files ≡ row.entry ∷ map (λ r. r.entry) others) (ap (λ es. row.entry ∷ es) same)))

rows_entries : (rows : List Row) → map (λ r. r.entry) (map row_of rows) ≡ map (λ (row : Row). row.entry) rows
rows_entries [] = refl
rows_entries (row ∷ others) = ap (λ es. row.entry ∷ es) (rows_entries others)

-- ---- the beginning of the walk over the members

none_marked : (n k : ℕ) → k < n → slice_get (replicate n false) k ≡ Some false
none_marked zero k low = absurd (Prim.omega (arith, low))
none_marked (suc n) zero low = refl
none_marked (suc n) (suc k) low = none_marked n k (Prim.omega (arith, low))

length_marks : (n : ℕ) → length (replicate n false) ≡ n
length_marks zero = refl
length_marks (suc n) = ap suc (length_marks n)

pub like_first : (store : Store) (count : ℕ) (places : List ℕ) (kept : Linked) (files : List LaidFile) → LikeFiles store count kept.chains.items files → kept_in files ≤ length places → kept.named.items ≡ replicate (length kept.chains.items) false
    → LikeLinked store count places kept (record { files = files; named = [] })
like_first store count places kept files like few marks = record {
  files = like;
  few = few;
  named = record {
    is = λ k low. ap (λ (ms : List Bool). slice_get ms k) marks
        ∙ none_marked (length kept.chains.items) k (subst (λ (n : ℕ). k < n) (ap length marks ∙ length_marks (length kept.chains.items)) low);
  };
  size = ap length marks ∙ length_marks (length kept.chains.items);
}

pub tops_shown : (store : Store) (count : ℕ) (chains : List (Option FoundFile)) (files : List LaidFile) (tops : List Top) → LikeFiles store count chains files → tops ≡ tops_in 1 chains → tops ≡ map shown_top (tops_from 1 files)
tops_shown store count chains files tops like is = is ∙ ap (tops_in 1) like.is ∙ sym (tops_are 1 files)

-- ---- the walk from block 0 on

module _ (blocks : Blocks) (root : RootValue) (places : List ℕ) where
  abbrev linked_from : List LaidFile → Walk ModelLinked
  linked_from files = tops_linked blocks (tops_from 1 files) (record { files = files; named = [] })

  abbrev store_of : ModelLinked → LaidStore
  store_of linked = record { root = root; files = linked.files }

  pub rows_stop : (e : Refused) → table_rows blocks root places ≡ Err e → walk_from blocks root places ≡ Err e
  unfolding walk_from bind
  rows_stop e is = ap (λ r. and_then r (λ rows. bind (files_from blocks 1 rows) (λ files. bind (linked_from files) (λ linked. done (store_of linked))))) is

  module _ (rows : List ModelRow) (s1 : List ℕ) (rows_are : table_rows blocks root places ≡ Ok (rows, s1)) where
    after_rows : walk_from blocks root places ≡ and_then (files_from blocks 1 rows s1) (λ files. bind (linked_from files) (λ linked. done (store_of linked)))
    unfolding walk_from bind
    after_rows = ap (λ r. and_then r (λ rows. bind (files_from blocks 1 rows) (λ files. bind (linked_from files) (λ linked. done (store_of linked))))) rows_are

    pub files_stop : (e : Refused) → files_from blocks 1 rows s1 ≡ Err e → walk_from blocks root places ≡ Err e
    files_stop e is = after_rows ∙ ap (λ r. and_then r (λ files. bind (linked_from files) (λ linked. done (store_of linked)))) is

    module _ (files : List LaidFile) (s2 : List ℕ) (files_are : files_from blocks 1 rows s1 ≡ Ok (files, s2)) where
      after_files : walk_from blocks root places ≡ and_then (linked_from files s2) (λ linked. done (store_of linked))
      unfolding bind
      after_files = after_rows ∙ ap (λ r. and_then r (λ files. bind (linked_from files) (λ linked. done (store_of linked)))) files_are

      pub tops_stop_all : (e : Refused) → linked_from files s2 ≡ Err e → walk_from blocks root places ≡ Err e
      tops_stop_all e is = after_files ∙ ap (λ r. and_then r (λ linked. done (store_of linked))) is

      pub walk_ends : (linked : ModelLinked) (after : List ℕ) → linked_from files s2 ≡ Ok (linked, after) → walk_from blocks root places ≡ Ok (store_of linked, after)
      unfolding done
      walk_ends linked after is = after_files ∙ ap (λ r. and_then r (λ linked. done (store_of linked))) is

      pub entries_are : (linked : ModelLinked) (after : List ℕ) → linked_from files s2 ≡ Ok (linked, after) → entries linked.files ≡ map (λ r. r.entry) rows
      entries_are linked after is =
          tops_entries blocks (tops_from 1 files) (record { files = files; named = [] }) s2 linked after is ∙ files_entries blocks 1 rows s1 files s2 files_are

pub entries_of : (rows : List Row) (table : List EntryValue) (files : List LaidFile) → table ≡ map (λ (row : Row). row.entry) rows → entries files ≡ map (λ r. r.entry) (map row_of rows) → table ≡ entries files
entries_of rows table files is are = is ∙ sym (rows_entries rows) ∙ sym are

-- ---- block 0

pub laid_is : (content : ℕ → Option (List ℕ)) (most : ℕ) (places : List ℕ)
    → laid content most places ≡ and_then (root_from content most places) (λ root. walk_from (record { content = content; count = root.blocks }) root)
unfolding laid laid_from root_from walk_from bind done
laid_is content most places =
    further (content_at 0 (content 0) places) _ _ (λ root. walk_from (record { content = content; count = root.blocks }) root)
    (λ bytes s. further (decoded 0 (root_of bytes) s) _ _ (λ root. walk_from (record { content = content; count = root.blocks }) root)
    (λ root s. further (check (nat_le root.blocks most) 0 TooMany s) _ _ (λ root. walk_from (record { content = content; count = root.blocks }) root) (λ _ s. refl)))

abbrev or_else : RootValue × List ℕ → Outcome RootValue → RootValue × List ℕ
or_else x (Ok y) = y
or_else x (Err e) = x

-- what block 0 holds, where it was read as a table
pub root_gives : (content : ℕ → Option (List ℕ)) (most : ℕ) (places after : List ℕ) (root : RootValue) → root_from content most places ≡ Ok (root, after)
    → (bytes : List ℕ) × (content 0 ≡ Some bytes) × (root_of bytes ≡ Ok root) × (after ≡ places)
unfolding root_from bind content_at decoded check done refuse
root_gives content most places after root e = by_content (content 0) refl e
  where
    by_test : (bytes : List ℕ) (found : RootValue) (b : Bool) → content 0 ≡ Some bytes → root_of bytes ≡ Ok found
        → and_then ((if b then done b else refuse 0 TooMany) places) (λ _. done found) ≡ Ok (root, after)
        → (bytes : List ℕ) × (content 0 ≡ Some bytes) × (root_of bytes ≡ Ok root) × (after ≡ places)
    by_test bytes found true here is h =
        let same : found ≡ root = ap (λ r. (or_else (found, places) r).0) h in
        let same_places : places ≡ after = ap (λ r. (or_else (found, places) r).1) h in
        (bytes, here, is ∙ ap Ok same, sym same_places)
    by_test bytes found false here is h = absurd cc

    by_root : (bytes : List ℕ) (r : Result RootValue Why) → content 0 ≡ Some bytes → root_of bytes ≡ r
        → and_then (decoded 0 r places) (λ root. bind (check (nat_le root.blocks most) 0 TooMany) (λ _. done root)) ≡ Ok (root, after)
        → (bytes : List ℕ) × (content 0 ≡ Some bytes) × (root_of bytes ≡ Ok root) × (after ≡ places)
    by_root bytes (Ok found) here is h = by_test bytes found (nat_le found.blocks most) here is h
    by_root bytes (Err why) here is h = absurd cc

    by_content : (o : Option (List ℕ)) → content 0 ≡ o
        → and_then (content_at 0 o places) (λ bytes. bind (decoded 0 (root_of bytes)) (λ root. bind (check (nat_le root.blocks most) 0 TooMany) (λ _. done root))) ≡ Ok (root, after)
        → (bytes : List ℕ) × (content 0 ≡ Some bytes) × (root_of bytes ≡ Ok root) × (after ≡ places)
    by_content None here h = absurd cc
    by_content (Some bytes) here h = by_root bytes (root_of bytes) here refl h

-- the answer to a walk that ended so
pub ended_error : (found : Result Found WalkRefused) (count : ℕ) (places : List ℕ) (result : Result Checked WalkRefused) (e : WalkRefused) → IsEnded found count places result → result ≡ Err e → found ≡ Err e
ended_error (Ok found) count places (Ok checked) e is h = absurd cc
ended_error (Ok found) count places (Err f) e is h = absurd is
ended_error (Err d) count places (Ok checked) e is h = absurd is
ended_error (Err d) count places (Err f) e is h =
    let same : f ≡ e = cc in
    ap Err (sym is ∙ same)

pub answers_as : (past : Half → Bool) (result : Result Checked WalkRefused) (o p : Outcome LaidStore) → p ≡ o → Answers past result o → Answers past result p
answers_as past result o p same h = let P : Outcome LaidStore → Type 0 = λ q. Answers past result q in subst P (sym same) h

-- what a walk over all of a store shows, from what its last part shows
pub store_shown :
    (past : Half → Bool) (blocks : Blocks) (root : RootValue) (places : List ℕ) (rows : List Row) (s1 : List ℕ) (rows_are : table_rows blocks root places ≡ Ok (map row_of rows, s1))
    (files : List LaidFile) (s2 : List ℕ) (files_are : files_from blocks 1 (map row_of rows) s1 ≡ Ok (files, s2))
    (table : TableValue) → table.format ≡ root.format → table.blocks ≡ root.blocks → table.key ≡ root.key → table.parts ≡ root.parts → table.entries ≡ map (λ (row : Row). row.entry) rows
    → (result : Result Found WalkRefused) (after : List ℕ)
    → Shows past (λ (found : Found) (linked : ModelLinked). (found.table ≡ table) × (found.linked.chains.items ≡ chains_of linked.files)) result
    (tops_linked blocks (tops_from 1 files) (record { files = files; named = [] }) s2) after
    → Shows past (λ (found : Found) (store : LaidStore). LikeTable found.table store × (found.linked.chains.items ≡ chains_of store.files) × (store.root ≡ root)) result (walk_from blocks root places) after
store_shown past blocks root places rows s1 rows_are files s2 files_are table format size key parts all (Ok found) after (linked, (same, heads), is) = (
  record { root = root; files = linked.files },
  (
    record {
      format = ap (λ (t : TableValue). t.format) same ∙ format;
      blocks = ap (λ (t : TableValue). t.blocks) same ∙ size;
      key = ap (λ (t : TableValue). t.key) same ∙ key;
      parts = ap (λ (t : TableValue). t.parts) same ∙ parts;
      entries = ap (λ (t : TableValue). t.entries) same ∙ entries_of rows table.entries linked.files all (entries_are blocks root places (map row_of rows) s1 rows_are files s2 files_are linked after is);
    },
    heads,
    refl,
  ),
  walk_ends blocks root places (map row_of rows) s1 rows_are files s2 files_are linked after is,
)
store_shown past blocks root places rows s1 rows_are files s2 files_are table format size key parts all (Err (BadStore n why)) after is =
    tops_stop_all blocks root places (map row_of rows) s1 rows_are files s2 files_are (record { block = n; why = why }) is
store_shown past blocks root places rows s1 rows_are files s2 files_are table format size key parts all (Err (ReadFault half)) after is =
    λ late. ((is late).0, tops_stop_all blocks root places (map row_of rows) s1 rows_are files s2 files_are (is late).0 (is late).1)
store_shown past blocks root places rows s1 rows_are files s2 files_are table format size key parts all (Err Memory) after is = tt
