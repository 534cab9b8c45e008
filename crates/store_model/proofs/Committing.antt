-- Writing the commit reference of a last version appends the version that it names, and those of its members.
use Rattle.std.proofs.Common.{◌≡◌, ◌≢◌, ℕ, suc, ◌+◌, ◌-◌, ◌≤◌, ◌==◌, true, false, List, [], ◌∷◌, ◌++◌, length, inl, inr, ◌⊎◌, Some, Ok, refl, sym, ap, subst, ◌∙◌, append_assoc, arith, eqb-true, true≢false, slice_get}
use Rattle.tree_model.proofs.Paths.{told}
use Rattle.store_model.specs.Tables.{table_rows, files_from}
use Rattle.page_codec.specs.Values.{VersionValue, MemberValue}
use Rattle.store_model.specs.Walk.{and_then, done}
use Rattle.store_model.specs.Chains.{version_at}
use Rattle.store_model.specs.Laid.{LaidVersion, LaidFile, last_laid}
use Rattle.store_model.specs.Members.{Top, Linked, names_none, top_of, tops_from, members_linked, tops_linked}
use Rattle.store_model.specs.Found.{LaidStore, state_in, laid, found, state_of}
use Rattle.store_model.specs.Changes.{version_in_block, Rewrites, with_commit, committed, changed_at, file_committed, files_committed, NextVersion, LiesIn}
use Rattle.store_model.proofs.PlaceLists.{IsIn, Apart, in_head, in_tail, in_left, in_right, in_either, in_along, none_in, SameBlocks, same_append, same_behind, same_swap, same_from, same_in}
use Rattle.store_model.proofs.Steps.{Content, blocks_of, Agree, InRange, Ran, Passed, passed, went_on, same_value, same_places}
use Rattle.store_model.proofs.Locality.{framed_members, framed_tops}
use Rattle.store_model.proofs.Rewriting.{version_as, VersionAgain, version_again}
use Rattle.store_model.proofs.Chaining.{last_from, Rewritten, Ends}
use Rattle.store_model.proofs.Filing.{file_as, FilesRan, FilesAgain, files_again}
use Rattle.store_model.proofs.Edits.{some_is, changed_other, changed_alike, last_past}
use Rattle.store_model.proofs.LastVersions.{last_get, last_is}
use Rattle.store_model.proofs.Aside.{objects_of, objects_in, AsideRan, Step, tops_step, with_file}
use Rattle.store_model.proofs.Stores.{unlinked, store_of, Parts, parts_of, made_again, TopsSplit, tops_split, tops_append}
use Rattle.store_model.proofs.TopsNamed.{unnamed_by, objects_append, tops_of, tops_of_append, SomeTop, tops_name_some}
use Rattle.store_model.proofs.Swapping.{tops_name, never_member, Swapped, swap}
use Rattle.store_model.proofs.SettingLinks.{no_top, table_again, some_page, ends_with}
use Rattle.store_model.proofs.Clearing.{is_top}

-- ---- the parts of a store and the next version in it

abbrev objects : (c : Content) (store : LaidStore) (places : List ℕ) → NextVersion c store places → List ℕ
objects c store places next = suc next.object ∷ objects_of next.version.members

abbrev pub top_next : (c : Content) (store : LaidStore) (places : List ℕ) → NextVersion c store places → Top
top_next c store places next = record { object = suc next.object; version = next.version }

-- no version of the store names a member of one of these objects, so no top does
unnamed : (c : Content) (most : ℕ) (store : LaidStore) (places : List ℕ) (p : Parts c most store places) (next : NextVersion c store places) (n : ℕ)
    → IsIn (objects_in (tops_from 1 p.files)) n → IsIn (objects c store places next) n → ⊥
unnamed c most store places p next n h i =
    unnamed_by c most store places p n
    (λ top is k member listed e. true≢false (sym (subst (IsIn (objects c store places next)) (sym e) i) ∙ next.unnamed top is k member listed)) h

pub none_of : (members : List MemberValue) → (length members == 0) ≡ true → members ≡ []
none_of [] h = refl
none_of (m ∷ ms) h = absurd (many ms h)
  where
    many : (ms : List MemberValue) → (length (m ∷ ms) == 0) ≡ true → ⊥
    many ms e = let z : length (m ∷ ms) ≡ 0 = eqb-true (length (m ∷ ms)) 0 e in omega arith

-- what is found where the version names no members
pub alone : (c : Content) (count : ℕ) (top : Top) (members : List MemberValue) (linked : Linked) (seen : List ℕ) (after : Linked) (all : List ℕ)
    → members ≡ [] → members_linked (blocks_of c count) top members linked seen ≡ Ok (after, all) → (after.files ≡ linked.files) × (all ≡ seen)
unfolding members_linked done
alone c count top members linked seen after all none e =
    let f : members_linked (blocks_of c count) top [] linked seen ≡ Ok (after, all) = ap (λ l. members_linked (blocks_of c count) top l linked seen) (sym none) ∙ e in (
      ap (λ (l : Linked). l.files) (sym (same_value seen all (record linked { named = top.object ∷ linked.named }) after f)),
      sym (same_places seen all (record linked { named = top.object ∷ linked.named }) after f),
    )

-- the places, in another order
places_so : (own one two files table order all : List ℕ) → all ≡ two ++ (one ++ (files ++ table)) → SameBlocks order (own ++ files)
    → SameBlocks (two ++ (one ++ (order ++ table))) (own ++ all)
places_so own one two files table order all e same n =
    same_behind two (one ++ (order ++ table)) (one ++ ((own ++ files) ++ table)) (same_behind one (order ++ table) ((own ++ files) ++ table) (same_append order (own ++ files) table same)) n
    ∙ same_from (two ++ (one ++ ((own ++ files) ++ table))) (two ++ (one ++ (own ++ (files ++ table)))) (ap (λ l. two ++ (one ++ l)) (append_assoc own files table)) n
    ∙ same_behind two (one ++ (own ++ (files ++ table))) (own ++ (one ++ (files ++ table))) (same_swap one own (files ++ table)) n
    ∙ same_swap two own (one ++ (files ++ table)) n
    ∙ same_from (own ++ (two ++ (one ++ (files ++ table)))) (own ++ all) (ap (λ l. own ++ l) (sym e)) n

-- the tops of the changed files were walked
record TopsRan (d : Content) (count : ℕ) (tops : List Top) (start : Linked) (seen : List ℕ) (files : List LaidFile) (all : List ℕ) : Type 0 where
  end : Linked
  order : List ℕ
  run : tops_linked (blocks_of d count) tops start seen ≡ Ok (end, order)
  same_files : end.files ≡ files
  same : SameBlocks order all

-- the places of the files are places of the store
files_in_places : (c : Content) (most : ℕ) (store : LaidStore) (places : List ℕ) (p : Parts c most store places) (n : ℕ) → IsIn p.in_files n → IsIn places n
files_in_places c most store places p n h =
    let r : Ran c c (InRange p.root.blocks) (tops_linked (blocks_of c p.root.blocks) (tops_from 1 p.files) (unlinked p.files)) p.in_files p.linked places =
    (framed_tops c c p.root.blocks (tops_from 1 p.files) (unlinked p.files)).runs p.in_files p.linked places p.tops in
    in_along (r.new ++ p.in_files) places (sym r.grown) n (in_right r.new p.in_files n h)

-- ---- the files with the next version

-- the files are found with the next version in one of them
record FilesNow (c d : Content) (most : ℕ) (store : LaidStore) (places : List ℕ) (p : Parts c most store places) (next : NextVersion c store places) : Type 0 where
  block : ℕ
  above : 1 ≤ block
  here : IsIn p.in_files block
  others : (n : ℕ) → n ≢ block → c n ≡ d n
  listed : slice_get p.files next.object ≡ Some next.file
  kept : slice_get p.linked.files next.object ≡ Some next.file
  own : List ℕ
  grown : next.own ≡ own ++ places
  apart : Apart own places
  g : LaidFile → LaidFile
  is : g next.file ≡ file_committed next.block next.version next.file
  last : last_laid (g next.file).versions ≡ Some next.version
  table : table_rows (blocks_of d p.root.blocks) p.root [] ≡ Ok (p.rows, p.in_table)
  files_new : List ℕ
  files_grown : p.in_files ≡ files_new ++ p.in_table
  order : List ℕ
  ran : files_from (blocks_of d p.root.blocks) 1 p.rows p.in_table ≡ Ok (changed_at g next.object p.files, order ++ p.in_table)
  same : SameBlocks order (own ++ files_new)

off_tops : (c : Content) (most : ℕ) (store : LaidStore) (places : List ℕ) (p : Parts c most store places) (next : NextVersion c store places)
    → IsIn (objects_in (tops_from 1 p.files)) (suc next.object) → ⊥
off_tops c most store places p next h = unnamed c most store places p next (suc next.object) h (in_head (suc next.object) (objects_of next.version.members))

files_now : (c d : Content) (most : ℕ) (store : LaidStore) (places : List ℕ) (p : Parts c most store places) (next : NextVersion c store places)
    → (rw : Rewrites c d next.base.block (with_commit next.block)) → FilesNow c d most store places p next
files_now c d most store places p next rw =
    let count : ℕ = p.root.blocks in
    let k : ℕ = next.object in
    let b : ℕ = next.block in
    let w : LaidVersion = next.version in
    let members : List MemberValue = rw.page.members in
    let listed : slice_get p.linked.files k ≡ Some next.file = ap (λ (s : LaidStore). slice_get s.files k) (sym p.made) ∙ next.listed in
    let whole : Step c c count k (tops_linked (blocks_of c count) (tops_from 1 p.files)) (objects_in (tops_from 1 p.files)) (unlinked p.files) p.in_files p.linked places =
    tops_step c c count k (tops_from 1 p.files) (unlinked p.files) p.in_files p.linked places (inr (inl (off_tops c most store places p next))) p.tops in
    let here : slice_get p.files k ≡ Some next.file = sym whole.kept ∙ listed in
    let fa : FilesAgain c d count (suc k) 1 k next.file p.rows p.in_table p.files p.in_files =
    files_again c d count (suc k) 1 k next.file p.rows p.in_table p.files p.in_files (length next.file.versions - 1) next.base (omega arith) p.chains here next.last in
    let base : LaidVersion = last_from fa.head fa.rest in
    let base_is : next.base ≡ base = last_is next.file.versions fa.head fa.rest next.base fa.list next.last in
    let redo : LaidVersion → LaidVersion = version_as (Some b) members in
    let place : ℕ = length fa.rest in
    let was : version_in_block c base.block ≡ Some rw.page = ap (λ (v : LaidVersion). version_in_block c v.block) (sym base_is) ∙ rw.was in
    let page_is : fa.last.page ≡ rw.page = some_page (version_in_block c base.block) fa.last.was was in
    let members_are : base.members ≡ members = fa.last.members_is ∙ ap (λ (v : VersionValue). v.members) page_is in
    let none : (length members == 0) ≡ true = ap (λ l. length l == 0) (sym members_are) ∙ ap (λ v. names_none v) (sym base_is) ∙ next.none in
    let block_is : next.base.block ≡ base.block = ap (λ (v : LaidVersion). v.block) base_is in
    let written : Rewritten c d base.block (Some b) members =
    record { page = rw.page; was = was; is = ap (version_in_block d) (sym block_is) ∙ rw.is; one = none; others = λ n h. rw.others n (λ i. h (i ∙ block_is)) } in
    let in_them : IsIn p.in_files base.block = in_along (fa.new ++ p.in_table) p.in_files (sym fa.grown) base.block (in_left fa.new p.in_table base.block fa.last.here) in
    let in_all : (n : ℕ) → IsIn p.in_files n → IsIn places n = λ n h. in_along (whole.new ++ p.in_files) places (sym whole.grown) n (in_right whole.new p.in_files n h) in
    let blocks_are : store.root.blocks ≡ count = ap (λ (s : LaidStore). s.root.blocks) p.made in
    let read : version_at (blocks_of c count) (suc k) next.base.block b (Some next.base) places ≡ Ok (w, next.own) =
    subst (λ n. version_at (blocks_of c n) (suc k) next.base.block b (Some next.base) places ≡ Ok (w, next.own)) blocks_are next.read in
    let va : VersionAgain c d count (suc k) b (Some (redo base)) places w next.own =
    version_again c d count (suc k) next.base.block b (Some next.base) (Some (redo base)) places w next.own
    (record { serial = ap (λ (v : LaidVersion). v.serial) base_is; block = block_is; nodes = ap (λ (v : LaidVersion). v.nodes) base_is }) read in
    let ends : Ends d count (suc k) (redo base) (w ∷ []) va.new =
    ends_with c d count (suc k) b b (redo base) w places next.own refl refl next.nil va
    (λ n h. written.others n (λ i. va.apart n h (subst (IsIn places) (sym i) (in_all base.block in_them)))) in
    let ran : FilesRan d count 1 p.rows p.in_table (changed_at (file_as (Some b) members place (w ∷ [])) k p.files) (va.new ++ fa.new) =
    fa.rewritten (Some b) members (w ∷ []) va.new written ends p.in_table fa.apart
    (λ n h i. va.apart n h (in_all n (in_along (fa.new ++ p.in_table) p.in_files (sym fa.grown) n i))) in
    let long : length next.file.versions ≡ suc place = ap length fa.list in
    let at : length next.file.versions - 1 ≡ place = omega arith in
    let versions : changed_at redo place next.file.versions ≡ changed_at (committed b) (length next.file.versions - 1) next.file.versions =
    changed_alike redo (committed b) place next.file.versions base (ap (λ l. slice_get l place) fa.list ∙ last_get fa.head fa.rest)
    (ap (λ m. (let v : LaidVersion = record base { commit = Some b; members = m } in v)) (sym members_are))
    ∙ ap (λ i. changed_at (committed b) i next.file.versions) (sym at) in
    record {
      block = base.block;
      above = (fa.each base.block fa.last.here).0;
      here = in_them;
      others = written.others;
      listed = here;
      kept = listed;
      own = va.new;
      grown = va.grown;
      apart = va.apart;
      g = file_as (Some b) members place (w ∷ []);
      is = ap (λ vs. (let x : LaidFile = record { entry = next.file.entry; versions = vs ++ w ∷ [] } in x)) versions;
      last = last_past (changed_at redo place next.file.versions) w;
      table = table_again c d most store places p base.block (λ h. fa.apart base.block fa.last.here h) written.others;
      files_new = fa.new;
      files_grown = fa.grown;
      order = ran.order;
      ran = ran.runs;
      same = ran.same;
    }

-- ---- the tops of the files

abbrev linked_as : List LaidFile → List ℕ → Linked
linked_as files named = record { files = files; named = named }

-- the tops before and after the file's, as they went, and as they go with the next version in it
record TopsNow (c d : Content) (most : ℕ) (store : LaidStore) (places : List ℕ) (p : Parts c most store places) (next : NextVersion c store places) (f : FilesNow c d most store places p next) : Type 0 where
  before : List Top
  after : List Top
  were : tops_from 1 p.files ≡ before ++ after
  are : tops_from 1 (changed_at f.g next.object p.files) ≡ before ++ (top_of (suc next.object) (Some next.version) ++ after)
  mid : Linked
  mid_places : List ℕ
  was : tops_linked (blocks_of c p.root.blocks) before (unlinked p.files) p.in_files ≡ Ok (mid, mid_places)
  names : List ℕ
  fewer : (n : ℕ) → IsIn names n → IsIn mid.named n
  one : List ℕ
  first :
      tops_linked (blocks_of d p.root.blocks) before (unlinked (changed_at f.g next.object p.files)) (f.order ++ p.in_table)
      ≡ Ok (linked_as (changed_at f.g next.object mid.files) names, one ++ (f.order ++ p.in_table))
  end_names : List ℕ
  two : List ℕ
  second :
      tops_linked (blocks_of d p.root.blocks) after (linked_as (changed_at f.g next.object mid.files) names) (one ++ (f.order ++ p.in_table))
      ≡ Ok (linked_as (changed_at f.g next.object p.linked.files) end_names, two ++ (one ++ (f.order ++ p.in_table)))
  same : SameBlocks (two ++ (one ++ (f.order ++ p.in_table))) next.own

tops_now : (c d : Content) (most : ℕ) (store : LaidStore) (places : List ℕ) (p : Parts c most store places) (next : NextVersion c store places) (f : FilesNow c d most store places p next)
    → TopsNow c d most store places p next f
tops_now c d most store places p next f =
    let count : ℕ = p.root.blocks in
    let k : ℕ = next.object in
    let split : TopsSplit k (suc k) 1 p.files next.file = tops_split k (suc k) 1 p.files next.file (omega arith) f.listed in
    let were : tops_from 1 p.files ≡ split.before ++ split.after =
    split.is ∙ ap (λ l. split.before ++ (l ++ split.after)) (no_top (suc k) (last_laid next.file.versions) next.base next.last next.none) in
    let objects_are : objects_in (tops_from 1 p.files) ≡ objects_in split.before ++ objects_in split.after = ap objects_in were ∙ objects_append split.before split.after in
    let off : IsIn (objects_in split.before ++ objects_in split.after) (suc k) → ⊥ =
    λ h. off_tops c most store places p next (in_along (objects_in split.before ++ objects_in split.after) (objects_in (tops_from 1 p.files)) (sym objects_are) (suc k) h) in
    let q : Passed (tops_linked (blocks_of c count) split.before (unlinked p.files) p.in_files) (tops_linked (blocks_of c count) split.after) p.linked places =
    passed (tops_linked (blocks_of c count) split.before (unlinked p.files) p.in_files) (tops_linked (blocks_of c count) split.after) p.linked places
    (sym (tops_append c count split.before split.after (unlinked p.files) p.in_files)
    ∙ ap (λ l. tops_linked (blocks_of c count) l (unlinked p.files) p.in_files) (sym were) ∙ p.tops) in
    let one : Step c d count k (tops_linked (blocks_of d count) split.before) (objects_in split.before) (unlinked p.files) p.in_files q.value q.places =
    tops_step c d count k split.before (unlinked p.files) p.in_files q.value q.places
    (inr (inl (λ h. off (in_left (objects_in split.before) (objects_in split.after) (suc k) h)))) q.first in
    let two : Step c d count k (tops_linked (blocks_of d count) split.after) (objects_in split.after) q.value q.places p.linked places =
    tops_step c d count k split.after q.value q.places p.linked places
    (inr (inl (λ h. off (in_right (objects_in split.before) (objects_in split.after) (suc k) h)))) q.second in
    let start : List ℕ = f.order ++ p.in_table in
    let in_start : (n : ℕ) → IsIn start n → IsIn f.own n ⊎ IsIn p.in_files n =
    λ n h. elim (in_either f.order p.in_table n h) [
      | inl x ↦ elim (in_either f.own f.files_new n (same_in f.order (f.own ++ f.files_new) f.same n x)) [
        | inl y ↦ inl y
        | inr y ↦ inr (in_along (f.files_new ++ p.in_table) p.in_files (sym f.files_grown) n (in_left f.files_new p.in_table n y))
      ]
      | inr x ↦ inr (in_along (f.files_new ++ p.in_table) p.in_files (sym f.files_grown) n (in_right f.files_new p.in_table n x))
    ] in
    let ones_in : (n : ℕ) → IsIn one.new n → IsIn q.places n = λ n h. in_along (one.new ++ p.in_files) q.places (sym one.grown) n (in_left one.new p.in_files n h) in
    let files_in : (n : ℕ) → IsIn p.in_files n → IsIn q.places n = λ n h. in_along (one.new ++ p.in_files) q.places (sym one.grown) n (in_right one.new p.in_files n h) in
    let mid_in : (n : ℕ) → IsIn q.places n → IsIn places n = λ n h. in_along (two.new ++ q.places) places (sym two.grown) n (in_right two.new q.places n h) in
    let twos_in : (n : ℕ) → IsIn two.new n → IsIn places n = λ n h. in_along (two.new ++ q.places) places (sym two.grown) n (in_left two.new q.places n h) in
    let one_apart : Apart one.new start = λ n h i. elim (in_start n i) [ inl x ↦ f.apart n x (mid_in n (ones_in n h)) | inr x ↦ one.apart n h x ] in
    let two_apart : Apart two.new (one.new ++ start) =
    λ n h i. elim (in_either one.new start n i) [
      | inl x ↦ two.apart n h (ones_in n x)
      | inr x ↦ elim (in_start n x) [ inl y ↦ f.apart n y (twos_in n h) | inr y ↦ two.apart n h (files_in n y) ]
    ] in
    let one_agree : Agree c d one.new = λ n h. f.others n (λ i. one.apart n h (subst (IsIn p.in_files) (sym i) f.here)) in
    let two_agree : Agree c d two.new = λ n h. f.others n (λ i. two.apart n h (files_in n (subst (IsIn p.in_files) (sym i) f.here))) in
    let go : AsideRan (tops_linked (blocks_of d count) split.before (with_file f.g k [] (unlinked p.files))) f.g k [] start one.new (unlinked p.files) q.value =
    one.aside f.g [] start (λ n i h. h) one_apart one_agree in
    let on : AsideRan (tops_linked (blocks_of d count) split.after (with_file f.g k go.names q.value)) f.g k go.names (one.new ++ start) two.new q.value p.linked =
    two.aside f.g go.names (one.new ++ start) (λ n i h. go.fewer n (λ j. j) h) two_apart two_agree in
    let grown : places ≡ two.new ++ (one.new ++ (f.files_new ++ p.in_table)) =
    two.grown ∙ ap (λ l. two.new ++ l) one.grown ∙ ap (λ l. two.new ++ (one.new ++ l)) f.files_grown in
    record {
      before = split.before;
      after = split.after;
      were = were;
      are = split.other f.g ∙ ap (λ o. split.before ++ (top_of (suc k) o ++ split.after)) f.last;
      mid = q.value;
      mid_places = q.places;
      was = q.first;
      names = go.names;
      fewer = λ n h. go.fewer n (λ j. j) h;
      one = one.new;
      first = go.runs;
      end_names = on.names;
      two = two.new;
      second = on.runs;
      same = λ n. places_so f.own one.new two.new f.files_new p.in_table f.order places grown f.same n ∙ same_from (f.own ++ places) next.own (sym f.grown) n;
    }

-- ---- the store with the next version

-- some tops, then the others
tops_both : (d : Content) (count : ℕ) (before after : List Top) (a : Linked) (seen : List ℕ) (b : Linked) (mid : List ℕ) (e : Linked) (all : List ℕ)
    → tops_linked (blocks_of d count) before a seen ≡ Ok (b, mid) → tops_linked (blocks_of d count) after b mid ≡ Ok (e, all)
    → tops_linked (blocks_of d count) (before ++ after) a seen ≡ Ok (e, all)
tops_both d count before after a seen b mid e all one two =
    tops_append d count before after a seen ∙ ap (λ r. and_then r (tops_linked (blocks_of d count) after)) one ∙ two

first_then : (d : Content) (count : ℕ) (top : Top) (others : List Top) (a : Linked) (seen : List ℕ) (b : Linked) (mid : List ℕ) (after : Linked) (all : List ℕ)
    → members_linked (blocks_of d count) top top.version.members a seen ≡ Ok (b, mid) → tops_linked (blocks_of d count) others b mid ≡ Ok (after, all)
    → tops_linked (blocks_of d count) (top ∷ others) a seen ≡ Ok (after, all)
unfolding tops_linked
first_then d count top others a seen b mid after all one two =
    went_on (members_linked (blocks_of d count) top top.version.members a) (tops_linked (blocks_of d count) others) seen b mid (Ok (after, all)) one two

-- the members of the next version, tried when all else is found
members_run : (c d : Content) (most : ℕ) (store : LaidStore) (places : List ℕ) (p : Parts c most store places) (next : NextVersion c store places) (f : FilesNow c d most store places p next)
    → members_linked (blocks_of c p.root.blocks) (top_next c store places next) next.version.members (linked_as (changed_at f.g next.object p.linked.files) []) next.own
    ≡ Ok (next.linked, next.after)
members_run c d most store places p next f =
    ap (λ l. members_linked (blocks_of c p.root.blocks) (top_next c store places next) next.version.members (linked_as l []) next.own)
    (changed_alike f.g (file_committed next.block next.version) next.object p.linked.files next.file f.kept f.is)
    ∙ subst
    (λ (s : LaidStore).
    members_linked (blocks_of c s.root.blocks) (top_next c store places next) next.version.members (files_committed next.object next.block next.version s) next.own
    ≡ Ok (next.linked, next.after)) p.made next.members

tops_plain : (c d : Content) (most : ℕ) (store : LaidStore) (places : List ℕ) (p : Parts c most store places) (next : NextVersion c store places) (f : FilesNow c d most store places p next)
    → TopsNow c d most store places p next f → names_none next.version ≡ true
    → TopsRan d p.root.blocks (tops_from 1 (changed_at f.g next.object p.files)) (unlinked (changed_at f.g next.object p.files)) (f.order ++ p.in_table) next.linked.files next.after
tops_plain c d most store places p next f t none =
    let count : ℕ = p.root.blocks in
    let start : List ℕ = f.order ++ p.in_table in
    let end : Linked = linked_as (changed_at f.g next.object p.linked.files) [] in
    let only : (next.linked.files ≡ end.files) × (next.after ≡ next.own) =
    alone c count (top_next c store places next) next.version.members end next.own next.linked next.after (none_of next.version.members none)
    (members_run c d most store places p next f) in
    let tops : tops_from 1 (changed_at f.g next.object p.files) ≡ t.before ++ t.after =
    t.are ∙ ap (λ l. t.before ++ (l ++ t.after)) (no_top (suc next.object) (Some next.version) next.version refl none) in
    record {
      end = linked_as (changed_at f.g next.object p.linked.files) t.end_names;
      order = t.two ++ (t.one ++ start);
      run =
          ap (λ l. tops_linked (blocks_of d count) l (unlinked (changed_at f.g next.object p.files)) start) tops
          ∙ tops_both d count t.before t.after (unlinked (changed_at f.g next.object p.files)) start (linked_as (changed_at f.g next.object t.mid.files) t.names) (t.one ++ start)
          (linked_as (changed_at f.g next.object p.linked.files) t.end_names) (t.two ++ (t.one ++ start)) t.first t.second;
      same_files = sym only.0;
      same = λ n. t.same n ∙ same_from next.own next.after (sym only.1) n;
    }

-- the members of the next version were not named by the tops before it
not_named : (c d : Content) (most : ℕ) (store : LaidStore) (places : List ℕ) (p : Parts c most store places) (next : NextVersion c store places) (f : FilesNow c d most store places p next)
    → (t : TopsNow c d most store places p next f) (n : ℕ) → IsIn (objects_of next.version.members) n → IsIn t.names n → ⊥
not_named c d most store places p next f t n h i =
    let count : ℕ = p.root.blocks in
    elim (tops_name c count t.before (unlinked p.files) p.in_files t.mid t.mid_places t.was n (t.fewer n i)) [
      | inl x ↦ none_in n x
      | inr x ↦ elim x [
        | inl y ↦ unnamed c most store places p next n
            (in_along (objects_in t.before ++ objects_in t.after) (objects_in (tops_from 1 p.files)) (sym (ap objects_in t.were ∙ objects_append t.before t.after)) n
            (in_left (objects_in t.before) (objects_in t.after) n y))
            (in_tail (suc next.object) n (objects_of next.version.members) h)
        | inr y ↦ top_clash (tops_name_some 1 p.files n
            (in_along (tops_of t.before ++ tops_of t.after) (tops_of (tops_from 1 p.files)) (sym (ap tops_of t.were ∙ tops_of_append t.before t.after)) n
            (in_left (tops_of t.before) (tops_of t.after) n y)))
      ]
    ]
  where
    top_clash : SomeTop 1 p.files n → ⊥
    top_clash s =
        let is : n ≡ 1 + s.k = s.is in
        let object : n ≡ suc s.k = omega arith in
        let stays : slice_get p.linked.files s.k ≡ slice_get p.files s.k =
        (tops_step c c p.root.blocks s.k (tops_from 1 p.files) (unlinked p.files) p.in_files p.linked places (inr (inr s.some)) p.tops).kept in
        let off : s.k ≢ next.object = λ e.
        let file : s.some.file ≡ next.file = some_is (sym s.some.listed ∙ ap (slice_get p.files) e ∙ f.listed) in
        let base : s.some.last ≡ next.base = some_is (sym s.some.is ∙ ap (λ (x : LaidFile). last_laid x.versions) file ∙ next.last) in
        true≢false (sym next.none ∙ ap (λ v. names_none v) (sym base) ∙ s.some.some) in
        never_member c p.root.blocks s.k (top_next c store places next) next.version.members (linked_as (changed_at f.g next.object p.linked.files) []) next.own next.linked next.after
        (record { file = s.some.file; last = s.some.last; listed = changed_other f.g next.object s.k p.linked.files off ∙ stays ∙ s.some.listed; is = s.some.is; some = s.some.some })
        (members_run c d most store places p next f) (subst (IsIn (objects_of next.version.members)) object h)

tops_with : (c d : Content) (most : ℕ) (store : LaidStore) (places : List ℕ) (p : Parts c most store places) (next : NextVersion c store places) (f : FilesNow c d most store places p next)
    → TopsNow c d most store places p next f → names_none next.version ≡ false
    → TopsRan d p.root.blocks (tops_from 1 (changed_at f.g next.object p.files)) (unlinked (changed_at f.g next.object p.files)) (f.order ++ p.in_table) next.linked.files next.after
tops_with c d most store places p next f t some =
    let count : ℕ = p.root.blocks in
    let k : ℕ = next.object in
    let start : List ℕ = f.order ++ p.in_table in
    let top : Top = top_next c store places next in
    let end : Linked = linked_as (changed_at f.g k p.linked.files) [] in
    let mid : List ℕ = t.two ++ (t.one ++ start) in
    let r : Ran c d (InRange count) (members_linked (blocks_of d count) top next.version.members end) next.own next.linked next.after =
    (framed_members c d count top next.version.members end).runs next.own next.linked next.after (members_run c d most store places p next f) in
    let base_in : IsIn next.own f.block = in_along (f.own ++ places) next.own (sym f.grown) f.block (in_right f.own places f.block (files_in_places c most store places p f.block f.here)) in
    let moved : members_linked (blocks_of d count) top next.version.members end mid ≡ Ok (next.linked, r.new ++ mid) =
    r.anywhere mid (λ n h i. r.apart n h (same_in mid next.own t.same n i)) (λ n h. f.others n (λ i. r.apart n h (subst (IsIn next.own) (sym i) base_in))) in
    let objects_are : objects_in (tops_from 1 p.files) ≡ objects_in t.before ++ objects_in t.after = ap objects_in t.were ∙ objects_append t.before t.after in
    let in_after : (n : ℕ) → IsIn (objects_in t.after) n → IsIn (objects_in (tops_from 1 p.files)) n =
    λ n h. in_along (objects_in t.before ++ objects_in t.after) (objects_in (tops_from 1 p.files)) (sym objects_are) n (in_right (objects_in t.before) (objects_in t.after) n h) in
    let s : Swapped d count top next.version.members t.after (linked_as (changed_at f.g k t.mid.files) t.names) (t.one ++ start) next.linked.files (r.new ++ mid) =
    swap d count k top t.after next.version.members refl (λ h. off_tops c most store places p next (in_after (suc k) h))
    (linked_as (changed_at f.g k t.mid.files) t.names) (t.one ++ start) (linked_as (changed_at f.g k p.linked.files) t.end_names) mid t.names [] next.linked (r.new ++ mid)
    t.second moved
    (λ n h i. unnamed c most store places p next n (in_after n i) (in_tail (suc k) n (objects_of next.version.members) h))
    (λ n h i. absurd (not_named c d most store places p next f t n h i)) (λ n h i. i) in
    let tops : tops_from 1 (changed_at f.g k p.files) ≡ t.before ++ (top ∷ t.after) =
    t.are ∙ ap (λ l. t.before ++ (l ++ t.after)) (is_top (suc k) (Some next.version) next.version refl some) in
    record {
      end = s.end;
      order = s.places;
      run =
          ap (λ l. tops_linked (blocks_of d count) l (unlinked (changed_at f.g k p.files)) start) tops
          ∙ tops_both d count t.before (top ∷ t.after) (unlinked (changed_at f.g k p.files)) start (linked_as (changed_at f.g k t.mid.files) t.names) (t.one ++ start) s.end s.places t.first
          (first_then d count top t.after (linked_as (changed_at f.g k t.mid.files) t.names) (t.one ++ start) s.middle s.so_far s.end s.places s.first s.second);
      same_files = s.same_files;
      same = λ n. s.same n ∙ same_behind r.new mid next.own t.same n ∙ same_from (r.new ++ next.own) next.after (sym r.grown) n;
    }

commit_lies : (c d : Content) (most : ℕ) (store : LaidStore) (places : List ℕ) (p : Parts c most store places) (next : NextVersion c store places) (f : FilesNow c d most store places p next)
    → TopsRan d p.root.blocks (tops_from 1 (changed_at f.g next.object p.files)) (unlinked (changed_at f.g next.object p.files)) (f.order ++ p.in_table) next.linked.files next.after
    → LiesIn d most (record store { files = next.linked.files }) next.after
commit_lies c d most store places p next f t =
    let above : 1 ≤ f.block = f.above in
    let built : laid d most [] ≡ Ok (store_of p.root t.end.files, t.order) =
    made_again d most p.held p.root p.rows (changed_at f.g next.object p.files) t.end p.in_table (f.order ++ p.in_table) t.order
    (sym (f.others 0 (λ e. omega arith)) ∙ p.holds) p.reads p.few f.table f.ran t.run in
    record {
      order = t.order;
      laid = built ∙ ap (λ l. Ok (store_of p.root l, t.order)) t.same_files
          ∙ ap (λ (s : LaidStore). Ok ((let x : LaidStore = record s { files = next.linked.files } in x), t.order)) (sym p.made);
      same = t.same;
    }

pub committing_together : (c d : Content) (most : ℕ) (store : LaidStore) (places : List ℕ) → laid c most [] ≡ Ok (store, places)
    → (next : NextVersion c store places) → Rewrites c d next.base.block (with_commit next.block)
    → LiesIn d most (record store { files = next.linked.files }) next.after × (found d most ≡ Ok (state_in (record store { files = next.linked.files })))
committing_together c d most store places e next rw =
    let p : Parts c most store places = parts_of c most store places e in
    let f : FilesNow c d most store places p next = files_now c d most store places p next rw in
    let t : TopsNow c d most store places p next f = tops_now c d most store places p next f in
    let ran : TopsRan d p.root.blocks (tops_from 1 (changed_at f.g next.object p.files)) (unlinked (changed_at f.g next.object p.files)) (f.order ++ p.in_table) next.linked.files next.after =
    elim (told (names_none next.version)) [ inl none ↦ tops_plain c d most store places p next f t none | inr some ↦ tops_with c d most store places p next f t some ] in
    let lies : LiesIn d most (record store { files = next.linked.files }) next.after = commit_lies c d most store places p next f ran in
    (lies, ap state_of lies.laid)
