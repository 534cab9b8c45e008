-- Clearing the members of a version whose links are all set changes nothing else.
use Rattle.std.proofs.Common.{◌≡◌, ℕ, suc, ◌-◌, ◌≤◌, false, cond, List, [], ◌∷◌, ◌++◌, length, inl, inr, Option, Some, None, Ok, refl, sym, ap, subst, ◌∙◌, append-nil, arith, true≢false, slice_get}
use Rattle.std.specs.Option.{is_none}
use Rattle.std.specs.Cmp.{first_so, second_so}
use Rattle.page_codec.specs.Values.{VersionValue, MemberValue}
use Rattle.store_model.specs.Walk.{and_then, bind, done}
use Rattle.store_model.specs.Laid.{LaidVersion, LaidFile, last_laid}
use Rattle.store_model.specs.Members.{Top, Linked, names_none, top_of, tops_from, longer, members_linked, tops_linked}
use Rattle.store_model.specs.Found.{LaidStore, laid, found}
use Rattle.store_model.specs.Changes.{version_in_block, Rewrites, without_members, cleared, changed_at, file_with, store_with, LiesIn, IsTop, IsLinked, AreLinked}
use Rattle.store_model.proofs.PlaceLists.{IsIn, Apart, in_head, in_tail, in_left, in_right, in_either, in_along, none_in, SameBlocks, same_append, same_behind, same_from, same_in}
use Rattle.store_model.proofs.Steps.{Content, blocks_of, Agree, Passed, passed, same_value, same_places}
use Rattle.store_model.proofs.Rewriting.{same_version, page_as, version_as}
use Rattle.store_model.proofs.Chaining.{last_from, Rewritten, Ends, chain_stops}
use Rattle.store_model.proofs.Filing.{file_as, FilesRan, FilesAgain, files_again}
use Rattle.store_model.proofs.Edits.{some_is, none_some, changed_same, changed_alike, changed_length, last_past, get_append, get_past, state_same}
use Rattle.store_model.proofs.LastVersions.{chained_last, last_get, last_is, last_names_none}
use Rattle.store_model.proofs.Linking.{InFile, in_file, Extended, MemberRan, member_step}
use Rattle.store_model.proofs.Aside.{objects_of, objects_in, AsideRan, Step, member_run, members_step, tops_step, top_named, with_file}
use Rattle.store_model.proofs.Hits.{Outcome, missed, frozen, hit, tops_outcome}
use Rattle.store_model.proofs.Stores.{unlinked, store_of, Parts, parts_of, made_again, TopsSplit, tops_split, tops_append}
use Rattle.store_model.proofs.SettingLinks.{no_top, table_again, some_page, nil_of, found_same}

-- the last version of each file names none
abbrev EndNil : List LaidFile → Type 0
EndNil files = (k : ℕ) (file : LaidFile) (v : LaidVersion) → slice_get files k ≡ Some file → last_laid file.versions ≡ Some v → v.commit ≡ None

-- ---- members that are linked change nothing

record Unchanged (linked : Linked) (seen : List ℕ) (after : Linked) (all : List ℕ) : Type 0 where
  files : after.files ≡ linked.files
  stays : all ≡ seen
  names : (n : ℕ) → IsIn linked.named n → IsIn after.named n

-- a member that was tried as the next version leaves a link outstanding
never_extends : (c : Content) (count : ℕ) (top : Top) (member : MemberValue) (others : List MemberValue) (more : List Top)
    (linked : Linked) (seen : List ℕ) (next : Linked) (mid : List ℕ) (after : Linked) (all : List ℕ) (end : Linked) (places : List ℕ)
    → EndNil linked.files → (r : MemberRan c count top member linked seen next mid)
    → Extended c count top.version.block member r.last linked.files next.files seen mid
    → members_linked (blocks_of c count) top others next mid ≡ Ok (after, all) → tops_linked (blocks_of c count) more after all ≡ Ok (end, places)
    → ((file : LaidFile) → slice_get end.files (member.object - 1) ≡ Some file → IsLinked file) → ⊥
never_extends c count top member others more linked seen next mid after all end places nils r x rest tops links =
    let f : InFile member.object linked.files r.last = in_file member.object linked.files r.last r.is in
    let j : ℕ = member.object - 1 in
    let named : IsIn next.named (suc j) = subst (IsIn next.named) f.counts (subst (λ l. IsIn l member.object) (sym r.named) (in_head member.object linked.named)) in
    let one : Step c c count j (members_linked (blocks_of c count) top others) (objects_of others) next mid after all = members_step c c count j top others next mid after all (inl named) rest in
    let two : Step c c count j (tops_linked (blocks_of c count) more) (objects_in more) after all end places =
    tops_step c c count j more after all end places (inl (one.names (suc j) named)) tops in
    let there : slice_get end.files j ≡ Some (longer x.version f.file) =
    two.kept ∙ one.kept ∙ ap (λ l. slice_get l j) x.extends ∙ changed_same (longer x.version) j linked.files f.file f.listed in
    let long : length f.file.versions ≡ suc (length f.file.versions - 1) = nonempty f.file.versions r.last f.is in
    links (longer x.version f.file) there (length f.file.versions - 1) r.last x.version
    (get_append f.file.versions (x.version ∷ []) (length f.file.versions - 1) r.last f.is)
    (ap (slice_get (f.file.versions ++ x.version ∷ [])) (sym long) ∙ get_past f.file.versions x.version)
    (nils j f.file r.last f.listed f.is)
  where
    nonempty : (versions : List LaidVersion) (v : LaidVersion) → last_laid versions ≡ Some v → length versions ≡ suc (length versions - 1)
    nonempty [] v e = none_some e
    nonempty (w ∷ ws) v e = omega arith

members_unchanged : (c : Content) (count : ℕ) (top : Top) (members : List MemberValue) (more : List Top)
    (linked : Linked) (seen : List ℕ) (after : Linked) (all : List ℕ) (end : Linked) (places : List ℕ)
    → EndNil linked.files → members_linked (blocks_of c count) top members linked seen ≡ Ok (after, all) → tops_linked (blocks_of c count) more after all ≡ Ok (end, places)
    → ((k : ℕ) (member : MemberValue) (file : LaidFile) → slice_get members k ≡ Some member → slice_get end.files (member.object - 1) ≡ Some file → IsLinked file)
    → Unchanged linked seen after all
unfolding members_linked bind done
members_unchanged c count top [] more linked seen after all end places nils e tops links =
    let made : record linked { named = top.object ∷ linked.named } ≡ after = same_value seen all (record linked { named = top.object ∷ linked.named }) after e in
    record {
      files = ap (λ (l : Linked). l.files) (sym made);
      stays = sym (same_places seen all (record linked { named = top.object ∷ linked.named }) after e);
      names = λ n h. subst (λ (l : Linked). IsIn l.named n) made (in_tail top.object n linked.named h);
    }
members_unchanged c count top (member ∷ others) more linked seen after all end places nils e tops links =
    let p : Passed (member_run c count top member linked seen) (members_linked (blocks_of c count) top others) after all =
    passed (member_run c count top member linked seen) (members_linked (blocks_of c count) top others) after all e in
    let r : MemberRan c count top member linked seen p.value p.places = member_step c count top member linked seen p.value p.places p.first in
    elim r.how [
      | inl x ↦
          let nils' : EndNil p.value.files = subst EndNil (sym x.keeps) nils in
          let rest : Unchanged p.value p.places after all =
          members_unchanged c count top others more p.value p.places after all end places nils' p.second tops (λ k. links (suc k)) in
          record {
            files = rest.files ∙ x.keeps;
            stays = rest.stays ∙ x.stays;
            names = λ n h. rest.names n (subst (λ l. IsIn l n) (sym r.named) (in_tail member.object n linked.named h));
          }
      | inr x ↦ absurd (never_extends c count top member others more linked seen p.value p.places after all end places nils r x p.second tops (λ file there. links 0 member file refl there))
    ]

-- ---- the file of the top

top_listed : (c : Content) (most : ℕ) (store : LaidStore) (places : List ℕ) (p : Parts c most store places) (version : LaidVersion) (top : IsTop store version)
    → slice_get p.linked.files top.object ≡ Some top.file
top_listed c most store places p version top = ap (λ (s : LaidStore). slice_get s.files top.object) (sym p.made) ∙ top.listed

-- no member of a top is of a file whose last version names members itself
pub top_kept : (c d : Content) (most : ℕ) (store : LaidStore) (places : List ℕ) (p : Parts c most store places) (version : LaidVersion) (top : IsTop store version)
    → Outcome c d p.root.blocks top.object (λ v. v) (tops_linked (blocks_of d p.root.blocks) (tops_from 1 p.files)) (objects_in (tops_from 1 p.files)) (unlinked p.files) p.in_files p.linked places
    → slice_get p.files top.object ≡ Some top.file
top_kept c d most store places p version top (missed m) =
    sym (tops_step c d p.root.blocks top.object (tops_from 1 p.files) (unlinked p.files) p.in_files p.linked places (inr (inl m)) p.tops).kept
    ∙ top_listed c most store places p version top
top_kept c d most store places p version top (frozen f) = sym f.kept ∙ top_listed c most store places p version top
top_kept c d most store places p version top (hit z) =
    let same : top.file ≡ longer z.version z.file = some_is (sym (top_listed c most store places p version top) ∙ z.grown_file) in
    let last : version ≡ z.version = some_is (sym top.last ∙ ap (λ (f : LaidFile). last_laid f.versions) same ∙ last_past z.file.versions z.version) in
    absurd (true≢false (sym (second_so (is_none z.version.commit) (names_none z.version) z.ends) ∙ ap (λ v. names_none v) (sym last) ∙ top.names))

-- the last version of each file names none, also after some tops
ends_nil : (c : Content) (most : ℕ) (store : LaidStore) (places : List ℕ) (p : Parts c most store places) (tops : List Top) (mid : Linked) (so_far : List ℕ)
    → tops_linked (blocks_of c p.root.blocks) tops (unlinked p.files) p.in_files ≡ Ok (mid, so_far) → EndNil mid.files
ends_nil c most store places p tops mid so_far e k file v listed is =
    of (tops_outcome c c p.root.blocks k (λ w. w) (λ w. same_version w) tops (unlinked p.files) p.in_files mid so_far e)
    (λ m. (tops_step c c p.root.blocks k tops (unlinked p.files) p.in_files mid so_far (inr (inl m)) e).kept)
    (λ here. last_names_none c p.root.blocks p.rows p.in_table p.files p.in_files p.chains k file v here is)
  where
    of : Outcome c c p.root.blocks k (λ w. w) (tops_linked (blocks_of c p.root.blocks) tops) (objects_in tops) (unlinked p.files) p.in_files mid so_far
        → ((IsIn (objects_in tops) (suc k) → ⊥) → slice_get mid.files k ≡ slice_get p.files k)
        → (slice_get p.files k ≡ Some file → v.commit ≡ None) → v.commit ≡ None
    of (missed m) kept chain = chain (sym (kept m) ∙ listed)
    of (frozen f) kept chain = chain (sym f.kept ∙ listed)
    of (hit z) kept chain =
        let same : file ≡ longer z.version z.file = some_is (sym listed ∙ z.grown_file) in
        let last : v ≡ z.version = some_is (sym is ∙ ap (λ (f : LaidFile). last_laid f.versions) same ∙ last_past z.file.versions z.version) in
        ap (λ (w : LaidVersion). w.commit) last ∙ nil_of z.version.commit (first_so (is_none z.version.commit) (names_none z.version) z.ends)

-- a version that names members is a top
pub is_top : (object : ℕ) (o : Option LaidVersion) (version : LaidVersion) → o ≡ Some version → names_none version ≡ false
    → top_of object o ≡ (let t : Top = record { object = object; version = version } in t) ∷ []
is_top object o version is some =
    ap (top_of object) is ∙ ap (λ b. cond b [] ((let t : Top = record { object = object; version = version } in t) ∷ [])) some

-- the last of a list with its last changed
last_redone : (f : LaidVersion → LaidVersion) (versions : List LaidVersion) (head : LaidVersion) (rest : List LaidVersion) → versions ≡ head ∷ rest
    → last_laid (changed_at f (length rest) versions) ≡ Some (f (last_from head rest))
last_redone f versions head rest e =
    let long : length (changed_at f (length rest) (head ∷ rest)) ≡ length (head ∷ rest) = changed_length f (length rest) (head ∷ rest) in
    let one : length (changed_at f (length rest) (head ∷ rest)) - 1 ≡ length rest = omega arith in
    ap (λ l. last_laid (changed_at f (length rest) l)) e ∙ ap (slice_get (changed_at f (length rest) (head ∷ rest))) one
    ∙ changed_same f (length rest) (head ∷ rest) (last_from head rest) (last_get head rest)

-- the first of some tops
pub top_first : (c : Content) (count : ℕ) (top : Top) (others : List Top) (linked : Linked) (seen : List ℕ) (after : Linked) (all : List ℕ)
    → tops_linked (blocks_of c count) (top ∷ others) linked seen ≡ Ok (after, all)
    → Passed (members_linked (blocks_of c count) top top.version.members linked seen) (tops_linked (blocks_of c count) others) after all
unfolding tops_linked bind
top_first c count top others linked seen after all e =
    passed (members_linked (blocks_of c count) top top.version.members linked seen) (tops_linked (blocks_of c count) others) after all e

-- ---- the store without the members

cleared_places : (one two files table order all : List ℕ) → all ≡ two ++ (one ++ (files ++ table)) → SameBlocks order files → SameBlocks (two ++ (one ++ (order ++ table))) all
cleared_places one two files table order all e same n =
    same_behind two (one ++ (order ++ table)) (one ++ (files ++ table)) (same_behind one (order ++ table) (files ++ table) (same_append order files table same)) n
    ∙ same_from (two ++ (one ++ (files ++ table))) all (sym e) n

list_clear : (c d : Content) (most : ℕ) (store : LaidStore) (places : List ℕ) (p : Parts c most store places) (version : LaidVersion) (top : IsTop store version)
    → AreLinked store version.members → (rw : Rewrites c d version.block without_members) → slice_get p.files top.object ≡ Some top.file
    → LiesIn d most (store_with cleared top.object (length top.file.versions - 1) store) places
list_clear c d most store places p version top linked rw here =
    let count : ℕ = p.root.blocks in
    let k : ℕ = top.object in
    let fa : FilesAgain c d count (suc k) 1 k top.file p.rows p.in_table p.files p.in_files =
    files_again c d count (suc k) 1 k top.file p.rows p.in_table p.files p.in_files (length top.file.versions - 1) version (omega arith) p.chains here top.last in
    let base : LaidVersion = last_from fa.head fa.rest in
    let base_is : version ≡ base = last_is top.file.versions fa.head fa.rest version fa.list top.last in
    let redo : LaidVersion → LaidVersion = version_as None [] in
    let place : ℕ = length fa.rest in
    let g : LaidFile → LaidFile = file_as None [] place [] in
    let was : version_in_block c base.block ≡ Some rw.page = ap (λ (v : LaidVersion). version_in_block c v.block) (sym base_is) ∙ rw.was in
    let page_is : fa.last.page ≡ rw.page = some_page (version_in_block c base.block) fa.last.was was in
    let base_nil : base.commit ≡ None = chained_last fa.head fa.rest fa.chained in
    let page_nil : rw.page.commit ≡ None = ap (λ (v : VersionValue). v.commit) (sym page_is) ∙ sym fa.last.commit_is ∙ base_nil in
    let block_is : version.block ≡ base.block = ap (λ (v : LaidVersion). v.block) base_is in
    let page_now : version_in_block d base.block ≡ Some (page_as None [] rw.page) =
    ap (version_in_block d) (sym block_is) ∙ rw.is ∙ ap (λ o. Some (page_as o [] rw.page)) page_nil in
    let written : Rewritten c d base.block None [] =
    record { page = rw.page; was = was; is = page_now; one = refl; others = λ n h. rw.others n (λ i. h (i ∙ block_is)) } in
    let ends : Ends d count (suc k) (redo base) [] [] = λ most here clear. chain_stops d count (suc k) (suc most) (redo base) here refl in
    let in_them : (n : ℕ) → IsIn fa.new n → IsIn p.in_files n = λ n h. in_along (fa.new ++ p.in_table) p.in_files (sym fa.grown) n (in_left fa.new p.in_table n h) in
    let in_table : (n : ℕ) → IsIn p.in_table n → IsIn p.in_files n = λ n h. in_along (fa.new ++ p.in_table) p.in_files (sym fa.grown) n (in_right fa.new p.in_table n h) in
    let files : List LaidFile = changed_at g k p.files in
    let ran : FilesRan d count 1 p.rows p.in_table files fa.new =
    fa.rewritten None [] [] [] written ends p.in_table fa.apart (λ n h i. none_in n h) in
    let t : Top = record { object = suc k; version = version } in
    let split : TopsSplit k (suc k) 1 p.files top.file = tops_split k (suc k) 1 p.files top.file (omega arith) here in
    let tops_were : tops_from 1 p.files ≡ split.before ++ (t ∷ split.after) =
    split.is ∙ ap (λ l. split.before ++ (l ++ split.after)) (is_top (suc k) (last_laid top.file.versions) version top.last top.names) in
    let last_now : last_laid (g top.file).versions ≡ Some (redo base) =
    ap last_laid (append-nil (changed_at redo place top.file.versions)) ∙ last_redone redo top.file.versions fa.head fa.rest fa.list in
    let tops_are : tops_from 1 files ≡ split.before ++ split.after =
    split.other g ∙ ap (λ l. split.before ++ (l ++ split.after)) (no_top (suc k) (last_laid (g top.file).versions) (redo base) last_now refl) in
    let q : Passed (tops_linked (blocks_of c count) split.before (unlinked p.files) p.in_files) (tops_linked (blocks_of c count) (t ∷ split.after)) p.linked places =
    passed (tops_linked (blocks_of c count) split.before (unlinked p.files) p.in_files) (tops_linked (blocks_of c count) (t ∷ split.after)) p.linked places
    (sym (tops_append c count split.before (t ∷ split.after) (unlinked p.files) p.in_files)
    ∙ ap (λ l. tops_linked (blocks_of c count) l (unlinked p.files) p.in_files) (sym tops_were) ∙ p.tops) in
    let w : Passed (members_linked (blocks_of c count) t version.members q.value q.places) (tops_linked (blocks_of c count) split.after) p.linked places =
    top_first c count t split.after q.value q.places p.linked places q.second in
    let one : Step c d count k (tops_linked (blocks_of d count) split.before) (objects_in split.before) (unlinked p.files) p.in_files q.value q.places =
    tops_step c d count k split.before (unlinked p.files) p.in_files q.value q.places
    (inr (inr (record { file = top.file; last = version; listed = here; is = top.last; some = top.names }))) q.first in
    let still : Unchanged q.value q.places w.value w.places =
    members_unchanged c count t version.members split.after q.value q.places w.value w.places p.linked places
    (ends_nil c most store places p split.before q.value q.places q.first) w.first w.second
    (λ i member file is there. linked i member file is (ap (λ (s : LaidStore). slice_get s.files (member.object - 1)) p.made ∙ there)) in
    let two : Step c d count k (tops_linked (blocks_of d count) split.after) (objects_in split.after) w.value w.places p.linked places =
    tops_step c d count k split.after w.value w.places p.linked places (inl (top_named c count t version.members q.value q.places w.value w.places w.first)) w.second in
    let grown : places ≡ two.new ++ (one.new ++ p.in_files) = two.grown ∙ ap (λ l. two.new ++ l) (still.stays ∙ one.grown) in
    let start : List ℕ = ran.order ++ p.in_table in
    let in_start : (n : ℕ) → IsIn start n → IsIn p.in_files n = λ n h. elim (in_either ran.order p.in_table n h) [
      | inl x ↦ in_them n (same_in ran.order fa.new ran.same n x)
      | inr x ↦ in_table n x
    ] in
    let one_apart : Apart one.new start = λ n h i. one.apart n h (in_start n i) in
    let two_apart : Apart two.new (one.new ++ start) = λ n h i. two.apart n h (in_along (one.new ++ p.in_files) w.places (sym (still.stays ∙ one.grown)) n
    (elim (in_either one.new start n i) [ inl x ↦ in_left one.new p.in_files n x | inr x ↦ in_right one.new p.in_files n (in_start n x) ])) in
    let one_agree : Agree c d one.new = λ n h. written.others n (λ i. one.apart n h (in_them n (subst (IsIn fa.new) (sym i) fa.last.here))) in
    let two_agree : Agree c d two.new = λ n h. written.others n (λ i. two.apart n h (in_along (one.new ++ p.in_files) w.places (sym (still.stays ∙ one.grown)) n
    (in_right one.new p.in_files n (in_them n (subst (IsIn fa.new) (sym i) fa.last.here))))) in
    let go : AsideRan (tops_linked (blocks_of d count) split.before (with_file g k [] (unlinked p.files))) g k [] start one.new (unlinked p.files) q.value =
    one.aside g [] start (λ n i h. h) one_apart one_agree in
    let on : AsideRan (tops_linked (blocks_of d count) split.after (with_file g k go.names w.value)) g k go.names (one.new ++ start) two.new w.value p.linked =
    two.aside g go.names (one.new ++ start) (λ n i h. still.names n (go.fewer n (λ j. j) h)) two_apart two_agree in
    let tops : tops_linked (blocks_of d count) (tops_from 1 files) (unlinked files) start ≡ Ok (with_file g k on.names p.linked, two.new ++ (one.new ++ start)) =
    ap (λ l. tops_linked (blocks_of d count) l (unlinked files) start) tops_are ∙ tops_append d count split.before split.after (unlinked files) start
    ∙ ap (λ r. and_then r (tops_linked (blocks_of d count) split.after)) go.runs
    ∙ ap (λ l. tops_linked (blocks_of d count) split.after ((let m : Linked = record { files = changed_at g k l; named = go.names } in m)) (one.new ++ start)) (sym still.files) ∙ on.runs in
    let above : 1 ≤ base.block = (fa.each base.block fa.last.here).0 in
    let built : laid d most [] ≡ Ok (store_of p.root (changed_at g k p.linked.files), two.new ++ (one.new ++ start)) =
    made_again d most p.held p.root p.rows files (with_file g k on.names p.linked) p.in_table start (two.new ++ (one.new ++ start))
    (sym (written.others 0 (λ e. omega arith)) ∙ p.holds) p.reads p.few
    (table_again c d most store places p base.block (λ h. fa.apart base.block fa.last.here h) written.others) ran.runs tops in
    let long : length top.file.versions ≡ suc place = ap length fa.list in
    let at : length top.file.versions - 1 ≡ place = omega arith in
    let versions : changed_at redo place top.file.versions ++ [] ≡ changed_at cleared (length top.file.versions - 1) top.file.versions =
    append-nil (changed_at redo place top.file.versions)
    ∙ changed_alike redo cleared place top.file.versions base (ap (λ l. slice_get l place) fa.list ∙ last_get fa.head fa.rest)
    (ap (λ o. (let v : LaidVersion = record base { commit = o; members = [] } in v)) (sym base_nil))
    ∙ ap (λ i. changed_at cleared i top.file.versions) (sym at) in
    let same_files : changed_at g k p.linked.files ≡ changed_at (file_with cleared (length top.file.versions - 1)) k p.linked.files =
    changed_alike g (file_with cleared (length top.file.versions - 1)) k p.linked.files top.file (top_listed c most store places p version top)
    (ap (λ vs. (let x : LaidFile = record { entry = top.file.entry; versions = vs } in x)) versions) in
    record {
      order = two.new ++ (one.new ++ start);
      laid = built ∙ ap (λ l. Ok (store_of p.root l, two.new ++ (one.new ++ start))) same_files
          ∙ ap (λ s. Ok (store_with cleared k (length top.file.versions - 1) s, two.new ++ (one.new ++ start))) (sym p.made);
      same = cleared_places one.new two.new fa.new p.in_table ran.order places (grown ∙ ap (λ l. two.new ++ (one.new ++ l)) fa.grown) ran.same;
    }

pub clearing_keeps : (c d : Content) (most : ℕ) (store : LaidStore) (places : List ℕ) → laid c most [] ≡ Ok (store, places)
    → (version : LaidVersion) (top : IsTop store version) → AreLinked store version.members → Rewrites c d version.block without_members
    → LiesIn d most (store_with cleared top.object (length top.file.versions - 1) store) places × (found d most ≡ found c most)
clearing_keeps c d most store places e version top linked rw =
    let p : Parts c most store places = parts_of c most store places e in
    let kept : slice_get p.files top.object ≡ Some top.file =
    top_kept c d most store places p version top
    (tops_outcome c d p.root.blocks top.object (λ v. v) (λ v. same_version v) (tops_from 1 p.files) (unlinked p.files) p.in_files p.linked places p.tops) in
    let lies : LiesIn d most (store_with cleared top.object (length top.file.versions - 1) store) places = list_clear c d most store places p version top linked rw kept in (
      lies,
      found_same c d most store (store_with cleared top.object (length top.file.versions - 1) store) places lies.order e lies.laid
          (state_same cleared top.object (length top.file.versions - 1) store (λ v. refl)),
    )
