-- Setting a link that is outstanding changes nothing but the commit reference.
use Rattle.std.proofs.Common.{◌≡◌, ◌≢◌, ℕ, suc, ◌-◌, ◌<◌, ◌≤◌, ◌==◌, true, cond, nat_eq, List, [], ◌∷◌, ◌++◌, length, inl, inr, Option, Some, None, Ok, refl, sym, ap, subst, ◌∙◌, append_assoc, append-nil, arith, eqb-true, eq-eqb, true≢false, slice_get}
use Rattle.std.specs.Option.{is_none}
use Rattle.std.specs.Cmp.{first_so, second_so}
use Rattle.page_codec.specs.Values.{VersionValue, MemberValue}
use Rattle.tree_model.proofs.Paths.{told}
use Rattle.store_model.specs.Laid.{LaidVersion, LaidFile, last_laid}
use Rattle.store_model.specs.Tables.{table_rows}
use Rattle.store_model.specs.Members.{Top, names_none, top_of, tops_from, longer, tops_linked}
use Rattle.store_model.specs.Found.{LaidStore, laid, found, state_of, state_in}
use Rattle.store_model.specs.Changes.{version_in_block, Rewrites, with_commit, committed, changed_at, file_with, store_with, LiesIn, Outstanding}
use Rattle.store_model.proofs.PlaceLists.{IsIn, Apart, in_left, in_right, in_either, in_along, none_in, SameBlocks, same_append, same_behind, same_swap, same_from, same_in}
use Rattle.store_model.proofs.Steps.{Content, blocks_of, Agree, InRange, Ran}
use Rattle.store_model.proofs.Locality.{framed_rows}
use Rattle.store_model.proofs.Rewriting.{version_as, VersionAgain}
use Rattle.store_model.proofs.Chaining.{last_from, Rewritten, Ends, chain_goes, chain_stops}
use Rattle.store_model.proofs.Filing.{file_as, FilesRan, FilesAgain, files_again}
use Rattle.store_model.proofs.Edits.{some_is, none_some, changed_alike, changed_append, get_more, get_past, within, last_past, state_same}
use Rattle.store_model.proofs.LastVersions.{chained_next, last_get, last_is}
use Rattle.store_model.proofs.Aside.{objects_in, AsideRan, tops_step, with_file}
use Rattle.store_model.proofs.Hits.{Hit, Outcome, missed, frozen, hit, tops_outcome}
use Rattle.store_model.proofs.Stores.{unlinked, store_of, Parts, parts_of, made_again, TopsSplit, tops_split}

-- a version that names no members is no top
pub no_top : (object : ℕ) (o : Option LaidVersion) (version : LaidVersion) → o ≡ Some version → names_none version ≡ true → top_of object o ≡ []
no_top object o version is none =
    ap (top_of object) is ∙ ap (λ b. cond b [] ((let t : Top = record { object = object; version = version } in t) ∷ [])) none

-- the table is read again where none of its places was written
pub table_again : (c d : Content) (most : ℕ) (store : LaidStore) (places : List ℕ) (p : Parts c most store places) (block : ℕ)
    → (IsIn p.in_table block → ⊥) → ((n : ℕ) → n ≢ block → c n ≡ d n) → table_rows (blocks_of d p.root.blocks) p.root [] ≡ Ok (p.rows, p.in_table)
table_again c d most store places p block off others =
    let r : Ran c d (InRange p.root.blocks) (table_rows (blocks_of d p.root.blocks) p.root) [] p.rows p.in_table = (framed_rows c d p.root.blocks p.root).runs [] p.rows p.in_table p.table in
    let same : p.in_table ≡ r.new = r.grown ∙ append-nil r.new in
    r.anywhere [] (λ n h g. none_in n g) (λ n h. others n (λ i. off (subst (IsIn p.in_table) i (in_along r.new p.in_table (sym same) n h)))) ∙ ap (λ l. Ok (p.rows, l)) (sym r.grown)

-- which file is the one with the link, and where in it
pub record Found (c d : Content) (most : ℕ) (store : LaidStore) (places : List ℕ) (p : Parts c most store places) (change : LaidVersion → LaidVersion) (link : Outstanding store) : Type 0 where
  pub z : Hit c d p.root.blocks link.object change (tops_linked (blocks_of d p.root.blocks) (tops_from 1 p.files)) (objects_in (tops_from 1 p.files)) (unlinked p.files) p.in_files p.linked places
  pub fa : FilesAgain c d p.root.blocks (suc link.object) 1 link.object z.file p.rows p.in_table p.files p.in_files
  pub file_is : link.file ≡ longer z.version z.file
  pub place_is : link.place ≡ length fa.rest
  pub base_is : link.base ≡ last_from fa.head fa.rest
  pub next_is : link.next ≡ z.version

-- within one chain a version that names none is the last
never_within : (c d : Content) (most : ℕ) (store : LaidStore) (places : List ℕ) (p : Parts c most store places) (link : Outstanding store) (file : LaidFile)
    → FilesAgain c d p.root.blocks (suc link.object) 1 link.object file p.rows p.in_table p.files p.in_files
    → slice_get file.versions link.place ≡ Some link.base → slice_get file.versions (suc link.place) ≡ Some link.next → ⊥
never_within c d most store places p link file fa before after =
    let e : link.base.commit ≡ Some link.next.block =
    chained_next fa.head fa.rest link.place link.base link.next fa.chained (ap (λ l. slice_get l link.place) (sym fa.list) ∙ before)
    (ap (λ l. slice_get l (suc link.place)) (sym fa.list) ∙ after) in
    none_some (sym link.nil ∙ e)

link_listed : (c : Content) (most : ℕ) (store : LaidStore) (places : List ℕ) (p : Parts c most store places) (link : Outstanding store)
    → slice_get p.linked.files link.object ≡ Some link.file
link_listed c most store places p link = ap (λ (s : LaidStore). slice_get s.files link.object) (sym p.made) ∙ link.listed

-- so the file did not stay
never_kept : (c d : Content) (most : ℕ) (store : LaidStore) (places : List ℕ) (p : Parts c most store places) (link : Outstanding store)
    → slice_get p.linked.files link.object ≡ slice_get p.files link.object → ⊥
never_kept c d most store places p link kept =
    let listed : slice_get p.files link.object ≡ Some link.file = sym kept ∙ link_listed c most store places p link in
    never_within c d most store places p link link.file
    (files_again c d p.root.blocks (suc link.object) 1 link.object link.file p.rows p.in_table p.files p.in_files link.place link.base (omega arith) p.chains listed link.before)
    link.before link.after

found_hit : (c d : Content) (most : ℕ) (store : LaidStore) (places : List ℕ) (p : Parts c most store places) (change : LaidVersion → LaidVersion) (link : Outstanding store)
    → Hit c d p.root.blocks link.object change (tops_linked (blocks_of d p.root.blocks) (tops_from 1 p.files)) (objects_in (tops_from 1 p.files)) (unlinked p.files) p.in_files p.linked places
    → Found c d most store places p change link
found_hit c d most store places p change link z =
    let fa : FilesAgain c d p.root.blocks (suc link.object) 1 link.object z.file p.rows p.in_table p.files p.in_files =
    files_again c d p.root.blocks (suc link.object) 1 link.object z.file p.rows p.in_table p.files p.in_files (length z.file.versions - 1) z.base (omega arith) p.chains z.listed z.is in
    let file_is : link.file ≡ longer z.version z.file = some_is (sym (link_listed c most store places p link) ∙ z.grown_file) in
    let before : slice_get (z.file.versions ++ z.version ∷ []) link.place ≡ Some link.base = ap (λ (f : LaidFile). slice_get f.versions link.place) (sym file_is) ∙ link.before in
    let after : slice_get (z.file.versions ++ z.version ∷ []) (suc link.place) ≡ Some link.next = ap (λ (f : LaidFile). slice_get f.versions (suc link.place)) (sym file_is) ∙ link.after in
    elim (told (nat_eq (suc link.place) (length z.file.versions))) [
      | inl t ↦
          let at : suc link.place ≡ length z.file.versions = eqb-true (suc link.place) (length z.file.versions) t in
          let all : length z.file.versions ≡ suc (length fa.rest) = ap length fa.list in
          let place_is : link.place ≡ length fa.rest = omega arith in
          let inside : slice_get z.file.versions link.place ≡ Some link.base = get_more z.file.versions z.version link.place link.base before (λ e. omega arith) in
          record {
            z = z;
            fa = fa;
            file_is = file_is;
            place_is = place_is;
            base_is = some_is (sym inside ∙ ap (slice_get z.file.versions) place_is ∙ ap (λ l. slice_get l (length fa.rest)) fa.list ∙ last_get fa.head fa.rest);
            next_is = some_is (sym after ∙ ap (slice_get (z.file.versions ++ z.version ∷ [])) at ∙ get_past z.file.versions z.version);
          }
      | inr f ↦
          let off : suc link.place ≢ length z.file.versions = λ e. true≢false (sym (eq-eqb (suc link.place) (length z.file.versions) e) ∙ f) in
          let next : slice_get z.file.versions (suc link.place) ≡ Some link.next = get_more z.file.versions z.version (suc link.place) link.next after off in
          let few : suc link.place < length z.file.versions = within z.file.versions (suc link.place) link.next next in
          let base : slice_get z.file.versions link.place ≡ Some link.base = get_more z.file.versions z.version link.place link.base before (λ e. omega arith) in
          absurd (never_within c d most store places p link z.file fa base next)
    ]

pub finds : (c d : Content) (most : ℕ) (store : LaidStore) (places : List ℕ) (p : Parts c most store places) (change : LaidVersion → LaidVersion) (link : Outstanding store)
    → Outcome c d p.root.blocks link.object change (tops_linked (blocks_of d p.root.blocks) (tops_from 1 p.files)) (objects_in (tops_from 1 p.files)) (unlinked p.files) p.in_files p.linked places
    → Found c d most store places p change link
finds c d most store places p change link (missed m) =
    absurd (never_kept c d most store places p link
    (tops_step c d p.root.blocks link.object (tops_from 1 p.files) (unlinked p.files) p.in_files p.linked places (inr (inl m)) p.tops).kept)
finds c d most store places p change link (frozen f) = absurd (never_kept c d most store places p link f.kept)
finds c d most store places p change link (hit z) = found_hit c d most store places p change link z

-- ---- the store with the link set

one_more : {X : Type 0} (x : X) (xs : List X) → length xs < length (x ∷ xs)
one_more x xs = omega arith

pub some_page : {X : Type 0} {x y : X} (o : Option X) → o ≡ Some x → o ≡ Some y → x ≡ y
some_page o a b = some_is (sym a ∙ b)

pub nil_of : (o : Option ℕ) → is_none o ≡ true → o ≡ None
nil_of None h = refl
nil_of (Some n) h = absurd (true≢false (sym h))

-- the chain goes on with the version that the link names
pub ends_with :
    (c d : Content) (count object block at : ℕ) (base version : LaidVersion) (from to : List ℕ) → base.commit ≡ Some block → at ≡ block → version.commit ≡ None
    → (va : VersionAgain c d count object at (Some base) from version to) → Agree c d va.new → Ends d count object base (version ∷ []) va.new
ends_with c d count object block at base version from to names is ends va agree most here clear =
    chain_goes d count object most at base version (version ∷ []) here (va.new ++ here) (va.new ++ here) (names ∙ ap Some (sym is))
    (va.again base.block here clear agree) (chain_stops d count object most version (va.new ++ here) ends)

-- the places, in another order
places_same : (again rest new files table order all : List ℕ) → all ≡ new ++ (files ++ table) → SameBlocks new (again ++ rest) → SameBlocks order (again ++ files)
    → SameBlocks (rest ++ (order ++ table)) all
places_same again rest new files table order all e one two n =
    same_behind rest (order ++ table) ((again ++ files) ++ table) (same_append order (again ++ files) table two) n
    ∙ same_from (rest ++ ((again ++ files) ++ table)) (rest ++ (again ++ (files ++ table))) (ap (λ l. rest ++ l) (append_assoc again files table)) n
    ∙ same_swap rest again (files ++ table) n
    ∙ same_from (again ++ (rest ++ (files ++ table))) ((again ++ rest) ++ (files ++ table)) (sym (append_assoc again rest (files ++ table))) n
    ∙ sym (same_append new (again ++ rest) (files ++ table) one n)
    ∙ same_from (new ++ (files ++ table)) all (sym e) n

link_set : (c d : Content) (most : ℕ) (store : LaidStore) (places : List ℕ) (p : Parts c most store places) (link : Outstanding store)
    → (rw : Rewrites c d link.base.block (with_commit link.next.block))
    → Found c d most store places p (version_as (Some link.next.block) rw.page.members) link
    → LiesIn d most (store_with (committed link.next.block) link.object link.place store) places
link_set c d most store places p link rw f =
    let z = f.z in
    let fa = f.fa in
    let count : ℕ = p.root.blocks in
    let k : ℕ = link.object in
    let b : ℕ = link.next.block in
    let members : List MemberValue = rw.page.members in
    let base : LaidVersion = last_from fa.head fa.rest in
    let redo : LaidVersion → LaidVersion = version_as (Some b) members in
    let place : ℕ = length fa.rest in
    let g : LaidFile → LaidFile = file_with redo place in
    let z_base : z.base ≡ base = last_is z.file.versions fa.head fa.rest z.base fa.list z.is in
    let was : version_in_block c base.block ≡ Some rw.page = ap (λ (v : LaidVersion). version_in_block c v.block) (sym f.base_is) ∙ rw.was in
    let page_is : fa.last.page ≡ rw.page = some_page (version_in_block c base.block) fa.last.was was in
    let members_are : base.members ≡ members = fa.last.members_is ∙ ap (λ (v : VersionValue). v.members) page_is in
    let none : (length members == 0) ≡ true = ap (λ l. length l == 0) (sym members_are) ∙ ap (λ v. names_none v) (sym z_base) ∙ z.none in
    let block_is : link.base.block ≡ base.block = ap (λ (v : LaidVersion). v.block) f.base_is in
    let written : Rewritten c d base.block (Some b) members =
    record { page = rw.page; was = was; is = ap (version_in_block d) (sym block_is) ∙ rw.is; one = none; others = λ n h. rw.others n (λ i. h (i ∙ block_is)) } in
    let in_them : (n : ℕ) → IsIn fa.new n → IsIn p.in_files n = λ n h. in_along (fa.new ++ p.in_table) p.in_files (sym fa.grown) n (in_left fa.new p.in_table n h) in
    let in_table : (n : ℕ) → IsIn p.in_table n → IsIn p.in_files n = λ n h. in_along (fa.new ++ p.in_table) p.in_files (sym fa.grown) n (in_right fa.new p.in_table n h) in
    let inside : (n : ℕ) → IsIn z.again.new n → IsIn z.new n = λ n h. same_in (z.again.new ++ z.rest) z.new (λ m. sym (z.same m)) n (in_left z.again.new z.rest n h) in
    let rests : (n : ℕ) → IsIn z.rest n → IsIn z.new n = λ n h. same_in (z.again.new ++ z.rest) z.new (λ m. sym (z.same m)) n (in_right z.again.new z.rest n h) in
    let agree : (n : ℕ) → IsIn z.new n → c n ≡ d n = λ n h. written.others n (λ i. z.apart n h (in_them n (subst (IsIn fa.new) (sym i) fa.last.here))) in
    let ends : Ends d count (suc k) (redo base) (z.version ∷ []) z.again.new =
    subst (λ v. Ends d count (suc k) (redo v) (z.version ∷ []) z.again.new) z_base
    (ends_with c d count (suc k) b z.version.block (redo z.base) z.version z.from z.to refl (ap (λ (v : LaidVersion). v.block) (sym f.next_is)) (nil_of z.version.commit (first_so (is_none z.version.commit) (names_none z.version) z.ends)) z.again
    (λ n h. agree n (inside n h))) in
    let files : List LaidFile = changed_at (file_as (Some b) members place (z.version ∷ [])) k p.files in
    let ran : FilesRan d count 1 p.rows p.in_table files (z.again.new ++ fa.new) =
    fa.rewritten (Some b) members (z.version ∷ []) z.again.new written ends p.in_table fa.apart
    (λ n h i. z.apart n (inside n h) (in_along (fa.new ++ p.in_table) p.in_files (sym fa.grown) n i)) in
    let beside : Apart z.rest (ran.order ++ p.in_table) =
    λ n h i. elim (in_either ran.order p.in_table n i) [
      | inl x ↦ elim (in_either z.again.new fa.new n (same_in ran.order (z.again.new ++ fa.new) ran.same n x)) [
        | inl y ↦ z.parted n h y
        | inr y ↦ z.apart n (rests n h) (in_them n y)
      ]
      | inr x ↦ z.apart n (rests n h) (in_table n x)
    ] in
    let short : place < length z.file.versions = subst (λ l. place < length l) (sym fa.list) (one_more fa.head fa.rest) in
    let moved : changed_at redo place (z.file.versions ++ z.version ∷ []) ≡ changed_at redo place z.file.versions ++ z.version ∷ [] = changed_append redo place z.file.versions (z.version ∷ []) short in
    let at_file : g (longer z.version z.file) ≡ file_as (Some b) members place (z.version ∷ []) z.file =
    ap (λ vs. (let x : LaidFile = record { entry = z.file.entry; versions = vs } in x)) moved in
    let last : last_laid (g (longer z.version z.file)).versions ≡ Some z.version = ap last_laid moved ∙ last_past (changed_at redo place z.file.versions) z.version in
    let files_are : files ≡ changed_at (λ x. g (longer z.version x)) k p.files =
    changed_alike (file_as (Some b) members place (z.version ∷ [])) (λ x. g (longer z.version x)) k p.files z.file z.listed (sym at_file) in
    let split : TopsSplit k (suc k) 1 p.files z.file = tops_split k (suc k) 1 p.files z.file (omega arith) z.listed in
    let tops_are : tops_from 1 files ≡ tops_from 1 p.files =
    split.other (file_as (Some b) members place (z.version ∷ []))
    ∙ ap (λ t. split.before ++ (t ++ split.after))
    (no_top (suc k) (last_laid (changed_at redo place z.file.versions ++ z.version ∷ [])) z.version (last_past (changed_at redo place z.file.versions) z.version)
    (second_so (is_none z.version.commit) (names_none z.version) z.ends)
    ∙ sym (no_top (suc k) (last_laid z.file.versions) z.base z.is z.none))
    ∙ sym split.is in
    let go : AsideRan (tops_linked (blocks_of d count) (tops_from 1 p.files) (with_file (λ x. g (longer z.version x)) k [] (unlinked p.files))) g k [] (ran.order ++ p.in_table) z.rest (unlinked p.files) p.linked =
    z.ahead g last [] (ran.order ++ p.in_table) (λ n i h. absurd (none_in n h)) beside (λ n h. agree n (rests n h)) in
    let tops : tops_linked (blocks_of d count) (tops_from 1 files) (unlinked files) (ran.order ++ p.in_table) ≡ Ok (with_file g k go.names p.linked, z.rest ++ (ran.order ++ p.in_table)) =
    ap (λ t. tops_linked (blocks_of d count) t (unlinked files) (ran.order ++ p.in_table)) tops_are
    ∙ ap (λ l. tops_linked (blocks_of d count) (tops_from 1 p.files) (unlinked l) (ran.order ++ p.in_table)) files_are ∙ go.runs in
    let above : 1 ≤ base.block = (fa.each base.block fa.last.here).0 in
    let built : laid d most [] ≡ Ok (store_of p.root (changed_at g k p.linked.files), z.rest ++ (ran.order ++ p.in_table)) =
    made_again d most p.held p.root p.rows files (with_file g k go.names p.linked) p.in_table (ran.order ++ p.in_table) (z.rest ++ (ran.order ++ p.in_table))
    (sym (written.others 0 (λ e. omega arith)) ∙ p.holds) p.reads p.few
    (table_again c d most store places p base.block (λ h. fa.apart base.block fa.last.here h) written.others) ran.runs tops in
    let versions : changed_at redo place link.file.versions ≡ changed_at (committed b) link.place link.file.versions =
    ap (λ i. changed_at redo i link.file.versions) (sym f.place_is)
    ∙ changed_alike redo (committed b) link.place link.file.versions link.base link.before
    (ap (λ m. (let v : LaidVersion = record link.base { commit = Some b; members = m } in v)) (sym members_are ∙ ap (λ (v : LaidVersion). v.members) (sym f.base_is))) in
    let same_files : changed_at g k p.linked.files ≡ changed_at (file_with (committed b) link.place) k p.linked.files =
    changed_alike g (file_with (committed b) link.place) k p.linked.files link.file (link_listed c most store places p link)
    (ap (λ vs. (let x : LaidFile = record { entry = link.file.entry; versions = vs } in x)) versions) in
    record {
      order = z.rest ++ (ran.order ++ p.in_table);
      laid = built ∙ ap (λ l. Ok (store_of p.root l, z.rest ++ (ran.order ++ p.in_table))) same_files
          ∙ ap (λ s. Ok (store_with (committed b) k link.place s, z.rest ++ (ran.order ++ p.in_table))) (sym p.made);
      same = places_same z.again.new z.rest z.new fa.new p.in_table ran.order places (z.grown ∙ ap (λ l. z.new ++ l) fa.grown) z.same ran.same;
    }

pub found_same : (c d : Content) (most : ℕ) (store other : LaidStore) (places order : List ℕ) → laid c most [] ≡ Ok (store, places) → laid d most [] ≡ Ok (other, order)
    → state_in other ≡ state_in store → found d most ≡ found c most
found_same c d most store other places order one two same = ap state_of two ∙ ap (λ s. Ok s) same ∙ sym (ap state_of one)

pub linking_keeps : (c d : Content) (most : ℕ) (store : LaidStore) (places : List ℕ) → laid c most [] ≡ Ok (store, places) → (link : Outstanding store)
    → Rewrites c d link.base.block (with_commit link.next.block)
    → LiesIn d most (store_with (committed link.next.block) link.object link.place store) places × (found d most ≡ found c most)
linking_keeps c d most store places e link rw =
    let p : Parts c most store places = parts_of c most store places e in
    let change : LaidVersion → LaidVersion = version_as (Some link.next.block) rw.page.members in
    let f : Found c d most store places p change link =
    finds c d most store places p change link
    (tops_outcome c d p.root.blocks link.object change (λ v. record { serial = refl; block = refl; nodes = refl }) (tops_from 1 p.files) (unlinked p.files) p.in_files p.linked places p.tops) in
    let lies : LiesIn d most (store_with (committed link.next.block) link.object link.place store) places = link_set c d most store places p link rw f in (
      lies,
      found_same c d most store (store_with (committed link.next.block) link.object link.place store) places lies.order e lies.laid
          (state_same (committed link.next.block) link.object link.place store (λ v. refl)),
    )
