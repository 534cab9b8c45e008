-- What is found is a state, and the block of each version that is found holds its page.
use Rattle.std.proofs.Common.{◌≡◌, ℕ, zero, suc, ◌+◌, ◌-◌, ◌==◌, Bool, true, false, List, [], ◌∷◌, ◌++◌, map, length, inl, inr, Option, Some, None, option_map, Result, Ok, Err, refl, sym, ap, subst, ◌∙◌, arith, eqb-true, slice_get}
use Rattle.std.specs.Option.{is_none, option_and_then}
use Rattle.std.specs.Cmp.{first_so}
use Rattle.std.specs.FinMap as finmap
use Rattle.std.proofs.lemmas.Option.{slice_get-map}
use Rattle.std.proofs.lemmas.List.{length-map}
use Rattle.std.proofs.lemmas.Bool.{eqb-false}
use Rattle.tree_model.specs.Trees.{IsKept}
use Rattle.tree_model.specs.States.{State, Version, IsRising, IsFile, IsState, entry_count}
use Rattle.page_codec.specs.Values.{MemberValue}
use Rattle.page_codec.specs.Causes.{version_of}
use Rattle.store_model.specs.Walk.{Refused}
use Rattle.store_model.specs.Laid.{LaidVersion, LaidFile, last_laid}
use Rattle.store_model.specs.Chains.{version_at, chain_from, chain_at}
use Rattle.store_model.specs.Tables.{Row, files_from}
use Rattle.store_model.specs.Members.{Top, Linked, names_none, longer, last_in, member_linked, members_linked, tops_linked}
use Rattle.store_model.specs.Found.{LaidStore, version_in, file_in, state_in, state_of, laid, found}
use Rattle.store_model.specs.Laws.{IsVersionOf, read_of}
use Rattle.store_model.specs.Changes.{version_in_block, changed_at}
use Rattle.store_model.specs.VersionPages.{HasItsPage, AreShared}
use Rattle.store_model.proofs.Steps.{Content, blocks_of}
use Rattle.store_model.proofs.Giving.{Gives, gives_bind, gives_done, gives_some}
use Rattle.store_model.proofs.Edits.{some_is, none_some, changed_other, changed_same, changed_length, last_past}
use Rattle.store_model.proofs.Chaining.{last_from}
use Rattle.store_model.proofs.Rewriting.{VersionRead, version_read}
use Rattle.store_model.proofs.LastVersions.{last_is, last_names_none}
use Rattle.store_model.proofs.Linking.{InFile, in_file, MemberRan, member_step}
use Rattle.store_model.proofs.Stores.{Parts, parts_of}
use Rattle.store_model.proofs.Held.{versions_are_held}
use Rattle.store_model.proofs.FirstPages.{AreFrom, first_pages, all_fresh}
use Rattle.store_model.proofs.KeptTrees.{holds_kept}
use Rattle.store_model.proofs.SharedPages.{shared_pages}
use Rattle.store_model.proofs.Counted.{IsRootShape, root_shape, gives_rows, gives_count}

-- ---- a version, and those after it

-- its serial is one more than that of the version before, and each page that is not its own is one of that version
record Follows (before version : LaidVersion) : Type 0 where
  serial : version.serial ≡ before.serial + 1
  shares : AreShared before.nodes version.nodes

abbrev IsAfter : LaidVersion → Option LaidVersion → Type 0
IsAfter version None = Unit {0}
IsAfter version (Some before) = Follows before version

record Read (c : Content) (object : ℕ) (before : Option LaidVersion) (version : LaidVersion) : Type 0 where
  page : HasItsPage c object version
  after : IsAfter version before

after_of : (c : Content) (count object block : ℕ) (before : Option LaidVersion) (seen : List ℕ) (u : LaidVersion) (all : List ℕ)
    → VersionRead c count object block before seen u all → IsAfter u before
after_of c count object block None seen u all r = tt
after_of c count object block (Some before) seen u all r =
    record {
      serial = ap (λ (v : LaidVersion). v.serial) r.made ∙ eqb-true r.page.serial (before.serial + 1) r.owes.serial;
      shares = subst (λ (v : LaidVersion). AreShared before.nodes v.nodes) (sym r.made)
          (shared_pages (blocks_of c count) before.nodes block r.page.page (record { flags = r.page.root; block = Some block }) (block ∷ seen) r.others all r.below);
    }

gives_version : (c : Content) (count object namer block : ℕ) (before : Option LaidVersion) → Gives (version_at (blocks_of c count) object namer block before) (Read c object before)
gives_version c count object namer block before seen u all e =
    let r : VersionRead c count object block before seen u all = version_read c count object namer block before seen u all e in
    record {
      page = record {
        page = r.page;
        held =
            ap (version_in_block c) (ap (λ (v : LaidVersion). v.block) r.made)
            ∙ ap (option_and_then (λ bytes. read_of (version_of bytes))) r.holds ∙ ap read_of r.reads;
        object_is = eqb-true r.page.object object r.objects;
        serial = ap (λ (v : LaidVersion). v.serial) (sym r.made);
        commit = ap (λ (v : LaidVersion). v.commit) (sym r.made);
        members = ap (λ (v : LaidVersion). v.members) (sym r.made);
      };
      after = after_of c count object block before seen u all r;
    }

gives_first : (c : Content) (count object namer block : ℕ) → Gives (version_at (blocks_of c count) object namer block None) (λ (u : LaidVersion). AreFrom [] u.nodes)
gives_first c count object namer block seen u all e =
    let r : VersionRead c count object block None seen u all = version_read c count object namer block None seen u all e in
    subst (λ (v : LaidVersion). AreFrom [] v.nodes) (sym r.made)
    (first_pages (blocks_of c count) block r.page.page (record { flags = r.page.root; block = Some block }) (block ∷ seen) r.others all r.below)

-- each has its page, and follows the one before
abbrev Chained : Content → ℕ → LaidVersion → List LaidVersion → Type 0
Chained c object v [] = HasItsPage c object v
Chained c object v (w ∷ ws) = HasItsPage c object v × Follows v w × Chained c object w ws

-- the versions of a file: besides, the pages of the first one are its own, in order
abbrev AreVersions : Content → ℕ → List LaidVersion → Type 0
AreVersions c object [] = Unit {0}
AreVersions c object (v ∷ vs) = AreFrom [] v.nodes × Chained c object v vs

record StartsWith (c : Content) (object : ℕ) (v : LaidVersion) (vs : List LaidVersion) : Type 0 where
  rest : List LaidVersion
  list : vs ≡ v ∷ rest
  chained : Chained c object v rest

-- what comes after a version, or nothing
abbrev Later : Content → ℕ → LaidVersion → List LaidVersion → Type 0
Later c object v [] = Unit {0}
Later c object v (w ∷ ws) = Follows v w × Chained c object w ws

later_of : (c : Content) (object : ℕ) (v w : LaidVersion) (vs : List LaidVersion) → Follows v w → StartsWith c object w vs → Later c object v vs
later_of c object v w vs e s = subst (Later c object v) (sym s.list) (e, s.chained)

chained_of : (c : Content) (object : ℕ) (v : LaidVersion) (vs : List LaidVersion) → HasItsPage c object v → Later c object v vs → Chained c object v vs
chained_of c object v [] page later = page
chained_of c object v (w ∷ ws) page later = (page, later.0, later.1)

gives_chain_from : (c : Content) (count object most : ℕ) (v : LaidVersion) → HasItsPage c object v
    → Gives (chain_from (blocks_of c count) object most v) (StartsWith c object v)
unfolding chain_from
gives_chain_from c count object zero v page = gives_done (v ∷ []) (StartsWith c object v) (record { rest = []; list = refl; chained = page })
gives_chain_from c count object (suc most) v page =
    gives_bind _ _ (Later c object v) (StartsWith c object v)
    (gives_some v.commit _ (Later c object v) tt
    (λ block _. gives_bind _ _ (Read c object (Some v)) (Later c object v) (gives_version c count object v.block block (Some v))
    (λ w read seen vs all e. later_of c object v w vs read.after (gives_chain_from c count object most w read.page seen vs all e))))
    (λ vs later. gives_done (v ∷ vs) (StartsWith c object v) (record { rest = vs; list = refl; chained = chained_of c object v vs page later }))

record First (c : Content) (object : ℕ) (v : LaidVersion) : Type 0 where
  page : HasItsPage c object v
  pages : AreFrom [] v.nodes

gives_chain : (c : Content) (count object namer block : ℕ) → Gives (chain_at (blocks_of c count) object namer block) (AreVersions c object)
unfolding chain_at
gives_chain c count object namer block =
    gives_bind _ _ (First c object) (AreVersions c object)
    (λ seen u all e. record { page = (gives_version c count object namer block None seen u all e).page; pages = gives_first c count object namer block seen u all e })
    (λ v first seen vs all e.
    let s : StartsWith c object v vs = gives_chain_from c count object count v first.page seen vs all e in
    subst (AreVersions c object) (sym s.list) (first.pages, s.chained))

-- ---- files

-- what holds of each file, whose objects count from this one
abbrev EachFile : Content → ℕ → List LaidFile → Type 0
EachFile c object [] = Unit {0}
EachFile c object (file ∷ others) = AreVersions c object file.versions × EachFile c (suc object) others

gives_files : (c : Content) (count object : ℕ) (rows : List Row) → Gives (files_from (blocks_of c count) object rows) (EachFile c object)
unfolding files_from
gives_files c count object [] = gives_done [] (EachFile c object) tt
gives_files c count object (row ∷ others) =
    gives_bind _ _ (AreVersions c object) (EachFile c object)
    (gives_some row.entry.first _ (AreVersions c object) tt (λ block _. gives_chain c count object row.block block))
    (λ versions are. gives_bind _ _ (EachFile c (suc object)) (EachFile c object) (gives_files c count (suc object) others)
    (λ rest each. gives_done _ (EachFile c object) (are, each)))

file_of : (c : Content) (object : ℕ) (files : List LaidFile) (k : ℕ) (file : LaidFile) → EachFile c object files → slice_get files k ≡ Some file
    → AreVersions c (object + k) file.versions
file_of c object [] k file each e = none_some e
file_of c object (x ∷ files) zero file each e =
    subst (λ (f : LaidFile). AreVersions c (object + 0) f.versions) (some_is e) (subst (λ o. AreVersions c o x.versions) (omega arith) each.0)
file_of c object (x ∷ files) (suc k) file each e =
    let same : suc object + k ≡ object + suc k = omega arith in
    subst (λ o. AreVersions c o file.versions) same (file_of c (suc object) files k file each.1 e)

each_changed : (c : Content) (object : ℕ) (files : List LaidFile) (k : ℕ) (file : LaidFile) (g : LaidFile → LaidFile) → EachFile c object files
    → slice_get files k ≡ Some file → AreVersions c (object + k) (g file).versions → EachFile c object (changed_at g k files)
each_changed c object [] k file g each e are = none_some e
each_changed c object (x ∷ files) zero file g each e are =
    (subst (λ (f : LaidFile). AreVersions c object (g f).versions) (sym (some_is e)) (subst (λ o. AreVersions c o (g file).versions) (omega arith) are), each.1)
each_changed c object (x ∷ files) (suc k) file g each e are =
    let same : object + suc k ≡ suc object + k = omega arith in
    (each.0, each_changed c (suc object) files k file g each.1 e (subst (λ o. AreVersions c o (g file).versions) same are))

-- ---- one more version

chained_longer : (c : Content) (object : ℕ) (v : LaidVersion) (ws : List LaidVersion) (last version : LaidVersion) → Chained c object v ws → last ≡ last_from v ws
    → Read c object (Some last) version → Chained c object v (ws ++ version ∷ [])
chained_longer c object v [] last version chained is read =
    (chained, subst (λ (u : LaidVersion). Follows u version) is read.after, read.page)
chained_longer c object v (w ∷ ws) last version chained is read = (chained.0, chained.1, chained_longer c object w ws last version chained.2 is read)

versions_longer : (c : Content) (object : ℕ) (versions : List LaidVersion) (last version : LaidVersion) → AreVersions c object versions → last_laid versions ≡ Some last
    → Read c object (Some last) version → AreVersions c object (versions ++ version ∷ [])
versions_longer c object [] last version are is read = none_some is
versions_longer c object (v ∷ vs) last version are is read =
    (are.0, chained_longer c object v vs last version are.1 (last_is (v ∷ vs) v vs last refl is) read)

-- the files: each as it should be, so many of them, and the last version of each names none
record AreFiles (c : Content) (count : ℕ) (files : List LaidFile) : Type 0 where
  each : EachFile c 1 files
  many : length files ≡ count
  lasts : (k : ℕ) (file : LaidFile) (v : LaidVersion) → slice_get files k ≡ Some file → last_laid file.versions ≡ Some v → v.commit ≡ None

none_told : (o : Option ℕ) → is_none o ≡ true → o ≡ None
none_told None e = refl
none_told (Some n) e = absurd cc

files_longer : (c : Content) (count : ℕ) (files : List LaidFile) (object : ℕ) (last version : LaidVersion) → AreFiles c count files → InFile object files last
    → Read c object (Some last) version → version.commit ≡ None → AreFiles c count (changed_at (longer version) (object - 1) files)
files_longer c count files object last version are here read nil =
    let same : 1 + (object - 1) ≡ object = (let e : object ≡ suc (object - 1) = here.counts in omega arith) in
    let old : AreVersions c object here.file.versions =
    subst (λ o. AreVersions c o here.file.versions) same (file_of c 1 files (object - 1) here.file are.each here.listed) in
    record {
      each = each_changed c 1 files (object - 1) here.file (longer version) are.each here.listed
          (subst (λ o. AreVersions c o (here.file.versions ++ version ∷ [])) (sym same) (versions_longer c object here.file.versions last version old here.is read));
      many = changed_length (longer version) (object - 1) files ∙ are.many;
      lasts = λ k file v listed is. by k file v listed is (k == object - 1) refl;
    }
  where
    by : (k : ℕ) (file : LaidFile) (v : LaidVersion) → slice_get (changed_at (longer version) (object - 1) files) k ≡ Some file → last_laid file.versions ≡ Some v
        → (b : Bool) → (k == object - 1) ≡ b → v.commit ≡ None
    by k file v listed is true e =
        let at : k ≡ object - 1 = eqb-true k (object - 1) e in
        let file_is : longer version here.file ≡ file =
        some_is (sym (changed_same (longer version) (object - 1) files here.file here.listed) ∙ ap (slice_get (changed_at (longer version) (object - 1) files)) (sym at) ∙ listed) in
        let v_is : version ≡ v =
        some_is (sym (last_past here.file.versions version) ∙ ap (λ (f : LaidFile). last_laid f.versions) file_is ∙ is) in
        ap (λ (u : LaidVersion). u.commit) (sym v_is) ∙ nil
    by k file v listed is false e = are.lasts k file v (sym (changed_other (longer version) (object - 1) k files (eqb-false k (object - 1) e)) ∙ listed) is

-- ---- members

gives_members : (c : Content) (n count : ℕ) (top : Top) (members : List MemberValue) (linked : Linked) → AreFiles c n linked.files
    → Gives (members_linked (blocks_of c count) top members linked) (λ (l : Linked). AreFiles c n l.files)
unfolding members_linked
gives_members c n count top [] linked are = gives_done _ (λ (l : Linked). AreFiles c n l.files) are
gives_members c n count top (member ∷ others) linked are =
    gives_bind _ _ (λ (l : Linked). AreFiles c n l.files) (λ (l : Linked). AreFiles c n l.files) one
    (λ next next_are. gives_members c n count top others next next_are)
  where
    one : Gives (member_linked (blocks_of c count) top member linked (last_in member.object linked.files)) (λ (l : Linked). AreFiles c n l.files)
    one seen after all e =
        let m : MemberRan c count top member linked seen after all = member_step c count top member linked seen after all e in
        elim m.how [
          | inl a ↦ subst (AreFiles c n) (sym a.keeps) are
          | inr x ↦
              subst (AreFiles c n) (sym x.extends)
              (files_longer c n linked.files member.object m.last x.version are (in_file member.object linked.files m.last m.is)
              (gives_version c count member.object top.version.block member.block (Some m.last) seen x.version all x.read)
              (none_told x.version.commit (first_so (is_none x.version.commit) (names_none x.version) x.ends)))
        ]

gives_tops : (c : Content) (n count : ℕ) (tops : List Top) (linked : Linked) → AreFiles c n linked.files
    → Gives (tops_linked (blocks_of c count) tops linked) (λ (l : Linked). AreFiles c n l.files)
unfolding tops_linked
gives_tops c n count [] linked are = gives_done linked (λ (l : Linked). AreFiles c n l.files) are
gives_tops c n count (top ∷ others) linked are =
    gives_bind _ _ (λ (l : Linked). AreFiles c n l.files) (λ (l : Linked). AreFiles c n l.files) (gives_members c n count top top.version.members linked are)
    (λ next next_are. gives_tops c n count others next next_are)

-- ---- the store

record IsStore (c : Content) (store : LaidStore) : Type 0 where
  shape : IsRootShape store.root
  files : AreFiles c (entry_count store.root.format) store.files

store_told : (c : Content) (most : ℕ) (store : LaidStore) (places : List ℕ) → laid c most [] ≡ Ok (store, places) → IsStore c store
store_told c most store places e =
    let p : Parts c most store places = parts_of c most store places e in
    let shape : IsRootShape p.root = root_shape p.held p.root p.reads in
    let files : AreFiles c (entry_count p.root.format) p.files =
    record {
      each = gives_files c p.root.blocks 1 p.rows p.in_table p.files p.in_files p.chains;
      many = gives_count (blocks_of c p.root.blocks) 1 p.rows p.in_table p.files p.in_files p.chains ∙ gives_rows (blocks_of c p.root.blocks) p.root shape [] p.rows p.in_table p.table;
      lasts = last_names_none c p.root.blocks p.rows p.in_table p.files p.in_files p.chains;
    } in
    subst (IsStore c) (sym p.made)
    (record { shape = shape; files = gives_tops c (entry_count p.root.format) p.root.blocks _ _ files p.in_files p.linked places p.tops })

-- ---- what follows

chained_page : (c : Content) (object : ℕ) (v : LaidVersion) (ws : List LaidVersion) (k : ℕ) (u : LaidVersion) → Chained c object v ws → slice_get (v ∷ ws) k ≡ Some u → HasItsPage c object u
chained_page c object v [] zero u chained e = subst (HasItsPage c object) (some_is e) chained
chained_page c object v [] (suc k) u chained e = none_some e
chained_page c object v (w ∷ ws) zero u chained e = subst (HasItsPage c object) (some_is e) chained.0
chained_page c object v (w ∷ ws) (suc k) u chained e = chained_page c object w ws k u chained.2 e

versions_page : (c : Content) (object : ℕ) (vs : List LaidVersion) (k : ℕ) (u : LaidVersion) → AreVersions c object vs → slice_get vs k ≡ Some u → HasItsPage c object u
versions_page c object [] k u are e = none_some e
versions_page c object (v ∷ vs) k u are e = chained_page c object v vs k u are.1 e

pub versions_have_pages : (c : Content) (most : ℕ) (store : LaidStore) (places : List ℕ) → laid c most [] ≡ Ok (store, places)
    → (version : LaidVersion) (is : IsVersionOf store version) → HasItsPage c (suc is.object) version
versions_have_pages c most store places e version is =
    let s : IsStore c store = store_told c most store places e in
    versions_page c (suc is.object) is.file.versions is.place version
    (subst (λ o. AreVersions c o is.file.versions) (omega arith) (file_of c 1 store.files is.object is.file s.files.each is.listed)) is.kept

pub lasts_name_none : (c : Content) (most : ℕ) (store : LaidStore) (places : List ℕ) → laid c most [] ≡ Ok (store, places)
    → (object : ℕ) (file : LaidFile) (version : LaidVersion) → slice_get store.files object ≡ Some file → last_laid file.versions ≡ Some version
    → version.commit ≡ None
lasts_name_none c most store places e = (store_told c most store places e).files.lasts

chained_shares : (c : Content) (object : ℕ) (v : LaidVersion) (ws : List LaidVersion) → Chained c object v ws → (k : ℕ) (before version : LaidVersion)
    → slice_get (v ∷ ws) k ≡ Some before → slice_get (v ∷ ws) (suc k) ≡ Some version → AreShared before.nodes version.nodes
chained_shares c object v [] chained zero before version p q = none_some q
chained_shares c object v [] chained (suc k) before version p q = none_some p
chained_shares c object v (w ∷ ws) chained zero before version p q =
    subst (λ (u : LaidVersion). AreShared u.nodes version.nodes) (some_is p) (subst (λ (u : LaidVersion). AreShared v.nodes u.nodes) (some_is q) chained.1.shares)
chained_shares c object v (w ∷ ws) chained (suc k) before version p q = chained_shares c object w ws chained.2 k before version p q

versions_share : (c : Content) (object : ℕ) (vs : List LaidVersion) → AreVersions c object vs → (k : ℕ) (before version : LaidVersion)
    → slice_get vs k ≡ Some before → slice_get vs (suc k) ≡ Some version → AreShared before.nodes version.nodes
versions_share c object [] are k before version p q = none_some p
versions_share c object (v ∷ vs) are k before version p q = chained_shares c object v vs are.1 k before version p q

pub versions_share_pages : (c : Content) (most : ℕ) (store : LaidStore) (places : List ℕ) → laid c most [] ≡ Ok (store, places)
    → (object : ℕ) (file : LaidFile) (place : ℕ) (before version : LaidVersion) → slice_get store.files object ≡ Some file
    → slice_get file.versions place ≡ Some before → slice_get file.versions (suc place) ≡ Some version → AreShared before.nodes version.nodes
versions_share_pages c most store places e object file place before version listed p q =
    let s : IsStore c store = store_told c most store places e in
    versions_share c (1 + object) file.versions (file_of c 1 store.files object file s.files.each listed) place before version p q

abbrev serials : List LaidVersion → List ℕ
serials vs = map (λ (v : Version). v.serial) (map version_in vs)

chained_rising : (c : Content) (object : ℕ) (v : LaidVersion) (ws : List LaidVersion) → Chained c object v ws → (k m n : ℕ)
    → slice_get (serials (v ∷ ws)) k ≡ Some m → slice_get (serials (v ∷ ws)) (suc k) ≡ Some n → n ≡ m + 1
chained_rising c object v [] chained zero m n p q = none_some q
chained_rising c object v [] chained (suc k) m n p q = none_some p
chained_rising c object v (w ∷ ws) chained zero m n p q = sym (some_is q) ∙ chained.1.serial ∙ ap (λ x. x + 1) (some_is p)
chained_rising c object v (w ∷ ws) chained (suc k) m n p q = chained_rising c object w ws chained.2 k m n p q

rising : (c : Content) (object : ℕ) (vs : List LaidVersion) → AreVersions c object vs → IsRising (serials vs)
rising c object [] are k m n p q = none_some p
rising c object (v ∷ vs) are k m n p q =
    chained_rising c object v vs are.1 k m n p (ap (slice_get (serials (v ∷ vs))) (let e : suc k ≡ k + 1 = omega arith in e) ∙ q)

-- an item of a mapped list
record Mapped {X Y : Type 0} (f : X → Y) (xs : List X) (k : ℕ) (y : Y) : Type 0 where
  item : X
  listed : slice_get xs k ≡ Some item
  is : f item ≡ y

mapped : {X Y : Type 0} (f : X → Y) (xs : List X) (k : ℕ) (y : Y) → slice_get (map f xs) k ≡ Some y → Mapped f xs k y
mapped {X} {Y} f xs k y e = of (slice_get xs k) refl (sym (slice_get-map f xs k) ∙ e)
  where
    of : (o : Option X) → slice_get xs k ≡ o → option_map f o ≡ Some y → Mapped f xs k y
    of None is h = none_some h
    of (Some x) is h = record { item = x; listed = is; is = some_is h }

first_fresh : (c : Content) (object : ℕ) (vs : List LaidVersion) → AreVersions c object vs → (v : Version) → slice_get (map version_in vs) 0 ≡ Some v → v.fresh ≡ finmap.keys v.tree
first_fresh c object [] are v e = none_some e
first_fresh c object (u ∷ us) are v e = subst (λ (w : Version). w.fresh ≡ finmap.keys w.tree) (some_is e) (all_fresh [] u are.0)

state_told : (c : Content) (most : ℕ) (store : LaidStore) (places : List ℕ) → laid c most [] ≡ Ok (store, places) → IsState (state_in store)
state_told c most store places e =
    let s : IsStore c store = store_told c most store places e in
    record {
      format = s.shape.format;
      count = length-map store.files file_in ∙ s.files.many;
      each = λ k file listed.
          let m : Mapped file_in store.files k file = mapped file_in store.files k file listed in
          subst IsFile m.is (one s k m.item m.listed);
    }
  where
    one : IsStore c store → (k : ℕ) (file : LaidFile) → slice_get store.files k ≡ Some file → IsFile (file_in file)
    one s k file listed =
        let are : AreVersions c (1 + k) file.versions = file_of c 1 store.files k file s.files.each listed in
        record {
          rising = rising c (1 + k) file.versions are;
          trees = λ place v kept.
              let m : Mapped version_in file.versions place v = mapped version_in file.versions place v kept in
              subst (λ (w : Version). IsKept w.tree) m.is
              (holds_kept c m.item.block (version_in m.item).tree
              (versions_are_held c most store places e m.item (record { object = k; file = file; place = place; listed = listed; kept = m.listed })));
          first = first_fresh c (1 + k) file.versions are;
        }

pub found_is_state : (c : Content) (most : ℕ) (state : State) → found c most ≡ Ok state → IsState state
found_is_state c most state e = of (laid c most []) refl e
  where
    of : (r : Result (LaidStore × List ℕ) Refused) → laid c most [] ≡ r → state_of r ≡ Ok state → IsState state
    of (Ok x) is h = subst IsState (same h) (state_told c most x.0 x.1 is)
      where
        same : {s : State} → (let r : Result State Refused = Ok s in r) ≡ Ok state → s ≡ state
        same h = cc
    of (Err w) is h = absurd cc
