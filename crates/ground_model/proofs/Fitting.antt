-- A store that was opened has no more blocks in use than there are, and its versions share what is not fresh in them.
use Rattle.std.proofs.Common.{◌≡◌, ◌⊎◌, inl, inr, ℕ, suc, ◌+◌, ◌-◌, ◌≤◌, Bool, true, false, cond, List, [], ◌∷◌, filter, map, sum_by, Option, Some, None, Ok, Contains, option_map, refl, sym, ap, ◌∙◌, subst, arith, slice_get}
use Rattle.std.specs.Prelude.{is_some}
use Rattle.std.specs.FinMap.Entries as entries
use Rattle.std.specs.FinMap.{get-from_entries}
use Rattle.std.specs.Option.{option_map_or}
use Rattle.std.proofs.lemmas.Bool.{cases_Bool}
use Rattle.afs_base.specs.Path.{path_cmp}
use Rattle.page_codec.specs.Causes.{first_cause, version_causes}
use Rattle.page_codec.specs.Facts.{VersionFacts}
use Rattle.page_codec.specs.Reading.{version_value}
use Rattle.page_codec.specs.Values.{VersionValue}
use Rattle.page_codec.proofs.FactLaws.{VersionFacts-none}
use Rattle.service_model.specs.Laws.{IsFit}
use Rattle.service_model.specs.Room.{AreSharing, FilesShare, IsSharing}
use Rattle.service_model.specs.Standing.{kept_blocks}
use Rattle.service_model.proofs.Files.{listed_at}
use Rattle.service_model.proofs.Members.{in_front, in_rest, same_list}
use Rattle.store_changes.specs.Writes.{Content}
use Rattle.store_check.specs.Counts.{kept_in, parts_in}
use Rattle.store_model.specs.Found.{LaidStore, file_in, laid, state_in, state_of, version_in}
use Rattle.store_model.specs.Laid.{LaidFile, LaidVersion, Node, page_in}
use Rattle.store_model.specs.VersionPages.{AreShared, HasItsPage}
use Rattle.store_model.proofs.Edits.{none_some, some_is}
use Rattle.store_model.proofs.FoundStates.{found_is_state, versions_have_pages, versions_share_pages}
use Rattle.store_model.proofs.Reading.{Uncaused, uncaused}
use Rattle.store_model.proofs.Rewriting.{Bytes, bytes_of}
use Rattle.tree_model.specs.States.{File, Version, file_of, table_blocks}
use Rattle.tree_model.specs.Trees.{has}
use Rattle.tree_model.proofs.Paths.{path_total, same, same_is}
use Rattle.ground_model.specs.Room.{OpenedIsFitting}
use Rattle.ground_model.specs.Scenes.{HasVersion}
use Rattle.ground_model.proofs.FreeBlocks.{kept_counted}
use Rattle.ground_model.proofs.HeldWrites.{version_of as version_in_store}
use Rattle.ground_model.proofs.Laying.{Behind, LaidAs, behind, laid_as}
use Rattle.ground_model.proofs.TableBlocks.{table_counted}

-- ---- serials begin with 1

serial_at_least : (bytes : List ℕ) → VersionFacts bytes → 1 ≤ (version_value bytes).serial
unfolding version_value
serial_at_least bytes facts = facts.serial

counted : (c : Content) (most : ℕ) (store : LaidStore) (places : List ℕ) → laid c most [] ≡ Ok (store, places)
    → (object : ℕ) (version : LaidVersion) → HasVersion store object version → 1 ≤ version.serial
counted c most store places e object version has =
    let page : HasItsPage c (suc (object - 1)) version = versions_have_pages c most store places e version (version_in_store store object version has) in
    let read : Bytes (c version.block) page.page = bytes_of (c version.block) page.page page.held in
    let u : Uncaused (first_cause (version_causes read.bytes)) (version_value read.bytes) page.page = uncaused (first_cause (version_causes read.bytes)) (version_value read.bytes) page.page read.reads in
    let low : 1 ≤ (version_value read.bytes).serial = serial_at_least read.bytes (VersionFacts-none read.bytes u.none) in
    subst (λ n. 1 ≤ n) (ap (λ (v : VersionValue). v.serial) u.value ∙ page.serial) low

is_fit : (c : Content) (most : ℕ) (store : LaidStore) (places : List ℕ) → laid c most [] ≡ Ok (store, places) → IsFit (state_in store)
is_fit c most store places e = record {
  state = found_is_state c most (state_in store) (ap state_of e);
  counted = λ object v is.
      let l : LaidAs store object v = laid_as store object v is in
      subst (λ (x : Version). 1 ≤ x.serial) l.is (counted c most store places e object l.version l.has);
}

-- ---- what versions share

-- the tree of a version has the pages that lie
data_found : (p : List ℕ) (nodes : List Node)
    → entries.find path_cmp p (map (λ (node : Node). (node.path, node.bytes)) nodes) ≡ option_map (λ (node : Node). node.bytes) (page_in p nodes)
data_found p [] = refl
data_found p (x ∷ nodes) = of (same p x.path) (data_found p nodes)
  where
    of : (b : Bool) → entries.find path_cmp p (map (λ (node : Node). (node.path, node.bytes)) nodes) ≡ option_map (λ (node : Node). node.bytes) (page_in p nodes)
        → cond b (Some x.bytes) (entries.find path_cmp p (map (λ (node : Node). (node.path, node.bytes)) nodes)) ≡ option_map (λ (node : Node). node.bytes) (cond b (Some x) (page_in p nodes))
    of true rest = refl
    of false rest = rest

has_page : (version : LaidVersion) (p : List ℕ) → has (version_in version).tree p ≡ is_some (page_in p version.nodes)
has_page version p =
    ap is_some (get-from_entries path_total (map (λ (node : Node). (node.path, node.bytes)) version.nodes) p ∙ data_found p version.nodes)
    ∙ of (page_in p version.nodes)
  where
    of : (o : Option Node) → is_some (option_map (λ (node : Node). node.bytes) o) ≡ is_some o
    of None = refl
    of (Some node) = refl

-- a page of the version's own is fresh
own_is_fresh : (p : List ℕ) (nodes : List Node) (node : Node) → page_in p nodes ≡ Some node → node.is_own ≡ true
    → Contains (map (λ (n : Node). n.path) (filter (λ (n : Node). n.is_own) nodes)) p
own_is_fresh p [] node at own = none_some at
own_is_fresh p (x ∷ nodes) node at own = by (cases_Bool (same p x.path)) (own_is_fresh p nodes node)
  where
    rest : List (List ℕ)
    rest = map (λ (n : Node). n.path) (filter (λ (n : Node). n.is_own) nodes)

    with_own : Bool → List (List ℕ)
    with_own b = map (λ (n : Node). n.path) (cond b (x ∷ filter (λ (n : Node). n.is_own) nodes) (filter (λ (n : Node). n.is_own) nodes))

    more : (b : Bool) → Contains rest p → Contains (with_own b) p
    more true h = in_rest x.path rest p h
    more false h = h

    by : (same p x.path ≡ true) ⊎ (same p x.path ≡ false) → (page_in p nodes ≡ Some node → node.is_own ≡ true → Contains rest p) → Contains (with_own x.is_own) p
    by (inr f) later = more x.is_own (later (sym (ap (λ b. cond b (Some x) (page_in p nodes)) f) ∙ at) own)
    by (inl t) later =
        let one : x ≡ node = some_is (sym (ap (λ b. cond b (Some x) (page_in p nodes)) t) ∙ at) in
        let mine : x.is_own ≡ true = ap (λ (n : Node). n.is_own) one ∙ own in
        let path : x.path ≡ p = sym (same_is p x.path t) in
        same_list (with_own x.is_own) (p ∷ rest) p (ap with_own mine ∙ ap (λ q. q ∷ rest) path) (in_front p rest)

versions_sharing : (before version : LaidVersion) → AreShared before.nodes version.nodes → IsSharing (version_in before) (version_in version)
versions_sharing before version shared p is = by (page_in p version.nodes) refl (sym (has_page version p) ∙ is)
  where
    shared_has : (node : Node) → (o : Option Node) → page_in p before.nodes ≡ o → option_map (λ (n : Node). n.block) o ≡ Some node.block → is_some (page_in p before.nodes) ≡ true
    shared_has node None at h = none_some h
    shared_has node (Some other) at h = ap is_some at

    own_or_shared : (node : Node) → page_in p version.nodes ≡ Some node → (node.is_own ≡ true) ⊎ (node.is_own ≡ false)
        → Contains (version_in version).fresh p ⊎ (has (version_in before).tree p ≡ true)
    own_or_shared node at (inl own) = inl (own_is_fresh p version.nodes node at own)
    own_or_shared node at (inr other) = inr (has_page before p ∙ shared_has node (page_in p before.nodes) refl (shared p node at other))

    by : (o : Option Node) → page_in p version.nodes ≡ o → is_some o ≡ true → Contains (version_in version).fresh p ⊎ (has (version_in before).tree p ≡ true)
    by None at h = absurd (let no : false ≡ true = h in cc)
    by (Some node) at h = own_or_shared node at (cases_Bool node.is_own)

files_share : (c : Content) (most : ℕ) (store : LaidStore) (places : List ℕ) → laid c most [] ≡ Ok (store, places) → FilesShare (state_in store)
files_share c most store places e object = by (file_of (state_in store) object) refl
  where
    in_file : (file : LaidFile) → slice_get store.files (object - 1) ≡ Some file → AreSharing (map version_in file.versions)
    in_file file listed k u v first second =
        let a : Behind version_in file.versions k u = behind version_in file.versions k u first in
        let b : Behind version_in file.versions (k + 1) v = behind version_in file.versions (k + 1) v second in
        let next : k + 1 ≡ suc k = omega arith in
        let F : Version → Version → Type 0 = λ x y. IsSharing x y in
        subst (λ x. F x v) a.is (subst (λ y. F (version_in a.item) y) b.is
        (versions_sharing a.item b.item
        (versions_share_pages c most store places e (object - 1) file k a.item b.item listed a.at (sym (ap (slice_get file.versions) next) ∙ b.at))))

    by : (o : Option File) → file_of (state_in store) object ≡ o → AreSharing (option_map_or (λ (file : File). file.versions) o [])
    by None h = λ k u v first second. none_some first
    by (Some file) h =
        let f : Behind file_in store.files (object - 1) file = behind file_in store.files (object - 1) file (listed_at (state_in store) object file h) in
        let F : File → Type 0 = λ x. AreSharing x.versions in
        subst F f.is (in_file f.item f.at)

-- ---- a store that was opened

pub opened_is_fitting : OpenedIsFitting
opened_is_fitting content most kept states told is =
    let table : table_blocks (state_in is.store) ≡ 1 + parts_in is.store.root = table_counted content most is.store is.places is.laid in
    let versions : sum_by kept_blocks (map file_in is.store.files) ≡ kept_in is.store.files = kept_counted is.store.files in
    let all = is.free in
    record {
      fit = is_fit content most is.store is.places is.laid;
      within = omega (arith, table, versions, all);
      sharing = files_share content most is.store is.places is.laid;
    }
