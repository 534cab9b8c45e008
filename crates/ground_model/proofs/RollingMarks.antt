-- The scene after a version page was written anew in its place, with another commit reference or without members.
use Rattle.std.proofs.Common.{◌≡◌, ◌≢◌, ◌⊎◌, ◌↔◌, inl, inr, ℕ, zero, suc, ◌-◌, ◌≤◌, List, [], ◌∷◌, Some, refl, sym, ap, ◌∙◌, subst, slice_get}
use Rattle.flush_model.specs.Flushed.{IsFree}
use Rattle.page_codec.specs.Values.{VersionValue}
use Rattle.recovery.proofs.Heads.{KeepsHead, heads_kept}
use Rattle.service_model.specs.Standing.{Made}
use Rattle.store_changes.specs.Stands.{IsPlace}
use Rattle.store_changes.specs.Writes.{Content}
use Rattle.store_model.specs.Changes.{LiesIn, Rewrites, changed_at, file_with, store_with}
use Rattle.store_model.specs.Found.{LaidStore, version_in}
use Rattle.store_model.specs.Laid.{LaidFile, LaidVersion, Node, page_in}
use Rattle.store_model.specs.Laws.{pages_of}
use Rattle.store_model.proofs.Edits.{changed_other, none_some, some_is, state_same}
use Rattle.ground_model.specs.Leaves.{KeepsVersions, LeavesOthers}
use Rattle.ground_model.specs.Linking.{LeavesLinks, LeavesNames}
use Rattle.ground_model.specs.Own.{IsHeldBy}
use Rattle.ground_model.specs.Rolling.{IsMarkedTo}
use Rattle.ground_model.specs.Scenes.{AreAsMade, AreLinksOf, AreMadeOf, HasVersion, IsAsMade, IsMadeOf, IsMapped, IsShared, Scene}
use Rattle.ground_model.proofs.HeldWrites.{not_kept, past_end}
use Rattle.ground_model.proofs.Known.{known_same}
use Rattle.ground_model.proofs.Links.{rewrites_pages}
use Rattle.ground_model.proofs.MadeOf.{made_of_stays, rewritten_top}

-- a change of a version as it lies that leaves its serial, its block and its pages
pub record KeepsPages (change : LaidVersion → LaidVersion) : Type 0 where
  pub serial : (v : LaidVersion) → (change v).serial ≡ v.serial
  pub block : (v : LaidVersion) → (change v).block ≡ v.block
  pub nodes : (v : LaidVersion) → (change v).nodes ≡ v.nodes
  pub head : KeepsHead change

-- a change of a version page that leaves its page, its base and the marks of `/`
pub record KeepsTop (change : VersionValue → VersionValue) : Type 0 where
  pub page : (v : VersionValue) → (change v).page ≡ v.page
  pub base : (v : VersionValue) → (change v).base ≡ v.base
  pub root : (v : VersionValue) → (change v).root ≡ v.root

-- a version that was there, or the same one changed
pub record WasOne (versions : List LaidVersion) (place : ℕ) (v : LaidVersion) : Type 0 where
  pub was : LaidVersion
  pub kept : slice_get versions place ≡ Some was
  pub serial : v.serial ≡ was.serial
  pub block : v.block ≡ was.block
  pub nodes : v.nodes ≡ was.nodes

pub was_one : (change : LaidVersion → LaidVersion) → KeepsPages change → (at : ℕ) (versions : List LaidVersion) (place : ℕ) (v : LaidVersion)
    → slice_get (changed_at change at versions) place ≡ Some v → WasOne versions place v
was_one change keeps at [] place v e = none_some e
was_one change keeps zero (x ∷ xs) zero v e =
    let is : change x ≡ v = some_is e in
    record {
      was = x;
      kept = refl;
      serial = ap (λ (y : LaidVersion). y.serial) (sym is) ∙ keeps.serial x;
      block = ap (λ (y : LaidVersion). y.block) (sym is) ∙ keeps.block x;
      nodes = ap (λ (y : LaidVersion). y.nodes) (sym is) ∙ keeps.nodes x;
    }
was_one change keeps zero (x ∷ xs) (suc place) v e = record { was = v; kept = e; serial = refl; block = refl; nodes = refl }
was_one change keeps (suc at) (x ∷ xs) zero v e = record { was = v; kept = e; serial = refl; block = refl; nodes = refl }
was_one change keeps (suc at) (x ∷ xs) (suc place) v e =
    let w : WasOne xs place v = was_one change keeps at xs place v e in
    record { was = w.was; kept = w.kept; serial = w.serial; block = w.block; nodes = w.nodes }

-- and the other way round
pub is_one : (change : LaidVersion → LaidVersion) → KeepsPages change → (at : ℕ) (versions : List LaidVersion) (place : ℕ) (v : LaidVersion)
    → slice_get versions place ≡ Some v → (now : LaidVersion) × (slice_get (changed_at change at versions) place ≡ Some now) × (now.serial ≡ v.serial) × (now.block ≡ v.block) × (now.nodes ≡ v.nodes)
is_one change keeps at [] place v e = none_some e
is_one change keeps zero (x ∷ xs) zero v e =
    let is : x ≡ v = some_is e in
    (change x, refl, keeps.serial x ∙ ap (λ (y : LaidVersion). y.serial) is, keeps.block x ∙ ap (λ (y : LaidVersion). y.block) is, keeps.nodes x ∙ ap (λ (y : LaidVersion). y.nodes) is)
is_one change keeps zero (x ∷ xs) (suc place) v e = (v, e, refl, refl, refl)
is_one change keeps (suc at) (x ∷ xs) zero v e = (v, e, refl, refl, refl)
is_one change keeps (suc at) (x ∷ xs) (suc place) v e = is_one change keeps at xs place v e

-- a file that was there, or the one with a changed version
pub file_was : (change : LaidVersion → LaidVersion) (k at : ℕ) (files : List LaidFile) (j : ℕ) (file : LaidFile) → slice_get (changed_at (file_with change at) k files) j ≡ Some file
    → (was : LaidFile) × (slice_get files j ≡ Some was) × ((file ≡ was) ⊎ ((j ≡ k) × (file ≡ file_with change at was)))
file_was change k at [] j file e = none_some e
file_was change zero at (x ∷ xs) zero file e = (x, refl, inr (refl, sym (some_is e)))
file_was change zero at (x ∷ xs) (suc j) file e = (file, e, inl refl)
file_was change (suc k) at (x ∷ xs) zero file e = (file, e, inl refl)
file_was change (suc k) at (x ∷ xs) (suc j) file e =
    let w = file_was change k at xs j file e in
    (w.0, w.1, elim w.2 [ inl is ↦ inl is | inr both ↦ inr (ap suc both.0, both.1) ])

pub file_now : (change : LaidVersion → LaidVersion) (k at : ℕ) (files : List LaidFile) (j : ℕ) (file : LaidFile) → slice_get files j ≡ Some file
    → (now : LaidFile) × (slice_get (changed_at (file_with change at) k files) j ≡ Some now) × ((now ≡ file) ⊎ (now ≡ file_with change at file))
file_now change k at [] j file e = none_some e
file_now change zero at (x ∷ xs) zero file e = (file_with change at x, refl, inr (ap (file_with change at) (some_is e)))
file_now change zero at (x ∷ xs) (suc j) file e = (file, e, inl refl)
file_now change (suc k) at (x ∷ xs) zero file e = (file, e, inl refl)
file_now change (suc k) at (x ∷ xs) (suc j) file e = file_now change k at xs j file e

-- a version of the store with a changed one, as it was
pub record WasHere (store : LaidStore) (o place : ℕ) (v : LaidVersion) : Type 0 where
  pub was : LaidVersion
  pub has : HasVersion store o was
  pub place_is : has.place ≡ place
  pub serial : v.serial ≡ was.serial
  pub block : v.block ≡ was.block
  pub nodes : v.nodes ≡ was.nodes

module _ (change : LaidVersion → LaidVersion) (keeps : KeepsPages change) (store : LaidStore) (object at : ℕ) where
  -- one version of a file that was, or is changed
  versions_were : (was file : LaidFile) (place : ℕ) (v : LaidVersion) → (file ≡ was) ⊎ (file ≡ file_with change at was) → slice_get file.versions place ≡ Some v → WasOne was.versions place v
  versions_were was file place v (inl same) kept = record { was = v; kept = ap (λ (f : LaidFile). slice_get f.versions place) (sym same) ∙ kept; serial = refl; block = refl; nodes = refl }
  versions_were was file place v (inr is) kept = was_one change keeps at was.versions place v (ap (λ (f : LaidFile). slice_get f.versions place) (sym is) ∙ kept)

  either_file : (j : ℕ) (was file : LaidFile) → (file ≡ was) ⊎ ((j ≡ object) × (file ≡ file_with change at was)) → (file ≡ was) ⊎ (file ≡ file_with change at was)
  either_file j was file (inl e) = inl e
  either_file j was file (inr both) = inr both.1

  pub was_here : (o : ℕ) (v : LaidVersion) (has : HasVersion (store_with change object at store) o v) → WasHere store o has.place v
  was_here o v has =
      let f = file_was change object at store.files (o - 1) has.file has.listed in
      let w : WasOne f.0.versions has.place v = versions_were f.0 has.file has.place v (either_file (o - 1) f.0 has.file f.2) has.kept in
      record {
        was = w.was;
        has = record { file = f.0; place = has.place; counts = has.counts; listed = f.1; kept = w.kept };
        place_is = refl;
        serial = w.serial;
        block = w.block;
        nodes = w.nodes;
      }

  pub now_here : (o : ℕ) (v : LaidVersion) → HasVersion store o v
      → (now : LaidVersion) × HasVersion (store_with change object at store) o now × (now.serial ≡ v.serial) × (now.block ≡ v.block) × (now.nodes ≡ v.nodes)
  now_here o v has = by (file_now change object at store.files (o - 1) has.file has.listed)
    where
      by : (now : LaidFile) × (slice_get (changed_at (file_with change at) object store.files) (o - 1) ≡ Some now) × ((now ≡ has.file) ⊎ (now ≡ file_with change at has.file))
          → (now : LaidVersion) × HasVersion (store_with change object at store) o now × (now.serial ≡ v.serial) × (now.block ≡ v.block) × (now.nodes ≡ v.nodes)
      by (f, listed, inl same) = (
        v,
        record { file = f; place = has.place; counts = has.counts; listed = listed; kept = ap (λ (x : LaidFile). slice_get x.versions has.place) same ∙ has.kept },
        refl,
        refl,
        refl,
      )
      by (f, listed, inr is) =
          let n = is_one change keeps at has.file.versions has.place v has.kept in (
            n.0,
            record { file = f; place = has.place; counts = has.counts; listed = listed; kept = ap (λ (x : LaidFile). slice_get x.versions has.place) is ∙ n.1 },
            n.2,
            n.3,
            n.4,
          )

  -- two versions of a file, one after the other, as they were
  pub record WerePair (j place : ℕ) (before version : LaidVersion) : Type 0 where
    pub file : LaidFile
    pub listed : slice_get store.files j ≡ Some file
    pub one : WasOne file.versions place before
    pub two : WasOne file.versions (suc place) version

  pub were_pair : (j place : ℕ) (file : LaidFile) (before version : LaidVersion) → slice_get (store_with change object at store).files j ≡ Some file
      → slice_get file.versions place ≡ Some before → slice_get file.versions (suc place) ≡ Some version → WerePair j place before version
  were_pair j place file before version listed first second =
      let f = file_was change object at store.files j file listed in
      record {
        file = f.0;
        listed = f.1;
        one = versions_were f.0 file place before (either_file j f.0 file f.2) first;
        two = versions_were f.0 file (suc place) version (either_file j f.0 file f.2) second;
      }

-- the tree and the pages of a version tell nothing of its commit reference and its members
tree_same : (v w : LaidVersion) → v.nodes ≡ w.nodes → (version_in v).tree ≡ (version_in w).tree
tree_same v w e = ap (λ (ns : List Node). (version_in (let x : LaidVersion = record v { nodes = ns } in x)).tree) e

-- ---- the scene

module _ (k : ℕ) (old : Scene) (content : Content) (block : ℕ) (rewrite : VersionValue → VersionValue) (tops : KeepsTop rewrite) (change : LaidVersion → LaidVersion)
    (keeps : KeepsPages change) (object at : ℕ) (state_kept : (v : LaidVersion) → version_in (change v) ≡ version_in v)
    (shared : IsShared old) (place_is : IsPlace old.places block) (rw : Rewrites old.content content block rewrite)
    (lies : LiesIn content old.most (store_with change object at old.store) old.places)
    (links : AreLinksOf (store_with change object at old.store) old.standing) where
  pub marked : Scene
  marked = record old { content = content; store = store_with change object at old.store; places = lies.order }

  place_now : (n : ℕ) → IsPlace lies.order n ↔ IsPlace old.places n
  place_now n = (λ is. sym (lies.same n) ∙ is, λ is. lies.same n ∙ is)

  same_pages : (n : ℕ) → pages_of content n ≡ pages_of old.content n
  same_pages = rewrites_pages old.content content block rewrite tops.page rw

  map_now : IsMapped (record old { content = content; store = store_with change object at old.store; places = lies.order })
  map_now = record {
    size = shared.map.size;
    kept = λ n low. (
      λ is. elim ((shared.map.kept n low).0 is) [ inl z ↦ inl z | inr (inl p) ↦ inr (inl (lies.same n ∙ p)) | inr (inr f) ↦ inr (inr f) ],
      λ is. (shared.map.kept n low).1 (elim is [ inl z ↦ inl z | inr (inl p) ↦ inr (inl (sym (lies.same n) ∙ p)) | inr (inr f) ↦ inr (inr f) ]),
    );
    held = shared.map.held;
    freed = λ n is. (let f : IsFree old.store old.places n = shared.map.freed n is in record { low = f.low; high = f.high; free = lies.same n ∙ f.free });
    once = shared.map.once;
    frees = shared.map.frees;
  }

  made_now : AreAsMade (record old { content = content; store = store_with change object at old.store; places = lies.order })
  made_now i m v here has serial late =
      let w : WasHere old.store m.object has.place v = was_here change keeps old.store object at m.object v has in
      let one : IsAsMade m w.was = shared.made i m w.was here w.has (sym w.serial ∙ serial) (subst (λ p. 1 ≤ p) (sym w.place_is) late) in
      record {
        tree = tree_same v w.was w.nodes ∙ one.tree;
        marks = λ path node found own. one.marks path node (ap (page_in path) (sym w.nodes) ∙ found) own;
      }

  made_still : (m : Made) (base root : ℕ) → IsMadeOf old.content m base root → IsMadeOf content m base root
  made_still m base root h =
      made_of_stays old.content content m base root (λ p n is. same_pages n) (λ p n is. same_pages n)
      (rewritten_top old.content content block rewrite tops.base tops.root rw root) h

  made_of_now : AreMadeOf (record old { content = content; store = store_with change object at old.store; places = lies.order })
  made_of_now i place m file before version here low listed first second serial =
      let w = were_pair change keeps old.store object at (m.object - 1) place file before version listed first second in
      let one : IsMadeOf old.content m w.one.was.block w.two.was.block =
      shared.made_of i place m w.file w.one.was w.two.was here low w.listed w.one.kept w.two.kept (sym w.two.serial ∙ serial) in
      subst (λ n. IsMadeOf content m n version.block) (sym w.one.block)
      (subst (λ n. IsMadeOf content m w.one.was.block n) (sym w.two.block) (made_still m w.one.was.block w.two.was.block one))

  pub marked_shared : IsShared (record old { content = content; store = store_with change object at old.store; places = lies.order })
  marked_shared = record {
    some = shared.some;
    laid = lies.laid;
    state = state_same change object at old.store state_kept ∙ shared.state;
    map = map_now;
    made = made_now;
    made_of = made_of_now;
    links = links;
  }

  pub marked_versions : KeepsVersions old (record old { content = content; store = store_with change object at old.store; places = lies.order })
  marked_versions o v has =
      let n = now_here change keeps old.store object at o v has in
      record {
        again = n.0;
        is = n.1;
        serial = n.2;
        block = n.3;
        tree = tree_same n.0 v n.4;
        pages = λ p m is. same_pages m;
      }

  -- a block that is held is not the one that was written
  not_written : (j n : ℕ) → IsHeldBy old j n → n ≢ block
  not_written j n is e =
      not_kept old shared.map j n is ((shared.map.kept n (past_end old.states n j is)).1 (inr (inl (subst (λ m. IsPlace old.places m) (sym e) place_is))))

  pub marked_leaves : LeavesOthers k old (record old { content = content; store = store_with change object at old.store; places = lies.order })
  marked_leaves j low ne = record {
    client = refl;
    clients = refl;
    upkeep = λ up mine. (λ is. is, λ is. is);
    held = λ n is. (is, sym (rw.others n (not_written j n is)));
    versions = λ w v relied. marked_versions w.object v relied.is;
    made = λ w v relied m is of_object serial. is;
    known = λ w on. known_same w.object old.standing.made old.standing.made refl;
  }

  pub marked_to : ((j : ℕ) → 1 ≤ j → j ≢ k → LeavesLinks j old (record old { content = content; store = store_with change object at old.store; places = lies.order })
      × LeavesNames j old (record old { content = content; store = store_with change object at old.store; places = lies.order }))
      → IsMarkedTo k old (record old { content = content; store = store_with change object at old.store; places = lies.order }) content
  marked_to left = record {
    content_is = refl;
    most = refl;
    states_is = refl;
    freed_is = refl;
    standing_is = refl;
    blocks = refl;
    places = place_now;
    heads = λ told are. are ∙ sym (heads_kept change at object old.store.files keeps.head);
    leads = record { shared = marked_shared; versions = marked_versions; leaves = marked_leaves };
    links = left;
  }

-- the files of other objects than the one with the changed version are as they were
pub others_files : (change : LaidVersion → LaidVersion) (store : LaidStore) (object at j : ℕ) → j ≢ object
    → slice_get (store_with change object at store).files j ≡ slice_get store.files j
others_files change store object at j ne = changed_other (file_with change at) object j store.files ne
