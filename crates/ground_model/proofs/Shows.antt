-- What blocks show to whoever reads them.
use Rattle.std.proofs.Common.{◌≡◌, ◌==◌, ℕ, suc, ◌+◌, ◌-◌, ◌≤◌, Bool, true, false, cond, List, [], ◌∷◌, ◌++◌, length, Option, Some, None, Result, Ok, Err, option_map, refl, sym, ap, ◌∙◌, subst, arith, slice_index, length-append, ◌<◌}
use Rattle.std.specs.Option.{option_and_then, option_map_or}
use Rattle.std.specs.Ordering.{is_lt}
use Rattle.afs_base.specs.Path.{path_cmp}
use Rattle.draft_model.specs.Stands.{SlotStands}
use Rattle.draft_model.specs.Told.{is_one_of}
use Rattle.draft_model.specs.Views.{View, Wants, copies, live}
use Rattle.joint_walk.specs.Calls.{first_of, next_of}
use Rattle.joint_walk.specs.Walks.{AllOf, IsWanted, Pending, StateOf}
use Rattle.page_codec.specs.Causes.{Reads, page_of, version_of}
use Rattle.page_codec.specs.Values.{PageValue, VersionValue}
use Rattle.page_codec.specs.declared.why.BadPage.{BadPage}
use Rattle.page_codec.specs.declared.why.Why.{Why}
use Rattle.page_places.specs.Places.{block_at, has_bit, same, slot_block}
use Rattle.recovery.proofs.Places.{places_ranged}
use Rattle.service_model.specs.Standing.{Work}
use Rattle.store_changes.proofs.InPlaces.{pages_are_places}
use Rattle.store_changes.specs.Stands.{IsPlace}
use Rattle.store_changes.specs.Writes.{Content}
use Rattle.store_model.specs.Laid.{LaidVersion}
use Rattle.store_model.specs.Laws.{page_of_block, pages_of, read_of}
use Rattle.store_model.specs.VersionPages.{HasItsPage}
use Rattle.store_model.proofs.Edits.{some_is}
use Rattle.store_model.proofs.FoundStates.{versions_have_pages}
use Rattle.store_model.proofs.Held.{versions_are_held}
use Rattle.store_model.proofs.Reading.{reads_version}
use Rattle.store_model.proofs.Rewriting.{bytes_of}
use Rattle.version_chain.specs.Flush.{Plan}
use Rattle.service_model.specs.Standing.{serial_of}
use Rattle.tree_model.specs.Accesses.{Place, all_writes}
use Rattle.tree_model.proofs.Paths.{or_left, same_self}
use Rattle.tree_model.specs.Trees.{Tree, tree_after}
use Rattle.ground_model.specs.Commits.{IsWritten}
use Rattle.ground_model.specs.Own.{HasDraft, IsBase}
use Rattle.ground_model.specs.Scenes.{Scene, HasVersion, IsShared}
use Rattle.ground_model.specs.Shows.{BaseShows, IsPlaceOf, NeededShows, ShowsPage, ShowsVersion, VersionShows, WantedShows}
use Rattle.ground_model.proofs.HeldWrites.{version_of as version_here}
use Rattle.ground_model.proofs.Links.{version_page}

-- what a decoder returned, where reading gives a value
pub decoded_as : {X : Type 0} (result : Result X BadPage) (read : Result X Why) (x : X) → Reads result read → read ≡ Ok x → result ≡ Ok x
decoded_as {X} (Ok y) read x reads is = (let both : (let r : Result X Why = Ok y in r) ≡ Ok x = sym reads ∙ is in (let same : y ≡ x = cc in ap Ok same))
decoded_as {X} (Err e) read x reads is = (let both : (let r : Result X Why = Err e.why in r) ≡ Ok x = sym reads ∙ is in absurd cc)

-- ---- versions

module _ (scene : Scene) (shared : IsShared scene) where
  -- a block that is a place
  pub lies_in : (n : ℕ) → IsPlace scene.places n → IsPlaceOf scene n
  lies_in n is =
      let range = places_ranged scene.content scene.most scene.store scene.places shared.laid n is in
      record { place = is; low = range.0; high = range.1 }

  pub version_shows_here : (object : ℕ) (version : LaidVersion) → HasVersion scene.store object version → ShowsVersion scene object version.serial version.block
  version_shows_here object version has =
      let its : HasItsPage scene.content (suc (object - 1)) version =
      versions_have_pages scene.content scene.most scene.store scene.places shared.laid version (version_here scene.store object version has) in
      let b = bytes_of (scene.content version.block) its.page its.held in
      let low = has.counts in
      record {
        lies = lies_in version.block
            (pages_are_places scene.content scene.most scene.store scene.places shared.laid version (version_here scene.store object version has) [] version.block refl);
        page = its.page;
        object_is = (let is = its.object_is in omega (arith, is, low));
        serial_is = its.serial;
        held = its.held;
        shows = version_page scene.content version.block its.page its.held;
        body = b.bytes;
        holds = b.holds;
        reads = b.reads;
        decoded = λ bytes result here reads.
            decoded_as result (version_of bytes) its.page reads (ap version_of (some_is (sym here ∙ b.holds)) ∙ b.reads);
      }

pub version_shows : VersionShows
version_shows scene object version shared has = version_shows_here scene shared object version has

pub base_shows : BaseShows
base_shows scene object serial root tree shared b =
    subst (λ n. ShowsVersion scene object serial n) b.block_is
    (subst (λ n. ShowsVersion scene object n b.version.block) b.serial_is (version_shows_here scene shared object b.version b.is))

-- the version that a written draft was merged with lies in one of the blocks
pub root_within : (scene : Scene) (k : ℕ) (w : Work) (root : ℕ) (tree : Tree) (d : View) (plan : Plan) → IsShared scene → IsWritten scene k w root tree d plan
    → root < scene.store.root.blocks
root_within scene k w root tree d plan shared written =
    (base_shows scene w.object (serial_of scene.standing.state w.object) root tree shared written.merged.base).lies.high

-- ---- pages below them

record Below (content : Content) (block : ℕ) (page : PageValue) : Type 0 where
  body : List ℕ
  holds : content block ≡ Some body
  reads : page_of body ≡ Ok page

read_is : (r : Result PageValue Why) (page : PageValue) → read_of r ≡ Some page → r ≡ Ok page
read_is (Ok x) page e = ap Ok (some_is e)
read_is (Err w) page e = absurd cc

-- a page that is not of level 0 is no version page
below_top : (content : Content) (block : ℕ) (page : PageValue) → pages_of content block ≡ Some page → 1 ≤ page.level → Below content block page
below_top content block page shows low = by (content block) refl shows
  where
    no_version : (bytes : List ℕ) → content block ≡ Some bytes → (r : Result VersionValue Why) → version_of bytes ≡ r → option_map (λ (v : VersionValue). v.page) (read_of r) ≡ Some page → ⊥
    no_version bytes here (Ok v) is e =
        let zero_level = (reads_version content block bytes v here is).level in
        let same : v.page.level ≡ page.level = ap (λ (p : PageValue). p.level) (some_is e) in
        omega (arith, zero_level, same, low)
    no_version bytes here (Err w) is e = cc

    of : (bytes : List ℕ) → content block ≡ Some bytes → (b : Bool) → cond b (option_map (λ (v : VersionValue). v.page) (read_of (version_of bytes))) (read_of (page_of bytes)) ≡ Some page → Below content block page
    of bytes here true e = absurd (no_version bytes here (version_of bytes) refl e)
    of bytes here false e = record { body = bytes; holds = here; reads = read_is (page_of bytes) page e }

    by : (o : Option (List ℕ)) → content block ≡ o → option_and_then page_of_block o ≡ Some page → Below content block page
    by None here e = absurd cc
    by (Some bytes) here e = of bytes here (slice_index bytes 1 == 86) e

module _ (scene : Scene) (shared : IsShared scene) (object serial root : ℕ) (tree : Tree) (b : IsBase scene object serial root tree) where
  -- each page to which a version leads, but for `/`
  pub page_shows : (path : List ℕ) (block : ℕ) → 1 ≤ length path → block_at (pages_of scene.content) root path ≡ Some block → ShowsPage scene path block
  page_shows path block low at =
      let here : block_at (pages_of scene.content) b.version.block path ≡ Some block = ap (λ n. block_at (pages_of scene.content) n path) b.block_is ∙ at in
      let held = (versions_are_held scene.content scene.most scene.store scene.places shared.laid b.version (version_here scene.store object b.version b.is)).page path block here in
      let level = held.3 in
      let below : Below scene.content block held.0 = below_top scene.content block held.0 held.1 (omega (arith, level, low)) in
      record {
        lies = lies_in scene shared block
            (pages_are_places scene.content scene.most scene.store scene.places shared.laid b.version (version_here scene.store object b.version b.is) path block here);
        page = held.0;
        level = level;
        below = low;
        shows = held.1;
        body = below.body;
        holds = below.holds;
        reads = below.reads;
        decoded = λ bytes result is reads. decoded_as result (page_of bytes) held.0 reads (ap page_of (some_is (sym is ∙ below.holds)) ∙ below.reads);
      }

-- what a draft wants lies where its base has it
pub wanted_at : (scene : Scene) (w : Work) (root : ℕ) (d : View) (end q : List ℕ) (block : ℕ) → HasDraft scene w root d → Wants (copies d) end q block
    → block_at (pages_of scene.content) root (q) ≡ Some block
wanted_at scene w root d end q block h wants =
    let slot = h.stands.stands.shape.slot wants.above wants.last wants.copy wants.at in
    let F : Bool → Option ℕ → Type 0 = λ x y. SlotStands (pages_of scene.content) root w.base (tree_after w.base w.steps) (all_writes w.base w.steps) (copies d) (wants.above ++ wants.last ∷ []) (has_bit wants.copy.page.modified wants.last) x y in
    let g : F false (Some block) = subst (F false) wants.block (subst (λ x. F x (slot_block wants.copy.page wants.last)) (ap (λ p. live (copies d) p) (sym wants.is) ∙ wants.not_yet) slot) in
    ap (block_at (pages_of scene.content) root) wants.is ∙ g.0.block

pub wanted_shows : WantedShows
wanted_shows scene w root d end q block shared h wants =
    let long : length (wants.above ++ wants.last ∷ []) ≡ length wants.above + 1 = length-append wants.above (wants.last ∷ []) in
    let same : length q ≡ length (wants.above ++ wants.last ∷ []) = ap length wants.is in
    page_shows scene shared w.object w.serial root w.base h.base q block (omega (arith, long, same)) (wanted_at scene w root d end q block h wants)

-- ---- what a walk needs

-- no path is before `/`
never_before : (p : List ℕ) → is_lt (path_cmp p []) ≡ true → ⊥
never_before [] e = cc
never_before (s ∷ p) e = cc

first_fed : (fed : List (List ℕ)) → 1 ≤ length fed → (p : List ℕ) × (is_one_of fed p ≡ true)
first_fed [] low = absurd (omega arith)
first_fed (p ∷ fed) low = (p, or_left (same p p) (is_one_of fed p) (same_self p))

long_path : (p : List ℕ) → (p ≡ [] → ⊥) → 1 ≤ length p
long_path [] h = absurd (h refl)
long_path (s ∷ p) h = omega arith

-- the first page that is to be read
record First (P : Pending → Type 0) (path : List ℕ) (block : ℕ) : Type 0 where
  page : Pending
  has : P page
  path_is : page.path ≡ path
  block_is : page.block ≡ block

first_one : (P : Pending → Type 0) (pending : List Pending) (path : List ℕ) (block : ℕ) → AllOf P pending
    → option_map {U = List ℕ × ℕ} (λ (x : Pending). (x.path, x.block)) (first_of pending) ≡ Some (path, block) → First P path block
first_one P [] path block all is = absurd cc
first_one P (x ∷ pending) path block all is = record {
  page = x;
  has = all.0;
  path_is = ap (λ (o : Option (List ℕ × ℕ)). option_map_or (λ (y : List ℕ × ℕ). y.0) o []) is;
  block_is = ap (λ (o : Option (List ℕ × ℕ)). option_map_or (λ (y : List ℕ × ℕ). y.1) o 0) is;
}

pub needed_shows : NeededShows
needed_shows scene w upto root tree before d next m fed walk path block shared h is = by walk.clash h.way.state
  where
    of : First (IsWanted (pages_of scene.content) next tree w.steps m.steps h.way.fed) path block → ShowsPage scene path block
    of x =
        let some = h.some in
        let count = h.way.count in
        let p = first_fed h.way.fed (omega (arith, some, count)) in
        let ahead : is_lt (path_cmp p.0 path) ≡ true = ap (λ q. is_lt (path_cmp p.0 q)) (sym x.path_is) ∙ x.has.ahead p.0 p.1 in
        let at : block_at (pages_of scene.content) next path ≡ Some block =
        ap (block_at (pages_of scene.content) next) (sym x.path_is) ∙ x.has.at ∙ ap Some x.block_is in
        page_shows scene shared w.object (upto + 1) next (tree_after tree m.steps) h.ahead.base path block
        (long_path path (λ e. never_before p.0 (ap (λ q. is_lt (path_cmp p.0 q)) (sym e) ∙ ahead))) at

    by : (o : Option Place) → StateOf (pages_of scene.content) next tree w.steps m.steps h.way.start h.way.fed walk d o → ShowsPage scene path block
    by None g = of (first_one (IsWanted (pages_of scene.content) next tree w.steps m.steps h.way.fed) walk.pending path block g.has_fed.wanted is)
    by (Some x) g =
        let none : next_of walk ≡ None = ap (λ pending. option_map {U = List ℕ × ℕ} (λ (y : Pending). (y.path, y.block)) (first_of pending)) g.pending in
        absurd (let no : None ≡ Some (path, block) = sym none ∙ is in cc)
