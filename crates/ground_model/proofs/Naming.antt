-- What the version page of a version names: the next one of its file, or none.
use Rattle.std.proofs.Common.{◌≡◌, ◌⊎◌, inl, inr, ℕ, suc, ◌+◌, ◌-◌, ◌<◌, ◌≤◌, List, [], ◌∷◌, ◌++◌, length, get_or, Some, None, Ok, option_map, refl, sym, ap, ◌∙◌, subst, arith, slice_get}
use Rattle.std.proofs.lemmas.Bool.{cases_eq}
use Rattle.std.proofs.lemmas.List.{length-map}
use Rattle.std.proofs.lemmas.Option.{slice_get-get_or, slice_get-map, slice_get_within}
use Rattle.page_codec.specs.Values.{VersionValue}
use Rattle.service_model.specs.Sound.{IsOpenAt}
use Rattle.service_model.specs.Standing.{Update, serial_of}
use Rattle.service_model.proofs.Causes.{lock_held}
use Rattle.service_model.proofs.Versions.{IsLiveAt, live_at, live_serial, serial_at}
use Rattle.store_changes.specs.Writes.{Content}
use Rattle.store_model.specs.Changes.{IsLinked, version_in_block}
use Rattle.store_model.specs.Found.{LaidStore, file_in, laid, state_in, version_in}
use Rattle.store_model.specs.Laid.{LaidFile, LaidVersion}
use Rattle.store_model.specs.Members.{longer, tops_from, tops_linked}
use Rattle.store_model.specs.VersionPages.{HasItsPage}
use Rattle.store_model.proofs.Aside.{objects_in, tops_step}
use Rattle.store_model.proofs.Edits.{get_append, get_past, none_some, some_is}
use Rattle.store_model.proofs.Filing.{FilesAgain, files_again}
use Rattle.store_model.proofs.FoundStates.{lasts_name_none, versions_have_pages}
use Rattle.store_model.proofs.Hits.{Outcome, frozen, hit, missed, tops_outcome}
use Rattle.store_model.proofs.LastVersions.{chained_next, last_names_none}
use Rattle.store_model.proofs.Rewriting.{same_version}
use Rattle.store_model.proofs.SettingLinks.{some_page}
use Rattle.store_model.proofs.Steps.{blocks_of}
use Rattle.store_model.proofs.Stores.{Parts, parts_of, unlinked}
use Rattle.tree_model.specs.States.{File, State}
use Rattle.tree_model.specs.Trees.{Tree}
use Rattle.ground_model.specs.Own.{IsBase}
use Rattle.ground_model.specs.Scenes.{Scene, HasVersion, IsLinking, IsShared}
use Rattle.ground_model.specs.Names.{CommitNames, IsNext, NamesNext, UnlockedIsUnlinked}
use Rattle.ground_model.proofs.Ahead.{base_low, scene_state}
use Rattle.ground_model.proofs.HeldWrites.{version_of}
use Rattle.ground_model.proofs.Latest.{entry_is, last_is}
use Rattle.ground_model.proofs.Laying.{stated}

-- ---- links that clients set

pub unlocked_is_unlinked : UnlockedIsUnlinked
unlocked_is_unlinked s k u object mine plain unlocked l = elim (cases_eq l.client k) [
  | inl e ↦
      let own : IsOpenAt s k l.update = subst (λ n. IsOpenAt s n l.update) e l.is_open in
      let both : Some l.update ≡ Some u = sym own ∙ mine in
      absurd (let no = sym l.several ∙ ap (λ (x : Update). x.is_super) (some_is both) ∙ plain in cc)
  | inr ne ↦ lock_held s k object unlocked l.client l.update l.number ne l.is_open l.several l.has
]

-- ---- in a store

module _ (c : Content) (most : ℕ) (store : LaidStore) (places : List ℕ) (lies : laid c most [] ≡ Ok (store, places)) (k : ℕ) (file : LaidFile)
    (listed : slice_get store.files k ≡ Some file) (linked : IsLinked file) where
  parts : Parts c most store places
  parts = parts_of c most store places lies

  there : slice_get parts.linked.files k ≡ Some file
  there = ap (λ (s : LaidStore). slice_get s.files k) (sym parts.made) ∙ listed

  module _ (place : ℕ) (base next : LaidVersion) (before : slice_get file.versions place ≡ Some base) (after : slice_get file.versions (suc place) ≡ Some next) where
    -- a chain names each of its versions
    in_chain : slice_get parts.files k ≡ Some file → base.commit ≡ Some next.block
    in_chain here =
        let fa : FilesAgain c c parts.root.blocks (suc k) 1 k file parts.rows parts.in_table parts.files parts.in_files =
        files_again c c parts.root.blocks (suc k) 1 k file parts.rows parts.in_table parts.files parts.in_files place base (omega arith) parts.chains here before in
        chained_next fa.head fa.rest place base next fa.chained
        (ap (λ l. slice_get l place) (sym fa.list) ∙ before) (ap (λ l. slice_get l (suc place)) (sym fa.list) ∙ after)

    -- and no version stands behind it where every link is set
    behind : (old : LaidFile) (last version : LaidVersion) → slice_get parts.files k ≡ Some old → slice_get old.versions (length old.versions - 1) ≡ Some last
        → file ≡ longer version old → ⊥
    behind old last version here is grown =
        let low : length old.versions - 1 < length old.versions = slice_get_within old.versions (length old.versions - 1) last is in
        let up : suc (length old.versions - 1) ≡ length old.versions = omega (arith, low) in
        linked (length old.versions - 1) last version
        (ap (λ (f : LaidFile). slice_get f.versions (length old.versions - 1)) grown ∙ get_append old.versions (version ∷ []) (length old.versions - 1) last is)
        (ap (λ (f : LaidFile). slice_get f.versions (suc (length old.versions - 1))) grown
        ∙ ap (slice_get (old.versions ++ version ∷ [])) up ∙ get_past old.versions version)
        (last_names_none c parts.root.blocks parts.rows parts.in_table parts.files parts.in_files parts.chains k old last here is)

    pub names_next : base.commit ≡ Some next.block
    names_next =
        of (tops_outcome c c parts.root.blocks k (λ v. v) (λ v. same_version v) (tops_from 1 parts.files) (unlinked parts.files) parts.in_files parts.linked places parts.tops)
      where
        of : Outcome c c parts.root.blocks k (λ v. v) (tops_linked (blocks_of c parts.root.blocks) (tops_from 1 parts.files)) (objects_in (tops_from 1 parts.files)) (unlinked parts.files) parts.in_files parts.linked places
            → base.commit ≡ Some next.block
        of (missed m) =
            in_chain (sym (tops_step c c parts.root.blocks k (tops_from 1 parts.files) (unlinked parts.files) parts.in_files parts.linked places (inr (inl m)) parts.tops).kept ∙ there)
        of (frozen f) = in_chain (sym f.kept ∙ there)
        of (hit z) = absurd (behind z.file z.base z.version z.listed z.is (some_page (slice_get parts.linked.files k) there z.grown_file))

-- ---- in a scene

module _ (scene : Scene) (object serial root : ℕ) (tree : Tree) (page : VersionValue) (shared : IsShared scene) (free : IsLinking scene.standing object → ⊥)
    (b : IsBase scene object serial root tree) (held : version_in_block scene.content root ≡ Some page) where
  has : HasVersion scene.store object b.version
  has = b.is

  counts : suc (object - 1) ≡ object
  counts = (let low = b.is.counts in omega (arith, low))

  set : IsLinked b.is.file
  set = elim (shared.links.links (object - 1) b.is.file b.is.listed) [
    | inl is ↦ is
    | inr x ↦ absurd (free (subst (λ o. IsLinking scene.standing o) counts x))
  ]

  its : HasItsPage scene.content (suc (object - 1)) b.version
  its = versions_have_pages scene.content scene.most scene.store scene.places shared.laid b.version (version_of scene.store object b.version b.is)

  commit_is : page.commit ≡ b.version.commit
  commit_is =
      ap (λ (v : VersionValue). v.commit) (some_is (sym held ∙ ap (version_in_block scene.content) (sym b.block_is) ∙ its.held)) ∙ its.commit

  serial_here : serial_of scene.standing.state object ≡ serial_of (state_in scene.store) object
  serial_here = ap (λ (s : State). serial_of s object) (sym shared.state)

  last_names : serial ≡ serial_of scene.standing.state object → page.commit ≡ None
  last_names e =
      commit_is
      ∙ lasts_name_none scene.content scene.most scene.store scene.places shared.laid (object - 1) b.is.file b.version b.is.listed
      (last_is scene.store object b.version b.is (scene_state scene shared) (b.serial_is ∙ e ∙ serial_here))

  -- ---- the next version

  live : IsLiveAt (state_in scene.store) object
  live = live_at (state_in scene.store) object (version_in b.version) (scene_state scene shared) (stated scene.store object b.version b.is)

  file_is : live.file ≡ file_in b.is.file
  file_is = some_is (sym live.is ∙ entry_is scene.store object b.version b.is)

  in_state : (place : ℕ) (v : LaidVersion) → slice_get b.is.file.versions place ≡ Some v → slice_get live.file.versions place ≡ Some (version_in v)
  in_state place v at = ap (λ (f : File). slice_get f.versions place) file_is ∙ slice_get-map version_in b.is.file.versions place ∙ ap (option_map version_in) at

  module _ (less : serial < serial_of scene.standing.state object) where
    short : suc b.is.place < length b.is.file.versions
    short =
        let one = serial_at (state_in scene.store) object live b.is.place (version_in b.version) (in_state b.is.place b.version b.is.kept) in
        let two = serial_at (state_in scene.store) object live (length live.file.versions - 1) live.last live.last_is in
        let three = live_serial (state_in scene.store) object live in
        let long : length live.file.versions ≡ length b.is.file.versions = ap (λ (f : File). length f.versions) file_is ∙ length-map b.is.file.versions version_in in
        let here = serial_here in
        let mine = b.serial_is in
        omega (arith, one, two, three, long, here, mine, less)

    abbrev next : LaidVersion
    next = get_or b.is.file.versions (suc b.is.place) b.version

    next_at : slice_get b.is.file.versions (suc b.is.place) ≡ Some next
    next_at = slice_get-get_or b.is.file.versions (suc b.is.place) b.version short

    next_serial : next.serial ≡ serial + 1
    next_serial =
        let one = serial_at (state_in scene.store) object live b.is.place (version_in b.version) (in_state b.is.place b.version b.is.kept) in
        let two = serial_at (state_in scene.store) object live (suc b.is.place) (version_in next) (in_state (suc b.is.place) next next_at) in
        let mine = b.serial_is in
        omega (arith, one, two, mine)

    pub next_named : page.commit ≡ Some next.block
    next_named =
        commit_is
        ∙ names_next scene.content scene.most scene.store scene.places shared.laid (object - 1) b.is.file b.is.listed set b.is.place b.version next b.is.kept next_at

    pub is_next : IsNext scene object serial next.block
    is_next = record {
      less = less;
      tree = (version_in next).tree;
      base = record {
        version = next;
        is = record { file = b.is.file; place = suc b.is.place; counts = b.is.counts; listed = b.is.listed; kept = next_at };
        serial_is = next_serial;
        block_is = refl;
        tree_is = refl;
      };
    }

  low : serial ≤ serial_of scene.standing.state object
  low = base_low scene object serial root tree shared b

  same_or_less : (serial ≡ serial_of scene.standing.state object) ⊎ (serial < serial_of scene.standing.state object)
  same_or_less = either serial (serial_of scene.standing.state object) low
    where
      either : (m n : ℕ) → m ≤ n → (m ≡ n) ⊎ (m < n)
      either m n h = grind arith

  pub names : NamesNext scene object serial page.commit
  names = record {
    most = low;
    next = λ less. ((next less).block, next_named less, is_next less);
    last = last_names;
    some = λ block is. elim same_or_less [
      | inl e ↦ none_some (sym (last_names e) ∙ is)
      | inr less ↦ subst (λ n. IsNext scene object serial n) (some_is (sym (next_named less) ∙ is)) (is_next less)
    ];
    none = λ is. elim same_or_less [ inl e ↦ e | inr less ↦ none_some (sym is ∙ next_named less) ];
  }

pub commit_names : CommitNames
commit_names scene object serial root tree page shared free b held = names scene object serial root tree page shared free b held
