-- What is told of the last versions of files is so, and of a file that is not live nothing is told.
use Rattle.std.proofs.Common.{◌≡◌, inl, inr, ℕ, ◌-◌, ◌<◌, ◌≤◌, Bool, true, false, cond, nat_eq, nat_lt, List, [], ◌∷◌, length, map, Option, Some, None, Ok, option_map, refl, sym, ap, ◌∙◌, subst, arith, slice_get}
use Rattle.std.specs.Prelude.{is_some}
use Rattle.std.specs.List.{AllByRecursion}
use Rattle.std.specs.Option.{option_map_or, option_and_then}
use Rattle.std.proofs.lemmas.Bool.{leb-true, lt-ltb}
use Rattle.std.proofs.lemmas.List.{length-map}
use Rattle.std.proofs.lemmas.Option.{slice_get-map}
use Rattle.afs_base.specs.declared.head.Head.{Head}
use Rattle.caps.specs.Grant.{SealValue}
use Rattle.recovery.specs.Opening.{head_of, heads_of}
use Rattle.service_model.specs.Standing.{last_tree, seal_in, seal_of, serial_of}
use Rattle.store_changes.specs.Stands.{IsPlace}
use Rattle.store_changes.specs.Writes.{Content}
use Rattle.store_changes.proofs.InPlaces.{pages_are_places}
use Rattle.store_check.specs.Counts.{IsPlace as IsBlock}
use Rattle.store_check.specs.Files.{first_serial, kept_by}
use Rattle.store_check.proofs.Counting.{places_are_counted}
use Rattle.store_model.specs.Found.{LaidStore, file_in, laid, state_in, version_in}
use Rattle.store_model.specs.Laid.{LaidFile, LaidVersion, last_laid}
use Rattle.store_model.proofs.Edits.{none_some, some_is, within}
use Rattle.store_model.proofs.LastVersions.{last_get}
use Rattle.store_model.proofs.PlaceLists.{in_cons, none_in}
use Rattle.store_model.proofs.Stores.{Parts, parts_of}
use Rattle.tree_model.specs.States.{State, File, Version, last_serial}
use Rattle.ground_model.specs.Heads.{HeadsTell, IsHeadOf, NoHeadTells}
use Rattle.ground_model.specs.Scenes.{Scene, HasVersion, IsShared}
use Rattle.ground_model.proofs.HeldWrites.{version_of}
use Rattle.ground_model.proofs.Latest.{entry_is, last_tree_is, last_version_is}
use Rattle.ground_model.proofs.Laying.{entry_at}

-- ---- places

-- each place of a store is one of its blocks, but not block 0
each_in : (blocks : ℕ) (ns : List ℕ) (n : ℕ) → AllByRecursion (IsBlock blocks) ns → IsPlace ns n → IsBlock blocks n
each_in blocks [] n each h = absurd (none_in n h)
each_in blocks (m ∷ ns) n each h = elim (in_cons m n ns h) [
  | inl e ↦ subst (IsBlock blocks) (sym e) each.0
  | inr i ↦ each_in blocks ns n each.1 i
]

pub place_is_block : (c : Content) (most : ℕ) (store : LaidStore) (places : List ℕ) → laid c most [] ≡ Ok (store, places)
    → (n : ℕ) → IsPlace places n → IsBlock store.root.blocks n
place_is_block c most store places e n is = each_in store.root.blocks places n (places_are_counted c most store places e).each is

-- a store has no more blocks than the halves
pub blocks_fit : (c : Content) (most : ℕ) (store : LaidStore) (places : List ℕ) → laid c most [] ≡ Ok (store, places) → store.root.blocks ≤ most
blocks_fit c most store places e =
    let p : Parts c most store places = parts_of c most store places e in
    subst (λ (s : LaidStore). s.root.blocks ≤ most) (sym p.made) (leb-true p.root.blocks most p.few)

-- ---- what is told

-- the last version of a file of which something is told
record ToldOf (store : LaidStore) (object : ℕ) (head : Head) : Type 0 where
  file : LaidFile
  last : LaidVersion
  listed : slice_get store.files object ≡ Some file
  is : last_laid file.versions ≡ Some last
  block : last.block ≡ head.block
  serial : last.serial ≡ head.serial

-- what is told of a file whose last version this is
abbrev told_by : List LaidVersion → LaidVersion → Head
told_by versions last = record { block = last.block; first = first_serial versions; serial = last.serial; kept = kept_by versions }

told_of : (store : LaidStore) (object : ℕ) (head : Head) → slice_get (heads_of store.files) object ≡ Some (Some head) → ToldOf store object head
told_of store object head e = by (slice_get store.files object) refl
  where
    mapped : (o : Option LaidFile) → slice_get store.files object ≡ o → option_map (λ (f : LaidFile). head_of f.versions) o ≡ Some (Some head)
    mapped o h =
        ap (option_map (λ (f : LaidFile). head_of f.versions)) (sym h)
        ∙ sym (slice_get-map (λ (f : LaidFile). head_of f.versions) store.files object) ∙ e

    last_by : (file : LaidFile) → slice_get store.files object ≡ Some file → (o : Option LaidVersion) → last_laid file.versions ≡ o
        → option_map (told_by file.versions) o ≡ Some head → ToldOf store object head
    last_by file listed None is h = none_some h
    last_by file listed (Some last) is h =
        let same : told_by file.versions last ≡ head = some_is h in
        record {
          file = file;
          last = last;
          listed = listed;
          is = is;
          block = ap (λ (x : Head). x.block) same;
          serial = ap (λ (x : Head). x.serial) same;
        }

    by : (o : Option LaidFile) → slice_get store.files object ≡ o → ToldOf store object head
    by None h = none_some (mapped None h)
    by (Some file) h = last_by file h (last_laid file.versions) refl (some_is (mapped (Some file) h))

-- a file with versions is live
live_seal : (file : LaidFile) → 0 < length file.versions → is_some (seal_of (file_in file)) ≡ true
live_seal file some = by (nat_lt 0 (length (map version_in file.versions))) (lt-ltb 0 (length (map version_in file.versions)) (let long = length-map file.versions version_in in omega (arith, some, long)))
  where
    seal : SealValue
    seal = record { secret = file.entry.secret; generation = file.entry.generation }

    by : (b : Bool) → b ≡ true → is_some (cond b (Some seal) None) ≡ true
    by true e = refl
    by false e = e

-- a file without versions is not
dead_seal : (file : LaidFile) → file.versions ≡ [] → seal_of (file_in file) ≡ None
dead_seal file none =
    let seal : SealValue = record { secret = file.entry.secret; generation = file.entry.generation } in
    ap (λ (vs : List LaidVersion). cond (nat_lt 0 (length (map version_in vs))) (Some seal) None) none

module _ (scene : Scene) (shared : IsShared scene) (object : ℕ) (head : Head) (t : ToldOf scene.store (object - 1) head) (low : 1 ≤ object) where
  has : HasVersion scene.store object t.last
  has = record { file = t.file; place = length t.file.versions - 1; counts = low; listed = t.listed; kept = t.is }

  tree_here : (version_in t.last).tree ≡ last_tree scene.standing.state object
  unfolding has
  tree_here = sym (last_tree_is scene.store object t.last has t.is) ∙ ap (λ (s : State). last_tree s object) shared.state

  serial_here : t.last.serial ≡ serial_of scene.standing.state object
  unfolding has
  serial_here =
      sym (ap (λ o. option_map_or (λ (n : ℕ). n) (option_and_then last_serial o) 0) (entry_is scene.store object t.last has)
      ∙ ap (λ o. option_map_or (λ (n : ℕ). n) (option_map (λ (v : Version). v.serial) o) 0) (last_version_is scene.store object t.last has t.is))
      ∙ ap (λ (s : State). serial_of s object) shared.state

  live_here : is_some (seal_in scene.standing.state object) ≡ true
  unfolding has
  live_here =
      ap (λ (s : State). is_some (seal_in s object)) (sym shared.state)
      ∙ ap (λ o. is_some (option_and_then seal_of o)) (entry_is scene.store object t.last has)
      ∙ live_seal t.file (let lies : length t.file.versions - 1 < length t.file.versions = within t.file.versions (length t.file.versions - 1) t.last t.is in omega (arith, lies))

  place_here : IsPlace scene.places head.block
  place_here =
      subst (IsPlace scene.places) t.block
      (pages_are_places scene.content scene.most scene.store scene.places shared.laid t.last (version_of scene.store object t.last has) [] t.last.block refl)

  block_here : IsBlock scene.store.root.blocks head.block
  block_here = place_is_block scene.content scene.most scene.store scene.places shared.laid head.block place_here

  head_here : IsHeadOf scene object head
  head_here = record {
    live = live_here;
    serial = sym t.serial ∙ serial_here;
    place = place_here;
    low = (let above = block_here.0 in λ e. omega (arith, above, e));
    high = block_here.1;
    within = (let below = block_here.1 in let fit = blocks_fit scene.content scene.most scene.store scene.places shared.laid in omega (arith, below, fit));
    base = record { version = t.last; is = has; serial_is = t.serial; block_is = t.block; tree_is = tree_here };
  }

pub heads_tell : HeadsTell
heads_tell scene heads object head shared are low told =
    let t : ToldOf scene.store (object - 1) head = told_of scene.store (object - 1) head (ap (λ (hs : List (Option Head)). slice_get hs (object - 1)) (sym are) ∙ told) in
    head_here scene shared object head t low

-- ---- what is not told

-- nothing is told of a file without versions alone
none_told : (file : LaidFile) → ((head : Head) → head_of file.versions ≡ Some head → ⊥) → file.versions ≡ []
none_told file none = by file.versions none
  where
    by : (vs : List LaidVersion) → ((head : Head) → head_of vs ≡ Some head → ⊥) → vs ≡ []
    by [] h = refl
    by (v ∷ vs) h =
        let place : length (v ∷ vs) - 1 ≡ length vs = omega arith in
        absurd (h _ (ap (option_map (told_by (v ∷ vs))) (ap (slice_get (v ∷ vs)) place ∙ last_get v vs)))

pub no_head_tells : NoHeadTells
no_head_tells scene heads object shared are low none =
    ap (λ (s : State). seal_in s object) (sym shared.state) ∙ by (slice_get scene.store.files (object - 1)) refl
  where
    no_file : (b : Bool) → option_and_then seal_of (cond b None None) ≡ None
    no_file true = refl
    no_file false = refl

    by : (o : Option LaidFile) → slice_get scene.store.files (object - 1) ≡ o → seal_in (state_in scene.store) object ≡ None
    by None h =
        ap (λ (x : Option File). option_and_then seal_of (cond (nat_eq object 0) None x))
        (slice_get-map file_in scene.store.files (object - 1) ∙ ap (option_map file_in) h)
        ∙ no_file (nat_eq object 0)
    by (Some file) h =
        ap (option_and_then seal_of) (entry_at (state_in scene.store) object (file_in file) low (slice_get-map file_in scene.store.files (object - 1) ∙ ap (option_map file_in) h))
        ∙ dead_seal file (none_told file (λ head told. none head
        (ap (λ (hs : List (Option Head)). slice_get hs (object - 1)) are
        ∙ slice_get-map (λ (f : LaidFile). head_of f.versions) scene.store.files (object - 1)
        ∙ ap (option_map (λ (f : LaidFile). head_of f.versions)) h ∙ ap (λ (x : Option Head). Some x) told)))
