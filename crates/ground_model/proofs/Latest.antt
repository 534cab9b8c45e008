-- The last version of a file: in the store, and in the state; and one version more.
use Rattle.std.proofs.Common.{◌≡◌, ℕ, zero, suc, ◌-◌, ◌≤◌, List, [], ◌∷◌, ◌++◌, length, map, Option, Some, Contains, refl, sym, ap, ◌∙◌, arith, slice_get}
use Rattle.std.specs.Prelude.{slice_set, option_to_list}
use Rattle.std.specs.FinMap as finmap
use Rattle.std.specs.Option.{option_map_or, option_and_then}
use Rattle.std.proofs.lemmas.List.{length-map}
use Rattle.std.proofs.lemmas.Option.{slice_get-map}
use Rattle.std.specs.Prelude.{option_map}
use Rattle.service_model.specs.Entries.{committed_in, next_version, with_file, with_next}
use Rattle.service_model.specs.Standing.{Work, serial_of, last_tree, versions_of}
use Rattle.service_model.proofs.Versions.{IsLiveAt, live_at, live_serial, not_later, serial_at}
use Rattle.store_model.specs.Changes.{changed_at, with_version}
use Rattle.store_model.specs.Found.{LaidStore, file_in, state_in, version_in}
use Rattle.store_model.specs.Laid.{LaidVersion, last_laid}
use Rattle.store_model.proofs.Edits.{some_is}
use Rattle.tree_model.specs.States.{State, File, Version, IsState, file_of, last_version}
use Rattle.ground_model.specs.Scenes.{HasVersion}
use Rattle.ground_model.proofs.Laying.{entry_at, stated}

module _ (store : LaidStore) (object : ℕ) (v : LaidVersion) (has : HasVersion store object v) where
  pub entry_is : file_of (state_in store) object ≡ Some (file_in has.file)
  entry_is = entry_at (state_in store) object (file_in has.file) has.counts (slice_get-map file_in store.files (object - 1) ∙ ap (option_map file_in) has.listed)

  -- no version is later than the last one
  pub serial_low : IsState (state_in store) → v.serial ≤ serial_of (state_in store) object
  serial_low sound =
      let c : Contains (versions_of (state_in store) object) (version_in v) = stated store object v has in
      not_later (state_in store) object (live_at (state_in store) object (version_in v) sound c) (version_in v) c

  -- the version with the last serial is the last one
  pub last_is : IsState (state_in store) → v.serial ≡ serial_of (state_in store) object → last_laid has.file.versions ≡ Some v
  last_is sound serial =
      let c : Contains (versions_of (state_in store) object) (version_in v) = stated store object v has in
      let live : IsLiveAt (state_in store) object = live_at (state_in store) object (version_in v) sound c in
      let file : live.file ≡ file_in has.file = some_is (sym live.is ∙ entry_is) in
      let mine : slice_get live.file.versions has.place ≡ Some (version_in v) =
      ap (λ (f : File). slice_get f.versions has.place) file ∙ slice_get-map version_in has.file.versions has.place ∙ ap (option_map version_in) has.kept in
      let one = serial_at (state_in store) object live has.place (version_in v) mine in
      let two = serial_at (state_in store) object live (length live.file.versions - 1) live.last live.last_is in
      let three = live_serial (state_in store) object live in
      let long : length live.file.versions ≡ length has.file.versions = ap (λ (f : File). length f.versions) file ∙ length-map has.file.versions version_in in
      let place : length has.file.versions - 1 ≡ has.place = omega (arith, one, two, three, long, serial) in
      ap (slice_get has.file.versions) place ∙ has.kept

  module _ (last : last_laid has.file.versions ≡ Some v) where
    pub last_version_is : last_version (file_in has.file) ≡ Some (version_in v)
    last_version_is =
        ap (λ n. slice_get (map version_in has.file.versions) (n - 1)) (length-map has.file.versions version_in)
        ∙ slice_get-map version_in has.file.versions (length has.file.versions - 1) ∙ ap (option_map version_in) last

    pub last_tree_is : last_tree (state_in store) object ≡ (version_in v).tree
    last_tree_is =
        ap (λ o. option_map_or (λ (x : Version). x.tree) (option_and_then last_version o) finmap.empty) entry_is
        ∙ ap (λ o. option_map_or (λ (x : Version). x.tree) o finmap.empty) last_version_is

-- ---- one version more

changed_is : {X : Type 0} (f : X → X) (k : ℕ) (xs : List X) (x : X) → slice_get xs k ≡ Some x → changed_at f k xs ≡ slice_set xs k (f x)
changed_is f k [] x h = refl
changed_is {X = X} f zero (y ∷ ys) x h = ap (λ z. f z ∷ ys) (some_is h)
changed_is f (suc k) (y ∷ ys) x h = ap (λ zs. y ∷ zs) (changed_is f k ys x h)

-- a version with these parts
pub same_version : (a b : Version) → a.serial ≡ b.serial → a.tree ≡ b.tree → a.fresh ≡ b.fresh → a ≡ b
same_version a b s t f =
    ap (λ n. (let x : Version = record { serial = n; tree = a.tree; fresh = a.fresh } in x)) s
    ∙ ap (λ y. (let x : Version = record { serial = b.serial; tree = y; fresh = a.fresh } in x)) t
    ∙ ap (λ y. (let x : Version = record { serial = b.serial; tree = b.tree; fresh = y } in x)) f

-- An object counts from 0 in stores and from 1 in journals: what a commit of one file makes of the state is what is found after its link.
pub appended : (state : State) (w : Work) (file : File) (v : Version) → file_of state w.object ≡ Some file → 1 ≤ w.object → slice_get state.files (w.object - 1) ≡ Some file
    → last_version file ≡ Some v → committed_in state (w ∷ []) ≡ with_version (w.object - 1) (next_version w.steps v) state
appended state w file v entry low listed last =
    ap (λ (o : Option File). option_map_or (λ f. with_file state w.object (with_next w.steps f)) o state) entry
    ∙ ap (λ (o : Option Version). files_in (slice_set state.files (w.object - 1) (with_versions file (map (next_version w.steps) (option_to_list o))))) last
    ∙ sym (ap files_in (changed_is (λ f. with_versions f (next_version w.steps v ∷ [])) (w.object - 1) state.files file listed))
  where
    files_in : List File → State
    files_in files = record state { files = files }

    with_versions : File → List Version → File
    with_versions f vs = record f { versions = f.versions ++ vs }
