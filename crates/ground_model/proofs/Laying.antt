-- A version of a state and the version of the store that lies behind it.
use Rattle.std.proofs.Common.{◌≡◌, ℕ, zero, suc, ◌-◌, ◌≤◌, false, nat_eq, List, [], map, Option, Some, None, Contains, option_map, refl, sym, ap, ◌∙◌, subst, arith, slice_get}
use Rattle.std.specs.Option.{option_map_or}
use Rattle.std.specs.Prelude.{if◌then◌else◌}
use Rattle.std.proofs.lemmas.Bool.Decides.{nat_tests}
use Rattle.std.proofs.lemmas.Option.{slice_get-map}
use Rattle.service_model.specs.Standing.{versions_of}
use Rattle.service_model.proofs.Files.{listed_at}
use Rattle.service_model.proofs.Members.{at_place, from_place, none_in}
use Rattle.store_model.specs.Found.{LaidStore, file_in, state_in, version_in}
use Rattle.store_model.specs.Laid.{LaidVersion}
use Rattle.tree_model.specs.States.{State, File, Version, file_of}
use Rattle.ground_model.specs.Scenes.{HasVersion}

not_zero : (n : ℕ) → nat_eq (suc n) 0 ≡ false
not_zero n = grind (arith, nat_tests)

-- the entry of an object, which counts from 1 here and from 0 in a list
pub entry_at : (state : State) (object : ℕ) (file : File) → 1 ≤ object → slice_get state.files (object - 1) ≡ Some file → file_of state object ≡ Some file
entry_at state zero file low e = absurd (omega (arith, low))
entry_at state (suc n) file low e = ap (λ b. if b then None else slice_get state.files (suc n - 1)) (not_zero n) ∙ e

-- the version of the store behind a version of its state
pub record LaidAs (store : LaidStore) (object : ℕ) (v : Version) : Type 0 where
  pub version : LaidVersion
  pub has : HasVersion store object version
  pub is : version_in version ≡ v

-- an item of a list behind one of its image
pub record Behind {X Y : Type 0} (f : X → Y) (xs : List X) (k : ℕ) (y : Y) : Type 0 where
  pub item : X
  pub at : slice_get xs k ≡ Some item
  pub is : f item ≡ y

pub behind : {X Y : Type 0} (f : X → Y) (xs : List X) (k : ℕ) (y : Y) → slice_get (map f xs) k ≡ Some y → Behind f xs k y
behind {X} {Y} f xs k y e = by (slice_get xs k) refl
  where
    by : (o : Option X) → slice_get xs k ≡ o → Behind f xs k y
    by None h = absurd (none y (sym (slice_get-map f xs k ∙ ap (option_map f) h) ∙ e))
      where
        none : (z : Y) → None ≡ Some z → ⊥
        none z g = cc
    by (Some x) h = record { item = x; at = h; is = some (f x) y (sym (slice_get-map f xs k ∙ ap (option_map f) h) ∙ e) }
      where
        some : (a c : Y) → Some a ≡ Some c → a ≡ c
        some a c g = cc

pub laid_as : (store : LaidStore) (object : ℕ) (v : Version) → Contains (versions_of (state_in store) object) v → LaidAs store object v
laid_as store zero v h = absurd (none_in v h)
laid_as store (suc object) v h = by (file_of (state_in store) (suc object)) refl
  where
    within : (file : File) → file_of (state_in store) (suc object) ≡ Some file → Contains file.versions v → LaidAs store (suc object) v
    within file e c =
        let f : Behind file_in store.files (suc object - 1) file = behind file_in store.files (suc object - 1) file (listed_at (state_in store) (suc object) file e) in
        let F : File → Type 0 = λ x. Contains x.versions v in
        let mine : Contains (file_in f.item).versions v = subst F (sym f.is) c in
        let w : Behind version_in f.item.versions mine.0 v = behind version_in f.item.versions mine.0 v (at_place (file_in f.item).versions v mine) in
        record { version = w.item; has = record { file = f.item; place = mine.0; counts = omega arith; listed = f.at; kept = w.at }; is = w.is }

    by : (o : Option File) → file_of (state_in store) (suc object) ≡ o → LaidAs store (suc object) v
    by None e =
        let F : Option File → Type 0 = λ o. Contains (option_map_or (λ (f : File). f.versions) o []) v in
        absurd (none_in v (subst F e h))
    by (Some file) e =
        let F : Option File → Type 0 = λ o. Contains (option_map_or (λ (f : File). f.versions) o []) v in
        within file e (subst F e h)

-- .. and a version of the state before a version of the store
pub stated : (store : LaidStore) (object : ℕ) (version : LaidVersion) → HasVersion store object version → Contains (versions_of (state_in store) object) (version_in version)
stated store zero version has = absurd (let low = has.counts in omega (arith, low))
stated store (suc object) version has =
    let F : Option File → Type 0 = λ o. Contains (option_map_or (λ (f : File). f.versions) o []) (version_in version) in
    let file : file_of (state_in store) (suc object) ≡ Some (file_in has.file) =
    entry_at (state_in store) (suc object) (file_in has.file) has.counts (slice_get-map file_in store.files (suc object - 1) ∙ ap (option_map file_in) has.listed) in
    subst F (sym file) (from_place (file_in has.file).versions (version_in version) has.place (slice_get-map version_in has.file.versions has.place ∙ ap (option_map version_in) has.kept))
