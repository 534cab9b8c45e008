-- The versions of a file: their serials rise by one.
use Rattle.std.proofs.Common.{◌≡◌, ◌⊎◌, inl, inr, ℕ, zero, suc, ◌+◌, ◌-◌, ◌<◌, ◌≤◌, List, [], ◌∷◌, map, length, get_or, Option, Some, None, Contains, option_map, option_and_then, refl, sym, ap, ◌∙◌, subst, arith, add-one}
use Rattle.std.specs.Prelude.{slice_get}
use Rattle.std.specs.FinMap as map
use Rattle.std.specs.Option.{option_map_or}
use Rattle.std.proofs.lemmas.Option.{slice_get-map, slice_get_within, slice_get-get_or}
use Rattle.tree_model.specs.States.{State, File, Version, IsState, IsFile, IsRising, file_of, last_version, last_serial}
use Rattle.service_model.specs.Standing.{versions_of, serial_of, last_tree}
use Rattle.service_model.proofs.Members.{at_place, from_place, in_front, none_in}
use Rattle.service_model.proofs.Files.{file_sound}

module _ (vs : List Version) (rising : IsRising (map (λ (v : Version). v.serial) vs)) where
  -- serials count from the first one
  pub counted_from : (first : Version) → slice_get vs 0 ≡ Some first → (k : ℕ) (v : Version) → slice_get vs k ≡ Some v → v.serial ≡ first.serial + k
  counted_from first is zero v at =
      let same : first ≡ v = cc (is, at) in
      let serial : first.serial ≡ v.serial = ap (λ (x : Version). x.serial) same in
      omega (arith, serial)
  counted_from first is (suc k) v at =
      let within : suc k < length vs = slice_get_within vs (suc k) v at in
      let before : Version = get_or vs k v in
      let listed : slice_get vs k ≡ Some (get_or vs k v) = slice_get-get_or vs k v (omega (arith, within)) in
      let earlier = counted_from first is k (get_or vs k v) listed in
      let mine : slice_get (map (λ (x : Version). x.serial) vs) k ≡ Some (get_or vs k v).serial
      = slice_get-map (λ (x : Version). x.serial) vs k ∙ ap (λ o. option_map (λ (x : Version). x.serial) o) listed in
      let next : slice_get (map (λ (x : Version). x.serial) vs) (k + 1) ≡ Some v.serial
      = ap (λ i. slice_get (map (λ (x : Version). x.serial) vs) i) (add-one k)
      ∙ slice_get-map (λ (x : Version). x.serial) vs (suc k) ∙ ap (λ o. option_map (λ (x : Version). x.serial) o) at in
      let one : v.serial ≡ (get_or vs k v).serial + 1 = rising k (get_or vs k v).serial v.serial mine next in
      omega (arith, one, earlier)

-- an object with a version: its file, and the first and the last one
pub record IsLiveAt (state : State) (object : ℕ) : Type 0 where
  pub file : File
  pub is : file_of state object ≡ Some file
  pub sound : IsFile file
  pub first : Version
  pub last : Version
  pub first_is : slice_get file.versions 0 ≡ Some first
  pub last_is : last_version file ≡ Some last

pub versions_here : (state : State) (object : ℕ) (file : File) → file_of state object ≡ Some file → versions_of state object ≡ file.versions
versions_here state object file e = ap (λ o. option_map_or (λ (f : File). f.versions) o []) e

pub live_at : (state : State) (object : ℕ) (v : Version) → IsState state → Contains (versions_of state object) v → IsLiveAt state object
live_at state object v sound h = by (file_of state object) refl
  where
    with_versions : (file : File) → file_of state object ≡ Some file → Contains file.versions v → IsLiveAt state object
    with_versions file e (k, lt, is) = record {
      file = file;
      is = e;
      sound = file_sound state object file sound e;
      first = get_or file.versions 0 v;
      last = get_or file.versions (length file.versions - 1) v;
      first_is = slice_get-get_or file.versions 0 v (omega (arith, lt));
      last_is = slice_get-get_or file.versions (length file.versions - 1) v (omega (arith, lt));
    }

    by : (o : Option File) → file_of state object ≡ o → IsLiveAt state object
    by None e =
        let F : Option File → Type 0 = λ o. Contains (option_map_or (λ (f : File). f.versions) o []) v in
        absurd (none_in v (subst F e h))
    by (Some file) e =
        let F : List Version → Type 0 = λ l. Contains l v in
        with_versions file e (subst F (versions_here state object file e) h)

-- an object without a version has no serial
pub no_versions : (state : State) (object : ℕ) → ((v : Version) → Contains (versions_of state object) v → ⊥) → serial_of state object ≡ 0
no_versions state object none = by (file_of state object) refl
  where
    last_none : (file : File) → file_of state object ≡ Some file → (o : Option Version) → last_version file ≡ o → serial_of state object ≡ 0
    last_none file e None is =
        ap (λ o. option_map_or (λ (n : ℕ). n) (option_and_then last_serial o) 0) e
        ∙ ap (λ o. option_map_or (λ (n : ℕ). n) (option_map (λ (v : Version). v.serial) o) 0) is
    last_none file e (Some v) is =
        let F : List Version → Type 0 = λ l. Contains l v in
        absurd (none v (subst F (sym (versions_here state object file e)) (from_place file.versions v (length file.versions - 1) is)))

    by : (o : Option File) → file_of state object ≡ o → serial_of state object ≡ 0
    by None e = ap (λ o. option_map_or (λ (n : ℕ). n) (option_and_then last_serial o) 0) e
    by (Some file) e = last_none file e (last_version file) refl

-- an object has a version, or none
pub some_or_none : (vs : List Version) → ((v : Version) × Contains vs v) ⊎ ((v : Version) → Contains vs v → ⊥)
some_or_none [] = inr (λ v h. none_in v h)
some_or_none (v ∷ vs) = inl (v, in_front v vs)

module _ (state : State) (object : ℕ) (live : IsLiveAt state object) where
  pub live_versions : versions_of state object ≡ live.file.versions
  live_versions = versions_here state object live.file live.is

  pub live_serial : serial_of state object ≡ live.last.serial
  live_serial =
      ap (λ o. option_map_or (λ (n : ℕ). n) (option_and_then last_serial o) 0) live.is
      ∙ ap (λ o. option_map_or (λ (n : ℕ). n) (option_map (λ (v : Version). v.serial) o) 0) live.last_is

  pub live_tree : last_tree state object ≡ live.last.tree
  live_tree =
      ap (λ o. option_map_or (λ (v : Version). v.tree) (option_and_then last_version o) map.empty) live.is
      ∙ ap (λ o. option_map_or (λ (v : Version). v.tree) o map.empty) live.last_is

  live_rising : IsRising (map (λ (v : Version). v.serial) live.file.versions)
  live_rising = live.sound.rising

  pub place_of : (v : Version) → Contains (versions_of state object) v → (k : ℕ) × (slice_get live.file.versions k ≡ Some v)
  place_of v h =
      let F : List Version → Type 0 = λ l. Contains l v in
      let own : Contains live.file.versions v = subst F live_versions h in
      (own.0, at_place live.file.versions v own)

  pub kept_at : (k : ℕ) (v : Version) → slice_get live.file.versions k ≡ Some v → Contains (versions_of state object) v
  kept_at k v at =
      let F : List Version → Type 0 = λ l. Contains l v in
      subst F (sym live_versions) (from_place live.file.versions v k at)

  pub last_kept : Contains (versions_of state object) live.last
  last_kept = kept_at (length live.file.versions - 1) live.last live.last_is

  pub serial_at : (k : ℕ) (v : Version) → slice_get live.file.versions k ≡ Some v → v.serial ≡ live.first.serial + k
  serial_at k v at = counted_from live.file.versions live_rising live.first live.first_is k v at

  -- no version is later than the last one
  pub not_later : (v : Version) → Contains (versions_of state object) v → v.serial ≤ serial_of state object
  not_later v h =
      let p = place_of v h in
      let within : p.0 < length live.file.versions = slice_get_within live.file.versions p.0 v p.1 in
      let mine = serial_at p.0 v p.1 in
      let lasts = serial_at (length live.file.versions - 1) live.last live.last_is in
      let is = live_serial in
      omega (arith, within, mine, lasts, is)

  -- none is earlier than the first one
  pub not_earlier : (v : Version) → Contains (versions_of state object) v → live.first.serial ≤ v.serial
  not_earlier v h = (let p = place_of v h in let mine = serial_at p.0 v p.1 in omega (arith, mine))

  -- two versions of one serial are one
  pub one_of_serial : (u v : Version) → Contains (versions_of state object) u → Contains (versions_of state object) v → u.serial ≡ v.serial → u ≡ v
  one_of_serial u v hu hv e =
      let p = place_of u hu in
      let q = place_of v hv in
      let mine = serial_at p.0 u p.1 in
      let other = serial_at q.0 v q.1 in
      let same : p.0 ≡ q.0 = omega (arith, mine, other, e) in
      let moved : slice_get live.file.versions q.0 ≡ Some u = ap (λ i. slice_get live.file.versions i) (sym same) ∙ p.1 in
      cc (moved, q.1)

  -- each serial from a version's to the last one is that of a version
  pub of_serial : (u : Version) (n : ℕ) → Contains (versions_of state object) u → u.serial ≤ n → n ≤ serial_of state object
      → (v : Version) × Contains (versions_of state object) v × (v.serial ≡ n)
  of_serial u n h low high =
      let p = place_of u h in
      let mine = serial_at p.0 u p.1 in
      let lasts = serial_at (length live.file.versions - 1) live.last live.last_is in
      let is = live_serial in
      let k : ℕ = n - live.first.serial in
      let some : p.0 < length live.file.versions = slice_get_within live.file.versions p.0 u p.1 in
      let within : n - live.first.serial < length live.file.versions = omega (arith, mine, lasts, is, low, high, some) in
      let listed : slice_get live.file.versions (n - live.first.serial) ≡ Some (get_or live.file.versions (n - live.first.serial) u)
      = slice_get-get_or live.file.versions (n - live.first.serial) u within in
      let at = serial_at (n - live.first.serial) (get_or live.file.versions (n - live.first.serial) u) listed in (
        get_or live.file.versions (n - live.first.serial) u,
        kept_at (n - live.first.serial) (get_or live.file.versions (n - live.first.serial) u) listed,
        omega (arith, at, mine, low),
      )
