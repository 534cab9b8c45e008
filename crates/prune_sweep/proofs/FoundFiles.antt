-- Each live file that is found is one that a sweep may begin with, and what the sweep finds is what no kept version has.
use Rattle.std.proofs.Common.{◌≡◌, ◌↔◌, ℕ, zero, suc, ◌+◌, ◌-◌, ◌<◌, ◌≤◌, List, [], ◌∷◌, map, length, take, drop, Option, Some, None, option_map, Ok, MatchOption, refl, sym, ap, ◌∙◌, arith, slice_get}
use Rattle.std.proofs.lemmas.List.{length-map}
use Rattle.std.proofs.lemmas.Option.{slice_get-map}
use Rattle.tree_model.specs.States.{Version, IsRising, IsState}
use Rattle.page_codec.specs.Values.{VersionValue}
use Rattle.page_places.specs.Places.{block_at}
use Rattle.store_model.specs.Laid.{LaidVersion, LaidFile, last_laid}
use Rattle.store_model.specs.Found.{LaidStore, version_in, file_in, state_in, state_of, laid}
use Rattle.store_model.specs.Laws.{pages_of, IsVersionOf}
use Rattle.store_model.specs.Changes.{version_in_block}
use Rattle.store_model.specs.VersionPages.{HasItsPage}
use Rattle.store_model.proofs.Edits.{some_is, none_some, within}
use Rattle.store_model.proofs.Steps.{Content, InRange, in_range}
use Rattle.store_model.proofs.FoundStates.{found_is_state, versions_have_pages, lasts_name_none}
use Rattle.store_changes.specs.Stands.{IsPageOfAny}
use Rattle.store_changes.proofs.Alike.{get_drop}
use Rattle.prune_sweep.specs.Line.{IsPageBefore, IsPageFrom}
use Rattle.prune_sweep.specs.FoundFiles.{IsToBeSwept, FilesMayBeSwept, FreedOfFound}
use Rattle.prune_sweep.proofs.Lines.{prior}
use Rattle.prune_sweep.proofs.StandingFiles.{blocks_of_versions, Standing, InBlock, in_block, block_there, FilesStand, files_stand, page_seen}

-- ---- serials

-- serials that rise by one are as far apart as their places
rising_by : (xs : List ℕ) → IsRising xs → (i d a b : ℕ) → slice_get xs i ≡ Some a → slice_get xs (i + d) ≡ Some b → b ≡ a + d
rising_by xs rising i zero a b at to =
    let same : a ≡ b = some_is (sym at ∙ ap (slice_get xs) (let e : i ≡ i + 0 = omega arith in e) ∙ to) in
    omega (arith, same)
rising_by xs rising i (suc d) a b at to =
    let here : slice_get xs (suc (i + d)) ≡ Some b = ap (slice_get xs) (let e : suc (i + d) ≡ i + suc d = omega arith in e) ∙ to in
    let one : (y : ℕ) × (slice_get xs (i + d) ≡ Some y) = prior xs (i + d) b here in
    let step : b ≡ one.0 + 1 = rising (i + d) one.0 b one.1 (ap (slice_get xs) (let e : (i + d) + 1 ≡ suc (i + d) = omega arith in e) ∙ here) in
    let rest : one.0 ≡ a + d = rising_by xs rising i d a one.0 at one.1 in
    omega (arith, step, rest)

serials_in : LaidFile → List ℕ
serials_in file = map (λ (v : Version). v.serial) (map version_in file.versions)

serial_there : (file : LaidFile) (i : ℕ) (v : LaidVersion) → slice_get file.versions i ≡ Some v → slice_get (serials_in file) i ≡ Some v.serial
unfolding serials_in
serial_there file i v at =
    slice_get-map (λ (x : Version). x.serial) (map version_in file.versions) i
    ∙ ap (option_map (λ (x : Version). x.serial)) (slice_get-map version_in file.versions i ∙ ap (option_map version_in) at)

file_rising : (c : Content) (most : ℕ) (store : LaidStore) (places : List ℕ) → laid c most [] ≡ Ok (store, places)
    → (object : ℕ) (file : LaidFile) → slice_get store.files object ≡ Some file → IsRising (serials_in file)
unfolding serials_in
file_rising c most store places e object file listed =
    let is : IsState (state_in store) = found_is_state c most (state_in store) (ap state_of e) in
    (is.each object (file_in file) (slice_get-map file_in store.files object ∙ ap (option_map file_in) listed)).rising

-- ---- a file that a sweep may begin with

-- a version that none follows is the last one
last_one : (vs : List LaidVersion) (k : ℕ) (v : LaidVersion) → slice_get vs k ≡ Some v → slice_get vs (suc k) ≡ None → last_laid vs ≡ Some v
last_one [] k v is none = none_some is
last_one (x ∷ []) zero v is none = is
last_one (x ∷ []) (suc k) v is none = none_some is
last_one (x ∷ (y ∷ vs)) zero v is none = absurd (let o : Some y ≡ None = none in cc)
last_one (x ∷ (y ∷ vs)) (suc k) v is none =
    let rest : last_laid (y ∷ vs) ≡ Some v = last_one (y ∷ vs) k v is none in
    ap (slice_get (x ∷ (y ∷ vs))) (let e : length (x ∷ (y ∷ vs)) - 1 ≡ suc (length (y ∷ vs) - 1) = omega arith in e) ∙ rest

-- the page of a version that was found
record Told (c : Content) (file : LaidFile) (i : ℕ) (version : VersionValue) : Type 0 where
  laid_as : LaidVersion
  there : slice_get file.versions i ≡ Some laid_as
  serial : version.serial ≡ laid_as.serial
  commit : version.commit ≡ laid_as.commit

pub files_may_be_swept : FilesMayBeSwept
files_may_be_swept = λ c most store places e object file listed upto m goes.
    let stand : FilesStand c store.root.blocks store.files places = files_stand c most store places e in
    let s : Standing c store.root.blocks file.versions places = stand.each object file listed in
    let v : LaidVersion = goes.live.0 in
    let low : InRange store.root.blocks v.block =
    in_range store.root.blocks v.block ((s.placed 0 v goes.live.1).ranged [] v.block ((s.lies 0 v goes.live.1).lie [])) in
    record {
      is = record {
        line = s.line;
        some = (v.block, block_there file.versions 0 v goes.live.1);
        place = place_of file upto m goes;
        serials = λ i root version at le holds. serial_of c most store places e object file listed upto m goes i root version at le holds;
      };
      linked = λ i root version at below _ holds. link_of c most store places e object file listed upto m goes i root version at below holds;
      first = v.block;
      begins = block_there file.versions 0 v goes.live.1;
      entry = stand.firsts object file v listed goes.live.1;
      above = low.0;
      below = low.1;
    }
  where
    size : (file : LaidFile) → length (blocks_of_versions file.versions) ≡ length file.versions
    size file = length-map file.versions (λ (v : LaidVersion). v.block)

    place_of : (file : LaidFile) (upto : Option ℕ) (m : ℕ) → IsToBeSwept file upto m
        → MatchOption upto (m ≡ length (blocks_of_versions file.versions)) (λ _. m < length (blocks_of_versions file.versions))
    place_of file None m goes = goes.place ∙ sym (size file)
    place_of file (Some serial) m goes =
        let low : m < length file.versions = within file.versions m goes.place.0 goes.place.1 in
        let same : length (blocks_of_versions file.versions) ≡ length file.versions = size file in
        omega (arith, low, same)

    told_of : (c : Content) (most : ℕ) (store : LaidStore) (places : List ℕ) → laid c most [] ≡ Ok (store, places)
        → (object : ℕ) (file : LaidFile) → slice_get store.files object ≡ Some file
        → (i root : ℕ) (version : VersionValue) → slice_get (blocks_of_versions file.versions) i ≡ Some root → version_in_block c root ≡ Some version
        → Told c file i version
    told_of c most store places e object file listed i root version at holds =
        let b : InBlock file.versions i root = in_block file.versions i root at in
        let is : IsVersionOf store b.version = record { object = object; file = file; place = i; listed = listed; kept = b.listed } in
        let h : HasItsPage c (suc object) b.version = versions_have_pages c most store places e b.version is in
        let same : h.page ≡ version = some_is (sym h.held ∙ ap (version_in_block c) b.is ∙ holds) in
        record {
          laid_as = b.version;
          there = b.listed;
          serial = ap (λ (v : VersionValue). v.serial) (sym same) ∙ h.serial;
          commit = ap (λ (v : VersionValue). v.commit) (sym same) ∙ h.commit;
        }

    serial_of : (c : Content) (most : ℕ) (store : LaidStore) (places : List ℕ) → laid c most [] ≡ Ok (store, places)
        → (object : ℕ) (file : LaidFile) → slice_get store.files object ≡ Some file → (upto : Option ℕ) (m : ℕ) → IsToBeSwept file upto m
        → (i root : ℕ) (version : VersionValue) → slice_get (blocks_of_versions file.versions) i ≡ Some root → i ≤ m
        → version_in_block c root ≡ Some version
        → (upto ≡ Some version.serial) ↔ (i ≡ m)
    serial_of c most store places e object file listed None m goes i root version at le holds =
        let low : i < length (blocks_of_versions file.versions) = within (blocks_of_versions file.versions) i root at in
        let same : length (blocks_of_versions file.versions) ≡ length file.versions = size file in
        let all : m ≡ length file.versions = goes.place in
        (λ h. none_some h, λ h. absurd (omega (arith, h, low, same, all)))
    serial_of c most store places e object file listed (Some serial) m goes i root version at le holds =
        let t : Told c file i version = told_of c most store places e object file listed i root version at holds in
        let rising : IsRising (serials_in file) = file_rising c most store places e object file listed in
        let here : slice_get (serials_in file) i ≡ Some t.laid_as.serial = serial_there file i t.laid_as t.there in
        let last : slice_get (serials_in file) m ≡ Some goes.place.0.serial = serial_there file m goes.place.0 goes.place.1 in
        let far : goes.place.0.serial ≡ t.laid_as.serial + (m - i) =
        rising_by (serials_in file) rising i (m - i) t.laid_as.serial goes.place.0.serial here
        (ap (slice_get (serials_in file)) (omega (arith, le)) ∙ last) in
        let named : goes.place.0.serial ≡ serial = goes.place.2 in
        let told : version.serial ≡ t.laid_as.serial = t.serial in (
          λ h. let same : serial ≡ version.serial = some_is h in omega (arith, same, told, named, far, le),
          λ h. ap Some (let same : serial ≡ version.serial = omega (arith, h, told, named, far) in same),
        )

    link_of : (c : Content) (most : ℕ) (store : LaidStore) (places : List ℕ) → laid c most [] ≡ Ok (store, places)
        → (object : ℕ) (file : LaidFile) → slice_get store.files object ≡ Some file → (upto : Option ℕ) (m : ℕ) → IsToBeSwept file upto m
        → (i root : ℕ) (version : VersionValue) → slice_get (blocks_of_versions file.versions) i ≡ Some root → i < m
        → version_in_block c root ≡ Some version
        → version.commit ≡ slice_get (blocks_of_versions file.versions) (suc i)
    link_of c most store places e object file listed upto m goes i root version at low holds = by (slice_get file.versions (suc i)) refl
      where
        t : Told c file i version
        t = told_of c most store places e object file listed i root version at holds

        after : slice_get (blocks_of_versions file.versions) (suc i) ≡ option_map (λ (v : LaidVersion). v.block) (slice_get file.versions (suc i))
        after = slice_get-map (λ (v : LaidVersion). v.block) file.versions (suc i)

        by : (o : Option LaidVersion) → slice_get file.versions (suc i) ≡ o → version.commit ≡ slice_get (blocks_of_versions file.versions) (suc i)
        by None is =
            t.commit
            ∙ lasts_name_none c most store places e object file t.laid_as listed (last_one file.versions i t.laid_as t.there is)
            ∙ sym (after ∙ ap (option_map (λ (v : LaidVersion). v.block)) is)
        by (Some next) is =
            let s : Standing c store.root.blocks file.versions places = (files_stand c most store places e).each object file listed in
            t.commit
            ∙ s.links i t.laid_as next t.there is (goes.linked i t.laid_as low (within file.versions (suc i) next is) t.there)
            ∙ sym (after ∙ ap (option_map (λ (v : LaidVersion). v.block)) is)

-- ---- what is freed

take_there : {X : Type 0} (m i : ℕ) (xs : List X) (x : X) → i < m → slice_get xs i ≡ Some x → slice_get (take m xs) i ≡ Some x
take_there m i [] x low at = none_some at
take_there zero i (y ∷ xs) x low at = absurd (omega (arith, low))
take_there (suc m) zero (y ∷ xs) x low at = at
take_there (suc m) (suc i) (y ∷ xs) x low at = take_there m i xs x (omega (arith, low)) at

take_back : {X : Type 0} (m i : ℕ) (xs : List X) (x : X) → slice_get (take m xs) i ≡ Some x → (i < m) × (slice_get xs i ≡ Some x)
take_back zero i xs x at = none_some at
take_back (suc m) i [] x at = none_some at
take_back (suc m) zero (y ∷ xs) x at = (omega arith, at)
take_back (suc m) (suc i) (y ∷ xs) x at =
    let r : (i < m) × (slice_get xs i ≡ Some x) = take_back m i xs x at in
    (let low : i < m = r.0 in omega (arith, low), r.1)

module _ (c : Content) (count : ℕ) (vs : List LaidVersion) (seen : List ℕ) (s : Standing c count vs seen) where
  before_any : (m n : ℕ) → IsPageBefore (pages_of c) (blocks_of_versions vs) m n → IsPageOfAny (take m vs) n
  before_any m n h =
      let b : InBlock vs h.0 h.1 = in_block vs h.0 h.1 h.3 in (
        h.0,
        b.version,
        take_there m h.0 vs b.version h.2 b.listed,
        (h.4.0, (s.lies h.0 b.version b.listed).lie h.4.0 ∙ ap (λ r. block_at (pages_of c) r h.4.0) b.is ∙ h.4.1),
      )

  any_before : (m n : ℕ) → IsPageOfAny (take m vs) n → IsPageBefore (pages_of c) (blocks_of_versions vs) m n
  any_before m n h =
      let t : (h.0 < m) × (slice_get vs h.0 ≡ Some h.1) = take_back m h.0 vs h.1 h.2 in
      (h.0, h.1.block, t.0, block_there vs h.0 h.1 t.1, (h.3.0, sym ((s.lies h.0 h.1 t.1).lie h.3.0) ∙ h.3.1))

  from_any : (m n : ℕ) → IsPageFrom (pages_of c) (blocks_of_versions vs) m n → IsPageOfAny (drop m vs) n
  from_any m n h =
      let low : m ≤ h.0 = h.2 in
      let b : InBlock vs h.0 h.1 = in_block vs h.0 h.1 h.3 in (
        h.0 - m,
        b.version,
        get_drop m (h.0 - m) vs ∙ ap (slice_get vs) (omega (arith, low)) ∙ b.listed,
        (h.4.0, (s.lies h.0 b.version b.listed).lie h.4.0 ∙ ap (λ r. block_at (pages_of c) r h.4.0) b.is ∙ h.4.1),
      )

  any_from : (m n : ℕ) → IsPageOfAny (drop m vs) n → IsPageFrom (pages_of c) (blocks_of_versions vs) m n
  any_from m n h =
      let at : slice_get vs (m + h.0) ≡ Some h.1 = sym (get_drop m h.0 vs) ∙ h.2 in
      (m + h.0, h.1.block, omega arith, block_there vs (m + h.0) h.1 at, (h.3.0, sym ((s.lies (m + h.0) h.1 at).lie h.3.0) ∙ h.3.1))

pub freed_of_found : FreedOfFound
freed_of_found c most store places e object file listed m n =
    let s : Standing c store.root.blocks file.versions places = (files_stand c most store places e).each object file listed in (
      (
        λ f. (before_any c store.root.blocks file.versions places s m n f.0, λ k. f.1 (any_from c store.root.blocks file.versions places s m n k)),
        λ f. (any_before c store.root.blocks file.versions places s m n f.0, λ k. f.1 (from_any c store.root.blocks file.versions places s m n k)),
      ),
      λ f. page_seen c store.root.blocks file.versions places s m n f.0,
    )
