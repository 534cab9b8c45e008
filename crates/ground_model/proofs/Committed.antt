-- The store after a commit of one file: which versions and which links it has.
use Rattle.std.proofs.Common.{◌≡◌, ◌≢◌, ◌⊎◌, inl, inr, ℕ, suc, ◌+◌, ◌-◌, ◌<◌, ◌==◌, true, List, [], ◌∷◌, ◌++◌, length, Some, None, Result, Ok, refl, sym, ap, ◌∙◌, subst, arith, slice_get, length-append, eqb-true}
use Rattle.page_codec.specs.Values.{MemberValue}
use Rattle.store_changes.specs.Writes.{Content}
use Rattle.store_model.specs.Changes.{IsLinked, NextVersion, changed_at, committed, file_committed, files_committed}
use Rattle.store_model.specs.Found.{LaidStore}
use Rattle.store_model.specs.Laid.{LaidFile, LaidVersion, last_laid}
use Rattle.store_model.specs.Members.{Linked, Top, members_linked, names_none}
use Rattle.store_model.specs.Walk.{Blocks, Refused, done}
use Rattle.store_model.proofs.Edits.{some_is, changed_other, changed_same, changed_length, get_past, get_more, get_append, last_past, within}
use Rattle.ground_model.specs.Scenes.{HasVersion}

same_or_not : (m n : ℕ) → (m ≡ n) ⊎ (m ≢ n)
same_or_not m n = grind arith

-- ---- no members

no_members : (ms : List MemberValue) → (length ms == 0) ≡ true → ms ≡ []
no_members [] e = refl
no_members (m ∷ ms) e = absurd (let none : length (m ∷ ms) ≡ 0 = eqb-true (length (m ∷ ms)) 0 e in omega (arith, none))

-- what was linked, and the places then
pub record Ended (files : List LaidFile) (own : List ℕ) (linked : Linked) (after : List ℕ) : Type 0 where
  pub files_are : linked.files ≡ files
  pub places_are : after ≡ own

ended : (blocks : Blocks) (top : Top) (from linked : Linked) (own after : List ℕ) → members_linked blocks top [] from own ≡ Ok (linked, after) → Ended from.files own linked after
unfolding members_linked done
ended blocks top from linked own after e = record { files_are = sym (ap files_of e); places_are = sym (ap places_of e) }
  where
    files_of : Result (Linked × List ℕ) Refused → List LaidFile
    files_of (Ok x) = x.0.files
    files_of _ = linked.files

    places_of : Result (Linked × List ℕ) Refused → List ℕ
    places_of (Ok x) = x.1
    places_of _ = after

module _ (c : Content) (store : LaidStore) (places : List ℕ) (next : NextVersion c store places) (none : names_none next.version ≡ true) where
  pub alone : Ended (changed_at (file_committed next.block next.version) next.object store.files) next.own next.linked next.after
  alone =
      let F : List MemberValue → Type 0 = λ ms.
      members_linked (record { content = c; count = store.root.blocks }) (record { object = suc next.object; version = next.version })
      ms (files_committed next.object next.block next.version store) next.own ≡ Ok (next.linked, next.after) in
      ended (record { content = c; count = store.root.blocks }) (record { object = suc next.object; version = next.version })
      (files_committed next.object next.block next.version store) next.linked next.own next.after (subst F (no_members next.version.members none) next.members)

-- ---- versions

-- the store with one more version of an object, which counts from 0
abbrev pub one_more : LaidStore → ℕ → ℕ → LaidVersion → LaidStore
one_more store object block version = record store { files = changed_at (file_committed block version) object store.files }

-- a version that was there before the commit, but for its commit reference
pub record WasThere (store : LaidStore) (object place : ℕ) (version : LaidVersion) : Type 0 where
  pub was : LaidVersion
  pub has : HasVersion store object was
  pub place_is : has.place ≡ place
  pub serial : version.serial ≡ was.serial
  pub nodes : version.nodes ≡ was.nodes

-- the new version, at the end of its file
pub record IsNew (object o : ℕ) (next version : LaidVersion) : Type 0 where
  pub of_object : o ≡ suc object
  pub is : version ≡ next

-- two versions of a file, one after the other, that were there before the commit, but for a commit reference
pub record WereThere (file : LaidFile) (place : ℕ) (before version : LaidVersion) : Type 0 where
  pub first : LaidVersion
  pub second : LaidVersion
  pub at_first : slice_get file.versions place ≡ Some first
  pub at_second : slice_get file.versions (suc place) ≡ Some second
  pub first_block : before.block ≡ first.block
  pub second_block : version.block ≡ second.block
  pub serial : version.serial ≡ second.serial

module _ (store : LaidStore) (object block : ℕ) (next : LaidVersion) (file : LaidFile) (base : LaidVersion) (listed : slice_get store.files object ≡ Some file) (last : last_laid file.versions ≡ Some base) where
  pub now_listed : slice_get (changed_at (file_committed block next) object store.files) object ≡ Some (file_committed block next file)
  now_listed = changed_same (file_committed block next) object store.files file listed

  abbrev olds : List LaidVersion
  olds = changed_at (committed block) (length file.versions - 1) file.versions

  -- the place of a version of the file that was there
  old_place : (place : ℕ) (v : LaidVersion) → slice_get olds place ≡ Some v → (was : LaidVersion) × (slice_get file.versions place ≡ Some was) × (v.serial ≡ was.serial) × (v.nodes ≡ was.nodes) × (v.block ≡ was.block)
  old_place place v at = by (same_or_not place (length file.versions - 1))
    where
      by : (place ≡ length file.versions - 1) ⊎ (place ≢ length file.versions - 1) → (was : LaidVersion) × (slice_get file.versions place ≡ Some was) × (v.serial ≡ was.serial) × (v.nodes ≡ was.nodes) × (v.block ≡ was.block)
      by (inl e) =
          let here : slice_get file.versions place ≡ Some base = ap (slice_get file.versions) e ∙ last in
          let then_is : Some (committed block base) ≡ Some v =
          sym (changed_same (committed block) (length file.versions - 1) file.versions base last) ∙ ap (slice_get olds) (sym e) ∙ at in
          let is : committed block base ≡ v = some_is then_is in
          (base, here, ap (λ (x : LaidVersion). x.serial) (sym is), ap (λ (x : LaidVersion). x.nodes) (sym is), ap (λ (x : LaidVersion). x.block) (sym is))
      by (inr ne) = (v, sym (changed_other (committed block) (length file.versions - 1) place file.versions ne) ∙ at, refl, refl, refl)

  length_is : length olds ≡ length file.versions
  length_is = changed_length (committed block) (length file.versions - 1) file.versions

  -- each version of the store after the commit is the new one, or was there
  pub new_or_old : (o : ℕ) (v : LaidVersion) (has : HasVersion (record store { files = changed_at (file_committed block next) object store.files }) o v)
      → IsNew object o next v ⊎ WasThere store o has.place v
  new_or_old o v has = by (same_or_not (o - 1) object)
    where
      here : (o - 1 ≡ object) → (f : LaidFile) → has.file ≡ f → f ≡ file_committed block next file → (has.place ≡ length olds) ⊎ (has.place ≢ length olds) → IsNew object o next v ⊎ WasThere store o has.place v
      here e f is now (inl at) =
          let F : LaidFile → Type 0 = λ x. slice_get x.versions has.place ≡ Some v in
          let kept : slice_get (olds ++ next ∷ []) has.place ≡ Some v = subst F (is ∙ now) has.kept in
          inl (record {
            of_object = (let counts = has.counts in omega (arith, counts, e));
            is = sym (some_is (sym (ap (slice_get (olds ++ next ∷ [])) at ∙ get_past olds next) ∙ kept));
          })
      here e f is now (inr ne) =
          let F : LaidFile → Type 0 = λ x. slice_get x.versions has.place ≡ Some v in
          let kept : slice_get (olds ++ next ∷ []) has.place ≡ Some v = subst F (is ∙ now) has.kept in
          let was = old_place has.place v (get_more olds next has.place v kept ne) in
          inr (record {
            was = was.0;
            has = record { file = file; place = has.place; counts = has.counts; listed = ap (slice_get store.files) e ∙ listed; kept = was.1 };
            place_is = refl;
            serial = was.2;
            nodes = was.3;
          })

      by : (o - 1 ≡ object) ⊎ (o - 1 ≢ object) → IsNew object o next v ⊎ WasThere store o has.place v
      by (inl e) =
          let now : Some has.file ≡ Some (file_committed block next file) =
          sym has.listed ∙ ap (slice_get (changed_at (file_committed block next) object store.files)) e ∙ now_listed in
          here e has.file refl (some_is now) (same_or_not has.place (length olds))
      by (inr ne) = inr (record {
        was = v;
        has = record {
          file = has.file;
          place = has.place;
          counts = has.counts;
          listed = sym (changed_other (file_committed block next) object (o - 1) store.files ne) ∙ has.listed;
          kept = has.kept;
        };
        place_is = refl;
        serial = refl;
        nodes = refl;
      })

  -- the second of two versions of the file is the new one, and the first the base; or both were there
  pub next_or_both : (place : ℕ) (before version : LaidVersion) → slice_get (file_committed block next file).versions place ≡ Some before
      → slice_get (file_committed block next file).versions (suc place) ≡ Some version
      → ((version ≡ next) × (before.block ≡ base.block)) ⊎ WereThere file place before version
  next_or_both place before version at after = by (same_or_not (suc place) (length olds))
    where
      by : (suc place ≡ length olds) ⊎ (suc place ≢ length olds) → ((version ≡ next) × (before.block ≡ base.block)) ⊎ WereThere file place before version
      by (inl e) =
          let same : length olds ≡ length file.versions = length_is in
          let here : slice_get olds place ≡ Some before = get_more olds next place before at (λ h. (omega (arith, e, h))) in
          let place_is : place ≡ length file.versions - 1 = omega (arith, e, same) in
          let then_is : Some (committed block base) ≡ Some before =
          sym (changed_same (committed block) (length file.versions - 1) file.versions base last) ∙ ap (slice_get olds) (sym place_is) ∙ here in
          inl (some_is (sym after ∙ ap (slice_get (olds ++ next ∷ [])) e ∙ get_past olds next), ap (λ (v : LaidVersion). v.block) (sym (some_is then_is)))
      by (inr ne) =
          let second_at : slice_get olds (suc place) ≡ Some version = get_more olds next (suc place) version after ne in
          let low : suc place < length olds = within olds (suc place) version second_at in
          let one = old_place place before (get_more olds next place before at (λ h. omega (arith, h, low))) in
          let two = old_place (suc place) version second_at in
          inr (record {
            first = one.0;
            second = two.0;
            at_first = one.1;
            at_second = two.1;
            first_block = one.4;
            second_block = two.4;
            serial = two.2;
          })

  -- ---- links

  -- where every link of the file was set, every link is
  pub still_linked : IsLinked file → IsLinked (file_committed block next file)
  still_linked linked place v w at after = by (same_or_not place (length file.versions - 1))
    where
      short : place < length file.versions
      short =
          let low : suc place < length (olds ++ next ∷ []) = within (olds ++ next ∷ []) (suc place) w after in
          let long : length (olds ++ next ∷ []) ≡ length olds + 1 = length-append olds (next ∷ []) in
          let same : length olds ≡ length file.versions = length_is in
          omega (arith, low, long, same)

      by : (place ≡ length file.versions - 1) ⊎ (place ≢ length file.versions - 1) → v.commit ≢ None
      by (inl e) = λ nil.
          let then_is : slice_get olds place ≡ Some (committed block base) =
          ap (slice_get olds) e ∙ changed_same (committed block) (length file.versions - 1) file.versions base last in
          let is : committed block base ≡ v = some_is (sym (get_append olds (next ∷ []) place (committed block base) then_is) ∙ at) in
          let no : Some block ≡ None = ap (λ (x : LaidVersion). x.commit) is ∙ nil in
          absurd cc
      by (inr ne) =
          let same : length olds ≡ length file.versions = length_is in
          let s = short in
          let here : slice_get olds place ≡ Some v = get_more olds next place v at (λ e. (let n : place ≡ length file.versions = e ∙ same in omega (arith, n, s))) in
          let mine : slice_get file.versions place ≡ Some v = sym (changed_other (committed block) (length file.versions - 1) place file.versions ne) ∙ here in
          let next_one : slice_get olds (suc place) ≡ Some w =
          get_more olds next (suc place) w after (λ e. ne (let n : suc place ≡ length file.versions = e ∙ same in omega (arith, n))) in
          let was = old_place (suc place) w next_one in
          linked place v was.0 mine was.1

  -- the last version of the file is the new one
  pub last_now : last_laid (file_committed block next file).versions ≡ Some next
  last_now = last_past olds next
