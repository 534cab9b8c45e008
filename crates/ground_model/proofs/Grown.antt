-- A file with one version more, after a commit: which versions it has.
use Rattle.std.proofs.Common.{◌≡◌, ◌≢◌, ◌⊎◌, inl, inr, ℕ, zero, suc, ◌+◌, ◌-◌, ◌<◌, List, [], ◌∷◌, ◌++◌, length, map, Option, Some, None, refl, sym, ap, ◌∙◌, arith, slice_get}
use Rattle.std.proofs.lemmas.List.{map-append}
use Rattle.std.proofs.lemmas.List.Sums.{sum_by_push}
use Rattle.store_check.specs.Files.{first_serial, kept_by, own_pages}
use Rattle.store_model.specs.Changes.{changed_at, committed, file_committed}
use Rattle.store_model.specs.Found.{file_in, version_in}
use Rattle.store_model.specs.Laid.{LaidFile, LaidVersion, last_laid}
use Rattle.store_model.specs.Members.{longer}
use Rattle.store_model.proofs.Edits.{some_is, none_some, changed_other, changed_same, changed_length, get_past, get_more, get_append, last_past, map_changed, within}
use Rattle.tree_model.specs.States.{File, Version}
use Rattle.ground_model.proofs.Heads.{first_same, kept_same}

same_or_not : (m n : ℕ) → (m ≡ n) ⊎ (m ≢ n)
same_or_not m n = grind arith

-- a version that was there before, but for its commit reference
pub record WasAt (file : LaidFile) (place : ℕ) (v : LaidVersion) : Type 0 where
  pub was : LaidVersion
  pub at : slice_get file.versions place ≡ Some was
  pub serial : v.serial ≡ was.serial
  pub nodes : v.nodes ≡ was.nodes
  pub block : v.block ≡ was.block

-- a file of a state with one version more
abbrev pub with_next : Version → File → File
with_next version file = record file { versions = file.versions ++ version ∷ [] }

-- the file has the versions that it had, but for commit references, and one more
pub record IsGrown (file now : LaidFile) (last next : LaidVersion) : Type 0 where
  pub olds : List LaidVersion
  pub are : now.versions ≡ olds ++ next ∷ []
  pub long : length olds ≡ length file.versions
  pub last_is : last_laid file.versions ≡ Some last
  pub were : (place : ℕ) (v : LaidVersion) → slice_get olds place ≡ Some v → WasAt file place v
  pub stated : file_in now ≡ with_next (version_in next) (file_in file)
  pub first : first_serial now.versions ≡ first_serial file.versions
  pub kept : kept_by now.versions ≡ kept_by file.versions + own_pages next

pub got : {X : Type 0} (xs : List X) (k : ℕ) → k < length xs → (x : X) × (slice_get xs k ≡ Some x)
got {X} xs k low = by (slice_get xs k) refl
  where
    none : (ys : List X) (n : ℕ) → n < length ys → slice_get ys n ≡ None → ⊥
    none [] n less e = omega (arith, less)
    none (y ∷ ys) zero less e = none_some (sym e)
    none (y ∷ ys) (suc n) less e = none ys n (omega (arith, less)) e

    by : (o : Option X) → slice_get xs k ≡ o → (x : X) × (slice_get xs k ≡ Some x)
    by None e = absurd (none xs k low e)
    by (Some x) e = (x, e)

module _ (file now : LaidFile) (last next : LaidVersion) (g : IsGrown file now last next) where
  -- each of its versions is the new one, or was there
  pub next_or_was : (place : ℕ) (v : LaidVersion) → slice_get now.versions place ≡ Some v → ((v ≡ next) × (place ≡ length file.versions)) ⊎ WasAt file place v
  next_or_was place v at = by (same_or_not place (length g.olds))
    where
      here : slice_get (g.olds ++ next ∷ []) place ≡ Some v
      here = ap (λ (vs : List LaidVersion). slice_get vs place) (sym g.are) ∙ at

      by : (place ≡ length g.olds) ⊎ (place ≢ length g.olds) → ((v ≡ next) × (place ≡ length file.versions)) ⊎ WasAt file place v
      by (inl e) = inl (some_is (sym here ∙ ap (slice_get (g.olds ++ next ∷ [])) e ∙ get_past g.olds next), e ∙ g.long)
      by (inr ne) = inr (g.were place v (get_more g.olds next place v here ne))

  -- each version that was there is there again
  pub still_at : (place : ℕ) (v : LaidVersion) → slice_get file.versions place ≡ Some v
      → (w : LaidVersion) × (slice_get now.versions place ≡ Some w) × (w.serial ≡ v.serial) × (w.nodes ≡ v.nodes) × (w.block ≡ v.block)
  still_at place v at =
      let low : place < length file.versions = within file.versions place v at in
      let long : length g.olds ≡ length file.versions = g.long in
      let x = got g.olds place (omega (arith, low, long)) in
      let was : WasAt file place x.0 = g.were place x.0 x.1 in
      let same : was.was ≡ v = some_is (sym was.at ∙ at) in (
        x.0,
        ap (λ (vs : List LaidVersion). slice_get vs place) g.are ∙ get_append g.olds (next ∷ []) place x.0 x.1,
        was.serial ∙ ap (λ (y : LaidVersion). y.serial) same,
        was.nodes ∙ ap (λ (y : LaidVersion). y.nodes) same,
        was.block ∙ ap (λ (y : LaidVersion). y.block) same,
      )

  -- of two versions of it, one after the other, the second is the new one and the first the last one that was there; or both were there
  pub next_or_were : (place : ℕ) (before version : LaidVersion) → slice_get now.versions place ≡ Some before → slice_get now.versions (suc place) ≡ Some version
      → ((version ≡ next) × (before.block ≡ last.block)) ⊎ (WasAt file place before × WasAt file (suc place) version)
  next_or_were place before version at after = by (next_or_was place before at) (next_or_was (suc place) version after)
    where
      by : ((before ≡ next) × (place ≡ length file.versions)) ⊎ WasAt file place before → ((version ≡ next) × (suc place ≡ length file.versions)) ⊎ WasAt file (suc place) version
          → ((version ≡ next) × (before.block ≡ last.block)) ⊎ (WasAt file place before × WasAt file (suc place) version)
      by (inl (e, p)) (inl (f, q)) = absurd (omega (arith, p, q))
      by (inl (e, p)) (inr w) = absurd (let low : suc place < length file.versions = within file.versions (suc place) w.was w.at in omega (arith, p, low))
      by (inr w) (inl (f, q)) =
          let place_is : place ≡ length file.versions - 1 = omega (arith, q) in
          let same : w.was ≡ last = some_is (sym w.at ∙ ap (slice_get file.versions) place_is ∙ g.last_is) in
          inl (f, w.block ∙ ap (λ (y : LaidVersion). y.block) same)
      by (inr v) (inr w) = inr (v, w)

  -- the new version is its last one
  pub last_then : last_laid now.versions ≡ Some next
  last_then = ap last_laid g.are ∙ last_past g.olds next

-- ---- the files of a commit

files_in : (file : LaidFile) (versions : List LaidVersion) (vs : List Version) → map version_in versions ≡ vs
    → file_in (let f : LaidFile = record file { versions = versions } in f) ≡ (let f : File = record (file_in file) { versions = vs } in f)
files_in file versions vs e = ap (λ (xs : List Version). (let f : File = record (file_in file) { versions = xs } in f)) e

-- the file of a member
pub grown_longer : (file : LaidFile) (last next : LaidVersion) → last_laid file.versions ≡ Some last → IsGrown file (longer next file) last next
grown_longer file last next last_is = record {
  olds = file.versions;
  are = refl;
  long = refl;
  last_is = last_is;
  were = λ place v at. record { was = v; at = at; serial = refl; nodes = refl; block = refl };
  stated = files_in file (file.versions ++ next ∷ []) (map version_in file.versions ++ version_in next ∷ []) (map-append version_in file.versions (next ∷ []));
  first = first_past (length file.versions - 1) file.versions last_is;
  kept = sum_by_push own_pages file.versions next;
}
  where
    first_past : (k : ℕ) (vs : List LaidVersion) → slice_get vs k ≡ Some last → first_serial (vs ++ next ∷ []) ≡ first_serial vs
    first_past k [] h = none_some h
    first_past k (v ∷ vs) h = refl

-- the file of the link that was set
pub grown_committed : (file : LaidFile) (block : ℕ) (last next : LaidVersion) → last_laid file.versions ≡ Some last → IsGrown file (file_committed block next file) last next
grown_committed file block last next last_is = record {
  olds = changed_at (committed block) (length file.versions - 1) file.versions;
  are = refl;
  long = changed_length (committed block) (length file.versions - 1) file.versions;
  last_is = last_is;
  were = λ place v at. were place v at (same_or_not place (length file.versions - 1));
  stated = files_in file (changed_at (committed block) (length file.versions - 1) file.versions ++ next ∷ []) (map version_in file.versions ++ version_in next ∷ [])
      (map-append version_in (changed_at (committed block) (length file.versions - 1) file.versions) (next ∷ [])
      ∙ ap (λ vs. vs ++ version_in next ∷ []) (map_changed version_in (committed block) (length file.versions - 1) file.versions (λ v. refl)));
  first = first_same block (length file.versions - 1) file.versions last next last_is;
  kept = sum_by_push own_pages (changed_at (committed block) (length file.versions - 1) file.versions) next
      ∙ ap (λ n. n + own_pages next) (kept_same block (length file.versions - 1) file.versions);
}
  where
    were : (place : ℕ) (v : LaidVersion) → slice_get (changed_at (committed block) (length file.versions - 1) file.versions) place ≡ Some v
        → (place ≡ length file.versions - 1) ⊎ (place ≢ length file.versions - 1) → WasAt file place v
    were place v at (inl e) =
        let here : slice_get file.versions place ≡ Some last = ap (slice_get file.versions) e ∙ last_is in
        let is : committed block last ≡ v =
        some_is (sym (changed_same (committed block) (length file.versions - 1) file.versions last last_is)
        ∙ ap (slice_get (changed_at (committed block) (length file.versions - 1) file.versions)) (sym e) ∙ at) in
        record {
          was = last;
          at = here;
          serial = ap (λ (x : LaidVersion). x.serial) (sym is);
          nodes = ap (λ (x : LaidVersion). x.nodes) (sym is);
          block = ap (λ (x : LaidVersion). x.block) (sym is);
        }
    were place v at (inr ne) = record {
      was = v;
      at = sym (changed_other (committed block) (length file.versions - 1) place file.versions ne) ∙ at;
      serial = refl;
      nodes = refl;
      block = refl;
    }
