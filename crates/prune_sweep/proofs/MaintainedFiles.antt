-- A file that may be pruned up to a version, and one that may be destroyed, may be swept so.
use Rattle.std.proofs.Common.{◌≡◌, inl, inr, ℕ, zero, suc, ◌<◌, List, [], ◌∷◌, length, Some, None, Ok, refl, sym, ap, ◌∙◌, arith, slice_get}
use Rattle.store_model.specs.Laid.{LaidVersion, LaidFile}
use Rattle.store_model.specs.Members.{tops_from, tops_linked}
use Rattle.store_model.specs.Found.{LaidStore, laid}
use Rattle.store_model.specs.Changes.{IsLinked}
use Rattle.store_model.proofs.PlaceLists.{IsIn}
use Rattle.store_model.proofs.Steps.{Content, blocks_of}
use Rattle.store_model.proofs.Edits.{none_some}
use Rattle.store_model.proofs.Filing.{FilesAgain, files_again}
use Rattle.store_model.proofs.LastVersions.{chained_next}
use Rattle.store_model.proofs.Stores.{Parts, parts_of, unlinked, store_of}
use Rattle.store_model.proofs.Aside.{objects_in, Step, tops_step}
use Rattle.store_model.proofs.TopsNamed.{unnamed_by}
use Rattle.store_changes.specs.Destroying.{IsUntied}
use Rattle.prune_sweep.specs.FoundFiles.{KeptMayBeSwept, UntiedMayBeSwept}
use Rattle.prune_sweep.proofs.FoundFiles.{files_may_be_swept}

-- before a version of a list there is a first one
first_of : (vs : List LaidVersion) (i : ℕ) (v : LaidVersion) → slice_get vs i ≡ Some v → (first : LaidVersion) × (slice_get vs 0 ≡ Some first)
first_of [] i v at = none_some at
first_of (x ∷ xs) i v at = (x, refl)

pub kept_may_be_swept : KeptMayBeSwept
kept_may_be_swept c most store places e object place kept =
    files_may_be_swept c most store places e object kept.file kept.listed (Some kept.first.serial) place
    (record {
      live = first_of kept.file.versions place kept.first kept.kept;
      place = (kept.first, kept.kept, refl);
      linked = λ i version low _ at. kept.linked i version low at;
    })

-- a file of which no version is a member has all its links set
untied_is_linked : (c : Content) (most : ℕ) (store : LaidStore) (places : List ℕ) → laid c most [] ≡ Ok (store, places)
    → (object : ℕ) (file : LaidFile) → slice_get store.files object ≡ Some file → IsUntied store object file → IsLinked file
untied_is_linked c most store places e object file listed untied place base next before after nil =
    let p : Parts c most store places = parts_of c most store places e in
    let off : IsIn (objects_in (tops_from 1 p.files)) (suc object) → ⊥ = unnamed_by c most store places p (suc object) untied.unnamed in
    let step : Step c c p.root.blocks object (tops_linked (blocks_of c p.root.blocks) (tops_from 1 p.files)) (objects_in (tops_from 1 p.files))
    (unlinked p.files) p.in_files p.linked places =
    tops_step c c p.root.blocks object (tops_from 1 p.files) (unlinked p.files) p.in_files p.linked places (inr (inl off)) p.tops in
    let there : slice_get p.linked.files object ≡ Some file =
    ap (λ (s : LaidStore). slice_get s.files object) {x = store_of p.root p.linked.files} {y = store} (sym p.made) ∙ listed in
    let here : slice_get p.files object ≡ Some file = sym step.kept ∙ there in
    let fa : FilesAgain c c p.root.blocks (suc object) 1 object file p.rows p.in_table p.files p.in_files =
    files_again c c p.root.blocks (suc object) 1 object file p.rows p.in_table p.files p.in_files place base (omega arith) p.chains here before in
    none_some
    (sym nil
    ∙ chained_next fa.head fa.rest place base next fa.chained (ap (λ l. slice_get l place) (sym fa.list) ∙ before)
    (ap (λ l. slice_get l (suc place)) (sym fa.list) ∙ after))

pub untied_may_be_swept : UntiedMayBeSwept
untied_may_be_swept c most store places e object file first listed at untied =
    files_may_be_swept c most store places e object file listed None (length file.versions)
    (record {
      live = (first, at);
      place = refl;
      linked = λ i version low more here nil. absurd (linked i version more here nil);
    })
  where
    linked : (i : ℕ) (version : LaidVersion) → suc i < length file.versions → slice_get file.versions i ≡ Some version → version.commit ≡ None → ⊥
    linked i version more here nil =
        let next : (w : LaidVersion) × (slice_get file.versions (suc i) ≡ Some w) = there file.versions (suc i) more in
        untied_is_linked c most store places e object file listed untied i version next.0 here next.1 nil
      where
        there : (vs : List LaidVersion) (k : ℕ) → k < length vs → (w : LaidVersion) × (slice_get vs k ≡ Some w)
        there [] k low = absurd (omega (arith, low))
        there (x ∷ xs) zero low = (x, refl)
        there (x ∷ xs) (suc k) low = there xs k (omega (arith, low))
