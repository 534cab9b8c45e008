-- Which versions name members after a commit of one file: those that did before.
use Rattle.std.proofs.Common.{◌≡◌, ◌≢◌, ◌⊎◌, inl, inr, ℕ, true, Some, refl, sym, ap, ◌∙◌, slice_get, true≢false}
use Rattle.std.proofs.lemmas.Bool.{cases_eq}
use Rattle.store_model.specs.Changes.{IsTop, changed_at, file_committed}
use Rattle.store_model.specs.Found.{LaidStore}
use Rattle.store_model.specs.Laid.{LaidFile, LaidVersion, last_laid}
use Rattle.store_model.specs.Members.{names_none}
use Rattle.store_model.proofs.Edits.{changed_other, some_is}
use Rattle.ground_model.proofs.Committed.{last_now, now_listed}

module _ (store : LaidStore) (object block : ℕ) (next : LaidVersion) (file : LaidFile) (base : LaidVersion) (listed : slice_get store.files object ≡ Some file) (last : last_laid file.versions ≡ Some base)
    (none : names_none next ≡ true) where
  pub tops_were : (v : LaidVersion) (t : IsTop (record store { files = changed_at (file_committed block next) object store.files }) v) → (was : IsTop store v) × (was.object ≡ t.object)
  tops_were v t = by (cases_eq t.object object)
    where
      by : (t.object ≡ object) ⊎ (t.object ≢ object) → (was : IsTop store v) × (was.object ≡ t.object)
      by (inl e) =
          let is : t.file ≡ file_committed block next file =
          some_is (sym t.listed ∙ ap (slice_get (changed_at (file_committed block next) object store.files)) e ∙ now_listed store object block next file base listed last) in
          let newest : v ≡ next = some_is (sym t.last ∙ ap (λ (f : LaidFile). last_laid f.versions) is ∙ last_now store object block next file base listed last) in
          absurd (true≢false (sym none ∙ ap names_none (sym newest) ∙ t.names))
      by (inr ne) = (
        record {
          object = t.object;
          file = t.file;
          listed = sym (changed_other (file_committed block next) object t.object store.files ne) ∙ t.listed;
          last = t.last;
          names = t.names;
        },
        refl,
      )
