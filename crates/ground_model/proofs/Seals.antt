-- The table of a store has the seals of the state that the store stands for.
use Rattle.std.proofs.Common.{◌≡◌, ℕ, zero, suc, ◌-◌, ◌==◌, Bool, true, false, cond, nat_lt, List, [], ◌∷◌, map, Option, Some, None, refl, sym, ap, ◌∙◌, slice_get}
use Rattle.std.specs.Option.{is_some, option_and_then}
use Rattle.std.proofs.lemmas.List.{length-map}
use Rattle.caps.specs.Grant.{SealValue}
use Rattle.caps.specs.Tables.{entry_seal, seal_when}
use Rattle.page_codec.specs.Values.{EntryValue}
use Rattle.service_model.specs.Standing.{seal_of}
use Rattle.store_model.specs.Found.{file_in, version_in}
use Rattle.store_model.specs.Laid.{LaidFile}
use Rattle.store_model.proofs.Lying.{Each}
use Rattle.ground_model.specs.Tables.{TableTells}
use Rattle.ground_model.proofs.LiveFiles.{IsNamed, files_named}

-- an entry has the seal of its file
seal_told : (file : LaidFile) → IsNamed file → entry_seal file.entry ≡ seal_of (file_in file)
seal_told file named =
    named_by file.entry.first
    ∙ ap (λ b. cond b (Some seal) None) (named ∙ ap (nat_lt 0) (sym (length-map file.versions version_in)))
  where
    seal : SealValue
    seal = record { secret = file.entry.secret; generation = file.entry.generation }

    named_by : (first : Option ℕ) → seal_when first file.entry ≡ cond (is_some first) (Some seal) None
    named_by None = refl
    named_by (Some block) = refl

seal_at : (files : List LaidFile) (k : ℕ) → Each IsNamed files
    → option_and_then entry_seal (slice_get (map (λ (f : LaidFile). f.entry) files) k) ≡ option_and_then seal_of (slice_get (map file_in files) k)
seal_at [] k each = refl
seal_at (file ∷ files) k each = by k (λ i. seal_at files i each.1)
  where
    by : (i : ℕ) → ((j : ℕ) → option_and_then entry_seal (slice_get (map (λ (f : LaidFile). f.entry) files) j) ≡ option_and_then seal_of (slice_get (map file_in files) j))
        → option_and_then entry_seal (slice_get (map (λ (f : LaidFile). f.entry) (file ∷ files)) i) ≡ option_and_then seal_of (slice_get (map file_in (file ∷ files)) i)
    by zero rest = seal_told file each.0
    by (suc i) rest = rest i

pub table_tells : TableTells
table_tells content most store places table found like object =
    by (object == 0)
  where
    by : (b : Bool) → cond b None (option_and_then entry_seal (slice_get table.entries (object - 1))) ≡ option_and_then seal_of (cond b None (slice_get (map file_in store.files) (object - 1)))
    by true = refl
    by false =
        ap (λ (es : List EntryValue). option_and_then entry_seal (slice_get es (object - 1))) like.entries
        ∙ seal_at store.files (object - 1) (files_named content most store places found)
