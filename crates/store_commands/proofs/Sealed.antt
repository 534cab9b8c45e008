-- The seal that a table has for an object is the one of its state.
use Rattle.std.proofs.Common.{◌≡◌, ℕ, ◌-◌, ◌==◌, Bool, true, false, cond, nat_lt, List, [], ◌∷◌, ◌++◌, codes, map, Option, Some, None, option_map, Ok, refl, sym, ap, ◌∙◌, slice_get}
use Rattle.std.specs.FinMap as finmap
use Rattle.std.specs.Option.{is_some, option_and_then}
use Rattle.std.proofs.lemmas.List.{length-map}
use Rattle.std.proofs.lemmas.Option.{slice_get-map}
use Rattle.std.proofs.lemmas.Simd.{map-map}
use Rattle.hex.specs.Hex.{encode_lower}
use Rattle.caps.specs.Grant.{SealValue, capability_of}
use Rattle.caps.specs.Tables.{entry_seal, seal_of, seal_when}
use Rattle.page_codec.specs.Values.{EntryValue, TableValue}
use Rattle.tree_model.specs.States.{State, File, Version}
use Rattle.service_model.specs.Standing.{seal_in, seal_of as file_seal}
use Rattle.store_model.specs.Laid.{LaidFile}
use Rattle.store_model.specs.Found.{LaidStore, file_in, laid, state_in, version_in}
use Rattle.store_model.proofs.Lying.{Each}
use Rattle.store_check.specs.Checked.{LikeTable}
use Rattle.store_commands.specs.Texts.{cap_text, sealed_text}
use Rattle.store_commands.proofs.Numbering.{IsNumbered, files_numbered}

-- the entries of a table have the seals of these files
abbrev pub HasSeals : List EntryValue → List File → Type 0
HasSeals entries files = map entry_seal entries ≡ map file_seal files

seal_at : (entries : List EntryValue) (files : List File) (k : ℕ) → HasSeals entries files
    → option_and_then entry_seal (slice_get entries k) ≡ option_and_then file_seal (slice_get files k)
seal_at entries files k same =
    flat_entry (slice_get entries k) ∙ ap flat (sym (slice_get-map entry_seal entries k) ∙ ap (λ (seals : List (Option SealValue)). slice_get seals k) same ∙ slice_get-map file_seal files k)
    ∙ sym (flat_file (slice_get files k))
  where
    flat : Option (Option SealValue) → Option SealValue
    flat None = None
    flat (Some seal) = seal

    flat_entry : (o : Option EntryValue) → option_and_then entry_seal o ≡ flat (option_map entry_seal o)
    flat_entry None = refl
    flat_entry (Some entry) = refl

    flat_file : (o : Option File) → option_and_then file_seal o ≡ flat (option_map file_seal o)
    flat_file None = refl
    flat_file (Some file) = refl

pub seals_same : (table : TableValue) (state : State) (object : ℕ) → HasSeals table.entries state.files → seal_of table object ≡ seal_in state object
seals_same table state object same = of (object == 0)
  where
    of : (b : Bool) → cond b None (option_and_then entry_seal (slice_get table.entries (object - 1))) ≡ option_and_then file_seal (cond b None (slice_get state.files (object - 1)))
    of true = refl
    of false = seal_at table.entries state.files (object - 1) same

pub text_sealed : (table : TableValue) (state : State) (object rights : ℕ) → HasSeals table.entries state.files
    → cap_text object rights state ≡ sealed_text object rights (seal_of table object)
text_sealed table state object rights same = ap (sealed_text object rights) (sym (seals_same table state object same))

-- ---- the state that is found

when_is : (first : Option ℕ) (entry : EntryValue)
    → seal_when first entry ≡ cond (is_some first) (Some (let s : SealValue = record { secret = entry.secret; generation = entry.generation } in s)) None
when_is None entry = refl
when_is (Some block) entry = refl

file_sealed : (file : LaidFile) → IsNumbered file → entry_seal file.entry ≡ file_seal (file_in file)
file_sealed file numbered =
    let seal : SealValue = record { secret = file.entry.secret; generation = file.entry.generation } in
    when_is file.entry.first file.entry ∙ ap (λ b. cond b (Some seal) None) (numbered.live ∙ ap (nat_lt 0) (sym (length-map file.versions version_in)))

files_sealed : (files : List LaidFile) → Each IsNumbered files → map (λ (file : LaidFile). entry_seal file.entry) files ≡ map (λ (file : LaidFile). file_seal (file_in file)) files
files_sealed [] each = refl
files_sealed (file ∷ others) each = λ i. file_sealed file each.0 i ∷ files_sealed others each.1 i

pub found_seals : (content : ℕ → Option (List ℕ)) (most : ℕ) (store : LaidStore) (places : List ℕ) (table : TableValue) → laid content most [] ≡ Ok (store, places) → LikeTable table store
    → HasSeals table.entries (state_in store).files
found_seals content most store places table found like =
    ap (map entry_seal) like.entries ∙ map-map entry_seal (λ (file : LaidFile). file.entry) store.files
    ∙ files_sealed store.files (files_numbered content most store places found) ∙ sym (map-map file_seal file_in store.files)

-- ---- a state that has the seals of any table

abbrev version_none : Version
version_none = record { serial = 0; tree = finmap.empty; fresh = [] }

abbrev versions_when : Option ℕ → List Version
versions_when None = []
versions_when (Some block) = version_none ∷ []

abbrev file_for : EntryValue → File
file_for entry = record { generation = entry.generation; secret = entry.secret; versions = versions_when entry.first }

abbrev pub sealed_state : TableValue → State
sealed_state table = record { format = table.format; blocks = table.blocks; key = table.key; files = map file_for table.entries }

for_sealed : (entry : EntryValue) → entry_seal entry ≡ file_seal (file_for entry)
for_sealed entry = of entry.first
  where
    of : (first : Option ℕ) → seal_when first entry ≡ file_seal (record { generation = entry.generation; secret = entry.secret; versions = versions_when first })
    of None = refl
    of (Some block) = refl

pub shown_seals : (table : TableValue) → HasSeals table.entries (sealed_state table).files
shown_seals table = (λ i. map (λ entry. for_sealed entry i) table.entries) ∙ sym (map-map file_seal file_for table.entries)

-- the line of a capability that was minted
pub minted_text : (o : Option SealValue) (object rights : ℕ) (cap : List ℕ) → option_map (λ seal. capability_of seal object rights) o ≡ Some cap
    → sealed_text object rights o ≡ codes "cap " ++ (encode_lower cap ++ 10 ∷ [])
minted_text None object rights cap is = absurd cc
minted_text (Some seal) object rights cap is =
    let same : capability_of seal object rights ≡ cap = cc in
    ap (λ (bytes : List ℕ). codes "cap " ++ (encode_lower bytes ++ 10 ∷ [])) same
