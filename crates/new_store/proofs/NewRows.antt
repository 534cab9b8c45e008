-- The rows of a new table, and the files that are read from them, in whichever blocks the entries lie.
use Rattle.std.proofs.Common.{◌≡◌, ◌⊎◌, inl, inr, ℕ, zero, suc, ◌+◌, ◌≤◌, ◌<◌, Bool, true, false, cond, nat_le, List, [], ◌∷◌, ◌++◌, map, replicate, length, Some, Ok, refl, sym, ap, subst, ◌∙◌, arith}
use Rattle.std.specs.List.{range_with_len}
use Rattle.std.proofs.lemmas.Bool.{leb-true}
use Rattle.page_codec.specs.Values.{EntryValue}
use Rattle.page_codec.specs.Blank.{no_entry}
use Rattle.page_codec.specs.NewStore.{new_entry, new_version, secret_of}
use Rattle.page_codec.proofs.CauseLaws.{passes_below}
use Rattle.store_model.specs.Walk.{done, if_some}
use Rattle.store_model.specs.Laid.{LaidFile}
use Rattle.store_model.specs.Chains.{chain_at}
use Rattle.store_model.specs.Tables.{Row, rows_in, files_from}
use Rattle.store_model.specs.Changes.{version_in_block}
use Rattle.store_model.proofs.PlaceLists.{IsIn, in_cons}
use Rattle.store_model.proofs.Steps.{Content, blocks_of, went_on}
use Rattle.store_model.proofs.Rewriting.{made_of}
use Rattle.store_model.proofs.NewFiles.{first_read, laid_file}

-- the rows of the objects from one on
abbrev pub AreRows : ℕ → ℕ → ℕ → List Row → Type 0
AreRows files key object [] = Unit {0}
AreRows files key object (row ∷ rows) = (row.entry ≡ new_entry files key object) × AreRows files key (object + 1) rows

pub AreRows-append : (files key object next : ℕ) (xs ys : List Row) → object + length xs ≡ next → AreRows files key object xs → AreRows files key next ys → AreRows files key object (xs ++ ys)
AreRows-append files key object next [] ys e a b = let same : next ≡ object = omega (arith, e) in subst (λ (o : ℕ). AreRows files key o ys) same b
AreRows-append files key object next (x ∷ xs) ys e a b = (a.0, AreRows-append files key (object + 1) next xs ys (omega (arith, e)) a.1 b)

pub AreRows-in : (files key block object n : ℕ) → AreRows files key object (rows_in block (map (new_entry files key) (range_with_len object n)))
AreRows-in files key block object zero = tt
AreRows-in files key block object (suc n) = (refl, AreRows-in files key block (object + 1) n)

pub AreRows-none : (files key block object n : ℕ) → files < object → AreRows files key object (rows_in block (replicate n no_entry))
AreRows-none files key block object zero past = tt
AreRows-none files key block object (suc n) past = (
  ap (λ (t : Bool). cond t (let e : EntryValue = record { first = Some object; generation = 1; secret = secret_of key object 1 } in e) no_entry) (sym (passes_below object files past)),
  AreRows-none files key block (object + 1) n (omega (arith, past)),
)

pub length-rows_in : (block : ℕ) (entries : List EntryValue) → length (rows_in block entries) ≡ length entries
length-rows_in block [] = refl
length-rows_in block (e ∷ es) = ap suc (length-rows_in block es)

-- places that are found: version pages of files before one, and blocks behind those of all files
abbrev pub ArePast : ℕ → ℕ → List ℕ → Type 0
ArePast files object seen = (m : ℕ) → IsIn seen m → (m < object) ⊎ (files < m)

record OneRead (c : Content) (blocks files key object : ℕ) (row : Row) (seen : List ℕ) : Type 0 where
  places : List ℕ
  runs : if_some row.entry.first (chain_at (blocks_of c blocks) object row.block) seen ≡ Ok ((laid_file files key object).versions, places)
  past : ArePast files (object + 1) places

later : (files object : ℕ) (seen : List ℕ) → ArePast files object seen → ArePast files (object + 1) seen
later files object seen past m h = elim (past m h) [ inl low ↦ inl (omega (arith, low)) | inr high ↦ inr high ]

taken : (files object : ℕ) (seen : List ℕ) → ArePast files object seen → ArePast files (object + 1) (object ∷ seen)
taken files object seen past m h =
    elim (in_cons object m seen h) [
      | inl e ↦ inl (omega (arith, e))
      | inr i ↦ later files object seen past m i
    ]

fresh : (files object : ℕ) (seen : List ℕ) → object ≤ files → ArePast files object seen → IsIn seen object → ⊥
fresh files object seen small past h = elim (past object h) [ inl low ↦ omega (arith, low) | inr high ↦ omega (arith, high, small) ]

one_read : (c : Content) (blocks files key object : ℕ) (row : Row) (seen : List ℕ) → files < blocks → 1 ≤ object → ArePast files object seen
    → ((n : ℕ) → 1 ≤ n → n ≤ files → version_in_block c n ≡ Some (new_version n)) → row.entry ≡ new_entry files key object → OneRead c blocks files key object row seen
unfolding if_some done
one_read c blocks files key object row seen room low past firsts entry = of (nat_le object files) refl
  where
    of : (live : Bool) → nat_le object files ≡ live → OneRead c blocks files key object row seen
    of true is =
        let small : object ≤ files = leb-true object files is in
        let high : object < blocks = omega (arith, small, room) in
        record {
          places = object ∷ seen;
          runs =
              ap (λ (e : EntryValue). if_some e.first (chain_at (blocks_of c blocks) object row.block) seen) entry
              ∙ ap (λ (t : Bool). if_some (cond t (let e : EntryValue = record { first = Some object; generation = 1; secret = secret_of key object 1 } in e) no_entry).first (chain_at (blocks_of c blocks) object row.block) seen) is
              ∙ first_read c blocks row.block object seen low high (fresh files object seen small past) (firsts object low small)
              ∙ ap (λ (t : Bool). Ok (cond t (made_of object (new_version object) [] ∷ []) [], object ∷ seen)) (sym is);
          past = taken files object seen past;
        }
    of false is =
        record {
          places = seen;
          runs =
              ap (λ (e : EntryValue). if_some e.first (chain_at (blocks_of c blocks) object row.block) seen) entry
              ∙ ap (λ (t : Bool). if_some (cond t (let e : EntryValue = record { first = Some object; generation = 1; secret = secret_of key object 1 } in e) no_entry).first (chain_at (blocks_of c blocks) object row.block) seen) is
              ∙ ap (λ (t : Bool). Ok (cond t (made_of object (new_version object) [] ∷ []) [], seen)) (sym is);
          past = later files object seen past;
        }

pub record FilesRead (c : Content) (blocks files key object : ℕ) (rows : List Row) (seen : List ℕ) : Type 0 where
  pub places : List ℕ
  pub runs : files_from (blocks_of c blocks) object rows seen ≡ Ok (map (laid_file files key) (range_with_len object (length rows)), places)

pub files_read : (c : Content) (blocks files key : ℕ) (rows : List Row) (object : ℕ) (seen : List ℕ) → files < blocks → 1 ≤ object → ArePast files object seen
    → ((n : ℕ) → 1 ≤ n → n ≤ files → version_in_block c n ≡ Some (new_version n)) → AreRows files key object rows → FilesRead c blocks files key object rows seen
unfolding files_from done
files_read c blocks files key [] object seen room low past firsts are = record { places = seen; runs = refl }
files_read c blocks files key (row ∷ rows) object seen room low past firsts are =
    let one : OneRead c blocks files key object row seen = one_read c blocks files key object row seen room low past firsts are.0 in
    let next_one : suc object ≡ object + 1 = omega arith in
    let rest : FilesRead c blocks files key (object + 1) rows one.places = files_read c blocks files key rows (object + 1) one.places room (omega (arith, low)) one.past firsts are.1 in
    let others : List LaidFile = map (laid_file files key) (range_with_len (object + 1) (length rows)) in
    record {
      places = rest.places;
      runs =
          went_on (if_some row.entry.first (chain_at (blocks_of c blocks) object row.block)) _ seen (laid_file files key object).versions one.places _ one.runs
          (went_on (files_from (blocks_of c blocks) (suc object) rows) _ one.places others rest.places _
          (ap (λ (o : ℕ). files_from (blocks_of c blocks) o rows one.places) next_one ∙ rest.runs)
          (ap (λ (e : EntryValue). Ok ((let f : LaidFile = record { entry = e; versions = (laid_file files key object).versions } in f) ∷ others, rest.places)) are.0));
    }
