-- The files of a new store are found; and a store without a table is refused.
use Rattle.std.proofs.Common.{◌≡◌, ℕ, zero, suc, ◌+◌, ◌≤◌, ◌<◌, Bool, true, false, cond, nat_le, nat_lt, List, [], ◌∷◌, map, replicate, inl, inr, Option, Some, None, Result, Ok, Err, refl, sym, ap, ◌∙◌, arith, eq-eqb}
use Rattle.std.specs.List.{range_with_len}
use Rattle.std.specs.Option.{option_and_then}
use Rattle.std.proofs.lemmas.Bool.{leb-true, le-leb, lt-ltb}
use Rattle.tree_model.proofs.Paths.{both_true}
use Rattle.tree_model.specs.States.{State, File}
use Rattle.page_codec.specs.declared.why.Why.{Why}
use Rattle.page_codec.specs.declared.why.Why.TheVariants.{Closed}
use Rattle.page_codec.specs.Values.{EntryValue, RootValue}
use Rattle.page_codec.specs.Numbers.{zeros}
use Rattle.page_codec.specs.Blank.{empty_reference, empty_slots, no_entry}
use Rattle.page_codec.specs.TableReading.{root_of}
use Rattle.page_codec.specs.NewStore.{new_version, new_entry, new_entries, new_root, secret_of}
use Rattle.store_model.specs.Walk.{bind, done, refuse, content_at, if_some}
use Rattle.store_model.specs.Laid.{LaidFile}
use Rattle.store_model.specs.Pages.{slot_from, slots_from, pages_below}
use Rattle.store_model.specs.Chains.{version_at, chain_from, chain_at}
use Rattle.store_model.specs.Tables.{rows_in, table_rows, files_from}
use Rattle.store_model.specs.Members.{tops_from, tops_linked}
use Rattle.store_model.specs.Found.{file_in, laid_from, laid, found, state_of}
use Rattle.store_model.specs.Laws.{read_of}
use Rattle.store_model.specs.Changes.{version_in_block}
use Rattle.store_model.specs.NewStores.{IsNewStore, blank_version, new_file, new_state}
use Rattle.store_model.proofs.PlaceLists.{IsIn, in_cons, none_in}
use Rattle.store_model.proofs.Steps.{Content, blocks_of, went_on}
use Rattle.store_model.proofs.Rewriting.{Bytes, bytes_of, made_of, version_made}
use Rattle.store_model.proofs.Chaining.{chain_stops}
use Rattle.store_model.proofs.Stores.{unlinked, store_of, made_again}

-- ---- a first version

-- empty slots name nothing
slots_empty : (c : Content) (count block slot n : ℕ) (path : List ℕ) (depth : ℕ) (seen : List ℕ)
    → slots_from (blocks_of c count) (pages_below (blocks_of c count) None depth) None block path slot (replicate n empty_reference) seen ≡ Ok ([], seen)
unfolding slots_from slot_from bind done
slots_empty c count block slot zero path depth seen = refl
slots_empty c count block slot (suc n) path depth seen =
    went_on (slots_from (blocks_of c count) (pages_below (blocks_of c count) None depth) None block path (suc slot) (replicate n empty_reference))
    (λ rest. done rest) seen [] seen (Ok ([], seen)) (slots_empty c count block (suc slot) n path depth seen) refl

nothing_below : (c : Content) (count block : ℕ) (seen : List ℕ)
    → pages_below (blocks_of c count) None 7 block [] empty_slots seen ≡ Ok ([], seen)
unfolding pages_below empty_slots
nothing_below c count block seen = slots_empty c count block 0 16 [] 6 seen

-- whatever block names it
pub first_read : (c : Content) (count namer object : ℕ) (seen : List ℕ) → 1 ≤ object → object < count → (IsIn seen object → ⊥)
    → version_in_block c object ≡ Some (new_version object)
    → chain_at (blocks_of c count) object namer object seen ≡ Ok (made_of object (new_version object) [] ∷ [], object ∷ seen)
unfolding chain_at
first_read c count namer object seen low high fresh is =
    let b : Bytes (c object) (new_version object) = bytes_of (c object) (new_version object) is in
    went_on (version_at (blocks_of c count) object namer object None) (chain_from (blocks_of c count) object count) seen (made_of object (new_version object) []) (object ∷ seen)
    (Ok (made_of object (new_version object) [] ∷ [], object ∷ seen))
    (version_made c count object namer object None seen (object ∷ seen) b.bytes (new_version object) []
    (both_true (nat_le 1 object) (nat_lt object count) (le-leb 1 object low) (lt-ltb object count high)) fresh b.holds b.reads (eq-eqb object object refl) tt refl
    (nothing_below c count object (object ∷ seen)))
    (chain_stops c count object count (made_of object (new_version object) []) (object ∷ seen) refl)

-- ---- the files

-- a file of a new store as it lies
abbrev pub laid_file : ℕ → ℕ → ℕ → LaidFile
laid_file files key object =
    record { entry = new_entry files key object; versions = cond (nat_le object files) (made_of object (new_version object) [] ∷ []) [] }

record FilesRead (c : Content) (blocks files key object n : ℕ) (seen : List ℕ) : Type 0 where
  places : List ℕ
  runs : files_from (blocks_of c blocks) object (rows_in 0 (map (new_entry files key) (range_with_len object n))) seen
      ≡ Ok (map (laid_file files key) (range_with_len object n), places)

record OneRead (c : Content) (blocks files key object : ℕ) (seen : List ℕ) : Type 0 where
  places : List ℕ
  runs : if_some (new_entry files key object).first (λ block. chain_at (blocks_of c blocks) object 0 block) seen
      ≡ Ok ((laid_file files key object).versions, places)
  below : (m : ℕ) → IsIn places m → m < object + 1

one_read : (c : Content) (blocks files key object : ℕ) (seen : List ℕ) → files < blocks → 1 ≤ object → ((m : ℕ) → IsIn seen m → m < object)
    → ((n : ℕ) → 1 ≤ n → n ≤ files → version_in_block c n ≡ Some (new_version n)) → OneRead c blocks files key object seen
unfolding if_some done
one_read c blocks files key object seen room low past firsts = of (nat_le object files) refl
  where
    of : (live : Bool) → nat_le object files ≡ live → OneRead c blocks files key object seen
    of true is =
        let small : object ≤ files = leb-true object files is in
        let high : object < blocks = omega arith in
        record {
          places = object ∷ seen;
          runs =
              ap (λ (t : Bool). if_some (cond t ((let e : EntryValue = record { first = Some object; generation = 1; secret = secret_of key object 1 } in e)) no_entry).first (λ block. chain_at (blocks_of c blocks) object 0 block) seen) is
              ∙ first_read c blocks 0 object seen low high (λ h. let l : object < object = past object h in omega arith) (firsts object low small)
              ∙ ap (λ (t : Bool). Ok (cond t (made_of object (new_version object) [] ∷ []) [], object ∷ seen)) (sym is);
          below = λ m h. elim (in_cons object m seen h) [ inl e ↦ omega arith | inr i ↦ let l : m < object = past m i in omega arith ];
        }
    of false is =
        record {
          places = seen;
          runs =
              ap (λ (t : Bool). if_some (cond t ((let e : EntryValue = record { first = Some object; generation = 1; secret = secret_of key object 1 } in e)) no_entry).first (λ block. chain_at (blocks_of c blocks) object 0 block) seen) is
              ∙ ap (λ (t : Bool). Ok (cond t (made_of object (new_version object) [] ∷ []) [], seen)) (sym is);
          below = λ m h. let l : m < object = past m h in omega arith;
        }

files_read : (c : Content) (blocks files key object n : ℕ) (seen : List ℕ) → files < blocks → 1 ≤ object → ((m : ℕ) → IsIn seen m → m < object)
    → ((n : ℕ) → 1 ≤ n → n ≤ files → version_in_block c n ≡ Some (new_version n)) → FilesRead c blocks files key object n seen
unfolding files_from done
files_read c blocks files key object zero seen room low past firsts = record { places = seen; runs = refl }
files_read c blocks files key object (suc n) seen room low past firsts =
    let one : OneRead c blocks files key object seen = one_read c blocks files key object seen room low past firsts in
    let next_one : suc object ≡ object + 1 = omega arith in
    let rest : FilesRead c blocks files key (object + 1) n one.places = files_read c blocks files key (object + 1) n one.places room (omega arith) one.below firsts in
    record {
      places = rest.places;
      runs =
          went_on (if_some (new_entry files key object).first (λ block. chain_at (blocks_of c blocks) object 0 block)) _ seen (laid_file files key object).versions one.places _ one.runs
          (went_on (files_from (blocks_of c blocks) (suc object) (rows_in 0 (map (new_entry files key) (range_with_len (object + 1) n)))) _ one.places
          (map (laid_file files key) (range_with_len (object + 1) n)) rest.places _
          (ap (λ o. files_from (blocks_of c blocks) o (rows_in 0 (map (new_entry files key) (range_with_len (object + 1) n))) one.places) next_one ∙ rest.runs) refl);
    }

-- ---- the store

-- none of them is a top
pub no_tops : (files key first object n : ℕ) → tops_from first (map (laid_file files key) (range_with_len object n)) ≡ []
no_tops files key first object zero = refl
no_tops files key first object (suc n) = of (nat_le object files) (no_tops files key (suc first) (object + 1) n)
  where
    of : (live : Bool) → tops_from (suc first) (map (laid_file files key) (range_with_len (object + 1) n)) ≡ []
        → tops_from first ((let x : LaidFile = record { entry = new_entry files key object; versions = cond live (made_of object (new_version object) [] ∷ []) [] } in x) ∷ map (laid_file files key) (range_with_len (object + 1) n)) ≡ []
    of true rest = rest
    of false rest = rest

-- what is found of them
pub found_files : (files key object n : ℕ) → map file_in (map (laid_file files key) (range_with_len object n)) ≡ map (new_file files key) (range_with_len object n)
found_files files key object zero = refl
found_files files key object (suc n) =
    of (nat_le object files) (found_files files key (object + 1) n)
  where
    of : (live : Bool) → map file_in (map (laid_file files key) (range_with_len (object + 1) n)) ≡ map (new_file files key) (range_with_len (object + 1) n)
        → file_in (record { entry = cond live (record { first = Some object; generation = 1; secret = secret_of key object 1 }) no_entry; versions = cond live (made_of object (new_version object) [] ∷ []) [] })
        ∷ map file_in (map (laid_file files key) (range_with_len (object + 1) n))
        ≡ cond live (record { generation = 1; secret = secret_of key object 1; versions = blank_version ∷ [] }) (record { generation = 0; secret = zeros 8; versions = [] })
        ∷ map (new_file files key) (range_with_len (object + 1) n)
    of true rest = ap (λ l. (let x : File = record { generation = 1; secret = secret_of key object 1; versions = blank_version ∷ [] } in x) ∷ l) rest
    of false rest = ap (λ l. (let x : File = record { generation = 0; secret = zeros 8; versions = [] } in x) ∷ l) rest

record RootBytes (held : Option (List ℕ)) (root : RootValue) : Type 0 where
  bytes : List ℕ
  holds : held ≡ Some bytes
  reads : root_of bytes ≡ Ok root

root_bytes_of : (held : Option (List ℕ)) (root : RootValue) → option_and_then (λ bytes. read_of (root_of bytes)) held ≡ Some root → RootBytes held root
root_bytes_of None root e = absurd cc
root_bytes_of (Some bytes) root e = record { bytes = bytes; holds = refl; reads = of (root_of bytes) e }
  where
    of : (r : Result RootValue Why) → read_of r ≡ Some root → r ≡ Ok root
    of (Ok x) h = ap Ok cc
    of (Err w) h = absurd cc

pub new_store_is_found : (content : Content) (files blocks key most : ℕ) → files < blocks → blocks ≤ most → IsNewStore content files blocks key
    → found content most ≡ Ok (new_state files blocks key)
unfolding table_rows tops_linked done new_entries
new_store_is_found content files blocks key most room few new =
    let b : RootBytes (content 0) (new_root files blocks key) = root_bytes_of (content 0) (new_root files blocks key) new.table in
    let f : FilesRead content blocks files key 1 60 [] = files_read content blocks files key 1 60 [] room (omega arith) (λ m h. absurd (none_in m h)) new.firsts in
    let all : List LaidFile = map (laid_file files key) (range_with_len 1 60) in
    let laid_is : laid content most [] ≡ Ok (store_of (new_root files blocks key) all, f.places) =
    made_again content most b.bytes (new_root files blocks key) (rows_in 0 (map (new_entry files key) (range_with_len 1 60))) all (unlinked all) [] f.places f.places
    b.holds b.reads (le-leb blocks most few) refl f.runs
    (ap (λ t. tops_linked (blocks_of content blocks) t (unlinked all) f.places) (no_tops files key 1 1 60)) in
    ap state_of laid_is
    ∙ ap (λ l. Ok ((let s : State = record { format = 1; blocks = blocks; key = key; files = l } in s))) (found_files files key 1 60)

pub closed_is_refused : (content : Content) (most : ℕ) → content 0 ≡ None → found content most ≡ Err (record { block = 0; why = Closed })
unfolding laid bind content_at refuse
closed_is_refused content most e = ap (λ o. state_of (bind (content_at 0 o) (laid_from content most) [])) e
