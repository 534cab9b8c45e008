-- The bytes of a new store are read as what they spell.
use Rattle.std.proofs.Common.{◌≡◌, ℕ, zero, suc, ◌+◌, ◌*◌, ◌^◌, ◌<◌, ◌≤◌, Bool, true, false, cond, min, List, [], ◌∷◌, ◌++◌, map, length, replicate, nat_le, Option, Some, None, refl, ap, ◌∙◌, arith, length-append, length-take}
use Rattle.std.proofs.lemmas.List.{length-replicate}
use Rattle.std.specs.List.{range_with_len, AllByRecursion}
use Rattle.std.specs.Int.{w32, to_be_bytes}
use Rattle.std.specs.Option.{option_and_then}
use Rattle.std.proofs.lemmas.Bool.{leb-true}
use Rattle.sha2.specs.Sha256.{sha256, digest_bytes}
use Rattle.page_codec.specs.Numbers.{IsBytes}
use Rattle.page_codec.specs.Values.{EntryValue}
use Rattle.page_codec.specs.Blank.{empty_reference, empty_slots, no_entry, no_entries, no_parts}
use Rattle.page_codec.specs.Bounds.{IsReference, IsVersion, IsEntry, IsRoot}
use Rattle.page_codec.specs.Causes.{version_of}
use Rattle.page_codec.specs.Spelling.{version_bytes}
use Rattle.page_codec.specs.TableSpelling.{root_bytes}
use Rattle.page_codec.specs.TableReading.{root_of}
use Rattle.page_codec.specs.NewStore.{new_version, new_entry, new_entries, new_root, secret_of}
use Rattle.page_codec.proofs.ByteLaws.{IsBytes-take}
use Rattle.page_codec.proofs.EntryLaws.{IsEntry-no_entries}
use Rattle.page_codec.proofs.NewStoreLaws.{IsFirstBelow-new_entries, IsPartBelow-no_parts}
use Rattle.page_codec.proofs.RootLaws.{root_of-root_bytes}
use Rattle.page_codec.proofs.VersionLaws.{version_of-version_bytes}
use Rattle.store_model.specs.Laws.{read_of}
use Rattle.store_model.specs.NewStores.{IsNewStore}
use Rattle.store_model.proofs.Steps.{Content}

-- ---- the secret

IsBytes-append : (xs ys : List ℕ) → IsBytes xs → IsBytes ys → IsBytes (xs ++ ys)
IsBytes-append [] ys a b i = b i
IsBytes-append (x ∷ xs) ys a b zero = a 0
IsBytes-append (x ∷ xs) ys a b (suc i) = IsBytes-append xs ys (λ j. a (suc j)) b i

word_bytes : (n : ℕ) → IsBytes (to_be_bytes w32 n)
word_bytes n zero = omega arith
word_bytes n (suc zero) = omega arith
word_bytes n (suc (suc zero)) = omega arith
word_bytes n (suc (suc (suc zero))) = omega arith
word_bytes n (suc (suc (suc (suc i)))) = omega arith

digest_fits : (h : List ℕ) (n : ℕ) → IsBytes (digest_bytes h n)
unfolding digest_bytes
digest_fits h zero = λ i. omega arith
digest_fits h (suc n) = IsBytes-append (digest_bytes h n) _ (digest_fits h n) (word_bytes _)

digest_length : (h : List ℕ) (n : ℕ) → length (digest_bytes h n) ≡ 4 * n
unfolding digest_bytes
digest_length h zero = refl
digest_length h (suc n) =
    let rest : length (digest_bytes h n) ≡ 4 * n = digest_length h n in
    length-append (digest_bytes h n) _ ∙ omega (arith, rest)

secret_fits : (key object generation : ℕ) → IsBytes (secret_of key object generation)
unfolding secret_of sha256
secret_fits key object generation = IsBytes-take 8 _ (digest_fits _ 8)

secret_length : (key object generation : ℕ) → length (secret_of key object generation) ≡ 8
unfolding secret_of sha256
secret_length key object generation = length-take 8 _ ∙ ap (min 8) (digest_length _ 8)

-- ---- the table

entry_lawful : (files key object : ℕ) → files < 65536 → 1 ≤ object → IsEntry (new_entry files key object)
unfolding no_entries
entry_lawful files key object few low = of (nat_le object files) refl
  where
    of : (live : Bool) → nat_le object files ≡ live
        → IsEntry (cond live ((let e : EntryValue = record { first = Some object; generation = 1; secret = secret_of key object 1 } in e)) no_entry)
    of true is =
        let small : object ≤ files = leb-true object files is in
        record {
          sound = record { named = omega arith; generation = omega arith; secret = tt };
          first_below = omega arith;
          generation_below = omega arith;
          eight = secret_length key object 1;
          secret_bytes = secret_fits key object 1;
        }
    of false is = (IsEntry-no_entries 1).0

pub entries_lawful : (files key object n : ℕ) → files < 65536 → 1 ≤ object → AllByRecursion IsEntry (map (new_entry files key) (range_with_len object n))
entries_lawful files key object zero few low = tt
entries_lawful files key object (suc n) few low = (entry_lawful files key object few low, entries_lawful files key (object + 1) n few (omega arith))

pub entries_count : (files key object n : ℕ) → length (map (new_entry files key) (range_with_len object n)) ≡ n
entries_count files key object zero = refl
entries_count files key object (suc n) = ap (λ m. suc m) (entries_count files key (object + 1) n)

pub root_lawful : (files blocks key : ℕ) → files < blocks → 2 ≤ blocks → blocks ≤ 65536 → key < 2 ^ 64 → IsRoot (new_root files blocks key)
unfolding new_entries no_parts
root_lawful files blocks key room least most key_below =
    record {
      sound = record {
        first_format = omega arith;
        last_format = omega arith;
        least = least;
        most = most;
        parts_below = IsPartBelow-no_parts blocks;
        first_below = IsFirstBelow-new_entries files blocks key room;
        no_parts = λ _. refl;
        no_first = λ h. absurd cc;
      };
      key_below = key_below;
      parts_count = length-replicate {A = Option ℕ} 64 None;
      first_count = entries_count files key 1 60;
      each = entries_lawful files key 1 60 (omega arith) (omega arith);
    }

-- ---- first versions

references_lawful : (n : ℕ) → AllByRecursion IsReference (replicate n empty_reference)
references_lawful zero = tt
references_lawful (suc n) = (record { sound = record { named = tt; empty = refl }; lawful = refl; below = tt }, references_lawful n)

pub version_lawful : (object : ℕ) → 1 ≤ object → object < 2 ^ 32 → IsVersion (new_version object)
unfolding empty_slots
version_lawful object low high =
    record {
      sound = record { top = refl; object = low; serial = omega arith; commit = tt; base = tt };
      frame = record {
        sound = record { depth = omega arith; leaf = λ h. absurd cc };
        mask = omega arith;
        sixteen = length-replicate 16 empty_reference;
        each = references_lawful 16;
        fits = omega arith;
        data_bytes = λ i. omega arith;
      };
      lawful = refl;
      object_below = high;
      serial_below = omega arith;
      commit_below = tt;
      base_below = tt;
      count = omega arith;
      each = tt;
    }

-- ---- the store

-- contents that a new store's blocks are written in
pub new_store_read : (content : Content) (files blocks key : ℕ) → files < blocks → 2 ≤ blocks → blocks ≤ 65536 → key < 2 ^ 64
    → content 0 ≡ Some (root_bytes (new_root files blocks key)) → ((n : ℕ) → 1 ≤ n → n ≤ files → content n ≡ Some (version_bytes (new_version n)))
    → IsNewStore content files blocks key
new_store_read content files blocks key room least most key_below table pages =
    record {
      table = ap (option_and_then (λ bytes. read_of (root_of bytes))) table
          ∙ ap read_of (root_of-root_bytes (root_bytes (new_root files blocks key)) (new_root files blocks key) (root_lawful files blocks key room least most key_below) refl);
      firsts = λ n low high.
          ap (option_and_then (λ bytes. read_of (version_of bytes))) (pages n low high)
          ∙ ap read_of (version_of-version_bytes (version_bytes (new_version n)) (new_version n) (version_lawful n low (omega arith)) refl);
    }
