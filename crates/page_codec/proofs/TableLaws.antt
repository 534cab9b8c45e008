-- What block 0 has behind its numbers, by the format.
use Rattle.std.proofs.Common.{◌≡◌, ℕ, ◌<◌, ◌^◌, List, ◌++◌, take, length, refl, ap, arith, subst, sym, append_assoc, ◌∙◌, Bool, true, false, cond, eqb}
use Rattle.std.specs.Prelude.{Option}
use Rattle.std.specs.List.{flat_map, AllByRecursion}
use Rattle.std.proofs.lemmas.Bool.{ne_eqb, eqb-false, eqb-true}
use Rattle.page_codec.specs.Numbers.{zeros}
use Rattle.page_codec.specs.Values.{EntryValue, RootValue, TableValue}
use Rattle.page_codec.specs.Blank.{no_entries}
use Rattle.page_codec.specs.Bounds.{IsEntry, IsRoot, IsSoundRoot, IsSoundTable}
use Rattle.page_codec.specs.TableSpelling.{entry_bytes, part_number_bytes, rest_bytes, root_in}
use Rattle.page_codec.proofs.EntryLaws.{IsEntry-no_entries, IsFirstBelow-no_entries, length-no_entries}

pub rest_of_one : (format : ℕ) (parts : List (Option ℕ)) (first : List EntryValue) → format ≡ 1 → rest_bytes format parts first ≡ flat_map entry_bytes first ++ zeros 48
unfolding rest_bytes
rest_of_one format parts first h = rw h refl

pub rest_of_two : (format : ℕ) (parts : List (Option ℕ)) (first : List EntryValue) → (format ≡ 1 → ⊥) → rest_bytes format parts first ≡ flat_map part_number_bytes parts ++ zeros 752
unfolding rest_bytes
rest_of_two format parts first h = rw (ne_eqb format 1 h) refl

-- entries, or parts, and zeros up to the end of the block
pub rest_written : (old mid new items rest : List ℕ) (at next last k : ℕ) → last ≡ 1024 → take next mid ≡ take at old ++ items
    → take last new ≡ take next mid ++ zeros k → rest ≡ items ++ zeros k → take 1024 new ≡ take at old ++ rest
rest_written old mid new items rest at next last k end front zeroed is =
    ap (λ (n : ℕ). take n new) (sym end) ∙ zeroed ∙ ap (λ (xs : List ℕ). xs ++ zeros k) front
    ∙ append_assoc (take at old) items (zeros k) ∙ ap (λ (xs : List ℕ). take at old ++ xs) (sym is)

-- entries that are none in format 2 are not written there
pub rest_of_either : (format : ℕ) (parts : List (Option ℕ)) (first others : List EntryValue) → rest_bytes format parts first ≡ rest_bytes format parts (cond (eqb format 1) first others)
rest_of_either format parts first others = by (eqb format 1) refl
  where
    by : (t : Bool) → eqb format 1 ≡ t → rest_bytes format parts first ≡ rest_bytes format parts (cond (eqb format 1) first others)
    by true e = ap (λ (t : Bool). rest_bytes format parts (cond t first others)) (sym e)
    by false e = let two : format ≡ 1 → ⊥ = eqb-false format 1 e in rest_of_two format parts first two ∙ sym (rest_of_two format parts (cond (eqb format 1) first others) two)

-- what block 0 keeps is what its spelling asks, where its lists have their lengths and the entries that are written a spelling
pub IsRoot-of-sound : (r : RootValue) → IsSoundRoot r → r.key < 2 ^ 64 → length r.parts ≡ 64 → length r.first ≡ 60
    → (r.format ≡ 1 → AllByRecursion IsEntry r.first) → IsRoot r
IsRoot-of-sound r sound key parts first each = record {
  sound = sound;
  key_below = key;
  parts_count = parts;
  first_count = first;
  each = by (eqb r.format 1) refl;
}
  where
    by : (t : Bool) → eqb r.format 1 ≡ t → AllByRecursion IsEntry r.first
    by true e = each (eqb-true r.format 1 e)
    by false e =
        let other : r.format ≡ 1 → ⊥ = eqb-false r.format 1 e in
        let two : r.format ≡ 2 = omega (arith, sound.first_format, sound.last_format, other) in
        subst (λ (es : List EntryValue). AllByRecursion IsEntry es) (sym (sound.no_first two)) (IsEntry-no_entries 60)

-- the same of block 0 of a table
pub IsRoot-of-table : (t : TableValue) → IsSoundTable t → t.key < 2 ^ 64 → length t.parts ≡ 64
    → (t.format ≡ 1 → AllByRecursion IsEntry t.entries) → IsRoot (root_in t)
IsRoot-of-table t sound key parts each = by (eqb t.format 1) refl
  where
    root_when : Bool → RootValue
    root_when b = record { format = t.format; blocks = t.blocks; key = t.key; parts = t.parts; first = cond b t.entries (no_entries 60) }

    by : (b : Bool) → eqb t.format 1 ≡ b → IsRoot (root_when b)
    by true e = let one : t.format ≡ 1 = eqb-true t.format 1 e in record {
      sound = record {
        first_format = sound.first_format;
        last_format = sound.last_format;
        least = sound.least;
        most = sound.most;
        parts_below = sound.parts_below;
        first_below = sound.first_below one;
        no_parts = sound.no_parts;
        no_first = λ two. absurd (omega (arith, one, two));
      };
      key_below = key;
      parts_count = parts;
      first_count = sound.sixty one;
      each = each one;
    }
    by false e = record {
      sound = record {
        first_format = sound.first_format;
        last_format = sound.last_format;
        least = sound.least;
        most = sound.most;
        parts_below = sound.parts_below;
        first_below = IsFirstBelow-no_entries t.blocks 60;
        no_parts = sound.no_parts;
        no_first = λ two. refl;
      };
      key_below = key;
      parts_count = parts;
      first_count = length-no_entries 60;
      each = IsEntry-no_entries 60;
    }
