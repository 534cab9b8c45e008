-- Entries of a table as bytes.
use Rattle.std.proofs.Common.{◌≡◌, ℕ, zero, suc, ◌^◌, ◌<◌, ◌≤◌, Bool, true, false, not, ◌||◌, ◌&&◌, cond, eqb, leb, List, [], ◌∷◌, ◌++◌, length, take, drop, map, get_or, replicate, refl, sym, ap, ◌∙◌, append_assoc, arith}
use Rattle.std.specs.Prelude.{Option, Some, None, IfSome, IfNone}
use Rattle.std.specs.List.{list_any, list_all, flat_map, AllByRecursion}
use Rattle.std.specs.Int.{w32}
use Rattle.std.proofs.lemmas.Bool.{eqb-true, eqb-false, leb-false}
use Rattle.std.proofs.lemmas.List.{take_all, take_at, drop_at, length-append, length-replicate}
use Rattle.page_codec.specs.declared.raw_entry.RawEntry.{RawEntry}
use Rattle.page_codec.specs.Numbers.{IsBytes, big_endian, field, number_at, zeros, or_zero, or_none}
use Rattle.page_codec.specs.Values.{EntryValue}
use Rattle.page_codec.specs.Bounds.{IsNamed, IsSoundEntry, IsEntry, IsFirstBelow, IsPartBelow, has_generation}
use Rattle.page_codec.specs.Blank.{no_entry, no_entries}
use Rattle.page_codec.specs.TableSpelling.{entry_bytes, part_number_bytes}
use Rattle.page_codec.specs.Causes.{is_nonzero}
use Rattle.page_codec.specs.TableReading.{raw_value, entry_value, is_far, is_uncounted, is_stray, is_unused}
use Rattle.page_codec.proofs.CauseLaws.{neither, both_false, passes_positive, passes_below, passes_if}
use Rattle.page_codec.proofs.FactLaws.{is_positive}
use Rattle.page_codec.proofs.FieldLaws.{length-field}
use Rattle.page_codec.proofs.ByteLaws.{IsBytes-field, wide32, length-big_endian, big_endian-number_at, number_at-lt, number_at-big_endian, zeros_from, zeros_pass, length-zeros, field-split}
use Rattle.page_codec.proofs.PieceLaws.{IsSpelled}
use Rattle.page_codec.proofs.SlotLaws.{IsNamed-or_none, or_none-below, or_zero-or_none, or_none-or_zero, or_zero-below}

-- an entry's numbers and secret in sixteen bytes
abbrev pub raw_bytes : RawEntry → List ℕ
raw_bytes raw = big_endian w32 raw.first ++ big_endian w32 raw.generation ++ raw.secret

-- numbers of four bytes and a secret of eight
pub record HasRoom (raw : RawEntry) : Type 0 where
  pub first_below : raw.first < 2 ^ 32
  pub generation_below : raw.generation < 2 ^ 32
  pub eight : length raw.secret ≡ 8
  pub secret_bytes : IsBytes raw.secret

length-raw_bytes : (raw : RawEntry) → HasRoom raw → length (raw_bytes raw) ≡ 16
length-raw_bytes raw h =
    let eight : length raw.secret ≡ 8 = h.eight in
    omega (
      arith,
      length-append (big_endian w32 raw.first ++ big_endian w32 raw.generation) raw.secret,
      length-append (big_endian w32 raw.first) (big_endian w32 raw.generation),
      length-big_endian w32 (2 ^ 32) wide32 raw.first,
      length-big_endian w32 (2 ^ 32) wide32 raw.generation,
      eight,
    )

same_raw : (a b c d : ℕ) (x y : List ℕ) → a ≡ b → c ≡ d → x ≡ y → (let r : RawEntry = record { first = a; generation = c; secret = x } in r) ≡ record { first = b; generation = d; secret = y }
same_raw a b c d x y e f g = cc

raw_again : (raw : RawEntry) → HasRoom raw → raw_value (raw_bytes raw) ≡ raw
raw_again raw h =
    let a = big_endian w32 raw.first in
    let b = big_endian w32 raw.generation in
    let la = length-big_endian w32 (2 ^ 32) wide32 raw.first in
    let lb = length-big_endian w32 (2 ^ 32) wide32 raw.generation in
    let lab : length (a ++ b) ≡ 8 = omega (arith, length-append a b, la, lb) in
    let eight : length raw.secret ≡ 8 = h.eight in
    let right : a ++ b ++ raw.secret ≡ a ++ (b ++ raw.secret) = append_assoc a b raw.secret in
    let first : field 0 4 (a ++ b ++ raw.secret) ≡ a = ap (take 4) right ∙ take_at a (b ++ raw.secret) 4 la in
    let second : field 4 4 (a ++ b ++ raw.secret) ≡ b = ap (λ (x : List ℕ). take 4 (drop 4 x)) right ∙ ap (take 4) (drop_at a (b ++ raw.secret) 4 la) ∙ take_at b raw.secret 4 lb in
    let third : field 8 8 (a ++ b ++ raw.secret) ≡ raw.secret = ap (take 8) (drop_at (a ++ b) raw.secret 8 lab) ∙ take_all 8 raw.secret (omega arith) in
    same_raw (number_at w32 0 (raw_bytes raw)) raw.first (number_at w32 4 (raw_bytes raw)) raw.generation (field 8 8 (raw_bytes raw)) raw.secret
    (number_at-big_endian w32 (2 ^ 32) wide32 0 raw.first (raw_bytes raw) h.first_below first)
    (number_at-big_endian w32 (2 ^ 32) wide32 4 raw.generation (raw_bytes raw) h.generation_below second) third

pub raw_law : IsSpelled 16 raw_value raw_bytes HasRoom
raw_law = record {
  read = λ bytes size fits. (
    ap (λ (x : List ℕ). x ++ big_endian w32 (number_at w32 4 bytes) ++ field 8 8 bytes) (big_endian-number_at w32 (2 ^ 32) wide32 0 bytes fits (omega arith))
        ∙ ap (λ (x : List ℕ). field 0 4 bytes ++ x ++ field 8 8 bytes) (big_endian-number_at w32 (2 ^ 32) wide32 4 bytes fits (omega arith))
        ∙ ap (λ (x : List ℕ). x ++ field 8 8 bytes) (sym (field-split 0 4 4 bytes))
        ∙ sym (field-split 0 8 8 bytes) ∙ take_all 16 bytes (omega arith),
    record {
      first_below = number_at-lt w32 (2 ^ 32) wide32 0 bytes fits;
      generation_below = number_at-lt w32 (2 ^ 32) wide32 4 bytes fits;
      eight = length-field 8 8 bytes (omega arith);
      secret_bytes = IsBytes-field 8 8 bytes fits;
    },
  );
  width = length-raw_bytes;
  again = raw_again;
}

-- ---- from numbers to an entry

generation_by : (n g : ℕ) (b : Bool) → eqb n 0 ≡ b → (not (eqb n 0) && eqb g 0) ≡ false → IfSome (cond b None (Some n)) (λ _. 1 ≤ g)
generation_by n g true e h = tt
generation_by n g false e h = is_positive g (after_not (eqb n 0) (eqb g 0) e h)
  where
    after_not : (a c : Bool) → a ≡ false → (not a && c) ≡ false → c ≡ false
    after_not true c p q = absurd cc
    after_not false c p q = q

secret_by : (n : ℕ) (secret : List ℕ) (b : Bool) → length secret ≡ 8 → eqb n 0 ≡ b → (eqb n 0 && list_any is_nonzero secret) ≡ false → IfNone (cond b None (Some n)) (secret ≡ zeros 8)
secret_by n secret true size e h = zeros_from secret (after (eqb n 0) (list_any is_nonzero secret) e h) ∙ ap zeros size
  where
    after : (a c : Bool) → a ≡ true → (a && c) ≡ false → c ≡ false
    after true c p q = q
    after false c p q = absurd cc
secret_by n secret false size e h = tt

pub IsSoundEntry-entry_value : (raw : RawEntry) → length raw.secret ≡ 8 → is_uncounted raw ≡ false → is_stray raw ≡ false → IsSoundEntry (entry_value raw)
IsSoundEntry-entry_value raw size counted stray = record {
  named = IsNamed-or_none raw.first;
  generation = generation_by raw.first raw.generation (eqb raw.first 0) refl counted;
  secret = secret_by raw.first raw.secret (eqb raw.first 0) size refl stray;
}

pub record AreEntries (raws : List RawEntry) : Type 0 where
  pub each : AllByRecursion IsEntry (map entry_value raws)
  pub spelled : flat_map entry_bytes (map entry_value raws) ≡ flat_map raw_bytes raws

pub entries_read : (limit : ℕ) (raws : List RawEntry) → limit ≤ 2 ^ 28 → AllByRecursion HasRoom raws → list_any (is_far limit) raws ≡ false → list_any is_uncounted raws ≡ false → list_any is_stray raws ≡ false → AreEntries raws
entries_read limit [] small room far counted stray = record { each = tt; spelled = refl }
entries_read limit (raw ∷ raws) small room far counted stray =
    let f = neither (is_far limit raw) (list_any (is_far limit) raws) far in
    let g = neither (is_uncounted raw) (list_any is_uncounted raws) counted in
    let s = neither (is_stray raw) (list_any is_stray raws) stray in
    let rest = entries_read limit raws small room.1 f.1 g.1 s.1 in
    let near : raw.first < limit = leb-false limit raw.first f.0 in
    record {
      each = (
        record {
          sound = IsSoundEntry-entry_value raw room.0.eight g.0 s.0;
          first_below = or_none-below raw.first (2 ^ 28) (omega arith);
          generation_below = room.0.generation_below;
          eight = room.0.eight;
          secret_bytes = room.0.secret_bytes;
        },
        rest.each,
      );
      spelled = ap (λ (n : ℕ). big_endian w32 n ++ big_endian w32 raw.generation ++ raw.secret ++ flat_map entry_bytes (map entry_value raws)) (or_zero-or_none raw.first)
          ∙ ap (λ (x : List ℕ). raw_bytes raw ++ x) rest.spelled;
    }

pub firsts_below : (limit : ℕ) (raws : List RawEntry) → list_any (is_far limit) raws ≡ false → AllByRecursion (IsFirstBelow limit) (map entry_value raws)
firsts_below limit [] far = tt
firsts_below limit (raw ∷ raws) far =
    let f = neither (is_far limit raw) (list_any (is_far limit) raws) far in
    (or_none-below raw.first limit (leb-false limit raw.first f.0), firsts_below limit raws f.1)

-- a table that has a limit of its own is within 2^28
pub far_within : (limit : ℕ) (raws : List RawEntry) → limit ≤ 2 ^ 28 → list_any (is_far limit) raws ≡ false → list_any (is_far (2 ^ 28)) raws ≡ false
far_within limit [] small far = refl
far_within limit (raw ∷ raws) small far =
    let f = neither (is_far limit raw) (list_any (is_far limit) raws) far in
    let near : raw.first < limit = leb-false limit raw.first f.0 in
    both_false (is_far (2 ^ 28) raw) (list_any (is_far (2 ^ 28)) raws) (passes_below (2 ^ 28) raw.first (omega arith)) (far_within limit raws small f.1)

-- ---- from an entry to numbers

abbrev pub raw_of : EntryValue → RawEntry
raw_of e = record { first = or_zero e.first; generation = e.generation; secret = e.secret }

pub raws_room : (es : List EntryValue) → AllByRecursion IsEntry es → AllByRecursion HasRoom (map raw_of es)
raws_room [] h = tt
raws_room (e ∷ es) h =
    let small : or_zero e.first < 2 ^ 28 = or_zero-below e.first (2 ^ 28) (omega arith) h.0.first_below in
    (record { first_below = omega arith; generation_below = h.0.generation_below; eight = h.0.eight; secret_bytes = h.0.secret_bytes }, raws_room es h.1)

pub entries_bytes : (es : List EntryValue) → flat_map entry_bytes es ≡ flat_map raw_bytes (map raw_of es)
entries_bytes [] = refl
entries_bytes (e ∷ es) = ap (λ (x : List ℕ). entry_bytes e ++ x) (entries_bytes es)

same_entry : (a b : Option ℕ) (c : ℕ) (x : List ℕ) → a ≡ b → (let e : EntryValue = record { first = a; generation = c; secret = x } in e) ≡ record { first = b; generation = c; secret = x }
same_entry a b c x e = cc

pub entries_again : (es : List EntryValue) → AllByRecursion IsEntry es → map entry_value (map raw_of es) ≡ es
entries_again [] h = refl
entries_again (e ∷ es) h =
    let first = same_entry (or_none (or_zero e.first)) e.first e.generation e.secret (or_none-or_zero e.first h.0.sound.named) in
    let others = entries_again es h.1 in
    cc

pub raws_near : (limit : ℕ) (es : List EntryValue) → 0 < limit → AllByRecursion (IsFirstBelow limit) es → list_any (is_far limit) (map raw_of es) ≡ false
raws_near limit [] p h = refl
raws_near limit (e ∷ es) p h =
    both_false (is_far limit (raw_of e)) (list_any (is_far limit) (map raw_of es)) (passes_below limit (or_zero e.first) (or_zero-below e.first limit p h.0)) (raws_near limit es p h.1)

counted_by : (o : Option ℕ) (g : ℕ) → IsNamed o → IfSome o (λ _. 1 ≤ g) → (not (eqb (or_zero o) 0) && eqb g 0) ≡ false
counted_by None g named h = refl
counted_by (Some n) g named h = passes_if (not (eqb n 0)) (eqb g 0) (λ _. passes_positive g h)

stray_by : (o : Option ℕ) (secret : List ℕ) → IsNamed o → IfNone o (secret ≡ zeros 8) → (eqb (or_zero o) 0 && list_any is_nonzero secret) ≡ false
stray_by None secret named h = passes_if (eqb 0 0) (list_any is_nonzero secret) (λ _. ap (list_any is_nonzero) h ∙ zeros_pass 8)
stray_by (Some n) secret named h = passes_if (eqb n 0) (list_any is_nonzero secret) (λ e. let none : n ≡ 0 = eqb-true n 0 e in absurd (omega arith))

pub raws_counted : (es : List EntryValue) → AllByRecursion IsEntry es → list_any is_uncounted (map raw_of es) ≡ false
raws_counted [] h = refl
raws_counted (e ∷ es) h = both_false (is_uncounted (raw_of e)) (list_any is_uncounted (map raw_of es)) (counted_by e.first e.generation h.0.sound.named h.0.sound.generation) (raws_counted es h.1)

pub raws_straight : (es : List EntryValue) → AllByRecursion IsEntry es → list_any is_stray (map raw_of es) ≡ false
raws_straight [] h = refl
raws_straight (e ∷ es) h = both_false (is_stray (raw_of e)) (list_any is_stray (map raw_of es)) (stray_by e.first e.secret h.0.sound.named h.0.sound.secret) (raws_straight es h.1)

-- an entry where a file is or was is one that is not unused
pub used_is : (raws : List RawEntry) → list_any has_generation (map entry_value raws) ≡ not (list_all is_unused raws)
used_is [] = refl
used_is (raw ∷ raws) = ap (λ (b : Bool). not (eqb raw.generation 0) || b) (used_is raws) ∙ de_morgan (eqb raw.generation 0) (list_all is_unused raws)
  where
    de_morgan : (a b : Bool) → (not a || not b) ≡ not (a && b)
    de_morgan true b = refl
    de_morgan false b = refl

-- ---- parts' blocks, and no entries

part_by : (limit n : ℕ) (b : Bool) → eqb n 0 ≡ b → n < limit → IsPartBelow limit (cond b None (Some n))
part_by limit n true e h = tt
part_by limit n false e h = let some : n ≡ 0 → ⊥ = eqb-false n 0 e in (omega arith, h)

pub parts_near : (limit : ℕ) (ns : List ℕ) → list_any (leb limit) ns ≡ false → AllByRecursion (IsPartBelow limit) (map or_none ns)
parts_near limit [] e = tt
parts_near limit (n ∷ ns) e =
    let both = neither (leb limit n) (list_any (leb limit) ns) e in
    (part_by limit n (eqb n 0) refl (leb-false limit n both.0), parts_near limit ns both.1)

part_far : (limit : ℕ) (o : Option ℕ) → 0 < limit → IsPartBelow limit o → leb limit (or_zero o) ≡ false
part_far limit None p h = passes_below limit 0 p
part_far limit (Some n) p h = passes_below limit n h.1

pub parts_pass : (limit : ℕ) (os : List (Option ℕ)) → 0 < limit → AllByRecursion (IsPartBelow limit) os → list_any (leb limit) (map or_zero os) ≡ false
parts_pass limit [] p h = refl
parts_pass limit (o ∷ os) p h = both_false (leb limit (or_zero o)) (list_any (leb limit) (map or_zero os)) (part_far limit o p h.0) (parts_pass limit os p h.1)

part_named : (limit : ℕ) (o : Option ℕ) → IsPartBelow limit o → IsNamed o
part_named limit None h = tt
part_named limit (Some n) h = h.0

pub parts_again : (limit : ℕ) (os : List (Option ℕ)) → AllByRecursion (IsPartBelow limit) os → map or_none (map or_zero os) ≡ os
parts_again limit [] h = refl
parts_again limit (o ∷ os) h = let first = or_none-or_zero o (part_named limit o h.0) in let others = parts_again limit os h.1 in cc

part_small : (limit : ℕ) (o : Option ℕ) → limit ≤ 65536 → IsPartBelow limit o → or_zero o < 2 ^ 32
part_small limit None p h = omega arith
part_small limit (Some n) p h = let near : n < limit = h.1 in omega arith

pub parts_small : (limit : ℕ) (os : List (Option ℕ)) → limit ≤ 65536 → AllByRecursion (IsPartBelow limit) os → AllByRecursion (λ n. n < 2 ^ 32) (map or_zero os)
parts_small limit [] p h = tt
parts_small limit (o ∷ os) p h = (part_small limit o p h.0, parts_small limit os p h.1)

pub parts_bytes : (os : List (Option ℕ)) → flat_map part_number_bytes os ≡ flat_map (big_endian w32) (map or_zero os)
parts_bytes [] = refl
parts_bytes (o ∷ os) = ap (λ (x : List ℕ). part_number_bytes o ++ x) (parts_bytes os)

pub parts_back : (ns : List ℕ) → map or_zero (map or_none ns) ≡ ns
parts_back [] = refl
parts_back (n ∷ ns) = let first = or_zero-or_none n in let others = parts_back ns in cc

nones_below : (limit n : ℕ) → AllByRecursion (IsFirstBelow limit) (replicate n no_entry)
nones_below limit zero = tt
nones_below limit (suc n) = (tt, nones_below limit n)

pub IsFirstBelow-no_entries : (limit n : ℕ) → AllByRecursion (IsFirstBelow limit) (no_entries n)
unfolding no_entries
IsFirstBelow-no_entries limit n = nones_below limit n

pub length-no_entries : (n : ℕ) → length (no_entries n) ≡ n
unfolding no_entries
length-no_entries n = length-replicate n no_entry

zero_bytes : (i : ℕ) → get_or (zeros 8) i 0 < 256
unfolding zeros
zero_bytes zero = omega arith
zero_bytes (suc zero) = omega arith
zero_bytes (suc (suc zero)) = omega arith
zero_bytes (suc (suc (suc zero))) = omega arith
zero_bytes (suc (suc (suc (suc zero)))) = omega arith
zero_bytes (suc (suc (suc (suc (suc zero))))) = omega arith
zero_bytes (suc (suc (suc (suc (suc (suc zero)))))) = omega arith
zero_bytes (suc (suc (suc (suc (suc (suc (suc zero))))))) = omega arith
zero_bytes (suc (suc (suc (suc (suc (suc (suc (suc i)))))))) = omega arith

IsEntry-no_entry : IsEntry no_entry
IsEntry-no_entry = record {
  sound = record { named = tt; generation = tt; secret = refl };
  first_below = tt;
  generation_below = omega arith;
  eight = length-zeros 8;
  secret_bytes = zero_bytes;
}

nones_are : (n : ℕ) → AllByRecursion IsEntry (replicate n no_entry)
nones_are zero = tt
nones_are (suc n) = (IsEntry-no_entry, nones_are n)

pub IsEntry-no_entries : (n : ℕ) → AllByRecursion IsEntry (no_entries n)
unfolding no_entries
IsEntry-no_entries n = nones_are n

pub entries_below : (es : List EntryValue) → AllByRecursion IsEntry es → AllByRecursion (IsFirstBelow (2 ^ 28)) es
entries_below [] h = tt
entries_below (e ∷ es) h = (h.0.first_below, entries_below es h.1)
