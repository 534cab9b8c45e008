-- A word is read as bytes exactly where it is, in lower case, what is printed for them.
use Rattle.std.proofs.Common.{◌≡◌, ℕ, zero, suc, ◌+◌, ◌*◌, ◌/◌, ◌%◌, ◌<◌, is_some, Bool, true, cond, ◌&&◌, ltb, eqb, List, [], ◌∷◌, length, map, get_or, Option, Some, None, Result, Ok, Err, inl, inr, refl, sym, ◌∙◌, ap, arith}
use Rattle.std.specs.List.{All, AllPass, list_all}
use Rattle.std.specs.Char.{to_ascii_lowercase}
use Rattle.std.proofs.lemmas.Bool.{eqb-true, and_parts, cases_lt}
use Rattle.std.proofs.lemmas.Bool.Decides.{nat_tests}
use Rattle.std.proofs.lemmas.Grind.{common_steps}
use Rattle.std.proofs.lemmas.List.{length-map}
use Rattle.std.proofs.lemmas.List.Sums.{AllPass-from_list_all, list_all-from_AllPass}
use Rattle.hex.specs.Hex.{IsBytes, decode_of, decode_pairs, digit_or_error, encode_lower, encode_with, hex_digit_value, is_hex_digit, lower_digits, pair_value, value_at, ◌>>=◌}
use Rattle.hex.specs.declared.error.FromHexError.{FromHexError}
use Rattle.hex.proofs.HexLemmas.{decode_of-digits, decode_of-encode_lower, decode_of-even, decode_of-ok, decode_of-same}
use Rattle.script_text.specs.Says.{AreDigitsOf}

-- a letter stands for the same in either case
lower_value : (c : ℕ) → hex_digit_value (to_ascii_lowercase c) ≡ hex_digit_value c
lower_value c = grind (arith, nat_tests)

-- the sixteen digits by their values
abbrev glyph_test : ℕ → Bool
glyph_test d = eqb (get_or lower_digits d 0) (cond (ltb d 10) (48 + d) (87 + d))

abbrev all_glyphs : ℕ → Bool
all_glyphs zero = true
all_glyphs (suc n) = glyph_test n && all_glyphs n

glyph_at : (n d : ℕ) → all_glyphs n ≡ true → d < n → get_or lower_digits d 0 ≡ cond (ltb d 10) (48 + d) (87 + d)
glyph_at zero d h lt = absurd (omega arith)
glyph_at (suc n) d h lt =
    let parts = and_parts (glyph_test n) (all_glyphs n) h in
    elim (cases_lt d n) [
      | inl below ↦ glyph_at n d parts.1 below
      | inr top ↦
          let e : d ≡ n = omega arith in
          rw e (eqb-true (get_or lower_digits n 0) (cond (ltb n 10) (48 + n) (87 + n)) parts.0)
    ]

glyph : (d : ℕ) → d < 16 → get_or lower_digits d 0 ≡ cond (ltb d 10) (48 + d) (87 + d)
glyph d lt = glyph_at 16 d refl lt

-- a digit in lower case is the one that is printed for its value
lower_glyph : (c v : ℕ) → hex_digit_value c ≡ Some v → (v < 16) × (to_ascii_lowercase c ≡ cond (ltb v 10) (48 + v) (87 + v))
lower_glyph c v e = (grind (arith, nat_tests), grind (arith, nat_tests))

-- ---- pairs of digits

-- both steps of two gave a value
bind_ok : {A B : Type 0} (r : Result A FromHexError) (f : A → Result B FromHexError) (y : B) → (r >>= f) ≡ Ok y → (x : A) × (r ≡ Ok x) × (f x ≡ Ok y)
bind_ok (Ok x) f y h = (x, refl, h)
bind_ok (Err e) f y h = cc h

-- a digit that reads
value_ok : (c i v : ℕ) → value_at c i ≡ Ok v → hex_digit_value c ≡ Some v
value_ok c i v e = by (hex_digit_value c) e
  where
    by : (o : Option ℕ) → digit_or_error c i o ≡ Ok v → o ≡ Some v
    by (Some w) h = cc h
    by None h = cc h

-- a digit in lower case is the one at its value's place
lower_digit : (c i v : ℕ) → value_at c i ≡ Ok v → (v < 16) × (to_ascii_lowercase c ≡ get_or lower_digits v 0)
lower_digit c i v e = let g = lower_glyph c v (value_ok c i v e) in (g.0, g.1 ∙ sym (glyph v g.0))

-- pairs of digits, in lower case, are the text of the bytes that they read as
lower_pairs : (i : ℕ) (s bytes : List ℕ) → decode_pairs i s ≡ Ok bytes → map to_ascii_lowercase s ≡ encode_with lower_digits bytes
unfolding decode_pairs encode_with
lower_pairs i [] bytes e = let same : [] ≡ bytes = cc in ap (encode_with lower_digits) same
lower_pairs i (digit ∷ []) bytes e = cc
lower_pairs i (high ∷ low ∷ rest) bytes e =
    let first = bind_ok (pair_value high low i) (λ b. decode_pairs (i + 2) rest >>= (λ bs. Ok (b ∷ bs))) bytes e in
    let more = bind_ok (decode_pairs (i + 2) rest) (λ bs. Ok (first.0 ∷ bs)) bytes first.2 in
    let upper = bind_ok (value_at high i) (λ h. value_at low (i + 1) >>= (λ l. Ok (h * 16 + l))) first.0 first.1 in
    let lower = bind_ok (value_at low (i + 1)) (λ l. Ok (upper.0 * 16 + l)) first.0 upper.2 in
    let h = lower_digit high i upper.0 upper.1 in
    let l = lower_digit low (i + 1) lower.0 lower.1 in
    let byte : upper.0 * 16 + lower.0 ≡ first.0 = cc in
    let same : first.0 ∷ more.0 ≡ bytes = cc in
    let left : upper.0 ≡ first.0 / 16 = omega (arith, h.0, l.0, byte) in
    let right : lower.0 ≡ first.0 % 16 = omega (arith, h.0, l.0, byte) in
    ap (λ xs. to_ascii_lowercase high ∷ to_ascii_lowercase low ∷ xs) (lower_pairs (i + 2) rest more.0 more.1)
    ∙ ap (λ c. c ∷ to_ascii_lowercase low ∷ encode_with lower_digits more.0) (h.1 ∙ ap (λ v. get_or lower_digits v 0) left)
    ∙ ap (λ c. get_or lower_digits (first.0 / 16) 0 ∷ c ∷ encode_with lower_digits more.0) (l.1 ∙ ap (λ v. get_or lower_digits v 0) right)
    ∙ ap (encode_with lower_digits) same

-- ---- words

-- a word that reads as bytes
pub AreDigitsOf-from_read : (word bytes : List ℕ) → decode_of word ≡ Ok bytes → AreDigitsOf word bytes
AreDigitsOf-from_read word bytes e =
    let known = decode_of-ok word bytes e in
    record {
      digits = lower_pairs 0 word bytes (sym (decode_of-even word known.0) ∙ e);
      each = λ k d lt. by_place k d lt (known.3 k);
    }
  where
    by_place : (k d : ℕ) → k < length bytes → get_or bytes k 0 < 256 → get_or bytes k d < 256
    by_place k d lt small = grind (arith, common_steps)

bytes_of_each : (bytes : List ℕ) → All (λ b. b < 256) bytes → IsBytes bytes
bytes_of_each bytes each i = elim (cases_lt i (length bytes)) [
  | inl within ↦ each i 0 within
  | inr past ↦ grind (arith, common_steps)
]

-- a word is twice as long as the bytes
pub length-digits : (word bytes : List ℕ) → AreDigitsOf word bytes → length word ≡ 2 * length bytes
length-digits word bytes says =
    let read = decode_of-ok (encode_lower bytes) bytes (decode_of-encode_lower bytes (bytes_of_each bytes says.each)) in
    let same = ap (λ s. length s) says.digits in
    let kept : length (map to_ascii_lowercase word) ≡ length word = length-map word to_ascii_lowercase in
    omega (arith, read.2, same, kept)

-- the digits of a word are digits whatever their case
digits_of_lower : (word : List ℕ) → AllPass is_hex_digit (map to_ascii_lowercase word) → AllPass is_hex_digit word
digits_of_lower word h =
    AllPass-from_list_all is_hex_digit word
    (sym (same word) ∙ list_all-from_AllPass is_hex_digit (map to_ascii_lowercase word) h)
  where
    same : (s : List ℕ) → list_all is_hex_digit (map to_ascii_lowercase s) ≡ list_all is_hex_digit s
    same [] = refl
    same (c ∷ cs) = ap (λ o. is_some o && list_all is_hex_digit (map to_ascii_lowercase cs)) (lower_value c) ∙ ap (λ b. is_hex_digit c && b) (same cs)

-- a word that says bytes
pub read-from_AreDigitsOf : (word bytes : List ℕ) → AreDigitsOf word bytes → decode_of word ≡ Ok bytes
read-from_AreDigitsOf word bytes says =
    let lower : decode_of (map to_ascii_lowercase word) ≡ Ok bytes =
    ap decode_of says.digits ∙ decode_of-encode_lower bytes (bytes_of_each bytes says.each) in
    let known = decode_of-ok (map to_ascii_lowercase word) bytes lower in
    let long = length-digits word bytes says in
    let read = decode_of-digits word (omega (arith, long)) (digits_of_lower word known.1) in
    let other = AreDigitsOf-from_read word read.0 read.1 in
    let again : decode_of (encode_lower bytes) ≡ Ok read.0 =
    ap decode_of (sym says.digits ∙ other.digits) ∙ decode_of-encode_lower read.0 (bytes_of_each read.0 other.each) in
    read.1 ∙ ap (λ xs. Ok xs) (decode_of-same (encode_lower bytes) read.0 bytes again (decode_of-encode_lower bytes (bytes_of_each bytes says.each)))
