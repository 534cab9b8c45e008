-- Numbers as bytes and back, runs of zeros, and a block as its fields one behind the other.
use Rattle.std.proofs.Common.{◌≡◌, ℕ, zero, suc, ◌+◌, ◌^◌, ◌<◌, ◌≤◌, Bool, true, false, not, eqb, List, [], ◌∷◌, ◌++◌, length, take, drop, refl, sym, ap, ◌∙◌, append_assoc, arith, inl, inr}
use Rattle.std.specs.List.{list_any, concat}
use Rattle.std.specs.Int.{Width, w16, w32, w64, byte_len, from_be_bytes, to_be_bytes}
use Rattle.std.proofs.lemmas.Bool.{cases_lt, eqb-true}
use Rattle.std.proofs.lemmas.List.{append-nil, take_at, drop_at, take-append-drop, take-take, drop-take, drop-drop, length-append, length-take, length-replicate, get_or-drop, get_or-take, get_or_past}
use Rattle.std.proofs.lemmas.Nat.{be_bytes_2, be_bytes_4, be_bytes_8, from_be_bytes-to_be_bytes_2, from_be_bytes-to_be_bytes_4, from_be_bytes-to_be_bytes_8}
use Rattle.page_codec.specs.Numbers.{IsBytes, big_endian, field, number_at, zeros}
use Rattle.page_codec.specs.Causes.{is_nonzero}
use Rattle.page_codec.proofs.CauseLaws.{neither}
use Rattle.page_codec.proofs.FieldLaws.{length-field}

pub IsBytes-drop : (n : ℕ) (bytes : List ℕ) → IsBytes bytes → IsBytes (drop n bytes)
IsBytes-drop n bytes h i = rw get_or-drop (h (n + i))

pub IsBytes-take : (n : ℕ) (bytes : List ℕ) → IsBytes bytes → IsBytes (take n bytes)
IsBytes-take n bytes h i =
    elim (cases_lt i n) [
      | inl lt ↦ rw (get_or-take n bytes i 0 lt) (h i)
      | inr le ↦ rw (get_or_past (take n bytes) i 0 (omega (arith, length-take n bytes))) (omega arith)
    ]

pub IsBytes-field : (at n : ℕ) (bytes : List ℕ) → IsBytes bytes → IsBytes (field at n bytes)
IsBytes-field at n bytes h = IsBytes-take n (drop at bytes) (IsBytes-drop at bytes h)

-- ---- numbers

-- a width, and the numbers that it has room for
pub record IsWide (w : Width) (limit : ℕ) : Type 0 where
  pub len : (n : ℕ) → length (to_be_bytes w n) ≡ byte_len w
  pub back : (bytes : List ℕ) → length bytes ≡ byte_len w → IsBytes bytes → to_be_bytes w (from_be_bytes w bytes) ≡ bytes
  pub again : (n : ℕ) → n < limit → from_be_bytes w (to_be_bytes w n) ≡ n
  pub below : (bytes : List ℕ) → IsBytes bytes → from_be_bytes w bytes < limit

pub wide16 : IsWide w16 (2 ^ 16)
wide16 = record {
  len = λ n. refl;
  back = λ bytes len fits. be_bytes_2 bytes _ len fits refl;
  again = λ n lt. from_be_bytes-to_be_bytes_2 n lt;
  below = λ bytes fits. omega (arith, fits 0, fits 1);
}

pub wide32 : IsWide w32 (2 ^ 32)
wide32 = record {
  len = λ n. refl;
  back = λ bytes len fits. be_bytes_4 bytes _ len fits refl;
  again = λ n lt. from_be_bytes-to_be_bytes_4 n lt;
  below = λ bytes fits. omega (arith, fits 0, fits 1, fits 2, fits 3);
}

pub wide64 : IsWide w64 (2 ^ 64)
wide64 = record {
  len = λ n. refl;
  back = λ bytes len fits. be_bytes_8 bytes _ len fits refl;
  again = λ n lt. from_be_bytes-to_be_bytes_8 n lt;
  below = λ bytes fits. omega (arith, fits 0, fits 1, fits 2, fits 3, fits 4, fits 5, fits 6, fits 7);
}

pub length-big_endian : (w : Width) (limit : ℕ) → IsWide w limit → (n : ℕ) → length (big_endian w n) ≡ byte_len w
unfolding big_endian
length-big_endian w limit wide n = wide.len n

-- a number that is read is spelled by the bytes that it was read from
pub big_endian-number_at : (w : Width) (limit : ℕ) → IsWide w limit → (at : ℕ) (bytes : List ℕ) → IsBytes bytes → at + byte_len w ≤ length bytes
    → big_endian w (number_at w at bytes) ≡ field at (byte_len w) bytes
unfolding big_endian number_at
big_endian-number_at w limit wide at bytes fits h =
    wide.back (field at (byte_len w) bytes) (length-field at (byte_len w) bytes h) (IsBytes-field at (byte_len w) bytes fits)

-- a number that is read has its width
pub number_at-lt : (w : Width) (limit : ℕ) → IsWide w limit → (at : ℕ) (bytes : List ℕ) → IsBytes bytes → number_at w at bytes < limit
unfolding number_at
number_at-lt w limit wide at bytes fits = wide.below (field at (byte_len w) bytes) (IsBytes-field at (byte_len w) bytes fits)

-- a number that is spelled is read
pub number_at-big_endian : (w : Width) (limit : ℕ) → IsWide w limit → (at n : ℕ) (bytes : List ℕ) → n < limit → field at (byte_len w) bytes ≡ big_endian w n → number_at w at bytes ≡ n
unfolding big_endian number_at
number_at-big_endian w limit wide at n bytes lt e = ap (from_be_bytes w) e ∙ wide.again n lt

-- ---- zeros

pub length-zeros : (n : ℕ) → length (zeros n) ≡ n
unfolding zeros
length-zeros n = length-replicate n 0

pub is_zero : (n : ℕ) → is_nonzero n ≡ false → n ≡ 0
is_zero n e = eqb-true n 0 (not_false (eqb n 0) e)
  where
    not_false : (b : Bool) → not b ≡ false → b ≡ true
    not_false true h = refl
    not_false false h = absurd cc

pub zeros_from : (xs : List ℕ) → list_any is_nonzero xs ≡ false → xs ≡ zeros (length xs)
unfolding zeros
zeros_from [] e = refl
zeros_from (x ∷ xs) e =
    let both = neither (is_nonzero x) (list_any is_nonzero xs) e in
    let first : x ≡ 0 = is_zero x both.0 in
    let rest = zeros_from xs both.1 in
    cc

pub zeros_pass : (n : ℕ) → list_any is_nonzero (zeros n) ≡ false
unfolding zeros
zeros_pass zero = refl
zeros_pass (suc n) = zeros_pass n

-- a field whose bytes are all 0
pub zeros_field : (at n : ℕ) (bytes : List ℕ) → at + n ≤ length bytes → list_any is_nonzero (field at n bytes) ≡ false → field at n bytes ≡ zeros n
zeros_field at n bytes h e = zeros_from (field at n bytes) e ∙ ap zeros (length-field at n bytes h)

-- ---- fields one behind the other

-- a field is its front and what follows it
pub field-split : (at m n : ℕ) (bytes : List ℕ) → field at (m + n) bytes ≡ field at m bytes ++ field (at + m) n bytes
field-split at m n bytes =
    let all = drop at bytes in
    let front : take m (take (m + n) all) ≡ take m all = take-take m (m + n) all (omega arith) in
    let back : drop m (take (m + n) all) ≡ field (at + m) n bytes = drop-take m n all ∙ ap (take n) (drop-drop m at bytes) in
    sym (take-append-drop m (take (m + n) all)) ∙ cc

-- the fields of these widths from a place on
abbrev pub fields : ℕ → List ℕ → List ℕ → List (List ℕ)
fields at [] bytes = []
fields at (w ∷ ws) bytes = field at w bytes ∷ fields (at + w) ws bytes

abbrev pub sum_of : List ℕ → ℕ
sum_of [] = 0
sum_of (w ∷ ws) = w + sum_of ws

pub concat-fields : (at : ℕ) (ws bytes : List ℕ) → concat (fields at ws bytes) ≡ field at (sum_of ws) bytes
concat-fields at [] bytes = refl
concat-fields at (w ∷ ws) bytes = ap (λ (xs : List ℕ). field at w bytes ++ xs) (concat-fields (at + w) ws bytes) ∙ sym (field-split at w (sum_of ws) bytes)

abbrev pub HaveWidths : List (List ℕ) → List ℕ → Type 0
HaveWidths [] [] = Unit {0}
HaveWidths [] (w ∷ ws) = ⊥
HaveWidths (f ∷ fs) [] = ⊥
HaveWidths (f ∷ fs) (w ∷ ws) = (length f ≡ w) × HaveWidths fs ws

pub fields-concat : (fs : List (List ℕ)) (ws front : List ℕ) (at : ℕ) → length front ≡ at → HaveWidths fs ws → fields at ws (front ++ concat fs) ≡ fs
fields-concat [] [] front at e h = refl
fields-concat [] (w ∷ ws) front at e h = absurd h
fields-concat (f ∷ fs) [] front at e h = absurd h
fields-concat (f ∷ fs) (w ∷ ws) front at e h =
    let there : field at w (front ++ (f ++ concat fs)) ≡ f = ap (take w) (drop_at front (f ++ concat fs) at e) ∙ take_at f (concat fs) w h.0 in
    let longer : length (front ++ f) ≡ at + w = omega (arith, length-append front f, e, h.0) in
    let rest : fields (at + w) ws (front ++ (f ++ concat fs)) ≡ fs =
    ap (fields (at + w) ws) (sym (append_assoc front f (concat fs))) ∙ fields-concat fs ws (front ++ f) (at + w) longer h.1 in
    cc

-- seven fields, joined from the left
pub joined7 : (a b c d e f g : List ℕ) → a ++ b ++ c ++ d ++ e ++ f ++ g ≡ concat (a ∷ b ∷ c ∷ d ∷ e ∷ f ∷ g ∷ [])
joined7 a b c d e f g = simp (append_assoc, append-nil)
