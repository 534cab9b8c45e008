-- A text in which nothing is found that is no digit is all digits.
use Rattle.std.proofs.Common.{◌≡◌, ℕ, ◌-◌, Bool, true, false, ◌&&◌, ◌||◌, cond, not, eqb, ltb, nat_le, get_or, List, length, Some, None, is_some, refl, arith}
use Rattle.std.specs.Char.{is_ascii_hexdigit}
use Rattle.std.specs.List.{AllPass, position, position_or_len}
use Rattle.std.specs.Result.{IsOk}
use Rattle.std.proofs.lemmas.Bool.{ltb-false, eqb-true}
use Rattle.std.proofs.lemmas.List.Sums.{prefix_len_passes}
use Rattle.hex.specs.Hex.{is_hex_digit, decode_sized}
use Rattle.hex.proofs.HexLemmas.{IsOk-decode_sized}
use Rattle.caps.specs.Capability.{bad_place}

not_not : (b : Bool) → not (not b) ≡ true → b ≡ true
not_not true h = refl
not_not false h = cc h

-- nothing was found, so the front goes to the end
not_found : (b : Bool) (n : ℕ) → cond b (Some n) None ≡ None → b ≡ false
not_found true n h = cc h
not_found false n h = refl

-- a list in which no element fails passes
pub AllPass-from_position : {X : Type 0} (p : X → Bool) (xs : List X) → position (λ c. not (p c)) xs ≡ None → AllPass p xs
AllPass-from_position p xs h =
    let far = ltb-false _ _ (not_found (ltb (position_or_len (λ c. not (p c)) xs) (length xs)) _ h) in
    λ k d lt. not_not (p (get_or xs k d)) (prefix_len_passes (λ c. not (not (p c))) xs k d (omega arith))

-- a text that fails nowhere is 32 digits
sized : (text : List ℕ) (b : Bool) → eqb (length text) 32 ≡ b
    → cond b (position (λ c. not (is_hex_digit c)) text) (Some (length text)) ≡ None
    → (length text ≡ 32) × AllPass is_hex_digit text
sized text true e h = (eqb-true _ _ e, AllPass-from_position is_hex_digit text h)
sized text false e h = cc h

-- a text that fails nowhere decodes
pub IsOk-from_bad_place : (text : List ℕ) → bad_place text ≡ None → IsOk (decode_sized text 16)
IsOk-from_bad_place text h =
    (IsOk-decode_sized text 16).1 (sized text (eqb (length text) 32) refl h)

any_of : (d u l : Bool) (x y z : ℕ) → (d || u) || l ≡ is_some (cond u (Some x) (cond l (Some y) (cond d (Some z) None)))
any_of true true l x y z = refl
any_of true false true x y z = refl
any_of true false false x y z = refl
any_of false true l x y z = refl
any_of false false true x y z = refl
any_of false false false x y z = refl

-- the digits that std knows are those that are decoded
pub is_ascii_hexdigit-is_hex_digit : (c : ℕ) → is_ascii_hexdigit c ≡ is_hex_digit c
is_ascii_hexdigit-is_hex_digit c =
    any_of (nat_le 48 c && nat_le c 57) (nat_le 65 c && nat_le c 70) (nat_le 97 c && nat_le c 102) (c - 55) (c - 87) (c - 48)
