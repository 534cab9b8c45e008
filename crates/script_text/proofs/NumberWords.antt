-- A word is read as a number exactly where it is what is printed for it.
use Rattle.std.proofs.Common.{◌≡◌, ℕ, zero, suc, ◌<◌, ◌^◌, Bool, true, false, cond, ◌&&◌, ◌||◌, not, leb, ltb, eqb, List, length, get_or, Option, Some, None, MatchOption, refl, sym, ◌∙◌, ap, arith, rules}
use Rattle.std.specs.List.{list_all, fold}
use Rattle.std.specs.Fmt.{decimal}
use Rattle.std.proofs.lemmas.Fmt.{decimal-digits_value, decimal_injective, digits_decimal, digits_value-decimal, decimal_nonempty, first_decimal, decimal_digit}
use Rattle.std.proofs.lemmas.Str.Parse.{IsNumeralModel, numerals_by_fold}
use Rattle.std.proofs.lemmas.Bool.{leb-true, le-leb, ltb-true, ltb-false, eqb-true, eqb-false}
use Rattle.script_text.specs.Words.{is_digit, is_number, next_digit, number_in, value_of}
use Rattle.script_text.specs.Says.{IsNumber, IsNumberIn}

-- words of digits, and their values
pub own : IsNumeralModel (λ ds. list_all is_digit ds ≡ true) value_of
own = numerals_by_fold (λ ds. list_all is_digit ds ≡ true) (search rules) (λ n ds. fold next_digit n ds) (search rules)

-- decimal digits without a leading zero
pub record AreDigits (word : List ℕ) : Type 0 where
  pub each : list_all is_digit word ≡ true
  pub some : 0 < length word
  pub first : get_or word 0 0 ≡ 48 → length word ≡ 1

digits_of_number : (word : List ℕ) → is_number word ≡ true → AreDigits word
digits_of_number word e = by (list_all is_digit word) (eqb (length word) 1) (ltb 1 (length word)) (eqb (get_or word 0 0) 48) refl refl refl refl e
  where
    by : (a b c d : Bool) → list_all is_digit word ≡ a → eqb (length word) 1 ≡ b → ltb 1 (length word) ≡ c → eqb (get_or word 0 0) 48 ≡ d
        → (a && (b || (c && not d))) ≡ true → AreDigits word
    by true true c d each p q r h = let one = eqb-true (length word) 1 p in record { each = each; some = omega arith; first = λ z. one }
    by true false true false each p q r h = let more = ltb-true 1 (length word) q in record { each = each; some = omega arith; first = λ z. absurd (eqb-false (get_or word 0 0) 48 r z) }
    by true false true true each p q r h = cc
    by true false false d each p q r h = cc
    by false b c d each p q r h = cc

number_of_digits : (word : List ℕ) → AreDigits word → is_number word ≡ true
number_of_digits word d = by (list_all is_digit word) (eqb (length word) 1) (ltb 1 (length word)) (eqb (get_or word 0 0) 48) d.each refl refl refl
  where
    by : (a b c e : Bool) → a ≡ true → eqb (length word) 1 ≡ b → ltb 1 (length word) ≡ c → eqb (get_or word 0 0) 48 ≡ e
        → (a && (b || (c && not e))) ≡ true
    by true true c e h p q r = refl
    by true false true false h p q r = refl
    by true false true true h p q r = absurd (eqb-false (length word) 1 p (d.first (eqb-true (get_or word 0 0) 48 r)))
    by true false false e h p q r =
        let other = eqb-false (length word) 1 p in
        let few = ltb-false 1 (length word) q in
        let some = d.some in
        absurd (omega (arith, other))
    by false b c e h p q r = cc

-- what is printed for a number
decimal_first : (n : ℕ) → n < 2 ^ 64 → get_or (decimal n) 0 0 ≡ 48 → length (decimal n) ≡ 1
decimal_first zero small e = ap (λ ds. length ds) (decimal_digit 0 (omega arith))
decimal_first (suc n) small e = absurd (omega (arith, first_decimal (suc n) (omega arith) small))

pub AreDigits-decimal : (n : ℕ) → n < 2 ^ 64 → AreDigits (decimal n)
AreDigits-decimal n small = record { each = digits_decimal own n small; some = decimal_nonempty n small; first = decimal_first n small }

-- a word that is read
pub IsNumberIn-from_read : (low high : ℕ) (word : List ℕ) (n : ℕ) → high < 2 ^ 64 → number_in low high word ≡ Some n → IsNumberIn low high word n
IsNumberIn-from_read low high word n fits e = by (is_number word) (leb low (value_of word)) (leb (value_of word) high) refl refl refl e
  where
    by : (a b c : Bool) → is_number word ≡ a → leb low (value_of word) ≡ b → leb (value_of word) high ≡ c
        → cond (a && (b && c)) (Some (value_of word)) None ≡ Some n → IsNumberIn low high word n
    by true true true p q r h =
        let same : value_of word ≡ n = cc in
        let d = digits_of_number word p in
        let least = leb-true low (value_of word) q in
        let most = leb-true (value_of word) high r in
        let text : decimal (value_of word) ≡ word = decimal-digits_value own word d.each d.some d.first (omega arith) in
        record { number = sym text ∙ ap decimal same; least = omega arith; most = omega arith }
    by true true false p q r h = cc
    by true false c p q r h = cc
    by false b c p q r h = cc

-- a word that says a number
pub read-from_IsNumberIn : (low high : ℕ) (word : List ℕ) (n : ℕ) → high < 2 ^ 64 → IsNumberIn low high word n → number_in low high word ≡ Some n
read-from_IsNumberIn low high word n fits says =
    let least = says.least in
    let most = says.most in
    let small : n < 2 ^ 64 = omega arith in
    let value : value_of (decimal n) ≡ n = digits_value-decimal own n small in
    let all : number_in low high (decimal n) ≡ Some n =
    chosen (is_number (decimal n)) (leb low (value_of (decimal n))) (leb (value_of (decimal n)) high) (value_of (decimal n))
    (number_of_digits (decimal n) (AreDigits-decimal n small)) (le-leb low (value_of (decimal n)) (omega arith)) (le-leb (value_of (decimal n)) high (omega arith))
    ∙ ap (λ v. Some v) value in
    ap (number_in low high) says.number ∙ all
  where
    chosen : (a b c : Bool) (v : ℕ) → a ≡ true → b ≡ true → c ≡ true → cond (a && (b && c)) (Some v) None ≡ Some v
    chosen true true true v p q r = refl
    chosen true true false v p q r = cc
    chosen true false c v p q r = cc
    chosen false b c v p q r = cc

-- what is read says what the word says
pub number_says : (low high : ℕ) (word : List ℕ) (o : Option ℕ) → high < 2 ^ 64 → o ≡ number_in low high word
    → MatchOption o ((n : ℕ) → IsNumberIn low high word n → ⊥) (IsNumberIn low high word)
number_says low high word None fits is = λ n says.
    let both : None ≡ Some n = is ∙ read-from_IsNumberIn low high word n fits says in cc
number_says low high word (Some n) fits is = IsNumberIn-from_read low high word n fits (sym is)

-- a word is one number at most
pub same_number : (word : List ℕ) (m n : ℕ) → m < 2 ^ 64 → n < 2 ^ 64 → IsNumber word m → IsNumber word n → m ≡ n
same_number word m n fits also one other = decimal_injective m n fits also (sym one ∙ other)
