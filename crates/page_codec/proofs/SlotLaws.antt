-- Slots as numbers and as references.
use Rattle.std.proofs.Common.{◌≡◌, ℕ, ◌+◌, ◌*◌, ◌/◌, ◌%◌, ◌^◌, ◌<◌, ◌≤◌, Bool, true, false, not, ◌&&◌, eqb, cond, List, [], ◌∷◌, map, refl, sym, ap, subst, ◌∙◌, arith}
use Rattle.std.specs.Prelude.{Option, Some, None, IfSome, IfNone, is_some}
use Rattle.std.specs.List.{list_any, AllByRecursion}
use Rattle.std.proofs.lemmas.Bool.{ltb-false, le-ltb, eqb-true, ne_eqb, eqb-false}
use Rattle.ref_flags.specs.Flagged.{Flagged}
use Rattle.ref_flags.specs.Codes.{code_of, flags_of}
use Rattle.ref_flags.proofs.CodeLaws.{flags_of-code_of, code_of-le, code_of-flags_of, is_lawful-flags_of}
use Rattle.page_codec.specs.Numbers.{or_zero, or_none}
use Rattle.page_codec.specs.Values.{ReferenceValue}
use Rattle.page_codec.specs.Bounds.{IsNamed, IsReference, is_used}
use Rattle.page_codec.specs.Spelling.{reference_number}
use Rattle.page_codec.specs.Reading.{reference}
use Rattle.page_codec.specs.Causes.{is_no_code, is_dangling, is_nonzero}
use Rattle.page_codec.proofs.CauseLaws.{neither}
use Rattle.page_codec.proofs.ByteLaws.{is_zero}

-- ---- a block number, or none

or_none_by : (n : ℕ) (b : Bool) → eqb n 0 ≡ b → IsNamed (cond b None (Some n))
or_none_by n true e = tt
or_none_by n false e = let some : n ≡ 0 → ⊥ = eqb-false n 0 e in omega arith

pub IsNamed-or_none : (n : ℕ) → IsNamed (or_none n)
IsNamed-or_none n = or_none_by n (eqb n 0) refl

below_by : (n limit : ℕ) (b : Bool) → n < limit → IfSome (cond b None (Some n)) (λ m. m < limit)
below_by n limit true h = tt
below_by n limit false h = h

pub or_none-below : (n limit : ℕ) → n < limit → IfSome (or_none n) (λ m. m < limit)
or_none-below n limit h = below_by n limit (eqb n 0) h

zero_by : (n : ℕ) (b : Bool) → eqb n 0 ≡ b → or_zero (cond b None (Some n)) ≡ n
zero_by n true e = sym (eqb-true n 0 e)
zero_by n false e = refl

pub or_zero-or_none : (n : ℕ) → or_zero (or_none n) ≡ n
or_zero-or_none n = zero_by n (eqb n 0) refl

pub or_none-or_zero : (o : Option ℕ) → IsNamed o → or_none (or_zero o) ≡ o
or_none-or_zero None h = refl
or_none-or_zero (Some n) h = let some : eqb n 0 ≡ false = ne_eqb n 0 (λ e. omega arith) in rw some refl

pub or_zero-below : (o : Option ℕ) (limit : ℕ) → 0 < limit → IfSome o (λ n. n < limit) → or_zero o < limit
or_zero-below None limit p h = p
or_zero-below (Some n) limit p h = h

-- ---- from a number to a reference

-- the number has a code of the table, and a block where the code is not 0
pub record IsSlot (n : ℕ) : Type 0 where
  pub below : n < 2 ^ 32
  pub coded : is_no_code n ≡ false
  pub named : is_dangling n ≡ false

second_of : (a b : Bool) → a ≡ true → (a && b) ≡ false → b ≡ false
second_of true b e f = f
second_of false b e f = absurd cc

empty_by : (k : ℕ) (f : Flagged) (b : Bool) → eqb k 0 ≡ b → (k ≡ 0 → f.copied ≡ false) → IfNone (cond b None (Some k)) (f.copied ≡ false)
empty_by k f true e h = h (eqb-true k 0 e)
empty_by k f false e h = tt

pub IsReference-reference : (n : ℕ) → IsSlot n → IsReference (reference n)
IsReference-reference n slot =
    let code : n / 2 ^ 28 ≤ 12 = ltb-false 12 (n / 2 ^ 28) slot.coded in
    let plain : n % 2 ^ 28 ≡ 0 → (flags_of (n / 2 ^ 28)).copied ≡ false =
    λ e. let zero_code : n / 2 ^ 28 ≡ 0 = is_zero (n / 2 ^ 28) (second_of (eqb (n % 2 ^ 28) 0) (not (eqb (n / 2 ^ 28) 0)) (rw e refl) slot.named) in
    ap (λ (m : ℕ). (flags_of m).copied) zero_code in
    record {
      sound = record {
        named = IsNamed-or_none (n % 2 ^ 28);
        empty = empty_by (n % 2 ^ 28) (flags_of (n / 2 ^ 28)) (eqb (n % 2 ^ 28) 0) refl plain;
      };
      lawful = is_lawful-flags_of (n / 2 ^ 28) code;
      below = or_none-below (n % 2 ^ 28) (2 ^ 28) (omega arith);
    }

pub reference_number-reference : (n : ℕ) → IsSlot n → reference_number (reference n) ≡ n
reference_number-reference n slot =
    let code : code_of (flags_of (n / 2 ^ 28)) ≡ n / 2 ^ 28 = code_of-flags_of (n / 2 ^ 28) (ltb-false 12 (n / 2 ^ 28) slot.coded) in
    let block : or_zero (or_none (n % 2 ^ 28)) ≡ n % 2 ^ 28 = or_zero-or_none (n % 2 ^ 28) in
    omega (arith, code, block)

-- the slots of a page, whose tests were all false
pub slots_are : (ns : List ℕ) → AllByRecursion (λ n. n < 2 ^ 32) ns → list_any is_no_code ns ≡ false → list_any is_dangling ns ≡ false → AllByRecursion IsSlot ns
slots_are [] b c d = tt
slots_are (n ∷ ns) b c d =
    let code = neither (is_no_code n) (list_any is_no_code ns) c in
    let name = neither (is_dangling n) (list_any is_dangling ns) d in
    (record { below = b.0; coded = code.0; named = name.0 }, slots_are ns b.1 code.1 name.1)

pub references_spelled : (ns : List ℕ) → AllByRecursion IsSlot ns → AllByRecursion IsReference (map reference ns)
references_spelled [] h = tt
references_spelled (n ∷ ns) h = (IsReference-reference n h.0, references_spelled ns h.1)

pub references_back : (ns : List ℕ) → AllByRecursion IsSlot ns → map reference_number (map reference ns) ≡ ns
references_back [] h = refl
references_back (n ∷ ns) h = let first = reference_number-reference n h.0 in let others = references_back ns h.1 in cc

unused_by : (n : ℕ) → n ≡ 0 → is_used (reference n) ≡ false
unused_by n e = subst (λ (m : ℕ). is_used (reference m) ≡ false) (sym e) refl

pub unused_references : (ns : List ℕ) → list_any is_nonzero ns ≡ false → list_any is_used (map reference ns) ≡ false
unused_references [] e = refl
unused_references (n ∷ ns) e =
    let both = neither (is_nonzero n) (list_any is_nonzero ns) e in
    let first = unused_by n (is_zero n both.0) in
    rw first (unused_references ns both.1)

-- ---- from a reference to a number

pub record IsNumbered (r : ReferenceValue) (n : ℕ) : Type 0 where
  pub slot : IsSlot n
  pub again : reference n ≡ r
  pub unused : is_used r ≡ false → is_nonzero n ≡ false

plain_code : (f : Flagged) → f.copied ≡ false → code_of f ≡ 0
plain_code f e = rw e refl

no_second : (a b : Bool) → b ≡ false → (a && b) ≡ false
no_second true b e = e
no_second false b e = refl

no_first : (a b : Bool) → a ≡ false → (a && b) ≡ false
no_first true b e = absurd cc
no_first false b e = refl

dangles : (f : Flagged) (o : Option ℕ) (n : ℕ) → IsNamed o → IfNone o (f.copied ≡ false) → n % 2 ^ 28 ≡ or_zero o → n / 2 ^ 28 ≡ code_of f → is_dangling n ≡ false
dangles f None n named empty low high =
    no_second (eqb (n % 2 ^ 28) 0) (not (eqb (n / 2 ^ 28) 0)) (ap (λ (m : ℕ). not (eqb m 0)) (high ∙ plain_code f empty))
dangles f (Some m) n named empty low high =
    no_first (eqb (n % 2 ^ 28) 0) (not (eqb (n / 2 ^ 28) 0)) (ap (λ (k : ℕ). eqb k 0) low ∙ ne_eqb m 0 (λ e. omega arith))

idle : (f : Flagged) (o : Option ℕ) → IfNone o (f.copied ≡ false) → is_some o ≡ false → code_of f * 2 ^ 28 + or_zero o ≡ 0
idle f None empty e = let none : code_of f ≡ 0 = plain_code f empty in omega arith
idle f (Some m) empty e = absurd cc

pub IsNumbered-reference_number : (r : ReferenceValue) → IsReference r → IsNumbered r (reference_number r)
IsNumbered-reference_number r h =
    let code : code_of r.flags ≤ 12 = code_of-le r.flags h.lawful in
    let block : or_zero r.block < 2 ^ 28 = or_zero-below r.block (2 ^ 28) (omega arith) h.below in
    let high : reference_number r / 2 ^ 28 ≡ code_of r.flags = omega arith in
    let low : reference_number r % 2 ^ 28 ≡ or_zero r.block = omega arith in
    let small : reference_number r / 2 ^ 28 ≤ 12 = omega (arith, high, code) in
    let flags : flags_of (reference_number r / 2 ^ 28) ≡ r.flags = ap flags_of high ∙ flags_of-code_of r.flags h.lawful in
    let named : or_none (reference_number r % 2 ^ 28) ≡ r.block = ap or_none low ∙ or_none-or_zero r.block h.sound.named in
    record {
      slot = record {
        below = omega arith;
        coded = le-ltb _ _ small;
        named = dangles r.flags r.block (reference_number r) h.sound.named h.sound.empty low high;
      };
      again = ap (λ (p : Flagged × Option ℕ). record { flags = p.0; block = p.1 }) (pair flags named);
      unused = λ e. ap (λ (m : ℕ). not (eqb m 0)) (idle r.flags r.block h.sound.empty e);
    }
  where
    pair : {a b : Flagged} {o p : Option ℕ} → a ≡ b → o ≡ p → (let l : Flagged × Option ℕ = (a, o) in l) ≡ (b, p)
    pair e f = cc

pub numbers_are_slots : (rs : List ReferenceValue) → AllByRecursion IsReference rs → AllByRecursion IsSlot (map reference_number rs)
numbers_are_slots [] h = tt
numbers_are_slots (r ∷ rs) h = ((IsNumbered-reference_number r h.0).slot, numbers_are_slots rs h.1)

pub numbers_again : (rs : List ReferenceValue) → AllByRecursion IsReference rs → map reference (map reference_number rs) ≡ rs
numbers_again [] h = refl
numbers_again (r ∷ rs) h = let first = (IsNumbered-reference_number r h.0).again in let others = numbers_again rs h.1 in cc

pub slots_pass_codes : (ns : List ℕ) → AllByRecursion IsSlot ns → list_any is_no_code ns ≡ false
slots_pass_codes [] h = refl
slots_pass_codes (n ∷ ns) h = rw h.0.coded (slots_pass_codes ns h.1)

pub slots_pass_names : (ns : List ℕ) → AllByRecursion IsSlot ns → list_any is_dangling ns ≡ false
slots_pass_names [] h = refl
slots_pass_names (n ∷ ns) h = rw h.0.named (slots_pass_names ns h.1)

pub numbers_unused : (rs : List ReferenceValue) → AllByRecursion IsReference rs → list_any is_used rs ≡ false → list_any is_nonzero (map reference_number rs) ≡ false
numbers_unused [] h e = refl
numbers_unused (r ∷ rs) h e =
    let both = neither (is_used r) (list_any is_used rs) e in
    rw ((IsNumbered-reference_number r h.0).unused both.0) (numbers_unused rs h.1 both.1)
