-- Members as bytes.
use Rattle.std.proofs.Common.{◌≡◌, ℕ, ◌^◌, ◌<◌, false, ◌||◌, eqb, leb, List, [], ◌∷◌, ◌++◌, length, take, drop, refl, sym, ap, ◌∙◌, arith}
use Rattle.std.specs.List.{list_any, AllByRecursion}
use Rattle.std.specs.Int.{w32}
use Rattle.std.proofs.lemmas.Bool.{leb-false}
use Rattle.std.proofs.lemmas.List.{take_all, take_at, drop_at, length-append}
use Rattle.page_codec.specs.Numbers.{big_endian, field, number_at}
use Rattle.page_codec.specs.Values.{MemberValue}
use Rattle.page_codec.specs.Bounds.{IsMember}
use Rattle.page_codec.specs.Spelling.{member_bytes}
use Rattle.page_codec.specs.Reading.{member_value}
use Rattle.page_codec.specs.Causes.{is_bad_member}
use Rattle.page_codec.proofs.CauseLaws.{neither, both_false, passes_positive, passes_below}
use Rattle.page_codec.proofs.FactLaws.{is_positive}
use Rattle.page_codec.proofs.ByteLaws.{wide32, length-big_endian, big_endian-number_at, number_at-lt, number_at-big_endian, field-split}
use Rattle.page_codec.proofs.PieceLaws.{IsSpelled}

-- a member whose numbers have four bytes
pub record HasNumbers (m : MemberValue) : Type 0 where
  pub object_below : m.object < 2 ^ 32
  pub block_below : m.block < 2 ^ 32

pub length-member_bytes : (m : MemberValue) → length (member_bytes m) ≡ 8
length-member_bytes m = omega (arith, length-append (big_endian w32 m.object) (big_endian w32 m.block), length-big_endian w32 (2 ^ 32) wide32 m.object, length-big_endian w32 (2 ^ 32) wide32 m.block)

two_numbers : (a b : ℕ) (bytes : List ℕ) → a < 2 ^ 32 → b < 2 ^ 32 → bytes ≡ big_endian w32 a ++ big_endian w32 b → (number_at w32 0 bytes ≡ a) × (number_at w32 4 bytes ≡ b)
two_numbers a b bytes ha hb e =
    let la = length-big_endian w32 (2 ^ 32) wide32 a in
    let lb = length-big_endian w32 (2 ^ 32) wide32 b in
    let first : field 0 4 bytes ≡ big_endian w32 a = ap (take 4) e ∙ take_at (big_endian w32 a) (big_endian w32 b) 4 la in
    let second : field 4 4 bytes ≡ big_endian w32 b = ap (λ (x : List ℕ). take 4 (drop 4 x)) e ∙ ap (take 4) (drop_at (big_endian w32 a) (big_endian w32 b) 4 la) ∙ take_all 4 (big_endian w32 b) (omega (arith, lb)) in
    (number_at-big_endian w32 (2 ^ 32) wide32 0 a bytes ha first, number_at-big_endian w32 (2 ^ 32) wide32 4 b bytes hb second)

same_member : (a b c d : ℕ) → a ≡ c → b ≡ d → (let n : MemberValue = record { object = a; block = b } in n) ≡ record { object = c; block = d }
same_member a b c d e f = cc

pub member_law : IsSpelled 8 member_value member_bytes HasNumbers
member_law = record {
  read = λ bytes size fits. (
    ap (λ (x : List ℕ). x ++ big_endian w32 (number_at w32 4 bytes)) (big_endian-number_at w32 (2 ^ 32) wide32 0 bytes fits (omega arith))
        ∙ ap (λ (x : List ℕ). field 0 4 bytes ++ x) (big_endian-number_at w32 (2 ^ 32) wide32 4 bytes fits (omega arith))
        ∙ sym (field-split 0 4 4 bytes) ∙ take_all 8 bytes (omega arith),
    record { object_below = number_at-lt w32 (2 ^ 32) wide32 0 bytes fits; block_below = number_at-lt w32 (2 ^ 32) wide32 4 bytes fits },
  );
  width = λ m _. length-member_bytes m;
  again = λ m h. let both = two_numbers m.object m.block (member_bytes m) h.object_below h.block_below refl in same_member (number_at w32 0 (member_bytes m)) (number_at w32 4 (member_bytes m)) m.object m.block both.0 both.1;
}

-- members of which none is bad
pub members_good : (ms : List MemberValue) → AllByRecursion HasNumbers ms → list_any is_bad_member ms ≡ false → AllByRecursion IsMember ms
members_good [] h e = tt
members_good (m ∷ ms) h e =
    let both = neither (is_bad_member m) (list_any is_bad_member ms) e in
    let here = neither (eqb m.object 0) (eqb m.block 0 || leb (2 ^ 28) m.block) both.0 in
    let block = neither (eqb m.block 0) (leb (2 ^ 28) m.block) here.1 in (
      record {
        sound = record { object = is_positive m.object here.0; block = is_positive m.block block.0 };
        object_below = h.0.object_below;
        block_below = leb-false (2 ^ 28) m.block block.1;
      },
      members_good ms h.1 both.1,
    )

pub members_numbers : (ms : List MemberValue) → AllByRecursion IsMember ms → AllByRecursion HasNumbers ms
members_numbers [] h = tt
members_numbers (m ∷ ms) h = let small : m.block < 2 ^ 28 = h.0.block_below in (record { object_below = h.0.object_below; block_below = omega arith }, members_numbers ms h.1)

pub members_pass : (ms : List MemberValue) → AllByRecursion IsMember ms → list_any is_bad_member ms ≡ false
members_pass [] h = refl
members_pass (m ∷ ms) h =
    both_false (is_bad_member m) (list_any is_bad_member ms)
    (both_false (eqb m.object 0) (eqb m.block 0 || leb (2 ^ 28) m.block) (passes_positive m.object h.0.sound.object)
    (both_false (eqb m.block 0) (leb (2 ^ 28) m.block) (passes_positive m.block h.0.sound.block) (passes_below (2 ^ 28) m.block h.0.block_below)))
    (members_pass ms h.1)
