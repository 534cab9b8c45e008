-- The facts of a block to which no cause applies.
use Rattle.std.proofs.Common.{◌≡◌, ℕ, ◌+◌, ◌*◌, ◌^◌, ◌≤◌, Bool, true, false, not, ◌||◌, ◌&&◌, eqb, ltb, leb, List, refl, arith}
use Rattle.std.specs.Prelude.{None, slice_index}
use Rattle.std.specs.List.{list_any}
use Rattle.std.specs.Int.{w32, w64}
use Rattle.std.proofs.lemmas.Bool.{eqb-true, eqb-false, ltb-false, leb-false}
use Rattle.page_codec.specs.Numbers.{number_at}
use Rattle.page_codec.specs.Reading.{slots, data_len, members_value}
use Rattle.page_codec.specs.Causes.{first_cause, page_causes, version_causes, is_no_code, is_dangling, is_nonzero, has_other, has_other_past, is_bad_member}
use Rattle.page_codec.specs.Facts.{PageFacts, VersionFacts}
use Rattle.page_codec.proofs.CauseLaws.{none_clear, neither}

-- a test that two numbers differ is false only where they are equal
pub is_same : (m n : ℕ) → not (eqb m n) ≡ false → m ≡ n
is_same m n e = eqb-true m n (not_false (eqb m n) e)
  where
    not_false : (b : Bool) → not b ≡ false → b ≡ true
    not_false true h = refl
    not_false false h = absurd cc

-- a number that is not 0 is at least 1
pub is_positive : (n : ℕ) → eqb n 0 ≡ false → 1 ≤ n
is_positive n e = let h : n ≡ 0 → ⊥ = eqb-false n 0 e in omega arith

second_if : (b c : Bool) → b ≡ true → (b && c) ≡ false → c ≡ false
second_if true c e f = f
second_if false c e f = absurd cc

at_seven : (level : ℕ) (used : Bool) → (eqb level 7 && used) ≡ false → level ≡ 7 → used ≡ false
at_seven level used e h = second_if (eqb level 7) used (rw h refl) e

pub PageFacts-none : (b : List ℕ) → first_cause (page_causes b) ≡ None → PageFacts b
unfolding page_causes
PageFacts-none b e =
    let c = none_clear (page_causes b) e in
    let level = neither (eqb (slice_index b 2) 0) (ltb 7 (slice_index b 2)) c.1.1.0 in
    let code = neither (not (eqb (slice_index b 3) 0)) (list_any is_no_code (slots b)) c.1.1.1.0 in
    let slot = neither (list_any is_dangling (slots b)) (eqb (slice_index b 2) 7 && list_any is_nonzero (slots b)) c.1.1.1.1.0 in
    let zero = neither (has_other 70 219 b) (has_other_past b) c.1.1.1.1.1.1.0 in
    record {
      frame = record {
        gate = is_same (slice_index b 0) 165 c.0;
        depth = ltb-false 7 (slice_index b 2) level.1;
        coded = code.1;
        named = slot.0;
        leaf = at_seven (slice_index b 2) (list_any is_nonzero (slots b)) slot.1;
        short = ltb-false 800 (data_len b) c.1.1.1.1.1.0;
        past = zero.1;
      };
      kind = is_same (slice_index b 1) 80 c.1.0;
      below = is_positive (slice_index b 2) level.0;
      plain = is_same (slice_index b 3) 0 code.0;
      middle = zero.0;
    }

pub VersionFacts-none : (b : List ℕ) → first_cause (version_causes b) ≡ None → VersionFacts b
unfolding version_causes
VersionFacts-none b e =
    let c = none_clear (version_causes b) e in
    let top : slice_index b 2 ≡ 0 = is_same (slice_index b 2) 0 c.1.1.0 in
    let code = neither (ltb 12 (slice_index b 3)) (list_any is_no_code (slots b)) c.1.1.1.0 in
    let block = neither (list_any is_dangling (slots b)) (leb (2 ^ 28) (number_at w32 82 b) || leb (2 ^ 28) (number_at w32 86 b)) c.1.1.1.1.0 in
    let links = neither (leb (2 ^ 28) (number_at w32 82 b)) (leb (2 ^ 28) (number_at w32 86 b)) block.1 in
    let members = neither (ltb 16 (slice_index b 90)) (list_any is_bad_member (members_value b)) c.1.1.1.1.1.1.1.1.0 in
    let zero = neither (has_other (91 + 8 * slice_index b 90) 219 b) (has_other_past b) c.1.1.1.1.1.1.1.1.1.0 in
    record {
      frame = record {
        gate = is_same (slice_index b 0) 165 c.0;
        depth = omega arith;
        coded = code.1;
        named = block.0;
        leaf = λ seven. absurd (omega arith);
        short = ltb-false 800 (data_len b) c.1.1.1.1.1.0;
        past = zero.1;
      };
      kind = is_same (slice_index b 1) 86 c.1.0;
      top = top;
      code = ltb-false 12 (slice_index b 3) code.0;
      commit = leb-false (2 ^ 28) (number_at w32 82 b) links.0;
      base = leb-false (2 ^ 28) (number_at w32 86 b) links.1;
      object = is_positive (number_at w32 70 b) c.1.1.1.1.1.1.0;
      serial = is_positive (number_at w64 74 b) c.1.1.1.1.1.1.1.0;
      count = ltb-false 16 (slice_index b 90) members.0;
      each = members.1;
      rest = zero.0;
    }
