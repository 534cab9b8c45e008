-- The facts of block 0, or of a part, to which no cause applies.
use Rattle.std.proofs.Common.{◌≡◌, ℕ, ◌≤◌, Bool, true, false, not, ◌&&◌, cond, eqb, ltb, List, [], ◌∷◌, ◌++◌, refl, arith, sym, ap, ◌∙◌}
use Rattle.std.specs.Prelude.{None, slice_index}
use Rattle.std.proofs.lemmas.Bool.{eqb-true, ltb-false, ne_eqb}
use Rattle.page_codec.specs.Causes.{Cause, first_cause, has_other}
use Rattle.page_codec.specs.TableReading.{block_count, head_causes, one_causes, two_causes, root_causes, part_causes}
use Rattle.page_codec.specs.TableFacts.{OneFacts, TwoFacts, RootFacts, PartFacts}
use Rattle.page_codec.proofs.CauseLaws.{Clear, none_clear, clear_none, neither, both_false, passes_same, passes_most, passes_if, first_cause-append-none}
use Rattle.page_codec.proofs.FactLaws.{is_same}

-- what is behind causes that do not apply
none_behind : (xs ys : List Cause) → first_cause (xs ++ ys) ≡ None → Clear xs × (first_cause ys ≡ None)
none_behind [] ys e = (tt, e)
none_behind (c ∷ xs) ys e =
    let both = none_clear (c ∷ (xs ++ ys)) e in
    let rest = none_behind xs ys (clear_none (xs ++ ys) both.1) in
    ((both.0, rest.0), rest.1)

-- one of two formats
one_of_two : (n : ℕ) → (not (eqb n 1) && not (eqb n 2)) ≡ false → (1 ≤ n) × (n ≤ 2)
one_of_two n e = by (eqb n 1) refl
  where
    second : (a : Bool) → a ≡ false → (not a && not (eqb n 2)) ≡ false → not (eqb n 2) ≡ false
    second true p q = absurd cc
    second false p q = q

    by : (b : Bool) → eqb n 1 ≡ b → (1 ≤ n) × (n ≤ 2)
    by true h = let is : n ≡ 1 = eqb-true n 1 h in (omega arith, omega arith)
    by false h = let is : n ≡ 2 = is_same n 2 (second (eqb n 1) h e) in (omega arith, omega arith)

chosen_one : (b : Bool) (xs ys : List Cause) → b ≡ true → first_cause (cond b xs ys) ≡ None → first_cause xs ≡ None
chosen_one true xs ys h e = e
chosen_one false xs ys h e = absurd cc

chosen_two : (b : Bool) (xs ys : List Cause) → b ≡ false → first_cause (cond b xs ys) ≡ None → first_cause ys ≡ None
chosen_two true xs ys h e = absurd cc
chosen_two false xs ys h e = e

one_plain : (b : List ℕ) → first_cause (one_causes b) ≡ None → OneFacts b × (slice_index b 3 ≡ 0)
unfolding one_causes
one_plain b e =
    let c = none_clear (one_causes b) e in
    let zero = neither (not (eqb (slice_index b 3) 0)) (has_other 976 1024 b) c.1.1.1.0 in
    (record { far = c.0; counted = c.1.0; stray = c.1.1.0; rest = zero.1 }, is_same (slice_index b 3) 0 zero.0)

two_plain : (b : List ℕ) → first_cause (two_causes b) ≡ None → TwoFacts b × (slice_index b 3 ≡ 0)
unfolding two_causes
two_plain b e =
    let c = none_clear (two_causes b) e in
    let zero = neither (not (eqb (slice_index b 3) 0)) (has_other 272 1024 b) c.1.0 in
    (record { far = c.0; rest = zero.1 }, is_same (slice_index b 3) 0 zero.0)

plain_by : (b : List ℕ) (t : Bool) → first_cause (cond t (one_causes b) (two_causes b)) ≡ None → slice_index b 3 ≡ 0
plain_by b true e = (one_plain b e).1
plain_by b false e = (two_plain b e).1

pub RootFacts-none : (b : List ℕ) → first_cause (root_causes b) ≡ None → RootFacts b
unfolding head_causes
RootFacts-none b e =
    let formats = cond (eqb (slice_index b 2) 1) (one_causes b) (two_causes b) in
    let both = none_behind (head_causes b) formats e in
    let c = both.0 in
    let format = one_of_two (slice_index b 2) c.1.1.0 in
    let count = neither (ltb (block_count b) 2) (ltb 65536 (block_count b)) c.1.1.1.0 in
    record {
      gate = is_same (slice_index b 0) 165 c.0;
      kind = is_same (slice_index b 1) 84 c.1.0;
      first_format = format.0;
      last_format = format.1;
      least = ltb-false (block_count b) 2 count.0;
      most = ltb-false 65536 (block_count b) count.1;
      plain = plain_by b (eqb (slice_index b 2) 1) both.1;
      one = λ h. (one_plain b (chosen_one (eqb (slice_index b 2) 1) (one_causes b) (two_causes b) (ap (λ (n : ℕ). eqb n 1) h) both.1)).0;
      two = λ h. (two_plain b (chosen_two (eqb (slice_index b 2) 1) (one_causes b) (two_causes b) (ne_eqb (slice_index b 2) 1 h) both.1)).0;
    }

-- where the facts hold, no cause applies
one_none : (b : List ℕ) → slice_index b 3 ≡ 0 → OneFacts b → first_cause (one_causes b) ≡ None
unfolding one_causes
one_none b plain facts =
    clear_none (one_causes b) (facts.far, (facts.counted, (facts.stray, (both_false (not (eqb (slice_index b 3) 0)) (has_other 976 1024 b) (passes_same (slice_index b 3) 0 plain) facts.rest, tt))))

two_none : (b : List ℕ) → slice_index b 3 ≡ 0 → TwoFacts b → first_cause (two_causes b) ≡ None
unfolding two_causes
two_none b plain facts =
    clear_none (two_causes b) (facts.far, (both_false (not (eqb (slice_index b 3) 0)) (has_other 272 1024 b) (passes_same (slice_index b 3) 0 plain) facts.rest, tt))

format_passes : (n : ℕ) → 1 ≤ n → n ≤ 2 → (not (eqb n 1) && not (eqb n 2)) ≡ false
format_passes n low high = passes_if (not (eqb n 1)) (not (eqb n 2)) (λ e. passes_same n 2 (other (eqb n 1) refl e))
  where
    other : (b : Bool) → eqb n 1 ≡ b → not b ≡ true → n ≡ 2
    other true h e = absurd cc
    other false h e = let differs : n ≡ 1 → ⊥ = λ same. absurd_of (sym h ∙ ap (λ (k : ℕ). eqb k 1) same) in omega arith
      where
        absurd_of : false ≡ true → ⊥
        absurd_of p = absurd cc

format_none : (b : List ℕ) (t : Bool) → eqb (slice_index b 2) 1 ≡ t → RootFacts b → first_cause (cond t (one_causes b) (two_causes b)) ≡ None
format_none b true e facts = one_none b facts.plain (facts.one (eqb-true (slice_index b 2) 1 e))
format_none b false e facts = two_none b facts.plain (facts.two (λ same. differ e same))
  where
    differ : eqb (slice_index b 2) 1 ≡ false → slice_index b 2 ≡ 1 → ⊥
    differ p q = let r : eqb (slice_index b 2) 1 ≡ true = ap (λ (k : ℕ). eqb k 1) q in absurd cc

pub root_causes-none : (b : List ℕ) → RootFacts b → first_cause (root_causes b) ≡ None
unfolding head_causes
root_causes-none b facts =
    let heads = clear_none (head_causes b) (
      passes_same (slice_index b 0) 165 facts.gate,
      (
        passes_same (slice_index b 1) 84 facts.kind,
        (
          format_passes (slice_index b 2) facts.first_format facts.last_format,
          (both_false (ltb (block_count b) 2) (ltb 65536 (block_count b)) (passes_most (block_count b) 2 facts.least) (passes_most 65536 (block_count b) facts.most), tt),
        ),
      ),
    ) in
    first_cause-append-none (head_causes b) (cond (eqb (slice_index b 2) 1) (one_causes b) (two_causes b)) heads ∙ format_none b (eqb (slice_index b 2) 1) refl facts

pub PartFacts-none : (j : ℕ) (b : List ℕ) → first_cause (part_causes j b) ≡ None → PartFacts j b
unfolding part_causes
PartFacts-none j b e =
    let c = none_clear (part_causes j b) e in
    record {
      gate = is_same (slice_index b 0) 165 c.0;
      kind = is_same (slice_index b 1) 69 c.1.0;
      index = is_same (slice_index b 2) j c.1.1.0;
      far = c.1.1.1.0;
      counted = c.1.1.1.1.0;
      stray = c.1.1.1.1.1.0;
      blank = c.1.1.1.1.1.1.0;
      used = c.1.1.1.1.1.1.1.0;
    }

pub part_causes-none : (j : ℕ) (b : List ℕ) → PartFacts j b → first_cause (part_causes j b) ≡ None
unfolding part_causes
part_causes-none j b facts =
    clear_none (part_causes j b) (
      passes_same (slice_index b 0) 165 facts.gate,
      (
        passes_same (slice_index b 1) 69 facts.kind,
        (
          passes_same (slice_index b 2) j facts.index,
          (facts.far, (facts.counted, (facts.stray, (facts.blank, (facts.used, tt))))),
        ),
      ),
    )
