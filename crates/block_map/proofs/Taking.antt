-- Giving the least free blocks to a client, block by block.
use Rattle.std.proofs.Common.{◌≡◌, ℕ, ◌+◌, ◌-◌, ◌<◌, ◌≤◌, ◌≢◌, ◌⊎◌, inl, inr, Bool, true, false, ltb, cond, List, length, take, set, refl, sym, ◌∙◌, ap, arith, below_more}
use Rattle.std.specs.List.{count_by}
use Rattle.std.proofs.lemmas.List.{length-set, get_or-set_same, get_or-set_other, get_or_past, take_more_set, take_all}
use Rattle.std.proofs.lemmas.List.Sums.{sum_by-set, sum_by_push, count_by_more_yes, count_by_more_no}
use Rattle.std.proofs.lemmas.Bool.{lt-ltb, le-ltb, eq-eqb, ne_eqb, cond-true, cond-false, and_left, and_right, and_from, cases_lt, cases_Bool, both_ways}
use Rattle.block_map.specs.declared.states.BlockState.{BlockState}
use Rattle.block_map.specs.declared.states.BlockState.TheVariants.{Free, Held, Kept}
use Rattle.block_map.specs.States.{is_free, is_held, is_least, state_at, free_count, free_below, held_count, TakesLeast}
use Rattle.block_map.proofs.Counting.{one, count_by-take-mono}

-- the blocks below `at` are dealt with, and `left` are still to be given
pub record TakesBelow (client n : ℕ) (old new : List BlockState) (at left : ℕ) : Type 0 where
  pub size : length new ≡ length old
  pub below : (k : ℕ) → k < at → state_at new k ≡ cond (is_least old n k) (Held client) (state_at old k)
  pub above : (k : ℕ) → at ≤ k → state_at new k ≡ state_at old k
  pub seen : free_below old at + left ≡ n
  pub free : free_count new + n ≡ free_count old + left
  pub held : held_count client new + left ≡ held_count client old + n
  pub others : (c : ℕ) → c ≢ client → held_count c new ≡ held_count c old
  pub none_free : free_below new at ≡ 0

-- below a place below which nothing is free, no block is free
pub none_at : (xs : List BlockState) (k from : ℕ) → k < from → free_below xs from ≡ 0 → is_free (state_at xs k) ≡ false
none_at xs k from h none =
    elim (cases_Bool (is_free (state_at xs k))) [
      | inl was ↦ absurd (some_at xs k from h none was)
      | inr was ↦ was
    ]
  where
    some_at : (xs : List BlockState) (k from : ℕ) → k < from → free_below xs from ≡ 0 → is_free (state_at xs k) ≡ true → ⊥
    some_at xs k from h none was = elim (cases_lt k (length xs)) [
      | inl lt ↦ omega (arith, count_by_more_yes is_free xs k Kept lt was, count_by-take-mono is_free xs (k + 1) from (omega arith))
      | inr le ↦ both_ways (is_free (state_at xs k)) (ap is_free (get_or_past xs k Kept le)) was
    ]

-- a free block is held by nobody
free_not_held : (c : ℕ) (s : BlockState) → is_free s ≡ true → is_held c s ≡ false
free_not_held c Free h = refl
free_not_held c (Held by) h = cc h
free_not_held c Kept h = refl

-- a count after one block has changed
pub count-give : (p : BlockState → Bool) (xs : List BlockState) (i : ℕ) (y : BlockState) → i < length xs
    → count_by p (set xs i y) + one (p (state_at xs i)) ≡ count_by p xs + one (p y)
count-give p xs i y h = sum_by-set (λ x. one (p x)) xs i y Kept h

-- what is free up to and with a block that was given
below_give : (xs : List BlockState) (i : ℕ) (y : BlockState) → i < length xs
    → free_below (set xs i y) (i + 1) ≡ free_below xs i + one (is_free y)
below_give xs i y h =
    ap free_count (take_more_set xs i y h) ∙ sum_by_push (λ x. one (is_free x)) (take i xs) y

-- where no block is left, none is left to give
nothing_left : (client n : ℕ) (old new : List BlockState) (at left : ℕ) → TakesBelow client n old new at left
    → n ≤ free_count old → (left ≡ 0) ⊎ (length new ≤ at) → left ≡ 0
nothing_left client n old new at left t room (inl zero) = zero
nothing_left client n old new at left t room (inr end) =
    omega (arith, ap free_count (take_all at old (omega (arith, t.size))), t.seen)

-- the start: nothing is dealt with yet
pub TakesBelow-start : (client n : ℕ) (xs : List BlockState) (from : ℕ) → free_below xs from ≡ 0 → TakesBelow client n xs xs from n
TakesBelow-start client n xs from none = record {
  size = refl;
  below = λ k h. sym (cond-false (is_least xs n k) _ _ (and_left (is_free (state_at xs k)) _ (none_at xs k from h none)));
  above = λ k h. refl;
  seen = omega arith;
  free = refl;
  held = refl;
  others = λ c h. refl;
  none_free = none;
}

-- a free block is given
pub TakesBelow-give : (client n : ℕ) (old new : List BlockState) (at left : ℕ) → TakesBelow client n old new at left
    → at < length new → 0 < left → is_free (state_at new at) ≡ true
    → TakesBelow client n old (set new at (Held client)) (at + 1) (left - 1)
TakesBelow-give client n old new at left t h some is =
    let was : is_free (state_at old at) ≡ true = sym (ap is_free (t.above at (omega arith))) ∙ is in
    let more = count_by_more_yes is_free old at Kept (omega (arith, t.size)) was in
    let least : is_least old n at ≡ true =
    and_from _ _ was (lt-ltb (free_below old at) n (omega (arith, t.seen))) in
    record {
      size = length-set new at (Held client) ∙ t.size;
      below = below_more (λ k. state_at (set new at (Held client)) k ≡ cond (is_least old n k) (Held client) (state_at old k)) at
          (λ k lt. get_or-set_other new at k (Held client) Kept (omega arith) ∙ t.below k lt)
          (get_or-set_same new at (Held client) Kept h ∙ sym (cond-true (is_least old n at) _ _ least));
      above = λ k le. get_or-set_other new at k (Held client) Kept (omega arith) ∙ t.above k (omega arith);
      seen = omega (arith, more, t.seen);
      free = omega (arith, count-give is_free new at (Held client) h, ap one is, t.free);
      held = omega (arith, count-give (is_held client) new at (Held client) h, ap one (free_not_held client (state_at new at) is), ap one (eq-eqb client client refl), t.held);
      others = λ c ne. omega (arith, count-give (is_held c) new at (Held client) h, ap one (free_not_held c (state_at new at) is), ap one (ne_eqb client c (λ e. ne (sym e))), t.others c ne);
      none_free = below_give new at (Held client) h ∙ omega (arith, t.none_free);
    }

-- a block that is not free is passed
pub TakesBelow-pass : (client n : ℕ) (old new : List BlockState) (at left : ℕ) → TakesBelow client n old new at left
    → at < length new → is_free (state_at new at) ≡ false
    → TakesBelow client n old new (at + 1) left
TakesBelow-pass client n old new at left t h is =
    let was : is_free (state_at old at) ≡ false = sym (ap is_free (t.above at (omega arith))) ∙ is in
    let more = count_by_more_no is_free old at Kept (omega (arith, t.size)) was in
    let here = count_by_more_no is_free new at Kept h is in
    record {
      size = t.size;
      below = below_more (λ k. state_at new k ≡ cond (is_least old n k) (Held client) (state_at old k)) at t.below
          (t.above at (omega arith) ∙ sym (cond-false (is_least old n at) _ _ (and_left _ _ was)));
      above = λ k le. t.above k (omega arith);
      seen = omega (arith, more, t.seen);
      free = t.free;
      held = t.held;
      others = t.others;
      none_free = here ∙ t.none_free;
    }

-- no more is left to give, or no block
pub record Taken (client n : ℕ) (old new : List BlockState) (at : ℕ) : Type 0 where
  pub takes : TakesLeast client n old new
  pub free : free_count new + n ≡ free_count old
  pub held : held_count client new ≡ held_count client old + n
  pub others : (c : ℕ) → c ≢ client → held_count c new ≡ held_count c old
  pub none_free : free_below new at ≡ 0

pub TakesBelow-end : (client n : ℕ) (old new : List BlockState) (at left : ℕ) → TakesBelow client n old new at left
    → n ≤ free_count old → (left ≡ 0) ⊎ (length new ≤ at)
    → Taken client n old new at
TakesBelow-end client n old new at left t room end =
    let none : left ≡ 0 = nothing_left client n old new at left t room end in
    record {
      takes = record {
        size = t.size;
        states = λ k.
            elim (cases_lt k at) [
              | inl lt ↦ t.below k lt
              | inr le ↦ t.above k le ∙ sym (cond-false (is_least old n k) _ _ (and_right (is_free (state_at old k)) (ltb (free_below old k) n)
                  (le-ltb (free_below old k) n (omega (arith, count_by-take-mono is_free old at k le, t.seen)))))
            ];
      };
      free = omega (arith, t.free);
      held = omega (arith, t.held);
      others = t.others;
      none_free = t.none_free;
    }
