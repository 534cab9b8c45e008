-- Changing the state of what a client holds, block by block.
use Rattle.std.proofs.Common.{◌≡◌, ℕ, ◌+◌, ◌<◌, ◌≤◌, ◌≢◌, Bool, true, false, ◌||◌, cond, min, List, length, take, set, refl, sym, ◌∙◌, ap, arith, below_more}
use Rattle.std.specs.List.{count_by}
use Rattle.std.proofs.lemmas.List.{length-set, length-take, get_or-take, get_or-set_same, get_or-set_other, get_or_past, take_all}
use Rattle.std.proofs.lemmas.List.Sums.{count_by_more_yes, count_by_more_no}
use Rattle.std.proofs.lemmas.Bool.{cond-true, cond-false, eqb-true, ne_eqb, cases_lt}
use Rattle.std.proofs.Common.{inl, inr, eqb}
use Rattle.block_map.specs.declared.states.BlockState.{BlockState}
use Rattle.block_map.specs.declared.states.BlockState.TheVariants.{Free, Held, Kept}
use Rattle.block_map.specs.States.{is_free, is_held, state_at, free_count, held_count, held_below, Replaces}
use Rattle.block_map.proofs.Counting.{count_by-pointwise, count_by-either, count_by-none}

-- the blocks below `at` are dealt with, and `count` of them were held
pub record ReplacesBelow (client : ℕ) (by : BlockState) (old new : List BlockState) (at count : ℕ) : Type 0 where
  pub size : length new ≡ length old
  pub below : (k : ℕ) → k < at → state_at new k ≡ cond (is_held client (state_at old k)) by (state_at old k)
  pub above : (k : ℕ) → at ≤ k → state_at new k ≡ state_at old k
  pub tally : count ≡ held_below client old at

pub ReplacesBelow-start : (client : ℕ) (by : BlockState) (xs : List BlockState) → ReplacesBelow client by xs xs 0 0
ReplacesBelow-start client by xs = record {
  size = refl;
  below = λ k h. absurd (omega arith);
  above = λ k h. refl;
  tally = refl;
}

-- a block that is held
pub ReplacesBelow-held : (client : ℕ) (by : BlockState) (old new : List BlockState) (at count : ℕ) → ReplacesBelow client by old new at count
    → at < length new → is_held client (state_at new at) ≡ true
    → ReplacesBelow client by old (set new at by) (at + 1) (count + 1)
ReplacesBelow-held client by old new at count r h is =
    let was : is_held client (state_at old at) ≡ true = sym (ap (is_held client) (r.above at (omega arith))) ∙ is in
    record {
      size = length-set new at by ∙ r.size;
      below = below_more (λ k. state_at (set new at by) k ≡ cond (is_held client (state_at old k)) by (state_at old k)) at
          (λ k lt. get_or-set_other new at k by Kept (omega arith) ∙ r.below k lt)
          (get_or-set_same new at by Kept h ∙ sym (cond-true _ _ _ was));
      above = λ k le. get_or-set_other new at k by Kept (omega arith) ∙ r.above k (omega arith);
      tally = omega (arith, r.tally, count_by_more_yes (is_held client) old at Kept (omega (arith, r.size)) was);
    }

-- another block
pub ReplacesBelow-other : (client : ℕ) (by : BlockState) (old new : List BlockState) (at count : ℕ) → ReplacesBelow client by old new at count
    → at < length new → is_held client (state_at new at) ≡ false
    → ReplacesBelow client by old new (at + 1) count
ReplacesBelow-other client by old new at count r h is =
    let was : is_held client (state_at old at) ≡ false = sym (ap (is_held client) (r.above at (omega arith))) ∙ is in
    record {
      size = r.size;
      below = below_more (λ k. state_at new k ≡ cond (is_held client (state_at old k)) by (state_at old k)) at
          r.below (r.above at (omega arith) ∙ sym (cond-false _ _ _ was));
      above = λ k le. r.above k (omega arith);
      tally = omega (arith, r.tally, count_by_more_no (is_held client) old at Kept (omega (arith, r.size)) was);
    }

pub ReplacesBelow-end : (client : ℕ) (by : BlockState) (old new : List BlockState) (at count : ℕ) → ReplacesBelow client by old new at count
    → length new ≤ at → Replaces client by old new × (count ≡ held_count client old)
ReplacesBelow-end client by old new at count r end = (
  record {
    size = r.size;
    states = λ k.
        elim (cases_lt k at) [
          | inl lt ↦ r.below k lt
          | inr le ↦ r.above k le ∙ past client by old k (omega (arith, r.size))
        ];
  },
  r.tally ∙ ap (held_count client) (take_all at old (omega (arith, r.size))),
)
  where
    past : (client : ℕ) (by : BlockState) (old : List BlockState) (k : ℕ) → length old ≤ k
        → state_at old k ≡ cond (is_held client (state_at old k)) by (state_at old k)
    past client by old k le =
        sym (cond-false (is_held client (state_at old k)) by (state_at old k) (ap (is_held client) (get_or_past old k Kept le)))

-- ---- what is counted afterwards

-- a test that sees no difference
same_test : (p : BlockState → Bool) (client : ℕ) (by s : BlockState) (b : Bool) → is_held client s ≡ b
    → (is_held client s ≡ true → p by ≡ p s) → p (cond b by s) ≡ p s
same_test p client by s true e h = h e
same_test p client by s false e h = refl

pub count_by-Replaces : (p : BlockState → Bool) (client : ℕ) (by : BlockState) (old new : List BlockState) → Replaces client by old new
    → ((s : BlockState) → is_held client s ≡ true → p by ≡ p s) → count_by p new ≡ count_by p old
count_by-Replaces p client by old new r same =
    count_by-pointwise p p new old r.size
    (λ k. ap p (r.states k) ∙ same_test p client by (state_at old k) (is_held client (state_at old k)) refl (same (state_at old k)))

held_not_free : (client : ℕ) (s : BlockState) → is_held client s ≡ true → false ≡ is_free s
held_not_free client Free h = cc h
held_not_free client (Held by) h = refl
held_not_free client Kept h = refl

held_by_one : (client c : ℕ) → c ≢ client → (s : BlockState) → is_held client s ≡ true → false ≡ is_held c s
held_by_one client c ne Free h = refl
held_by_one client c ne (Held by) h = sym (ne_eqb by c (λ e. ne (sym e ∙ eqb-true by client h)))
held_by_one client c ne Kept h = refl

-- kept blocks are not free
pub free_count-keep : (client : ℕ) (old new : List BlockState) → Replaces client Kept old new → free_count new ≡ free_count old
free_count-keep client old new r = count_by-Replaces is_free client Kept old new r (held_not_free client)

-- freed blocks are
pub free_count-give_back : (client : ℕ) (old new : List BlockState) → Replaces client Free old new
    → free_count new ≡ free_count old + held_count client old
free_count-give_back client old new r =
    count_by-pointwise is_free (λ s. is_free s || is_held client s) new old r.size
    (λ k. ap is_free (r.states k) ∙ freed client (state_at old k))
    ∙ count_by-either client old
  where
    freed : (client : ℕ) (s : BlockState) → is_free (cond (is_held client s) Free s) ≡ (is_free s || is_held client s)
    freed client Free = refl
    freed client (Held by) = freed_by (eqb by client) by
      where
        freed_by : (b : Bool) (by : ℕ) → is_free (cond b Free (Held by)) ≡ b
        freed_by true by = refl
        freed_by false by = refl
    freed client Kept = refl

-- the others hold what they held
pub held_count-Replaces-others : (client c : ℕ) (by : BlockState) (old new : List BlockState) → Replaces client by old new
    → is_held c by ≡ false → c ≢ client → held_count c new ≡ held_count c old
held_count-Replaces-others client c by old new r none ne =
    count_by-Replaces (is_held c) client by old new r (λ s h. none ∙ held_by_one client c ne s h)

-- and the client nothing
pub held_count-Replaces : (client : ℕ) (by : BlockState) (old new : List BlockState) → Replaces client by old new
    → is_held client by ≡ false → held_count client new ≡ 0
held_count-Replaces client by old new r none =
    count_by-pointwise (is_held client) (λ _. false) new old r.size
    (λ k. ap (is_held client) (r.states k) ∙ not_held client by (state_at old k) none (is_held client (state_at old k)) refl)
    ∙ count_by-none old
  where
    not_held : (client : ℕ) (by s : BlockState) → is_held client by ≡ false → (b : Bool) → is_held client s ≡ b
        → is_held client (cond b by s) ≡ false
    not_held client by s none true e = none
    not_held client by s none false e = e

-- what is replaced in the whole is replaced in a front
pub Replaces-take : (client : ℕ) (by : BlockState) (old new : List BlockState) (n : ℕ) → Replaces client by old new
    → Replaces client by (take n old) (take n new)
Replaces-take client by old new n r = record {
  size = length-take n new ∙ ap (min n) r.size ∙ sym (length-take n old);
  states = λ k.
      elim (cases_lt k n) [
        | inl lt ↦ get_or-take n new k Kept lt ∙ r.states k ∙ ap (λ s. cond (is_held client s) by s) (sym (get_or-take n old k Kept lt))
        | inr le ↦ past_take n new k le ∙ ap (λ s. cond (is_held client s) by s) (sym (past_take n old k le))
      ];
}
  where
    past_take : (n : ℕ) (xs : List BlockState) (k : ℕ) → n ≤ k → state_at (take n xs) k ≡ Kept
    past_take n xs k le = get_or_past (take n xs) k Kept (omega (arith, length-take n xs))
