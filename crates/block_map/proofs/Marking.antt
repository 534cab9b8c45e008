-- Changes of a map that is sound.
use Rattle.std.proofs.Common.{◌≡◌, ℕ, ◌+◌, ◌-◌, ◌<◌, ◌≤◌, ◌≢◌, min, true, false, cond, List, length, take, set, sym, ◌∙◌, ap, inl, inr, arith}
use Rattle.std.specs.List.{slice_get}
use Rattle.std.specs.Prelude.{Some}
use Rattle.std.proofs.lemmas.List.{length-set, get_or-set_other, take-set-le}
use Rattle.std.proofs.lemmas.Bool.{cases_lt, both_ways}
use Rattle.std.proofs.lemmas.Option.{none-some, slice_get_past}
use Rattle.block_map.specs.declared.states.BlockState.{BlockState}
use Rattle.block_map.specs.declared.states.BlockState.TheVariants.{Free, Kept}
use Rattle.block_map.specs.States.{is_free, is_held, state_at, free_count, free_below, held_count, held_below, IsSound, Replaces}
use Rattle.block_map.proofs.Counting.{one, count_by-take-mono}
use Rattle.block_map.proofs.Taking.{none_at, count-give}
use Rattle.block_map.proofs.Replacing.{Replaces-take, free_count-keep, free_count-give_back}

-- the table's block is never held, so it stays
table_stays : (client : ℕ) (by : BlockState) (old new : List BlockState) → Replaces client by old new
    → state_at old 0 ≡ Kept → state_at new 0 ≡ Kept
table_stays client by old new r table = r.states 0 ∙ ap (λ s. cond (is_held client s) by s) table

pub IsSound-keep : (client free least : ℕ) (old new : List BlockState) → Replaces client Kept old new
    → IsSound old free least → IsSound new free least
IsSound-keep client free least old new r s = record {
  table = table_stays client Kept old new r s.table;
  some = omega (arith, r.size, s.some);
  most = omega (arith, r.size, s.most);
  count = s.count ∙ sym (free_count-keep client old new r);
  none_below = free_count-keep client (take least old) (take least new) (Replaces-take client Kept old new least r) ∙ s.none_below;
}

-- given back, no block is free below both the old place and the first block that the client held
pub IsSound-give_back : (client free least first : ℕ) (old new : List BlockState) (count : ℕ) → Replaces client Free old new
    → IsSound old free least → held_below client old first ≡ 0 → count ≡ held_count client old
    → IsSound new (free + count) (min least first)
IsSound-give_back client free least first old new count r s none held =
    let m = min least first in
    record {
      table = table_stays client Free old new r s.table;
      some = omega (arith, r.size, s.some);
      most = omega (arith, r.size, s.most);
      count = omega (arith, s.count, held, free_count-give_back client old new r);
      none_below = omega (
        arith,
        free_count-give_back client (take m old) (take m new) (Replaces-take client Free old new m r),
        count_by-take-mono is_free old m least (omega arith),
        count_by-take-mono (is_held client) old m first (omega arith),
        s.none_below,
        none,
      );
    }

-- a free block is not below the place that is kept
least-le : (xs : List BlockState) (n least : ℕ) → free_below xs least ≡ 0 → is_free (state_at xs n) ≡ true → least ≤ n
least-le xs n least none is = elim (cases_lt n least) [
  | inl lt ↦ absurd (both_ways (is_free (state_at xs n)) (none_at xs n least lt none) is)
  | inr le ↦ le
]

pub free-positive : (xs : List BlockState) (n free least : ℕ) → IsSound xs free least → n < length xs → state_at xs n ≡ Free → 1 ≤ free
free-positive xs n free least s h is =
    omega (arith, count-give is_free xs n Kept h, ap (λ b. one (is_free b)) is, s.count)

pub IsSound-mark : (xs : List BlockState) (n free least : ℕ) → IsSound xs free least → n < length xs → state_at xs n ≡ Free
    → IsSound (set xs n Kept) (free - 1) least
IsSound-mark xs n free least s h is = record {
  table = get_or-set_other xs n 0 Kept Kept (λ e. not_table e) ∙ s.table;
  some = omega (arith, length-set xs n Kept, s.some);
  most = omega (arith, length-set xs n Kept, s.most);
  count = omega (arith, count-give is_free xs n Kept h, ap (λ b. one (is_free b)) is, s.count);
  none_below = ap free_count (take-set-le least xs n Kept (least-le xs n least s.none_below (ap is_free is))) ∙ s.none_below;
}
  where
    not_table : 0 ≡ n → ⊥
    not_table e = both_ways (is_free (state_at xs n)) (ap (λ k. is_free (state_at xs k)) (sym e) ∙ ap is_free s.table) (ap is_free is)

pub IsSound-free : (xs : List BlockState) (n free least : ℕ) → IsSound xs free least → n < length xs → n ≢ 0 → state_at xs n ≡ Kept
    → IsSound (set xs n Free) (free + 1) (min least n)
IsSound-free xs n free least s h other is = record {
  table = get_or-set_other xs n 0 Free Kept (λ e. other (sym e)) ∙ s.table;
  some = omega (arith, length-set xs n Free, s.some);
  most = omega (arith, length-set xs n Free, s.most);
  count = omega (arith, count-give is_free xs n Free h, ap (λ b. one (is_free b)) is, s.count);
  none_below = omega (
    arith,
    ap free_count (take-set-le (min least n) xs n Free (omega arith)),
    count_by-take-mono is_free xs (min least n) least (omega arith),
    s.none_below,
  );
}

-- one block from free to kept
pub free_count-mark : (xs : List BlockState) (n : ℕ) → n < length xs → state_at xs n ≡ Free
    → free_count (set xs n Kept) + 1 ≡ free_count xs
free_count-mark xs n h is = omega (arith, count-give is_free xs n Kept h, ap (λ b. one (is_free b)) is)

-- and from kept to free
pub free_count-free : (xs : List BlockState) (n : ℕ) → n < length xs → state_at xs n ≡ Kept
    → free_count (set xs n Free) ≡ free_count xs + 1
free_count-free xs n h is = omega (arith, count-give is_free xs n Free h, ap (λ b. one (is_free b)) is)

-- neither of which a client holds
pub held_count-set : (c : ℕ) (xs : List BlockState) (n : ℕ) (was by : BlockState) → n < length xs → state_at xs n ≡ was
    → is_held c was ≡ false → is_held c by ≡ false → held_count c (set xs n by) ≡ held_count c xs
held_count-set c xs n was by h is none none' =
    omega (arith, count-give (is_held c) xs n by h, ap (λ b. one (is_held c b)) is, ap one none, ap one none')

-- an element that is found is within the list
pub slice_get-lt : {X : Type 0} (xs : List X) (n : ℕ) (x : X) → slice_get xs n ≡ Some x → n < length xs
slice_get-lt xs n x e =
    elim (cases_lt n (length xs)) [
      | inl lt ↦ lt
      | inr le ↦ absurd (none-some x (sym (slice_get_past xs n le) ∙ e))
    ]
