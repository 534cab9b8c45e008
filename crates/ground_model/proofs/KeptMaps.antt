-- The map of blocks where what a client held is kept: its blocks are places now.
use Rattle.std.proofs.Common.{◌≡◌, ◌≢◌, ◌⊎◌, ◌↔◌, inl, inr, ℕ, zero, suc, ◌<◌, ◌≤◌, Bool, true, false, nat_eq, cond, length, Option, sym, ap, ◌∙◌, subst, arith, refl, true≢false, eqb-true, ne_eqb}
use Rattle.std.specs.List.{IsDistinct}
use Rattle.std.specs.Option.{option_map_or}
use Rattle.block_map.specs.States.{Replaces, state_at, is_held, held_count}
use Rattle.block_map.specs.declared.states.BlockState.{BlockState}
use Rattle.block_map.specs.declared.states.BlockState.TheVariants.{Free, Held, Kept}
use Rattle.block_map.proofs.Replacing.{held_count-Replaces, held_count-Replaces-others}
use Rattle.flush_model.specs.Flushed.{IsFree}
use Rattle.service_model.specs.Standing.{Client, Upkeep, client_of}
use Rattle.store_changes.specs.Stands.{IsPlace}
use Rattle.store_model.proofs.PlaceLists.{not_in}
use Rattle.ground_model.specs.Own.{IsHeldBy}
use Rattle.ground_model.specs.Scenes.{Scene, IsMapped, held_by}
use Rattle.ground_model.proofs.HeldWrites.{past_end, not_kept}

same_or_not : (m n : ℕ) → (m ≡ n) ⊎ (m ≢ n)
same_or_not m n = grind arith

-- What a client held are places now, and it holds nothing; all else of the map is as it was.
pub record IsKeptNow (k : ℕ) (old new : Scene) : Type 0 where
  pub low : 1 ≤ k
  pub places : (n : ℕ) → IsPlace new.places n ↔ (IsPlace old.places n ⊎ IsHeldBy old k n)
  pub kept : Replaces k Kept old.states new.states
  pub freed : new.freed ≡ old.freed
  pub blocks : new.store.root.blocks ≡ old.store.root.blocks
  pub upkeep : new.standing.upkeep ≡ old.standing.upkeep
  pub others : (j : ℕ) → 1 ≤ j → j ≢ k → client_of new.standing j ≡ client_of old.standing j
  pub held : (client_of new.standing k).held ≡ 0

module _ (k : ℕ) (old new : Scene) (mapped : IsMapped old) (l : IsKeptNow k old new) where
  kept_at : (n : ℕ) → state_at new.states n ≡ cond (is_held k (state_at old.states n)) Kept (state_at old.states n)
  kept_at n = l.kept.states n

  mine : (s : BlockState) → is_held k s ≡ true → s ≡ Held k
  mine Free e = absurd (true≢false (sym e))
  mine (Held by) e = ap Held (eqb-true by k e)
  mine Kept e = absurd (true≢false (sym e))

  self : is_held k (Held k) ≡ true
  self = grind arith

  kept_where : (n : ℕ) → (state_at new.states n ≡ Kept) ↔ ((state_at old.states n ≡ Kept) ⊎ IsHeldBy old k n)
  kept_where n = (λ is. by (is_held k (state_at old.states n)) refl is, back)
    where
      by : (b : Bool) → is_held k (state_at old.states n) ≡ b → state_at new.states n ≡ Kept → (state_at old.states n ≡ Kept) ⊎ IsHeldBy old k n
      by true e is = inr (mine (state_at old.states n) e)
      by false e is = inl (sym (kept_at n ∙ ap (λ b. cond b Kept (state_at old.states n)) e) ∙ is)

      back : (state_at old.states n ≡ Kept) ⊎ IsHeldBy old k n → state_at new.states n ≡ Kept
      back (inl was) = kept_at n ∙ ap (λ s. cond (is_held k s) Kept s) was
      back (inr held) = kept_at n ∙ ap (λ s. cond (is_held k s) Kept s) held ∙ ap (λ b. cond b Kept (Held k)) self

  kept_forth : (n : ℕ) → (state_at old.states n ≡ Kept → (n ≡ 0) ⊎ IsPlace old.places n ⊎ IsPlace old.freed n) → (state_at old.states n ≡ Kept) ⊎ IsHeldBy old k n
      → (n ≡ 0) ⊎ IsPlace new.places n ⊎ IsPlace new.freed n
  kept_forth n was (inl is) = of (was is)
    where
      of : (n ≡ 0) ⊎ IsPlace old.places n ⊎ IsPlace old.freed n → (n ≡ 0) ⊎ IsPlace new.places n ⊎ IsPlace new.freed n
      of (inl e) = inl e
      of (inr (inl e)) = inr (inl ((l.places n).1 (inl e)))
      of (inr (inr e)) = inr (inr (subst (λ ns. IsPlace ns n) (sym l.freed) e))
  kept_forth n was (inr held) = inr (inl ((l.places n).1 (inr held)))

  kept_back : (n : ℕ) → ((n ≡ 0) ⊎ IsPlace old.places n ⊎ IsPlace old.freed n → state_at old.states n ≡ Kept) → (n ≡ 0) ⊎ IsPlace new.places n ⊎ IsPlace new.freed n
      → state_at new.states n ≡ Kept
  kept_back n was (inl e) = (kept_where n).1 (inl (was (inl e)))
  kept_back n was (inr (inl e)) = of ((l.places n).0 e)
    where
      of : IsPlace old.places n ⊎ IsHeldBy old k n → state_at new.states n ≡ Kept
      of (inl p) = (kept_where n).1 (inl (was (inr (inl p))))
      of (inr h) = (kept_where n).1 (inr h)
  kept_back n was (inr (inr e)) = (kept_where n).1 (inl (was (inr (inr (subst (λ ns. IsPlace ns n) l.freed e)))))

  freed_not_new : (n : ℕ) → IsFree old.store old.places n → IsPlace old.freed n → IsPlace old.places n ⊎ IsHeldBy old k n → ⊥
  freed_not_new n f is (inl p) = true≢false (sym p ∙ f.free)
  freed_not_new n f is (inr h) =
      not_kept old mapped k n h ((mapped.kept n (past_end old.states n k h)).1 (inr (inr is)))

  held_then : (j : ℕ) → (j ≡ k) ⊎ (j ≢ k) → held_count j new.states ≡ held_by new.standing j
  held_then j (inl e) =
      ap (λ (i : ℕ). held_count i new.states) e ∙ held_count-Replaces k Kept old.states new.states l.kept refl
      ∙ sym (mine_none k l.low l.held) ∙ ap (held_by new.standing) (sym e)
    where
      mine_none : (i : ℕ) → 1 ≤ i → (client_of new.standing i).held ≡ 0 → held_by new.standing i ≡ 0
      mine_none zero low h = refl
      mine_none (suc i) low h = h
  held_then zero (inr ne) = held_count-Replaces-others k zero Kept old.states new.states l.kept refl ne ∙ mapped.held zero
  held_then (suc j) (inr ne) =
      held_count-Replaces-others k (suc j) Kept old.states new.states l.kept refl ne ∙ mapped.held (suc j)
      ∙ ap (λ (c : Client). c.held) (sym (l.others (suc j) (omega arith) ne))

  pub mapped_then : IsMapped new
  mapped_then = record {
    size = l.kept.size ∙ mapped.size ∙ sym l.blocks;
    kept = λ n low.
        let was = mapped.kept n (subst (λ m. n < m) l.kept.size low) in
        (λ is. kept_forth n was.0 ((kept_where n).0 is), λ is. kept_back n was.1 is);
    held = λ j. held_then j (same_or_not j k);
    freed = λ n is.
        let f : IsFree old.store old.places n = mapped.freed n (subst (λ ns. IsPlace ns n) l.freed is) in
        record {
          low = f.low;
          high = subst (λ m. n < m) (sym l.blocks) f.high;
          free = not_in new.places n (λ place. freed_not_new n f (subst (λ ns. IsPlace ns n) l.freed is) ((l.places n).0 place));
        };
    once = subst (λ ns. IsDistinct nat_eq ns) (sym l.freed) mapped.once;
    frees = ap length l.freed ∙ mapped.frees ∙ ap (λ (o : Option Upkeep). option_map_or (λ (up : Upkeep). up.frees) o 0) (sym l.upkeep);
  }

  -- what another client holds it holds still
  pub held_on : (j n : ℕ) → j ≢ k → IsHeldBy old j n → IsHeldBy new j n
  held_on j n ne is =
      kept_at n ∙ ap (λ s. cond (is_held k s) Kept s) is ∙ ap (λ b. cond b Kept (Held j)) (ne_eqb j k ne)
