-- How the map of blocks changes within a client's line; and the end of a script.
use Rattle.std.proofs.Common.{◌≡◌, ◌≢◌, inr, ℕ, ◌&&◌, Bool, true, false, cond, nat_lt, Option, refl, sym, ap, ◌∙◌, subst, ne_eqb}
use Rattle.std.specs.Prelude.{IsSome}
use Rattle.std.specs.Option.{option_map_or}
use Rattle.block_map.specs.States.{state_at, is_free, is_held, is_least, free_below}
use Rattle.block_map.specs.declared.states.BlockState.{BlockState}
use Rattle.block_map.specs.declared.states.BlockState.TheVariants.{Free, Held, Kept}
use Rattle.script_text.specs.declared.script.Line.{Line}
use Rattle.service_model.specs.Entries.{after_end, after_what, mode_of, without_update}
use Rattle.service_model.specs.Standing.{Standing, Update, client_of}
use Rattle.service_model.specs.declared.journal.What.TheVariants.{GivenUp}
use Rattle.ground_model.specs.Lines.{Becomes}
use Rattle.ground_model.specs.Maps.{EndIsNoted, GivingIsFixed, TakingIsFixed}
use Rattle.ground_model.specs.Steps.{IsFixed}

-- a fixed block is neither free nor the client's
not_free : (k : ℕ) (s : BlockState) → IsFixed k s → is_free s ≡ false
not_free k Free h = absurd h
not_free k (Held by) h = refl
not_free k Kept h = refl

not_held : (k : ℕ) (s : BlockState) → IsFixed k s → is_held k s ≡ false
not_held k Free h = absurd h
not_held k (Held by) h = ne_eqb by k h
not_held k Kept h = refl

free_not_fixed : (k : ℕ) (s : BlockState) → IsFixed k s → s ≢ Free
free_not_fixed k Free h e = h
free_not_fixed k (Held by) h e = absurd (let no : Held by ≡ Free = e in cc)
free_not_fixed k Kept h e = absurd (let no : Kept ≡ Free = e in cc)

held_not_fixed : (k : ℕ) (s : BlockState) → IsFixed k s → s ≢ Held k
held_not_fixed k Free h e = h
held_not_fixed k (Held by) h e = h (let same : Held by ≡ Held k = e in cc)
held_not_fixed k Kept h e = absurd (let no : Kept ≡ Held k = e in cc)

-- what is chosen where a test fails for the old state, and is never fixed where it holds
chosen : (s by : BlockState) (old new : BlockState) (test : Bool) → new ≡ cond test by old → (old ≡ s → test ≡ false) → s ≢ by → (old ≡ s → new ≡ s) × (new ≡ s → old ≡ s)
chosen s by old new test is fails ne = (λ e. is ∙ ap (λ b. cond b by old) (fails e) ∙ e, λ e. back test is e)
  where
    back : (b : Bool) → new ≡ cond b by old → new ≡ s → old ≡ s
    back true h e = absurd (ne (sym e ∙ h))
    back false h e = sym h ∙ e

pub taking_is_fixed : TakingIsFixed
taking_is_fixed k n old new takes m s fixed =
    chosen s (Held k) (state_at old m) (state_at new m) (is_least old n m) (takes.states m)
    (λ e. ap (λ x. is_free x && nat_lt (free_below old m) n) e ∙ ap (λ b. b && nat_lt (free_below old m) n) (not_free k s fixed)) (held_not_fixed k s fixed)

pub giving_is_fixed : GivingIsFixed
giving_is_fixed k old new gives m s fixed =
    chosen s Free (state_at old m) (state_at new m) (is_held k (state_at old m)) (gives.states m)
    (λ e. ap (is_held k) e ∙ not_held k s fixed) (free_not_fixed k s fixed)

pub end_is_noted : EndIsNoted
end_is_noted scripts s k line u client next last latest open_is = record {
  legal = ((client.low, client.high, inr (line, next, last, refl, refl, latest, (let F : Option Update → Type 0 = λ o. IsSome o in subst F (sym open_is) refl))), tt);
  becomes =
      let F : Standing → Type 0 = λ t. Becomes k (without_update (client_of s k)) s t in
      subst F (sym (ap (λ (o : Option Line). option_map_or (λ (l : Line). after_what (mode_of scripts k) s k l.command GivenUp) o (after_end s k)) next))
      (record { clients = refl; state = refl; made = refl; upkeep = refl });
}
