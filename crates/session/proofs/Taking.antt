-- A commit that is merged with all versions takes its blocks, or it is refused.
use Rattle.std.proofs.Common.{◌≡◌, ℕ, ◌-◌, ◌<◌, ◌^◌, sym, ap, ◌∙◌, subst, arith, List, [], ◌∷◌, length}
use Rattle.std.specs.Prelude.{max}
use Rattle.block_map.specs.States.{free_count}
use Rattle.block_map.specs.declared.block_map.NoSpace.{NoSpace as NoSpaceOf}
use Rattle.draft_model.specs.Entries.{fresh_paths}
use Rattle.pool_draft.specs.Held.{picked_tree}
use Rattle.tree_model.specs.Accesses.{written_paths}
use Rattle.pair_store.specs.declared.store.Blocks.{Ghosts}
use Rattle.pool_draft.specs.Roots.{serial_in}
use Rattle.pool_draft.specs.Sets.{base_at, picked_of}
use Rattle.script_text.specs.ScriptValue.{ScriptValue}
use Rattle.service_model.specs.declared.journal.Refusal.TheVariants.{NoSpace, Worn}
use Rattle.ground_model.proofs.FreeBlocks.{free_is_counted}
use Rattle.session.specs.Answers.{IsRefusing}
use Rattle.session.specs.Blocks.{IsNeeded}
use Rattle.session.specs.Calls.{IsReady, MoveCall, TurnCall}
use Rattle.session.specs.Own.{IsDeciding, IsHolding, IsUnworn}
use Rattle.session.specs.Safe.{drafts_of, serial_of}
use Rattle.session.specs.declared.common.Common.{Common}
use Rattle.session.specs.declared.course.Course.{Course}
use Rattle.session.specs.declared.turned.Turned.{Turned}
use Rattle.session.proofs.Calling.{moved_call}
use Rattle.session.proofs.Deciding.{run_sound}
use Rattle.session.proofs.Drafts.{fresh_told, has_draft, serial_is}
use Rattle.session.proofs.Owned.{own_call}
use Rattle.session.proofs.Refusing.{needed_here, space_refuses, worn_refuses}

module _ {D : Type 0} (b : Ghosts D) (script : ScriptValue) (c : Common D) (s : Course) (ready : IsReady b script c s) (one : drafts_of s ≡ 1)
    (serial : ℕ) (is : serial ≡ serial_in (base_at s.drafts (picked_of s.drafts))) (c' : Common D) (s' : Course) (result : Turned) where
  its_serial : serial ≡ serial_of s
  its_serial = is ∙ serial_is s (has_draft b script c s ready one)

  -- the last serial is worn
  pub worn_call : serial ≡ 2 ^ 64 - 1 → TurnCall b (IsRefusing Worn) script c c' s s' result → TurnCall b IsDeciding script c c' s s' result
  worn_call last call =
      own_call b IsDeciding (IsRefusing Worn) script c c' s s' result
      (λ told opening scripts first scene here. worn_refuses scripts scene script s here.mine (run_sound b opening scripts first scene c here.stands) (sym its_serial ∙ last)) call

  -- an earlier one is not
  low_serial : serial < 2 ^ 64 - 1 → serial_of s < 2 ^ 64 - 1
  low_serial low = subst (λ n. n < 2 ^ 64 - 1) its_serial low

  -- blocks that are held are not taken again
  pub held_call : serial < 2 ^ 64 - 1 → 0 < s.held → TurnCall b IsHolding script c c' s s' result → TurnCall b IsDeciding script c c' s s' result
  held_call low some call =
      own_call b IsDeciding IsHolding script c c' s s' result
      (λ told opening scripts first scene here. record { deciding = here.mine; unworn = low_serial low; some = some }) call

  pub taken_call : serial < 2 ^ 64 - 1 → (mid : Common D) (t : Course) → MoveCall b IsUnworn IsHolding script c mid s t → t.turns ≡ s.turns → TurnCall b IsHolding script mid c' t s' result
      → TurnCall b IsDeciding script c c' s s' result
  taken_call low mid t move turns call =
      own_call b IsDeciding IsUnworn script c c' s s' result
      (λ told opening scripts first scene here. record { deciding = here.mine; unworn = low_serial low })
      (moved_call b IsUnworn IsHolding script c mid c' s t s' result ready.line move call turns)

  -- too few blocks are free
  pub space_call : serial < 2 ^ 64 - 1 → s.held ≡ 0 → (needed blocks : ℕ) → IsNeeded s needed → blocks ≡ free_count c.map → blocks < needed
      → TurnCall b (IsRefusing (NoSpace needed blocks)) script c c' s s' result → TurnCall b IsDeciding script c c' s s' result
  space_call low none needed blocks need_is free_is less call =
      own_call b IsDeciding (IsRefusing (NoSpace needed blocks)) script c c' s s' result
      (λ told opening scripts first scene here.
      space_refuses scripts scene script s here.mine (run_sound b opening scripts first scene c here.stands) (low_serial low) none needed blocks
      (need_is ∙ needed_here scripts scene script s here.mine (run_sound b opening scripts first scene c here.stands) _ (fresh_told s (has_draft b script c s ready one)))
      (free_is ∙ ap free_count here.stands.map ∙ free_is_counted scene here.stands.stands.shared) less) call

-- so many blocks are needed: one for each fresh path, and one anyhow
pub needed_is : (s : Course) (count needed : ℕ) → count ≡ length (fresh_paths (picked_tree s.drafts.pages)) → needed ≡ max count 1 → IsNeeded s needed
needed_is s count needed counted most = by (fresh_paths (picked_tree s.drafts.pages)) counted
  where
    by : (fresh : List (List ℕ)) → count ≡ length fresh → needed ≡ length (written_paths fresh)
    by [] none = (let is : needed ≡ 1 = omega (arith, most, none) in is)
    by (p ∷ paths) some = omega (arith, most, some)

pub space_refused : {D : Type 0} (b : Ghosts D) (script : ScriptValue) (c mid c' : Common D) (s t s' : Course) (result : Turned) → IsReady b script c s → drafts_of s ≡ 1 → (serial : ℕ)
    → serial ≡ serial_in (base_at s.drafts (picked_of s.drafts)) → serial < 2 ^ 64 - 1 → s.held ≡ 0 → (needed : ℕ) → IsNeeded s needed → (e : NoSpaceOf)
    → (e.needed ≡ needed) × (e.free ≡ free_count c.map) × (e.free < needed) → (mid ≡ c) × (t ≡ s)
    → TurnCall b (IsRefusing (NoSpace e.needed e.free)) script mid c' t s' result → TurnCall b IsDeciding script c c' s s' result
space_refused b script c mid c' s t s' result ready one serial is low none needed need_is e short same call =
    space_call b script c s ready one serial is c' s' result low none e.needed e.free (short.0 ∙ need_is) short.1 (subst (λ n. e.free < n) (sym short.0) short.2)
    (subst (λ (x : Course). TurnCall b (IsRefusing (NoSpace e.needed e.free)) script c c' x s' result) same.1
    (subst (λ x. TurnCall b (IsRefusing (NoSpace e.needed e.free)) script x c' t s' result) same.0 call))
