-- A turn of a client's line that writes nothing, in which the client may have taken blocks or given them back.
use Rattle.std.proofs.Common.{◌≡◌, ◌≢◌, ◌⊎◌, inl, inr, ℕ, zero, suc, ◌-◌, ◌≤◌, Bool, true, false, ◌&&◌, cond, nat_lt, List, [], length, refl, sym, ap, ◌∙◌, subst, arith, append-nil, ne_eqb, true≢false}
use Rattle.std.specs.Prelude.{slice_index_or}
use Rattle.std.proofs.lemmas.Bool.{cases_eq}
use Rattle.block_map.specs.States.{state_at, is_free, is_held, is_least, free_below, held_count, TakesLeast}
use Rattle.block_map.specs.declared.states.BlockState.{BlockState}
use Rattle.block_map.specs.declared.states.BlockState.TheVariants.{Free, Held, Kept}
use Rattle.block_map.proofs.Counting.{count_by-pointwise}
use Rattle.block_map.proofs.Replacing.{held_count-Replaces, held_count-Replaces-others}
use Rattle.pair_store.specs.declared.store.Blocks.{Ghosts}
use Rattle.service_model.specs.declared.journal.Entry.{Entry}
use Rattle.service_model.specs.Entries.{after_entries}
use Rattle.service_model.specs.Sound.{HasNoted, IsOpenAt, is_committing}
use Rattle.service_model.specs.Standing.{Scripts, Standing, Client, client_of, newcomer}
use Rattle.service_model.proofs.Journals.{apart, set_other}
use Rattle.store_changes.specs.Writes.{Content}
use Rattle.tree_model.specs.States.{State}
use Rattle.ground_model.specs.Laws.{Leads}
use Rattle.ground_model.specs.Lines.{Notes}
use Rattle.ground_model.specs.LineTurns.{GivingIsStep, HoldingTakes, IsLineTurn, IsMapStep, LineTurnStands, PlainSetsNone, ReadTurnStands, RefusalGivesBack, TakingIsStep, UncommittedSetsNone}
use Rattle.ground_model.specs.Maps.{AreFixed}
use Rattle.ground_model.specs.Own.{IsClient}
use Rattle.ground_model.specs.Runs.{Stands}
use Rattle.ground_model.specs.Scenes.{Scene, IsMapped, held_by}
use Rattle.ground_model.specs.Steps.{moved_to}
use Rattle.ground_model.proofs.CommitLines.{holding_is_noted, refusal_is_noted}
use Rattle.ground_model.proofs.Lines.{became, changes_only}
use Rattle.ground_model.proofs.Maps.{giving_is_fixed, taking_is_fixed}
use Rattle.ground_model.proofs.Noted.{nothing_is_noted}
use Rattle.ground_model.proofs.QuietTurns.{quiet_turn_stands}
use Rattle.ground_model.proofs.Steps.{line_step_leads}
use Rattle.ground_model.proofs.Turning.{turn_stands}

-- ---- the map

-- what is true of neither of two states is not true of the one that is chosen
not_chosen : (j k : ℕ) → k ≢ j → (s : BlockState) (b : Bool) → (b ≡ true → is_free s ≡ true) → is_held j (cond b (Held k) s) ≡ is_held j s
not_chosen j k ne s false free = refl
not_chosen j k ne Free true free = ne_eqb k j ne
not_chosen j k ne (Held by) true free = absurd (true≢false (sym (free refl)))
not_chosen j k ne Kept true free = absurd (true≢false (sym (free refl)))

-- the other clients hold what they held where one took free blocks
pub others_hold : (k n : ℕ) (old new : List BlockState) → TakesLeast k n old new → (j : ℕ) → j ≢ k → held_count j new ≡ held_count j old
others_hold k n old new takes j ne =
    count_by-pointwise (is_held j) (is_held j) new old takes.size
    (λ m. ap (is_held j) (takes.states m)
    ∙ not_chosen j k (λ e. ne (sym e)) (state_at old m) (is_least old n m) (λ e. front (is_free (state_at old m)) (nat_lt (free_below old m) n) e))
  where
    front : (a b : Bool) → (a && b) ≡ true → a ≡ true
    front true b e = refl
    front false b e = absurd (true≢false (sym e))

module _ (scripts : Scripts) (k : ℕ) (scene : Scene) (states : List BlockState) (es : List Entry) (c : Client) (mapped : IsMapped scene) (client : IsClient scene.standing k)
    (notes : Notes scripts scene.standing k es c) where
  abbrev standing : Standing
  standing = after_entries scripts scene.standing es

  own_now : client_of standing k ≡ c
  own_now = became scene.standing standing k c client notes.becomes

  other_now : (j : ℕ) → 1 ≤ j → j ≢ k → client_of standing j ≡ client_of scene.standing j
  other_now j low ne =
      ap (λ cs. slice_index_or cs (j - 1) newcomer) notes.becomes.clients
      ∙ set_other scene.standing.clients (k - 1) (j - 1) c newcomer (apart k j client.low low ne)

  -- the map agrees with what stands where the others hold what they held, and the client as many as is noted
  pub map_step : length states ≡ length scene.states → AreFixed k scene.states states → ((j : ℕ) → j ≢ k → held_count j states ≡ held_count j scene.states)
      → held_count k states ≡ c.held → IsMapStep k scene states (after_entries scripts scene.standing es)
  map_step size fixed others own = record { size = size; fixed = fixed; held = held }
    where
      held : (j : ℕ) → held_count j states ≡ held_by standing j
      held zero = others 0 (λ e. (let low = client.low in omega (arith, low, e))) ∙ mapped.held 0
      held (suc j) = by (cases_eq (suc j) k)
        where
          by : (suc j ≡ k) ⊎ (suc j ≢ k) → held_count (suc j) states ≡ (client_of standing (suc j)).held
          by (inl e) = ap (λ n. held_count n states) e ∙ own ∙ ap (λ (x : Client). x.held) (sym own_now) ∙ ap (λ n. (client_of standing n).held) (sym e)
          by (inr ne) = others (suc j) ne ∙ mapped.held (suc j) ∙ ap (λ (x : Client). x.held) (sym (other_now (suc j) (omega arith) ne))

pub taking_is_step : TakingIsStep
taking_is_step scripts k n scene states es c shared client notes takes own =
    map_step scripts k scene states es c shared.map client notes takes.size (taking_is_fixed k n scene.states states takes) (others_hold k n scene.states states takes) own

pub giving_is_step : GivingIsStep
giving_is_step scripts k scene states es c shared client notes gives none =
    map_step scripts k scene states es c shared.map client notes gives.size (giving_is_fixed k scene.states states gives)
    (λ j ne. held_count-Replaces-others k j Free scene.states states gives refl ne)
    (held_count-Replaces k Free scene.states states gives refl ∙ sym none)

pub holding_takes : HoldingTakes
holding_takes scripts k n scene states line u shared at open_is holdable takes own =
    taking_is_step scripts k n scene states _ _ shared at.client (holding_is_noted scripts scene.standing k line u n at open_is holdable) takes own

pub refusal_gives_back : RefusalGivesBack
refusal_gives_back scripts k scene states line why shared at lawful gives =
    giving_is_step scripts k scene states _ _ shared at.client (refusal_is_noted scripts scene.standing k line why at lawful) gives refl

-- ---- the turn

pub plain_sets_none : PlainSetsNone
plain_sets_none s k plain object l e =
    let mine : IsOpenAt s k l.update = subst (λ n. IsOpenAt s n l.update) e l.is_open in
    true≢false (sym l.several ∙ plain l.update mine)

pub uncommitted_sets_none : UncommittedSetsNone
uncommitted_sets_none s k none object l e =
    let mine : HasNoted s k is_committing = subst (λ n. HasNoted s n is_committing) e l.committed in
    true≢false (sym mine ∙ none)

module _ {D : Type 0} (b : Ghosts D) (opening : State) (scripts : Scripts) (first k : ℕ) (scene : Scene) (before after : D) (es fs : List Entry) (c : Client) (states : List BlockState)
    (st : Stands b opening scripts first scene before es) (turn : IsLineTurn b scripts k scene before after fs c states) where
  pub line_leads : Leads k scene (moved_to scene (b.content after) states (after_entries scripts scene.standing fs))
  line_leads =
      line_step_leads k scene (b.content after) states (after_entries scripts scene.standing fs) st.shared (record {
        same = λ n. turn.read.same n ∙ ap (λ (f : Content). f n) (sym st.content);
        only = changes_only scene.standing (after_entries scripts scene.standing fs) k c turn.client turn.notes.becomes turn.links;
        size = turn.map.size;
        fixed = turn.map.fixed;
        held = turn.map.held;
      })

pub line_turn_stands : {D : Type 0} (b : Ghosts D) → ((s : D) (n : ℕ) (f : Content) → b.settled_always s n → b.may_leave s (b.moment s) f → f n ≡ b.content s n) → LineTurnStands b
line_turn_stands b settled_left opening scripts first k scene before after es fs c states st turn =
    let leads = line_leads b opening scripts first k scene before after es fs c states st turn in (
      turn_stands b settled_left opening scripts first scene (moved_to scene (b.content after) states (after_entries scripts scene.standing fs)) before after es fs st (record {
        operation = inl turn.read;
        content = refl;
        most = refl;
        blocks = refl;
        legal = turn.notes.legal;
        leads = refl;
        moments = turn.moments;
      }) leads.shared,
      leads,
    )

pub read_turn_stands : {D : Type 0} (b : Ghosts D) → ((s : D) (n : ℕ) (f : Content) → b.settled_always s n → b.may_leave s (b.moment s) f → f n ≡ b.content s n) → ReadTurnStands b
read_turn_stands b settled_left opening scripts first k scene before after es st client links read =
    let both =
    quiet_turn_stands b settled_left opening scripts first k scene before after es [] (client_of scene.standing k) st (record {
      client = client;
      notes = nothing_is_noted scripts scene.standing k;
      held = refl;
      links = links;
      read = read;
      moments = record { moments = refl; one = omega arith };
    }) in
    (subst (λ xs. Stands b opening scripts first (moved_to scene (b.content after) scene.states scene.standing) after xs) (append-nil es) both.0, both.1)
