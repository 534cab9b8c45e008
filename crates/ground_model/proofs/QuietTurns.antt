-- A turn of a client's line that writes nothing.
use Rattle.std.proofs.Common.{◌≡◌, ◌≢◌, ◌⊎◌, inl, inr, ℕ, zero, suc, ◌≤◌, List, refl, sym, ap, ◌∙◌, arith}
use Rattle.std.proofs.lemmas.Bool.{cases_eq}
use Rattle.pair_store.specs.declared.store.Blocks.{Ghosts}
use Rattle.service_model.specs.declared.journal.Entry.{Entry}
use Rattle.service_model.specs.Entries.{after_entries}
use Rattle.service_model.specs.Standing.{Scripts, Standing, Client, client_of}
use Rattle.store_changes.specs.Writes.{Content}
use Rattle.tree_model.specs.States.{State}
use Rattle.ground_model.specs.Laws.{Leads}
use Rattle.ground_model.specs.Quiet.{IsQuietTurn, QuietTurnStands}
use Rattle.ground_model.specs.Runs.{Stands}
use Rattle.ground_model.specs.Scenes.{Scene, held_by}
use Rattle.ground_model.specs.Steps.{IsLineStep}
use Rattle.ground_model.proofs.Lines.{became, changes_only}
use Rattle.ground_model.proofs.Steps.{line_step_leads}
use Rattle.ground_model.proofs.Turning.{turn_stands}

-- how many blocks each client holds, where one client alone changed and holds as many
pub same_held : (s t : Standing) (k : ℕ) → ((j : ℕ) → 1 ≤ j → j ≢ k → client_of t j ≡ client_of s j) → (client_of t k).held ≡ (client_of s k).held
    → (j : ℕ) → held_by s j ≡ held_by t j
same_held s t k others own zero = refl
same_held s t k others own (suc j) = by (cases_eq (suc j) k)
  where
    by : (suc j ≡ k) ⊎ (suc j ≢ k) → (client_of s (suc j)).held ≡ (client_of t (suc j)).held
    by (inl e) = ap (λ (n : ℕ). (client_of s n).held) e ∙ sym own ∙ ap (λ (n : ℕ). (client_of t n).held) (sym e)
    by (inr ne) = ap (λ (c : Client). c.held) (sym (others (suc j) (omega arith) ne))

module _ {D : Type 0} (b : Ghosts D) (opening : State) (scripts : Scripts) (first k : ℕ) (scene : Scene) (before after : D) (es fs : List Entry) (c : Client)
    (st : Stands b opening scripts first scene before es) (turn : IsQuietTurn b scripts k scene before after fs c) where
  step : IsLineStep k scene (b.content after) scene.states (after_entries scripts scene.standing fs)
  step =
      let only = changes_only scene.standing (after_entries scripts scene.standing fs) k c turn.client turn.notes.becomes turn.links in
      let own = became scene.standing (after_entries scripts scene.standing fs) k c turn.client turn.notes.becomes in
      record {
        same = λ n. turn.read.same n ∙ ap (λ (f : Content). f n) (sym st.content);
        only = only;
        size = refl;
        fixed = λ n s is. (λ e. e, λ e. e);
        held = λ j. st.shared.map.held j ∙ same_held scene.standing (after_entries scripts scene.standing fs) k only.others (ap (λ (x : Client). x.held) own ∙ turn.held) j;
      }

  pub quiet_leads : Leads k scene (record scene { content = b.content after; states = scene.states; standing = after_entries scripts scene.standing fs })
  quiet_leads = line_step_leads k scene (b.content after) scene.states (after_entries scripts scene.standing fs) st.shared step

pub quiet_turn_stands : {D : Type 0} (b : Ghosts D) → ((s : D) (n : ℕ) (f : Content) → b.settled_always s n → b.may_leave s (b.moment s) f → f n ≡ b.content s n) → QuietTurnStands b
quiet_turn_stands b settled_left opening scripts first k scene before after es fs c st turn =
    let leads = quiet_leads b opening scripts first k scene before after es fs c st turn in (
      turn_stands b settled_left opening scripts first scene (record scene { content = b.content after; states = scene.states; standing = after_entries scripts scene.standing fs }) before after es fs st (record {
        operation = inl turn.read;
        content = refl;
        most = refl;
        blocks = refl;
        legal = turn.notes.legal;
        leads = refl;
        moments = turn.moments;
      }) leads.shared,
      leads,
    )
