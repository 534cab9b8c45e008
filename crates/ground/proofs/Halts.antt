-- A run that a turn stopped, and entries that a turn noted.
use Rattle.std.proofs.Common.{◌≡◌, inl, inr, ℕ, suc, List, [], ◌++◌, Some, refl, sym, ap, ◌∙◌, subst, arith, append-nil}
use Rattle.std.specs.Prelude.{slice_get, slice_set}
use Rattle.pair_store.specs.declared.store.Blocks.{Ghosts}
use Rattle.service_model.specs.declared.journal.Entry.{Entry}
use Rattle.service_model.specs.Entries.{after_entries, standing_after}
use Rattle.service_model.specs.Legal.{IsLegalFrom}
use Rattle.service_model.specs.Standing.{Standing, client_of, start}
use Rattle.service_model.proofs.Journals.{after_append, legal_rest}
use Rattle.tree_model.specs.States.{State}
use Rattle.ground_model.specs.Fronts.{AreOfTurn}
use Rattle.session.specs.Ends.{AreOf, AreUnmoved, StopsWith}
use Rattle.session.specs.Shared.{entries_of}
use Rattle.session.specs.Values.{RepliesValue}
use Rattle.session.specs.declared.common.Common.{Common}
use Rattle.session.specs.declared.session.Session.{Session}
use Rattle.session.specs.declared.turned.Fault.{Fault}
use Rattle.session.specs.declared.turned.Fault.TheVariants.{Bad}
use Rattle.session.specs.declared.turned.Turned.TheVariants as turned
use Rattle.session.proofs.Calling.{moved_moments, of_none}
use Rattle.session.proofs.Frames.{seat_of}
use Rattle.ground.specs.Grounds.{AllStand, AreClients, HasHalted, HasRun, IsGround, StandsOr}
use Rattle.ground.specs.Runs.{GroundValue, entries_in, scripts_in, scripts_of, store_in}
use Rattle.ground.specs.Turning.{HasNoted, IsNeverBad, IsRunOf}
use Rattle.ground.proofs.Clients.{get_set}
use Rattle.ground.proofs.Unmoved.{unmoved_answers}

-- ---- a turn that stopped the run

module _ {D : Type 0} (b : Ghosts D) (opening : State) (first : ℕ) (c c' : Common D) (sessions : List Session) (clients : AreClients sessions)
    (a : AllStand b opening first c sessions) (k : ℕ) (g : StopsWith b opening (scripts_of sessions) first a.scene c c' k) where
  leads : g.stopped.standing ≡ after_entries (scripts_of sessions) a.scene.standing g.es
  leads =
      sym g.stopped.reaches.leads ∙ ap (after_entries (scripts_of sessions) (start opening (scripts_of sessions))) g.entries
      ∙ after_append (scripts_of sessions) (start opening (scripts_of sessions)) (entries_of c) g.es
      ∙ ap (λ s. after_entries (scripts_of sessions) s g.es) a.stands.stands.reaches.leads

  -- a client's answers are those to which the journal leads
  answers_then : (i : ℕ) (s : Session) → slice_get sessions i ≡ Some s → (client_of g.stopped.standing (suc i)).answers ≡ s.course.replies.items
  answers_then i s at =
      let seat = seat_of (scripts_of sessions) a.scene s.script s.course s.course.stage (a.own i s at) in
      ap (λ st. (client_of st (suc i)).answers) leads ∙ unmoved_answers (scripts_of sessions) a.scene.standing g.es (suc i) g.unmoved
      ∙ ap (λ n. (client_of a.scene.standing n).answers) (sym (clients.numbers i s at)) ∙ seat.answers

  module _ (i : ℕ) (s s' : Session) (at : slice_get sessions i ≡ Some s) (same : s'.course.replies ≡ s.course.replies) where
    answers_set : (j : ℕ) (t : Session) → slice_get (slice_set sessions i s') j ≡ Some t → (client_of g.stopped.standing (suc j)).answers ≡ t.course.replies.items
    answers_set j t is = elim (get_set sessions i j s' t is) [
      | inl e ↦
          ap (λ n. (client_of g.stopped.standing (suc n)).answers) e.0 ∙ answers_then i s at ∙ ap (λ (x : RepliesValue). x.items) (sym same)
          ∙ ap (λ (x : Session). x.course.replies.items) (sym e.1)
      | inr e ↦ answers_then j t e.1
    ]

    pub halts : HasHalted b opening (scripts_of sessions) first c' (slice_set sessions i s')
    halts = record { stopped = g.stopped; answers = answers_set }

-- ---- entries that were noted

-- none
pub nothing_noted : {D : Type 0} (b : Ghosts D) (o : State) (g g' : GroundValue D) (k : ℕ) → entries_in g' ≡ entries_in g → HasNoted b o g g' k
nothing_noted b o g g' k same = record {
  es = [];
  entries = same ∙ sym (append-nil (entries_in g));
  of_client = of_none (scripts_in g) (standing_after o (scripts_in g) (entries_in g)) k;
  legal = tt;
  moments = record { moments = refl; one = omega arith };
}

-- those of a turn that stopped the run carry no moment
pub unmoved_moments : (now : ℕ) (es : List Entry) → AreUnmoved es → AreOfTurn now es
unmoved_moments now es is = subst (AreOfTurn now) (append-nil es) (moved_moments now es [] is (record { moments = refl; one = omega arith }))

-- these, which are legal after those before
pub entries_noted : {D : Type 0} (b : Ghosts D) (o : State) (g g' : GroundValue D) (k n : ℕ) (s : Standing) (es : List Entry)
    → s ≡ standing_after o (scripts_in g) (entries_in g) → n ≡ k → entries_in g' ≡ entries_in g ++ es → AreOf (scripts_in g) s n es
    → IsLegalFrom (scripts_in g) (start o (scripts_in g)) (entries_in g') → AreOfTurn (b.moment (store_in g')) es → HasNoted b o g g' k
entries_noted b o g g' k n s es stood mine entries of_client legal moments = record {
  es = es;
  entries = entries;
  of_client = subst (λ m. AreOf (scripts_in g) (standing_after o (scripts_in g) (entries_in g)) m es) mine (subst (λ st. AreOf (scripts_in g) st n es) stood of_client);
  legal = legal_rest (scripts_in g) (start o (scripts_in g)) (entries_in g) es (subst (IsLegalFrom (scripts_in g) (start o (scripts_in g))) entries legal);
  moments = moments;
}

-- ---- a run that was stopped before

pub never_bad : {D : Type 0} (b : Ghosts D) (was g : GroundValue D) (fault : Fault) → was ≡ g → IsGround b was → was.fault ≡ Some fault → (o : State) → IsRunOf b g o → IsNeverBad (turned.Stopped fault)
never_bad b was g fault same ground some o is block why bad =
    let here : IsGround b g = subst (IsGround b) same ground in
    let h : HasRun b is.first g = here.told is.tells is.first is.opened in
    let this : fault ≡ Bad block why = (let e : turned.Stopped fault ≡ turned.Stopped (Bad block why) = bad in cc (e)) in
    let then : g.fault ≡ Some (Bad block why) = sym (ap (λ (x : GroundValue _). x.fault) same) ∙ some ∙ ap Some this in
    subst (StandsOr b h.opening is.first g.common g.sessions) then h.stands
