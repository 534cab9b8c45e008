-- What a run promises, from what its type keeps.
use Rattle.std.proofs.Common.{◌≡◌, inl, ℕ, zero, suc, ◌-◌, ◌<◌, ◌≤◌, List, [], ◌∷◌, length, map, Option, Some, None, Result, Ok, refl, sym, ap, ◌∙◌, subst, arith}
use Rattle.std.specs.Prelude.{slice_get}
use Rattle.std.specs.Option.{option_map_or}
use Rattle.pair_store.specs.declared.store.Blocks.{Ghosts}
use Rattle.service_model.specs.Standing.{Standing, client_of}
use Rattle.store_changes.specs.Writes.{Content}
use Rattle.store_model.specs.Found.{LaidStore, found, laid, state_of}
use Rattle.store_model.specs.Walk.{Refused}
use Rattle.tree_model.specs.States.{State}
use Rattle.ground_model.specs.Fronts.{AllRecovered, IsFront}
use Rattle.ground_model.specs.Runs.{IsCalm, Stands, images_of}
use Rattle.session.specs.declared.session.Session.{Session}
use Rattle.session.specs.declared.turned.Fault.{Fault}
use Rattle.session.specs.declared.turned.Fault.TheVariants.{Drive, Bad}
use Rattle.session.specs.Opening.{told_of}
use Rattle.session.proofs.Frames.{seat_of}
use Rattle.ground.specs.Grounds.{AllStand, AreClients, HasRun, IsGround, StandsOr}
use Rattle.ground.specs.Promises.{AreMade, IsPromised, IsStanding, StandsNow, kept_of}
use Rattle.ground.proofs.KeptTold.{told_kept}
use Rattle.ground.specs.Runs.{GroundValue, entries_in, journal_in, scripts_in, store_in}
use Rattle.ground.specs.Turning.{IsRunOf, replies_of}

same_store : (o : Result (LaidStore × List ℕ) Refused) (s r : LaidStore) (p q : List ℕ) → o ≡ Ok (s, p) → o ≡ Ok (r, q) → s ≡ r
same_store o s r p q one two = (let same : (s, p) ≡ (r, q) = cc in ap (λ (x : LaidStore × List ℕ). x.0) same)

past_end : {X : Type 0} (xs : List X) (i : ℕ) → slice_get xs i ≡ None → length xs ≤ i
past_end [] i e = omega arith
past_end (x ∷ xs) zero e = absurd cc
past_end (x ∷ xs) (suc i) e = (let rest = past_end xs i e in omega (arith, rest))

-- the answers of each client
answers_at : {D : Type 0} (b : Ghosts D) (g : GroundValue D) → AreClients g.sessions → (standing : Standing)
    → ((i : ℕ) (s : Session) → slice_get g.sessions i ≡ Some s → (client_of standing (suc i)).answers ≡ s.course.replies.items)
    → (k : ℕ) → 1 ≤ k → k ≤ length g.sessions → replies_of g k ≡ (client_of standing k).answers
answers_at b g clients standing each k low high = by (slice_get g.sessions (k - 1)) refl
  where
    by : (o : Option Session) → slice_get g.sessions (k - 1) ≡ o → option_map_or (λ (s : Session). s.course.replies.items) o [] ≡ (client_of standing k).answers
    by None none = absurd (let past = past_end g.sessions (k - 1) none in omega (arith, past, low, high))
    by (Some s) at = sym (each (k - 1) s at) ∙ ap (λ n. (client_of standing n).answers) {x = suc (k - 1)} {y = k} (omega (arith, low))

-- ---- a run that stands

module _ {D : Type 0} (b : Ghosts D) (g : GroundValue D) (clients : AreClients g.sessions) (opening : State) (first : ℕ) (a : AllStand b opening first g.common g.sessions) where
  stood : Stands b opening (scripts_in g) first a.scene (store_in g) (entries_in g)
  stood = a.stands.stands

  laid_now : laid (b.content (store_in g)) (b.size (store_in g)) [] ≡ Ok (a.scene.store, a.scene.places)
  laid_now =
      let F : Content → Type 0 = λ f. laid f (b.size (store_in g)) [] ≡ Ok (a.scene.store, a.scene.places) in
      subst F stood.content (subst (λ n. laid a.scene.content n [] ≡ Ok (a.scene.store, a.scene.places)) stood.most stood.shared.laid)

  blocks_are : a.scene.store.root.blocks ≡ a.scene.standing.state.blocks
  blocks_are = ap (λ (s : State). s.blocks) stood.shared.state

  made_here : (store : LaidStore) (places : List ℕ) → laid (b.content (store_in g)) (b.size (store_in g)) [] ≡ Ok (store, places) → AreMade store a.scene.standing.made
  made_here store places is =
      let same : a.scene.store ≡ store = same_store (laid (b.content (store_in g)) (b.size (store_in g)) []) a.scene.store store a.scene.places places laid_now is in
      subst (λ s. AreMade s a.scene.standing.made) same stood.shared.made

  answered : (k : ℕ) → 1 ≤ k → k ≤ length g.sessions → replies_of g k ≡ (client_of a.scene.standing k).answers
  answered = answers_at b g clients a.scene.standing (λ i s at.
      (let seat = seat_of (scripts_in g) a.scene s.script s.course s.course.stage (a.own i s at) in
      ap (λ n. (client_of a.scene.standing n).answers) (sym (clients.numbers i s at)) ∙ seat.answers))

  standing_is : IsStanding b first g a.scene.standing
  standing_is = record {
    doubt = a.stands.sure;
    state = ap state_of laid_now ∙ ap (λ s. Ok s) stood.shared.state;
    settled = λ n low. stood.settled n (subst (λ m. n < m) (sym blocks_are) low);
    calm = subst (λ m. IsCalm b first m (store_in g)) blocks_are stood.calm;
    told = ap told_of a.stands.heads ∙ told_kept a.scene.store.files ∙ ap (λ (s : State). map kept_of s.files) stood.shared.state;
    made = made_here;
  }

  recovered_is : AllRecovered (images_of b (b.size (store_in g))) opening (scripts_in g) first (store_in g) (journal_in g)
  recovered_is t x low high may = inl (subst (λ n. IsFront opening (scripts_in g) (entries_in g) t (found x n)) stood.most (stood.fronts t x low high may))

-- ---- the whole

module _ {D : Type 0} (b : Ghosts D) (g : GroundValue D) (clients : AreClients g.sessions) where
  by_fault : (opening : State) (first : ℕ) (fault : Option Fault) → g.fault ≡ fault → StandsOr b opening first g.common g.sessions fault → IsPromised b opening first g
  by_fault opening first None none a = record {
    standing = a.scene.standing;
    legal = a.stands.stands.reaches;
    answers = answered b g clients opening first a;
    stands = subst (StandsNow b first g a.scene.standing) (sym none) (standing_is b g clients opening first a);
    recovered = recovered_is b g clients opening first a;
  }
  by_fault opening first (Some (Drive half)) is h = record {
    standing = h.stopped.standing;
    legal = h.stopped.reaches;
    answers = answers_at b g clients h.stopped.standing h.answers;
    stands = subst (StandsNow b first g h.stopped.standing) (sym is) (record {
      half = half;
      failed = refl;
      doubt = h.stopped.doubt;
      state = h.stopped.state;
      found_now = h.stopped.found;
      after = h.stopped.after;
    });
    recovered = h.stopped.recovered;
  }
  by_fault opening first (Some (Bad block why)) is h = absurd h

pub promised : {D : Type 0} (b : Ghosts D) (was g : GroundValue D) → was ≡ g → IsGround b was → (opening : State) (is : IsRunOf b g opening) → IsPromised b opening is.first g
promised b was g same ground opening is =
    let here : IsGround b g = subst (IsGround b) same ground in
    let h : HasRun b is.first g = here.told is.tells is.first is.opened in
    let state : h.opening ≡ opening = (let one = h.found in let two = is.found in cc (one, two)) in
    subst (λ o. IsPromised b o is.first g) state (by_fault b g here.safe.clients h.opening is.first g.fault refl h.stands)
