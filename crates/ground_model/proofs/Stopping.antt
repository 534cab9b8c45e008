-- What is kept of a run that a fault stopped.
use Rattle.std.proofs.Common.{◌≡◌, inl, inr, ℕ, ◌<◌, List, [], ◌∷◌, ◌++◌, Some, None, Ok, refl, sym, ap, ◌∙◌, subst, arith, append-nil}
use Rattle.pair_store.specs.declared.store.Blocks.{Ghosts}
use Rattle.service_model.specs.declared.journal.Entry.{Entry}
use Rattle.service_model.specs.declared.journal.Journal.{Journal}
use Rattle.service_model.specs.Entries.{after_entry, serial_state}
use Rattle.service_model.specs.Legal.{IsLawful, Reaches}
use Rattle.service_model.specs.Standing.{Scripts, Standing}
use Rattle.service_model.proofs.Journals.{reaches_next}
use Rattle.store_changes.specs.Writes.{Content}
use Rattle.store_model.specs.Found.{found, laid, state_in}
use Rattle.tree_model.specs.States.{State}
use Rattle.ground_model.specs.Fronts.{AllFronts, AllRecovered, TurnLeaves, TurnStops}
use Rattle.ground_model.specs.Runs.{Stands, images_of}
use Rattle.ground_model.specs.Scenes.{Scene, IsShared}
use Rattle.ground_model.specs.Stops.{HasStopped, IsFailedWrite, IsFoundAfter, ReadStops, WriteStops}
use Rattle.ground_model.proofs.Fronts.{stop_recovers, turn_recovers}
use Rattle.ground_model.proofs.Turning.{never_fronts}
use Rattle.ground_model.proofs.Writes.{SameBelow, below_found, one_of_two, read_leaves, write_stops}

module _ {D : Type 0} (b : Ghosts D) (settled_left : (s : D) (n : ℕ) (f : Content) → b.settled_always s n → b.may_leave s (b.moment s) f → f n ≡ b.content s n) where
  -- what a crash leaves of a run that stands, where images are spoken of
  known : (opening : State) (scripts : Scripts) (first : ℕ) (scene : Scene) (before : D) (es : List Entry) → Stands b opening scripts first scene before es
      → ((n : ℕ) → n < scene.store.root.blocks → b.settled_always before n) → (f : Content) → b.may_leave before (b.moment before) f
      → SameBelow scene.store.root.blocks scene.content f
  known opening scripts first scene before es st always f may n low = settled_left before n f (always n low) may ∙ ap (λ (c : Content). c n) (sym st.content)

  pub read_stops : ReadStops b
  read_stops opening scripts first scene before after journal st none read =
      let es = journal.entries.items in
      let now : state_in scene.store ≡ serial_state opening scripts es = st.shared.state ∙ sym (ap (λ (s : Standing). s.state) st.reaches.leads) in
      let size : b.size after ≡ scene.most = read.size ∙ sym st.most in
      let F : State → Type 0 = λ x. TurnLeaves (images_of b scene.most) before after x x in
      let H : List Entry → Type 0 = λ fs. TurnLeaves (images_of b scene.most) before after (serial_state opening scripts es) (serial_state opening scripts fs) in
      let fronts : AllFronts (images_of b scene.most) opening scripts first after es =
      elim st.calm [
        | inl always ↦
            let leaves : F (serial_state opening scripts es) =
            subst F now (read_leaves b scene.most before after scene.content scene.store scene.places st.shared.some st.shared.laid (known opening scripts first scene before es st always) read.images) in
            subst (λ fs. AllFronts (images_of b scene.most) opening scripts first after fs) (append-nil es)
            (turn_recovers opening scripts (images_of b scene.most) first before after es [] st.fronts st.past (subst H (sym (append-nil es)) leaves) (record { moments = refl; one = omega arith }))
        | inr never ↦ never_fronts b scene.most opening scripts first after es never
      ] in
      let same : SameBelow scene.store.root.blocks scene.content (b.content after) = λ n low. read.same n ∙ ap (λ (c : Content). c n) (sym st.content) in
      record {
        standing = scene.standing;
        reaches = st.reaches;
        doubt = λ e is. absurd (let no : None ≡ Some e = sym none ∙ is in cc);
        state = state_in scene.store;
        found = subst (λ m. found (b.content after) m ≡ Ok (state_in scene.store)) (sym size) (below_found scene.content (b.content after) scene.most scene.store scene.places st.shared.some st.shared.laid same);
        after = inl st.shared.state;
        recovered = λ t x low high may. inl (subst (λ m. AllFronts (images_of b m) opening scripts first after es) (sym size) fronts t x low high may);
      }

  module _ (opening : State) (scripts : Scripts) (first : ℕ) (old new : Scene) (before after : D) (block : ℕ) (bytes : List ℕ) (journal : Journal) (e : Entry)
      (st : Stands b opening scripts first old before journal.entries.items) (doubt : journal.doubt ≡ Some e) (shared : IsShared new) (lawful : IsLawful scripts old.standing e)
      (leads : new.standing ≡ after_entry scripts old.standing e) (failed : IsFailedWrite b old new before after block bytes) where
    size : b.size after ≡ old.most
    size = failed.size ∙ sym st.most

    laid_there : laid new.content old.most [] ≡ Ok (new.store, new.places)
    laid_there = subst (λ m. laid new.content m [] ≡ Ok (new.store, new.places)) failed.most shared.laid

    stops : ((n : ℕ) → n < old.store.root.blocks → b.settled_always before n) → TurnStops (images_of b old.most) before after (state_in old.store) (state_in new.store)
    stops always =
        write_stops b old.most before after old.content old.store old.places st.shared.some st.shared.laid (known opening scripts first old before journal.entries.items st always)
        new.content block bytes failed.others failed.here new.store new.places laid_there failed.blocks (failed.images (always block failed.within))

    reached : Reaches opening scripts (journal.entries.items ++ e ∷ []) (after_entry scripts old.standing e)
    reached = reaches_next opening scripts journal.entries.items old.standing e st.reaches lawful

    before_is : state_in old.store ≡ serial_state opening scripts journal.entries.items
    before_is = st.shared.state ∙ sym (ap (λ (s : Standing). s.state) st.reaches.leads)

    after_is : state_in new.store ≡ serial_state opening scripts (journal.entries.items ++ e ∷ [])
    after_is = shared.state ∙ ap (λ (s : Standing). s.state) leads ∙ sym (ap (λ (s : Standing). s.state) reached.leads)

    recovered : AllRecovered (images_of b old.most) opening scripts first after journal
    recovered = elim st.calm [
      | inl always ↦
          let F : State → State → Type 0 = λ x y. TurnStops (images_of b old.most) before after x y in
          stop_recovers opening scripts (images_of b old.most) first before after journal e st.fronts st.past doubt
          (subst (λ y. F (serial_state opening scripts journal.entries.items) y) after_is (subst (λ x. F x (state_in new.store)) before_is (stops always)))
      | inr never ↦ λ t x low high may. inl (never_fronts b old.most opening scripts first after journal.entries.items never t x low high may)
    ]

    -- what is found now
    found_now : (x : State) × (found (b.content after) (b.size after) ≡ Ok x) × IsFoundAfter scripts old.standing journal.doubt x
    found_now =
        let was : SameBelow old.store.root.blocks old.content (b.content before) = λ n low. ap (λ (c : Content). c n) (sym st.content) in
        elim (one_of_two old.store.root.blocks old.content new.content block bytes failed.others failed.here (b.content before) (b.content after) was failed.either) [
          | inl same ↦ (
            state_in old.store,
            subst (λ m. found (b.content after) m ≡ Ok (state_in old.store)) (sym size) (below_found old.content (b.content after) old.most old.store old.places st.shared.some st.shared.laid same),
            inl st.shared.state,
          )
          | inr same ↦ (
            state_in new.store,
            subst (λ m. found (b.content after) m ≡ Ok (state_in new.store)) (sym size)
                (below_found new.content (b.content after) old.most new.store new.places shared.some laid_there (subst (λ m. SameBelow m new.content (b.content after)) (sym failed.blocks) same)),
            inr (e, doubt, shared.state ∙ ap (λ (s : Standing). s.state) leads),
          )
        ]

    write_stops_here : HasStopped b opening scripts first after journal
    write_stops_here =
        let now = found_now in
        record {
          standing = old.standing;
          reaches = st.reaches;
          doubt = λ f is. (let same : e ≡ f = cc (doubt, is) in subst (λ (x : Entry). IsLawful scripts old.standing x) same lawful);
          state = now.0;
          found = now.1;
          after = now.2;
          recovered = subst (λ m. AllRecovered (images_of b m) opening scripts first after journal) (sym size) recovered;
        }

  pub write_stops_run : WriteStops b
  write_stops_run opening scripts first old new before after block bytes journal e st doubt shared lawful leads failed =
      write_stops_here opening scripts first old new before after block bytes journal e st doubt shared lawful leads failed
