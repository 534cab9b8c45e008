-- A run that a fault stopped as a link was set or the members of the top were cleared: both contents stand for the same files.
use Rattle.std.proofs.Common.{◌≡◌, inl, inr, ℕ, ◌<◌, ◌≤◌, List, [], Some, None, Ok, refl, sym, ap, ◌∙◌, subst, arith, append-nil}
use Rattle.std.specs.Option.{option_and_then}
use Rattle.page_codec.specs.Causes.{version_of}
use Rattle.page_codec.specs.Values.{VersionValue}
use Rattle.pair_store.specs.Blocks.{SameOthers}
use Rattle.pair_store.specs.declared.store.Blocks.{Ghosts}
use Rattle.service_model.specs.declared.journal.Entry.{Entry}
use Rattle.service_model.specs.declared.journal.Journal.{Journal}
use Rattle.service_model.specs.Entries.{serial_state}
use Rattle.service_model.specs.Standing.{Scripts, Standing}
use Rattle.store_changes.specs.Writes.{Content}
use Rattle.store_model.specs.Changes.{Rewrites, with_commit, without_members}
use Rattle.store_model.specs.Found.{found, laid, state_in}
use Rattle.store_model.specs.Laws.{read_of}
use Rattle.tree_model.specs.States.{State}
use Rattle.ground_model.specs.Fronts.{AllFronts, TurnLeaves, TurnStops}
use Rattle.ground_model.specs.Linking.{IsSettingLinks}
use Rattle.ground_model.specs.Rolling.{ClearingStops, IsMarkTorn, IsMarkedTo, MemberStops}
use Rattle.ground_model.specs.Runs.{Stands, images_of}
use Rattle.ground_model.specs.Scenes.{Scene}
use Rattle.ground_model.specs.Stops.{HasStopped}
use Rattle.ground_model.proofs.Fronts.{turn_recovers}
use Rattle.ground_model.proofs.RollingClears.{top_is_cleared}
use Rattle.ground_model.proofs.RollingLinks.{link_is_set}
use Rattle.ground_model.proofs.Testing.{here_now, others_then, standing_sound, written_in}
use Rattle.ground_model.proofs.Turning.{never_fronts}
use Rattle.ground_model.proofs.Writes.{SameBelow, below_found, one_of_two, write_stops}

module _ {D : Type 0} (b : Ghosts D) (settled_left : (s : D) (n : ℕ) (f : Content) → b.settled_always s n → b.may_leave s (b.moment s) f → f n ≡ b.content s n) where
  module _ (opening : State) (scripts : Scripts) (first k : ℕ) (scene new : Scene) (before after : D) (journal : Journal) (block : ℕ) (change : VersionValue → VersionValue)
      (st : Stands b opening scripts first scene before journal.entries.items) (none : journal.doubt ≡ None) (torn : IsMarkTorn b scene before after block change)
      (to : IsMarkedTo k scene new (written_in scene.content block torn.bytes)) where
    abbrev es : List Entry
    es = journal.entries.items

    abbrev Always : Type 0
    Always = (n : ℕ) → n < scene.store.root.blocks → b.settled_always before n

    known : Always → (f : Content) → b.may_leave before (b.moment before) f → SameBelow scene.store.root.blocks scene.content f
    known always f may n low = settled_left before n f (always n low) may ∙ ap (λ (c : Content). c n) (sym st.content)

    here : new.content block ≡ Some torn.bytes
    here = ap (λ (c : Content). c block) to.content_is ∙ here_now scene.content block torn.bytes

    others : SameOthers block scene.content new.content
    others n ne = ap (λ (c : Content). c n) to.content_is ∙ others_then scene.content block torn.bytes n ne

    laid_there : laid new.content scene.most [] ≡ Ok (new.store, new.places)
    laid_there = subst (λ m. laid new.content m [] ≡ Ok (new.store, new.places)) to.most to.leads.shared.laid

    state_is : state_in new.store ≡ state_in scene.store
    state_is = to.leads.shared.state ∙ ap (λ (s : Standing). s.state) to.standing_is ∙ sym st.shared.state

    stops : Always → TurnStops (images_of b scene.most) before after (state_in scene.store) (state_in new.store)
    stops always =
        write_stops b scene.most before after scene.content scene.store scene.places st.shared.some st.shared.laid (known always)
        new.content block torn.bytes others here new.store new.places laid_there to.blocks (torn.images (always block torn.within))

    -- a crash leaves the same files, whichever content the block has
    either : Always → (t : ℕ) (x : Content) → b.moment before ≤ t → t ≤ b.moment after → b.may_leave after t x → found x scene.most ≡ Ok (state_in scene.store)
    either always t x low high may = elim ((stops always).within t x low high may) [ inl e ↦ e | inr e ↦ e ∙ ap Ok state_is ]

    leaves : Always → TurnLeaves (images_of b scene.most) before after (state_in scene.store) (state_in scene.store)
    leaves always = record {
      later = (stops always).later;
      past = (stops always).past;
      within = λ t x low high may. inl (either always t x low (omega (arith, high)) may);
      last = λ x may. either always (b.moment after) x (stops always).later (omega arith) may;
    }

    state_now : state_in scene.store ≡ serial_state opening scripts es
    state_now = st.shared.state ∙ sym (ap (λ (s : Standing). s.state) st.reaches.leads)

    fronts_of : Always → AllFronts (images_of b scene.most) opening scripts first after es
    fronts_of always =
        let F : State → Type 0 = λ x. TurnLeaves (images_of b scene.most) before after x x in
        let H : List Entry → Type 0 = λ fs. TurnLeaves (images_of b scene.most) before after (serial_state opening scripts es) (serial_state opening scripts fs) in
        let told : F (serial_state opening scripts es) = subst F state_now (leaves always) in
        subst (λ fs. AllFronts (images_of b scene.most) opening scripts first after fs) (append-nil es)
        (turn_recovers opening scripts (images_of b scene.most) first before after es [] st.fronts st.past (subst H (sym (append-nil es)) told) (record { moments = refl; one = omega arith }))

    fronts : AllFronts (images_of b scene.most) opening scripts first after es
    fronts = elim st.calm [
      | inl always ↦ fronts_of always
      | inr never ↦ never_fronts b scene.most opening scripts first after es never
    ]

    size : b.size after ≡ scene.most
    size = torn.size ∙ sym st.most

    found_now : found (b.content after) scene.most ≡ Ok (state_in scene.store)
    found_now =
        let was : SameBelow scene.store.root.blocks scene.content (b.content before) = λ n low. ap (λ (c : Content). c n) (sym st.content) in
        elim (one_of_two scene.store.root.blocks scene.content new.content block torn.bytes others here (b.content before) (b.content after) was torn.either) [
          | inl same ↦ below_found scene.content (b.content after) scene.most scene.store scene.places st.shared.some st.shared.laid same
          | inr same ↦
              below_found new.content (b.content after) scene.most new.store new.places to.leads.shared.some laid_there (subst (λ m. SameBelow m new.content (b.content after)) (sym to.blocks) same)
              ∙ ap Ok state_is
        ]

    pub mark_stops : HasStopped b opening scripts first after journal
    mark_stops = record {
      standing = scene.standing;
      reaches = st.reaches;
      doubt = λ e is. absurd (let no : None ≡ Some e = sym none ∙ is in cc);
      state = state_in scene.store;
      found = subst (λ m. found (b.content after) m ≡ Ok (state_in scene.store)) (sym size) found_now;
      after = inl st.shared.state;
      recovered = λ t x low high may. inl (subst (λ m. AllFronts (images_of b m) opening scripts first after es) (sym size) fronts t x low high may);
    }

  -- the contents with the change
  rewritten : (scene : Scene) (before after : D) (block : ℕ) (change : VersionValue → VersionValue) (torn : IsMarkTorn b scene before after block change)
      → Rewrites scene.content (written_in scene.content block torn.bytes) block change
  rewritten scene before after block change torn = record {
    page = torn.page;
    was = torn.was;
    is = ap (option_and_then (λ bytes. read_of (version_of bytes))) (here_now scene.content block torn.bytes) ∙ ap read_of torn.changed;
    others = λ n ne. sym (others_then scene.content block torn.bytes n ne);
  }

  pub member_stops : MemberStops b
  member_stops opening scripts first k scene before after journal u made moment object block members link left st none setting torn =
      let set : (new : Scene) × IsMarkedTo k scene new (written_in scene.content link.base torn.bytes) × IsSettingLinks new k u made moment object block members left =
      link_is_set scripts k scene (written_in scene.content link.base torn.bytes) u made moment object block members link left st.shared
      (standing_sound b opening scripts first scene before journal.entries.items st) setting
      (rewritten scene before after link.base (with_commit link.member.block) torn) in
      mark_stops opening scripts first k scene set.0 before after journal link.base (with_commit link.member.block) st none torn set.1

  pub clearing_stops : ClearingStops b
  clearing_stops opening scripts first k scene before after journal u made moment object block members st none some setting torn =
      let set : (new : Scene) × IsMarkedTo k scene new (written_in scene.content block torn.bytes) × IsSettingLinks new k u made moment object block [] [] =
      top_is_cleared scripts k scene (written_in scene.content block torn.bytes) u made moment object block members st.shared
      (standing_sound b opening scripts first scene before journal.entries.items st) some setting
      (rewritten scene before after block without_members torn) in
      mark_stops opening scripts first k scene set.0 before after journal block without_members st none torn set.1
