-- A run that a fault stopped in the write of a block that the client holds.
use Rattle.std.proofs.Common.{◌≡◌, ◌≢◌, inl, inr, ℕ, ◌<◌, ◌≤◌, Bool, true, false, cond, nat_eq, List, [], ◌++◌, Some, None, Ok, refl, sym, ap, ◌∙◌, subst, arith, ne_eqb}
use Rattle.std.proofs.lemmas.Bool.{eqb-false}
use Rattle.block_map.specs.declared.states.BlockState.{BlockState}
use Rattle.flush_model.specs.Flushed.{IsFree}
use Rattle.drives.specs.Changes.{Changes}
use Rattle.pair_store.specs.Blocks.{OldOrNew}
use Rattle.pair_store.specs.declared.store.Blocks.{Ghosts}
use Rattle.service_model.specs.declared.journal.Entry.{Entry}
use Rattle.service_model.specs.declared.journal.Journal.{Journal}
use Rattle.service_model.specs.Entries.{after_entries, serial_state}
use Rattle.service_model.specs.Legal.{Reaches}
use Rattle.service_model.specs.Standing.{Scripts, Standing, Client}
use Rattle.service_model.proofs.Journals.{reaches_more}
use Rattle.store_changes.specs.Writes.{Content}
use Rattle.store_changes.proofs.Keeping.{free_blocks_are_free}
use Rattle.store_model.specs.Found.{LaidStore, found, laid, state_in}
use Rattle.tree_model.specs.States.{State}
use Rattle.ground_model.specs.Fronts.{AllFronts, TurnLeaves}
use Rattle.ground_model.specs.Laws.{Leads}
use Rattle.ground_model.specs.LineTurns.{HeldWriteStops, IsFailedTurn, StandsStops}
use Rattle.ground_model.specs.Runs.{Stands, images_of}
use Rattle.ground_model.specs.Scenes.{Scene}
use Rattle.ground_model.specs.Stops.{HasStopped}
use Rattle.ground_model.proofs.Fronts.{turn_recovers}
use Rattle.ground_model.proofs.HeldWrites.{held_is_free, past_end}
use Rattle.ground_model.proofs.Lines.{changes_only}
use Rattle.ground_model.proofs.Steps.{line_step_leads}
use Rattle.ground_model.proofs.Turning.{never_fronts}
use Rattle.ground_model.proofs.Writes.{SameBelow, below_found}

-- contents that agree with those of a store below its number of blocks, but in a free block, stand for the same files
module _ (c f : Content) (most : ℕ) (store : LaidStore) (places : List ℕ) (some : 0 < store.root.blocks) (is : laid c most [] ≡ Ok (store, places)) (block : ℕ) (free : IsFree store places block)
    (same : (n : ℕ) → n ≢ block → n < store.root.blocks → f n ≡ c n) where
  -- those contents where only that block differs
  mixed : Content
  mixed n = cond (nat_eq n block) (f n) (c n)

  mixed_other : (n : ℕ) → n ≢ block → c n ≡ mixed n
  unfolding mixed
  mixed_other n ne = sym (ap (λ b. cond b (f n) (c n)) (ne_eqb n block ne))

  mixed_same : SameBelow store.root.blocks mixed f
  unfolding mixed
  mixed_same n low = by (nat_eq n block) refl
    where
      by : (b : Bool) → nat_eq n block ≡ b → f n ≡ cond b (f n) (c n)
      by true e = refl
      by false e = same n (eqb-false n block e) low

  pub free_found : found f most ≡ Ok (state_in store)
  free_found =
      below_found mixed f most store places some
      (free_blocks_are_free c mixed most store places is block free.low free.free mixed_other) mixed_same

module _ {D : Type 0} (b : Ghosts D) (settled_left : (s : D) (n : ℕ) (f : Content) → b.settled_always s n → b.may_leave s (b.moment s) f → f n ≡ b.content s n)
    (opening : State) (scripts : Scripts) (first k : ℕ) (scene : Scene) (before after : D) (es fs : List Entry) (c : Client) (states : List BlockState) (block : ℕ) (bytes : List ℕ)
    (st : Stands b opening scripts first scene before es) (turn : IsFailedTurn b scripts k scene before after fs c states block bytes) where
  abbrev standing : Standing
  standing = after_entries scripts scene.standing fs

  noted : Leads k scene (record scene { content = scene.content; states = states; standing = standing })
  noted =
      line_step_leads k scene scene.content states standing st.shared (record {
        same = λ n. refl;
        only = changes_only scene.standing standing k c turn.client turn.notes.becomes turn.links;
        size = turn.map.size;
        fixed = turn.map.fixed;
        held = turn.map.held;
      })

  free : IsFree scene.store scene.places block
  free = held_is_free (record scene { content = scene.content; states = states; standing = standing }) noted.shared.map k block turn.mine

  found_of : (f : Content) → ((n : ℕ) → n ≢ block → n < scene.store.root.blocks → f n ≡ scene.content n) → found f scene.most ≡ Ok (state_in scene.store)
  found_of f same = free_found scene.content f scene.most scene.store scene.places st.shared.some st.shared.laid block free same

  -- every crash from the turn on leaves the files as they were
  image : ((n : ℕ) → n < scene.store.root.blocks → b.settled_always before n) → (changes : Changes b.moment b.may_leave before after (OldOrNew block bytes))
      → (t : ℕ) (x : Content) → b.moment before ≤ t → t ≤ b.moment after → b.may_leave after t x → found x scene.most ≡ Ok (state_in scene.store)
  image always changes t x low high may =
      let from = changes.own t x low high may in
      found_of x (λ n ne small. from.2.others n ne ∙ settled_left before n from.0 (always n small) from.1 ∙ ap (λ (f : Content). f n) (sym st.content))

  leaves : ((n : ℕ) → n < scene.store.root.blocks → b.settled_always before n) → Changes b.moment b.may_leave before after (OldOrNew block bytes)
      → TurnLeaves (images_of b scene.most) before after (state_in scene.store) (state_in scene.store)
  leaves always changes = record {
    later = changes.later;
    past = λ t x low may. (changes.past t x (omega (arith, low)) (let l = changes.later in omega (arith, low, l))).0 may;
    within = λ t x low high may. inl (image always changes t x low (omega (arith, high)) may);
    last = λ x may. image always changes (b.moment after) x changes.later (omega arith) may;
  }

  within : block < scene.store.root.blocks
  within = subst (λ n. block < n) (turn.map.size ∙ st.shared.map.size) (past_end states block k turn.mine)

  reaches : Reaches opening scripts (es ++ fs) standing
  reaches = reaches_more opening scripts es fs scene.standing st.reaches turn.notes.legal

  before_is : state_in scene.store ≡ serial_state opening scripts es
  before_is = st.shared.state ∙ sym (ap (λ (s : Standing). s.state) st.reaches.leads)

  state_is : state_in scene.store ≡ standing.state
  state_is = st.shared.state ∙ sym turn.notes.becomes.state

  after_is : state_in scene.store ≡ serial_state opening scripts (es ++ fs)
  after_is = state_is ∙ sym (ap (λ (s : Standing). s.state) reaches.leads)

  fronts : AllFronts (images_of b scene.most) opening scripts first after (es ++ fs)
  fronts = elim st.calm [
    | inl always ↦
        let F : State → State → Type 0 = λ x y. TurnLeaves (images_of b scene.most) before after x y in
        turn_recovers opening scripts (images_of b scene.most) first before after es fs st.fronts st.past
        (subst (λ y. F (serial_state opening scripts es) y) after_is (subst (λ x. F x (state_in scene.store)) before_is (leaves always (turn.images (always block within))))) turn.moments
    | inr never ↦ never_fronts b scene.most opening scripts first after (es ++ fs) never
  ]

  size_is : b.size after ≡ scene.most
  size_is = turn.size ∙ sym st.most

  found_now : found (b.content after) (b.size after) ≡ Ok (state_in scene.store)
  found_now =
      subst (λ m. found (b.content after) m ≡ Ok (state_in scene.store)) (sym size_is)
      (found_of (b.content after) (λ n ne small. turn.either.others n ne ∙ ap (λ (f : Content). f n) (sym st.content)))

  held_write_stops_here : (journal : Journal) → journal.entries.items ≡ es ++ fs → journal.doubt ≡ None → HasStopped b opening scripts first after journal
  held_write_stops_here journal entries none = record {
    standing = standing;
    reaches = subst (λ (xs : List Entry). Reaches opening scripts xs standing) (sym entries) reaches;
    doubt = λ e is. absurd (let no : None ≡ Some e = sym none ∙ is in cc);
    state = state_in scene.store;
    found = found_now;
    after = inl state_is;
    recovered = λ t x low high may.
        let F : ℕ → List Entry → Type 0 = λ m xs. AllFronts (images_of b m) opening scripts first after xs in
        inl (subst (λ xs. F (b.size after) xs) (sym entries) (subst (λ m. F m (es ++ fs)) (sym size_is) fronts) t x low high may);
  }

pub held_write_stops : {D : Type 0} (b : Ghosts D) → ((s : D) (n : ℕ) (f : Content) → b.settled_always s n → b.may_leave s (b.moment s) f → f n ≡ b.content s n) → HeldWriteStops b
held_write_stops b settled_left opening scripts first k scene before after es fs c states block bytes journal st turn entries none =
    held_write_stops_here b settled_left opening scripts first k scene before after es fs c states block bytes st turn journal entries none

-- ---- between two turns

pub stands_stops : {D : Type 0} (b : Ghosts D) → StandsStops b
stands_stops b opening scripts first scene store journal st none =
    let es = journal.entries.items in
    let F : Content → ℕ → Type 0 = λ c m. found c m ≡ Ok (state_in scene.store) in
    let here : F scene.content scene.most = below_found scene.content scene.content scene.most scene.store scene.places st.shared.some st.shared.laid (λ n low. refl) in
    record {
      standing = scene.standing;
      reaches = st.reaches;
      doubt = λ e is. absurd (let no : None ≡ Some e = sym none ∙ is in cc);
      state = state_in scene.store;
      found = subst (λ m. F (b.content store) m) st.most (subst (λ c. F c scene.most) st.content here);
      after = inl st.shared.state;
      recovered = λ t x low high may. inl (subst (λ m. AllFronts (images_of b m) opening scripts first store es) st.most st.fronts t x low high may);
    }
