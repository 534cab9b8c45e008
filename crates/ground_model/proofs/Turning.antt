-- A turn that leads to a scene lets the run stand there.
use Rattle.std.proofs.Common.{◌≡◌, inl, inr, ℕ, ◌<◌, ◌≤◌, List, [], ◌++◌, Result, Ok, sym, ap, ◌∙◌, subst, arith}
use Rattle.pair_store.specs.declared.store.Blocks.{Ghosts}
use Rattle.recovery.proofs.Places.{laid_again}
use Rattle.service_model.specs.declared.journal.Entry.{Entry}
use Rattle.service_model.specs.Entries.{serial_state}
use Rattle.service_model.specs.Legal.{Reaches}
use Rattle.service_model.specs.Standing.{Scripts, Standing}
use Rattle.service_model.proofs.Journals.{reaches_more}
use Rattle.store_changes.specs.Writes.{Content}
use Rattle.store_model.specs.Found.{LaidStore, laid, state_in}
use Rattle.store_model.specs.Walk.{Refused}
use Rattle.tree_model.specs.States.{State}
use Rattle.ground_model.specs.Fronts.{AllFronts, TurnLeaves}
use Rattle.ground_model.specs.Runs.{Stands, IsCalm, IsNever, IsTurn, IsOneOperation, RunRecovers, TurnStands, images_of}
use Rattle.ground_model.specs.Scenes.{Scene, IsShared}
use Rattle.ground_model.proofs.Fronts.{turn_recovers, turns_recover, all_by}
use Rattle.ground_model.proofs.Writes.{SameBelow, read_leaves, write_leaves}

-- what one walk over a store found is what another one finds
pub same_laid : (r : Result (LaidStore × List ℕ) Refused) (s t : LaidStore) (ps qs : List ℕ) → r ≡ Ok (s, ps) → r ≡ Ok (t, qs) → (s ≡ t) × (ps ≡ qs)
same_laid r s t ps qs e f = of (sym e ∙ f)
  where
    of : (let x : Result (LaidStore × List ℕ) Refused = Ok (s, ps) in x) ≡ Ok (t, qs) → (s ≡ t) × (ps ≡ qs)
    of g = (ap first g, ap second g)
      where
        first : Result (LaidStore × List ℕ) Refused → LaidStore
        first (Ok x) = x.0
        first _ = s

        second : Result (LaidStore × List ℕ) Refused → List ℕ
        second (Ok x) = x.1
        second _ = ps

-- where nothing is said of images
pub never_fronts : {D : Type 0} (b : Ghosts D) (most : ℕ) (opening : State) (scripts : Scripts) (first : ℕ) (store : D) (es : List Entry) → IsNever b first
    → AllFronts (images_of b most) opening scripts first store es
never_fronts b most opening scripts first store es never t x low high may = absurd (let past = never store in omega (arith, past, low, high))

module _ {D : Type 0} (b : Ghosts D) (settled_left : (s : D) (n : ℕ) (f : Content) → b.settled_always s n → b.may_leave s (b.moment s) f → f n ≡ b.content s n)
    (opening : State) (scripts : Scripts) (first : ℕ) (old new : Scene) (before after : D) (es fs : List Entry)
    (st : Stands b opening scripts first old before es) (turn : IsTurn b scripts old new before after fs) (shared : IsShared new) where
  -- what the turn did to the device
  size_same : b.size after ≡ b.size before
  size_same = elim turn.operation [ inl r ↦ r.size | inr w ↦ w.3.size ]

  settled_still : (n : ℕ) → b.settled before n → b.settled after n
  settled_still = elim turn.operation [ inl r ↦ r.settled | inr w ↦ w.3.settled ]

  always_still : (n : ℕ) → b.settled_always before n → b.settled_always after n
  always_still = elim turn.operation [ inl r ↦ r.settled_always | inr w ↦ w.3.settled_always ]

  later : b.moment before ≤ b.moment after
  later = elim turn.operation [ inl r ↦ r.images.later | inr w ↦ w.3.later ]

  -- the store that the new contents stand for, on halves of the old size
  laid_now : laid (b.content after) old.most [] ≡ Ok (new.store, new.places)
  laid_now =
      let F : Content → ℕ → Type 0 = λ c m. laid c m [] ≡ Ok (new.store, new.places) in
      subst (λ c. F c old.most) turn.content (subst (λ m. F new.content m) turn.most shared.laid)

  -- what it left of the files that are found, where images are spoken of
  leaves : ((n : ℕ) → n < old.store.root.blocks → b.settled_always before n) → TurnLeaves (images_of b old.most) before after (state_in old.store) (state_in new.store)
  leaves always = by turn.operation
    where
      known : (f : Content) → b.may_leave before (b.moment before) f → SameBelow old.store.root.blocks old.content f
      known f may n low = settled_left before n f (always n low) may ∙ ap (λ (c : Content). c n) (sym st.content)

      settled_now : (f : Content) → b.may_leave after (b.moment after) f → SameBelow old.store.root.blocks (b.content after) f
      settled_now f may n low = settled_left after n f (always_still n (always n low)) may

      was : (n : ℕ) → b.content before n ≡ old.content n
      was n = ap (λ (c : Content). c n) (sym st.content)

      by : IsOneOperation b old.store.root.blocks before after → TurnLeaves (images_of b old.most) before after (state_in old.store) (state_in new.store)
      by (inl r) =
          let again : laid (b.content after) old.most [] ≡ Ok (old.store, old.places) =
          laid_again old.content (b.content after) old.most old.store old.places st.shared.laid (r.same 0 ∙ was 0) (λ n low. r.same n ∙ was n) in
          let one : old.store ≡ new.store = (same_laid (laid (b.content after) old.most []) old.store new.store old.places new.places again laid_now).0 in
          let F : LaidStore → Type 0 = λ s. TurnLeaves (images_of b old.most) before after (state_in old.store) (state_in s) in
          subst F one (read_leaves b old.most before after old.content old.store old.places st.shared.some st.shared.laid known r.images)
      by (inr (block, bytes, within, w)) =
          write_leaves b old.most before after old.content old.store old.places st.shared.some st.shared.laid known
          (b.content after) block bytes (λ k ne. w.others k ne ∙ was k) w.here new.store new.places laid_now turn.blocks (w.images (always block within)) settled_now

  reaches : Reaches opening scripts (es ++ fs) new.standing
  reaches = subst (λ (s : Standing). Reaches opening scripts (es ++ fs) s) (sym turn.leads) (reaches_more opening scripts es fs old.standing st.reaches turn.legal)

  before_is : state_in old.store ≡ serial_state opening scripts es
  before_is = st.shared.state ∙ sym (ap (λ (s : Standing). s.state) st.reaches.leads)

  after_is : state_in new.store ≡ serial_state opening scripts (es ++ fs)
  after_is = shared.state ∙ sym (ap (λ (s : Standing). s.state) reaches.leads)

  fronts_of : ((n : ℕ) → n < old.store.root.blocks → b.settled_always before n) → AllFronts (images_of b new.most) opening scripts first after (es ++ fs)
  fronts_of always =
      let F : State → State → Type 0 = λ x y. TurnLeaves (images_of b old.most) before after x y in
      let told : F (serial_state opening scripts es) (serial_state opening scripts (es ++ fs)) =
      subst (λ y. F (serial_state opening scripts es) y) after_is (subst (λ x. F x (state_in new.store)) before_is (leaves always)) in
      subst (λ m. AllFronts (images_of b m) opening scripts first after (es ++ fs)) (sym turn.most)
      (turn_recovers opening scripts (images_of b old.most) first before after es fs st.fronts st.past told turn.moments)

  fronts : AllFronts (images_of b new.most) opening scripts first after (es ++ fs)
  fronts = elim st.calm [
    | inl always ↦ fronts_of always
    | inr never ↦ never_fronts b new.most opening scripts first after (es ++ fs) never
  ]

  calm : IsCalm b first new.store.root.blocks after
  calm = elim st.calm [
    | inl always ↦ inl (λ n low. always_still n (always n (subst (λ m. n < m) turn.blocks low)))
    | inr never ↦ inr never
  ]

  pub turn_stands_here : Stands b opening scripts first new after (es ++ fs)
  turn_stands_here = record {
    shared = shared;
    content = turn.content;
    most = turn.most ∙ st.most ∙ sym size_same;
    settled = λ n low. settled_still n (st.settled n (subst (λ m. n < m) turn.blocks low));
    calm = calm;
    fitting = st.fitting;
    sayable = st.sayable;
    reaches = reaches;
    past = all_by (b.moment before) (b.moment after) es fs later st.past turn.moments.moments;
    fronts = fronts;
  }

pub turn_stands : {D : Type 0} (b : Ghosts D) → ((s : D) (n : ℕ) (f : Content) → b.settled_always s n → b.may_leave s (b.moment s) f → f n ≡ b.content s n) → TurnStands b
turn_stands b settled_left opening scripts first old new before after es fs st turn shared =
    turn_stands_here b settled_left opening scripts first old new before after es fs st turn shared

-- ---- any number of turns

pub run_recovers : {D : Type 0} (b : Ghosts D) → RunRecovers b
run_recovers b most opening scripts first d es turns = turns_recover opening scripts (images_of b most) first d es turns
