-- A turn that reads a block: it stops where a half failed, and nowhere else where contents are told; or it goes on.
use Rattle.std.proofs.Common.{◌≡◌, ◌⊎◌, inl, inr, ℕ, ◌+◌, ◌*◌, ◌-◌, ◌^◌, ◌<◌, ◌≤◌, List, length, Option, Some, None, Err, refl, sym, ap, ◌∙◌, subst, arith, slice_get}
use Rattle.std.specs.Prelude.{min}
use Rattle.block_map.specs.States.{held_count}
use Rattle.block_map.specs.declared.states.BlockState.{BlockState}
use Rattle.drives.specs.declared.device.Half.{Half}
use Rattle.pair_store.specs.Blocks.{CountsOne}
use Rattle.pair_store.specs.declared.store.Blocks.{Ghosts}
use Rattle.recovery.specs.Opening.{IsFailed}
use Rattle.script_text.specs.ScriptValue.{ScriptValue}
use Rattle.service_model.specs.declared.journal.Journal.{Journal}
use Rattle.service_model.specs.Standing.{Scripts}
use Rattle.store_changes.specs.Writes.{Content}
use Rattle.tree_model.specs.States.{State}
use Rattle.ground_model.specs.Scenes.{Scene}
use Rattle.ground_model.specs.Stops.{HasStopped, ReadStops}
use Rattle.session.specs.Calls.{IsIn, IsLost, IsReady, KeepsNumbers, Own, TurnCall, Turns}
use Rattle.session.specs.Ends.{StopsBy}
use Rattle.session.specs.Reads.{ReadCall, StoreAlone}
use Rattle.session.specs.Safe.{AreSafeDrafts, IsSafe, IsSafeStage, IsSafeStore, drafts_of, entries_left, noted_for}
use Rattle.session.specs.Shared.{RunStands, entries_of, room_of}
use Rattle.session.specs.Values.{RepliesValue, one_more}
use Rattle.session.specs.declared.common.Common.{Common}
use Rattle.session.specs.declared.course.Course.{Course}
use Rattle.session.specs.declared.turned.Fault.{Fault}
use Rattle.session.specs.declared.turned.Fault.TheVariants as fault
use Rattle.session.specs.declared.turned.Turned.TheVariants as turned
use Rattle.session.proofs.Calling.{stops_here}

-- The block is one of the store in the scene, and what it holds gives something.
pub record IsKnown {T : Type 0} (Gives : List ℕ → T → Type 0) (scene : Scene) (n : ℕ) : Type 0 where
  pub low : n < scene.store.root.blocks
  pub bytes : List ℕ
  pub holds : scene.content n ≡ Some bytes
  pub value : T
  pub gives : Gives bytes value

module _ {D : Type 0} (b : Ghosts D) (opening : State) (scripts : Scripts) (first : ℕ) (scene : Scene) (c : Common D) (st : RunStands b opening scripts first scene c) where
  -- what the scene's block holds is read from the store
  pub held_now : (n : ℕ) (bytes : List ℕ) → scene.content n ≡ Some bytes → b.content c.store n ≡ Some bytes
  held_now n bytes is = ap (λ (f : Content). f n) (sym st.stands.content) ∙ is

  pub settled_here : (n : ℕ) → n < scene.store.root.blocks → b.settled c.store n
  settled_here n low = st.stands.settled n low

  pub within_store : IsSafeStore b.size c → (n : ℕ) → n < scene.store.root.blocks → n < b.size c.store
  within_store safe n low =
      let blocks : length c.map ≡ scene.store.root.blocks = ap length st.map ∙ st.stands.shared.map.size in
      let most = safe.map in
      omega (arith, low, blocks, most)

module _ {D T : Type 0} (b : Ghosts D) (Gives : List ℕ → T → Type 0) (c c' : Common D) (n : ℕ) where
  module _ (e : Fault) (read : ReadCall b Gives c c' n (Err e)) (script : ScriptValue) (s : Course) (own : Own) (ready : IsReady b script c s) where
    kept_store : IsSafeStore b.size c'
    kept_store = record {
      heads = λ k head at. subst (λ m. head.block < m) (sym read.alone.size) (ready.store.heads k head (ap (λ (x : Common D). slice_get x.heads.items k) (sym read.alone.only) ∙ at));
      named = λ k head at. ready.store.named k head (ap (λ (x : Common D). slice_get x.heads.items k) (sym read.alone.only) ∙ at);
      map = (let low = ready.store.map in let size = read.alone.size in let blocks = ap (λ (x : Common D). length x.map) read.alone.only in omega (arith, low, size, blocks));
    }

    kept_safe : IsSafe (b.size c'.store) c'.map script s
    kept_safe =
        subst (λ m. IsSafe m c'.map script s) (sym read.alone.size)
        (subst (λ (states : List BlockState). IsSafe (b.size c.store) states script s) (ap (λ (x : Common D). x.map) (sym read.alone.only)) ready.safe)

    kept_numbers : KeepsNumbers b c c' s.client
    kept_numbers = record {
      size = read.alone.size;
      blocks = ap (λ (x : Common D). length x.map) read.alone.only;
      others = λ j ne. ap (λ (x : Common D). held_count j x.map) read.alone.only;
      room = ap (λ (x : Common D). room_of x) read.alone.only;
      faults = read.alone.faults;
      last = read.alone.last;
    }

    module _ (known : b.tells → (opening : State) (scripts : Scripts) (first : ℕ) (scene : Scene) → IsIn b own script c s opening scripts first scene → IsKnown Gives scene n) where
      -- a block that is known is not empty
      full : (b.tells → b.settled c.store n → b.content c.store n ≡ None) → b.tells → IsLost b own script c s
      full none told opening scripts first scene at =
          let here = known told opening scripts first scene at in
          let no = none told (settled_here b opening scripts first scene c at.stands n here.low) in
          let yes = held_now b opening scripts first scene c at.stands n here.bytes here.holds in
          (let both : (let o : Option (List ℕ) = None in o) ≡ Some here.bytes = sym no ∙ yes in absurd (cc both))

      failed : (h : Half) → IsFailed (b.faults c.store) (b.faults c'.store) (b.last_fault c'.store) (b.moment c'.store) (b.tells → b.settled c.store n → b.content c.store n ≡ None) h
          → IsFailed (b.faults c.store) (b.faults c'.store) (b.last_fault c'.store) (b.moment c'.store) (b.tells → IsLost b own script c s) h
      failed h is = record { failed = is.failed; last = by is.last }
        where
          by : ((b.last_fault c'.store h ≡ b.moment c'.store)
              ⊎ ((b.moment c'.store ≡ min (b.last_fault c'.store h + 1) (2 ^ 64 - 1)) × (b.tells → b.settled c.store n → b.content c.store n ≡ None)))
              → (b.last_fault c'.store h ≡ b.moment c'.store)
              ⊎ ((b.moment c'.store ≡ min (b.last_fault c'.store h + 1) (2 ^ 64 - 1)) × (b.tells → IsLost b own script c s))
          by (inl last) = inl last
          by (inr next) = inr (next.0, full next.1)

      -- no fault but that of a half comes where the block is known
      half_failed : b.tells → (opening : State) (scripts : Scripts) (first : ℕ) (scene : Scene) → IsIn b own script c s opening scripts first scene → (h : Half) × (e ≡ fault.Drive h)
      half_failed told opening scripts first scene at =
          let here = known told opening scripts first scene at in
          read.good told (settled_here b opening scripts first scene c at.stands n here.low) (within_store b opening scripts first scene c at.stands ready.store n here.low)
          here.bytes here.value (held_now b opening scripts first scene c at.stands n here.bytes here.holds) here.gives

      stops : (b.tells → ReadStops b) → b.tells → (opening : State) (scripts : Scripts) (first : ℕ) (scene : Scene) → IsIn b own script c s opening scripts first scene
          → StopsBy b opening scripts first scene c c' s.client e
      stops law told opening scripts first scene at =
          let half = half_failed told opening scripts first scene at in
          subst (StopsBy b opening scripts first scene c c' s.client) (sym half.1)
          (stops_here b opening scripts first scene c c' s.client (ap (λ (x : Common D). entries_of x) read.alone.only)
          (subst (λ (j : Journal). HasStopped b opening scripts first c'.store j) (ap (λ (x : Common D). x.log.journal) (sym read.alone.only))
          (law told opening scripts first scene c.store c'.store c.log.journal at.stands.stands at.stands.sure (read.read told))))

      pub read_stopped : (b.tells → ReadStops b) → TurnCall b own script c c' s s (turned.Stopped e)
      read_stopped law = record {
        store = kept_store;
        safe = kept_safe;
        numbers = kept_numbers;
        client = refl;
        entries = (let same = ap (λ (x : Common D). length (entries_of x)) read.alone.only in omega (arith, same));
        lines = refl;
        counts = tt;
        rest = tt;
        counted = read.most;
        stopped = λ h is. failed h (read.failed h (let same : e ≡ fault.Drive h = cc in ap Err same));
        turns = stops law;
      }

-- ---- a read after which the line goes on

-- A block was read, and the client's answers and blocks are as they were.
pub record GoesReading {D : Type 0} (b : Ghosts D) (c c' : Common D) (s s' : Course) : Type 0 where
  pub alone : StoreAlone b c c'
  pub one : CountsOne (b.count c.store) (b.count c'.store)
  pub rest : b.tells → b.rest c.store → b.rest c'.store
  pub turns : s'.turns ≡ one_more s.turns
  pub client : s'.client ≡ s.client
  pub replies : s'.replies ≡ s.replies
  pub held : s'.held ≡ s.held
  pub stage : IsSafeStage (length c.map) s' s'.stage
  pub drafts : AreSafeDrafts (b.size c.store) s'.drafts (drafts_of s')

module _ {D : Type 0} (b : Ghosts D) (c c' : Common D) (script : ScriptValue) (s s' : Course) (ready : IsReady b script c s) (is : GoesReading b c c' s s') where
  same_map : c'.map ≡ c.map
  same_map = ap (λ (x : Common D). x.map) is.alone.only

  safe_then : IsSafe (b.size c'.store) c'.map script s'
  safe_then = record {
    lines = subst (λ (r : RepliesValue). length r.items ≤ length script.lines) (sym is.replies) ready.safe.lines;
    room = subst (λ (r : RepliesValue). length script.lines ≤ r.room) (sym is.replies) ready.safe.room;
    held = ap (λ k. held_count k c'.map) is.client ∙ ap (held_count s.client) same_map ∙ ready.safe.held ∙ sym is.held;
    drafts = subst (λ n. AreSafeDrafts n s'.drafts (drafts_of s')) (sym is.alone.size) is.drafts;
    stage = subst (λ n. IsSafeStage n s' s'.stage) (ap length (sym same_map)) is.stage;
  }

  same_left : length (entries_of c') + entries_left script s' ≤ length (entries_of c) + entries_left script s
  same_left =
      let entries = ap (λ (x : Common D). length (entries_of x)) is.alone.only in
      let left : entries_left script s' ≡ entries_left script s =
      ap (λ n. 4 * (length script.lines - length s'.replies.items) - noted_for n) is.held ∙ ap (λ (r : RepliesValue). 4 * (length script.lines - length r.items) - noted_for s.held) is.replies in
      omega (arith, entries, left)

  pub again_call : (own : Own) → (b.tells → Turns b own script c c' s s' turned.Again) → TurnCall b own script c c' s s' turned.Again
  again_call own turns = record {
    store = record {
      heads = λ k head at. subst (λ m. head.block < m) (sym is.alone.size) (ready.store.heads k head (ap (λ (x : Common D). slice_get x.heads.items k) (sym is.alone.only) ∙ at));
      named = λ k head at. ready.store.named k head (ap (λ (x : Common D). slice_get x.heads.items k) (sym is.alone.only) ∙ at);
      map = (let low = ready.store.map in let size = is.alone.size in let blocks = ap length same_map in omega (arith, low, size, blocks));
    };
    safe = safe_then;
    numbers = record {
      size = is.alone.size;
      blocks = ap length same_map;
      others = λ j ne. ap (held_count j) same_map;
      room = ap (λ (x : Common D). room_of x) is.alone.only;
      faults = is.alone.faults;
      last = is.alone.last;
    };
    client = is.client;
    entries = same_left;
    lines = is.replies;
    counts = is.turns;
    rest = is.rest;
    counted = is.one;
    stopped = λ h stops. absurd (cc stops);
    turns = turns;
  }
