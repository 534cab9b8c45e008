-- A turn of a line that reads one block, and goes on or stops.
use Rattle.std.proofs.Common.{◌≡◌, ◌⊎◌, inl, inr, ℕ, ◌+◌, ◌-◌, ◌<◌, ◌^◌, List, length, Some, None, Result, Ok, Err, refl, sym, ap, ◌∙◌, subst, arith}
use Rattle.std.specs.Prelude.{IfErr, IfOk, OnOk, min}
use Rattle.drives.specs.declared.device.Half.{Half}
use Rattle.block_map.specs.States.{held_count}
use Rattle.block_map.specs.declared.states.BlockState.{BlockState}
use Rattle.page_codec.specs.declared.why.Why.{Why}
use Rattle.page_merge.specs.Jobs.{JobValue}
use Rattle.pair_store.specs.Blocks.{CountsOne}
use Rattle.pair_store.specs.declared.store.Blocks.{Ghosts}
use Rattle.script_text.specs.ScriptValue.{ScriptValue}
use Rattle.service_model.specs.Standing.{Scripts}
use Rattle.store_changes.specs.Writes.{Content}
use Rattle.tree_model.specs.States.{State}
use Rattle.ground_model.specs.Runs.{Stands}
use Rattle.ground_model.specs.Scenes.{Scene}
use Rattle.ground_model.proofs.HeadsTold.{blocks_fit}
use Rattle.session.specs.Calls.{AnswersLine, CountsTurn, IsCounted, IsIn, IsLost, IsReady, KeepsNumbers, KeepsRoom, Own, StopsBecause, TurnCall, waiting_in}
use Rattle.session.specs.Ends.{StopsBy, TurnEnds, TurnGoes}
use Rattle.session.specs.Reads.{ReadCall}
use Rattle.session.specs.Safe.{IsSafe, IsSafeStore, noted_for}
use Rattle.session.specs.Shared.{RunStands, doubt_of, entries_of, room_of}
use Rattle.session.specs.Values.{RepliesValue, one_more}
use Rattle.session.specs.declared.common.Common.{Common}
use Rattle.session.specs.declared.course.Course.{Course}
use Rattle.session.specs.declared.turned.Fault.{Fault}
use Rattle.session.specs.declared.turned.Fault.TheVariants as fault
use Rattle.session.specs.declared.turned.Turned.{Turned}
use Rattle.session.specs.declared.turned.Turned.TheVariants as turned
use Rattle.session.proofs.BlockLaws.{BlockLaws}
use Rattle.session.proofs.Counting.{rest_kept}
use Rattle.session.proofs.Numbers.{safe_store_on}
use Rattle.session.proofs.Calling.{stops_here}

fault_same : (x y : Fault) → turned.Stopped x ≡ turned.Stopped y → x ≡ y
fault_same x y e = cc

-- A block of the store is settled, and what it holds gives something.
pub record Shown {D T : Type 0} (b : Ghosts D) (Gives : List ℕ → T → Type 0) (c : Common D) (n : ℕ) : Type 0 where
  pub settled : b.settled c.store n
  pub low : n < b.size c.store
  pub bytes : List ℕ
  pub holds : b.content c.store n ≡ Some bytes
  pub value : T
  pub gives : Gives bytes value

-- So it is wherever the run stands and the client has this of its own.
abbrev pub AreShown : {D T : Type 0} → Ghosts D → (List ℕ → T → Type 0) → Own → ScriptValue → Common D → Course → ℕ → Type 0
AreShown b Gives own script c s n =
    (opening : State) (scripts : Scripts) (first : ℕ) (scene : Scene) → IsIn b own script c s opening scripts first scene → Shown b Gives c n

module _ {D T : Type 0} (b : Ghosts D) (Gives : List ℕ → T → Type 0) (own : Own) (script : ScriptValue) (c c' : Common D) (s : Course) (n : ℕ) (result : Result T Fault)
    (laws : b.tells → BlockLaws b) (ready : IsReady b script c s) (read : ReadCall b Gives c c' n result) (shown : b.tells → AreShown b Gives own script c s n) where
  map_is : c'.map ≡ c.map
  map_is = ap (λ (x : Common D). x.map) read.alone.only

  heads_are : c'.heads.items ≡ c.heads.items
  heads_are = ap (λ (x : Common D). x.heads.items) read.alone.only

  entries_are : entries_of c' ≡ entries_of c
  entries_are = ap (λ (x : Common D). entries_of x) read.alone.only

  doubt_is : doubt_of c' ≡ doubt_of c
  doubt_is = ap (λ (x : Common D). doubt_of x) read.alone.only

  store_safe : IsSafeStore b.size c'
  store_safe = safe_store_on b.size c c' ready.store read.alone.size heads_are (ap length map_is)

  course_safe : (s' : Course) → IsSafe (b.size c.store) c.map script s' → IsSafe (b.size c'.store) c'.map script s'
  course_safe s' safe =
      subst (λ (xs : List BlockState). IsSafe (b.size c'.store) xs script s') (sym map_is) (subst (λ (m : ℕ). IsSafe m c.map script s') (sym read.alone.size) safe)

  numbers_kept : KeepsNumbers b c c' s.client
  numbers_kept = record {
    size = read.alone.size;
    blocks = ap length map_is;
    others = λ j ne. ap (held_count j) map_is;
    room = ap (λ (x : Common D). room_of x) read.alone.only;
    faults = read.alone.faults;
    last = read.alone.last;
  }

  -- ---- a read that failed

  lost_by : b.tells → (b.tells → b.settled c.store n → b.content c.store n ≡ None) → IsLost b own script c s
  lost_by told none opening scripts first scene is =
      let there : Shown b Gives c n = shown told opening scripts first scene is in
      let no : None ≡ Some there.bytes = sym (none told there.settled) ∙ there.holds in
      absurd (cc no)

  stops_by : (e : Fault) → result ≡ Err e → StopsBecause b own script c c' s (turned.Stopped e)
  stops_by e was h is =
      let same : e ≡ fault.Drive h = fault_same e (fault.Drive h) is in
      let stop = read.failed h (was ∙ ap Err same) in
      record { failed = stop.failed; last = by stop.last }
    where
      by : (b.last_fault c'.store h ≡ b.moment c'.store)
          ⊎ ((b.moment c'.store ≡ min (b.last_fault c'.store h + 1) (2 ^ 64 - 1)) × (b.tells → b.settled c.store n → b.content c.store n ≡ None))
          → (b.last_fault c'.store h ≡ b.moment c'.store) ⊎ ((b.moment c'.store ≡ min (b.last_fault c'.store h + 1) (2 ^ 64 - 1)) × (b.tells → IsLost b own script c s))
      by (inl at_last) = inl at_last
      by (inr (later, none)) = inr (later, λ told. lost_by told none)

  stopped_at : (e : Fault) → IfErr result (λ x. (h : Half) × (x ≡ fault.Drive h)) → result ≡ Err e → (h : Half) × (e ≡ fault.Drive h)
  stopped_at e drive was = (let P : Result T Fault → Type 0 = λ r. IfErr r (λ x. (h : Half) × (x ≡ fault.Drive h)) in subst P was drive)

  stop_ends : (e : Fault) → result ≡ Err e → b.tells → (opening : State) (scripts : Scripts) (first : ℕ) (scene : Scene) → IsIn b own script c s opening scripts first scene
      → StopsBy b opening scripts first scene c c' s.client e
  stop_ends e was told opening scripts first scene is =
      let there : Shown b Gives c n = shown told opening scripts first scene is in
      let half = stopped_at e (read.good told there.settled there.low there.bytes there.value there.holds there.gives) was in
      subst (StopsBy b opening scripts first scene c c' s.client) (sym half.1)
      (stops_here b opening scripts first scene c c' s.client entries_are ((laws told).reads opening scripts first scene c.store c'.store c'.log.journal
      (subst (λ xs. Stands b opening scripts first scene c.store xs) (sym entries_are) is.stands.stands) (doubt_is ∙ is.stands.sure) (read.read told)))

  -- the run stops, and the course is as it was
  pub failed_call : (e : Fault) → result ≡ Err e → TurnCall b own script c c' s s (turned.Stopped e)
  failed_call e was = record {
    store = store_safe;
    safe = course_safe s ready.safe;
    numbers = numbers_kept;
    client = refl;
    entries = (let same = ap length entries_are in omega (arith, same));
    lines = refl;
    counts = tt;
    rest = tt;
    counted = read.most;
    stopped = stops_by e was;
    turns = λ told opening scripts first scene is. stop_ends e was told opening scripts first scene is;
  }

  -- ---- a read that gave something

  pub within_store : (x : T) → result ≡ Ok x → n < b.size c.store
  within_store x was = (let P : Result T Fault → Type 0 = λ r. OnOk r (n < b.size c.store) in subst P was read.within)

  one_block : (x : T) → result ≡ Ok x → CountsOne (b.count c.store) (b.count c'.store)
  one_block x was = (let P : Result T Fault → Type 0 = λ r. OnOk r (CountsOne (b.count c.store) (b.count c'.store)) in subst P was read.one)

  -- what a block gives is what it holds
  pub given_is : (x : T) → result ≡ Ok x → b.tells → (shows : Shown b Gives c n) → Gives shows.bytes x
  given_is x was told shows = (let P : Result T Fault → Type 0 = λ r. IfOk r (Gives shows.bytes) in subst P was (read.gives told shows.settled shows.bytes shows.holds))

  -- a client that is in no scene stops the run after it
  pub lost_read : (x : T) → result ≡ Ok x → (b.tells → IsLost b own script c s) → (block : ℕ) (why : Why) → TurnCall b own script c c' s s (turned.Stopped (fault.Bad block why))
  lost_read x was lost block why = record {
    store = store_safe;
    safe = course_safe s ready.safe;
    numbers = numbers_kept;
    client = refl;
    entries = (let same = ap length entries_are in omega (arith, same));
    lines = refl;
    counts = tt;
    rest = tt;
    counted = inr (one_block x was);
    stopped = λ h is. (let wrong : fault.Bad block why ≡ fault.Drive h = fault_same (fault.Bad block why) (fault.Drive h) is in absurd cc);
    turns = λ told opening scripts first scene is. absurd (lost told opening scripts first scene is);
  }

  module _ (x : T) (was : result ≡ Ok x) (s' : Course) (safe : IsSafe (b.size c.store) c.map script s') (client : s'.client ≡ s.client) (replies : s'.replies ≡ s.replies) (held : s'.held ≡ s.held)
      (turns : s'.turns ≡ one_more s.turns)
      (goes : b.tells → (opening : State) (scripts : Scripts) (first : ℕ) (scene : Scene) → IsIn b own script c s opening scripts first scene → TurnGoes b opening scripts first scene c c' script s') where
    room_kept : KeepsRoom script c c' s s'
    room_kept =
        let same = ap length entries_are in
        let lines = ap (λ (r : RepliesValue). length r.items) replies in
        let some = ap noted_for held in
        omega (arith, same, lines, some)

    one_read : CountsOne (b.count c.store) (b.count c'.store)
    one_read = one_block x was

    given_call : (answer : Turned) → AnswersLine script s s' answer → CountsTurn s s' answer → IsCounted (b.count c.store) (b.count c'.store) answer → ((h : Half) → answer ≡ turned.Stopped (fault.Drive h) → ⊥)
        → (b.tells → (opening : State) (scripts : Scripts) (first : ℕ) (scene : Scene) → IsIn b own script c s opening scripts first scene → TurnEnds b opening scripts first scene c c' script s s' answer)
        → TurnCall b own script c c' s s' answer
    given_call answer lines counts counted never ends = record {
      store = store_safe;
      safe = course_safe s' safe;
      numbers = numbers_kept;
      client = client;
      entries = room_kept;
      lines = lines;
      counts = counts;
      rest = rest_kept b c.store c'.store read.rest answer;
      counted = counted;
      stopped = λ h is. absurd (never h is);
      turns = ends;
    }

    pub went_call : (answer : Turned) → (answer ≡ turned.Again) ⊎ ((job : JobValue) × (answer ≡ turned.Work job) × (waiting_in s'.stage ≡ Some job)) → TurnCall b own script c c' s s' answer
    went_call answer (inl again) =
        subst (λ (r : Turned). TurnCall b own script c c' s s' r) (sym again)
        (given_call turned.Again replies turns one_read (λ h is. (let wrong : turned.Again ≡ turned.Stopped (fault.Drive h) = is in cc wrong)) goes)
    went_call answer (inr (job, work, of_walk)) =
        subst (λ (r : Turned). TurnCall b own script c c' s s' r) (sym work)
        (given_call (turned.Work job) (replies, of_walk) turns one_read (λ h is. (let wrong : turned.Work job ≡ turned.Stopped (fault.Drive h) = is in cc wrong)) goes)

-- ---- places

-- a place of the store shows what it holds
pub place_shown : {D T : Type 0} (b : Ghosts D) (Gives : List ℕ → T → Type 0) (laws : BlockLaws b) (opening : State) (scripts : Scripts) (first : ℕ) (scene : Scene) (c : Common D) (n : ℕ)
    → RunStands b opening scripts first scene c → n < scene.store.root.blocks → (body : List ℕ) → scene.content n ≡ Some body → (x : T) → Gives body x → Shown b Gives c n
place_shown b Gives laws opening scripts first scene c n st high body holds x gives = record {
  settled = st.stands.settled n high;
  low = (let fits = blocks_fit scene.content scene.most scene.store scene.places st.stands.shared.laid in let most = st.stands.most in omega (arith, high, fits, most));
  bytes = body;
  holds = ap (λ (f : Content). f n) (sym st.stands.content) ∙ holds;
  value = x;
  gives = gives;
}
