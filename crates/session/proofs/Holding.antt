-- A client takes the blocks that its commit needs.
use Rattle.std.proofs.Common.{◌≡◌, ◌≢◌, ℕ, zero, suc, ◌+◌, ◌<◌, ◌≤◌, List, [], ◌∷◌, ◌++◌, length, length-append, Some, None, refl, sym, ap, ◌∙◌, subst, arith, slice_get}
use Rattle.std.specs.Prelude.{IfSome}
use Rattle.block_map.specs.States.{TakesLeast, free_count, held_count}
use Rattle.block_map.specs.declared.states.BlockState.{BlockState}
use Rattle.pair_store.specs.declared.store.Blocks.{Ghosts}
use Rattle.script_text.specs.ScriptValue.{ScriptValue}
use Rattle.script_text.specs.declared.script.Line.{Line}
use Rattle.service_model.specs.Entries.{after_entries, noting}
use Rattle.service_model.specs.Legal.{IsHoldable}
use Rattle.service_model.specs.Standing.{Scripts, Client, Made, Update, Work, client_of, free, need}
use Rattle.service_model.specs.declared.journal.Entry.{Entry}
use Rattle.service_model.specs.declared.journal.What.{What}
use Rattle.service_model.specs.declared.journal.What.TheVariants.{Held}
use Rattle.tree_model.specs.States.{State}
use Rattle.ground_model.specs.Bounds.{turns_to}
use Rattle.ground_model.specs.CommitLines.{IsCommitting}
use Rattle.ground_model.specs.LineTurns.{IsLineTurn}
use Rattle.ground_model.specs.Lines.{in_line}
use Rattle.ground_model.specs.Runs.{IsRead}
use Rattle.ground_model.specs.Scenes.{Scene}
use Rattle.ground_model.specs.Steps.{moved_to}
use Rattle.ground_model.proofs.Bounded.{turns_of_more}
use Rattle.ground_model.proofs.CommitLines.{holding_is_noted}
use Rattle.ground_model.proofs.FreeBlocks.{free_is_counted}
use Rattle.ground_model.proofs.LineTurns.{holding_takes}
use Rattle.store_model.proofs.Edits.{some_is}
use Rattle.session.specs.Answers.{NotesAlone}
use Rattle.session.specs.Blocks.{IsNeeded}
use Rattle.session.specs.Calls.{IsIn, IsReady, KeepsNumbers, KeepsRoom, MoveCall}
use Rattle.session.specs.Ends.{AreOf, GoesTo}
use Rattle.session.specs.Own.{IsHolding, IsMerged, IsTaken, IsUnworn}
use Rattle.session.specs.Safe.{AreSafeDrafts, IsSafe, IsSafeStage, IsSafeStore, drafts_of, line_of, noted_for, serial_of}
use Rattle.session.specs.Shared.{AreLocksIn, entries_of}
use Rattle.session.specs.declared.common.Common.{Common}
use Rattle.session.specs.declared.course.Course.{Course}
use Rattle.session.specs.declared.stage.Stage.{Stage}
use Rattle.session.proofs.BlockLaws.{BlockLaws}
use Rattle.session.proofs.Deciding.{at_commit, line_here, of_line, run_sound, sets_none}
use Rattle.session.proofs.Drafts.{fresh_told, has_draft}
use Rattle.session.proofs.Going.{SharesOn, goes_line, locks_kept}
use Rattle.session.proofs.Numbers.{safe_store_on}
use Rattle.session.proofs.Refusing.{held_is_due, needed_here, none_taken}
use Rattle.session.proofs.Courses.{course_with}
use Rattle.session.proofs.Staying.{still_deciding}

noted_some : (n : ℕ) → 0 < n → noted_for n ≡ 1
noted_some zero some = absurd (omega arith)
noted_some (suc n) some = refl

noted_none : (n : ℕ) → n ≡ 0 → noted_for n ≡ 0
noted_none zero none = refl
noted_none (suc n) none = absurd (omega arith)

taken_all : (n : ℕ) (u : Update) (noted : List What) → 0 < n → noted ≡ Held n ∷ [] → n ≡ need u → IsTaken n u noted
taken_all zero u noted some is need_is = absurd (omega arith)
taken_all (suc n) u noted some is need_is = (is, need_is)

-- who holds more blocks may have taken more turns
still_fits : (made : List Made) (held more : ℕ) (w : Work) (upto turns : ℕ) → held ≤ more → turns ≤ turns_to made held w upto + 0 → turns ≤ turns_to made more w upto + 0
still_fits made held more w upto turns few was =
    let grows = turns_of_more made held more w upto few in
    omega (arith, grows, was)

-- an entry of the client is its own
pub one_of : (k : ℕ) (line : Line) (what : What) (n : ℕ) (e : Entry) → slice_get (in_line k line what ∷ []) n ≡ Some e → e.client ≡ k
one_of k line what zero e at = (let same : in_line k line what ≡ e = cc in ap (λ (x : Entry). x.client) (sym same))
one_of k line what (suc n) e at = (let no : None ≡ Some e = at in absurd (cc no))

module _ {D : Type 0} (b : Ghosts D) (script : ScriptValue) (c c' : Common D) (s : Course) (blocks : ℕ) (line : Line) (states : List BlockState)
    (ready : IsReady b script c s) (none : s.held ≡ 0) (some : 0 < blocks) (at : line_of script s ≡ Some line)
    (noted : NotesAlone (record c { map = states }) c' (in_line s.client line (Held blocks) ∷ []))
    (takes : TakesLeast s.client blocks c.map states) (holds : held_count s.client states ≡ blocks) (others : (j : ℕ) → j ≢ s.client → held_count j states ≡ held_count j c.map) where
  abbrev s' : Course
  s' = course_with s blocks s.stage s.turns

  abbrev e : Entry
  e = in_line s.client line (Held blocks)

  store_is : c'.store ≡ c.store
  store_is = ap (λ (x : Common D). x.store) noted.only

  map_is : c'.map ≡ states
  map_is = ap (λ (x : Common D). x.map) noted.only

  heads_are : c'.heads.items ≡ c.heads.items
  heads_are = ap (λ (x : Common D). x.heads.items) noted.only

  size_is : b.size c'.store ≡ b.size c.store
  size_is = ap b.size store_is

  blocks_are : length c'.map ≡ length c.map
  blocks_are = ap length map_is ∙ takes.size

  safe_store : IsSafeStore b.size c'
  safe_store = safe_store_on b.size c c' ready.store size_is heads_are blocks_are

  safe : IsSafe (b.size c'.store) c'.map script s'
  safe =
      let was = ready.safe in
      record {
        lines = was.lines;
        room = was.room;
        held = ap (held_count s.client) map_is ∙ holds;
        drafts = subst (λ n. AreSafeDrafts n s.drafts (drafts_of s)) (sym size_is) was.drafts;
        stage = subst (λ (x : Stage). IsSafeStage (length c'.map) s' x) (sym ready.stage) tt;
      }

  numbers : KeepsNumbers b c c' s.client
  numbers = record {
    size = size_is;
    blocks = blocks_are;
    others = λ j ne. ap (held_count j) map_is ∙ others j ne;
    room = noted.noted.room;
    faults = λ h. (let same : b.faults c'.store h ≡ b.faults c.store h = ap (λ (d : D). b.faults d h) store_is in omega (arith, same));
    last = λ h. (let same : b.last_fault c'.store h ≡ b.last_fault c.store h = ap (λ (d : D). b.last_fault d h) store_is in omega (arith, same));
  }

  room_kept : KeepsRoom script c c' s s'
  room_kept =
      let more : length (entries_of c') ≡ length (entries_of c) + 1 = ap length noted.noted.entries ∙ length-append (entries_of c) (e ∷ []) in
      let one = noted_some blocks some in
      let was = noted_none s.held none in
      let low = ready.line in
      omega (arith, more, one, was, low)

  module _ (laws : b.tells → BlockLaws b) (needed : IsNeeded s blocks) (room : blocks ≤ free_count c.map) (opening : State) (scripts : Scripts) (first : ℕ) (scene : Scene)
      (told : b.tells) (is : IsIn b IsUnworn script c s opening scripts first scene) where
    abbrev m : IsMerged scripts scene script s
    m = is.mine.deciding.open_to.merged

    abbrev client : Client
    client = noting (Held blocks) (record (client_of scene.standing s.client) { held = blocks })

    need_is : blocks ≡ need m.update
    need_is =
        needed ∙ needed_here scripts scene script s is.mine.deciding (run_sound b opening scripts first scene c is.stands) _
        (fresh_told s (has_draft b script c s ready m.committing.plain.drafts))

    fresh : (client_of scene.standing s.client).noted ≡ []
    fresh = none_taken s.held m.update (client_of scene.standing s.client).noted none m.committing.taken

    holdable : IsHoldable scene.standing s.client m.update blocks
    holdable = record {
      first = fresh;
      writes = m.committing.writes;
      needed = need_is;
      room =
          let counted : free_count c.map ≡ free scene.standing = ap free_count is.stands.map ∙ free_is_counted scene is.stands.stands.shared in
          omega (arith, room, counted);
    }

    line_is : m.committing.line ≡ line
    line_is = some_is (sym m.committing.next ∙ at)

    at_line : IsCommitting scripts scene.standing s.client line
    at_line = subst (λ (l : Line). IsCommitting scripts scene.standing s.client l) line_is (at_commit scripts scene script s m.update m.work m.committing)

    turn : IsLineTurn b scripts s.client scene c.store c'.store (e ∷ []) client c'.map
    turn = record {
      client = m.committing.seated.client;
      notes = holding_is_noted scripts scene.standing s.client line m.update blocks at_line m.committing.is_open holdable;
      links = sets_none scripts scene script s m.update m.work m.committing;
      map =
          let takes_there : TakesLeast s.client blocks scene.states c'.map =
          subst (λ (new : List BlockState). TakesLeast s.client blocks scene.states new) (sym map_is) (subst (λ (old : List BlockState). TakesLeast s.client blocks old states) is.stands.map takes) in
          holding_takes scripts s.client blocks scene c'.map line m.update is.stands.stands.shared at_line m.committing.is_open holdable takes_there (ap (held_count s.client) map_is ∙ holds);
      read = subst (λ (d : D). IsRead b c.store d) (sym store_is) ((laws told).calm c.store);
      moments = record { moments = refl; one = omega arith };
    }

    shares : SharesOn c c' (e ∷ []) c'.map
    shares = record {
      entries = noted.noted.entries;
      doubt = noted.noted.doubt;
      map = refl;
      heads = heads_are;
      table = ap (λ (x : Common D). x.table) noted.only;
    }

    locks_then : AreLocksIn (after_entries scripts scene.standing (e ∷ [])) c'.locks
    locks_then =
        locks_kept scripts s.client scene (e ∷ []) client m.committing.seated.client.low turn.notes.becomes m.committing.seated.client c.locks c'.locks is.stands.locks
        (ap (λ (x : Common D). x.locks) noted.only) (λ object. refl)

    abbrev after : Scene
    after = moved_to scene (b.content c'.store) c'.map (after_entries scripts scene.standing (e ∷ []))

    of_client : AreOf scripts scene.standing s.client (e ∷ [])
    of_client = record {
      own = one_of s.client line (Held blocks);
      due = (held_is_due scripts scene script s is.mine.deciding (run_sound b opening scripts first scene c is.stands) is.mine.unworn blocks, tt);
    }

    goes : GoesTo b opening scripts first scene after c c' s.client (e ∷ [])
    goes = goes_line b (laws told).lines opening scripts first s.client scene c c' (e ∷ []) client c'.map is.stands turn shares locks_then of_client

    mine : IsHolding scripts after script s'
    mine =
        let noted_is : client.noted ≡ Held blocks ∷ [] = ap (λ (xs : List What). xs ++ Held blocks ∷ []) fresh in
        record {
          deciding =
              still_deciding scripts scene script s (b.content c'.store) c'.map (e ∷ []) client blocks s.stage s.turns 0 m turn.notes
              ((laws told).lines opening scripts first s.client scene c.store c'.store (entries_of c) (e ∷ []) client c'.map is.stands.stands turn).1
              m.committing.is_open m.committing.seated.answers (taken_all blocks m.update client.noted some noted_is need_is) refl
              (still_fits scene.standing.made s.held blocks m.work (serial_of s) s.turns (omega (arith, none)) m.turns)
              is.mine.deciding.open_to.unlocked is.mine.deciding.last;
          unworn = is.mine.unworn;
          some = some;
        }

  pub holding_moves : (b.tells → BlockLaws b) → IsNeeded s blocks → blocks ≤ free_count c.map → MoveCall b IsUnworn IsHolding script c c' s s'
  holding_moves laws needed room = record {
    same = store_is;
    store = safe_store;
    safe = safe;
    numbers = numbers;
    client = refl;
    replies = refl;
    entries = room_kept;
    moves = λ told opening scripts first scene is. (
      after laws needed room opening scripts first scene told is,
      e ∷ [],
      goes laws needed room opening scripts first scene told is,
      refl,
      mine laws needed room opening scripts first scene told is,
    );
  }

pub holding_call : {D : Type 0} (b : Ghosts D) → (b.tells → BlockLaws b) → (script : ScriptValue) (c c' : Common D) (s : Course) (blocks : ℕ) (states : List BlockState)
    → IsReady b script c s → s.held ≡ 0 → 0 < blocks → IsNeeded s blocks
    → IfSome (line_of script s) (λ line. NotesAlone (record c { map = states }) c' (in_line s.client line (Held blocks) ∷ []))
    → TakesLeast s.client blocks c.map states → held_count s.client states ≡ blocks → ((j : ℕ) → j ≢ s.client → held_count j states ≡ held_count j c.map)
    → blocks ≤ free_count c.map → MoveCall b IsUnworn IsHolding script c c' s (course_with s blocks s.stage s.turns)
holding_call b laws script c c' s blocks states ready none some needed noted takes holds others room =
    let l = line_here script s ready.line in
    holding_moves b script c c' s blocks l.0 states ready none some l.1
    (of_line script s l.0 (λ line. NotesAlone (record c { map = states }) c' (in_line s.client line (Held blocks) ∷ [])) l.1 noted) takes holds others laws needed room
