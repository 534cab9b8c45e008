-- A turn that answers a line and writes nothing: what it keeps, and the scene after it.
use Rattle.std.proofs.Common.{◌≡◌, ◌≢◌, ◌⊎◌, ℕ, zero, suc, ◌+◌, ◌*◌, ◌-◌, ◌<◌, ◌≤◌, Bool, List, [], ◌∷◌, ◌++◌, length, length-append, Option, Some, None, refl, sym, ap, ◌∙◌, subst, arith, slice_get}
use Rattle.afs_base.specs.declared.head.Head.{Head}
use Rattle.block_map.specs.States.{held_count}
use Rattle.drives.specs.declared.device.Half.{Half}
use Rattle.pair_store.specs.Blocks.{CountsOne}
use Rattle.pair_store.specs.declared.store.Blocks.{Ghosts}
use Rattle.script_text.specs.ScriptValue.{ScriptValue}
use Rattle.script_text.specs.declared.reply.LineReply.{LineReply}
use Rattle.script_text.specs.declared.script.Line.{Line}
use Rattle.service_model.specs.declared.journal.Entry.{Entry}
use Rattle.service_model.specs.declared.journal.What.TheVariants.{Answered}
use Rattle.service_model.specs.Entries.{after_entries}
use Rattle.service_model.specs.Standing.{Scripts, Client, Update, client_of}
use Rattle.tree_model.specs.States.{State}
use Rattle.ground_model.specs.Fronts.{AreOfTurn}
use Rattle.ground_model.specs.Leaves.{KeepsVersions}
use Rattle.ground_model.specs.LineTurns.{LineTurnStands}
use Rattle.ground_model.specs.Lines.{Notes, in_line}
use Rattle.ground_model.specs.Quiet.{IsQuietTurn}
use Rattle.ground_model.specs.Runs.{IsRead}
use Rattle.ground_model.specs.Scenes.{Scene}
use Rattle.ground_model.specs.Steps.{moved_to}
use Rattle.ground_model.proofs.Lines.{became}
use Rattle.session.specs.Answers.{ending, gives_up}
use Rattle.session.specs.Calls.{AnswersLine, CountsTurn, IsCounted, IsReady, Own, TurnCall, Turns}
use Rattle.session.specs.Ends.{AreOf, GoesTo, TurnGoes}
use Rattle.session.specs.Own.{IsAtRest, OwnsStage, OwnsUpdate}
use Rattle.session.specs.Safe.{AreSafeDrafts, IsSafe, IsSafeStage, IsSafeStore, drafts_of, entries_left, line_of, noted_for}
use Rattle.session.specs.Shared.{AreLocksIn, RunStands, entries_of, room_of}
use Rattle.session.specs.Values.{RepliesValue}
use Rattle.session.specs.declared.common.Common.{Common}
use Rattle.session.specs.declared.course.Course.{Course}
use Rattle.session.specs.declared.stage.Stage.{Stage}
use Rattle.session.specs.declared.stage.Stage.TheVariants.{Resting}
use Rattle.session.specs.declared.turned.Fault.TheVariants as fault
use Rattle.session.specs.declared.turned.Turned.{Turned}
use Rattle.session.specs.declared.turned.Turned.TheVariants as turned
use Rattle.session.proofs.Counting.{rest_kept}
use Rattle.session.proofs.Ending.{ended, left_answers, left_held, left_noted, left_with, rest_sets_none}
use Rattle.session.proofs.Going.{SharesOn, goes_quiet, quiet_is_line, seated_on, turn_goes}

-- ---- numbers

-- The line was answered, and these entries were noted; at most one block was read. The client holds what it held, and rests.
pub record HasAnswered {D : Type 0} (b : Ghosts D) (reply : LineReply) (es : List Entry) (c c' : Common D) (s s' : Course) : Type 0 where
  pub shares : SharesOn c c' es c.map
  pub size : b.size c'.store ≡ b.size c.store
  pub room : room_of c' ≡ room_of c
  pub faults : (h : Half) → b.faults c.store h ≤ b.faults c'.store h
  pub last : (h : Half) → b.last_fault c.store h ≤ b.last_fault c'.store h
  pub count : (b.count c'.store ≡ b.count c.store) ⊎ CountsOne (b.count c.store) (b.count c'.store)
  pub rest : b.tells → b.rest c.store → b.rest c'.store
  pub few : length es ≤ 3
  pub client : s'.client ≡ s.client
  pub replies : s'.replies ≡ record s.replies { items = s.replies.items ++ reply ∷ [] }
  pub held : s'.held ≡ s.held
  pub stage : s'.stage ≡ Resting
  pub turns : s'.turns ≡ 0
  pub drafts : AreSafeDrafts (b.size c.store) s'.drafts (drafts_of s')

one_noted : (n : ℕ) → noted_for n ≤ 1
one_noted zero = omega arith
one_noted (suc n) = omega arith

module _ {D : Type 0} (b : Ghosts D) (script : ScriptValue) (reply : LineReply) (es : List Entry) (c c' : Common D) (s s' : Course)
    (ready : IsReady b script c s) (is : HasAnswered b reply es c c' s s') where
  more : length s'.replies.items ≡ length s.replies.items + 1
  more = ap (λ (r : RepliesValue). length r.items) is.replies ∙ length-append s.replies.items (reply ∷ [])

  same_blocks : length c'.map ≡ length c.map
  same_blocks = ap length is.shares.map

  safe_store : IsSafeStore b.size c'
  safe_store = record {
    heads = λ k head at. subst (λ n. head.block < n) (sym is.size) (ready.store.heads k head (ap (λ (hs : List (Option Head)). slice_get hs k) (sym is.shares.heads) ∙ at));
    named = λ k head at. ready.store.named k head (ap (λ (hs : List (Option Head)). slice_get hs k) (sym is.shares.heads) ∙ at);
    map = (let low = ready.store.map in let size = is.size in let blocks = same_blocks in omega (arith, low, size, blocks));
  }

  safe_course : IsSafe (b.size c'.store) c'.map script s'
  safe_course = record {
    lines = (let low = ready.line in omega (arith, low, more));
    room = (let low = ready.safe.room in subst (λ n. length script.lines ≤ n) (sym (ap (λ (r : RepliesValue). r.room) is.replies)) low);
    held = ap (λ n. held_count n c'.map) is.client ∙ ap (held_count s.client) is.shares.map ∙ ready.safe.held ∙ sym is.held;
    drafts = subst (λ n. AreSafeDrafts n s'.drafts (drafts_of s')) (sym is.size) is.drafts;
    stage = subst (λ (x : Stage). IsSafeStage (length c'.map) s' x) (sym is.stage) tt;
  }

  less_left : length (entries_of c') + entries_left script s' ≤ length (entries_of c) + entries_left script s
  less_left =
      let longer : length (entries_of c') ≡ length (entries_of c) + length es = ap length is.shares.entries ∙ length-append (entries_of c) es in
      let then : entries_left script s' ≡ 4 * (length script.lines - length s'.replies.items) - noted_for s.held = ap (λ n. 4 * (length script.lines - length s'.replies.items) - noted_for n) is.held in
      let most = one_noted s.held in
      let low = ready.line in
      let few = is.few in
      omega (arith, longer, then, most, low, few, more)

  pub answered_call : (own : Own) (line : Line) (result : Turned) → line_of script s ≡ Some line → result ≡ turned.Line line.number
      → (b.tells → Turns b own script c c' s s' (turned.Line line.number)) → TurnCall b own script c c' s s' result
  answered_call own line result next said turns = record {
    store = safe_store;
    safe = safe_course;
    numbers = record {
      size = is.size;
      blocks = same_blocks;
      others = λ j ne. ap (held_count j) is.shares.map;
      room = is.room;
      faults = is.faults;
      last = is.last;
    };
    client = is.client;
    entries = less_left;
    lines = subst (AnswersLine script s s') (sym said) (line, reply, next, refl, is.replies);
    counts = subst (CountsTurn s s') (sym said) (is.turns, is.stage);
    rest = rest_kept b c.store c'.store is.rest result;
    counted = subst (IsCounted (b.count c.store) (b.count c'.store)) (sym said) is.count;
    stopped = λ h stops. (let both : turned.Line line.number ≡ turned.Stopped (fault.Drive h) = sym said ∙ stops in absurd (cc both));
    turns = λ told. subst (Turns b own script c c' s s') (sym said) (turns told);
  }

-- ---- the scene after it

-- A client as it answered its line: it has this answer more, nothing noted, and no block.
pub record IsAnswering (s : Course) (reply : LineReply) (cl : Client) : Type 0 where
  pub answers : cl.answers ≡ s.replies.items ++ reply ∷ []
  pub noted : cl.noted ≡ []
  pub held : cl.held ≡ 0

-- The course after it: as many answers, no block, at rest, with no turn; and no draft behind the last line.
pub record IsAfter (script : ScriptValue) (reply : LineReply) (s s' : Course) : Type 0 where
  pub client : s'.client ≡ s.client
  pub replies : s'.replies.items ≡ s.replies.items ++ reply ∷ []
  pub held : s'.held ≡ 0
  pub stage : s'.stage ≡ Resting
  pub turns : s'.turns ≡ 0
  pub closed : line_of script s' ≡ None → drafts_of s' ≡ 0

module _ {D : Type 0} (b : Ghosts D) (law : LineTurnStands b) (opening : State) (scripts : Scripts) (first : ℕ) (scene : Scene) (c c' : Common D) (script : ScriptValue) (s s' : Course)
    (st : RunStands b opening scripts first scene c) (rest : IsAtRest scripts scene script s) (line : Line) (next : line_of script s ≡ Some line)
    (es : List Entry) (cl : Client) (reply : LineReply) (notes : Notes scripts scene.standing s.client (es ++ in_line s.client line Answered ∷ []) cl) (answering : IsAnswering s reply cl)
    (n : ℕ) (open_is : n ≢ 0 → (u : Update) × (cl.update ≡ Some u)) where
  abbrev given : Bool
  given = gives_up script s n

  abbrev last : Client
  last = left_with cl given

  -- all that is noted, and the scene then
  abbrev pub all_noted : List Entry
  all_noted = es ++ ending s.client line given

  abbrev pub answered_scene : Scene
  answered_scene = moved_to scene (b.content c'.store) scene.states (after_entries scripts scene.standing all_noted)

  all_notes : Notes scripts scene.standing s.client all_noted last
  all_notes = ended scripts script scene s rest.seated line next es cl reply notes answering.answers n open_is

  module _ (read : IsRead b c.store c'.store) (moments : AreOfTurn (b.moment c'.store) all_noted) where
    turn : IsQuietTurn b scripts s.client scene c.store c'.store all_noted last
    turn = record {
      client = rest.seated.client;
      notes = all_notes;
      held = left_held cl given answering.held ∙ sym rest.held;
      links = rest_sets_none scripts scene script s rest;
      read = read;
      moments = moments;
    }

    pub answered_keeps : KeepsVersions scene answered_scene
    answered_keeps =
        (law opening scripts first s.client scene c.store c'.store (entries_of c) all_noted last scene.states st.stands
        (quiet_is_line b scripts s.client scene c.store c'.store all_noted last st.stands.shared.map turn)).1.versions

    module _ (after : IsAfter script reply s s') (update : OwnsUpdate answered_scene script s' last.update) where
      now_is : client_of answered_scene.standing s'.client ≡ last
      now_is = ap (client_of answered_scene.standing) after.client ∙ became scene.standing answered_scene.standing s.client last rest.seated.client all_notes.becomes

      rests : IsAtRest scripts answered_scene script s'
      rests = record {
        seated = seated_on scripts scene script s s' (b.content c'.store) scene.states all_noted last rest.seated all_notes after.client
            (left_answers cl given ∙ answering.answers ∙ sym after.replies);
        fresh = ap (λ (x : Client). x.noted) now_is ∙ left_noted cl given ∙ answering.noted;
        held = ap (λ (x : Client). x.held) now_is ∙ left_held cl given answering.held;
        none = after.held;
        update = subst (OwnsUpdate answered_scene script s') (ap (λ (x : Client). x.update) (sym now_is)) update;
        closed = after.closed;
        turns = (let none = after.turns in omega (arith, none));
      }

      goes : SharesOn c c' all_noted c.map → AreLocksIn (after_entries scripts scene.standing all_noted) c'.locks → AreOf scripts scene.standing s.client all_noted
          → GoesTo b opening scripts first scene answered_scene c c' s.client all_noted
      goes shares locks of_client = goes_quiet b law opening scripts first s.client scene c c' all_noted last st turn shares locks of_client

      -- the turn goes where each of its entries is due
      pub answered_goes : SharesOn c c' all_noted c.map → AreLocksIn (after_entries scripts scene.standing all_noted) c'.locks → AreOf scripts scene.standing s.client all_noted
          → TurnGoes b opening scripts first scene c c' script s'
      answered_goes shares locks of_client =
          turn_goes b opening scripts first scene answered_scene c c' script s' s.client all_noted after.client (goes shares locks of_client) moments
          (subst (OwnsStage scripts answered_scene script s') (sym after.stage) rests)
