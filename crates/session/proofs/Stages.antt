-- A turn takes up a line at the stage that it had come to: what the client has of its own there is what the
-- turn's function asks for, with the stage taken out.
use Rattle.std.proofs.Common.{◌≡◌, inl, inr, ℕ, zero, suc, ◌+◌, ◌<◌, ◌≤◌, Bool, true, false, ◌&&◌, List, [], ◌∷◌, Option, Some, None, refl, sym, subst, arith, true≢false}
use Rattle.std.specs.Prelude.{length, slice_get, IfSome}
use Rattle.std.specs.List.{list_all}
use Rattle.ground_model.specs.Scenes.{Scene}
use Rattle.joint_walk.specs.Walks.{WalkValue}
use Rattle.pair_store.specs.declared.store.Blocks.{Ghosts}
use Rattle.script_text.specs.ScriptValue.{ScriptValue}
use Rattle.script_text.specs.declared.script.Line.{Line as ScriptLine}
use Rattle.service_model.specs.Standing.{Scripts, Update, Work, client_of}
use Rattle.tree_model.specs.States.{State}
use Rattle.version_chain.specs.Flush.{Plan}
use Rattle.session.specs.Built.{AreBuilt, IsBuilt, is_built}
use Rattle.session.specs.Calls.{AnswersLine, CountsTurn, IsIn, IsLost, IsReady, Own, TurnCall}
use Rattle.session.specs.Ends.{TurnEnds}
use Rattle.session.specs.Own.{IsAtRest, IsCommittingOf, HasFed, IsMergedIn, IsNaming, IsNamingAt, IsOwn, IsPlain, IsSeated, IsWalkingBy, IsWalkingOn, IsWritingBy, IsWritingOut, OwnsStage, OwnsUpdate}
use Rattle.session.specs.Safe.{IsSafe, IsSafeStage, IsSafeStore, entries_left}
use Rattle.session.specs.Shared.{entries_of, room_of}
use Rattle.session.specs.declared.common.Common.{Common}
use Rattle.session.specs.declared.course.Course.{Course}
use Rattle.session.specs.declared.stage.Stage.{Stage}
use Rattle.session.specs.declared.stage.Stage.TheVariants.{Resting}
use Rattle.session.specs.declared.turned.Turned.{Turned}
use Rattle.session.specs.declared.turned.Turned.TheVariants.{Line, Again, Work as Waits, Finished, Stopped}

both : (a b : Bool) → (a && b) ≡ true → (a ≡ true) × (b ≡ true)
both true true e = (refl, refl)
both true false e = absurd (true≢false (sym e))
both false b e = absurd (true≢false (sym e))

-- the line of a script that is built is built
pub line_is_built : (script : ScriptValue) (n : ℕ) → AreBuilt script → IfSome (slice_get script.lines n) (λ line. IsBuilt line.command)
line_is_built script n = by script.lines n
  where
    by : (lines : List ScriptLine) (k : ℕ) → list_all (λ (line : ScriptLine). is_built line.command) lines ≡ true → IfSome (slice_get lines k) (λ line. IsBuilt line.command)
    by [] k e = tt
    by (line ∷ lines) zero e = (both (is_built line.command) _ e).0
    by (line ∷ lines) (suc k) e = by lines k (both (is_built line.command) _ e).1

-- ---- with the stage taken out

abbrev pub with_stage : Course → Stage → Course
with_stage s stage = record s { stage = stage }

module _ (scripts : Scripts) (scene : Scene) (script : ScriptValue) (s : Course) (d : Stage) where
  seated : IsSeated scripts scene script s → IsSeated scripts scene script (with_stage s d)
  seated h = record { client = h.client; its_script = h.its_script; answers = h.answers; idle = h.idle }

  plain : (u : Update) (w : Work) → IsPlain s u w → IsPlain (with_stage s d) u w
  plain u w h = record { plain = h.plain; works = h.works; picked = h.picked; drafts = h.drafts; count = h.count; object = h.object }

  has_fed : HasFed script s → HasFed script (with_stage s d)
  has_fed (inl none) = inl none
  has_fed (inr h) = inr (record { line = h.line; step = h.step; next = h.next; command = h.command; rights = h.rights; few = h.few; way = h.way })

  updating : (u : Option Update) → OwnsUpdate scene script s u → OwnsUpdate scene script (with_stage s d) u
  updating None h = h
  updating (Some u) h = record {
    number = h.number;
    several = h.several;
    picked = h.picked;
    within = h.within;
    count = h.count;
    each = λ i w is. (let own = h.each i w is in record { rights = own.rights; object = own.object; serial = own.serial; draft = own.draft });
    fed = has_fed h.fed;
  }

  pub resting_own : IsAtRest scripts scene script s → IsAtRest scripts scene script (with_stage s d)
  resting_own h = record {
    seated = seated h.seated;
    fresh = h.fresh;
    held = h.held;
    none = h.none;
    update = updating (client_of scene.standing s.client).update h.update;
    closed = h.closed;
    turns = h.turns;
  }

  committing : (u : Update) (w : Work) → IsCommittingOf scripts scene script s u w → IsCommittingOf scripts scene script (with_stage s d) u w
  committing u w h = record {
    seated = seated h.seated;
    is_open = h.is_open;
    plain = plain u w h.plain;
    line = h.line;
    next = h.next;
    command = h.command;
    writes = h.writes;
    taken = h.taken;
    held = h.held;
  }

  abbrev merging : (more : ℕ) → IsMergedIn more scripts scene script s → IsMergedIn more scripts scene script (with_stage s d)
  merging more h = record {
    update = h.update;
    work = h.work;
    tree = h.tree;
    committing = committing h.update h.work h.committing;
    merged = h.merged;
    turns = h.turns;
  }

  pub naming_own : (next : ℕ) → IsNaming scripts scene script s next → IsNamingAt next scripts scene script (with_stage s d)
  naming_own next h = record { merged = merging (1 + s.held) h.merged; later = h.later; tree = h.tree; base = h.base }

  pub walking_own : (walk : WalkValue) → IsWalkingOn scripts scene script s walk → IsWalkingBy walk scripts scene script (with_stage s d)
  walking_own walk h = record {
    update = h.update;
    work = h.work;
    committing = committing h.update h.work h.committing;
    upto = h.upto;
    root = h.root;
    tree = h.tree;
    before = h.before;
    made = h.made;
    fed = h.fed;
    walking = h.walking;
    serial = h.serial;
    turns = h.turns;
  }

  pub writing_own : (flush : Plan) → IsWritingOut scripts scene script s flush → IsWritingBy flush scripts scene script (with_stage s d)
  writing_own flush h = record {
    merged = merging flush.written h.merged;
    flushing = h.flushing;
    top = h.top;
    alone = h.alone;
    number = h.number;
    within = h.within;
    unworn = h.unworn;
  }

  -- what a stage's turn asks for is what the client has there
  pub at_stage : (stage : Stage) → s.stage ≡ stage → IsOwn scripts scene script s → OwnsStage scripts scene script s stage
  at_stage stage is own = subst (OwnsStage scripts scene script s) is own

-- ---- a turn from a stage

-- it is ready for a turn of the line under way
pub ready_from : {D : Type 0} (b : Ghosts D) (script : ScriptValue) (c : Common D) (s : Course) (d : Stage) → d ≡ Resting → length s.replies.items < length script.lines
    → IsSafeStore b.size c → IsSafe (b.size c.store) c.map script s → length (entries_of c) + entries_left script s ≤ room_of c
    → IsReady b script c (with_stage s d)
ready_from b script c s d is line store safe room = record {
  line = line;
  store = store;
  safe = record {
    lines = safe.lines;
    room = safe.room;
    held = safe.held;
    drafts = safe.drafts;
    stage = subst (IsSafeStage (length c.map) (with_stage s d)) (sym is) tt;
  };
  room = room;
  stage = is;
}

module _ {D : Type 0} (b : Ghosts D) (own : Own) (script : ScriptValue) (c c' : Common D) (s s' : Course)
    (d : Stage) (line : length s.replies.items < length script.lines)
    (to : (scripts : Scripts) (scene : Scene) → IsOwn scripts scene script s → own scripts scene script (with_stage s d)) where
  lines_are : (result : Turned) → AnswersLine script (with_stage s d) s' result → AnswersLine script s s' result
  lines_are (Line n) h = h
  lines_are Again h = h
  lines_are (Waits job) h = h
  lines_are Finished h = absurd (let all = h.0 in omega (arith, all))
  lines_are (Stopped fault) h = h

  counts_are : (result : Turned) → CountsTurn (with_stage s d) s' result → CountsTurn s s' result
  counts_are (Line n) h = h
  counts_are Again h = h
  counts_are (Waits job) h = h
  counts_are Finished h = h
  counts_are (Stopped fault) h = h

  ends_are : (opening : State) (scripts : Scripts) (first : ℕ) (scene : Scene) (result : Turned) → AnswersLine script (with_stage s d) s' result
      → TurnEnds b opening scripts first scene c c' script (with_stage s d) s' result → TurnEnds b opening scripts first scene c c' script s s' result
  ends_are opening scripts first scene (Line n) h e = e
  ends_are opening scripts first scene Again h e = e
  ends_are opening scripts first scene (Waits job) h e = e
  ends_are opening scripts first scene Finished h e = absurd (let all = h.0 in omega (arith, all))
  ends_are opening scripts first scene (Stopped fault) h e = e

  is_in : (opening : State) (scripts : Scripts) (first : ℕ) (scene : Scene) → IsIn b IsOwn script c s opening scripts first scene → IsIn b own script c (with_stage s d) opening scripts first scene
  is_in opening scripts first scene i = record { stands = i.stands; mine = to scripts scene i.mine }

  lost : (b.tells → IsLost b own script c (with_stage s d)) → b.tells → IsLost b IsOwn script c s
  lost none told opening scripts first scene i = none told opening scripts first scene (is_in opening scripts first scene i)

  pub staged_call : (result : Turned) → TurnCall b own script c c' (with_stage s d) s' result → TurnCall b IsOwn script c c' s s' result
  staged_call result t = record {
    store = t.store;
    safe = t.safe;
    numbers = t.numbers;
    client = t.client;
    entries = t.entries;
    lines = lines_are result t.lines;
    counts = counts_are result t.counts;
    rest = t.rest;
    counted = t.counted;
    stopped = λ h is. let failed = t.stopped h is in record {
      failed = failed.failed;
      last = elim failed.last [ inl e ↦ inl e | inr e ↦ inr (e.0, lost e.1) ];
    };
    turns = λ told opening scripts first scene i. ends_are opening scripts first scene result t.lines (t.turns told opening scripts first scene (is_in opening scripts first scene i));
  }

-- a turn of a line under way does not answer that all lines are answered
pub unfinished : {D : Type 0} (b : Ghosts D) (own : Own) (script : ScriptValue) (c c' : Common D) (s s' : Course) (result : Turned)
    → TurnCall b own script c c' s s' result → length s.replies.items < length script.lines → result ≡ Finished → ⊥
unfinished b own script c c' s s' result t line is = (let all : AnswersLine script s s' Finished = subst (AnswersLine script s s') is t.lines in let same = all.0 in absurd (omega (arith, same, line)))
