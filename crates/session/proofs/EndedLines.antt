-- A turn of a client at rest that did something for its line, and then answered it: the whole turn.
use Rattle.std.proofs.Common.{◌≡◌, ◌≢◌, ℕ, Bool, true, false, ◌&&◌, cond, List, [], ◌∷◌, ◌++◌, Some, refl, ap, ◌∙◌, arith, ◌||◌}
use Rattle.std.specs.Prelude.{count_by}
use Rattle.std.specs.List.{list_all}
use Rattle.std.proofs.lemmas.List.Folds.{list_all-append}
use Rattle.std.proofs.lemmas.List.Sums.{sum_by-append}
use Rattle.pair_store.specs.declared.store.Blocks.{Ghosts}
use Rattle.script_text.specs.ScriptValue.{ScriptValue}
use Rattle.script_text.specs.declared.reply.LineReply.{LineReply}
use Rattle.script_text.specs.declared.script.Line.{Line}
use Rattle.service_model.specs.declared.journal.Entry.{Entry}
use Rattle.service_model.specs.declared.journal.What.TheVariants.{Answered}
use Rattle.service_model.specs.Entries.{after_entries}
use Rattle.service_model.specs.Standing.{Scripts, Client, Update, client_of, has_locked}
use Rattle.tree_model.specs.States.{State}
use Rattle.ground_model.specs.Fronts.{AreOfTurn, is_at, is_change}
use Rattle.ground_model.specs.Leaves.{KeepsVersions}
use Rattle.ground_model.specs.LineTurns.{LineTurnStands}
use Rattle.ground_model.specs.Lines.{Notes, in_line}
use Rattle.ground_model.specs.Runs.{IsRead}
use Rattle.ground_model.specs.Scenes.{Scene}
use Rattle.session.specs.Answers.{IsAnswered, ending, gives_up, locks_left}
use Rattle.session.specs.Calls.{IsIn, IsReady, TurnCall}
use Rattle.session.specs.Ends.{AreOf, TurnGoes}
use Rattle.session.specs.Own.{IsAtRest, OwnsUpdate}
use Rattle.session.specs.Safe.{drafts_of, line_of}
use Rattle.session.specs.Shared.{AreLocksIn}
use Rattle.session.specs.declared.common.Common.{Common}
use Rattle.session.specs.declared.course.Course.{Course}
use Rattle.session.specs.declared.turned.Turned.{Turned}
use Rattle.session.specs.declared.turned.Turned.TheVariants as turned
use Rattle.session.proofs.Answering.{HasAnswered, IsAnswering, answered_call, answered_goes, answered_keeps, answered_scene}
use Rattle.session.proofs.Calling.{of_append}
use Rattle.session.proofs.Ending.{ended, ending_of, left_locks, left_with}
use Rattle.session.proofs.Going.{locks_go, locks_kept}
use Rattle.session.proofs.LineEnds.{HasCome, after_answer, come_answered, drafts_left, ended_locks, own_left}

-- the last entries of a line carry no moment
pub moments_end : (now : ℕ) (es : List Entry) (k : ℕ) (line : Line) (b : Bool) → AreOfTurn now es → AreOfTurn now (es ++ ending k line b)
moments_end now es k line b of_turn = record {
  moments = list_all-append (is_at now) es (ending k line b) ∙ ap (λ a. a && list_all (is_at now) (ending k line b)) of_turn.moments ∙ at_all b;
  one = (let both = sum_by-append (λ (x : Entry). cond (is_change x) 1 0) es (ending k line b) in let none = count_none b in let one = of_turn.one in omega (arith, both, none, one));
}
  where
    at_all : (a : Bool) → list_all (is_at now) (ending k line a) ≡ true
    at_all false = refl
    at_all true = refl

    count_none : (a : Bool) → count_by is_change (ending k line a) ≡ 0
    count_none false = refl
    count_none true = refl

-- What is noted of the line in a scene, and what the client is then, where its course came to t before the answer.
pub record EndsIn (scripts : Scripts) (scene : Scene) (script : ScriptValue) (s t s' : Course) (line : Line) (now : ℕ) (es : List Entry) (gone : Bool) (reply : LineReply) : Type 0 where
  pub client : Client
  pub notes : Notes scripts scene.standing s.client (es ++ in_line s.client line Answered ∷ []) client
  pub answering : IsAnswering s reply client
  pub open_is : drafts_of t ≢ 0 → (u : Update) × (client.update ≡ Some u)
  pub locks : (object : ℕ) → has_locked object client ≡ cond gone false (has_locked object (client_of scene.standing s.client))
  pub of_client : AreOf scripts scene.standing s.client es
  pub moments : AreOfTurn now es
  pub update : (after : Scene) → KeepsVersions scene after → s'.drafts ≡ t.drafts → OwnsUpdate after script s' client.update

both_false : (e : Bool) → cond e false false ≡ false
both_false true = refl
both_false false = refl

module _ {D : Type 0} (b : Ghosts D) (laws : b.tells → LineTurnStands b) (script : ScriptValue) (c mid c' : Common D) (s t s' : Course) (line : Line) (next : line_of script s ≡ Some line)
    (ready : IsReady b script c s) (es : List Entry) (gone : Bool) (reply : LineReply) (come : HasCome b es gone c mid s t) (is : IsAnswered script line reply mid c' t s') where
  abbrev at_end : Bool
  at_end = gives_up script s (drafts_of t)

  has : HasAnswered b reply (es ++ ending s.client line at_end) c c' s s'
  has = come_answered b script line reply es gone c mid c' s t s' come is

  module _ (told : b.tells) (read : IsRead b c.store c'.store) (opening : State) (scripts : Scripts) (first : ℕ) (scene : Scene) (at : IsIn b IsAtRest script c s opening scripts first scene)
      (ends : EndsIn scripts scene script s t s' line (b.moment c'.store) es gone reply) where
    moments : AreOfTurn (b.moment c'.store) (es ++ ending s.client line at_end)
    moments = moments_end (b.moment c'.store) es s.client line at_end ends.moments

    abbrev after : Scene
    after = answered_scene b (laws told) opening scripts first scene c c' script s s' at.stands at.mine line next es ends.client reply ends.notes ends.answering (drafts_of t) ends.open_is

    keeps : KeepsVersions scene after
    keeps = answered_keeps b (laws told) opening scripts first scene c c' script s s' at.stands at.mine line next es ends.client reply ends.notes ends.answering (drafts_of t) ends.open_is read moments

    -- the locks are those that clients have then
    locks_by : (g e : Bool) → c'.locks ≡ locks_left s.client c.locks (g || e)
        → ((object : ℕ) → has_locked object ends.client ≡ cond g false (has_locked object (client_of scene.standing s.client)))
        → Notes scripts scene.standing s.client (es ++ ending s.client line at_end) (left_with ends.client e)
        → AreLocksIn (after_entries scripts scene.standing (es ++ ending s.client line at_end)) c'.locks
    locks_by true e gone_are none notes =
        locks_go scripts s.client scene (es ++ ending s.client line at_end) (left_with ends.client e) at.mine.seated.client.low notes.becomes at.mine.seated.client
        c.locks c'.locks at.stands.locks gone_are (λ object. left_locks ends.client e object ∙ ap (cond e false) (none object) ∙ both_false e)
    locks_by false true gone_are same notes =
        locks_go scripts s.client scene (es ++ ending s.client line at_end) (left_with ends.client true) at.mine.seated.client.low notes.becomes at.mine.seated.client
        c.locks c'.locks at.stands.locks gone_are (λ object. left_locks ends.client true object)
    locks_by false false gone_are same notes =
        locks_kept scripts s.client scene (es ++ ending s.client line at_end) ends.client at.mine.seated.client.low notes.becomes at.mine.seated.client
        c.locks c'.locks at.stands.locks gone_are same

    locks_then : AreLocksIn (after_entries scripts scene.standing (es ++ ending s.client line at_end)) c'.locks
    locks_then =
        locks_by gone at_end (ended_locks b script line reply es gone c mid c' s t s' come is) ends.locks
        (ended scripts script scene s at.mine.seated line next es ends.client reply ends.notes ends.answering.answers (drafts_of t) ends.open_is)

    goes : TurnGoes b opening scripts first scene c c' script s'
    goes =
        answered_goes b (laws told) opening scripts first scene c c' script s s' at.stands at.mine line next es ends.client reply ends.notes ends.answering (drafts_of t) ends.open_is read moments
        (after_answer b script reply (es ++ ending s.client line at_end) c c' s s' has at.mine.none ready.line t.drafts (drafts_left b script line reply es gone c mid c' s t s' come is))
        (own_left after script t.drafts s' ends.client at_end (drafts_left b script line reply es gone c mid c' s t s' come is) (λ same. ends.update after keeps same))
        has.shares locks_then
        (of_append scripts scene.standing s.client es (ending s.client line at_end) ends.of_client (ending_of scripts (after_entries scripts scene.standing es) s.client line at_end))

  -- so the turn ends with the line
  pub line_ended : (result : Turned) → result ≡ turned.Line line.number → (b.tells → IsRead b c.store c'.store)
      → (b.tells → (opening : State) (scripts : Scripts) (first : ℕ) (scene : Scene) → IsIn b IsAtRest script c s opening scripts first scene
      → EndsIn scripts scene script s t s' line (b.moment c'.store) es gone reply)
      → TurnCall b IsAtRest script c c' s s' result
  line_ended result said read ends =
      answered_call b script reply (es ++ ending s.client line at_end) c c' s s' ready has IsAtRest line result next said
      (λ told opening scripts first scene at. goes told (read told) opening scripts first scene at (ends told opening scripts first scene at))
