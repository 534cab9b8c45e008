-- A line that gives the update up.
use Rattle.std.proofs.Common.{◌≡◌, ◌≢◌, ℕ, zero, suc, ◌^◌, ◌<◌, true, ◌&&◌, List, [], ◌∷◌, ◌++◌, Some, None, refl, sym, ap, ◌∙◌, subst, slice_get}
use Rattle.std.specs.Prelude.{IfSome}
use Rattle.pair_store.specs.declared.store.Blocks.{Ghosts}
use Rattle.pool_draft.specs.Sets.{roots_of}
use Rattle.script_text.specs.ScriptValue.{ScriptValue}
use Rattle.script_text.specs.declared.command.Command.TheVariants.{Abandon}
use Rattle.script_text.specs.declared.reply.LineReply.{LineReply}
use Rattle.script_text.specs.declared.reply.LineReply.TheVariants as reply
use Rattle.script_text.specs.declared.script.Line.{Line}
use Rattle.service_model.specs.declared.journal.Entry.{Entry}
use Rattle.service_model.specs.declared.journal.What.{What}
use Rattle.service_model.specs.declared.journal.What.TheVariants.{GivenUp}
use Rattle.service_model.specs.Standing.{Scripts, Standing, client_of}
use Rattle.ground_model.specs.Lines.{answering, in_line}
use Rattle.ground_model.specs.LineTurns.{LineTurnStands}
use Rattle.ground_model.specs.Scenes.{Scene}
use Rattle.ground_model.proofs.LineKinds.{abandon_is_noted}
use Rattle.ground_model.proofs.Noted.{untimed_are_of_turn}
use Rattle.session.specs.Answers.{IsAnswered, IsAtCommand, LetsGo, NotesAlone}
use Rattle.session.specs.Calls.{IsReady, TurnCall}
use Rattle.session.specs.Ends.{AreOf}
use Rattle.session.specs.Own.{IsAtRest}
use Rattle.session.specs.Safe.{drafts_of, line_of}
use Rattle.session.specs.declared.common.Common.{Common}
use Rattle.session.specs.declared.course.Course.{Course}
use Rattle.session.specs.declared.turned.Turned.{Turned}
use Rattle.session.specs.declared.turned.Turned.TheVariants as turned
use Rattle.session.proofs.EndedLines.{EndsIn, line_ended}
use Rattle.session.proofs.Going.{always_due, is_always_due}
use Rattle.session.proofs.LineEnds.{at_line, come_free, come_noted, come_to, for_line, may_stay, own_is_open, untouched}

-- one entry of a client that is always due
pub one_of : (scripts : Scripts) (s : Standing) (k : ℕ) (line : Line) (what : What) → is_always_due what ≡ true → AreOf scripts s k (in_line k line what ∷ [])
one_of scripts s k line what due = record { own = own; due = always_due scripts s (in_line k line what ∷ []) (ap (λ b. b && true) due) }
  where
    own : (n : ℕ) (e : Entry) → slice_get (in_line k line what ∷ []) n ≡ Some e → e.client ≡ k
    own zero e at = (let same : in_line k line what ≡ e = cc in ap (λ (x : Entry). x.client) (sym same))
    own (suc n) e at = absurd (cc at)

module _ {D : Type 0} (b : Ghosts D) (script : ScriptValue) (c mid free c' : Common D) (s t s' : Course) (line : Line) (next : line_of script s ≡ Some line) (command : line.command ≡ Abandon) (some : drafts_of s ≢ 0)
    (lets : LetsGo mid free s t) where
  abandon_ends : (scripts : Scripts) (scene : Scene) → IsAtRest scripts scene script s → (now : ℕ)
      → EndsIn scripts scene script s t s' line now (in_line s.client line GivenUp ∷ []) true reply.Abandoned
  abandon_ends scripts scene rest now =
      let u = own_is_open scene script s (client_of scene.standing s.client).update rest.update some in
      record {
        client = answering (client_of scene.standing s.client) reply.Abandoned None;
        notes = abandon_is_noted scripts scene.standing s.client line (at_line scripts scene script s line rest next) command u.0 u.1;
        answering = record {
          answers = ap (λ (rs : List LineReply). rs ++ reply.Abandoned ∷ []) rest.seated.answers;
          noted = refl;
          held = rest.held;
        };
        open_is = λ open_still. absurd (open_still lets.cleared.none);
        locks = λ object. refl;
        of_client = one_of scripts scene.standing s.client line GivenUp refl;
        moments = untimed_are_of_turn now (in_line s.client line GivenUp ∷ []) refl;
        update = λ after keeps same. ap roots_of same ∙ lets.cleared.none;
      }

  pub abandon_call : (b.tells → LineTurnStands b) → ((d : D) → b.moment d < 2 ^ 64) → IsReady b script c s → NotesAlone c mid (in_line s.client line GivenUp ∷ [])
      → IsAnswered script line reply.Abandoned free c' t s' → (result : Turned) → result ≡ turned.Line line.number → TurnCall b IsAtRest script c c' s s' result
  abandon_call laws clock ready noted is result said =
      line_ended b laws script c free c' s t s' line next ready (in_line s.client line GivenUp ∷ []) true reply.Abandoned
      (come_free b (in_line s.client line GivenUp ∷ []) c mid free s s t
      (come_noted b (in_line s.client line GivenUp) c c mid s s (come_to b c s s (may_stay b script c s ready)) noted) lets) is result said
      (λ told. untouched b clock c.store c'.store (ap (λ (x : Common D). x.store) is.noted.only ∙ ap (λ (x : Common D). x.store) lets.locks ∙ ap (λ (x : Common D). x.store) noted.only))
      (λ told opening scripts first scene at. abandon_ends scripts scene at.mine (b.moment c'.store))

pub abandon_turn : {D : Type 0} (b : Ghosts D) (script : ScriptValue) (c mid free c' : Common D) (s t s' : Course) (result : Turned)
    → (b.tells → LineTurnStands b) → ((d : D) → b.moment d < 2 ^ 64) → IsReady b script c s → IsAtCommand script s Abandon → drafts_of s ≢ 0 → LetsGo mid free s t
    → IfSome (line_of script s) (λ line. NotesAlone c mid (in_line s.client line GivenUp ∷ []))
    → IfSome (line_of script t) (λ line. IsAnswered script line reply.Abandoned free c' t s')
    → IfSome (line_of script t) (λ line. result ≡ turned.Line line.number)
    → TurnCall b IsAtRest script c c' s s' result
abandon_turn b script c mid free c' s t s' result laws clock ready command some lets noted answered said =
    abandon_call b script c mid free c' s t s' command.line command.next command.is some lets laws clock ready
    (for_line (line_of script s) (λ line. NotesAlone c mid (in_line s.client line GivenUp ∷ [])) command.line command.next noted)
    (for_line (line_of script s) (λ line. IsAnswered script line reply.Abandoned free c' t s') command.line command.next
    (subst (λ (x : Course). IfSome (line_of script x) (λ line. IsAnswered script line reply.Abandoned free c' t s')) lets.only answered))
    result (for_line (line_of script s) (λ line. result ≡ turned.Line line.number) command.line command.next
    (subst (λ (x : Course). IfSome (line_of script x) (λ line. result ≡ turned.Line line.number)) lets.only said))
