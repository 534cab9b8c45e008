-- What a run answers of a line.
use Rattle.std.proofs.Common.{◌≡◌, ℕ, Option, Some, None, sym, ◌∙◌, subst, Bor}
use Rattle.std.specs.Prelude.{MatchOption}
use Rattle.script_text.specs.declared.reply.LineReply.{LineReply}
use Rattle.session.specs.Sessions.{IsReplyTo}
use Rattle.session.specs.declared.session.Session.{Session}
use Rattle.ground.specs.Runs.{GroundValue}
use Rattle.ground.specs.Turning.{IsAnswered, session_of}

pub answered_by : {D : Type 0} (g : GroundValue D) (k line : ℕ) (s : Session) (result : Option (Bor LineReply)) → session_of g k ≡ Some s
    → MatchOption result ((reply : LineReply) → IsReplyTo s.script s.course line reply → ⊥) (λ reply. IsReplyTo s.script s.course line reply.now)
    → MatchOption result ((reply : LineReply) → IsAnswered g k line reply → ⊥) (λ reply. IsAnswered g k line reply.now)
answered_by g k line s None is none = λ reply a.
    let same : a.client ≡ s = (let one = a.is in let two : Some a.client ≡ Some s = sym one ∙ is in cc (two)) in
    none reply (subst (λ (x : Session). IsReplyTo x.script x.course line reply) same a.answer)
answered_by g k line s (Some x) is answer = record { client = s; is = is; answer = answer }
