-- The entries of a commit's line.
use Rattle.std.specs.Prelude.{◌≡◌, ◌≢◌, ℕ, List, [], ◌∷◌, Some, None}
use Rattle.script_text.specs.declared.command.Command.TheVariants.{Commit}
use Rattle.script_text.specs.declared.reply.LineReply.TheVariants as reply
use Rattle.script_text.specs.declared.script.Line.{Line}
use Rattle.service_model.specs.declared.journal.Refusal.{Refusal}
use Rattle.service_model.specs.declared.journal.What.TheVariants.{Held, Committed, Refused}
use Rattle.service_model.specs.declared.journal.What.TheVariants.{Answered}
use Rattle.service_model.specs.declared.named.Named.{Named}
use Rattle.service_model.specs.Entries.{mode_of, noting, without_update}
use Rattle.service_model.specs.Legal.{IsHoldable, IsLawfulWhat}
use Rattle.service_model.specs.Replies.{refusal_of, serials_by}
use Rattle.service_model.specs.Standing.{Scripts, Standing, Update, Upkeep, client_of, next_line}
use Rattle.ground_model.specs.Lines.{Notes, answering, in_line}
use Rattle.ground_model.specs.Own.{IsClient}

-- The client's line under way is this commit, and it has no maintenance.
pub record IsCommitting (scripts : Scripts) (s : Standing) (k : ℕ) (line : Line) : Type 0 where
  pub client : IsClient s k
  pub next : next_line scripts s k ≡ Some line
  pub command : line.command ≡ Commit
  pub idle : (up : Upkeep) → s.upkeep ≡ Some up → up.client ≢ k

-- As many blocks as the update needs are held for it.
abbrev pub HoldingIsNoted : Type 0
HoldingIsNoted =
    (scripts : Scripts) (s : Standing) (k : ℕ) (line : Line) (u : Update) (blocks : ℕ)
    → IsCommitting scripts s k line → (client_of s k).update ≡ Some u → IsHoldable s k u blocks
    → Notes scripts s k (in_line k line (Held blocks) ∷ [])
    (noting (Held blocks) (record (client_of s k) { held = blocks }))

-- A refused commit ends its update, which then holds nothing, and is answered by its cause.
abbrev pub RefusalIsNoted : Type 0
RefusalIsNoted =
    (scripts : Scripts) (s : Standing) (k : ℕ) (line : Line) (why : Refusal)
    → IsCommitting scripts s k line
    → IsLawfulWhat (mode_of scripts k) s k line.command (Refused why)
    → Notes scripts s k (in_line k line (Refused why) ∷ in_line k line Answered ∷ [])
    (answering (without_update (client_of s k)) (reply.Refused (refusal_of why)) None)

-- A commit that is done is answered by the serials of its update's files, and the update is over.
abbrev pub CommitIsAnswered : Type 0
CommitIsAnswered =
    (scripts : Scripts) (s : Standing) (k : ℕ) (line : Line) (u : Update) (blocks at : ℕ)
    (made : List Named)
    → IsCommitting scripts s k line → (client_of s k).update ≡ Some u
    → (client_of s k).noted ≡ Held blocks ∷ Committed made at ∷ []
    → Notes scripts s k (in_line k line Answered ∷ [])
    (answering (client_of s k) (reply.Committed (serials_by made (Some u))) None)
