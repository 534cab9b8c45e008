-- The entries of a commit's line: that they are legal, and what stands after them.
use Rattle.std.proofs.Common.{◌≡◌, inl, inr, ℕ, List, [], ◌∷◌, ◌++◌, Option, Some, None, refl, sym, ap, ◌∙◌, subst}
use Rattle.std.specs.Prelude.{IsSomeAnd, is_none}
use Rattle.script_text.specs.declared.reply.LineRefusal.TheVariants.{Idle}
use Rattle.script_text.specs.declared.reply.LineReply.TheVariants as reply
use Rattle.script_text.specs.declared.script.Line.{Line}
use Rattle.service_model.specs.declared.journal.Refusal.{Refusal}
use Rattle.service_model.specs.declared.journal.What.{What}
use Rattle.service_model.specs.declared.journal.What.TheVariants.{Held, Refused, Answered}
use Rattle.service_model.specs.Causes.{cause_of, first_cause, when}
use Rattle.service_model.specs.Entries.{after_what, mode_of, noting, updated, without_update}
use Rattle.service_model.specs.Legal.{IsHoldable, IsLawfulWhat, IsUndecided}
use Rattle.service_model.specs.Replies.{refusal_of, reply_after, reply_at, serials_by}
use Rattle.service_model.specs.Standing.{Scripts, Standing, Client, Update, client_of}
use Rattle.ground_model.specs.CommitLines.{CommitIsAnswered, HoldingIsNoted, IsCommitting, RefusalIsNoted}
use Rattle.ground_model.specs.Lines.{Becomes, Notes, answering, in_line}
use Rattle.ground_model.proofs.LineKinds.{same_update, two_entries}
use Rattle.ground_model.proofs.Lines.{answer_notes, became, held_becomes, noted_after, noted_lawful, refused_becomes}

pub holding_is_noted : HoldingIsNoted
holding_is_noted scripts s k line u blocks at open_is holdable =
    let lawful : IsLawfulWhat (mode_of scripts k) s k line.command (Held blocks) =
    inl (at.command, (let F : Option Update → Type 0 = λ o. IsSomeAnd o (λ v. IsHoldable s k v blocks) in subst F (sym open_is) holdable)) in
    let F : Standing → Type 0 = λ t. Becomes k (noting (Held blocks) (record (client_of s k) { held = blocks })) s t in
    record {
      legal = (noted_lawful scripts s k line (Held blocks) (record { client = at.client; next = at.next; lawful = lawful }), tt);
      becomes = subst F (sym (noted_after scripts s k line (Held blocks) at.next)) (held_becomes (mode_of scripts k) s k line.command at.client blocks);
    }

pub commit_is_answered : CommitIsAnswered
commit_is_answered scripts s k line u blocks moment made at open_is noted =
    same_update scripts s k (in_line k line Answered ∷ []) (reply.Committed (serials_by made (Some u))) (updated line.command (client_of s k).update) None
    (ap (λ c. updated c (client_of s k).update) at.command)
    (answer_notes scripts s k line at.client at.next at.idle None (reply.Committed (serials_by made (Some u))) why told)
  where
    why : cause_of s k line.command ≡ None
    why = ap (cause_of s k) at.command ∙ ap (λ (o : Option Update). first_cause (when (is_none o) Idle ∷ [])) open_is

    told : reply_at (mode_of scripts k) s k line.command ≡ Some (reply.Committed (serials_by made (Some u)))
    told =
        ap (λ (ns : List What). reply_after (mode_of scripts k) s k line.command ns) noted
        ∙ ap (λ (o : Option Update). Some (reply.Committed (serials_by made o))) open_is

module _ (scripts : Scripts) (s : Standing) (k : ℕ) (line : Line) (why : Refusal) (at : IsCommitting scripts s k line) (lawful : IsLawfulWhat (mode_of scripts k) s k line.command (Refused why)) where
  abbrev over : Client
  over = noting (Refused why) (without_update (client_of s k))

  abbrev gone : Standing
  gone = after_what (mode_of scripts k) s k line.command (Refused why)

  over_becomes : Becomes k over s gone
  over_becomes = refused_becomes (mode_of scripts k) s k line.command at.client why

  over_now : client_of gone k ≡ over
  over_now = became s gone k over at.client over_becomes

  over_why : cause_of gone k line.command ≡ Some Idle
  over_why = ap (cause_of gone k) at.command ∙ ap (λ (x : Client). first_cause (when (is_none x.update) Idle ∷ [])) over_now

  -- whether or not blocks were held, the refusal answers
  told_by : (noted : List What) → IsUndecided noted → reply_after (mode_of scripts k) gone k line.command (noted ++ Refused why ∷ []) ≡ Some (reply.Refused (refusal_of why))
  told_by noted (inl e) = ap (λ (ns : List What). reply_after (mode_of scripts k) gone k line.command (ns ++ Refused why ∷ [])) e
  told_by noted (inr h) = ap (λ (ns : List What). reply_after (mode_of scripts k) gone k line.command (ns ++ Refused why ∷ [])) h.1

  over_told : reply_at (mode_of scripts k) gone k line.command ≡ Some (reply.Refused (refusal_of why))
  over_told =
      ap (λ (x : Client). reply_after (mode_of scripts k) gone k line.command x.noted) over_now
      ∙ told_by (client_of s k).noted lawful.1

  refusal_here : Notes scripts s k (in_line k line (Refused why) ∷ in_line k line Answered ∷ []) (answering (without_update (client_of s k)) (reply.Refused (refusal_of why)) None)
  refusal_here =
      two_entries scripts s k line at.client at.next at.idle (Refused why) over
      (noted_lawful scripts s k line (Refused why) (record { client = at.client; next = at.next; lawful = lawful }))
      over_becomes refl (answering (without_update (client_of s k)) (reply.Refused (refusal_of why)) None) (Some Idle) (reply.Refused (refusal_of why)) over_why over_told refl

pub refusal_is_noted : RefusalIsNoted
refusal_is_noted scripts s k line why at lawful = refusal_here scripts s k line why at lawful
