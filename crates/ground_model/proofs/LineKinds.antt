-- The lines that change nothing but their client, one by one.
use Rattle.std.proofs.Common.{◌≡◌, ◌≢◌, ℕ, map, List, [], ◌∷◌, ◌++◌, Option, Some, None, is_some, refl, sym, ap, ◌∙◌, subst}
use Rattle.std.specs.Prelude.{IsSome, if◌then◌else◌, is_none}
use Rattle.std.specs.Option.{option_and_then}
use Rattle.script_text.specs.declared.command.Command.{Command}
use Rattle.script_text.specs.declared.command.Command.TheVariants.{Begin, Do, Abandon, Pick}
use Rattle.script_text.specs.declared.command.FileName.{FileName}
use Rattle.script_text.specs.declared.reply.LineRefusal.{LineRefusal}
use Rattle.script_text.specs.declared.reply.LineRefusal.TheVariants.{Open, Idle}
use Rattle.script_text.specs.declared.reply.LineReply.{LineReply}
use Rattle.script_text.specs.declared.reply.LineReply.TheVariants as reply
use Rattle.script_text.specs.declared.script.Line.{Line}
use Rattle.service_model.specs.declared.journal.Entry.{Entry}
use Rattle.service_model.specs.declared.journal.What.{What}
use Rattle.service_model.specs.declared.journal.What.TheVariants.{Began, GivenUp, Answered}
use Rattle.service_model.specs.declared.named.Named.{Named}
use Rattle.service_model.specs.Causes.{cause_of, denied_cause, first_cause, reading, when}
use Rattle.service_model.specs.Entries.{after_what, after_entries, bases_of, mode_of, noting, opened, updated, with_step, without_update}
use Rattle.service_model.specs.Legal.{IsLawful, IsLegalFrom, IsOpening}
use Rattle.service_model.specs.Replies.{reply_at, reply_after, asked_reply, plain_reply, step_reply}
use Rattle.service_model.specs.Standing.{Scripts, Standing, Client, Update, Upkeep, client_of, next_line}
use Rattle.ground_model.specs.Lines.{in_line, Becomes, Notes, IsAt, answering, RefusedIsNoted, BeginIsNoted, StepIsNoted, PickIsNoted, AbandonIsNoted}
use Rattle.ground_model.specs.Own.{IsClient}
use Rattle.ground_model.proofs.Lines.{became, still_client, becomes_then, noted_lawful, noted_after, same_next, answer_notes, began_becomes, given_up_becomes}

-- where nothing is noted the answer is by the first cause, else by what is asked
plain_answer : (scripts : Scripts) (s : Standing) (k : ℕ) (command : Command) (cause : Option LineRefusal) → (client_of s k).noted ≡ [] → cause_of s k command ≡ cause
    → reply_at (mode_of scripts k) s k command ≡ asked_reply cause (plain_reply s (client_of s k) command)
plain_answer scripts s k command cause fresh why =
    ap (λ (noted : List What). reply_after (mode_of scripts k) s k command noted) fresh
    ∙ ap (λ o. asked_reply o (plain_reply s (client_of s k) command)) why

-- the update after an answer
pub same_update : (scripts : Scripts) (s : Standing) (k : ℕ) (es : List Entry) (answer : LineReply) (a b : Option Update) → a ≡ b
    → Notes scripts s k es (answering (client_of s k) answer a) → Notes scripts s k es (answering (client_of s k) answer b)
same_update scripts s k es answer a b e n = (let F : Option Update → Type 0 = λ u. Notes scripts s k es (answering (client_of s k) answer u) in subst F e n)

pub refused_is_noted : RefusedIsNoted
refused_is_noted scripts s k line at cause why =
    answer_notes scripts s k line at.resting.client at.next at.resting.idle (Some cause) (reply.Refused cause) why
    (plain_answer scripts s k line.command (Some cause) at.resting.fresh why)

pub step_is_noted : StepIsNoted
step_is_noted scripts s k line at step is none u open_is answer told =
    same_update scripts s k (in_line k line Answered ∷ []) answer (updated line.command (client_of s k).update) (Some (with_step step u))
    (ap (λ c. updated c (client_of s k).update) is ∙ ap (updated (Do step)) open_is)
    (answer_notes scripts s k line at.resting.client at.next at.resting.idle None answer none
    (plain_answer scripts s k line.command None at.resting.fresh none
    ∙ ap (plain_reply s (client_of s k)) is ∙ ap (option_and_then (step_reply step)) open_is ∙ told))

pub pick_is_noted : PickIsNoted
pick_is_noted scripts s k line at place is none u open_is =
    same_update scripts s k (in_line k line Answered ∷ []) reply.Picked (updated line.command (client_of s k).update) (Some (record u { picked = place }))
    (ap (λ c. updated c (client_of s k).update) is ∙ ap (updated (Pick place)) open_is)
    (answer_notes scripts s k line at.resting.client at.next at.resting.idle None reply.Picked none
    (plain_answer scripts s k line.command None at.resting.fresh none ∙ ap (plain_reply s (client_of s k)) is))

-- ---- two entries

-- an entry of its own, and then the answer
module _ (scripts : Scripts) (s : Standing) (k : ℕ) (line : Line) (client : IsClient s k) (here : next_line scripts s k ≡ Some line) (rests : (up : Upkeep) → s.upkeep ≡ Some up → up.client ≢ k) (what : What)
    (c : Client) (lawful : IsLawful scripts s (in_line k line what)) (becomes : Becomes k c s (after_what (mode_of scripts k) s k line.command what))
    (answers : c.answers ≡ (client_of s k).answers) where
  abbrev mid : Standing
  mid = after_what (mode_of scripts k) s k line.command what

  mid_client : IsClient mid k
  mid_client = still_client s mid k c client becomes

  pub mid_is : client_of mid k ≡ c
  mid_is = became s mid k c client becomes

  pub two_entries : (d : Client) (cause : Option LineRefusal) (answer : LineReply) → cause_of mid k line.command ≡ cause
      → reply_at (mode_of scripts k) mid k line.command ≡ Some answer
      → answering c answer (if is_some cause then c.update else updated line.command c.update) ≡ d
      → Notes scripts s k (in_line k line what ∷ in_line k line Answered ∷ []) d
  two_entries d cause answer why told is =
      let next : next_line scripts mid k ≡ Some line = same_next scripts s mid k c line client becomes answers here in
      let idle : (up : Upkeep) → mid.upkeep ≡ Some up → up.client ≢ k = λ up e. rests up (sym becomes.upkeep ∙ e) in
      let n : Notes scripts mid k (in_line k line Answered ∷ []) (answering (client_of mid k) answer (if is_some cause then (client_of mid k).update else updated line.command (client_of mid k).update)) =
      answer_notes scripts mid k line mid_client next idle cause answer why told in
      let F : Standing → Type 0 = λ t. IsLegalFrom scripts t (in_line k line Answered ∷ []) in
      let G : Standing → Type 0 = λ t. Becomes k d mid (after_entries scripts t (in_line k line Answered ∷ [])) in
      let H : Client → Type 0 = λ x. Becomes k x mid (after_entries scripts mid (in_line k line Answered ∷ [])) in
      let first = noted_after scripts s k line what here in
      let as_c : answering (client_of mid k) answer (if is_some cause then (client_of mid k).update else updated line.command (client_of mid k).update) ≡ d =
      ap (λ (x : Client). answering x answer (if is_some cause then x.update else updated line.command x.update)) mid_is ∙ is in
      record {
        legal = (lawful, subst F (sym first) n.legal);
        becomes = becomes_then s mid _ k c d becomes (subst G (sym first) (subst H as_c n.becomes));
      }

module _ (scripts : Scripts) (s : Standing) (k : ℕ) (line : Line) (file : FileName) (at : IsAt scripts s k line) (is : line.command ≡ Begin file) (none : cause_of s k line.command ≡ None) where
  abbrev bases : List Named
  bases = bases_of (opened s.state line.command)

  abbrev begun : Client
  begun = noting (Began bases) (record (client_of s k) { update = Some (opened s.state line.command) })

  abbrev then_stands : Standing
  then_stands = after_what (mode_of scripts k) s k line.command (Began bases)

  begun_becomes : Becomes k begun s then_stands
  begun_becomes = began_becomes (mode_of scripts k) s k line.command at.resting.client bases

  begun_now : client_of then_stands k ≡ begun
  begun_now = became s then_stands k begun at.resting.client begun_becomes

  begun_why : cause_of then_stands k line.command ≡ Some Open
  begun_why =
      ap (cause_of then_stands k) is
      ∙ ap (λ (x : Client). first_cause (when (is_some x.update) Open ∷ denied_cause then_stands.state reading file ∷ [])) begun_now

  begun_told : reply_at (mode_of scripts k) then_stands k line.command ≡ Some (reply.Base (map (λ (n : Named). n.serial) bases))
  begun_told =
      ap (λ (x : Client). reply_after (mode_of scripts k) then_stands k line.command x.noted) begun_now
      ∙ ap (λ (noted : List What). reply_after (mode_of scripts k) then_stands k line.command (noted ++ Began bases ∷ [])) at.resting.fresh

  begin_here : Notes scripts s k (in_line k line (Began bases) ∷ in_line k line Answered ∷ [])
      (answering (client_of s k) (reply.Base (map (λ (n : Named). n.serial) bases)) (Some (opened s.state line.command)))
  begin_here =
      two_entries scripts s k line at.resting.client at.next at.resting.idle (Began bases) begun
      (noted_lawful scripts s k line (Began bases) (record {
        client = at.resting.client;
        next = at.next;
        lawful = ((let F : Command → Type 0 = λ x. IsOpening x in subst F (sym is) tt), at.resting.fresh, none, refl);
      }))
      begun_becomes refl
      (answering (client_of s k) (reply.Base (map (λ (n : Named). n.serial) bases)) (Some (opened s.state line.command)))
      (Some Open) (reply.Base (map (λ (n : Named). n.serial) bases)) begun_why begun_told refl

pub begin_is_noted : BeginIsNoted
begin_is_noted scripts s k line file at is none = begin_here scripts s k line file at is none

module _ (scripts : Scripts) (s : Standing) (k : ℕ) (line : Line) (at : IsAt scripts s k line) (is : line.command ≡ Abandon) (u : Update) (open_is : (client_of s k).update ≡ Some u) where
  abbrev over : Client
  over = noting GivenUp (without_update (client_of s k))

  abbrev gone : Standing
  gone = after_what (mode_of scripts k) s k line.command GivenUp

  over_becomes : Becomes k over s gone
  over_becomes = given_up_becomes (mode_of scripts k) s k line.command at.resting.client

  over_now : client_of gone k ≡ over
  over_now = became s gone k over at.resting.client over_becomes

  over_why : cause_of gone k line.command ≡ Some Idle
  over_why = ap (cause_of gone k) is ∙ ap (λ (x : Client). first_cause (when (is_none x.update) Idle ∷ [])) over_now

  over_told : reply_at (mode_of scripts k) gone k line.command ≡ Some reply.Abandoned
  over_told =
      ap (λ (x : Client). reply_after (mode_of scripts k) gone k line.command x.noted) over_now
      ∙ ap (λ (noted : List What). reply_after (mode_of scripts k) gone k line.command (noted ++ GivenUp ∷ [])) at.resting.fresh

  abandon_here : Notes scripts s k (in_line k line GivenUp ∷ in_line k line Answered ∷ []) (answering (client_of s k) reply.Abandoned None)
  abandon_here =
      two_entries scripts s k line at.resting.client at.next at.resting.idle GivenUp over
      (noted_lawful scripts s k line GivenUp (record {
        client = at.resting.client;
        next = at.next;
        lawful = (is, at.resting.fresh, (let F : Option Update → Type 0 = λ o. IsSome o in subst F (sym open_is) refl));
      }))
      over_becomes refl (answering (client_of s k) reply.Abandoned None) (Some Idle) reply.Abandoned over_why over_told
      (ap (λ n. (let x : Client = record (client_of s k) { answers = (client_of s k).answers ++ reply.Abandoned ∷ []; update = None; held = n; noted = [] } in x)) (sym at.resting.held))

pub abandon_is_noted : AbandonIsNoted
abandon_is_noted scripts s k line at is u open_is = abandon_here scripts s k line at is u open_is
