-- Why a line of an update of one file is refused, as it is tried.
use Rattle.std.proofs.Common.{◌≡◌, ℕ, ◌+◌, Bool, true, false, not, cond, nat_le, List, [], ◌∷◌, length, sum_by, Option, Some, None, Ok, Err, refl, ap, ◌∙◌, arith, slice_get}
use Rattle.std.specs.Prelude.{is_none, is_some}
use Rattle.std.specs.Option.{option_and_then}
use Rattle.caps.specs.declared.denied.DeniedWhy.TheVariants.{NoObject}
use Rattle.caps.specs.Grant.{granted, has_rights, object_of as object_named}
use Rattle.script_text.specs.declared.command.FileName.{FileName}
use Rattle.script_text.specs.declared.command.FileName.TheVariants.{Cap, Number}
use Rattle.script_text.specs.declared.reply.LineRefusal.{LineRefusal}
use Rattle.script_text.specs.declared.reply.LineRefusal.TheVariants.{Denied, DeniedRights, Full, Idle, Open}
use Rattle.service_model.specs.Causes.{denial, denied_cause, first_cause, full_cause, object_of, reading, right_for, rights_cause, when}
use Rattle.service_model.specs.Standing.{Update, Work, client_of, picked_work, seal_in, step_count}
use Rattle.ground_model.specs.Causes.{CauseOfAbandon, CauseOfBegin, CauseOfCommit, CauseOfIdleStep, CauseOfStep, name_cause}

-- the first of one cause, or of none
first_alone : (o : Option LineRefusal) → first_cause (o ∷ []) ≡ o
first_alone None = refl
first_alone (Some cause) = refl

pub cause_of_begin : CauseOfBegin
cause_of_begin s k file = by (is_some (client_of s k).update) file
  where
    number : (object : ℕ) (b : Bool) → first_cause (denial (cond b (Ok object) (Err NoObject)) ∷ []) ≡ cond b None (Some (Denied (record { why = NoObject })))
    number object true = refl
    number object false = refl

    by : (b : Bool) (f : FileName) → first_cause (when b Open ∷ denied_cause s.state reading f ∷ []) ≡ cond b (Some Open) (name_cause (seal_in s.state (object_of f)) f)
    by true f = refl
    by false (Number object) = number object (is_some (seal_in s.state object))
    by false (Cap cap) = first_alone (denial (granted (seal_in s.state (object_named cap)) cap reading))

pub cause_of_idle_step : CauseOfIdleStep
cause_of_idle_step s k step idle =
    ap (λ (o : Option Update). first_cause (when (is_none o) Idle ∷ option_and_then (rights_cause step) o ∷ option_and_then full_cause o ∷ [])) idle

pub cause_of_step : CauseOfStep
cause_of_step s k step u w is_open works picked =
    ap (λ (o : Option Update). first_cause (when (is_none o) Idle ∷ option_and_then (rights_cause step) o ∷ option_and_then full_cause o ∷ [])) is_open
    ∙ ap (λ (o : Option Work). first_cause (None ∷ option_and_then (λ (x : Work). when (not (has_rights x.rights (right_for step))) DeniedRights) o ∷ full_cause u ∷ [])) part
    ∙ ap (λ n. first_cause (None ∷ when (not (has_rights w.rights (right_for step))) DeniedRights ∷ when (nat_le 128 n) Full ∷ [])) many
    ∙ by (not (has_rights w.rights (right_for step))) (nat_le 128 (length w.steps))
  where
    part : picked_work u ≡ Some w
    part = ap (slice_get u.works) picked ∙ ap (λ (ws : List Work). slice_get ws 0) works

    many : step_count u ≡ length w.steps
    many = ap (sum_by (λ (x : Work). length x.steps)) works ∙ (let one : 0 + length w.steps ≡ length w.steps = omega arith in one)

    by : (a b : Bool) → first_cause (None ∷ when a DeniedRights ∷ when b Full ∷ []) ≡ cond a (Some DeniedRights) (cond b (Some Full) None)
    by true b = refl
    by false true = refl
    by false false = refl

pub cause_of_commit : CauseOfCommit
cause_of_commit s k = first_alone (when (is_none (client_of s k).update) Idle)

pub cause_of_abandon : CauseOfAbandon
cause_of_abandon s k = first_alone (when (is_none (client_of s k).update) Idle)
