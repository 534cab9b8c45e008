use Rattle.std.proofs.Common.{sym, subst, ap, ◌∙◌}
use Rattle.std.proofs.lemmas.Result.{err_from_is_err_and}
use Rattle.script_text.specs.Grammar.{lines_of}
use Rattle.script_text.specs.ScriptValue.{IsScript}
use Rattle.script_text.specs.Words.{pieces}
use Rattle.script_text.proofs.FormLemmas.{All-IsInForm, refused_for, says_lines}
use Rattle.script_text.proofs.SoundLemmas.{IsScript-good_lines}
use Rattle.script_text.proofs.reading.parse.Goals as goal

pub of-requires : goal.of-requires
of-requires c =
    subst (IsScript c.args.mode) (sym c.in_ok-lines.ensures.lines) (IsScript-good_lines c.args.mode (pieces c.args.bytes.now))

pub returns-clause-form : goal.returns-clause-form
returns-clause-form c = All-IsInForm c.args.mode (lines_of c.args.bytes.now) c.in_ok-lines.ensures.ok

pub returns-clause-says : goal.returns-clause-says
returns-clause-says c =
    says_lines c.args.mode c.args.bytes.now c.of.result.lines (ap (λ s. s.lines) c.of.ensures ∙ c.in_ok-lines.ensures.lines) c.in_ok-lines.ensures.ok

pub returns-in_err-lines-clause-out : goal.returns-in_err-lines-clause-out
returns-in_err-lines-clause-out c =
    let p = err_from_is_err_and c.from_residual.result c.from_residual.ensures.1 in
    rw (p.1, p.2) (refused_for c.args.mode c.args.bytes.now c.in_err-lines.field-0.0 c.in_err-lines.ensures.refused)
