use Rattle.std.proofs.Common.{◌+◌, take, Err, ap, sym, subst, ◌∙◌}
use Rattle.std.proofs.lemmas.Result.{err_from_is_err_and}
use Rattle.script_text.specs.declared.script.Mode.TheVariants.{Numbers}
use Rattle.script_text.specs.Grammar.{IsInGrammar}
use Rattle.playing.specs.Parsing.{AreSaid, IsRefusedFor, IsUnparsed}
use Rattle.playing.specs.Sources.{script_of}
use Rattle.playing.specs.Taking.{bytes_of}
use Rattle.playing.proofs.Parsed.{first_refused, said_more}
use Rattle.playing.proofs.Refusing.{of_refusal}
use Rattle.playing.proofs.scripts.parse_texts.Goals as goal

pub returns-in_err-script : goal.returns-in_err-script
returns-in_err-script c =
    let r = c.from_residual.result in
    let p = err_from_is_err_and r c.from_residual.ensures.1 in
    let cause = c.in_err-script.field-0.0 in
    of_refusal r cause _ (IsUnparsed (bytes_of c.args.texts.now)) (p.1 ∙ ap Err p.2)
    (first_refused c.args.texts.now c.loop-place.place c.index-texts-place.result
    c.loop-place.scripts.items c.client_at.result cause c.loop-place-test.true
    c.index-texts-place.is c.loop-place.invariant c.client_at.ensures
    (subst (λ t. IsRefusedFor c.client_at.result t cause) c.deref.ensures.value
    c.in_err-script.ensures.refused))

pub loop-place-preserved : goal.loop-place-preserved
loop-place-preserved c =
    subst (AreSaid (bytes_of (take (c.loop-place.place + 1) c.args.texts.now)))
    (sym c.in_ok-push.ensures.items)
    (said_more c.args.texts.now c.loop-place.place c.index-texts-place.result
    c.loop-place.scripts.items c.in_ok-script.script c.loop-place-test.true
    c.index-texts-place.is c.loop-place.invariant
    (subst (IsInGrammar Numbers) c.deref.ensures.value c.in_ok-script.ensures.grammar)
    (c.in_ok-script.ensures.said ∙ ap script_of c.deref.ensures.value))
