use Rattle.std.proofs.Common.{◌<◌, ◌∙◌, arith, rules}
use Rattle.session.proofs.RefusedLines.{step_denied, step_full}
use Rattle.session.proofs.course.Course.step.Goals as goal

pub refuse-requires-then-not-has_rights-clause-cause : goal.refuse-requires-then-not-has_rights-clause-cause
refuse-requires-then-not-has_rights-clause-cause g c = λ told.
    step_denied g.B.Blocks c.args.script.now c.args.common.now c.args.self.now c.args.step.now c.requires.command (λ none. c.if-roots-eq0.false (c.roots.ensures.value ∙ none)) (search rules)

pub refuse-requires-then-count-eq-MAX_STEPS-clause-cause : goal.refuse-requires-then-count-eq-MAX_STEPS-clause-cause
refuse-requires-then-count-eq-MAX_STEPS-clause-cause g c = λ told.
    step_full g.B.Blocks c.args.script.now c.args.common.now c.args.self.now c.args.step.now c.requires.command (λ none. c.if-roots-eq0.false (c.roots.ensures.value ∙ none)) (search rules)
    (omega (arith, c.count.ensures.value, c.if-count-eq-MAX_STEPS.true))

pub returns-in-Some : goal.returns-in-Some
returns-in-Some g c =
    let s = c.args.self.now in
    let few : s.drafts.count < 128 = omega (arith, c.count.ensures.value, c.count.ensures.most, c.if-count-eq-MAX_STEPS.false) in
    c.fetch.ensures c.args.script.now c.args.step.now c.requires.ready c.requires.command (search rules) few c.in-Some.ensures
