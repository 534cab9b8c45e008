use Rattle.std.proofs.Common.{◌≡◌, true, ◌∙◌, sym}
use Rattle.session.specs.Own.{IsAtRest, IsMerged}
use Rattle.session.specs.Safe.{drafts_of}
use Rattle.session.proofs.Choosing.{begins_merged, idle_cause, one_draft, writes_here}
use Rattle.session.proofs.Drafts.{has_draft}
use Rattle.session.proofs.Owned.{own_call}
use Rattle.session.proofs.course.Course.commit.Goals as goal

pub refuse-requires-clause-cause : goal.refuse-requires-clause-cause
refuse-requires-clause-cause g c = λ told.
    idle_cause g.B.Blocks c.args.script.now c.args.common.now c.args.self.now c.requires.command (sym c.roots.ensures.value ∙ c.if-roots-eq0.true)

pub returns-then-has_writes : goal.returns-then-has_writes
returns-then-has_writes g c =
    let b = g.B.Blocks in
    let script = c.args.script.now in
    let common = c.args.common.now in
    let s = c.args.self.now in
    let one : drafts_of s ≡ 1 = one_draft b script common s c.requires.ready (λ none. c.if-roots-eq0.false (c.roots.ensures.value ∙ none)) in
    let draft = has_draft b script common s c.requires.ready one in
    own_call b IsAtRest IsMerged script common c.decide.new.common s c.decide.new.self c.decide.result
    (λ told. begins_merged b script common s c.requires.command one (writes_here s true draft.picked c.has_writes.result c.if-has_writes.true c.has_writes.ensures.tells))
    c.decide.ensures
