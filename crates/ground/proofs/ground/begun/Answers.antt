use Rattle.ground.proofs.Newcomers.{begins_ground, has_begun}
use Rattle.ground.proofs.ground.begun.Goals as goal

pub invariant_of-result : goal.invariant_of-result
invariant_of-result g c =
    begins_ground _ c.args.opened c.in_ok-common.common c.args.sessions.items c.requires.clients c.in_ok-common.ensures.over c.of-seen.result.value c.args.room c.of-seen.ensures
    c.requires.sayable c.requires.some c.requires.most c.in_ok-common.ensures.safe c.in_ok-common.ensures.held c.requires.room c.requires.few c.in_ok-common.ensures.room

pub returns-clause-begun : goal.returns-clause-begun
returns-clause-begun g c = has_begun g.B.Blocks c.args.opened c.in_ok-common.common c.args.sessions.items c.requires.clients c.in_ok-common.ensures.over c.of-seen.result.value c.of-seen.ensures
