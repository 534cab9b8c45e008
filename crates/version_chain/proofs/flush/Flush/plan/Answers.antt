use Rattle.version_chain.proofs.Writing.{apart, starts}
use Rattle.version_chain.proofs.flush.Flush.plan.Goals as goal

pub returns-clause-apart : goal.returns-clause-apart
returns-clause-apart g c = apart c.args.map.now c.args.client c.args.from c.places_of.result.items c.places_of.ensures.blocks

pub returns-clause-top : goal.returns-clause-top
returns-clause-top g c =
    starts (g.D.Draft.view c.args.draft.now) (g.D.Draft.fresh_of c.args.draft.now) c.places_of.result.items (g.met.D.Draft.top c.args.draft.now c.requires.ready) (g.met.D.Draft.are_fresh c.args.draft.now c.requires.ready)
    c.places_of.ensures.paths
