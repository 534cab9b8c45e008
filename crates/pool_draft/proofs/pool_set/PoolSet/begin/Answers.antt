use Rattle.std.proofs.Common.{◌∙◌}
use Rattle.pool_draft.specs.Sets.{IsAdded}
use Rattle.pool_draft.proofs.Begun.{one_added, begun_alone}
use Rattle.pool_draft.proofs.pool_set.PoolSet.begin.Goals as goal

pub returns-clause-begun : goal.returns-clause-begun
returns-clause-begun c =
    let s = c.clear.new.self in
    let t = c.add-added.new.self in
    let version = c.args.version.now in
    let added : IsAdded s t c.args.at version = one_added c.add-added.result s t c.args.at version c.add-added.ensures.full.0 c.add-added.ensures.added c.clear.ensures.roots in
    begun_alone s t c.pick.new.self c.args.at version c.clear.ensures.roots c.clear.ensures.counts.0 c.clear.ensures.counts.1 added c.pick.ensures.picked c.pick.ensures.same

pub returns-clause-frames : goal.returns-clause-frames
returns-clause-frames c =
    let s = c.clear.new.self in
    let t = c.add-added.new.self in
    let version = c.args.version.now in
    let added : IsAdded s t c.args.at version = one_added c.add-added.result s t c.args.at version c.add-added.ensures.full.0 c.add-added.ensures.added c.clear.ensures.roots in
    c.pick.ensures.same.frames ∙ added.frames ∙ c.clear.ensures.frames
