use Rattle.std.proofs.Common.{sym, subst}
use Rattle.draft_model.specs.Views.{View}
use Rattle.joint_walk.specs.Walks.{WalkValue}
use Rattle.joint_walk.specs.Calls.{settled_if, FedBy, Feeds}
use Rattle.joint_walk.proofs.Calling.{feeds_of}
use Rattle.joint_walk.proofs.walk.Walk.feed.Goals as goal

pub returns-clause-feeds : goal.returns-clause-feeds
returns-clause-feeds g c =
    let w = c.args.self.now in
    let d = g.D.Draft.view c.args.draft.now in
    let after = c.take.new.self in
    let F : WalkValue → Type 0 = λ v. FedBy (g.D.Draft.view c.settle_any-by.new.draft) c.args.page.now v after in
    let G : View → Type 0 = λ e. FedBy e c.args.page.now (settled_if w w.pair) after in
    let H : View → Type 0 = λ e. Feeds w d c.args.page.now after e in
    subst H (sym c.settle_any-by.ensures.draft)
    (feeds_of w d c.args.page.now after (subst G c.settle_any-by.ensures.draft (subst F c.settle_any-by.ensures.walk c.take.ensures)))
