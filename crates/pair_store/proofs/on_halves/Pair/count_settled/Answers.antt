use Rattle.pair_store.specs.Blocks.{SameContents}
use Rattle.pair_store.specs.Content.{ContentsLeft}
use Rattle.pair_store.proofs.PageWriting.{lifted}
use Rattle.pair_store.proofs.SettledLaws.{kept_contents}
use Rattle.pair_store.proofs.on_halves.Pair.count_settled.Goals as goal

pub returns-in-Ok-clause-images : goal.returns-in-Ok-clause-images
returns-in-Ok-clause-images g c =
    lifted _ g.V.Drives.moment (ContentsLeft g.V.Drives.may_leave) _ _ SameContents
    (kept_contents g.V.Drives.moment g.V.Drives.may_leave c.args.self.now.drives c.count_settled.new.drives c.count_settled.ensures.changes)

pub returns-in-Err-clause-images : goal.returns-in-Err-clause-images
returns-in-Err-clause-images g c =
    lifted _ g.V.Drives.moment (ContentsLeft g.V.Drives.may_leave) _ _ SameContents
    (kept_contents g.V.Drives.moment g.V.Drives.may_leave c.args.self.now.drives c.count_settled.new.drives c.count_settled.ensures.changes)
