use Rattle.pair_store.specs.Blocks.{SameContents}
use Rattle.pair_store.specs.Content.{ContentsLeft}
use Rattle.pair_store.proofs.PageWriting.{lifted}
use Rattle.pair_store.proofs.MendLaws.{rest_kept}
use Rattle.pair_store.proofs.on_halves.Pair.look.Goals as goal

pub returns-clause-images : goal.returns-clause-images
returns-clause-images g c = lifted _ g.V.Drives.moment (ContentsLeft g.V.Drives.may_leave) _ _ SameContents c.read_content.ensures.images

pub returns-clause-rest : goal.returns-clause-rest
returns-clause-rest g c = λ tells rest.
    rest_kept g.V.Drives.seen g.V.Drives.moment g.V.Drives.may_leave c.args.self.now.drives c.read_content.new.drives rest (c.read_content.ensures.seen tells) c.read_content.ensures.left
