use Rattle.pair_store.proofs.MendLaws.{rest_kept}
use Rattle.pair_store.proofs.on_halves.PairBlocks.read.Goals as goal

pub returns-clause-rest : goal.returns-clause-rest
returns-clause-rest g c = λ tells rest.
    rest_kept g.V.Drives.seen g.V.Drives.moment g.V.Drives.may_leave c.args.self.now.drives c.read_content.new.drives rest (c.read_content.ensures.seen tells) c.read_content.ensures.left
