use Rattle.std.proofs.Common.{sym, ap, subst, ◌∙◌}
use Rattle.pair_store.specs.contracts.on_halves.PairBlocks.TheImpl.{ghosts}
use Rattle.recovery.specs.Halves.{OpensHalves}
use Rattle.recovery.proofs.opening.open.Goals as goal

pub open_pair-requires : goal.open_pair-requires
open_pair-requires g c = c.now-since.ensures ∙ ap g.V.Drives.moment (sym c.over.ensures.drives)

pub returns : goal.returns
returns g c =
    subst (λ (d : g.row.V.Denot). OpensHalves g.V.Drives (ghosts g.row.V g.V.Drives g.V.Drives-dict) d c.open_pair.result) c.over.ensures.drives c.open_pair.ensures
