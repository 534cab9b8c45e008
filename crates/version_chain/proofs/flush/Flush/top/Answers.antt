use Rattle.std.proofs.Common.{Some, ap, sym, ◌∙◌}
use Rattle.draft_model.specs.Flush.{Placed}
use Rattle.version_chain.proofs.Writing.{top_block}
use Rattle.version_chain.proofs.flush.Flush.top.Goals as goal

pub returns : goal.returns
returns c =
    top_block c.args.self.now.placed c.place-place.result c.requires c.place-place.ensures
    ∙ ap (λ (x : Placed). Some x.block) (sym c.place.view_is)
