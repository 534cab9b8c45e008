use Rattle.std.proofs.Common.{sym, subst}
use Rattle.ref_flags.specs.Flagged.{Flagged}
use Rattle.draft_model.specs.Told.{TellsFlags}
use Rattle.draft_model.proofs.Telling.{tells_flags}
use Rattle.draft_model.specs.Entries.{shown}
use Rattle.pool_draft.specs.Held.{picked_tree}
use Rattle.pool_draft.proofs.pool_set.PoolSetDraft.flags.Goals as goal

pub returns-clause-tells : goal.returns-clause-tells
returns-clause-tells c =
    let d = shown (picked_tree c.args.self.now.pages) in
    let F : Flagged → Type 0 = λ f. TellsFlags d c.args.at.now f in
    subst F (sym c.flags.ensures) (tells_flags d c.args.at.now)
