use Rattle.draft_model.proofs.Telling.{tells_writes}
use Rattle.draft_model.specs.Entries.{shown}
use Rattle.pool_draft.specs.Held.{picked_tree}
use Rattle.pool_draft.proofs.pool_set.PoolSetDraft.has_writes.Goals as goal

pub returns-clause-tells : goal.returns-clause-tells
returns-clause-tells c = tells_writes (shown (picked_tree c.args.self.now.pages)) c.has_writes.result c.has_writes.ensures
