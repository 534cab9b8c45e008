use Rattle.draft_model.proofs.Telling.{tells_fresh}
use Rattle.draft_model.specs.Entries.{shown, fresh_paths}
use Rattle.pool_draft.specs.Held.{picked_tree}
use Rattle.pool_draft.specs.Roots.{fresh_ready}
use Rattle.std.proofs.Common.{length}
use Rattle.pool_draft.proofs.pool_set.PoolSetDraft.fresh_count.Goals as goal

pub returns-clause-tells : goal.returns-clause-tells
returns-clause-tells c =
    let s = c.args.self.now in
    tells_fresh (shown (picked_tree s.pages)) (fresh_paths (picked_tree s.pages)) (fresh_ready s.pages (length s.bases.items) s.count s.fed s.drafts c.requires)
