use Rattle.std.proofs.Common.{length, ap, ◌∙◌, arith}
use Rattle.draft_model.specs.Told.{are_rising}
use Rattle.draft_model.specs.Entries.{shown}
use Rattle.draft_model.proofs.Entries.{length_keys}
use Rattle.draft_tree.specs.Drafts.{merged_at}
use Rattle.draft_tree.proofs.Kept.{top_merged, levels_merged, top_same, levels_same}
use Rattle.pool_draft.specs.Held.{picked_tree}
use Rattle.pool_draft.proofs.Roots.{drafts_after}
use Rattle.pool_draft.proofs.pool_set.PoolSetDraft.take_merged.Goals as goal

pub invariant_of-self-clause-drafts : goal.invariant_of-self-clause-drafts
invariant_of-self-clause-drafts c =
    let s = c.args.self.now in
    let j = c.change.new.self in
    let d = shown (picked_tree s.pages) in
    let q = c.args.at.now in
    let merged = c.args.merged.now in
    let ready = c.requires.ready in
    drafts_after s.pages j (length s.bases.items) s.count s.fed s.count s.fed 0 s.drafts ready c.change.ensures.others
    (ap are_rising c.change.ensures.keys ∙ s.drafts.order s.pages.root ready)
    (top_same (merged_at d q merged) (shown (picked_tree j)) c.change.ensures.view (top_merged d q merged (s.drafts.top s.pages.root ready)))
    (levels_same (merged_at d q merged) (shown (picked_tree j)) c.change.ensures.view (levels_merged d q merged (s.drafts.levels s.pages.root ready)))
    (omega (arith, length_keys (picked_tree j) (picked_tree s.pages) c.change.ensures.keys)) (omega arith)
