use Rattle.std.proofs.Common.{ap, ◌∙◌}
use Rattle.draft_model.specs.Told.{are_rising}
use Rattle.draft_tree.specs.Drafts.{merged_at}
use Rattle.draft_model.specs.Entries.{shown}
use Rattle.draft_tree.proofs.Kept.{top_merged, levels_merged, top_same, levels_same}
use Rattle.draft_tree.proofs.box_draft.BoxDraftDraft.take_merged.Goals as goal

pub invariant_of-self-clause-top : goal.invariant_of-self-clause-top
invariant_of-self-clause-top c =
    let d = shown c.args.self.now.pages in
    let q = c.args.at.now in
    let merged = c.args.merged.now in
    top_same (merged_at d q merged) (shown c.change.new.self) c.change.ensures.view (top_merged d q merged c.args.self.now.top)

pub invariant_of-self-clause-levels : goal.invariant_of-self-clause-levels
invariant_of-self-clause-levels c =
    let d = shown c.args.self.now.pages in
    let q = c.args.at.now in
    let merged = c.args.merged.now in
    levels_same (merged_at d q merged) (shown c.change.new.self) c.change.ensures.view (levels_merged d q merged c.args.self.now.levels)

pub invariant_of-self-clause-order : goal.invariant_of-self-clause-order
invariant_of-self-clause-order c = ap are_rising c.change.ensures.keys ∙ c.args.self.now.order
