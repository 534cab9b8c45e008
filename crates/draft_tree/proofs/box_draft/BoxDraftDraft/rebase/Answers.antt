use Rattle.draft_model.specs.Entries.{shown}
use Rattle.draft_tree.specs.Drafts.{accessed_pages}
use Rattle.draft_tree.proofs.Kept.{levels_same}
use Rattle.draft_tree.proofs.Letting.{levels_accessed}
use Rattle.draft_tree.proofs.box_draft.BoxDraftDraft.rebase.Goals as goal

pub invariant_of-self-clause-levels : goal.invariant_of-self-clause-levels
invariant_of-self-clause-levels c =
    let d = shown c.args.self.now.pages in
    levels_same (accessed_pages d) (shown c.keep_accessed.new.self) c.keep_accessed.ensures.view (levels_accessed d c.args.self.now.levels)
