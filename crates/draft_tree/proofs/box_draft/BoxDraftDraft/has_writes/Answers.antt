use Rattle.draft_model.proofs.Telling.{tells_writes}
use Rattle.draft_model.specs.Entries.{shown}
use Rattle.draft_tree.proofs.box_draft.BoxDraftDraft.has_writes.Goals as goal

pub returns-clause-tells : goal.returns-clause-tells
returns-clause-tells c = tells_writes (shown c.args.self.now.pages) c.has_writes.result c.has_writes.ensures
