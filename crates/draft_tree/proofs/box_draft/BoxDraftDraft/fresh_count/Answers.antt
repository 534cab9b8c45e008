use Rattle.std.proofs.Common.{sym, ◌∙◌, arith}
use Rattle.draft_model.proofs.Telling.{tells_fresh}
use Rattle.draft_model.specs.Entries.{shown, fresh_paths}
use Rattle.draft_model.proofs.Entries.{all_fresh, few_paths, fresh_length}
use Rattle.draft_tree.proofs.box_draft.BoxDraftDraft.fresh_count.Goals as goal

pub returns-clause-tells : goal.returns-clause-tells
returns-clause-tells c = tells_fresh (shown c.args.self.now.pages) (fresh_paths c.args.self.now.pages) (all_fresh c.args.self.now.pages c.args.self.now.order)

pub overflow_cast-result : goal.overflow_cast-result
overflow_cast-result c =
    let d = c.args.self.now in
    omega (arith, c.fresh_count.ensures, fresh_length d.pages, few_paths d.pages, d.room, d.most, d.few)

pub returns-clause-count : goal.returns-clause-count
returns-clause-count c = c.fresh_count.ensures ∙ sym (fresh_length c.args.self.now.pages)
