use Rattle.std.proofs.Common.{◌≡◌, Some, length, refl, ap, sym, ◌∙◌}
use Rattle.std.specs.Prelude.{slice_get}
use Rattle.std.proofs.lemmas.Option.{slice_get_read, get_or_from_slice_get}
use Rattle.page_codec.specs.Blank.{empty_page}
use Rattle.draft_tree.specs.Marking.{copied_with, after_change}
use Rattle.pool_draft.proofs.Written.{written_row}
use Rattle.pool_draft.proofs.row_writes.change_row.Goals as goal

pub returns-clause-written : goal.returns-clause-written
returns-clause-written c =
    let rows = c.args.rows.now.items in
    let row = c.index_mut-row.result.now in
    let at : slice_get rows c.args.k ≡ Some row = slice_get_read rows (length rows) c.args.k row refl c.requires.row c.index_mut-row.ensures.value in
    written_row c.args.pool.now rows c.args.k (after_change c.args.change.now) row _ c.apply.new.page at c.requires.apart refl refl (c.requires.frame row at)
    (c.apply.ensures ∙ ap (λ page. after_change c.args.change.now (copied_with row.marks page)) (sym (get_or_from_slice_get c.args.pool.now row.frame c.page_mut.result.now (empty_page 0) c.page_mut.ensures.value)))
