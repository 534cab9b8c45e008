use Rattle.std.proofs.Common.{◌≡◌, Some, length, refl}
use Rattle.std.specs.Prelude.{slice_get}
use Rattle.std.proofs.lemmas.Option.{slice_get_read}
use Rattle.pool_draft.proofs.Written.{written_row}
use Rattle.pool_draft.proofs.row_writes.write_row.Goals as goal

pub returns-clause-written : goal.returns-clause-written
returns-clause-written c =
    let rows = c.args.rows.now.items in
    let row = c.index_mut-row.result.now in
    let at : slice_get rows c.args.k ≡ Some row = slice_get_read rows (length rows) c.args.k row refl c.requires.row c.index_mut-row.ensures.value in
    written_row c.args.pool.now rows c.args.k (λ _. c.args.copied.now) row _ c.copied.inside.page at c.requires.apart refl refl (c.requires.frame row at) c.copied.view_is
