use Rattle.std.proofs.Common.{ap, ◌∙◌, slice_set, arith}
use Rattle.std.proofs.Math.ListN.{length-set}
use Rattle.std.proofs.lemmas.List.Edits.{map_over_more}
use Rattle.pool_draft.specs.declared.row.Row.{Row}
use Rattle.pool_draft.specs.Keys.{Key}
use Rattle.pool_draft.specs.Writes.{cut_row}
use Rattle.pool_draft.proofs.row_writes.cut_rows.Goals as goal

pub loop-k-preserved : goal.loop-k-preserved
loop-k-preserved c = (
  ap (λ (r : Row). slice_set c.loop-k.rows.items c.loop-k.k r) (c.cut.ensures ∙ ap (λ (b : Key). cut_row b.root b.path c.index_mut.result.now) c.of-branch.ensures)
      ∙ map_over_more (cut_row c.args.root c.args.at.now) _ c.loop-k.rows.items c.loop-k.k c.index_mut.result.now (omega (arith, c.loop-k.invariant.1, c.loop-k-test.true, c.args.rows.now.ok.0)) c.loop-k.invariant.0 c.index_mut.ensures.value,
  length-set c.loop-k.rows.items c.loop-k.k c.cut.new.self ∙ c.loop-k.invariant.1,
  c.loop-k.invariant.2,
)
