use Rattle.std.proofs.Common.{◌∙◌, arith}
use Rattle.page_codec.specs.Blank.{empty_page}
use Rattle.frame_pool.proofs.Unwritten.{one_written}
use Rattle.frame_pool.proofs.pool.write_up_to.Goals as goal

pub loop-pages-preserved : goal.loop-pages-preserved
loop-pages-preserved c =
    let at = c.loop-pages in
    let push = c.push_reserved.ensures in (
      one_written at.pages.items _ _ (empty_page 0) at.unwritten (omega (arith, at.invariant.2, c.loop-pages-test.true, c.len.ensures)) c.empty.ensures push.items ∙ at.invariant.0,
      omega (arith, push.len, push.capacity, at.invariant.1, at.invariant.2, c.loop-pages-test.true, c.len.ensures),
      omega (arith, push.len, at.invariant.2, c.loop-pages-test.true, c.len.ensures),
    )
