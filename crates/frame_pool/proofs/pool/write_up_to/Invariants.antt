use Rattle.std.proofs.Common.{◌≡◌, ◌+◌, ◌-◌, ◌≤◌, ◌<◌, ◌++◌, replicate, vec_len, vec_capacity}
use Rattle.page_codec.specs.Blank.{empty_page}
use Rattle.frame_pool.proofs.pool.write_up_to.Given as goal

abbrev pub invariant-loop-pages : goal.invariant-loop-pages
invariant-loop-pages l =
    (l.pages.items ++ replicate l.unwritten (empty_page 0) ≡ l.fn.pages.items ++ replicate l.fn.unwritten (empty_page 0))
    × (vec_len l.pages + l.unwritten ≤ vec_capacity l.pages)
    × (l.last < vec_len l.pages + l.unwritten)

abbrev pub decreases-loop-pages : goal.decreases-loop-pages
decreases-loop-pages l = l.last + 1 - vec_len l.pages
