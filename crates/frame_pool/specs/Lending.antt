-- A page of a pool that is lent out to be changed.
use Rattle.std.specs.Prelude.{ℕ, List, slice_set}
use Rattle.std.specs.Borrow.{Lends, MutBor, Fml}
use Rattle.page_codec.specs.Values.{PageValue}
use Rattle.page_codec.specs.contracts.page.Page.{the_row as page_row}
use Rattle.frame_pool.specs.contracts.pool.Pool.{the_row}

-- the pool ends with the last page behind the reference in this frame, and all others as they were
abbrev pub LendsPage : MutBor (List PageValue) → ℕ → MutBor PageValue → Fml
LendsPage pool frame page = Lends the_row page_row pool page (slice_set pool.now frame)
