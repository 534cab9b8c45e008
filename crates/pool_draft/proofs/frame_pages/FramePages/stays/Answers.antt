use Rattle.std.proofs.Common.{◌≡◌, ◌≢◌, [], rules}
use Rattle.pool_draft.specs.Held.{Held}
use Rattle.pool_draft.proofs.Keeping.{stays_accessed}
use Rattle.pool_draft.proofs.frame_pages.FramePages.stays.Goals as goal

pub returns : goal.returns
returns c =
    let h : Held = record { pages = c.self.inside.pool; rows = c.self.inside.lease.rows.items; run = c.self.inside.lease.run; root = c.self.inside.root } in
    let own : c.index-row.result.now.key.root ≡ c.self.inside.root = search rules in
    let deep : c.index-row.result.now.key.path ≢ [] = λ e. absurd (cc (c.is_top.ensures.1 e, c.if-is_top.false)) in
    stays_accessed h c.args.self.now c.args.k c.index-row.result.now _ c.is_accessed.result c.self.view_is c.requires c.index-row.ensures own deep c.look_at-look.ensures c.is_accessed.ensures
