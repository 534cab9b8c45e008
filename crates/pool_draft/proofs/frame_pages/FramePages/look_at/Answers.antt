use Rattle.std.proofs.Common.{◌≡◌, Some, length, refl, ap, subst, ◌∙◌, option_map, arith}
use Rattle.std.specs.Prelude.{slice_get}
use Rattle.std.proofs.lemmas.Option.{slice_get_read, get_or_from_slice_get}
use Rattle.page_codec.specs.Blank.{empty_page}
use Rattle.draft_tree.specs.Marking.{copied_with}
use Rattle.pool_draft.specs.Held.{Held}
use Rattle.pool_draft.specs.Rows.{copied_in}
use Rattle.pool_draft.proofs.Looks.{frame_within}
use Rattle.pool_draft.proofs.frame_pages.FramePages.look_at.Goals as goal

pub page-requires : goal.page-requires
page-requires c =
    let rows = c.self.inside.lease.rows.items in
    let many : length rows ≡ length c.args.self.now.rows = ap (λ (h : Held). length h.rows) c.self.view_is in
    frame_within _ c.self.invariant c.args.k c.index-row.result.now
    (slice_get_read rows (length rows) c.args.k c.index-row.result.now refl (omega (arith, many, c.requires)) c.index-row.ensures)

pub returns : goal.returns
returns c =
    let rows = c.self.inside.lease.rows.items in
    let many : length rows ≡ length c.args.self.now.rows = ap (λ (h : Held). length h.rows) c.self.view_is in
    let row = c.index-row.result.now in
    let at : slice_get rows c.args.k ≡ Some row = slice_get_read rows (length rows) c.args.k row refl (omega (arith, many, c.requires)) c.index-row.ensures in
    let F : Held → Type 0 = λ h. option_map (copied_in h.pages) (slice_get h.rows c.args.k) ≡ Some (copied_with row.marks c.page.result.now) in
    subst F c.self.view_is
    (ap (option_map (copied_in c.self.inside.pool)) at
    ∙ ap (λ page. Some (copied_with row.marks page)) (get_or_from_slice_get c.self.inside.pool row.frame c.page.result.now (empty_page 0) c.page.ensures))
