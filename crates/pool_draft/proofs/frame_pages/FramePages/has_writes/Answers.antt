use Rattle.std.proofs.Common.{◌≡◌, ◌∷◌, ap, sym, ◌∙◌}
use Rattle.std.specs.List.{list_any}
use Rattle.draft_model.specs.Entries.{Entry, is_written, is_touched}
use Rattle.draft_model.proofs.Entries.{any_wrote, wrote_any}
use Rattle.pool_draft.specs.Held.{picked_tree}
use Rattle.pool_draft.specs.Rows.{forest}
use Rattle.pool_draft.proofs.Below.{order_below}
use Rattle.pool_draft.proofs.Looks.{forest_order}
use Rattle.pool_draft.proofs.RowTouch.{begins_own, begins_gap}
use Rattle.pool_draft.proofs.frame_pages.FramePages.has_writes.Goals as goal

pub touches_from-requires-clause-before : goal.touches_from-requires-clause-before
touches_from-requires-clause-before c = (begins_own c.args.self.now c.in-Ok.k (c.args.self.now.root ∷ c.root-root.result) c.find.ensures.held c.in-Ok.ensures.found.1).0

pub touches_from-requires-clause-from : goal.touches_from-requires-clause-from
touches_from-requires-clause-from c = (begins_own c.args.self.now c.in-Ok.k (c.args.self.now.root ∷ c.root-root.result) c.find.ensures.held c.in-Ok.ensures.found.1).1

pub touches_from-requires-in-Err-clause-from : goal.touches_from-requires-in-Err-clause-from
touches_from-requires-in-Err-clause-from c = (begins_gap c.args.self.now c.in-Err.k (c.args.self.now.root ∷ c.root-root.result) c.in-Err.ensures.gap.1).1

pub returns-in-Ok : goal.returns-in-Ok
returns-in-Ok c =
    let j = c.args.self.now in
    let es = picked_tree j in
    let order = order_below j.root (forest j.pages j.rows) (forest_order j.pages j.rows c.find.ensures.held.ordered) in
    let is : c.touches_from.result ≡ list_any (λ (e : Entry). is_written e.1) es = c.touches_from.ensures ∙ ap (is_touched es) c.root-root.ensures in
    (λ h. any_wrote es order (sym is ∙ h), λ wrote. is ∙ wrote_any es wrote)

pub returns-in-Err : goal.returns-in-Err
returns-in-Err c =
    let j = c.args.self.now in
    let es = picked_tree j in
    let order = order_below j.root (forest j.pages j.rows) (forest_order j.pages j.rows c.find.ensures.held.ordered) in
    let is : c.touches_from-in-Err.result ≡ list_any (λ (e : Entry). is_written e.1) es = c.touches_from-in-Err.ensures ∙ ap (is_touched es) c.root-root.ensures in
    (λ h. any_wrote es order (sym is ∙ h), λ wrote. is ∙ wrote_any es wrote)
