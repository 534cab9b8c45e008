use Rattle.std.proofs.Common.{List, refl, sym, ap, ◌∙◌}
use Rattle.std.specs.Map.{keys_of}
use Rattle.draft_model.specs.Entries.{shown}
use Rattle.draft_tree.specs.Pages.{cut_below}
use Rattle.pool_draft.specs.declared.row.Row.{Row}
use Rattle.pool_draft.specs.Held.{Held, picked_tree, beside}
use Rattle.pool_draft.proofs.Looks.{held_as}
use Rattle.pool_draft.proofs.Cutting.{held_cut, shown_cut, beside_cut, tree_keys_cut}
use Rattle.pool_draft.proofs.Written.{with_rows}
use Rattle.pool_draft.proofs.frame_pages.FramePagesPageList.cut_below.Goals as goal

pub invariant_of-self : goal.invariant_of-self
invariant_of-self c =
    let h : Held = record { pages = c.self.inside.pool; rows = c.self.inside.lease.rows.items; run = c.self.inside.lease.run; root = c.self.inside.root } in
    held_as _ _ refl (sym c.cut_rows.ensures.rows) refl refl (held_cut h c.args.at.now c.self.invariant)

pub returns-clause-view : goal.returns-clause-view
returns-clause-view c p =
    let h : Held = record { pages = c.self.inside.pool; rows = c.self.inside.lease.rows.items; run = c.self.inside.lease.run; root = c.self.inside.root } in
    ap (λ (rows : List Row). shown (picked_tree (with_rows h h.pages rows)) p) c.cut_rows.ensures.rows
    ∙ shown_cut h c.args.at.now p
    ∙ ap (λ (x : Held). cut_below (shown (picked_tree x)) c.args.at.now p) c.self.view_is

pub returns-clause-keys : goal.returns-clause-keys
returns-clause-keys c =
    let h : Held = record { pages = c.self.inside.pool; rows = c.self.inside.lease.rows.items; run = c.self.inside.lease.run; root = c.self.inside.root } in
    ap (λ (rows : List Row). keys_of (picked_tree (with_rows h h.pages rows))) c.cut_rows.ensures.rows
    ∙ tree_keys_cut h c.args.at.now
    ∙ ap (λ (x : Held). keys_of (picked_tree x)) c.self.view_is

pub returns-clause-others : goal.returns-clause-others
returns-clause-others c =
    let h : Held = record { pages = c.self.inside.pool; rows = c.self.inside.lease.rows.items; run = c.self.inside.lease.run; root = c.self.inside.root } in
    ap (λ (rows : List Row). beside (with_rows h h.pages rows)) c.cut_rows.ensures.rows
    ∙ beside_cut h c.args.at.now
    ∙ ap beside c.self.view_is
