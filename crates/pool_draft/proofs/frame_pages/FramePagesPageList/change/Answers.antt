use Rattle.std.proofs.Common.{◌∷◌, map, ap, subst, sym, ◌∙◌, option_map}
use Rattle.std.specs.Map.{keys_of}
use Rattle.draft_model.specs.Entries.{shown}
use Rattle.draft_tree.specs.Marking.{after_change}
use Rattle.draft_tree.specs.Pages.{changed}
use Rattle.draft_tree.proofs.PageFacts.{changed_none}
use Rattle.pool_draft.specs.Held.{Held, picked_tree, beside}
use Rattle.pool_draft.specs.Rows.{key_of, copied_in}
use Rattle.pool_draft.specs.Seeking.{IsFoundAt}
use Rattle.pool_draft.proofs.Looks.{look_found, look_gap, frame_within}
use Rattle.pool_draft.proofs.Written.{held_written, shown_written, keys_written, beside_written}
use Rattle.pool_draft.proofs.frame_pages.FramePagesPageList.change.Goals as goal

pub change_row-requires-clause-frame : goal.change_row-requires-clause-frame
change_row-requires-clause-frame c r at = frame_within _ c.self.invariant c.in-Ok.k r at

pub change_row-requires-clause-fits : goal.change_row-requires-clause-fits
change_row-requires-clause-fits c r at =
    let h : Held = record { pages = c.self.inside.pool; rows = c.self.inside.lease.rows.items; run = c.self.inside.lease.run; root = c.self.inside.root } in
    let F : Held → Type 0 = λ x. IsFoundAt (map key_of x.rows) (x.root ∷ c.args.at.now) c.in-Ok.k in
    let found : IsFoundAt (map key_of h.rows) (h.root ∷ c.args.at.now) c.in-Ok.k = subst F (sym c.self.view_is) c.in-Ok.ensures.found.1 in
    c.requires (copied_in c.self.inside.pool r)
    (ap (λ (x : Held). shown (picked_tree x) c.args.at.now) (sym c.self.view_is)
    ∙ look_found h c.in-Ok.k c.args.at.now (copied_in c.self.inside.pool r) c.self.invariant found (ap (option_map (copied_in c.self.inside.pool)) at))

pub invariant_of-self : goal.invariant_of-self
invariant_of-self c =
    let h : Held = record { pages = c.self.inside.pool; rows = c.self.inside.lease.rows.items; run = c.self.inside.lease.run; root = c.self.inside.root } in
    held_written h c.in-Ok.k (after_change c.args.change.now) c.change_row.new.pool c.change_row.new.rows.items c.self.invariant c.change_row.ensures.written

pub returns-in-Ok-clause-view : goal.returns-in-Ok-clause-view
returns-in-Ok-clause-view c p =
    let h : Held = record { pages = c.self.inside.pool; rows = c.self.inside.lease.rows.items; run = c.self.inside.lease.run; root = c.self.inside.root } in
    let F : Held → Type 0 = λ x. IsFoundAt (map key_of x.rows) (x.root ∷ c.args.at.now) c.in-Ok.k in
    let found : IsFoundAt (map key_of h.rows) (h.root ∷ c.args.at.now) c.in-Ok.k = subst F (sym c.self.view_is) c.in-Ok.ensures.found.1 in
    shown_written h c.in-Ok.k (after_change c.args.change.now) c.change_row.new.pool c.change_row.new.rows.items c.args.at.now c.self.invariant found c.change_row.ensures.written p
    ∙ ap (λ (x : Held). changed (shown (picked_tree x)) c.args.at.now (after_change c.args.change.now) p) c.self.view_is

pub returns-in-Ok-clause-keys : goal.returns-in-Ok-clause-keys
returns-in-Ok-clause-keys c =
    let h : Held = record { pages = c.self.inside.pool; rows = c.self.inside.lease.rows.items; run = c.self.inside.lease.run; root = c.self.inside.root } in
    keys_written h c.in-Ok.k (after_change c.args.change.now) c.change_row.new.pool c.change_row.new.rows.items c.change_row.ensures.written
    ∙ ap (λ (x : Held). keys_of (picked_tree x)) c.self.view_is

pub returns-in-Ok-clause-others : goal.returns-in-Ok-clause-others
returns-in-Ok-clause-others c =
    let h : Held = record { pages = c.self.inside.pool; rows = c.self.inside.lease.rows.items; run = c.self.inside.lease.run; root = c.self.inside.root } in
    let F : Held → Type 0 = λ x. IsFoundAt (map key_of x.rows) (x.root ∷ c.args.at.now) c.in-Ok.k in
    let found : IsFoundAt (map key_of h.rows) (h.root ∷ c.args.at.now) c.in-Ok.k = subst F (sym c.self.view_is) c.in-Ok.ensures.found.1 in
    beside_written h c.in-Ok.k (after_change c.args.change.now) c.change_row.new.pool c.change_row.new.rows.items c.args.at.now found c.change_row.ensures.written
    ∙ ap beside c.self.view_is

pub returns-in_default-clause-view : goal.returns-in_default-clause-view
returns-in_default-clause-view c p =
    changed_none (shown (picked_tree c.args.self.now)) c.args.at.now p (after_change c.args.change.now)
    (look_gap c.args.self.now c.in_default.field-0 c.args.at.now c.find.ensures.held c.in_default.ensures.gap.1)
