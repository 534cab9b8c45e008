use Rattle.std.proofs.Common.{◌≡◌, ◌∷◌, List, ℕ, map, true, sym, subst, rules}
use Rattle.draft_model.specs.Entries.{is_touched}
use Rattle.pool_draft.specs.Held.{Held, picked_tree}
use Rattle.pool_draft.specs.Rows.{key_of}
use Rattle.pool_draft.specs.Seeking.{AreBefore, IsFromAt}
use Rattle.pool_draft.proofs.RowTouch.{begins_row, fresh_row}
use Rattle.pool_draft.proofs.frame_pages.FramePages.is_fresh.Goals as goal

pub touches_from-requires-clause-before : goal.touches_from-requires-clause-before
touches_from-requires-clause-before c =
    let h : Held = record { pages = c.self.inside.pool; rows = c.self.inside.lease.rows.items; run = c.self.inside.lease.run; root = c.self.inside.root } in
    let j = c.args.self.now in
    let own : c.index-row.result.now.key.root ≡ c.self.inside.root = search rules in
    let F : List ℕ → Type 0 = λ p. AreBefore (j.root ∷ p) (map key_of j.rows) c.args.k in
    subst F (sym c.path.ensures) (begins_row h j c.args.k c.index-row.result.now c.self.view_is c.self.invariant c.requires c.index-row.ensures own).0

pub touches_from-requires-clause-from : goal.touches_from-requires-clause-from
touches_from-requires-clause-from c =
    let h : Held = record { pages = c.self.inside.pool; rows = c.self.inside.lease.rows.items; run = c.self.inside.lease.run; root = c.self.inside.root } in
    let j = c.args.self.now in
    let own : c.index-row.result.now.key.root ≡ c.self.inside.root = search rules in
    let F : List ℕ → Type 0 = λ p. IsFromAt (j.root ∷ p) (map key_of j.rows) c.args.k in
    subst F (sym c.path.ensures) (begins_row h j c.args.k c.index-row.result.now c.self.view_is c.self.invariant c.requires c.index-row.ensures own).1

pub returns : goal.returns
returns c =
    let h : Held = record { pages = c.self.inside.pool; rows = c.self.inside.lease.rows.items; run = c.self.inside.lease.run; root = c.self.inside.root } in
    let j = c.args.self.now in
    let own : c.index-row.result.now.key.root ≡ c.self.inside.root = search rules in
    let live : c.index-row.result.now.marks.live ≡ true = search rules in
    let F : List ℕ → Type 0 = λ p. c.touches_from.result ≡ is_touched (picked_tree j) p in
    fresh_row h j c.args.k c.index-row.result.now c.touches_from.result c.self.view_is c.requires c.index-row.ensures own live (subst F c.path.ensures c.touches_from.ensures)
