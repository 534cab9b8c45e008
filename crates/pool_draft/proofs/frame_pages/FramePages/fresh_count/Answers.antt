use Rattle.std.proofs.Common.{◌≡◌, ◌+◌, ◌≤◌, ◌&&◌, ℕ, nat_eq, length, sym, subst, ◌∙◌, arith}
use Rattle.draft_model.specs.Entries.{is_fresh}
use Rattle.pool_draft.specs.Held.{picked_tree}
use Rattle.pool_draft.specs.Rows.{copied_in}
use Rattle.pool_draft.proofs.Listing.{tree_from, none_left, IsCounted, counted_start, counted_all, counted_same, counted_more}
use Rattle.pool_draft.proofs.RowTouch.{row_at, said}
use Rattle.pool_draft.proofs.frame_pages.FramePages.fresh_count.Goals as goal
use Rattle.pool_draft.proofs.frame_pages.FramePages.fresh_count.Goals.{then-is_fresh, else-is_fresh}

pub loop-k-init : goal.loop-k-init
loop-k-init c = counted_start (picked_tree c.args.self.now)

pub overflow_add-count : goal.overflow_add-count
overflow_add-count c =
    let j = c.args.self.now in
    let at = row_at j c.loop-k.k (omega (arith, c.row_count-k-end.ensures.value)) in
    let told = said (λ x. c.is_fresh.result ≡ (nat_eq x.key.root j.root && is_fresh (picked_tree j) (x.key.path, copied_in j.pages x))) j c.loop-k.k at c.is_fresh.ensures in
    let more = counted_more j.root j.pages j.rows c.loop-k.k at.row (picked_tree j) c.loop-k.count at.at (sym told ∙ c.if-is_fresh.true) c.loop-k.invariant in
    omega (arith, more.0, c.requires)

pub loop-k-preserved : goal.loop-k-preserved
loop-k-preserved c =
    let j = c.args.self.now in
    let at = row_at j c.loop-k.k (omega (arith, c.row_count-k-end.ensures.value)) in
    let told = said (λ x. c.is_fresh.result ≡ (nat_eq x.key.root j.root && is_fresh (picked_tree j) (x.key.path, copied_in j.pages x))) j c.loop-k.k at c.is_fresh.ensures in
    let F : ℕ → Type 0 = λ n. IsCounted (picked_tree j) (tree_from j.root j.pages j.rows (c.loop-k.k + 1)) n in
    elim c.if-is_fresh.branch [
      | then-is_fresh w ↦ subst F (sym w.count-is) (counted_more j.root j.pages j.rows c.loop-k.k at.row (picked_tree j) c.loop-k.count at.at (sym told ∙ w.if-is_fresh.true) c.loop-k.invariant).1
      | else-is_fresh w ↦ subst F (sym w.count-is) (counted_same j.root j.pages j.rows c.loop-k.k at.row (picked_tree j) c.loop-k.count at.at (sym told ∙ w.if-is_fresh.false) c.loop-k.invariant)
    ]

pub returns : goal.returns
returns c =
    let j = c.args.self.now in
    let past : length j.rows ≤ c.loop-k.k = omega (arith, c.row_count-k-end.ensures.value) in
    counted_all (picked_tree j) (tree_from j.root j.pages j.rows c.loop-k.k) c.loop-k.count (none_left j.root j.pages j.rows c.loop-k.k past) c.loop-k.invariant
