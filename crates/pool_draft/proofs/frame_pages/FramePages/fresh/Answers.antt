use Rattle.std.proofs.Common.{◌≡◌, ◌+◌, ◌≤◌, ◌&&◌, ℕ, nat_eq, Some, length, sym, ap, subst, ◌∙◌, arith}
use Rattle.std.specs.Prelude.{slice_get}
use Rattle.draft_model.specs.Entries.{is_fresh, fresh_paths}
use Rattle.pool_draft.specs.Held.{picked_tree}
use Rattle.pool_draft.specs.Rows.{copied_in}
use Rattle.pool_draft.proofs.Listing.{tree_from, none_left, IsCounted, counted_start, counted_same, counted_more, counted_here, counted_past}
use Rattle.pool_draft.proofs.RowTouch.{row_at, said}
use Rattle.pool_draft.proofs.frame_pages.FramePages.fresh.Goals as goal
use Rattle.pool_draft.proofs.frame_pages.FramePages.fresh.Goals.{then-is_fresh+else-before-k, else-is_fresh}

pub loop-i-init : goal.loop-i-init
loop-i-init c = (counted_start (picked_tree c.args.self.now), omega arith)

pub returns-then-before-k : goal.returns-then-before-k
returns-then-before-k c =
    let j = c.args.self.now in
    let at = row_at j c.loop-i.i (omega (arith, c.row_count-i-end.ensures.value)) in
    let told = said (λ x. c.is_fresh.result ≡ (nat_eq x.key.root j.root && is_fresh (picked_tree j) (x.key.path, copied_in j.pages x))) j c.loop-i.i at c.is_fresh.ensures in
    let path = said (λ x. c.path_at.result ≡ x.key.path) j c.loop-i.i at c.path_at.ensures in
    ap (λ p. Some p) path
    ∙ sym (counted_here j.root j.pages j.rows c.loop-i.i at.row (picked_tree j) c.loop-i.before at.at (sym told ∙ c.if-is_fresh.true) c.loop-i.invariant.0)
    ∙ ap (slice_get (fresh_paths (picked_tree j))) c.if-before-k.true

pub overflow_add-before : goal.overflow_add-before
overflow_add-before c = omega (arith, c.loop-i.invariant.1, c.if-before-k.false, c.ranges.k.fits)

pub loop-i-preserved : goal.loop-i-preserved
loop-i-preserved c =
    let j = c.args.self.now in
    let at = row_at j c.loop-i.i (omega (arith, c.row_count-i-end.ensures.value)) in
    let told = said (λ x. c.is_fresh.result ≡ (nat_eq x.key.root j.root && is_fresh (picked_tree j) (x.key.path, copied_in j.pages x))) j c.loop-i.i at c.is_fresh.ensures in
    let F : ℕ → Type 0 = λ n. IsCounted (picked_tree j) (tree_from j.root j.pages j.rows (c.loop-i.i + 1)) n × (n ≤ c.args.k) in
    elim c.if-is_fresh.branch [
      | then-is_fresh+else-before-k w ↦
          subst F (sym w.before-is) (
            (counted_more j.root j.pages j.rows c.loop-i.i at.row (picked_tree j) c.loop-i.before at.at (sym told ∙ w.if-is_fresh.true) c.loop-i.invariant.0).1,
            omega (arith, c.loop-i.invariant.1, w.if-before-k.false),
          )
      | else-is_fresh w ↦
          subst F (sym w.before-is)
          (counted_same j.root j.pages j.rows c.loop-i.i at.row (picked_tree j) c.loop-i.before at.at (sym told ∙ w.if-is_fresh.false) c.loop-i.invariant.0, c.loop-i.invariant.1)
    ]

pub returns : goal.returns
returns c =
    let j = c.args.self.now in
    let past : length j.rows ≤ c.loop-i.i = omega (arith, c.row_count-i-end.ensures.value) in
    sym (counted_past (picked_tree j) (tree_from j.root j.pages j.rows c.loop-i.i) c.loop-i.before c.args.k (none_left j.root j.pages j.rows c.loop-i.i past) c.loop-i.invariant.0 c.loop-i.invariant.1)
