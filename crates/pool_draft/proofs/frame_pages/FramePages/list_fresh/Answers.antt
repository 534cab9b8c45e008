use Rattle.std.proofs.Common.{◌≡◌, ◌+◌, ◌≤◌, ◌++◌, ◌∷◌, [], ◌&&◌, ℕ, nat_eq, List, length, refl, ap, subst, sym, ◌∙◌, lit<, arith}
use Rattle.draft_model.specs.Entries.{Entry, is_fresh}
use Rattle.draft_tree.proofs.Fresh.{IsListed, listed_start, listed_more, listed_room, listed_all}
use Rattle.pool_draft.specs.Held.{picked_tree}
use Rattle.pool_draft.specs.Rows.{copied_in}
use Rattle.pool_draft.proofs.Listing.{tree_from, skipped, is_next, none_left}
use Rattle.pool_draft.proofs.RowTouch.{row_at, said}
use Rattle.pool_draft.proofs.frame_pages.FramePages.list_fresh.Goals as goal
use Rattle.pool_draft.proofs.frame_pages.FramePages.list_fresh.Goals.{then-is_fresh, else-is_fresh}

pub loop-k-init : goal.loop-k-init
loop-k-init c = listed_start (picked_tree c.args.self.now) (picked_tree c.args.self.now) _ c.requires.empty refl

pub push-requires : goal.push-requires
push-requires c =
    let j = c.args.self.now in
    let at = row_at j c.loop-k.k (omega (arith, c.row_count-k-end.ensures.value)) in
    let told = said (λ x. c.is_fresh.result ≡ (nat_eq x.key.root j.root && is_fresh (picked_tree j) (x.key.path, copied_in j.pages x))) j c.loop-k.k at c.is_fresh.ensures in
    let next = is_next j.root j.pages j.rows c.loop-k.k at.row (picked_tree j) c.loop-k.into.items at.at (sym told ∙ c.if-is_fresh.true) c.loop-k.invariant in
    (lit< tt, omega (arith, listed_room (picked_tree j) (tree_from j.root j.pages j.rows (c.loop-k.k + 1)) (at.row.key.path, copied_in j.pages at.row) c.loop-k.into.items next.0 next.1, c.requires.room))

pub loop-k-preserved : goal.loop-k-preserved
loop-k-preserved c =
    let j = c.args.self.now in
    let at = row_at j c.loop-k.k (omega (arith, c.row_count-k-end.ensures.value)) in
    let told = said (λ x. c.is_fresh.result ≡ (nat_eq x.key.root j.root && is_fresh (picked_tree j) (x.key.path, copied_in j.pages x))) j c.loop-k.k at c.is_fresh.ensures in
    let G : List (List ℕ) → Type 0 = λ listed. IsListed (picked_tree j) (tree_from j.root j.pages j.rows (c.loop-k.k + 1)) listed in
    elim c.if-is_fresh.branch [
      | then-is_fresh w ↦
          let path = said (λ x. w.path_at.result ≡ x.key.path) j c.loop-k.k at w.path_at.ensures in
          let next = is_next j.root j.pages j.rows c.loop-k.k at.row (picked_tree j) c.loop-k.into.items at.at (sym told ∙ w.if-is_fresh.true) c.loop-k.invariant in
          subst G (sym (ap (λ v. v.items) w.into-is ∙ w.push.ensures.items ∙ ap (λ p. c.loop-k.into.items ++ p ∷ []) path))
          (listed_more (picked_tree j) (tree_from j.root j.pages j.rows (c.loop-k.k + 1)) (at.row.key.path, copied_in j.pages at.row) c.loop-k.into.items next.0 next.1)
      | else-is_fresh w ↦
          subst G (sym (ap (λ v. v.items) w.into-is))
          (skipped j.root j.pages j.rows c.loop-k.k at.row (picked_tree j) c.loop-k.into.items at.at (sym told ∙ w.if-is_fresh.false) c.loop-k.invariant)
    ]

pub returns : goal.returns
returns c =
    let j = c.args.self.now in
    let past : length j.rows ≤ c.loop-k.k = omega (arith, c.row_count-k-end.ensures.value) in
    let F : List Entry → Type 0 = λ es. IsListed (picked_tree j) es c.loop-k.into.items in
    listed_all (picked_tree j) c.loop-k.into.items (subst F (none_left j.root j.pages j.rows c.loop-k.k past) c.loop-k.invariant)
