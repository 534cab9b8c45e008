use Rattle.std.proofs.Common.{◌≡◌, ℕ, suc, ◌-◌, true, false, subst, rules, arith}
use Rattle.pool_draft.specs.Rows.{forest}
use Rattle.pool_draft.proofs.Below.{order_below}
use Rattle.pool_draft.proofs.Looks.{forest_order}
use Rattle.pool_draft.proofs.Keeping.{IsKeptTo, kept_stays, kept_goes, kept_tree, kept_beside}
use Rattle.pool_draft.proofs.frame_pages.FramePages.keep_accessed.Goals as goal

pub loop-k-preserved-then-not-stays : goal.loop-k-preserved-then-not-stays
loop-k-preserved-then-not-stays c =
    let h = c.args.self.now in
    let k = c.loop-k.k - 1 in
    let one : c.loop-k.k ≡ suc k = omega arith in
    let F : ℕ → Type 0 = λ n. IsKeptTo h c.loop-k.self n in
    let goes : c.stays.result ≡ false = search rules in
    kept_goes h c.loop-k.self c.let_go.new.self k c.stays.result (subst F one c.loop-k.invariant) c.stays.ensures goes
    c.let_go.ensures.rows c.let_go.ensures.pages c.let_go.ensures.root c.let_go.ensures.left

pub loop-k-preserved : goal.loop-k-preserved
loop-k-preserved c =
    let h = c.args.self.now in
    let k = c.loop-k.k - 1 in
    let one : c.loop-k.k ≡ suc k = omega arith in
    let F : ℕ → Type 0 = λ n. IsKeptTo h c.loop-k.self n in
    let stays : c.stays.result ≡ true = search rules in
    kept_stays h c.loop-k.self k c.stays.result (subst F one c.loop-k.invariant) c.stays.ensures stays

pub returns-clause-tree : goal.returns-clause-tree
returns-clause-tree c =
    let none : c.loop-k.k ≡ 0 = omega arith in
    let F : ℕ → Type 0 = λ n. IsKeptTo c.args.self.now c.loop-k.self n in
    kept_tree c.args.self.now c.loop-k.self (subst F none c.loop-k.invariant)

pub returns-clause-ordered : goal.returns-clause-ordered
returns-clause-ordered c =
    let h = c.args.self.now in
    order_below h.root (forest h.pages h.rows) (forest_order h.pages h.rows c.row_count-k.ensures.held.ordered)

pub returns-clause-others : goal.returns-clause-others
returns-clause-others c =
    let none : c.loop-k.k ≡ 0 = omega arith in
    let F : ℕ → Type 0 = λ n. IsKeptTo c.args.self.now c.loop-k.self n in
    kept_beside c.args.self.now c.loop-k.self (subst F none c.loop-k.invariant)
