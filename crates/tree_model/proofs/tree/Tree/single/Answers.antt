use Rattle.std.proofs.Common.{◌≡◌, List, [], ◌∷◌, ◌++◌, subst, sym, ◌∙◌}
use Rattle.std.specs.FinMap as map
use Rattle.afs_base.specs.Path.{path_cmp}
use Rattle.tree_model.specs.Entries.{Page}
use Rattle.tree_model.specs.Trees.{IsKept}
use Rattle.tree_model.proofs.TreeFacts.{kept_single}
use Rattle.tree_model.proofs.tree.Tree.single.Goals as goal

pub invariant_of-result : goal.invariant_of-result
invariant_of-result c =
    let F : List Page → Type 0 = λ pages. IsKept (map.from_entries {R = path_cmp} pages) in
    let pages : c.push.new.self.items ≡ ([], []) ∷ [] =
    c.in_ok-push.ensures.items ∙ (λ i. c.new-pages.ensures.items i ++ (c.root.ensures i, c.empty.ensures i) ∷ []) in
    subst F (sym pages) kept_single
