use Rattle.std.proofs.Common.{◌≡◌, List, ap, subst, sym, ◌∙◌, filter}
use Rattle.tree_model.specs.Trees.{has}
use Rattle.tree_model.specs.Accesses.{Place, KeepsVisible}
use Rattle.tree_model.specs.Gathered.{Accessed, are_distinct}
use Rattle.tree_model.proofs.Gathering.{distinct_filter, keeps_visible}
use Rattle.tree_model.proofs.access.Access.visible.Goals as goal

pub invariant_of-result : goal.invariant_of-result
invariant_of-result c = (
  ap are_distinct c.new.ensures.items,
  ap are_distinct c.keep_there.ensures
      ∙ distinct_filter (λ (x : Place). has c.args.after.now x.0) c.in_ok-writes.writes.items
      (ap are_distinct (c.in_ok-writes.ensures.items ∙ c.deref.ensures.value) ∙ c.self.invariant.1),
)

pub returns-clause-visible : goal.returns-clause-visible
returns-clause-visible c =
    let writes = c.args.self.now.writes in
    let after = c.args.after.now in
    let kept : c.keep_there.new.places.items ≡ filter (λ (x : Place). has after x.0) writes =
    c.keep_there.ensures
    ∙ ap (λ (ws : List Place). filter (λ (x : Place). has after x.0) ws)
    (c.in_ok-writes.ensures.items ∙ c.deref.ensures.value ∙ ap (λ (a : Accessed). a.writes) c.self.view_is) in
    let F : List Place → Type 0 = λ ws. KeepsVisible writes after ws in
    subst F (sym kept) (keeps_visible writes after)
