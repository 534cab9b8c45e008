use Rattle.std.proofs.Common.{◌≡◌, ℕ, Bool, true, cond, List, ap, subst, sym, ◌∙◌}
use Rattle.std.specs.FinMap as map
use Rattle.afs_base.specs.Path.{path_cmp}
use Rattle.tree_model.specs.Entries.{Page}
use Rattle.tree_model.specs.Trees.{Tree, IsKept, has, path_of, without}
use Rattle.tree_model.proofs.Entries.{take_away}
use Rattle.tree_model.proofs.TreeFacts.{kept_drop}
use Rattle.tree_model.proofs.tree.Tree.drop_below.Goals as goal

taken : (c : goal.After-keep_others) → map.from_entries {R = path_cmp} c.keep_others.new.pages.items ≡ without (map.from_entries c.self.inside.pages.items) (path_of c.args.at.now)
taken c =
    ap (λ (pages : List Page). map.from_entries {R = path_cmp} pages) c.keep_others.ensures
    ∙ take_away c.self.inside.pages.items c.path-path.result
    ∙ ap (λ (p : List ℕ). without (map.from_entries c.self.inside.pages.items) p) c.path-path.ensures.path

pub invariant_of-self : goal.invariant_of-self
invariant_of-self c =
    let F : Tree → Type 0 = IsKept in
    subst F (sym (taken c)) (kept_drop (map.from_entries c.self.inside.pages.items) c.args.at.now c.self.invariant)

pub returns-clause-after : goal.returns-clause-after
returns-clause-after c =
    let there : has c.args.self.now (path_of c.args.at.now) ≡ true =
    ap (λ (p : List ℕ). has c.args.self.now p) (sym c.path-path.ensures.path) ∙ sym c.has.ensures.has ∙ c.if-not-has.false in
    taken c
    ∙ ap (λ (t : Tree). without t (path_of c.args.at.now)) c.self.view_is
    ∙ ap (λ (b : Bool). cond b (without c.args.self.now (path_of c.args.at.now)) c.args.self.now) (sym there)
