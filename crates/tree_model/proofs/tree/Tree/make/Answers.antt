use Rattle.std.proofs.Common.{◌≡◌, ℕ, ◌≤◌, Bool, true, false, cond, not, List, [], ◌∷◌, ◌++◌, length, ap, subst, sym, ◌∙◌}
use Rattle.std.specs.FinMap as map
use Rattle.afs_base.specs.Path.{path_cmp, are_slots}
use Rattle.tree_model.specs.Entries.{Page}
use Rattle.tree_model.specs.Trees.{Tree, IsKept, has, path_of, can_make}
use Rattle.tree_model.proofs.Paths.{both_true}
use Rattle.tree_model.proofs.Entries.{put_new}
use Rattle.tree_model.proofs.TreeFacts.{kept_make, absent}
use Rattle.tree_model.proofs.tree.Tree.make.Goals as goal

missing : (c : goal.In_ok-push) → has c.args.self.now (path_of c.args.at.now) ≡ false
missing c = ap (λ (p : List ℕ). has c.args.self.now p) (sym c.path-path.ensures.path) ∙ sym c.has-2.ensures.has ∙ c.if-has.false

above : (c : goal.In_ok-push) → has c.args.self.now c.args.at.now.0 ≡ true
above c = ap (λ (p : List ℕ). has c.args.self.now p) (sym c.above.ensures.above) ∙ sym c.has.ensures.has ∙ c.if-not-has.false

made : (c : goal.In_ok-push) → map.from_entries {R = path_cmp} c.push.new.self.items ≡ map.insert c.args.self.now (path_of c.args.at.now) []
made c =
    let pages = c.self.inside.pages.items in
    ap (λ (es : List Page). map.from_entries {R = path_cmp} es)
    (c.in_ok-push.ensures.items ∙ (λ i. pages ++ (c.path-path.ensures.path i, c.empty.ensures i) ∷ []))
    ∙ put_new pages (path_of c.args.at.now) [] (ap (λ (t : Tree). map.get t (path_of c.args.at.now)) c.self.view_is ∙ absent _ _ (missing c))
    ∙ ap (λ (t : Tree). map.insert t (path_of c.args.at.now) []) c.self.view_is

pub invariant_of-self-2 : goal.invariant_of-self-2
invariant_of-self-2 c =
    let F : Tree → Type 0 = IsKept in
    let S : List ℕ → Type 0 = λ p. length p ≤ 7 in
    subst F (sym (made c))
    (kept_make c.args.self.now c.args.at.now c.has.ensures.kept (above c)
    (subst S c.path-path.ensures.path c.path-path.ensures.short)
    (ap are_slots (sym c.path-path.ensures.path) ∙ c.path-path.ensures.slots))

pub returns-clause-after : goal.returns-clause-after
returns-clause-after c =
    let can : can_make c.args.self.now c.args.at.now ≡ true = both_true _ _ (above c) (ap not (missing c)) in
    made c ∙ ap (λ (b : Bool). cond b (map.insert c.args.self.now (path_of c.args.at.now) []) c.args.self.now) (sym can)
