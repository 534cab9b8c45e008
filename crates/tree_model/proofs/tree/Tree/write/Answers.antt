use Rattle.std.proofs.Common.{◌≡◌, Bool, true, false, cond, List, [], Some, is_some, ◌≤◌, length, arith, ap, subst, sym, ◌∙◌, position}
use Rattle.std.specs.FinMap as map
use Rattle.afs_base.specs.Path.{path_cmp}
use Rattle.tree_model.specs.declared.step.Reply.TheVariants.{Done, Absent}
use Rattle.tree_model.specs.Entries.{Page, is_at}
use Rattle.tree_model.specs.Trees.{Tree, IsKept, has}
use Rattle.tree_model.proofs.Entries.{put_at, is_some_at}
use Rattle.tree_model.proofs.TreeFacts.{kept_put}
use Rattle.tree_model.proofs.tree.Tree.write.Goals as goal

place : (c : goal.After-self-1) → position (is_at c.args.at.now) c.self.inside.pages.items ≡ Some c.in-Some.i
place c = ap (λ (pages : List Page). position (is_at c.args.at.now) pages) (sym c.deref.ensures.value) ∙ sym c.place_of.ensures ∙ c.in-Some.is

there : (c : goal.After-self-1) → has (map.from_entries {R = path_cmp} c.self.inside.pages.items) c.args.at.now ≡ true
there c = sym (is_some_at c.self.inside.pages.items c.args.at.now) ∙ ap is_some (place c)

was_there : (c : goal.After-self-1) → has c.args.self.now c.args.at.now ≡ true
was_there c = ap (λ (t : Tree). has t c.args.at.now) (sym c.self.view_is) ∙ there c

missing : (c : goal.In-None) → has c.args.self.now c.args.at.now ≡ false
missing c =
    ap (λ (t : Tree). has t c.args.at.now) (sym c.self.view_is)
    ∙ sym (is_some_at c.self.inside.pages.items c.args.at.now)
    ∙ ap (λ (pages : List Page). is_some (position (is_at c.args.at.now) pages)) (sym c.deref.ensures.value)
    ∙ ap is_some (sym c.place_of.ensures ∙ c.in-None.is)

pub invariant_of-self : goal.invariant_of-self
invariant_of-self c =
    let F : Tree → Type 0 = IsKept in
    let pages = c.self.inside.pages.items in
    let few : length c.args.bytes.now ≤ 800 = omega (arith, ap length c.bytes-data.ensures.value) in
    subst F (sym (put_at pages c.args.at.now c.args.bytes.now c.in-Some.i ([], []) (place c)))
    (kept_put (map.from_entries pages) c.args.at.now c.args.bytes.now c.self.invariant (there c) few)

pub returns-in-Some-clause-reply : goal.returns-in-Some-clause-reply
returns-in-Some-clause-reply c = ap (λ (b : Bool). cond b Done Absent) (sym (was_there c))

pub returns-in-Some-clause-after : goal.returns-in-Some-clause-after
returns-in-Some-clause-after c =
    put_at c.self.inside.pages.items c.args.at.now c.args.bytes.now c.in-Some.i ([], []) (place c)
    ∙ ap (λ (t : Tree). map.insert t c.args.at.now c.args.bytes.now) c.self.view_is
    ∙ ap (λ (b : Bool). cond b (map.insert c.args.self.now c.args.at.now c.args.bytes.now) c.args.self.now) (sym (was_there c))

pub returns-in-None-clause-reply : goal.returns-in-None-clause-reply
returns-in-None-clause-reply c = ap (λ (b : Bool). cond b Done Absent) (sym (missing c))

pub returns-in-None-clause-after : goal.returns-in-None-clause-after
returns-in-None-clause-after c =
    ap (λ (b : Bool). cond b (map.insert c.args.self.now c.args.at.now c.args.bytes.now) c.args.self.now) (sym (missing c))
