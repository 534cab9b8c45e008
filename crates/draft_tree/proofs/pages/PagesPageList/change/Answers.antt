use Rattle.std.proofs.Common.{◌≡◌, ℕ, List, Some, None, is_some, ap, sym, ◌∙◌}
use Rattle.std.specs.Option.{option_copied_mut}
use Rattle.std.specs.Map.{keys_of}
use Rattle.draft_tree.specs.Marking.{after_change}
use Rattle.draft_model.specs.Entries.{Entry, shown}
use Rattle.draft_tree.specs.Pages.{changed}
use Rattle.draft_tree.proofs.PageFacts.{changed_some, changed_none, short_changed}
use Rattle.draft_tree.proofs.pages.PagesPageList.change.Goals as goal
use Rattle.draft_tree.proofs.pages.PagesPageList.change.Goals.{in-Some, in_default}

pub change-requires : goal.change-requires
change-requires c =
    let found : shown c.self.inside.list.entries c.args.at.now ≡ Some c.in-Some.copied.now = sym c.get_mut.ensures.value ∙ ap option_copied_mut c.in-Some.is in
    c.requires c.in-Some.copied.now (ap (λ (es : List Entry). shown es c.args.at.now) (sym c.self.view_is) ∙ found)

view_is : (c : goal.Joined-get_mut) (p : List ℕ)
    → shown c.match-get_mut.self-inside.list.entries p ≡ changed (shown c.self.inside.list.entries) c.args.at.now (after_change c.args.change.now) p
view_is c p = elim c.match-get_mut.branch [
  | in-Some w ↦
      let found : shown c.self.inside.list.entries c.args.at.now ≡ Some w.in-Some.copied.now = sym c.get_mut.ensures.value ∙ ap option_copied_mut w.in-Some.is in
      ap (λ x. shown x.list.entries p) w.self-inside-is
      ∙ ((c.get_mut.follows.holds w.change.new.self).3 (ap is_some found)).0 p
      ∙ changed_some (shown c.self.inside.list.entries) c.args.at.now p (after_change c.args.change.now) w.in-Some.copied.now w.change.new.self found w.change.ensures
  | in_default w ↦
      let found : shown c.self.inside.list.entries c.args.at.now ≡ None = sym c.get_mut.ensures.value ∙ ap option_copied_mut w.in_default.is in
      ap (λ x. shown x.list.entries p) w.self-inside-is
      ∙ ap (λ m. shown m.entries p) c.get_mut.follows.holds-at-none
      ∙ changed_none (shown c.self.inside.list.entries) c.args.at.now p (after_change c.args.change.now) found
]

keys_are : (c : goal.Joined-get_mut) → keys_of c.match-get_mut.self-inside.list.entries ≡ keys_of c.self.inside.list.entries
keys_are c = elim c.match-get_mut.branch [
  | in-Some w ↦ ap (λ x. keys_of x.list.entries) w.self-inside-is ∙ (c.get_mut.follows.holds w.change.new.self).1
  | in_default w ↦ ap (λ x. keys_of x.list.entries) w.self-inside-is ∙ ap (λ m. keys_of m.entries) c.get_mut.follows.holds-at-none
]

pub invariant_of-self : goal.invariant_of-self
invariant_of-self c = short_changed _ _ _ _ (view_is c) c.self.invariant

pub returns-clause-view : goal.returns-clause-view
returns-clause-view c p = view_is c p ∙ ap (λ (es : List Entry). changed (shown es) c.args.at.now (after_change c.args.change.now) p) c.self.view_is

pub returns-clause-keys : goal.returns-clause-keys
returns-clause-keys c = keys_are c ∙ ap (λ (es : List Entry). keys_of es) c.self.view_is
