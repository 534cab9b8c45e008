use Rattle.std.proofs.Common.{◌≡◌, ℕ, List, map, cond, ap, ◌∙◌, rules}
use Rattle.std.specs.Map.{keys_of}
use Rattle.afs_base.specs.Path.{is_prefix}
use Rattle.draft_model.specs.Views.{Copied}
use Rattle.draft_tree.specs.Marking.{taken_away}
use Rattle.draft_model.specs.Entries.{Entry, shown}
use Rattle.draft_tree.specs.Pages.{cut_below}
use Rattle.draft_tree.proofs.PageFacts.{map_pairs, keys_map, shown_map, cut_is, short_cut}
use Rattle.draft_tree.proofs.pages.PagesPageList.cut_below.Goals as goal

away : List ℕ → List ℕ → Copied → Copied
away q k v = cond (is_prefix q k) (taken_away v) v

entries_are : (c : goal.After-retain) → c.retain.new.self.entries ≡ map (λ e. (e.0, away c.args.at.now e.0 e.1)) c.self.inside.list.entries
unfolding away
entries_are c = map_pairs _ (away c.args.at.now) _ (λ k v b w f' t. search rules) _ _ c.retain.ensures.filtered

view_is : (c : goal.After-retain) (p : List ℕ) → shown c.retain.new.self.entries p ≡ cut_below (shown c.self.inside.list.entries) c.args.at.now p
unfolding away
view_is c p =
    ap (λ es. shown es p) (entries_are c)
    ∙ shown_map (away c.args.at.now) c.self.inside.list.entries p
    ∙ cut_is (shown c.self.inside.list.entries) c.args.at.now p

pub invariant_of-self : goal.invariant_of-self
invariant_of-self c = short_cut _ _ _ (view_is c) c.self.invariant

pub returns-clause-view : goal.returns-clause-view
returns-clause-view c p = view_is c p ∙ ap (λ (es : List Entry). cut_below (shown es) c.args.at.now p) c.self.view_is

pub returns-clause-keys : goal.returns-clause-keys
returns-clause-keys c =
    ap (λ (es : List Entry). keys_of es) (entries_are c) ∙ keys_map (away c.args.at.now) c.self.inside.list.entries
    ∙ ap (λ (es : List Entry). keys_of es) c.self.view_is
