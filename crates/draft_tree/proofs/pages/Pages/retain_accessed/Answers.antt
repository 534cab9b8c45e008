use Rattle.std.proofs.Common.{◌≡◌, List, filter, ap, ◌∙◌, rules}
use Rattle.draft_model.proofs.Entries.{order_rising}
use Rattle.draft_model.specs.Entries.{Entry, shown}
use Rattle.draft_tree.specs.Pages.{is_kept}
use Rattle.draft_tree.proofs.Letting.{filter_pairs, shown_kept, short_accessed}
use Rattle.draft_tree.proofs.pages.Pages.retain_accessed.Goals as goal

entries_are : (c : goal.After-retain) → c.retain.new.self.entries ≡ filter (λ e. is_kept e.0 e.1) c.self.inside.list.entries
entries_are c = filter_pairs _ is_kept _ (λ k v b w f' t. search rules) _ _ c.retain.ensures.filtered

pub invariant_of-self : goal.invariant_of-self
invariant_of-self c =
    short_accessed c.self.inside.list.entries c.retain.new.self.entries
    (λ p. ap (λ (es : List Entry). shown es p) (entries_are c) ∙ shown_kept c.self.inside.list.entries c.retain.ensures.was_ordered p)
    c.self.invariant

pub returns-clause-entries : goal.returns-clause-entries
returns-clause-entries c = entries_are c ∙ ap (λ (es : List Entry). filter (λ e. is_kept e.0 e.1) es) c.self.view_is

pub returns-clause-order : goal.returns-clause-order
returns-clause-order c = order_rising c.retain.new.self.entries c.retain.ensures.ordered
