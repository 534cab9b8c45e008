use Rattle.std.proofs.Common.{◌≡◌, ℕ, List, ap, ◌∙◌, arith}
use Rattle.draft_model.specs.Entries.{Entry, shown}
use Rattle.draft_tree.specs.Pages.{put}
use Rattle.draft_tree.proofs.PageFacts.{put_is, short_put}
use Rattle.draft_model.proofs.Entries.{order_rising}
use Rattle.draft_tree.proofs.pages.PagesPageList.put.Goals as goal

put_told : (c : goal.In_ok-insert) (p : List ℕ) → shown c.insert.new.self.entries p ≡ put (shown c.self.inside.list.entries) c.args.at.now c.args.copied p
put_told c p = c.in_ok-insert.ensures.updates.0 p ∙ put_is (shown c.self.inside.list.entries) c.args.at.now p c.args.copied

pub invariant_of-self-2 : goal.invariant_of-self-2
invariant_of-self-2 c =
    short_put _ _ c.args.at.now c.args.copied (λ n h e. absurd (omega (arith, h, e, c.len-depth.ensures.value, c.len-depth.ensures.short))) (put_told c) c.self.invariant

pub returns-clause-put : goal.returns-clause-put
returns-clause-put c p = put_told c p ∙ ap (λ (es : List Entry). put (shown es) c.args.at.now c.args.copied p) c.self.view_is

pub returns-clause-order : goal.returns-clause-order
returns-clause-order c = order_rising c.insert.new.self.entries c.insert.ensures.ordered
