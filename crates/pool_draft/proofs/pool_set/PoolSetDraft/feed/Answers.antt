use Rattle.std.proofs.Common.{◌≡◌, ◌+◌, ◌*◌, ◌≤◌, List, ℕ, length, sym, ap, subst, ◌∙◌, arith}
use Rattle.draft_model.specs.Views.{Copied, View}
use Rattle.draft_model.specs.Steps.{fed}
use Rattle.draft_model.specs.Stands.{Feeds}
use Rattle.draft_model.proofs.Feeding.{feeds}
use Rattle.draft_model.specs.Entries.{shown}
use Rattle.draft_tree.specs.Pages.{put}
use Rattle.draft_tree.proofs.Kept.{top_fed, levels_fed, top_same, levels_same}
use Rattle.pool_draft.specs.Held.{picked_tree}
use Rattle.pool_draft.proofs.Roots.{drafts_after, room_for, not_refused}
use Rattle.pool_draft.proofs.pool_set.PoolSetDraft.feed.Goals as goal

pub unreachable-requires : goal.unreachable-requires
unreachable-requires c =
    let s = c.args.self.now in
    let few : 7 * s.count + s.fed ≤ 902 = omega (arith, s.most, c.requires.few) in
    not_refused c.put-put.result c.in_default.field-0 (c.put-put.ensures.succeeds tt (room_for s.pages (length s.bases.items) s.count s.fed s.drafts few)) c.in_default.is

pub invariant_of-self-clause-drafts : goal.invariant_of-self-clause-drafts
invariant_of-self-clause-drafts c =
    let s = c.args.self.now in
    let j = c.put-put.new.self in
    let d = shown (picked_tree s.pages) in
    let q = c.args.at.now in
    let page = c.args.page.now in
    let ready = c.requires.ready in
    let shows : (p : List ℕ) → shown (picked_tree j) p ≡ fed d q page p = λ p. c.in-Ok.ensures.put p ∙ ap (λ (x : Copied). put d q x p) c.fed.ensures in
    drafts_after s.pages j (length s.bases.items) s.count s.fed s.count (s.fed + 1) 1 s.drafts ready c.put-put.ensures.others
    c.in-Ok.ensures.order
    (top_same (fed d q page) (shown (picked_tree j)) shows (top_fed d q page (s.drafts.top s.pages.root ready)))
    (levels_same (fed d q page) (shown (picked_tree j)) shows (levels_fed d q page c.requires.level (s.drafts.levels s.pages.root ready)))
    c.put-put.ensures.len (omega arith)

pub returns-clause-feeds : goal.returns-clause-feeds
returns-clause-feeds c =
    let d = shown (picked_tree c.args.self.now.pages) in
    let q = c.args.at.now in
    let page = c.args.page.now in
    let shows : fed d q page ≡ shown (picked_tree c.put-put.new.self) = λ i p. sym (c.in-Ok.ensures.put p ∙ ap (λ (x : Copied). put d q x p) c.fed.ensures) i in
    let F : View → Type 0 = λ v. Feeds d v q page in
    subst F shows (feeds d q page c.put-put.ensures.slots)
