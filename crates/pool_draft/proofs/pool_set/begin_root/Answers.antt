use Rattle.std.proofs.Common.{◌<◌, length, sym, ap, subst, ◌∙◌, arith}
use Rattle.draft_model.specs.Entries.{shown}
use Rattle.draft_tree.specs.Pages.{put}
use Rattle.pool_draft.specs.Held.{Held, beside, picked_tree, space_of}
use Rattle.pool_draft.specs.Roots.{IsRootBegun}
use Rattle.pool_draft.proofs.Roots.{room_begun, root_begun, not_refused}
use Rattle.pool_draft.proofs.pool_set.begin_root.Goals as goal

pub unreachable-requires : goal.unreachable-requires
unreachable-requires c =
    let h = c.args.pages.now in
    let F : Held → Type 0 = λ x. length (picked_tree x) < space_of (beside x) in
    not_refused c.put-put.result c.in_default.field-0 (c.put-put.ensures.succeeds tt (subst F (sym c.pick.ensures) (room_begun h c.args.root c.requires.none c.requires.room))) c.in_default.is

pub returns : goal.returns
returns c =
    let h = c.args.pages.now in
    let j = c.put-put.new.self in
    let less = ap (λ (x : Held). length (picked_tree x)) c.pick.ensures in
    let F : Held → Type 0 = λ x. IsRootBegun h c.args.root c.args.page.now x in
    subst F (sym (c.pick-2.ensures ∙ (λ i. record { pages = j.pages; rows = j.rows; run = j.run; root = c.picked-picked.ensures i })))
    (root_begun h c.args.root c.args.page.now j c.requires.none
    (c.put-put.ensures.others ∙ ap beside c.pick.ensures)
    (λ p. c.in-Ok.ensures.put p ∙ (λ i. put (shown (picked_tree (c.pick.ensures i))) (c.root.ensures i) (c.fed.ensures i) p))
    (omega (arith, c.put-put.ensures.len, less))
    c.in-Ok.ensures.order)
