use Rattle.std.proofs.Common.{◌≡◌, ◌^◌, ◌<◌, [], ◌∷◌, ◌++◌, take, length, refl, sym, ap, ◌∙◌, add-one, arith}
use Rattle.std.proofs.lemmas.List.{length-take-le}
use Rattle.draft_tree.specs.Marking.{searched_more}
use Rattle.draft_model.specs.Entries.{shown}
use Rattle.draft_tree.specs.Pages.{changed}
use Rattle.draft_tree.proofs.Ways.{searched_until, until_none, until_more, until_all}
use Rattle.draft_tree.proofs.Wanting.{take_more}
use Rattle.draft_tree.proofs.steps.search_way.Goals as goal

pub loop-i-init : goal.loop-i-init
loop-i-init g c = (c.root-above.ensures, λ p. sym (until_none (shown (g.P.PageList.entries c.args.pages.now)) c.args.at.now p), refl, refl)

pub loop-i-preserved : goal.loop-i-preserved
loop-i-preserved g c =
    let q = c.args.at.now in
    let i = c.loop-i.i in
    let d = shown (g.P.PageList.entries c.args.pages.now) in
    let within : i < length q = omega (arith, c.len-i-end.ensures.value) in
    let inv = c.loop-i.invariant in (
      c.below-above.ensures ∙ (λ j. inv.0 j ++ c.slot-slot.ensures j ∷ []) ∙ take_more q i within ∙ ap (λ n. take n q) (sym (add-one i)),
      λ p. c.change.ensures.view p
          ∙ (λ j. changed (λ x. inv.1 x j) (inv.0 j) (searched_more (2 ^ c.slot-slot.ensures j)) p)
          ∙ until_more d q i p within (length-take-le i q (omega arith)),
      c.change.ensures.keys ∙ inv.2,
      c.change.ensures.others ∙ inv.3,
    )

pub returns-clause-view : goal.returns-clause-view
returns-clause-view g c =
    let q = c.args.at.now in
    let d = shown (g.P.PageList.entries c.args.pages.now) in
    let end : c.loop-i.i ≡ length q = omega (arith, c.len-i-end.ensures.value) in
    λ p. c.loop-i.invariant.1 p ∙ ap (λ n. searched_until d q n p) end ∙ until_all d q p
