use Rattle.std.proofs.Common.{◌≡◌, ℕ, ◌<◌, List, [], ◌∷◌, ◌++◌, take, slice_index, length, Some, None, sym, ap, subst, ◌∙◌, add-one, arith, below_more}
use Rattle.draft_model.specs.Views.{copies, Wants}
use Rattle.draft_model.specs.Entries.{shown}
use Rattle.draft_tree.specs.Pages.{wanted_block}
use Rattle.draft_tree.proofs.Wanting.{take_more, none_wanted, wants_of}
use Rattle.draft_tree.proofs.steps.need.Goals as goal

pub returns-in-Some : goal.returns-in-Some
returns-in-Some g c =
    let q = c.args.end.now in
    let i = c.loop-i.i in
    let h = copies (shown (g.P.PageList.entries c.args.pages.now)) in
    let within : i < length q = omega (arith, c.len-i-end.ensures.value) in
    let found : wanted_block h (take i q) (slice_index q i) ≡ Some c.in-Some.block =
    (λ j. wanted_block h (sym c.loop-i.invariant.0 j) (sym c.slot-slot.ensures j)) ∙ sym c.wanted_block.ensures ∙ c.in-Some.is in
    let path : take i q ++ slice_index q i ∷ [] ≡ c.below-path.result =
    (λ j. sym c.loop-i.invariant.0 j ++ sym c.slot-slot.ensures j ∷ []) ∙ sym c.below-path.ensures in
    let F : List ℕ → Type 0 = λ x. Wants h q x c.in-Some.block in
    subst F path (wants_of h q i c.in-Some.block within found)

pub loop-i-preserved : goal.loop-i-preserved
loop-i-preserved g c =
    let q = c.args.end.now in
    let i = c.loop-i.i in
    let h = copies (shown (g.P.PageList.entries c.args.pages.now)) in
    let within : i < length q = omega (arith, c.len-i-end.ensures.value) in
    let none : wanted_block h (take i q) (slice_index q i) ≡ None =
    (λ j. wanted_block h (sym c.loop-i.invariant.0 j) (sym c.slot-slot.ensures j)) ∙ sym c.wanted_block.ensures ∙ c.in_default.is in (
      c.below-path.ensures ∙ (λ j. c.loop-i.invariant.0 j ++ c.slot-slot.ensures j ∷ []) ∙ take_more q i within ∙ ap (λ n. take n q) (sym (add-one i)),
      below_more _ _ c.loop-i.invariant.1 none,
    )

pub returns : goal.returns
returns g c =
    let q = c.args.end.now in
    let h = copies (shown (g.P.PageList.entries c.args.pages.now)) in
    let end : c.loop-i.i ≡ length q = omega (arith, c.len-i-end.ensures.value) in
    none_wanted h q (λ k low. c.loop-i.invariant.1 k (omega (arith, low, end)))
