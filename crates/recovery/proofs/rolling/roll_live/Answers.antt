use Rattle.std.proofs.Common.{◌≡◌, ◌+◌, Some, Ok, length, refl, sym, ap, subst, ◌∙◌, eqb-true, eq-eqb, true≢false}
use Rattle.store_check.specs.declared.chain.FoundFile.{FoundFile}
use Rattle.store_model.proofs.Edits.{some_is}
use Rattle.recovery.specs.declared.rolling.Step.{Step}
use Rattle.recovery.specs.declared.rolling.Step.TheVariants.{SetLinks, ClearMembers}
use Rattle.recovery.specs.Rolling.{IsEdited, Rolling, Rolls}
use Rattle.recovery.proofs.Links.{link_none}
use Rattle.recovery.proofs.Rolls.{rolls_stay}
use Rattle.recovery.proofs.Tops.{top_none}
use Rattle.recovery.proofs.Turning.{skipped}
use Rattle.recovery.proofs.rolling.roll_live.Goals as goal

pub returns-in-None : goal.returns-in-None
returns-in-None g c = λ most known k kept.
    let d = c.args.store.now in
    subst (λ (p : Step). Rolls {T = Unit {0}} g.B.Blocks most (IsEdited known) (Rolling p most known k) (Rolling p most known (k + 1)) (Ok tt) d d) (sym c.in-SetLinks.is)
    (rolls_stay (g.met.B.Blocks.clock d) (λ x s r. skipped SetLinks most known k x s r (link_none most known k x s r (Some c.args.chain.now) kept c.in-None.is)))

pub returns-in-Some : goal.returns-in-Some
returns-in-Some g c = λ most known k kept.
    subst
    (λ (p : Step). Rolls g.B.Blocks most (IsEdited known) (Rolling p most known k) (Rolling p most known (k + 1)) c.set_link.result c.args.store.now c.set_link.new.store)
    (sym c.in-SetLinks.is) (c.set_link.ensures most known k c.args.chain.now kept c.in-Some.is refl)

pub returns-then-is_empty : goal.returns-then-is_empty
returns-then-is_empty g c = λ most known k kept.
    let d = c.args.store.now in
    let long : length c.args.chain.now.last.members ≡ 0 = eqb-true (length c.args.chain.now.last.members) 0 (sym c.is_empty.ensures ∙ c.if-is_empty.true) in
    subst (λ (p : Step). Rolls {T = Unit {0}} g.B.Blocks most (IsEdited known) (Rolling p most known k) (Rolling p most known (k + 1)) (Ok tt) d d) (sym c.in-ClearMembers.is)
    (rolls_stay (g.met.B.Blocks.clock d)
    (λ x s r. skipped ClearMembers most known k x s r
    (top_none most known k x s r (Some c.args.chain.now) kept (λ chain is. ap (λ (q : FoundFile). length q.last.members) (sym (some_is is)) ∙ long))))

pub returns-else-is_empty : goal.returns-else-is_empty
returns-else-is_empty g c = λ most known k kept.
    subst
    (λ (p : Step). Rolls g.B.Blocks most (IsEdited known) (Rolling p most known k) (Rolling p most known (k + 1)) c.clear_last.result c.args.store.now c.clear_last.new.store)
    (sym c.in-ClearMembers.is)
    (c.clear_last.ensures most known k c.args.chain.now kept refl
    (λ none. true≢false (sym (eq-eqb (length c.args.chain.now.last.members) 0 none) ∙ sym c.is_empty.ensures ∙ c.if-is_empty.false)))
