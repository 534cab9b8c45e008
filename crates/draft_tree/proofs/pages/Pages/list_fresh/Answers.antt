use Rattle.std.proofs.Common.{ℕ, List, sym, subst, ◌∙◌, lit<, arith}
use Rattle.draft_model.specs.Entries.{Entry}
use Rattle.draft_tree.proofs.Fresh.{IsListed, listed_start, listed_more, listed_same, listed_room, listed_all}
use Rattle.draft_tree.proofs.pages.Pages.list_fresh.Goals as goal

pub loop-at-init : goal.loop-at-init
loop-at-init c = listed_start _ _ _ c.requires.empty (c.into_iter-at-iterator.ensures.into_iter_gives ∙ c.iter-at-items.ensures.rest ∙ c.self.view_is)

pub push-requires : goal.push-requires
push-requires c =
    let F : List Entry → Type 0 = λ es. IsListed c.args.self.now es c.loop-at.into.items in (
      lit< tt,
      omega (
        arith,
        listed_room c.args.self.now c.next.new.self (c.in-Some.at.now, c.in-Some.copied.now) c.loop-at.into.items (sym c.is_fresh.ensures ∙ c.if-is_fresh.true)
            (subst F c.in-Some.ensures.steps c.loop-at.invariant),
        c.requires.room,
      ),
    )

pub loop-at-preserved-then-is_fresh : goal.loop-at-preserved-then-is_fresh
loop-at-preserved-then-is_fresh c =
    let F : List Entry → Type 0 = λ es. IsListed c.args.self.now es c.loop-at.into.items in
    let G : List (List ℕ) → Type 0 = λ listed. IsListed c.args.self.now c.next.new.self listed in
    subst G (sym c.push.ensures.items)
    (listed_more c.args.self.now c.next.new.self (c.in-Some.at.now, c.in-Some.copied.now) c.loop-at.into.items (sym c.is_fresh.ensures ∙ c.if-is_fresh.true)
    (subst F c.in-Some.ensures.steps c.loop-at.invariant))

pub loop-at-preserved : goal.loop-at-preserved
loop-at-preserved c =
    let F : List Entry → Type 0 = λ es. IsListed c.args.self.now es c.loop-at.into.items in
    listed_same c.args.self.now c.next.new.self (c.in-Some.at.now, c.in-Some.copied.now) c.loop-at.into.items (sym c.is_fresh.ensures ∙ c.if-is_fresh.false)
    (subst F c.in-Some.ensures.steps c.loop-at.invariant)

pub returns : goal.returns
returns c =
    let F : List Entry → Type 0 = λ es. IsListed c.args.self.now es c.loop-at.into.items in
    listed_all c.args.self.now c.loop-at.into.items (subst F c.in-None.ensures.steps.0 c.loop-at.invariant)
