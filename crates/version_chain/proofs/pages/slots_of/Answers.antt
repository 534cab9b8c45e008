use Rattle.std.proofs.Common.{◌+◌, ℕ, refl, sym, ap, subst, add-one}
use Rattle.version_chain.specs.Flush.{IsNextBelow}
use Rattle.version_chain.proofs.Slots.{one_slot}
use Rattle.version_chain.proofs.Below.{next_start}
use Rattle.version_chain.proofs.pages.slots_of.Goals as goal

pub slots-init : goal.slots-init
slots-init g c =
    let F : ℕ → Type 0 = λ n. IsNextBelow c.args.places.now c.args.above.now 0 n in (
      record { sixteen = c.told-old; size = c.told-old; written = refl; leaf = λ deep none. none },
      subst F (sym (add-one c.args.own)) (next_start c.args.places.now c.args.own c.requires.own.0 c.args.above.now c.requires.rising c.requires.own.1 c.requires.own.2),
    )

pub slots-preserved : goal.slots-preserved
slots-preserved g c =
    let F : ℕ → Type 0 = λ n. IsNextBelow c.args.places.now c.args.above.now n c.behind-next.result in (
      one_slot (g.D.Draft.view c.args.draft.now) c.args.places.now c.args.above.now c.args.old.now c.slots.refs c.slots.k c.at-slot.result
          c.index-refs-k.result c.slot_of.result
          c.slots.invariant.0 c.slots-test.true c.at-slot.ensures c.index-refs-k.is c.slot_of.ensures.value c.slot_of.ensures.leaf,
      subst F (ap (λ (n : ℕ). n + 1) c.at-slot.ensures) c.behind-next.ensures,
    )
