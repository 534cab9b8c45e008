use Rattle.std.proofs.Common.{◌<◌, ◌≤◌, List, sym, subst, lit<}
use Rattle.super_files.specs.declared.locks.Lock.{Lock}
use Rattle.super_files.specs.Locks.{IsOpenTo, held_count, AreLocks}
use Rattle.super_files.proofs.Holding.{room, locks_more}
use Rattle.super_files.proofs.locks.Locks.lock.Goals as goal

pub push-requires : goal.push-requires
push-requires c =
    let P : List Lock → Type 0 = λ xs. IsOpenTo c.args.lock.client c.args.lock.object xs in
    let Q : List Lock → Type 0 = λ xs. held_count c.args.lock.client xs < 17 in (
      lit< tt,
      room c.self.inside.list.items c.args.lock c.self.invariant (subst P (sym c.self.view_is) c.in-None.ensures) (subst Q (sym c.self.view_is) c.requires)
          (subst (λ n. 1 ≤ n) c.get-number.ensures.value c.get-number.ensures.low) (subst (λ n. n ≤ 16) c.get-number.ensures.value c.get-number.ensures.high),
    )

pub invariant_of-self : goal.invariant_of-self
invariant_of-self c =
    let P : List Lock → Type 0 = λ xs. IsOpenTo c.args.lock.client c.args.lock.object xs in
    let Q : List Lock → Type 0 = λ xs. held_count c.args.lock.client xs < 17 in
    subst AreLocks (sym c.push.ensures.items)
    (locks_more c.self.inside.list.items c.args.lock c.self.invariant (subst P (sym c.self.view_is) c.in-None.ensures)
    (subst Q (sym c.self.view_is) c.requires) (subst (λ n. 1 ≤ n) c.get-number.ensures.value c.get-number.ensures.low) (subst (λ n. n ≤ 16) c.get-number.ensures.value c.get-number.ensures.high))
