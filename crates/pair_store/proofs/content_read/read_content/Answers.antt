use Rattle.std.proofs.Common.{◌≡◌, ◌≢◌, inl, inr, ℕ, Bool, None, refl, subst}
use Rattle.drives.specs.declared.device.Half.TheVariants.{A, B}
use Rattle.drives.specs.Changes.{halves_seen}
use Rattle.drives.specs.Faults.{HasFailed}
use Rattle.pair_store.specs.Content.{IsSettled, content_of, gate}
use Rattle.pair_store.specs.Found.{IsFound}
use Rattle.pair_store.proofs.ReadCauses.{instead, unread}
use Rattle.pair_store.proofs.SettledLaws.{kept_contents, settled_left, settled_shut_a}
use Rattle.pair_store.proofs.content_read.read_content.Goals as goal

pub returns-in-Ok-true-clause-kept_always : goal.returns-in-Ok-true-clause-kept_always
returns-in-Ok-true-clause-kept_always g c = λ k.
    settled_left g.V.Drives.may_leave c.args.drives.now c.read_both.new.drives (g.V.Drives.moment c.args.drives.now) (g.V.Drives.moment c.read_both.new.drives) k c.read_both.ensures.left

pub returns-in-Ok-false-clause-kept_always : goal.returns-in-Ok-false-clause-kept_always
returns-in-Ok-false-clause-kept_always g c = λ k.
    settled_left g.V.Drives.may_leave c.args.drives.now c.read_both.new.drives (g.V.Drives.moment c.args.drives.now) (g.V.Drives.moment c.read_both.new.drives) k c.read_both.ensures.left

pub returns-in-Err-clause-kept_always : goal.returns-in-Err-clause-kept_always
returns-in-Err-clause-kept_always g c = λ k.
    settled_left g.V.Drives.may_leave c.args.drives.now c.read_both.new.drives (g.V.Drives.moment c.args.drives.now) (g.V.Drives.moment c.read_both.new.drives) k c.read_both.ensures.left

pub returns-in-Ok-true-clause-images : goal.returns-in-Ok-true-clause-images
returns-in-Ok-true-clause-images g c =
    kept_contents g.V.Drives.moment g.V.Drives.may_leave c.args.drives.now c.read_both.new.drives c.read_both.ensures.changes

pub returns-in-Ok-false-clause-images : goal.returns-in-Ok-false-clause-images
returns-in-Ok-false-clause-images g c =
    kept_contents g.V.Drives.moment g.V.Drives.may_leave c.args.drives.now c.read_both.new.drives c.read_both.ensures.changes

pub returns-in-Err-clause-images : goal.returns-in-Err-clause-images
returns-in-Err-clause-images g c =
    kept_contents g.V.Drives.moment g.V.Drives.may_leave c.args.drives.now c.read_both.new.drives c.read_both.ensures.changes

pub returns-in-Err-clause-unread : goal.returns-in-Err-clause-unread
returns-in-Err-clause-unread g c =
    unread (g.V.Drives.faults c.args.drives.now) (g.V.Drives.faults c.read_both.new.drives) (g.V.Drives.last_fault c.read_both.new.drives) (g.V.Drives.moment c.read_both.new.drives)
    (g.V.Drives.tells → IsSettled c.args.n (halves_seen g.V.Drives.seen c.args.drives.now) → content_of (halves_seen g.V.Drives.seen c.args.drives.now) c.args.n ≡ None)
    c.in-Err.half
    (c.in-Err.ensures.cause c.in-Err.half refl)
    c.in-Err.ensures.last_a
    c.in-Err.ensures.last_b
    (λ e tells settled. settled_shut_a c.args.n _ settled (subst (λ (m : ℕ). gate (g.V.Drives.seen c.args.drives.now A) m ≢ 165) c.get.ensures.value (c.in-Err.ensures.unread tells e)))

pub returns-in-Err-clause-reads : goal.returns-in-Err-clause-reads
returns-in-Err-clause-reads g c = λ tells. record {
  found = tt;
  instead = instead (g.V.Drives.faults c.args.drives.now) (g.V.Drives.faults c.read_both.new.drives) (g.V.Drives.last_fault c.read_both.new.drives) (g.V.Drives.moment c.read_both.new.drives)
      c.args.n (halves_seen g.V.Drives.seen c.args.drives.now) c.in-Err.half
      (λ e. elim (c.in-Err.ensures.shut_b e) [
        | inl failed ↦ inl failed
        | inr shut ↦ inr (subst (λ (m : ℕ). gate (g.V.Drives.seen c.args.drives.now B) m ≢ 165) c.get.ensures.value (shut tells))
      ])
      (λ e. subst (λ (m : ℕ). gate (g.V.Drives.seen c.args.drives.now A) m ≢ 165) c.get.ensures.value (c.in-Err.ensures.unread tells e));
}

pub returns-in-Ok-true-clause-reads : goal.returns-in-Ok-true-clause-reads
returns-in-Ok-true-clause-reads g c = λ tells. record {
  found = subst (λ (has : Bool). IsFound has c.args.n c.read_both.new.into (halves_seen g.V.Drives.seen c.args.drives.now)
      (HasFailed (g.V.Drives.faults c.args.drives.now B) (g.V.Drives.faults c.read_both.new.drives B) (g.V.Drives.last_fault c.read_both.new.drives B)))
      c.in-Ok-true.field-0-test
      (subst (λ (m : ℕ). IsFound c.in-Ok-true.field-0 m c.read_both.new.into (halves_seen g.V.Drives.seen c.args.drives.now)
      (HasFailed (g.V.Drives.faults c.args.drives.now B) (g.V.Drives.faults c.read_both.new.drives B) (g.V.Drives.last_fault c.read_both.new.drives B)))
      c.get.ensures.value (c.in-Ok-true.ensures.found tells));
  instead = λ h is. absurd (cc is);
}

pub returns-in-Ok-false-clause-reads : goal.returns-in-Ok-false-clause-reads
returns-in-Ok-false-clause-reads g c = λ tells. record { found = tt; instead = λ h is. absurd (cc is) }
