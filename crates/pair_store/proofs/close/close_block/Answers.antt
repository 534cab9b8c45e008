use Rattle.std.proofs.Common.{ℕ, subst}
use Rattle.drives.specs.declared.device.Half.{Half}
use Rattle.drives.specs.Changes.{Changes, HalvesLeft, OnHalves, halves_seen}
use Rattle.pair_store.specs.Closing.{IsShutting}
use Rattle.pair_store.specs.Stages.{IsKnownGate, SameElsewhere}
use Rattle.pair_store.proofs.ClosingLaws.{shutting_contents, shutting_elsewhere, shutting_viewed}
use Rattle.pair_store.proofs.SettledLaws.{other_contents, other_settled, settled_elsewhere}
use Rattle.pair_store.proofs.close.close_block.Goals as goal

pub returns-clause-contents : goal.returns-clause-contents
returns-clause-contents g c = λ tells.
    let seen = subst (λ (m : ℕ). IsShutting m (halves_seen g.V.Drives.seen c.args.drives.now) (halves_seen g.V.Drives.seen c.close_both.new.drives)) c.get.ensures.value (c.close_both.ensures.seen tells) in
    shutting_contents c.args.n (halves_seen g.V.Drives.seen c.args.drives.now) (halves_seen g.V.Drives.seen c.close_both.new.drives) seen

pub returns-clause-kept : goal.returns-clause-kept
returns-clause-kept g c = λ tells k ne.
    let old = halves_seen g.V.Drives.seen c.args.drives.now in
    let new = halves_seen g.V.Drives.seen c.close_both.new.drives in
    let seen = subst (λ (m : ℕ). IsShutting m old new) c.get.ensures.value (c.close_both.ensures.seen tells) in
    let elsewhere = shutting_elsewhere c.args.n old new seen in
    let same = settled_elsewhere c.args.n k old new ne elsewhere.0 elsewhere.1 in
    (same.1, same.0)

pub returns-clause-kept_always : goal.returns-clause-kept_always
returns-clause-kept_always g c =
    other_settled g.V.Drives.moment g.V.Drives.may_leave c.args.drives.now c.close_both.new.drives c.args.n
    (subst (λ (m : ℕ). Changes g.V.Drives.moment (HalvesLeft g.V.Drives.may_leave) c.args.drives.now c.close_both.new.drives (OnHalves (λ h x y. SameElsewhere m x y))) c.get.ensures.value c.close_both.ensures.elsewhere)

pub returns-clause-images : goal.returns-clause-images
returns-clause-images g c = λ tells known.
    let old = c.args.drives.now in
    let new = c.close_both.new.drives in
    let shutting = subst (λ (m : ℕ). ((h : Half) → IsKnownGate g.V.Drives.seen g.V.Drives.moment g.V.Drives.may_leave old h m) → Changes g.V.Drives.moment (HalvesLeft g.V.Drives.may_leave) old new (IsShutting m)) c.get.ensures.value (c.close_both.ensures.shutting tells) in
    shutting_viewed g.V.Drives.moment g.V.Drives.may_leave c.args.n old new (shutting known)

pub returns-clause-images_others : goal.returns-clause-images_others
returns-clause-images_others g c =
    other_contents g.V.Drives.moment g.V.Drives.may_leave c.args.drives.now c.close_both.new.drives c.args.n
    (subst (λ (m : ℕ). Changes g.V.Drives.moment (HalvesLeft g.V.Drives.may_leave) c.args.drives.now c.close_both.new.drives (OnHalves (λ h x y. SameElsewhere m x y))) c.get.ensures.value c.close_both.ensures.elsewhere)
