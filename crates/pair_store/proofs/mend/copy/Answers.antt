use Rattle.std.proofs.Common.{◌≡◌, ◌+◌, ◌*◌, ◌≤◌, length, arith, ap, subst, ◌∙◌}
use Rattle.drives.specs.declared.device.Half.{Half}
use Rattle.drives.specs.declared.device.Half.TheVariants.{A, B}
use Rattle.drives.specs.Half.{other}
use Rattle.drives.specs.Crash.{LeavesOnly}
use Rattle.drives.specs.Changes.{Changes, HalvesLeft, OnHalves, halves_seen}
use Rattle.pair_store.specs.Stages.{At, HasBody, SameElsewhere}
use Rattle.pair_store.proofs.HalfWriting.{Staged}
use Rattle.pair_store.proofs.MendLaws.{copy_elsewhere, copy_images, copy_settles, copying_keeps, other_other, rest_after, rest_known, seen_copying, seen_range}
use Rattle.pair_store.proofs.SettledLaws.{other_contents, other_settled, settled_elsewhere}
use Rattle.pair_store.proofs.mend.copy.Goals as goal

pub returns-in-Ok-clause-contents : goal.returns-in-Ok-clause-contents
returns-in-Ok-clause-contents g c = λ tells plan.
    let old = c.args.drives.now in
    let new = c.write_half.new.drives in
    let from = c.args.from in
    let n = c.args.n in
    let body = c.args.body.now in
    let seen = g.V.Drives.seen in
    let full : length body ≡ 1024 = omega arith in
    let whole : 1024 * n + 1024 ≤ length (seen old B) = omega (arith, g.met.V.Drives.whole old B tells, c.requires.block) in
    let kept = subst (λ (h : Half). seen new h ≡ seen old h) (ap (λ (h : Half). other h) c.other-to.ensures ∙ other_other from) (c.write_half.ensures.other_same tells) in
    let staged = subst (λ (h : Half). Staged n body (seen old h) (seen new h)) c.other-to.ensures (c.write_half.ensures.range tells, c.write_half.ensures.seen_stages tells) in
    copying_keeps from n body (halves_seen seen old) (halves_seen seen new) full whole c.requires.open plan (seen_copying from n body (λ h. seen old h) (λ h. seen new h) kept staged)

pub returns-in-Ok-clause-kept : goal.returns-in-Ok-clause-kept
returns-in-Ok-clause-kept g c = λ tells k ne.
    let old = c.args.drives.now in
    let new = c.write_half.new.drives in
    let from = c.args.from in
    let n = c.args.n in
    let body = c.args.body.now in
    let seen = g.V.Drives.seen in
    let kept = subst (λ (h : Half). seen new h ≡ seen old h) (ap (λ (h : Half). other h) c.other-to.ensures ∙ other_other from) (c.write_half.ensures.other_same tells) in
    let range = subst (λ (h : Half). SameElsewhere n (seen old h) (seen new h)) c.other-to.ensures (c.write_half.ensures.range tells) in
    let each = seen_range from n (λ h. seen old h) (λ h. seen new h) kept range in
    let same = settled_elsewhere n k (halves_seen seen old) (halves_seen seen new) ne each.0 each.1 in
    (same.1, same.0)

pub returns-in-Ok-clause-kept_always : goal.returns-in-Ok-clause-kept_always
returns-in-Ok-clause-kept_always g c =
    other_settled g.V.Drives.moment g.V.Drives.may_leave c.args.drives.now c.write_half.new.drives c.args.n
    (copy_elsewhere g.V.Drives.seen g.V.Drives.moment g.V.Drives.may_leave c.args.drives.now c.write_half.new.drives _ c.args.n c.write_half.ensures.changes)

pub returns-in-Ok-clause-images : goal.returns-in-Ok-clause-images
returns-in-Ok-clause-images g c = λ tells rest plan.
    let old = c.args.drives.now in
    let new = c.write_half.new.drives in
    let from = c.args.from in
    let n = c.args.n in
    let body = c.args.body.now in
    let full : length body ≡ 1024 = omega arith in
    let whole : 1024 * n + 1024 ≤ length (g.V.Drives.seen old B) = omega (arith, g.met.V.Drives.whole old B tells, c.requires.block) in
    let known = rest_known g.V.Drives.seen g.V.Drives.moment g.V.Drives.may_leave old c.other-to.result n rest in
    let stages = subst (λ (h : Half). Changes g.V.Drives.moment (HalvesLeft g.V.Drives.may_leave) old new (OnHalves (At h (Staged n body)))) c.other-to.ensures (c.write_half.ensures.stages tells known) in
    copy_images g.V.Drives.seen g.V.Drives.moment g.V.Drives.may_leave old new from n body full whole c.requires.open rest plan stages

pub returns-in-Ok-clause-images_others : goal.returns-in-Ok-clause-images_others
returns-in-Ok-clause-images_others g c =
    other_contents g.V.Drives.moment g.V.Drives.may_leave c.args.drives.now c.write_half.new.drives c.args.n
    (copy_elsewhere g.V.Drives.seen g.V.Drives.moment g.V.Drives.may_leave c.args.drives.now c.write_half.new.drives _ c.args.n c.write_half.ensures.changes)

pub returns-in-Err-clause-contents : goal.returns-in-Err-clause-contents
returns-in-Err-clause-contents g c = λ tells plan.
    let old = c.args.drives.now in
    let new = c.write_half.new.drives in
    let from = c.args.from in
    let n = c.args.n in
    let body = c.args.body.now in
    let seen = g.V.Drives.seen in
    let full : length body ≡ 1024 = omega arith in
    let whole : 1024 * n + 1024 ≤ length (seen old B) = omega (arith, g.met.V.Drives.whole old B tells, c.requires.block) in
    let kept = subst (λ (h : Half). seen new h ≡ seen old h) (ap (λ (h : Half). other h) c.other-to.ensures ∙ other_other from) (c.write_half.ensures.other_same tells) in
    let staged = subst (λ (h : Half). Staged n body (seen old h) (seen new h)) c.other-to.ensures (c.write_half.ensures.range tells, c.write_half.ensures.seen_stages tells) in
    copying_keeps from n body (halves_seen seen old) (halves_seen seen new) full whole c.requires.open plan (seen_copying from n body (λ h. seen old h) (λ h. seen new h) kept staged)

pub returns-in-Err-clause-kept : goal.returns-in-Err-clause-kept
returns-in-Err-clause-kept g c = λ tells k ne.
    let old = c.args.drives.now in
    let new = c.write_half.new.drives in
    let from = c.args.from in
    let n = c.args.n in
    let body = c.args.body.now in
    let seen = g.V.Drives.seen in
    let kept = subst (λ (h : Half). seen new h ≡ seen old h) (ap (λ (h : Half). other h) c.other-to.ensures ∙ other_other from) (c.write_half.ensures.other_same tells) in
    let range = subst (λ (h : Half). SameElsewhere n (seen old h) (seen new h)) c.other-to.ensures (c.write_half.ensures.range tells) in
    let each = seen_range from n (λ h. seen old h) (λ h. seen new h) kept range in
    let same = settled_elsewhere n k (halves_seen seen old) (halves_seen seen new) ne each.0 each.1 in
    (same.1, same.0)

pub returns-in-Err-clause-kept_always : goal.returns-in-Err-clause-kept_always
returns-in-Err-clause-kept_always g c =
    other_settled g.V.Drives.moment g.V.Drives.may_leave c.args.drives.now c.write_half.new.drives c.args.n
    (copy_elsewhere g.V.Drives.seen g.V.Drives.moment g.V.Drives.may_leave c.args.drives.now c.write_half.new.drives _ c.args.n c.write_half.ensures.changes)

pub returns-in-Err-clause-images : goal.returns-in-Err-clause-images
returns-in-Err-clause-images g c = λ tells rest plan.
    let old = c.args.drives.now in
    let new = c.write_half.new.drives in
    let from = c.args.from in
    let n = c.args.n in
    let body = c.args.body.now in
    let full : length body ≡ 1024 = omega arith in
    let whole : 1024 * n + 1024 ≤ length (g.V.Drives.seen old B) = omega (arith, g.met.V.Drives.whole old B tells, c.requires.block) in
    let known = rest_known g.V.Drives.seen g.V.Drives.moment g.V.Drives.may_leave old c.other-to.result n rest in
    let stages = subst (λ (h : Half). Changes g.V.Drives.moment (HalvesLeft g.V.Drives.may_leave) old new (OnHalves (At h (Staged n body)))) c.other-to.ensures (c.write_half.ensures.stages tells known) in
    copy_images g.V.Drives.seen g.V.Drives.moment g.V.Drives.may_leave old new from n body full whole c.requires.open rest plan stages

pub returns-in-Err-clause-images_others : goal.returns-in-Err-clause-images_others
returns-in-Err-clause-images_others g c =
    other_contents g.V.Drives.moment g.V.Drives.may_leave c.args.drives.now c.write_half.new.drives c.args.n
    (copy_elsewhere g.V.Drives.seen g.V.Drives.moment g.V.Drives.may_leave c.args.drives.now c.write_half.new.drives _ c.args.n c.write_half.ensures.changes)

pub returns-in-Ok-clause-settles : goal.returns-in-Ok-clause-settles
returns-in-Ok-clause-settles g c = λ tells plan.
    let old = c.args.drives.now in
    let new = c.write_half.new.drives in
    let from = c.args.from in
    let n = c.args.n in
    let body = c.args.body.now in
    let seen = g.V.Drives.seen in
    let full : length body ≡ 1024 = omega arith in
    let whole_a : 1024 * n + 1024 ≤ length (seen new A) = omega (arith, g.met.V.Drives.whole new A tells, c.write_half.ensures.size, c.requires.block) in
    let whole_b : 1024 * n + 1024 ≤ length (seen new B) = omega (arith, g.met.V.Drives.whole new B tells, c.write_half.ensures.size, c.requires.block) in
    let kept = subst (λ (h : Half). seen new h ≡ seen old h) (ap (λ (h : Half). other h) c.other-to.ensures ∙ other_other from) (c.write_half.ensures.other_same tells) in
    let has = subst (λ (h : Half). HasBody n body (seen new h)) c.other-to.ensures (c.in-Ok.ensures.written tells) in
    copy_settles from n body (λ h. seen old h) (λ h. seen new h) full whole_a whole_b c.requires.open plan kept has

pub returns-in-Ok-clause-rest : goal.returns-in-Ok-clause-rest
returns-in-Ok-clause-rest g c = λ tells rest.
    let old = c.args.drives.now in
    let new = c.write_half.new.drives in
    let from = c.args.from in
    let n = c.args.n in
    let seen = g.V.Drives.seen in
    let kept = subst (λ (h : Half). seen new h ≡ seen old h) (ap (λ (h : Half). other h) c.other-to.ensures ∙ other_other from) (c.write_half.ensures.other_same tells) in
    let durable = subst (λ (h : Half). LeavesOnly (seen new h) (g.V.Drives.may_leave new h (g.V.Drives.moment new))) c.other-to.ensures (c.in-Ok.ensures.durable tells) in
    let changes = subst (λ (h : Half). Changes g.V.Drives.moment (HalvesLeft g.V.Drives.may_leave) old new (OnHalves (At h (SameElsewhere n)))) c.other-to.ensures c.write_half.ensures.changes in
    rest_after seen g.V.Drives.moment g.V.Drives.may_leave old new (SameElsewhere n) from rest kept durable (g.met.V.Drives.left_read new (other from) tells) changes
