use Rattle.std.proofs.Common.{◌≡◌, ◌*◌, ℕ, List, length, arith, subst, sym}
use Rattle.drives.specs.declared.device.Half.TheVariants.{A, B}
use Rattle.drives.specs.Changes.{halves_seen}
use Rattle.drives.proofs.Halves.{each_half}
use Rattle.pair_store.specs.Stages.{HasBody, SameElsewhere}
use Rattle.pair_store.proofs.BothWriting.{body_either, both_contents, both_elsewhere, first_contents, known_b, stage_either}
use Rattle.pair_store.proofs.RestLaws.{rest_both}
use Rattle.pair_store.proofs.both.write_both.Goals as goal

pub returns-in-Err-clause-images : goal.returns-in-Err-clause-images
returns-in-Err-clause-images g c = λ tells settled.
    let old = c.args.drives.now in
    let now = g.V.Drives.moment in
    let left = g.V.Drives.may_leave in
    let full : length c.args.body.now ≡ 1024 = omega arith in
    let known = known_b now left c.args.n c.args.body.now old (g.V.Drives.seen old A) (g.V.Drives.seen old B) (g.met.V.Drives.left_read old A tells) (g.met.V.Drives.left_read old B tells) settled in
    first_contents now left c.args.n c.args.body.now old (g.V.Drives.size old) (λ h x image. g.met.V.Drives.left_whole old h x image) c.requires.block full c.requires.open settled
    c.write_half.new.drives (c.write_half.ensures.stages tells known)

pub returns-in-Ok-write_half-clause-images : goal.returns-in-Ok-write_half-clause-images
returns-in-Ok-write_half-clause-images g c = λ tells settled.
    let old = c.args.drives.now in
    let mid = c.write_half.new.drives in
    let now = g.V.Drives.moment in
    let left = g.V.Drives.may_leave in
    let full : length c.args.body.now ≡ 1024 = omega arith in
    let known = known_b now left c.args.n c.args.body.now old (g.V.Drives.seen old A) (g.V.Drives.seen old B) (g.met.V.Drives.left_read old A tells) (g.met.V.Drives.left_read old B tells) settled in
    let on_disk = λ (x : List ℕ) (image : left mid B (now mid) x). subst (λ (y : List ℕ). HasBody c.args.n c.args.body.now y) (sym (c.in-Ok.ensures.durable tells x image)) (c.in-Ok.ensures.written tells) in
    both_contents now left c.args.n c.args.body.now old (g.V.Drives.size old) (λ h x image. g.met.V.Drives.left_whole old h x image) c.requires.block full c.requires.open settled
    mid c.write_half-2.new.drives (c.write_half.ensures.stages tells known) c.write_half.ensures.changes on_disk c.write_half-2.ensures.changes

pub returns-in-Err-write_half-clause-images : goal.returns-in-Err-write_half-clause-images
returns-in-Err-write_half-clause-images g c = λ tells settled.
    let old = c.args.drives.now in
    let mid = c.write_half.new.drives in
    let now = g.V.Drives.moment in
    let left = g.V.Drives.may_leave in
    let full : length c.args.body.now ≡ 1024 = omega arith in
    let known = known_b now left c.args.n c.args.body.now old (g.V.Drives.seen old A) (g.V.Drives.seen old B) (g.met.V.Drives.left_read old A tells) (g.met.V.Drives.left_read old B tells) settled in
    let on_disk = λ (x : List ℕ) (image : left mid B (now mid) x). subst (λ (y : List ℕ). HasBody c.args.n c.args.body.now y) (sym (c.in-Ok.ensures.durable tells x image)) (c.in-Ok.ensures.written tells) in
    both_contents now left c.args.n c.args.body.now old (g.V.Drives.size old) (λ h x image. g.met.V.Drives.left_whole old h x image) c.requires.block full c.requires.open settled
    mid c.write_half-2.new.drives (c.write_half.ensures.stages tells known) c.write_half.ensures.changes on_disk c.write_half-2.ensures.changes

pub returns-in-Ok-write_half-clause-elsewhere : goal.returns-in-Ok-write_half-clause-elsewhere
returns-in-Ok-write_half-clause-elsewhere g c =
    both_elsewhere g.V.Drives.moment g.V.Drives.may_leave c.args.n c.args.body.now c.args.drives.now c.write_half.new.drives c.write_half-2.new.drives c.write_half.ensures.changes c.write_half-2.ensures.changes

pub returns-in-Err-write_half-clause-elsewhere : goal.returns-in-Err-write_half-clause-elsewhere
returns-in-Err-write_half-clause-elsewhere g c =
    both_elsewhere g.V.Drives.moment g.V.Drives.may_leave c.args.n c.args.body.now c.args.drives.now c.write_half.new.drives c.write_half-2.new.drives c.write_half.ensures.changes c.write_half-2.ensures.changes

pub returns-in-Ok-write_half-clause-range : goal.returns-in-Ok-write_half-clause-range
returns-in-Ok-write_half-clause-range g c = λ tells.
    let old = c.args.drives.now in
    let new = c.write_half-2.new.drives in
    each_half _
    (subst (λ (w : List ℕ). SameElsewhere c.args.n w (g.V.Drives.seen new A)) (c.write_half.ensures.other_same tells) (c.write_half-2.ensures.range tells))
    (subst (λ (w : List ℕ). SameElsewhere c.args.n (g.V.Drives.seen old B) w) (sym (c.write_half-2.ensures.other_same tells)) (c.write_half.ensures.range tells))

pub returns-in-Err-clause-either : goal.returns-in-Err-clause-either
returns-in-Err-clause-either g c = λ tells settled.
    let old = c.args.drives.now in
    let full : length c.args.body.now ≡ 1024 = omega arith in
    stage_either c.args.n c.args.body.now (g.V.Drives.size old) (halves_seen g.V.Drives.seen old) (halves_seen g.V.Drives.seen c.write_half.new.drives)
    full (g.met.V.Drives.whole old B tells) c.requires.block c.requires.open settled
    (c.write_half.ensures.other_same tells) (c.write_half.ensures.range tells) (c.write_half.ensures.seen_stages tells)

pub returns-in-Ok-write_half-clause-either : goal.returns-in-Ok-write_half-clause-either
returns-in-Ok-write_half-clause-either g c = λ tells settled.
    let old = c.args.drives.now in
    let new = c.write_half-2.new.drives in
    let full : length c.args.body.now ≡ 1024 = omega arith in
    let whole : length (g.V.Drives.seen new B) ≡ 1024 * g.V.Drives.size old = omega (arith, g.met.V.Drives.whole new B tells, c.write_half.ensures.size, c.write_half-2.ensures.size) in
    body_either c.args.n c.args.body.now (g.V.Drives.size old) (halves_seen g.V.Drives.seen old) (halves_seen g.V.Drives.seen new)
    full whole c.requires.block c.requires.open
    (subst (λ (w : List ℕ). SameElsewhere c.args.n w (g.V.Drives.seen new A)) (c.write_half.ensures.other_same tells) (c.write_half-2.ensures.range tells))
    (subst (λ (w : List ℕ). SameElsewhere c.args.n (g.V.Drives.seen old B) w) (sym (c.write_half-2.ensures.other_same tells)) (c.write_half.ensures.range tells))
    (subst (λ (w : List ℕ). HasBody c.args.n c.args.body.now w) (sym (c.write_half-2.ensures.other_same tells)) (c.in-Ok.ensures.written tells))

pub returns-in-Err-write_half-clause-either : goal.returns-in-Err-write_half-clause-either
returns-in-Err-write_half-clause-either g c = λ tells settled.
    let old = c.args.drives.now in
    let new = c.write_half-2.new.drives in
    let full : length c.args.body.now ≡ 1024 = omega arith in
    let whole : length (g.V.Drives.seen new B) ≡ 1024 * g.V.Drives.size old = omega (arith, g.met.V.Drives.whole new B tells, c.write_half.ensures.size, c.write_half-2.ensures.size) in
    body_either c.args.n c.args.body.now (g.V.Drives.size old) (halves_seen g.V.Drives.seen old) (halves_seen g.V.Drives.seen new)
    full whole c.requires.block c.requires.open
    (subst (λ (w : List ℕ). SameElsewhere c.args.n w (g.V.Drives.seen new A)) (c.write_half.ensures.other_same tells) (c.write_half-2.ensures.range tells))
    (subst (λ (w : List ℕ). SameElsewhere c.args.n (g.V.Drives.seen old B) w) (sym (c.write_half-2.ensures.other_same tells)) (c.write_half.ensures.range tells))
    (subst (λ (w : List ℕ). HasBody c.args.n c.args.body.now w) (sym (c.write_half-2.ensures.other_same tells)) (c.in-Ok.ensures.written tells))

pub returns-in-Ok-write_half-clause-rest : goal.returns-in-Ok-write_half-clause-rest
returns-in-Ok-write_half-clause-rest g c = λ tells.
    let new = c.write_half-2.new.drives in
    rest_both g.V.Drives.seen g.V.Drives.moment g.V.Drives.may_leave c.args.n c.write_half.new.drives new
    (g.met.V.Drives.left_read new A tells) (c.in-Ok.ensures.durable tells) (c.in-Ok-write_half.ensures.durable tells)
    (c.write_half-2.ensures.other_same tells) c.write_half-2.ensures.changes
