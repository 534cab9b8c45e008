use Rattle.std.proofs.Common.{◌≡◌, ◌+◌, ◌*◌, ◌≤◌, ℕ, length, OnOk, arith, subst, ◌∙◌}
use Rattle.std.proofs.lemmas.Result.{on_ok_weaker}
use Rattle.drives.specs.declared.device.Half.{Half}
use Rattle.drives.specs.declared.device.Half.TheVariants.{A, B}
use Rattle.drives.specs.Changes.{Changes, Halves, HalvesLeft, OnHalves, halves_seen}
use Rattle.pair_store.specs.Blocks.{OldOrNew}
use Rattle.pair_store.specs.Content.{IsSettled, content_of}
use Rattle.pair_store.specs.Stages.{HasBody, SameElsewhere}
use Rattle.pair_store.proofs.Contents.{body_content, others_content}
use Rattle.pair_store.proofs.SettledLaws.{other_contents, other_settled, settled_body, settled_elsewhere}
use Rattle.pair_store.proofs.content_write.write_content.Goals as goal

pub returns-clause-written : goal.returns-clause-written
returns-clause-written g c = λ tells.
    let new = c.write_both.new.drives in
    let n = c.args.n in
    let is = c.get.ensures.value in
    let full : length c.args.body.now ≡ 1024 = omega arith in
    let whole : 1024 * n + 1024 ≤ length (g.V.Drives.seen new B) = omega (arith, g.met.V.Drives.whole new B tells, c.write_both.ensures.size, c.requires.block) in
    let seen = subst (λ (m : ℕ). OnOk c.write_both.result ((h : Half) → HasBody m c.args.body.now (g.V.Drives.seen new h))) is (c.write_both.ensures.seen tells) in
    on_ok_weaker c.write_both.result (λ has. body_content n c.args.body.now (halves_seen g.V.Drives.seen new) full whole c.requires.open (has B)) seen

pub returns-clause-settles : goal.returns-clause-settles
returns-clause-settles g c = λ tells.
    let new = c.write_both.new.drives in
    let n = c.args.n in
    let is = c.get.ensures.value in
    let full : length c.args.body.now ≡ 1024 = omega arith in
    let whole_a : 1024 * n + 1024 ≤ length (g.V.Drives.seen new A) = omega (arith, g.met.V.Drives.whole new A tells, c.write_both.ensures.size, c.requires.block) in
    let whole_b : 1024 * n + 1024 ≤ length (g.V.Drives.seen new B) = omega (arith, g.met.V.Drives.whole new B tells, c.write_both.ensures.size, c.requires.block) in
    let seen = subst (λ (m : ℕ). OnOk c.write_both.result ((h : Half) → HasBody m c.args.body.now (g.V.Drives.seen new h))) is (c.write_both.ensures.seen tells) in
    on_ok_weaker c.write_both.result (λ has. settled_body n c.args.body.now (halves_seen g.V.Drives.seen new) full whole_a whole_b c.requires.open (has A) (has B)) seen

pub returns-clause-others : goal.returns-clause-others
returns-clause-others g c = λ tells k ne.
    let range = subst (λ (m : ℕ). (h : Half) → SameElsewhere m (g.V.Drives.seen c.args.drives.now h) (g.V.Drives.seen c.write_both.new.drives h)) c.get.ensures.value (c.write_both.ensures.range tells) in
    others_content c.args.n k (halves_seen g.V.Drives.seen c.args.drives.now) (halves_seen g.V.Drives.seen c.write_both.new.drives) ne (range A) (range B)

pub returns-clause-kept : goal.returns-clause-kept
returns-clause-kept g c = λ tells k ne.
    let range = subst (λ (m : ℕ). (h : Half) → SameElsewhere m (g.V.Drives.seen c.args.drives.now h) (g.V.Drives.seen c.write_both.new.drives h)) c.get.ensures.value (c.write_both.ensures.range tells) in
    let same = settled_elsewhere c.args.n k (halves_seen g.V.Drives.seen c.args.drives.now) (halves_seen g.V.Drives.seen c.write_both.new.drives) ne (range A) (range B) in
    (same.1, same.0)

pub returns-clause-settles_always : goal.returns-clause-settles_always
returns-clause-settles_always g c = λ tells.
    let new = c.write_both.new.drives in
    let n = c.args.n in
    let full : length c.args.body.now ≡ 1024 = omega arith in
    let left = g.V.Drives.may_leave in
    let now = g.V.Drives.moment new in
    let on_disk = subst (λ (m : ℕ). OnOk c.write_both.result ((x : Halves) → HalvesLeft left new now x → HasBody m c.args.body.now x.a × HasBody m c.args.body.now x.b)) c.get.ensures.value (c.write_both.ensures.done tells) in
    on_ok_weaker c.write_both.result (λ has x image.
    let both = has x image in
    let whole_a : 1024 * n + 1024 ≤ length x.a = omega (arith, g.met.V.Drives.left_whole new A x.a image.0, c.write_both.ensures.size, c.requires.block) in
    let whole_b : 1024 * n + 1024 ≤ length x.b = omega (arith, g.met.V.Drives.left_whole new B x.b image.1, c.write_both.ensures.size, c.requires.block) in
    settled_body n c.args.body.now x full whole_a whole_b c.requires.open both.0 both.1) on_disk

pub returns-clause-images_done : goal.returns-clause-images_done
returns-clause-images_done g c = λ tells.
    let new = c.write_both.new.drives in
    let n = c.args.n in
    let full : length c.args.body.now ≡ 1024 = omega arith in
    let left = g.V.Drives.may_leave in
    let now = g.V.Drives.moment new in
    let on_disk = subst (λ (m : ℕ). OnOk c.write_both.result ((x : Halves) → HalvesLeft left new now x → HasBody m c.args.body.now x.a × HasBody m c.args.body.now x.b)) c.get.ensures.value (c.write_both.ensures.done tells) in
    on_ok_weaker c.write_both.result (λ has f image.
    let x = image.0 in
    let both = has x image.1 in
    let whole : 1024 * n + 1024 ≤ length x.b = omega (arith, g.met.V.Drives.left_whole new B x.b image.1.1, c.write_both.ensures.size, c.requires.block) in
    image.2 n ∙ body_content n c.args.body.now x full whole c.requires.open both.1) on_disk

pub returns-clause-kept_always : goal.returns-clause-kept_always
returns-clause-kept_always g c =
    other_settled g.V.Drives.moment g.V.Drives.may_leave c.args.drives.now c.write_both.new.drives c.args.n
    (subst (λ (m : ℕ). Changes g.V.Drives.moment (HalvesLeft g.V.Drives.may_leave) c.args.drives.now c.write_both.new.drives (OnHalves (λ h x y. SameElsewhere m x y))) c.get.ensures.value c.write_both.ensures.elsewhere)

pub returns-clause-images_others : goal.returns-clause-images_others
returns-clause-images_others g c =
    other_contents g.V.Drives.moment g.V.Drives.may_leave c.args.drives.now c.write_both.new.drives c.args.n
    (subst (λ (m : ℕ). Changes g.V.Drives.moment (HalvesLeft g.V.Drives.may_leave) c.args.drives.now c.write_both.new.drives (OnHalves (λ h x y. SameElsewhere m x y))) c.get.ensures.value c.write_both.ensures.elsewhere)

pub returns-clause-either : goal.returns-clause-either
returns-clause-either g c =
    let before = halves_seen g.V.Drives.seen c.args.drives.now in
    let after = halves_seen g.V.Drives.seen c.write_both.new.drives in
    λ tells settled. subst (λ (m : ℕ). IsSettled m before → OldOrNew m c.args.body.now (content_of before) (content_of after)) c.get.ensures.value (c.write_both.ensures.either tells) settled
