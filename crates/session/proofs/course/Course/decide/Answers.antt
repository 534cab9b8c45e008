use Rattle.std.proofs.Common.{◌≤◌, ◌<◌, ◌≡◌, ℕ, ◌∙◌, subst}
use Rattle.page_codec.specs.declared.why.Why.TheVariants.{Object}
use Rattle.super_files.specs.Locks.{IsOpenTo}
use Rattle.session.specs.Names.{HasNoHead, IsHead}
use Rattle.session.specs.Own.{IsBehind, IsCommitting, IsDeciding, IsMerged}
use Rattle.session.specs.Safe.{serial_of}
use Rattle.session.proofs.Choosing.{behind_owns, deciding_owns, merged_owns, none_told}
use Rattle.session.proofs.Drafts.{has_draft, object_is, serial_is}
use Rattle.session.proofs.Never.{never_call}
use Rattle.session.proofs.Owned.{own_call}
use Rattle.session.proofs.course.Course.decide.Goals as goal

pub returns-in-Some : goal.returns-in-Some
returns-in-Some g c =
    own_call g.B.Blocks IsMerged IsCommitting c.args.script.now c.args.common.now c.refuse_locked.new.common c.args.self.now c.refuse_locked.new.self c.refuse_locked.result
    (λ told. merged_owns g.B.Blocks c.args.script.now c.args.common.now c.args.self.now) c.refuse_locked.ensures

pub returns-in-Some-head : goal.returns-in-Some-head
returns-in-Some-head g c =
    let b = g.B.Blocks in
    let script = c.args.script.now in
    let common = c.args.common.now in
    let s = c.args.self.now in
    let draft = has_draft b script common s c.requires.ready c.requires.draft in
    let object = c.object-object.ensures.value ∙ object_is s draft in
    let serial : c.serial.result ≡ serial_of s = c.serial.ensures ∙ serial_is s draft in
    let less : c.serial.result < c.in-Some-head.head.serial = c.if-serial-head.true in
    own_call b IsMerged IsBehind script common c.find_next.new.common s c.find_next.new.self c.find_next.result
    (λ told. behind_owns b script common s (subst (λ (n : ℕ). IsOpenTo s.client n common.locks) object c.in_default.ensures) c.in-Some-head.head
    (subst (λ (n : ℕ). IsHead common.heads.items n c.in-Some-head.head) object c.in-Some-head.ensures) (subst (λ (n : ℕ). n < c.in-Some-head.head.serial) serial less))
    (c.find_next.ensures script c.requires.ready)

pub returns-in-Some-2 : goal.returns-in-Some-2
returns-in-Some-2 g c =
    let b = g.B.Blocks in
    let script = c.args.script.now in
    let common = c.args.common.now in
    let s = c.args.self.now in
    let draft = has_draft b script common s c.requires.ready c.requires.draft in
    let object = c.object-object.ensures.value ∙ object_is s draft in
    let serial : c.serial.result ≡ serial_of s = c.serial.ensures ∙ serial_is s draft in
    let most : c.in-Some-head.head.serial ≤ c.serial.result = c.if-serial-head.false in
    own_call b IsMerged IsDeciding script common c.take_blocks.new.common s c.take_blocks.new.self c.take_blocks.result
    (λ told. deciding_owns b script common s (subst (λ (n : ℕ). IsOpenTo s.client n common.locks) object c.in_default.ensures) c.in-Some-head.head
    (subst (λ (n : ℕ). IsHead common.heads.items n c.in-Some-head.head) object c.in-Some-head.ensures) (subst (λ (n : ℕ). c.in-Some-head.head.serial ≤ n) serial most))
    c.take_blocks.ensures

pub returns-in-None : goal.returns-in-None
returns-in-None g c =
    let b = g.B.Blocks in
    let script = c.args.script.now in
    let common = c.args.common.now in
    let s = c.args.self.now in
    let draft = has_draft b script common s c.requires.ready c.requires.draft in
    let object = c.object-object.ensures.value ∙ object_is s draft in
    never_call b IsMerged script common s c.root-block.result Object c.requires.ready
    (λ told. none_told b script common s (subst (λ (n : ℕ). HasNoHead common.heads.items n) object c.in-None.ensures))
