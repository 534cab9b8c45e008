use Rattle.std.proofs.Common.{ℕ, ◌∙◌, subst}
use Rattle.service_model.specs.declared.journal.Refusal.TheVariants.{Conflict}
use Rattle.super_files.specs.Locks.{IsOpenTo}
use Rattle.session.specs.Answers.{IsRefusing}
use Rattle.session.specs.Own.{IsClashing, IsCommitting}
use Rattle.session.proofs.Choosing.{clashing_owns, conflict_refuses}
use Rattle.session.proofs.Drafts.{has_draft, object_is, serial_is}
use Rattle.session.proofs.Owned.{own_call}
use Rattle.session.proofs.course.Course.refuse_clash.Goals as goal

pub returns-in-Some : goal.returns-in-Some
returns-in-Some g c =
    let clash = c.args.clash.now in
    own_call g.B.Blocks (IsClashing (clash.path, clash.kind)) IsCommitting c.args.script.now c.args.common.now c.refuse_locked.new.common c.args.self.now c.refuse_locked.new.self c.refuse_locked.result
    (λ told. clashing_owns g.B.Blocks (clash.path, clash.kind) c.args.script.now c.args.common.now c.args.self.now) c.refuse_locked.ensures

pub returns : goal.returns
returns g c =
    let b = g.B.Blocks in
    let script = c.args.script.now in
    let common = c.args.common.now in
    let s = c.args.self.now in
    let clash = c.args.clash.now in
    let draft = has_draft b script common s c.requires.ready c.requires.draft in
    own_call b (IsClashing (clash.path, clash.kind)) (IsRefusing (Conflict c.serial.result clash.path clash.kind)) script common c.refuse_commit.new.common s c.refuse_commit.new.self c.refuse_commit.result
    (λ told. conflict_refuses b script common s clash.path clash.kind c.serial.result (c.serial.ensures ∙ serial_is s draft)
    (subst (λ (n : ℕ). IsOpenTo s.client n common.locks) (c.object-object.ensures.value ∙ object_is s draft) c.in_default.ensures)) c.refuse_commit.ensures
