use Rattle.std.proofs.Common.{◌≤◌, ℕ, subst}
use Rattle.service_model.specs.declared.journal.Refusal.TheVariants.{Locked}
use Rattle.session.specs.Answers.{IsRefusing}
use Rattle.session.specs.Own.{IsCommitting}
use Rattle.session.proofs.Choosing.{holder_refuses}
use Rattle.session.proofs.Owned.{own_call}
use Rattle.session.proofs.course.Course.refuse_locked.Goals as goal

pub returns : goal.returns
returns g c =
    let number = c.get-number.ensures in
    own_call g.B.Blocks IsCommitting (IsRefusing (Locked c.args.by)) c.args.script.now c.args.common.now c.refuse_commit.new.common c.args.self.now c.refuse_commit.new.self c.refuse_commit.result
    (λ told. holder_refuses g.B.Blocks c.args.script.now c.args.common.now c.args.self.now c.args.by (subst (λ (n : ℕ). 1 ≤ n) number.value number.low) c.requires.other c.requires.holds)
    c.refuse_commit.ensures
