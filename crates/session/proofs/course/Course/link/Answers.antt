use Rattle.session.specs.Own.{IsCommitting, IsWritingBy}
use Rattle.session.proofs.Owned.{own_call}
use Rattle.session.proofs.course.Course.link.Goals as goal

pub returns-in-Some : goal.returns-in-Some
returns-in-Some g c =
    own_call g.B.Blocks (IsWritingBy c.args.flush.now) IsCommitting c.args.script.now c.args.common.now c.refuse_locked.new.common c.args.self.now c.refuse_locked.new.self c.refuse_locked.result
    (λ told opening scripts first scene is. (let m = is.mine.merged in record { update = m.update; work = m.work; committing = m.committing })) c.refuse_locked.ensures
