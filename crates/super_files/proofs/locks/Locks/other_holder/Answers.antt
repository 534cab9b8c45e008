use Rattle.std.proofs.Common.{sym, ◌∙◌, subst}
use Rattle.super_files.specs.Locks.{AreLocks}
use Rattle.super_files.proofs.Holding.{not_other}
use Rattle.super_files.proofs.locks.Locks.other_holder.Goals as goal
use Rattle.super_files.proofs.locks.Locks.other_holder.Goals.{in_default-via-in-Some+else-ne, in_default-via-in_default}

pub returns-in_default : goal.returns-in_default
returns-in_default c =
    let locks : AreLocks c.args.self.now = subst AreLocks c.self.view_is c.self.invariant in
    elim c.in_default.branch [
      | in_default-via-in-Some+else-ne w ↦
          λ other held. locks.exclusive other w.in-Some.by c.args.object held w.in-Some.ensures ∙ not_other w.in-Some.by c.args.client (sym w.if-ne.ensures)
      | in_default-via-in_default w ↦ λ other held. absurd (w.in_default.ensures other held)
    ]
