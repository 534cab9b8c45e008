use Rattle.std.proofs.Common.{rules, ◌∙◌, ap}
use Rattle.turn_lock.specs.Carried.{carried_by}
use Rattle.turn_lock.proofs.Steps.{joins, stands_as}
use Rattle.turn_lock.proofs.lock.TurnLock.join.Goals as goal

pub join_seat-requires : goal.join_seat-requires
join_seat-requires g c = (
  search rules,
  search rules,
  c.into_seat-seat.ensures.carries ∙ ap carried_by c.requires.other_idle.idle,
  search rules,
  joins g.T.Named.name (g.T.Named.name c.args.self.now.table.shared.key.value) _ _ _ _ (stands_as _ _ _ c.into_seat-seat.ensures.view c.requires.other_idle.idle),
)
