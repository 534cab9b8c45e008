use Rattle.std.proofs.Common.{rules}
use Rattle.turn_lock.proofs.Steps.{releases_as}
use Rattle.turn_lock.proofs.lock.TurnLock.give.Goals as goal

pub store-requires : goal.store-requires
store-requires g c = (
  search rules,
  search rules,
  releases_as g.T.Named.name (g.T.Named.name c.args.self.now.table.shared.key.value) _ _ _ c.args.pass.now.seat.me.0 c.args.value c.put_back.ensures.put c.requires.held c.requires.named,
)
