use Rattle.store_check.proofs.ReadOnly.{none_read}
use Rattle.store_commands.proofs.text.end_opened.Goals as goal

pub returns-in-Check-clause-only : goal.returns-in-Check-clause-only
returns-in-Check-clause-only g c = none_read g.B.Blocks c.args.store.now (g.met.B.Blocks.clock c.args.store.now)

pub returns-in-Cap-clause-only : goal.returns-in-Cap-clause-only
returns-in-Cap-clause-only g c = none_read g.B.Blocks c.args.store.now (g.met.B.Blocks.clock c.args.store.now)
