use Rattle.std.proofs.Common.{Some, ap, ◌∙◌}
use Rattle.recovery.proofs.Openings.{none_done}
use Rattle.recovery.proofs.Rolls.{rolls_stay}
use Rattle.recovery.proofs.Turning.{skipped}
use Rattle.recovery.proofs.rolling.roll_file.Goals as goal

pub returns-in-None : goal.returns-in-None
returns-in-None g c = λ most known k kept.
    rolls_stay (g.met.B.Blocks.clock c.args.store.now)
    (λ x s r. skipped c.args.step most known k x s r (none_done c.args.step x s most known k r (kept ∙ ap Some c.in-None.is)))

pub returns-in-Some : goal.returns-in-Some
returns-in-Some g c = λ most known k kept. c.roll_live.ensures most known k (kept ∙ ap Some c.in-Some.is)
