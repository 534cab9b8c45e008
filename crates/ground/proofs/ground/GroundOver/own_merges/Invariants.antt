use Rattle.std.proofs.Common.{◌≡◌, ◌-◌, ◌^◌, take}
use Rattle.std.specs.Prelude.{min, sum_by}
use Rattle.session.specs.declared.session.Session.{Session}
use Rattle.ground.proofs.ground.GroundOver.own_merges.Given as goal

abbrev pub invariant-loop-session : goal.invariant-loop-session
invariant-loop-session g l = l.merges ≡ min (sum_by (λ (s : Session). s.merges) (take l.session-index l.session-items)) (2 ^ 64 - 1)
