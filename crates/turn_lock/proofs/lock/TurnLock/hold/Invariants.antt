use Rattle.std.proofs.Common.{◌≡◌, ◌≤◌}
use Rattle.turn_lock.specs.declared.view.Standing.TheVariants.{Idle}
use Rattle.turn_lock.specs.Passes.{IsSamePass, standing_of, tries_of}
use Rattle.turn_lock.proofs.lock.TurnLock.hold.Given as goal

abbrev pub invariant-loop : goal.invariant-loop
invariant-loop g l = IsSamePass l.initial.pass l.pass × (standing_of l.pass ≡ Idle) × (tries_of l.initial.pass ≤ tries_of l.pass)
