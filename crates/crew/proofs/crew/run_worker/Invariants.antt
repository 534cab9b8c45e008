use Rattle.crew.specs.Workers.{IsSameWorker}
use Rattle.crew.proofs.crew.run_worker.Given as goal

abbrev pub invariant-loop : goal.invariant-loop
invariant-loop g l = IsSameWorker g.W.Turns.mark g.W.Turns.client_of g.W.Turns.next_of l.initial.worker l.worker
