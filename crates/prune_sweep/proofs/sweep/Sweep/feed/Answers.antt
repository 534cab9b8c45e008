use Rattle.std.proofs.Common.{◌≡◌, length, Some, sym, rules, ap, subst, ◌∙◌}
use Rattle.std.specs.Prelude.{IsOk}
use Rattle.prune_sweep.specs.declared.progress.Progress.{Progress}
use Rattle.prune_sweep.specs.Searching.{IsNext}
use Rattle.prune_sweep.specs.Sweeps.{SweepState}
use Rattle.prune_sweep.specs.Sweeping.{Sweeps}
use Rattle.prune_sweep.proofs.Feeding.{HasNext, next_stays, size_stays, goes_on}
use Rattle.prune_sweep.proofs.sweep.Sweep.feed.Goals as goal

pub invariant_of-self : goal.invariant_of-self
invariant_of-self c =
    record {
      next =
          subst (λ (k : Progress). IsNext k.marks k.after c.next-self-inside.result) (sym c.next-self-inside.ensures.same) c.next-self-inside.ensures.next;
      after =
          subst HasNext (sym c.next-self-inside.ensures.same)
          (next_stays c.in-Some.at c.args.block.now c.self.inside.known c.read-result.new.self c.read-result.result c.read-result.ensures.reads c.read-result.ensures.stays
          c.self.invariant.after);
    }

pub returns-clause-goes : goal.returns-clause-goes
returns-clause-goes c = λ content roots m n sweeps is holds.
    let needs : c.self.inside.next ≡ Some c.in-Some.at = first_of (cc, search rules) in
    subst (λ (k : Progress). IsOk c.read-result.result × Sweeps content roots m k) (sym c.next-self-inside.ensures.same)
    (goes_on (record { known = c.self.inside.known; next = c.self.inside.next; given = c.self.inside.given }) c.read-result.new.self c.in-Some.at c.args.block.now
    c.read-result.result c.self.invariant needs c.read-result.ensures.causes c.read-result.ensures.reads content roots m n
    (subst (λ (s : SweepState). Sweeps content roots m s.known) (sym c.self.view_is) sweeps) (ap (λ (s : SweepState). s.next) c.self.view_is ∙ is) holds)

pub returns-clause-blocks : goal.returns-clause-blocks
returns-clause-blocks c =
    ap (λ (k : Progress). length k.marks) c.next-self-inside.ensures.same
    ∙ size_stays c.in-Some.at c.args.block.now c.self.inside.known c.read-result.new.self c.read-result.result c.read-result.ensures.reads c.read-result.ensures.stays
    ∙ ap (λ (s : SweepState). length s.known.marks) c.self.view_is
