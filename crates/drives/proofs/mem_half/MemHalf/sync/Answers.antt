use Rattle.std.proofs.Common.{ap, arith, inl}
use Rattle.drives.specs.declared.mem_half.FaultCount.{FaultCount}
use Rattle.drives.proofs.mem_half.MemHalf.sync.Goals as goal

pub returns-then-refused-clause-cause : goal.returns-then-refused-clause-cause
returns-then-refused-clause-cause c =
    let count = ap (λ (f : FaultCount). f.count) c.idle.ensures.faults in
    let last = ap (λ (f : FaultCount). f.last) c.idle.ensures.faults in
    record {
      later = omega (arith, count);
      last_later = omega (arith, last);
      failed = (inl (omega (arith, count)), c.rise.ensures.last);
      unfailed = tt;
    }

pub returns-in-Err-clause-cause : goal.returns-in-Err-clause-cause
returns-in-Err-clause-cause c =
    let count = ap (λ (f : FaultCount). f.count) c.settle.ensures.faults in
    let last = ap (λ (f : FaultCount). f.last) c.settle.ensures.faults in
    record {
      later = omega (arith, count);
      last_later = omega (arith, last);
      failed = (inl (omega (arith, count)), c.rise-in-Err.ensures.last);
      unfailed = tt;
    }
