use Rattle.std.proofs.Common.{◌≡◌, ◌∙◌, ◌⊎◌, ◌<◌, ◌≤◌, ℕ, inl, inr, refl, arith}
use Rattle.pair_store.specs.Content.{IsSettled}
use Rattle.recovery.proofs.Mends.{mended_on, none_mended}
use Rattle.recovery.proofs.mending.mend_range.Goals as goal

pub runs-init : goal.runs-init
runs-init g c = record {
  low = Prim.omega arith;
  high = c.requires.order;
  mended = none_mended c.args.pair.now (g.met.V.Drives.clock c.args.pair.now.drives);
  rest = λ told rest. rest;
  kept = λ told k s. s;
  settles = λ told k low high. absurd (Prim.omega (arith, low, high));
  uncounted = refl;
}

pub returns-in_err-n-clause-mended : goal.returns-in_err-n-clause-mended
returns-in_err-n-clause-mended g c =
    let low = c.runs.invariant.low in
    let more = c.runs-test.true in
    mended_on c.runs.invariant.mended c.runs.invariant.rest c.mend_run.ensures.mended (λ n is. is)
    (λ n is. ((let from = is.0 in Prim.omega (arith, from, low)), (let to = is.1 in Prim.grind (arith, to, more, c.min.ensures))))

before_or_not : (k n : ℕ) → (k < n) ⊎ (n ≤ k)
before_or_not k n = Prim.grind arith

pub runs-preserved : goal.runs-preserved
runs-preserved g c =
    let i = c.runs.invariant in
    let low = i.low in
    let more = c.runs-test.true in
    let most = c.in_ok-n.ensures.most in
    record {
      low = Prim.omega (arith, low);
      high = Prim.grind (arith, more, most, c.min.ensures);
      mended = mended_on i.mended i.rest c.mend_run.ensures.mended (λ n is. is)
          (λ n is. ((let from = is.0 in Prim.omega (arith, from, low)), (let to = is.1 in Prim.grind (arith, to, more, c.min.ensures))));
      rest = λ told rest. c.in_ok-n.ensures.rest told (i.rest told rest) tt;
      kept = λ told k s. c.in_ok-n.ensures.kept told k (i.kept told k s);
      settles = λ told k from to. elim (before_or_not k c.runs.n) [
        | inl below ↦ c.in_ok-n.ensures.kept told k (i.settles told k from below)
        | inr above ↦ c.in_ok-n.ensures.settles told k above to
      ];
      uncounted = c.mend_run.ensures.uncounted ∙ i.uncounted;
    }
