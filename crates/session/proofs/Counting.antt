-- How the turns of a line are counted, and what a turn leaves pending.
use Rattle.std.proofs.Common.{◌≡◌, ℕ, ◌+◌, ◌≤◌, sym, subst, arith}
use Rattle.pair_store.specs.declared.store.Blocks.{Ghosts}
use Rattle.session.specs.Calls.{KeepsRest}
use Rattle.session.specs.Values.{one_more}
use Rattle.session.specs.declared.turned.Turned.{Turned}
use Rattle.session.specs.declared.turned.Turned.TheVariants as turned

-- ---- counts

-- one more turn is counted at most
pub one_more_low : (n : ℕ) → one_more n ≤ n + 1
one_more_low n = omega arith

pub one_more_within : (n most : ℕ) → n ≤ most → one_more n ≤ most + 1
one_more_within n most low = omega (arith, low)

-- ---- what is pending

-- nothing is pending where nothing was, however the turn ended
pub rest_kept : {D : Type 0} (b : Ghosts D) (old new : D) → (b.tells → b.rest old → b.rest new) → (r : Turned) → KeepsRest b old new r
rest_kept b old new kept (turned.Line n) = kept
rest_kept b old new kept turned.Again = kept
rest_kept b old new kept (turned.Work job) = kept
rest_kept b old new kept turned.Finished = kept
rest_kept b old new kept (turned.Stopped fault) = tt

-- a store that was not touched
pub same_rest : {D : Type 0} (b : Ghosts D) (old new : D) → new ≡ old → b.tells → b.rest old → b.rest new
same_rest {D} b old new same told rest = subst (λ (d : D). b.rest d) (sym same) rest

pub rest_same : {D : Type 0} (b : Ghosts D) (old new : D) → new ≡ old → (r : Turned) → KeepsRest b old new r
rest_same b old new same r = rest_kept b old new (same_rest b old new same) r
