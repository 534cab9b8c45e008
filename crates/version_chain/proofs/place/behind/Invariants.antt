use Rattle.std.proofs.Common.{◌≡◌, ◌≤◌, ℕ, ◌++◌, ◌∷◌, [], suc, drop}
use Rattle.draft_model.specs.Flush.{block_of}
use Rattle.version_chain.proofs.place.behind.Given as goal

abbrev pub invariant-search : goal.invariant-search
invariant-search l = (k : ℕ) → suc l.slot ≤ k → block_of (drop l.next l.places) (l.above ++ k ∷ []) ≡ block_of (drop l.at l.places) (l.above ++ k ∷ [])
