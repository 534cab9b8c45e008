-- What is printed of a run of clients.
use Rattle.std.proofs.Common.{◌≡◌, ℕ, zero, suc, List, [], ◌∷◌, map, refl, slice_get}
use Rattle.std.specs.Option.{option_map_or}
use Rattle.std.specs.Prelude.{unwrap_or}

-- what is told of the one at a place is what stands there in the list of all that is told
pub told_at : {X Y : Type 0} (f : X → List Y) (xs : List X) (i : ℕ) → option_map_or f (slice_get xs i) [] ≡ unwrap_or (slice_get (map f xs) i) []
told_at f [] i = refl
told_at f (x ∷ xs) zero = refl
told_at f (x ∷ xs) (suc i) = told_at f xs i
