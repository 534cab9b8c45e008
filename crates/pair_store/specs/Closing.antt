-- What the closing of a block may leave of it.
use Rattle.std.specs.Prelude.{◌≡◌, ◌≢◌, ◌⊎◌, ℕ, ◌*◌, Option, None, List}
use Rattle.drives.specs.Crash.{Torn}
use Rattle.drives.specs.Changes.{Halves}
use Rattle.pair_store.specs.Content.{gate}
use Rattle.pair_store.specs.Stages.{SameBlock}

-- one block has its old content or none, and all others have theirs
pub record OldOrNone (n : ℕ) (f g : ℕ → Option (List ℕ)) : Type 0 where
  pub others : (k : ℕ) → k ≢ n → g k ≡ f k
  pub here : (g n ≡ f n) ⊎ (g n ≡ None)

-- on one half: the block is closed or as it was, and all else is as it was
pub record IsClosing (n : ℕ) (x y : List ℕ) : Type 0 where
  pub gate_only : Torn (1024 * n) 1 x y
  pub closed : (gate y n ≢ 165) ⊎ SameBlock n x y

-- on both, half A first: half B changes only where half A is closed
pub record IsShutting (n : ℕ) (x y : Halves) : Type 0 where
  pub half_a : IsClosing n x.a y.a
  pub half_b : IsClosing n x.b y.b
  pub first : (gate y.a n ≢ 165) ⊎ (y.b ≡ x.b)
