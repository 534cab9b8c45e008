use Rattle.std.specs.Prelude.{◌≡◌, ℕ, ◌-◌, ◌≤◌, List, ◌++◌, length, drop, replicate}

-- A list of bounded length kept in an array of fixed size: the items, and zeros behind them.

-- the items followed by zeros up to the size
unfoldable pub filled : ℕ → List ℕ → List ℕ
filled size xs = xs ++ replicate (size - length xs) 0

-- the array has this size, its first `len` places are in use, and all others are zero
pub record IsFilled (size len : ℕ) (places : List ℕ) : Type 0 where
  pub short : len ≤ size
  pub whole : length places ≡ size
  pub zeros : drop len places ≡ replicate (size - len) 0
