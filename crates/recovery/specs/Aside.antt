-- Blocks that are not written.
use Rattle.std.specs.Prelude.{◌≡◌, ℕ, Option, List}

-- all blocks but those that are written have their contents
abbrev pub SameAside : (ℕ → Type 0) → (ℕ → Option (List ℕ)) → (ℕ → Option (List ℕ)) → Type 0
SameAside Written f g = (n : ℕ) → (Written n → ⊥) → g n ≡ f n
