-- What a call on one block may change.
use Rattle.std.specs.Prelude.{◌≡◌, ◌≢◌, ◌⊎◌, ℕ, ◌+◌, ◌-◌, ◌^◌, min, Option, Some, List}

-- one block has its old content or the new one, and all others have theirs
pub record OldOrNew (n : ℕ) (body : List ℕ) (f g : ℕ → Option (List ℕ)) : Type 0 where
  pub others : (k : ℕ) → k ≢ n → g k ≡ f k
  pub here : (g n ≡ f n) ⊎ (g n ≡ Some body)

-- all blocks have their contents
abbrev pub SameContents : (ℕ → Option (List ℕ)) → (ℕ → Option (List ℕ)) → Type 0
SameContents f g = (k : ℕ) → g k ≡ f k

-- all blocks but one have their contents
abbrev pub SameOthers : ℕ → (ℕ → Option (List ℕ)) → (ℕ → Option (List ℕ)) → Type 0
SameOthers n f g = (k : ℕ) → k ≢ n → g k ≡ f k

-- one operation more; at its last value the count stands still
abbrev pub CountsOne : ℕ → ℕ → Type 0
CountsOne before after = after ≡ min (before + 1) (2 ^ 64 - 1)
