-- What a worker keeps from line to line, and where it ends.
use Rattle.std.specs.Prelude.{◌≡◌, ℕ, ◌<◌, List, length, slice_index_or, Option, None}

module _ {W M : Type 0} (mark_of : W → M) (client_of : W → ℕ) (next_of : W → Option ℕ) where
  -- it has the mark and the client that it had
  pub record IsSameWorker (old new : W) : Type 0 where
    pub mark : mark_of new ≡ mark_of old
    pub client : client_of new ≡ client_of old

  -- and no line is left
  pub record HasEnded (old new : W) : Type 0 where
    pub same : IsSameWorker old new
    pub ended : next_of new ≡ None

  -- so does each of the workers
  abbrev pub AllHaveEnded : List W → List W → Type 0
  AllHaveEnded old new = (i : ℕ) (d : W) → i < length old → HasEnded (slice_index_or old i d) (slice_index_or new i d)
