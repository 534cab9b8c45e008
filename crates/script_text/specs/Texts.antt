-- The bytes of texts that stand elsewhere.
use Rattle.std.specs.Prelude.{ℕ, List, map}
use Rattle.std.specs.Borrow.{Bor}

-- what references to texts point to
abbrev pub texts : List (Bor (List ℕ)) → List (List ℕ)
texts refs = map (λ r. r.now) refs
