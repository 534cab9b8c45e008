-- Where a key stands among keys in order, or else where it belongs.
use Rattle.std.specs.Prelude.{◌≡◌, ℕ, zero, suc, true, List, [], ◌∷◌, slice_get, Some}
use Rattle.std.specs.Ordering.{is_le}
use Rattle.std.specs.declared.cmp.Ordering.TheVariants.{Less}
use Rattle.afs_base.specs.Path.{path_cmp}

-- the first so many keys stand before this one
abbrev pub AreBefore : List ℕ → List (List ℕ) → ℕ → Type 0
AreBefore key ks zero = Unit {0}
AreBefore key [] (suc i) = ⊥
AreBefore key (k ∷ ks) (suc i) = (path_cmp k key ≡ Less) × AreBefore key ks i

-- the key at a place, where one stands there, is behind this one
abbrev pub IsBehind : List ℕ → List (List ℕ) → ℕ → Type 0
IsBehind key [] i = Unit {0}
IsBehind key (k ∷ ks) zero = path_cmp key k ≡ Less
IsBehind key (k ∷ ks) (suc i) = IsBehind key ks i

-- the key is at this place
abbrev pub IsFoundAt : List (List ℕ) → List ℕ → ℕ → Type 0
IsFoundAt ks key i = slice_get ks i ≡ Some key

-- the key is not there, and this is its place
abbrev pub IsGapAt : List (List ℕ) → List ℕ → ℕ → Type 0
IsGapAt ks key i = AreBefore key ks i × IsBehind key ks i

-- what stands at a place is not before this key
abbrev pub IsFromAt : List ℕ → List (List ℕ) → ℕ → Type 0
IsFromAt key ks i = (k : List ℕ) → slice_get ks i ≡ Some k → is_le (path_cmp key k) ≡ true
