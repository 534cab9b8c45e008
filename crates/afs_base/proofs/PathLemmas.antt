use Rattle.std.proofs.Common.{◌≡◌, ℕ, Bool, true, false, ◌&&◌, nat_eq, nat_lt, zero, suc, List, [], ◌∷◌, take, refl, ap, ◌∙◌}
use Rattle.std.specs.List.{starts_with}
use Rattle.std.proofs.Math.ListN.{set}
use Rattle.afs_base.specs.Path.{are_slots, is_prefix}

-- both parts of a test hold where it holds
and_told : (a b : Bool) → (a && b) ≡ true → (a ≡ true) × (b ≡ true)
and_told true b h = (refl, h)
and_told false b h = (cc, cc)

and_both : (a b : Bool) → a ≡ true → b ≡ true → (a && b) ≡ true
and_both a b h k = ap (λ x. x && b) h ∙ k

-- the first slots of a list of slots are slots
pub are_slots-take : (n : ℕ) (xs : List ℕ) → are_slots xs ≡ true → are_slots (take n xs) ≡ true
are_slots-take zero xs h = refl
are_slots-take (suc n) [] h = refl
are_slots-take (suc n) (x ∷ xs) h =
    let both = and_told (nat_lt x 16) (are_slots xs) h in
    and_both (nat_lt x 16) (are_slots (take n xs)) both.0 (are_slots-take n xs both.1)

-- one slot put into a list of slots
pub are_slots-set : (xs : List ℕ) (i y : ℕ) → are_slots xs ≡ true → nat_lt y 16 ≡ true → are_slots (set xs i y) ≡ true
are_slots-set [] i y h k = refl
are_slots-set (x ∷ xs) zero y h k =
    let both = and_told (nat_lt x 16) (are_slots xs) h in and_both (nat_lt y 16) (are_slots xs) k both.1
are_slots-set (x ∷ xs) (suc i) y h k =
    let both = and_told (nat_lt x 16) (are_slots xs) h in
    and_both (nat_lt x 16) (are_slots (set xs i y)) both.0 (are_slots-set xs i y both.1 k)

-- a list that begins with a path is one that the path is a prefix of
pub starts_with-is_prefix : (p q : List ℕ) → starts_with nat_eq q p ≡ is_prefix p q
starts_with-is_prefix [] q = refl
starts_with-is_prefix (s ∷ p) [] = refl
starts_with-is_prefix (s ∷ p) (t ∷ q) = ap (λ b. nat_eq s t && b) (starts_with-is_prefix p q)
