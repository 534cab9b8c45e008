-- Lists of clients, of which one has another in its place.
use Rattle.std.proofs.Common.{◌≡◌, ◌≢◌, ◌⊎◌, inl, inr, ℕ, zero, suc, ◌+◌, ◌<◌, ◌≤◌, List, [], ◌∷◌, length, Some, refl, sym, ap, ◌∙◌, subst, arith, get_or}
use Rattle.std.specs.Prelude.{slice_get, slice_set}
use Rattle.std.proofs.lemmas.List.{length-set}
use Rattle.std.proofs.lemmas.List.Sums.{get_or-le-sum_by, sum_by-set}
use Rattle.std.proofs.lemmas.Option.{get_or_from_slice_get, slice_get_within}
use Rattle.pool_draft.proofs.Rows.{set_same as map_same}
use Rattle.session.specs.Safe.{entries_left}
use Rattle.session.specs.declared.session.Session.{Session}
use Rattle.ground.specs.Grounds.{AreClients, left_of}
use Rattle.ground.specs.Runs.{scripts_of}

-- ---- lists

-- what is found where one element has another in its place
pub get_set : {X : Type 0} (xs : List X) (i j : ℕ) (x y : X) → slice_get (slice_set xs i x) j ≡ Some y → ((j ≡ i) × (y ≡ x)) ⊎ ((j ≢ i) × (slice_get xs j ≡ Some y))
get_set [] i j x y e = absurd cc
get_set (z ∷ xs) zero zero x y e = inl (refl, cc)
get_set (z ∷ xs) zero (suc j) x y e = inr (omega arith, e)
get_set (z ∷ xs) (suc i) zero x y e = inr (omega arith, e)
get_set (z ∷ xs) (suc i) (suc j) x y e = elim (get_set xs i j x y e) [
  | inl h ↦ inl (ap suc h.0, h.1)
  | inr h ↦ inr ((let ne = h.0 in omega (arith, ne)), h.1)
]

pub set_same : {X : Type 0} (xs : List X) (i : ℕ) (x : X) → slice_get xs i ≡ Some x → slice_set xs i x ≡ xs
set_same [] i x e = refl
set_same (z ∷ xs) zero x e = let h : z ≡ x = cc in ap (λ y. y ∷ xs) (sym h)
set_same (z ∷ xs) (suc i) x e = ap (λ ys. z ∷ ys) (set_same xs i x e)

-- what is read at a place is there
pub at_of : {X : Type 0} (xs : List X) (i : ℕ) (x d : X) → i < length xs → x ≡ get_or xs i d → slice_get xs i ≡ Some x
at_of [] i x d low e = absurd (omega (arith, low))
at_of (y ∷ ys) zero x d low e = ap Some (sym e)
at_of (y ∷ ys) (suc i) x d low e = at_of ys i x d (omega (arith, low)) e

-- ---- clients

pub scripts_set : (xs : List Session) (i : ℕ) (s s' : Session) → slice_get xs i ≡ Some s → s'.script ≡ s.script → scripts_of (slice_set xs i s') ≡ scripts_of xs
scripts_set xs i s s' at same = map_same (λ (t : Session). t.script) xs i s s' at same

-- a client's lines are those of its script
pub lines_at : (xs : List Session) (i : ℕ) (s : Session) → slice_get xs i ≡ Some s → slice_get (scripts_of xs) i ≡ Some s.script
lines_at [] i s at = absurd cc
lines_at (x ∷ xs) zero s at = let same : x ≡ s = cc in ap (λ (t : Session). Some t.script) same
lines_at (x ∷ xs) (suc i) s at = lines_at xs i s at

-- what the clients have left differs by what this one has
pub left_set : (xs : List Session) (i : ℕ) (s s' : Session) → slice_get xs i ≡ Some s
    → left_of (slice_set xs i s') + entries_left s.script s.course ≡ left_of xs + entries_left s'.script s'.course
left_set xs i s s' at =
    ap (λ (t : Session). left_of (slice_set xs i s') + entries_left t.script t.course) (sym (get_or_from_slice_get xs i s s at))
    ∙ sum_by-set (λ (t : Session). entries_left t.script t.course) xs i s' s (slice_get_within xs i s at)

-- one of them has no more left than all
pub left_within : (xs : List Session) (i : ℕ) (s : Session) → slice_get xs i ≡ Some s → entries_left s.script s.course ≤ left_of xs
left_within xs i s at =
    subst (λ (t : Session). entries_left t.script t.course ≤ left_of xs) (get_or_from_slice_get xs i s s at)
    (get_or-le-sum_by (λ (t : Session). entries_left t.script t.course) xs i s (slice_get_within xs i s at))

pub clients_set : (xs : List Session) (i : ℕ) (s s' : Session) → slice_get xs i ≡ Some s → s'.course.client ≡ s.course.client → AreClients xs → AreClients (slice_set xs i s')
clients_set xs i s s' at same h = record {
  some = subst (λ n. 1 ≤ n) (sym (length-set xs i s')) h.some;
  most = subst (λ n. n ≤ 16) (sym (length-set xs i s')) h.most;
  numbers = λ j t is. elim (get_set xs i j s' t is) [
    | inl e ↦ ap (λ (u : Session). u.course.client) e.1 ∙ same ∙ h.numbers i s at ∙ ap suc (sym e.0)
    | inr e ↦ h.numbers j t e.1
  ];
}
