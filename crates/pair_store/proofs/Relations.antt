-- What one call of a half may leave on both.
use Rattle.std.proofs.Common.{ℕ, List, Result, Ok, Err, OnOk, refl, sym, ◌∙◌, subst}
use Rattle.drives.specs.declared.device.Half.{Half}
use Rattle.drives.specs.declared.device.Half.TheVariants.{A, B}
use Rattle.drives.specs.Half.{other}
use Rattle.drives.specs.Crash.{LeavesNoMore, LeavesSame, Torn}
use Rattle.drives.specs.Changes.{Halves, OnHalves, bytes_of}
use Rattle.pair_store.specs.Stages.{At, Kept}

-- a range is torn at most once more
pub torn_again : (at n : ℕ) (x y z : List ℕ) → Torn at n x y → Torn at n y z → Torn at n x z
torn_again at n x y z first second = record {
  size = second.size ∙ first.size;
  outside = λ i outside. second.outside i outside ∙ first.outside i outside;
}

pub untorn : (at n : ℕ) (x : List ℕ) → Torn at n x x
untorn at n x = record { size = refl; outside = λ i outside. refl }

-- a relation that each list has to itself is kept where nothing happens
pub At-same : (half : Half) (R : List ℕ → List ℕ → Type 0) → ((x : List ℕ) → R x x) → (h : Half) (x : List ℕ) → At half R h x x
At-same A R same A x = same x
At-same A R same B x = refl
At-same B R same A x = refl
At-same B R same B x = same x

module _ (before after : Half → List ℕ → Type 0) where
  pub read_leaves : ((h : Half) → LeavesSame (before h) (after h)) → (h : Half) (c : List ℕ) → after h c → (d : List ℕ) × before h d × Kept h d c
  read_leaves same h c left = (c, (same h c).0 left, refl)

  pub write_leaves : (half : Half) (R : List ℕ → List ℕ → Type 0) → ((c : List ℕ) → after half c → (d : List ℕ) × before half d × R d c) → LeavesSame (before (other half)) (after (other half)) → (h : Half) (c : List ℕ) → after h c → (d : List ℕ) × before h d × At half R h d c
  write_leaves A R own same A c left = own c left
  write_leaves A R own same B c left = (c, (same c).0 left, refl)
  write_leaves B R own same A c left = (c, (same c).0 left, refl)
  write_leaves B R own same B c left = own c left

  pub sync_leaves : (half : Half) → LeavesNoMore (before half) (after half) → LeavesSame (before (other half)) (after (other half)) → (h : Half) (c : List ℕ) → after h c → (d : List ℕ) × before h d × Kept h d c
  sync_leaves A own same A c left = (c, own c left, refl)
  sync_leaves A own same B c left = (c, (same c).0 left, refl)
  sync_leaves B own same A c left = (c, (same c).0 left, refl)
  sync_leaves B own same B c left = (c, own c left, refl)

-- what holds by R and then does not change holds by R
pub At-kept : (half : Half) (R : List ℕ → List ℕ → Type 0) (x y z : Halves) → OnHalves (At half R) x y → OnHalves Kept y z → OnHalves (At half R) x z
At-kept A R x y z first kept = (subst (λ (w : List ℕ). R x.a w) (sym kept.0) first.0, kept.1 ∙ first.1)
At-kept B R x y z first kept = (kept.0 ∙ first.0, subst (λ (w : List ℕ). R x.b w) (sym kept.1) first.1)

-- what a relation on one half may leave out or add
pub At-weaker : (half : Half) (R R' : List ℕ → List ℕ → Type 0) (x y : Halves) → (R (bytes_of x half) (bytes_of y half) → R' (bytes_of x half) (bytes_of y half)) → OnHalves (At half R) x y → OnHalves (At half R') x y
At-weaker A R R' x y less r = (less r.0, r.1)
At-weaker B R R' x y less r = (r.0, less r.1)

-- two relations on one half, one after the other
pub At-then : (half : Half) (R S T : List ℕ → List ℕ → Type 0) (x y z : Halves) → (R (bytes_of x half) (bytes_of y half) → S (bytes_of y half) (bytes_of z half) → T (bytes_of x half) (bytes_of z half)) → OnHalves (At half R) x y → OnHalves (At half S) y z → OnHalves (At half T) x z
At-then A R S T x y z join r s = (join r.0 s.0, s.1 ∙ r.1)
At-then B R S T x y z join r s = (s.0 ∙ r.0, join r.1 s.1)

-- both halves as they were are one half by a relation that each list has to itself
pub Kept-at : (half : Half) (R : List ℕ → List ℕ → Type 0) (x y : Halves) → ((w : List ℕ) → R w w) → OnHalves Kept x y → OnHalves (At half R) x y
Kept-at A R x y same kept = (subst (λ (w : List ℕ). R x.a w) (sym kept.0) (same x.a), kept.1)
Kept-at B R x y same kept = (kept.0, subst (λ (w : List ℕ). R x.b w) (sym kept.1) (same x.b))

-- both halves as they were, and then a relation on one
pub Kept-then : (half : Half) (R : List ℕ → List ℕ → Type 0) (x y z : Halves) → OnHalves Kept x y → OnHalves (At half R) y z → OnHalves (At half R) x z
Kept-then A R x y z kept r = (subst (λ (w : List ℕ). R w z.a) kept.0 r.0, r.1 ∙ kept.1)
Kept-then B R x y z kept r = (r.0 ∙ kept.0, subst (λ (w : List ℕ). R w z.b) kept.1 r.1)

-- an image of both is one of each
pub image_of_half : (left : Half → List ℕ → Type 0) (x : Halves) → left A x.a × left B x.b → (h : Half) → left h (bytes_of x h)
image_of_half left x both A = both.0
image_of_half left x both B = both.1

-- two facts of a result are one
pub on_ok_both : {T E : Type 0} (P Q : Type 0) (r : Result T E) → OnOk r P → OnOk r Q → OnOk r (P × Q)
on_ok_both P Q (Ok v) p q = (p, q)
on_ok_both P Q (Err e) p q = tt

-- what holds holds at Ok
pub on_ok : {T E P : Type 0} (r : Result T E) → P → OnOk r P
on_ok (Ok v) p = p
on_ok (Err e) p = tt
