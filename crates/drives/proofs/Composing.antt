-- Calls in a row: what a crash within them may leave comes from one thing that a crash at their start might have left.
use Rattle.std.proofs.Common.{◌≡◌, ◌⊎◌, inl, inr, ◌↔◌, ℕ, ◌-◌, ◌^◌, ◌<◌, ◌≤◌, List, sym, ◌∙◌, subst, arith}
use Rattle.drives.specs.declared.device.Half.{Half}
use Rattle.drives.specs.declared.device.Half.TheVariants.{A, B}
use Rattle.drives.specs.Crash.{SamePast, Ticks}
use Rattle.drives.specs.Changes.{Changes, LeavesNow, Halves, HalvesLeft, OnHalves, ViewedLeft}

before_or_not : (i n : ℕ) → (i < n) ⊎ (n ≤ i)
before_or_not i n = grind arith

iff_trans : {P Q R : Type 0} → P ↔ Q → Q ↔ R → P ↔ R
iff_trans f g = (λ p. g.0 (f.0 p), λ r. f.1 (g.1 r))

module _ {D X : Type 0} (moment : D → ℕ) (may_leave : D → ℕ → X → Type 0) where
  -- nothing happens
  pub stays : (d : D) (R : X → X → Type 0) → moment d < 2 ^ 64 → ((x : X) → R x x) → Changes moment may_leave d d R
  stays d R clock same = record {
    later = omega arith;
    last = omega (arith, clock);
    stuck = λ e. inr (λ x. (λ left. left, λ left. left));
    past = λ t x low high. (λ left. left, λ left. left);
    own = λ t x low high left. (x, subst (λ (s : ℕ). may_leave d s x) (let e : t ≡ moment d = omega (arith, low, high) in e) left, same x);
  }

  -- a relation may say less, and may use that the first of the two is what a crash at the start might have left
  pub weaker : (old new : D) (R R' : X → X → Type 0) → Changes moment may_leave old new R → ((x y : X) → may_leave old (moment old) x → R x y → R' x y) → Changes moment may_leave old new R'
  weaker old new R R' changes less = record {
    later = changes.later;
    last = changes.last;
    stuck = changes.stuck;
    past = changes.past;
    own = λ t x low high left. let from = changes.own t x low high left in (from.0, from.1, less from.0 x from.1 from.2);
  }

  -- two in a row, with what may be left between them now, which may be less than what might have been left meanwhile
  module _ (old mid new : D) (First Now Then R : X → X → Type 0) (first : Changes moment may_leave old mid First) (now : LeavesNow moment may_leave old mid Now) (second : Changes moment may_leave mid new Then) (by_first : (x y : X) → may_leave old (moment old) x → First x y → R x y) (by_second : (x y z : X) → may_leave old (moment old) x → Now x y → Then y z → R x z) where
    both_stuck : moment new ≡ moment old → (moment old ≡ 2 ^ 64 - 1) ⊎ ((x : X) → may_leave new (moment old) x ↔ may_leave old (moment old) x)
    both_stuck e =
        let a = first.later in
        let b = second.later in
        let still : moment mid ≡ moment old = omega (arith, e, a, b) in
        let still' : moment new ≡ moment mid = omega (arith, e, a, b) in
        elim (first.stuck still) [
          | inl ended ↦ inl ended
          | inr same ↦ elim (second.stuck still') [
            | inl ended ↦ inl (sym still ∙ ended)
            | inr same' ↦ inr (λ x. iff_trans (subst (λ (t : ℕ). may_leave new t x ↔ may_leave mid t x) still (same' x)) (same x))
          ]
        ]

    both_past : (t : ℕ) (x : X) → t ≤ moment old → t < moment new → may_leave new t x ↔ may_leave old t x
    both_past t x low high =
        let a = first.later in
        let then : may_leave new t x ↔ may_leave mid t x = second.past t x (omega (arith, low, a)) high in
        elim (before_or_not t (moment mid)) [
          | inl early ↦ iff_trans then (first.past t x low early)
          | inr late ↦
              let still : moment mid ≡ moment old = omega (arith, low, late, a) in
              let here : moment old ≡ t = omega (arith, low, late, a) in
              let last = second.last in
              elim (first.stuck still) [
                | inl ended ↦ absurd (omega (arith, ended, here, high, last))
                | inr same ↦ iff_trans then (subst (λ (s : ℕ). may_leave mid s x ↔ may_leave old s x) here (same x))
              ]
        ]

    both_own : (t : ℕ) (z : X) → moment old ≤ t → t ≤ moment new → may_leave new t z → (x : X) × may_leave old (moment old) x × R x z
    both_own t z low high left =
        elim (before_or_not t (moment mid)) [
          | inl early ↦
              let b = second.later in
              let from = first.own t z low (omega (arith, early)) ((second.past t z (omega (arith, early)) (omega (arith, early, b))).0 left) in
              (from.0, from.1, by_first from.0 z from.1 from.2)
          | inr late ↦
              let then = second.own t z late high left in
              let from = now then.0 then.1 in
              (from.0, from.1, by_second from.0 then.0 z from.1 from.2 then.2)
        ]

    pub goes_on : Changes moment may_leave old new R
    goes_on =
        let a = first.later in
        let b = second.later in
        record {
          later = omega (arith, a, b);
          last = second.last;
          stuck = both_stuck;
          past = both_past;
          own = both_own;
        }

  -- what is left at the end is left within
  pub leaves_now : (old new : D) (R : X → X → Type 0) → Changes moment may_leave old new R → LeavesNow moment may_leave old new R
  leaves_now old new R changes x left = changes.own (moment new) x changes.later (omega arith) left

-- the same changes, seen in another way
module _ {D X Y : Type 0} (moment : D → ℕ) (may_leave : D → ℕ → X → Type 0) (View : X → Y → Type 0) where
  pub viewed : (old new : D) (R : X → X → Type 0) (R' : Y → Y → Type 0) → Changes moment may_leave old new R → ((x x' : X) (y' : Y) → may_leave old (moment old) x → R x x' → View x' y' → (y : Y) × View x y × R' y y') → Changes moment (ViewedLeft View may_leave) old new R'
  viewed old new R R' changes through = record {
    later = changes.later;
    last = changes.last;
    stuck = λ e. elim (changes.stuck e) [
      | inl ended ↦ inl ended
      | inr same ↦ inr (λ y. (
        λ left. (left.0, (same left.0).0 left.1, left.2),
        λ left. (left.0, (same left.0).1 left.1, left.2),
      ))
    ];
    past = λ t y low high. (
      λ left. (left.0, (changes.past t left.0 low high).0 left.1, left.2),
      λ left. (left.0, (changes.past t left.0 low high).1 left.1, left.2),
    );
    own = λ t y' low high left.
        let from = changes.own t left.0 low high left.1 in
        let seen = through from.0 left.0 y' from.1 from.2 left.2 in
        (seen.0, (from.0, from.1, seen.1), seen.2);
  }

-- one call of two halves
module _ {D : Type 0} (moment : D → ℕ) (may_leave : D → Half → ℕ → List ℕ → Type 0) (old new : D) (R : Half → List ℕ → List ℕ → Type 0) (same : (h : Half) (c : List ℕ) → R h c c) (clock : moment old < 2 ^ 64) (time : Ticks (moment old) (moment new)) (past : SamePast (moment new) (may_leave old) (may_leave new)) (leaves : (h : Half) (c : List ℕ) → may_leave new h (moment new) c → (d : List ℕ) × may_leave old h (moment old) d × R h d c) where
  call_now : LeavesNow moment (HalvesLeft may_leave) old new (OnHalves R)
  call_now x left =
      let a = leaves A x.a left.0 in
      let b = leaves B x.b left.1 in
      (record { a = a.0; b = b.0 }, (a.1, b.1), (a.2, b.2))

  call_past : (t : ℕ) (x : Halves) → t < moment new → HalvesLeft may_leave new t x ↔ HalvesLeft may_leave old t x
  call_past t x high = (
    λ left. ((past A t x.a high).0 left.0, (past B t x.b high).0 left.1),
    λ left. ((past A t x.a high).1 left.0, (past B t x.b high).1 left.1),
  )

  call_own : (t : ℕ) (x : Halves) → moment old ≤ t → t ≤ moment new → HalvesLeft may_leave new t x → (y : Halves) × HalvesLeft may_leave old (moment old) y × OnHalves R y x
  call_own t x low high left =
      elim (before_or_not t (moment new)) [
        | inl early ↦
            let here : t ≡ moment old = omega (arith, low, early, time, clock) in
            (x, subst (λ (s : ℕ). HalvesLeft may_leave old s x) here ((call_past t x early).0 left), (same A x.a, same B x.b))
        | inr late ↦
            let here : t ≡ moment new = omega (arith, high, late) in
            call_now x (subst (λ (s : ℕ). HalvesLeft may_leave new s x) here left)
      ]

  pub call_changes : Changes moment (HalvesLeft may_leave) old new (OnHalves R)
  call_changes = record {
    later = omega (arith, time, clock);
    last = omega (arith, time);
    stuck = λ e. inl (omega (arith, time, clock, e));
    past = λ t x low high. call_past t x high;
    own = call_own;
  }
