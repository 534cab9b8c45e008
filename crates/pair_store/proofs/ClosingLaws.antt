-- A block is closed on half A and then on half B: its content stays until it has none.
use Rattle.std.proofs.Common.{◌≡◌, ◌≢◌, ◌⊎◌, inl, inr, ℕ, ◌*◌, Some, None, List, refl, sym, ◌∙◌, ap, subst}
use Rattle.drives.specs.declared.device.Half.{Half}
use Rattle.drives.specs.declared.device.Half.TheVariants.{A, B}
use Rattle.drives.specs.Crash.{Torn}
use Rattle.drives.specs.Changes.{Changes, Halves, HalvesLeft, LeavesNow, OnHalves}
use Rattle.drives.proofs.Composing.{goes_on, leaves_now, viewed}
use Rattle.pair_store.specs.Content.{gate, IsOpen, content_of, ContentsLeft, HasContents}
use Rattle.pair_store.specs.ContentLaws.{content_b, content_none, content_open_a, decide}
use Rattle.pair_store.specs.Stages.{At, IsKnownGate, SameBlock, SameElsewhere}
use Rattle.pair_store.specs.Closing.{IsClosing, IsShutting, OldOrNone}
use Rattle.pair_store.proofs.Contents.{gate_same, others_content, same_block}
use Rattle.pair_store.proofs.GateLemmas.{gate_elsewhere}
use Rattle.pair_store.proofs.HalfWriting.{Closing, Gate}

same_elsewhere : (n : ℕ) (x : List ℕ) → SameElsewhere n x x
same_elsewhere n x = record { size = refl; outside = λ i out. refl }

torn_same : (n : ℕ) (x : List ℕ) → Torn (1024 * n) 1 x x
torn_same n x = record { size = refl; outside = λ i out. refl }

-- a half that is as it was
pub IsClosing-same : (n : ℕ) (x y : List ℕ) → y ≡ x → IsClosing n x y
IsClosing-same n x y e = subst (λ (w : List ℕ). IsClosing n x w) (sym e) (record { gate_only = torn_same n x; closed = inr (λ i low. refl) })

-- while half A is closed half B is as it was
pub first_shutting : (n : ℕ) (x y : Halves) → OnHalves (At A (Closing n)) x y → IsShutting n x y
first_shutting n x y r = record { half_a = record { gate_only = r.0.0; closed = r.0.1 }; half_b = IsClosing-same n x.b y.b r.1; first = inr r.1 }

-- half A is closed, and half B as it was
abbrev pub IsHalfShut : ℕ → Halves → Halves → Type 0
IsHalfShut n x y = OnHalves (At A (Gate n)) x y × (gate y.a n ≢ 165)

-- then half B is closed
pub second_shutting : (n : ℕ) (x y z : Halves) → IsHalfShut n x y → OnHalves (At B (Closing n)) y z → IsShutting n x z
second_shutting n x y z r s =
    let shut : gate z.a n ≢ 165 = λ e. r.1 (sym (ap (λ (w : List ℕ). gate w n) s.0) ∙ e) in
    record {
      half_a = record { gate_only = subst (λ (w : List ℕ). Torn (1024 * n) 1 x.a w) (sym s.0) r.0.0; closed = inl shut };
      half_b = record { gate_only = subst (λ (w : List ℕ). Torn (1024 * n) 1 w z.b) r.0.1 s.1.0; closed = subst (λ (w : List ℕ). (gate z.b n ≢ 165) ⊎ SameBlock n w z.b) r.0.1 s.1.1 };
      first = inl shut;
    }

-- all else is as it was
pub shutting_elsewhere : (n : ℕ) (x y : Halves) → IsShutting n x y → SameElsewhere n x.a y.a × SameElsewhere n x.b y.b
shutting_elsewhere n x y r = (gate_elsewhere n x.a y.a r.half_a.gate_only, gate_elsewhere n x.b y.b r.half_b.gate_only)

-- half B is closed: the content is half A's, or none
shut_a : (n : ℕ) (x y : Halves) → gate x.b n ≢ 165 → gate y.b n ≢ 165 → Torn (1024 * n) 1 x.a y.a → (gate y.a n ≢ 165) ⊎ SameBlock n x.a y.a → (content_of y n ≡ content_of x n) ⊎ (content_of y n ≡ None)
shut_a n x y before shut torn (inl not) = inr (content_none y n shut not)
shut_a n x y before shut torn (inr same) =
    elim (decide (gate y.a n) 165) [
      | inl is_open ↦
          let was_open : IsOpen x.a n = sym (gate_same n x.a y.a same) ∙ is_open in
          inl (content_open_a y n shut is_open ∙ ap (λ (w : List ℕ). Some w) (same_block n x.a y.a torn.size same) ∙ sym (content_open_a x n before was_open))
      | inr not ↦ inr (content_none y n shut not)
    ]

-- a block that is being closed has its content or none
shutting_here : (n : ℕ) (x y : Halves) → IsShutting n x y → (gate y.b n ≢ 165) ⊎ SameBlock n x.b y.b → (gate y.a n ≢ 165) ⊎ (y.b ≡ x.b) → (content_of y n ≡ content_of x n) ⊎ (content_of y n ≡ None)
shutting_here n x y r (inl shut) (inl not) = inr (content_none y n shut not)
shutting_here n x y r (inl shut) (inr same) =
    let before : gate x.b n ≢ 165 = λ e. shut (ap (λ (w : List ℕ). gate w n) same ∙ e) in
    shut_a n x y before shut r.half_a.gate_only r.half_a.closed
shutting_here n x y r (inr same) first =
    elim (decide (gate y.b n) 165) [
      | inl is_open ↦
          let was_open : IsOpen x.b n = sym (gate_same n x.b y.b same) ∙ is_open in
          inl (content_b y n is_open ∙ ap (λ (w : List ℕ). Some w) (same_block n x.b y.b r.half_b.gate_only.size same) ∙ sym (content_b x n was_open))
      | inr shut ↦ shut_a n x y (λ e. shut (gate_same n x.b y.b same ∙ e)) shut r.half_a.gate_only r.half_a.closed
    ]

pub shutting_contents : (n : ℕ) (x y : Halves) → IsShutting n x y → OldOrNone n (content_of x) (content_of y)
shutting_contents n x y r =
    let elsewhere = shutting_elsewhere n x y r in
    record { others = λ k ne. others_content n k x y ne elsewhere.0 elsewhere.1; here = shutting_here n x y r r.half_b.closed r.first }

module _ {D : Type 0} (seen : D → Half → List ℕ) (moment : D → ℕ) (left : D → Half → ℕ → List ℕ → Type 0) (n : ℕ) (old mid : D) where
  -- half A is closed in each image, and half B as it was
  pub half_shut_now : Changes moment (HalvesLeft left) old mid (OnHalves (At A (Gate n))) → ((c : List ℕ) → left mid A (moment mid) c → gate c n ≢ 165) → LeavesNow moment (HalvesLeft left) old mid (IsHalfShut n)
  half_shut_now changes shut y image =
      let from = leaves_now moment (HalvesLeft left) old mid (OnHalves (At A (Gate n))) changes y image in
      (from.0, from.1, (from.2, shut y.a image.0))

  -- the gate of half B is still the one that is read
  pub known_still : Changes moment (HalvesLeft left) old mid (OnHalves (At A (Gate n))) → left mid A (moment mid) (seen mid A) → seen mid B ≡ seen old B → IsKnownGate seen moment left old B n → IsKnownGate seen moment left mid B n
  known_still changes read same known c image =
      let from = leaves_now moment (HalvesLeft left) old mid (OnHalves (At A (Gate n))) changes (record { a = seen mid A; b = c }) (read, image) in
      let before = known from.0.b from.1.1 in (
        λ e. subst (λ (w : List ℕ). IsOpen w n) (sym same) (before.0 (subst (λ (w : List ℕ). IsOpen w n) from.2.1 e)),
        λ e. subst (λ (w : List ℕ). IsOpen w n) (sym from.2.1) (before.1 (subst (λ (w : List ℕ). IsOpen w n) same e)),
      )

  -- half A and then half B
  pub both_shutting : (new : D) → Changes moment (HalvesLeft left) old mid (OnHalves (At A (Closing n))) → LeavesNow moment (HalvesLeft left) old mid (IsHalfShut n) → Changes moment (HalvesLeft left) mid new (OnHalves (At B (Closing n))) → Changes moment (HalvesLeft left) old new (IsShutting n)
  both_shutting new first now second =
      goes_on moment (HalvesLeft left) old mid new (OnHalves (At A (Closing n))) (IsHalfShut n) (OnHalves (At B (Closing n))) (IsShutting n)
      first
      now
      second
      (λ x y _ r. first_shutting n x y r)
      (λ x y z _ r s. second_shutting n x y z r s)

  pub both_elsewhere : (new : D) → Changes moment (HalvesLeft left) old mid (OnHalves (At A (Gate n))) → Changes moment (HalvesLeft left) mid new (OnHalves (At B (Gate n))) → Changes moment (HalvesLeft left) old new (OnHalves (λ h x y. SameElsewhere n x y))
  both_elsewhere new first second =
      goes_on moment (HalvesLeft left) old mid new (OnHalves (At A (Gate n))) (OnHalves (At A (Gate n))) (OnHalves (At B (Gate n))) (OnHalves (λ h x y. SameElsewhere n x y))
      first
      (leaves_now moment (HalvesLeft left) old mid (OnHalves (At A (Gate n))) first)
      second
      (λ x y _ r. (gate_elsewhere n x.a y.a r.0, subst (λ (w : List ℕ). SameElsewhere n x.b w) (sym r.1) (same_elsewhere n x.b)))
      (λ x y z _ r s. (
        subst (λ (w : List ℕ). SameElsewhere n x.a w) (sym s.0) (gate_elsewhere n x.a y.a r.0),
        subst (λ (w : List ℕ). SameElsewhere n w z.b) r.1 (gate_elsewhere n y.b z.b s.1),
      ))

-- so each content comes from an old one, and one block may be none
pub shutting_viewed : {D : Type 0} (moment : D → ℕ) (left : D → Half → ℕ → List ℕ → Type 0) (n : ℕ) (old new : D) → Changes moment (HalvesLeft left) old new (IsShutting n) → Changes moment (ContentsLeft left) old new (OldOrNone n)
shutting_viewed moment left n old new changes = viewed moment (HalvesLeft left) HasContents old new (IsShutting n) (OldOrNone n) changes
    (λ x y f image r view.
    let same = shutting_contents n x y r in (
      content_of x,
      λ k. refl,
      record {
        others = λ k ne. view k ∙ same.others k ne;
        here = elim same.here [ inl e ↦ inl (view n ∙ e) | inr e ↦ inr (view n ∙ e) ];
      },
    ))
