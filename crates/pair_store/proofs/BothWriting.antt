-- A stable write: half B, and then half A.
use Rattle.std.proofs.Common.{◌≡◌, ◌⊎◌, inl, inr, ◌↔◌, ℕ, ◌+◌, ◌*◌, ◌<◌, ◌≤◌, Option, List, length, slice_index, refl, sym, ◌∙◌, subst, arith}
use Rattle.drives.specs.declared.device.Half.{Half}
use Rattle.drives.specs.declared.device.Half.TheVariants.{A, B}
use Rattle.drives.specs.Changes.{Changes, Halves, HalvesLeft, LeavesNow, OnHalves}
use Rattle.drives.proofs.Composing.{goes_on, leaves_now, viewed}
use Rattle.pair_store.specs.Content.{IsOpen, content_of, ContentsLeft, HasContents, IsSettled, IsSettledAlways}
use Rattle.pair_store.specs.Stages.{At, HasBody, IsStage, SameElsewhere}
use Rattle.pair_store.specs.Blocks.{OldOrNew}
use Rattle.pair_store.proofs.Contents.{body_content, others_content, stage_content}
use Rattle.pair_store.proofs.HalfWriting.{Staged}

-- a settled block is open on both halves or on none
open_on_both : (n : ℕ) (x : Halves) → IsSettled n x → IsOpen x.a n ↔ IsOpen x.b n
open_on_both n x (inl (open_a, open_b, equal)) = (λ _. open_b, λ _. open_a)
open_on_both n x (inr (shut_a, shut_b)) = (λ e. absurd (shut_a e), λ e. absurd (shut_b e))

elsewhere_same : (n : ℕ) (x : List ℕ) → SameElsewhere n x x
elsewhere_same n x = record { size = refl; outside = λ i out. refl }

-- all other blocks as they were, on both halves
abbrev pub Elsewhere : ℕ → Half → List ℕ → List ℕ → Type 0
Elsewhere n h x y = SameElsewhere n x y

-- half B is at a stage, or it has the new bytes and half A holds anything in the block
abbrev Writing : ℕ → List ℕ → Halves → Halves → Type 0
Writing n body x y = OnHalves (At B (Staged n body)) x y ⊎ (OnHalves (Elsewhere n) x y × HasBody n body y.b)

-- half B has the new bytes on the disk
abbrev Written : ℕ → List ℕ → Halves → Halves → Type 0
Written n body x y = OnHalves (At B (SameElsewhere n)) x y × HasBody n body y.b

module _ {D : Type 0} (moment : D → ℕ) (left : D → Half → ℕ → List ℕ → Type 0) (n : ℕ) (body : List ℕ) (old : D) where
  -- the gate that is read is that of each image, where the block is settled in every image
  pub known_b : (a b : List ℕ) → left old A (moment old) a → left old B (moment old) b → IsSettledAlways left old (moment old) n → (c : List ℕ) → left old B (moment old) c → IsOpen c n ↔ IsOpen b n
  known_b a b left_a left_b settled c left_c =
      let here = open_on_both n (record { a = a; b = b }) (settled (record { a = a; b = b }) (left_a, left_b)) in
      let there = open_on_both n (record { a = a; b = c }) (settled (record { a = a; b = c }) (left_a, left_c)) in
      (λ e. here.0 (there.1 e), λ e. there.0 (here.1 e))

  module _ (mid : D) (stages : Changes moment (HalvesLeft left) old mid (OnHalves (At B (Staged n body)))) where
    first_writing : Changes moment (HalvesLeft left) old mid (Writing n body)
    first_writing = record {
      later = stages.later;
      last = stages.last;
      stuck = stages.stuck;
      past = stages.past;
      own = λ t x low high image. let from = stages.own t x low high image in (from.0, from.1, inl from.2);
    }

    module _ (elsewhere : Changes moment (HalvesLeft left) old mid (OnHalves (At B (SameElsewhere n)))) where
      module _ (on_disk : (c : List ℕ) → left mid B (moment mid) c → HasBody n body c) (new : D) (second : Changes moment (HalvesLeft left) mid new (OnHalves (At A (SameElsewhere n)))) where
        written_now : LeavesNow moment (HalvesLeft left) old mid (Written n body)
        written_now y image =
            let from = leaves_now moment (HalvesLeft left) old mid (OnHalves (At B (SameElsewhere n))) elsewhere y image in
            (from.0, from.1, (from.2, on_disk y.b image.1))

        pub both_writing : Changes moment (HalvesLeft left) old new (Writing n body)
        both_writing =
            goes_on moment (HalvesLeft left) old mid new (Writing n body) (Written n body) (OnHalves (At A (SameElsewhere n))) (Writing n body)
            first_writing
            written_now
            second
            (λ x y _ r. r)
            (λ x y z _ r s. inr (
              (
                subst (λ (w : List ℕ). SameElsewhere n w z.a) r.0.0 s.0,
                subst (λ (w : List ℕ). SameElsewhere n x.b w) (sym s.1) r.0.1,
              ),
              subst (λ (w : List ℕ). HasBody n body w) (sym s.1) r.1,
            ))

  -- so each content comes from an old one, and one block changes
  module _ (size : ℕ) (whole : (h : Half) (c : List ℕ) → left old h (moment old) c → length c ≡ 1024 * size) (within : n < size) (full : length body ≡ 1024) (opened : slice_index body 0 ≡ 165) (settled : IsSettledAlways left old (moment old) n) where
    through : (x y : Halves) (f : ℕ → Option (List ℕ)) → HalvesLeft left old (moment old) x → Writing n body x y → HasContents y f → (g : ℕ → Option (List ℕ)) × HasContents x g × OldOrNew n body g f
    through x y f image (inl r) view =
        let room : 1024 * n + 1024 ≤ length x.b = omega (arith, whole B x.b image.1, within) in
        let same_a = subst (λ (w : List ℕ). SameElsewhere n x.a w) (sym r.0) (elsewhere_same n x.a) in (
          content_of x,
          λ k. refl,
          record {
            others = λ k ne. view k ∙ others_content n k x y ne same_a r.1.0;
            here = elim (stage_content n body x y full room opened (settled x image) r.0 r.1.0.size r.1.1) [
              | inl e ↦ inl (view n ∙ e)
              | inr e ↦ inr (view n ∙ e)
            ];
          },
        )
    through x y f image (inr (elsewhere, has)) view =
        let room : 1024 * n + 1024 ≤ length y.b = omega (arith, whole B x.b image.1, within, elsewhere.1.size) in (
          content_of x,
          λ k. refl,
          record {
            others = λ k ne. view k ∙ others_content n k x y ne elsewhere.0 elsewhere.1;
            here = inr (view n ∙ body_content n body y full room opened has);
          },
        )

    pub first_contents : (mid : D) → Changes moment (HalvesLeft left) old mid (OnHalves (At B (Staged n body))) → Changes moment (ContentsLeft left) old mid (OldOrNew n body)
    first_contents mid stages = viewed moment (HalvesLeft left) HasContents old mid (Writing n body) (OldOrNew n body) (first_writing mid stages) through

    pub both_contents : (mid new : D) → Changes moment (HalvesLeft left) old mid (OnHalves (At B (Staged n body))) → Changes moment (HalvesLeft left) old mid (OnHalves (At B (SameElsewhere n))) → ((c : List ℕ) → left mid B (moment mid) c → HasBody n body c) → Changes moment (HalvesLeft left) mid new (OnHalves (At A (SameElsewhere n))) → Changes moment (ContentsLeft left) old new (OldOrNew n body)
    both_contents mid new stages elsewhere on_disk second = viewed moment (HalvesLeft left) HasContents old new (Writing n body) (OldOrNew n body) (both_writing mid stages elsewhere on_disk new second) through

  -- all other blocks are as they were, settled or not
  pub first_elsewhere : (mid : D) → Changes moment (HalvesLeft left) old mid (OnHalves (At B (SameElsewhere n))) → Changes moment (HalvesLeft left) old mid (OnHalves (Elsewhere n))
  first_elsewhere mid changes = record {
    later = changes.later;
    last = changes.last;
    stuck = changes.stuck;
    past = changes.past;
    own = λ t x low high image.
        let from = changes.own t x low high image in
        (from.0, from.1, (subst (λ (w : List ℕ). SameElsewhere n from.0.a w) (sym from.2.0) (elsewhere_same n from.0.a), from.2.1));
  }

  pub both_elsewhere : (mid new : D) → Changes moment (HalvesLeft left) old mid (OnHalves (At B (SameElsewhere n))) → Changes moment (HalvesLeft left) mid new (OnHalves (At A (SameElsewhere n))) → Changes moment (HalvesLeft left) old new (OnHalves (Elsewhere n))
  both_elsewhere mid new first second =
      goes_on moment (HalvesLeft left) old mid new (OnHalves (Elsewhere n)) (OnHalves (At B (SameElsewhere n))) (OnHalves (At A (SameElsewhere n))) (OnHalves (Elsewhere n))
      (first_elsewhere mid first)
      (leaves_now moment (HalvesLeft left) old mid (OnHalves (At B (SameElsewhere n))) first)
      second
      (λ x y _ r. r)
      (λ x y z _ r s. (
        subst (λ (w : List ℕ). SameElsewhere n w z.a) r.0 s.0,
        subst (λ (w : List ℕ). SameElsewhere n x.b w) (sym s.1) r.1,
      ))

-- what reads give after half B alone was being written, where the block was settled
pub stage_either : (n : ℕ) (body : List ℕ) (size : ℕ) (x y : Halves) → length body ≡ 1024 → length x.b ≡ 1024 * size → n < size → slice_index body 0 ≡ 165 → IsSettled n x → y.a ≡ x.a → SameElsewhere n x.b y.b → IsStage n body x.b y.b
    → OldOrNew n body (content_of x) (content_of y)
stage_either n body size x y full whole within opened settled kept range stage =
    let same_a = subst (λ (w : List ℕ). SameElsewhere n x.a w) (sym kept) (elsewhere_same n x.a) in
    record {
      others = λ k ne. others_content n k x y ne same_a range;
      here = stage_content n body x y full (omega (arith, whole, within)) opened settled kept range.size stage;
    }

-- and after half B has the new bytes
pub body_either : (n : ℕ) (body : List ℕ) (size : ℕ) (x y : Halves) → length body ≡ 1024 → length y.b ≡ 1024 * size → n < size → slice_index body 0 ≡ 165 → SameElsewhere n x.a y.a → SameElsewhere n x.b y.b → HasBody n body y.b
    → OldOrNew n body (content_of x) (content_of y)
body_either n body size x y full whole within opened range_a range_b has = record {
  others = λ k ne. others_content n k x y ne range_a range_b;
  here = inr (body_content n body y full (omega (arith, whole, within)) opened has);
}
