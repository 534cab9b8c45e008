-- Settled blocks, and what leaves them settled.
use Rattle.std.proofs.Common.{◌≡◌, ◌≢◌, inl, inr, ◌↔◌, ℕ, ◌+◌, ◌*◌, ◌≤◌, Some, None, List, length, slice_index, refl, sym, ◌∙◌, ap, arith}
use Rattle.drives.specs.declared.device.Half.{Half}
use Rattle.drives.specs.declared.device.Half.TheVariants.{A, B}
use Rattle.drives.specs.Crash.{LeavesSame}
use Rattle.drives.specs.Changes.{Changes, Halves, HalvesLeft, OnHalves}
use Rattle.drives.proofs.Composing.{viewed}
use Rattle.pair_store.specs.Content.{gate, IsOpen, block_on, content_of, ContentsLeft, HasContents, IsSettled, IsSettledAlways}
use Rattle.pair_store.specs.Stages.{HasBody, Kept, SameElsewhere}
use Rattle.pair_store.specs.Blocks.{SameContents, SameOthers}
use Rattle.pair_store.specs.ContentLaws.{content_b, content_none}
use Rattle.pair_store.proofs.Contents.{body_block, content_kept, gate_same, other_block, others_content, same_block}

-- the content of a settled block is half A's too
pub settled_a : (n : ℕ) (x : Halves) → IsSettled n x → IsOpen x.a n → content_of x n ≡ Some (block_on x.a n)
settled_a n x (inl (open_a, open_b, equal)) _ = content_b x n open_b ∙ ap (λ (b : List ℕ). Some b) (sym equal)
settled_a n x (inr (shut_a, shut_b)) open_a = absurd (shut_a open_a)

-- a settled block that is closed on one half has no content
pub settled_shut_a : (n : ℕ) (x : Halves) → IsSettled n x → gate x.a n ≢ 165 → content_of x n ≡ None
settled_shut_a n x (inl (open_a, open_b, equal)) shut = absurd (shut open_a)
settled_shut_a n x (inr (shut_a, shut_b)) _ = content_none x n shut_b shut_a

pub settled_shut_b : (n : ℕ) (x : Halves) → IsSettled n x → gate x.b n ≢ 165 → content_of x n ≡ None
settled_shut_b n x (inl (open_a, open_b, equal)) shut = absurd (shut open_b)
settled_shut_b n x (inr (shut_a, shut_b)) _ = content_none x n shut_b shut_a

-- a block with the same bytes on both halves is settled as it was
settled_kept : (k : ℕ) (x y : Halves) → gate y.a k ≡ gate x.a k → gate y.b k ≡ gate x.b k → block_on y.a k ≡ block_on x.a k → block_on y.b k ≡ block_on x.b k → IsSettled k x → IsSettled k y
settled_kept k x y gate_a gate_b block_a block_b (inl (open_a, open_b, equal)) = inl (gate_a ∙ open_a, gate_b ∙ open_b, block_a ∙ equal ∙ sym block_b)
settled_kept k x y gate_a gate_b block_a block_b (inr (shut_a, shut_b)) = inr (λ e. shut_a (sym gate_a ∙ e), λ e. shut_b (sym gate_b ∙ e))

pub settled_elsewhere : (n k : ℕ) (x y : Halves) → k ≢ n → SameElsewhere n x.a y.a → SameElsewhere n x.b y.b → IsSettled k x ↔ IsSettled k y
settled_elsewhere n k x y ne a b =
    let same_a = other_block n k x.a y.a ne a in
    let same_b = other_block n k x.b y.b ne b in
    let gate_a = gate_same k x.a y.a same_a in
    let gate_b = gate_same k x.b y.b same_b in
    let block_a = same_block k x.a y.a a.size same_a in
    let block_b = same_block k x.b y.b b.size same_b in
    (settled_kept k x y gate_a gate_b block_a block_b, settled_kept k y x (sym gate_a) (sym gate_b) (sym block_a) (sym block_b))

-- both halves are the same
pub settled_same : (k : ℕ) (x y : Halves) → y.a ≡ x.a → y.b ≡ x.b → IsSettled k x → IsSettled k y
settled_same k x y a b =
    settled_kept k x y (ap (λ (w : List ℕ). gate w k) a) (ap (λ (w : List ℕ). gate w k) b) (ap (λ (w : List ℕ). block_on w k) a) (ap (λ (w : List ℕ). block_on w k) b)

pub same_contents : (x y : Halves) → y.a ≡ x.a → y.b ≡ x.b → SameContents (content_of x) (content_of y)
same_contents x y a b k =
    content_kept k x y (ap (λ (w : List ℕ). block_on w k) a) (ap (λ (w : List ℕ). block_on w k) b) (ap (λ (w : List ℕ). gate w k) a) (ap (λ (w : List ℕ). gate w k) b)

-- new bytes on both halves settle a block
open_body : (n : ℕ) (body y : List ℕ) → slice_index body 0 ≡ 165 → HasBody n body y → IsOpen y n
open_body n body y opened has = ap (λ (i : ℕ). slice_index y i) (let e : 1024 * n ≡ 1024 * n + 0 = omega arith in e) ∙ has 0 (omega arith) ∙ opened

pub settled_body : (n : ℕ) (body : List ℕ) (y : Halves) → length body ≡ 1024 → 1024 * n + 1024 ≤ length y.a → 1024 * n + 1024 ≤ length y.b → slice_index body 0 ≡ 165 → HasBody n body y.a → HasBody n body y.b → IsSettled n y
settled_body n body y full whole_a whole_b opened a b =
    inl (open_body n body y.a opened a, open_body n body y.b opened b, body_block n body y.a whole_a full a ∙ sym (body_block n body y.b whole_b full b))

-- where a crash leaves the same, it leaves the same blocks settled
pub settled_left : {D : Type 0} (left : D → Half → ℕ → List ℕ → Type 0) (old new : D) (then now : ℕ) (k : ℕ) → ((h : Half) → LeavesSame (left old h then) (left new h now)) → IsSettledAlways left new now k ↔ IsSettledAlways left old then k
settled_left left old new then now k same = (
  λ settled x image. settled x (((same A x.a).1 image.0), ((same B x.b).1 image.1)),
  λ settled x image. settled x (((same A x.a).0 image.0), ((same B x.b).0 image.1)),
)

module _ {D : Type 0} (moment : D → ℕ) (left : D → Half → ℕ → List ℕ → Type 0) (old new : D) where
  -- halves that stay keep their contents
  pub kept_contents : Changes moment (HalvesLeft left) old new (OnHalves Kept) → Changes moment (ContentsLeft left) old new SameContents
  kept_contents changes = viewed moment (HalvesLeft left) HasContents old new (OnHalves Kept) SameContents changes
      (λ x y f image kept view. (content_of x, λ k. refl, λ k. view k ∙ same_contents x y kept.0 kept.1 k))

  module _ (n : ℕ) (changes : Changes moment (HalvesLeft left) old new (OnHalves (λ h x y. SameElsewhere n x y))) where
    -- a write of one block keeps the contents of all others
    pub other_contents : Changes moment (ContentsLeft left) old new (SameOthers n)
    other_contents = viewed moment (HalvesLeft left) HasContents old new (OnHalves (λ h x y. SameElsewhere n x y)) (SameOthers n) changes
        (λ x y f image same view. (content_of x, λ k. refl, λ k ne. view k ∙ others_content n k x y ne same.0 same.1))

    -- and what was settled in every image stays so
    pub other_settled : (k : ℕ) → k ≢ n → IsSettledAlways left old (moment old) k → IsSettledAlways left new (moment new) k
    other_settled k ne settled y image =
        let from = changes.own (moment new) y changes.later (omega arith) image in
        (settled_elsewhere n k from.0 y ne from.2.0 from.2.1).0 (settled from.0 from.1)
