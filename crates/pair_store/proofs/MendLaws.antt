-- Mending: a half is copied on the other one, and no content changes.
use Rattle.std.proofs.Common.{◌≡◌, inl, inr, ◌↔◌, ℕ, ◌+◌, ◌*◌, ◌≤◌, Some, List, Result, Ok, Err, length, slice_index, refl, sym, ◌∙◌, ap, subst, arith}
use Rattle.drives.specs.declared.device.Half.{Half}
use Rattle.drives.specs.declared.device.Half.TheVariants.{A, B}
use Rattle.drives.specs.Half.{other}
use Rattle.drives.specs.Crash.{LeavesOnly, LeavesSame}
use Rattle.drives.specs.Changes.{Changes, Halves, HalvesLeft, IsAtRest, OnHalves, halves_seen}
use Rattle.drives.proofs.Composing.{leaves_now, viewed, weaker}
use Rattle.pair_store.specs.declared.fault.PairFault.{PairFault}
use Rattle.pair_store.specs.declared.fault.PairFault.TheVariants.{ReadFault, WriteFault, BothClosed, BadPage}
use Rattle.pair_store.specs.declared.outcome.Mended.{Mended}
use Rattle.pair_store.specs.declared.outcome.Mended.TheVariants.{Same, Copied, Nothing}
use Rattle.pair_store.specs.Content.{gate, IsOpen, block_on, content_of, ContentsLeft, HasContents, IsSettled, IsSettledAlways}
use Rattle.pair_store.specs.ContentLaws.{block_on-at, content_b, content_open_a, decide}
use Rattle.pair_store.specs.Stages.{At, HasBody, IsKnownGate, SameElsewhere}
use Rattle.pair_store.specs.Blocks.{SameContents}
use Rattle.pair_store.specs.Mending.{IsCopy, IsMended, IsPlan, IsStale, WroteNothing}
use Rattle.pair_store.proofs.Contents.{body_content, content_kept, gate_same, others_content, same_block}
use Rattle.pair_store.proofs.HalfWriting.{Staged}
use Rattle.pair_store.proofs.Relations.{At-weaker}
use Rattle.pair_store.proofs.SettledLaws.{settled_body, settled_same}

-- a block's first byte is its gate
gate_block : (x : List ℕ) (n : ℕ) → slice_index (block_on x n) 0 ≡ gate x n
gate_block x n = block_on-at x n 0 (omega arith) ∙ ap (λ (i : ℕ). slice_index x i) (let e : 1024 * n + 0 ≡ 1024 * n = omega arith in e)

-- bytes that are a block's
block_body : (n : ℕ) (body x : List ℕ) → body ≡ block_on x n → HasBody n body x
block_body n body x is i low = sym (block_on-at x n i low) ∙ ap (λ (b : List ℕ). slice_index b i) (sym is)

-- what is copied is not what is there
pub plan_stale : (from : Half) (n : ℕ) (body : List ℕ) (x : Halves) → IsPlan (block_on x.a n) (block_on x.b n) body (Copied from) → IsStale n x (other from)
plan_stale A n body x (shut, is_open, is) = (λ e. shut (gate_block x.b n ∙ e), sym (gate_block x.a n) ∙ is_open)
plan_stale B n body x (is_open, differ, is) = (sym (gate_block x.b n) ∙ is_open, differ)

-- what mending finds is what it answers
pub plan_mended : (m : Mended) (n : ℕ) (body : List ℕ) (x : Halves) → IsPlan (block_on x.a n) (block_on x.b n) body m → IsMended n x (Ok m)
plan_mended Same n body x (is_open, equal) =
    let open_b : IsOpen x.b n = sym (gate_block x.b n) ∙ is_open in
    (sym (gate_block x.a n) ∙ ap (λ (b : List ℕ). slice_index b 0) equal ∙ gate_block x.b n ∙ open_b, open_b, equal)
plan_mended (Copied from) n body x is = plan_stale from n body x is
plan_mended Nothing n body x (shut_a, shut_b) = (λ e. shut_a (gate_block x.a n ∙ e), λ e. shut_b (gate_block x.b n ∙ e))

-- while half B is closed or written from half A, the content is half A's
copying_here : (n : ℕ) (body : List ℕ) (x y : Halves) → length body ≡ 1024 → 1024 * n + 1024 ≤ length x.b → slice_index body 0 ≡ 165 → IsPlan (block_on x.a n) (block_on x.b n) body (Copied A) → OnHalves (At B (Staged n body)) x y → content_of y n ≡ content_of x n
copying_here n body x y full whole opened plan (kept, (elsewhere, inl shut)) =
    let stale = plan_stale A n body x plan in
    let still : IsOpen y.a n = ap (λ (a : List ℕ). gate a n) kept ∙ stale.1 in
    content_open_a y n shut still ∙ ap (λ (a : List ℕ). Some (block_on a n)) kept ∙ sym (content_open_a x n stale.0 stale.1)
copying_here n body x y full whole opened plan (kept, (elsewhere, inr (inl same))) =
    content_kept n x y (ap (λ (a : List ℕ). block_on a n) kept) (same_block n x.b y.b elsewhere.size same) (ap (λ (a : List ℕ). gate a n) kept) (gate_same n x.b y.b same)
copying_here n body x y full whole opened plan (kept, (elsewhere, inr (inr has))) =
    let stale = plan_stale A n body x plan in
    body_content n body y full (omega (arith, whole, elsewhere.size)) opened has ∙ ap (λ (b : List ℕ). Some b) plan.2 ∙ sym (content_open_a x n stale.0 stale.1)

same_elsewhere : (n : ℕ) (x : List ℕ) → SameElsewhere n x x
same_elsewhere n x = record { size = refl; outside = λ i out. refl }

-- a write on one half leaves all other blocks on both
pub At-each : (half : Half) (n : ℕ) (x y : Halves) → OnHalves (At half (SameElsewhere n)) x y → OnHalves (λ h x y. SameElsewhere n x y) x y
At-each A n x y r = (r.0, subst (λ (w : List ℕ). SameElsewhere n x.b w) (sym r.1) (same_elsewhere n x.b))
At-each B n x y r = (subst (λ (w : List ℕ). SameElsewhere n x.a w) (sym r.0) (same_elsewhere n x.a), r.1)

-- the content of a block of which a half is copied
copied_here : (from : Half) (n : ℕ) (body : List ℕ) (x y : Halves) → length body ≡ 1024 → 1024 * n + 1024 ≤ length x.b → slice_index body 0 ≡ 165 → IsPlan (block_on x.a n) (block_on x.b n) body (Copied from) → OnHalves (At (other from) (Staged n body)) x y → content_of y n ≡ content_of x n
copied_here A n body x y full whole opened plan r = copying_here n body x y full whole opened plan r
copied_here B n body x y full whole opened plan r =
    let is_open = (plan_stale B n body x plan).0 in
    let still : IsOpen y.b n = ap (λ (b : List ℕ). gate b n) r.1 ∙ is_open in
    content_b y n still ∙ ap (λ (b : List ℕ). Some (block_on b n)) r.1 ∙ sym (content_b x n is_open)

-- while a half is copied, no content changes
pub copying_keeps : (from : Half) (n : ℕ) (body : List ℕ) (x y : Halves) → length body ≡ 1024 → 1024 * n + 1024 ≤ length x.b → slice_index body 0 ≡ 165 → IsPlan (block_on x.a n) (block_on x.b n) body (Copied from) → OnHalves (At (other from) (Staged n body)) x y → SameContents (content_of x) (content_of y)
copying_keeps from n body x y full whole opened plan r k =
    elim (decide k n) [
      | inl same ↦ subst (λ (m : ℕ). content_of y m ≡ content_of x m) (sym same) (copied_here from n body x y full whole opened plan r)
      | inr ne ↦
          let each = At-each (other from) n x y (At-weaker (other from) (Staged n body) (SameElsewhere n) x y (λ s. s.0) r) in
          others_content n k x y ne each.0 each.1
    ]

-- the half that is not the other one is this one
pub other_other : (h : Half) → other (other h) ≡ h
other_other A = refl
other_other B = refl

-- a half that was copied settles the block
pub copy_settles : (from : Half) (n : ℕ) (body : List ℕ) (s s' : Half → List ℕ) → length body ≡ 1024 → 1024 * n + 1024 ≤ length (s' A) → 1024 * n + 1024 ≤ length (s' B) → slice_index body 0 ≡ 165 → IsPlan (block_on (s A) n) (block_on (s B) n) body (Copied from) → s' from ≡ s from → HasBody n body (s' (other from)) → IsSettled n (record { a = s' A; b = s' B })
copy_settles A n body s s' full whole_a whole_b opened plan kept has =
    settled_body n body (record { a = s' A; b = s' B }) full whole_a whole_b opened (subst (λ (w : List ℕ). HasBody n body w) (sym kept) (block_body n body (s A) plan.2)) has
copy_settles B n body s s' full whole_a whole_b opened plan kept has =
    settled_body n body (record { a = s' A; b = s' B }) full whole_a whole_b opened has (subst (λ (w : List ℕ). HasBody n body w) (sym kept) (block_body n body (s B) plan.2))

-- what reads give before and after a half is copied
pub seen_copying : (from : Half) (n : ℕ) (body : List ℕ) (s s' : Half → List ℕ) → s' from ≡ s from → Staged n body (s (other from)) (s' (other from)) → OnHalves (At (other from) (Staged n body)) (record { a = s A; b = s B }) (record { a = s' A; b = s' B })
seen_copying A n body s s' kept staged = (kept, staged)
seen_copying B n body s s' kept staged = (staged, kept)

pub seen_range : (from : Half) (n : ℕ) (s s' : Half → List ℕ) → s' from ≡ s from → SameElsewhere n (s (other from)) (s' (other from)) → SameElsewhere n (s A) (s' A) × SameElsewhere n (s B) (s' B)
seen_range A n s s' kept range = (subst (λ (w : List ℕ). SameElsewhere n (s A) w) (sym kept) (same_elsewhere n (s A)), range)
seen_range B n s s' kept range = (range, subst (λ (w : List ℕ). SameElsewhere n (s B) w) (sym kept) (same_elsewhere n (s B)))

-- a copy was a write
pub copy_wrote : (from : Half) (r : Result Mended PairFault) → IsCopy from r → WroteNothing r → ⊥
copy_wrote from (Ok Same) is none = is
copy_wrote from (Ok (Copied half)) is none = none
copy_wrote from (Ok Nothing) is none = is
copy_wrote from (Err (ReadFault h)) is none = is
copy_wrote from (Err (WriteFault h)) is none = none
copy_wrote from (Err (BothClosed m)) is none = is
copy_wrote from (Err (BadPage m why)) is none = is

-- of two halves, one that is not this one is the other
pub of_other : (P : Half → Type 0) (half h : Half) → (half ≡ h → ⊥) → P (other half) → P h
of_other P A A differ p = absurd (differ refl)
of_other P A B differ p = p
of_other P B A differ p = p
of_other P B B differ p = absurd (differ refl)

module _ {D : Type 0} (seen : D → Half → List ℕ) (moment : D → ℕ) (left : D → Half → ℕ → List ℕ → Type 0) where
  -- where nothing is pending, the gate that is read is that of each image
  pub rest_known : (d : D) (h : Half) (n : ℕ) → IsAtRest seen moment left d → IsKnownGate seen moment left d h n
  rest_known d h n rest c image =
      let is = rest h c image in
      (λ e. subst (λ (w : List ℕ). IsOpen w n) is e, λ e. subst (λ (w : List ℕ). IsOpen w n) (sym is) e)

  -- and a block that is settled is so in each image
  pub rest_settled : (d : D) (n : ℕ) → IsAtRest seen moment left d → IsSettled n (halves_seen seen d) → IsSettledAlways left d (moment d) n
  rest_settled d n rest settled x image = settled_same n (halves_seen seen d) x (rest A x.a image.0) (rest B x.b image.1) settled

  module _ (old new : D) where
    -- reads leave nothing pending
    pub rest_kept : IsAtRest seen moment left old → ((h : Half) → seen new h ≡ seen old h) → ((h : Half) → LeavesSame (left old h (moment old)) (left new h (moment new))) → IsAtRest seen moment left new
    rest_kept rest same leaves h c image = rest h c ((leaves h c).0 image) ∙ sym (same h)

    -- and each block as settled as it was
    pub reads_settled : ((h : Half) → seen new h ≡ seen old h) → (k : ℕ) → IsSettled k (halves_seen seen new) ↔ IsSettled k (halves_seen seen old)
    reads_settled same k = (
      settled_same k (halves_seen seen new) (halves_seen seen old) (sym (same A)) (sym (same B)),
      settled_same k (halves_seen seen old) (halves_seen seen new) (same A) (same B),
    )

    -- a copy that is on the disk leaves nothing pending
    pub rest_after : (R : List ℕ → List ℕ → Type 0) (from : Half) → IsAtRest seen moment left old → seen new from ≡ seen old from → LeavesOnly (seen new (other from)) (left new (other from) (moment new)) → left new (other from) (moment new) (seen new (other from)) → Changes moment (HalvesLeft left) old new (OnHalves (At (other from) R)) → IsAtRest seen moment left new
    rest_after R A rest kept durable read changes A c image =
        let before = leaves_now moment (HalvesLeft left) old new (OnHalves (At B R)) changes (record { a = c; b = seen new B }) (image, read) in
        before.2.0 ∙ rest A before.0.a before.1.0 ∙ sym kept
    rest_after R A rest kept durable read changes B c image = durable c image
    rest_after R B rest kept durable read changes A c image = durable c image
    rest_after R B rest kept durable read changes B c image =
        let before = leaves_now moment (HalvesLeft left) old new (OnHalves (At A R)) changes (record { a = seen new A; b = c }) (read, image) in
        before.2.1 ∙ rest B before.0.b before.1.1 ∙ sym kept

    -- a copy leaves all other blocks on both halves
    pub copy_elsewhere : (half : Half) (n : ℕ) → Changes moment (HalvesLeft left) old new (OnHalves (At half (SameElsewhere n))) → Changes moment (HalvesLeft left) old new (OnHalves (λ h x y. SameElsewhere n x y))
    copy_elsewhere half n changes = weaker moment (HalvesLeft left) old new (OnHalves (At half (SameElsewhere n))) (OnHalves (λ h x y. SameElsewhere n x y)) changes (λ x y _ r. At-each half n x y r)

    -- and no content in any image
    pub copy_images : (from : Half) (n : ℕ) (body : List ℕ) → length body ≡ 1024 → 1024 * n + 1024 ≤ length (seen old B) → slice_index body 0 ≡ 165 → IsAtRest seen moment left old → IsPlan (block_on (seen old A) n) (block_on (seen old B) n) body (Copied from) → Changes moment (HalvesLeft left) old new (OnHalves (At (other from) (Staged n body))) → Changes moment (ContentsLeft left) old new SameContents
    copy_images from n body full whole opened rest plan changes =
        viewed moment (HalvesLeft left) HasContents old new (OnHalves (At (other from) (Staged n body))) SameContents changes
        (λ x y f image r view.
        let is_a = rest A x.a image.0 in
        let is_b = rest B x.b image.1 in
        let long : 1024 * n + 1024 ≤ length x.b = subst (λ (w : List ℕ). 1024 * n + 1024 ≤ length w) (sym is_b) whole in
        let plan_a = subst (λ (w : List ℕ). IsPlan (block_on w n) (block_on (seen old B) n) body (Copied from)) (sym is_a) plan in
        let plan_x = subst (λ (w : List ℕ). IsPlan (block_on x.a n) (block_on w n) body (Copied from)) (sym is_b) plan_a in
        (content_of x, λ k. refl, λ k. view k ∙ copying_keeps from n body x y full long opened plan_x r k))
