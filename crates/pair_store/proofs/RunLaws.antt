-- Runs of blocks that need no mending, on halves and in the bytes that were read of them.
use Rattle.std.proofs.Common.{◌≡◌, ◌≢◌, ◌⊎◌, inl, inr, ◌↔◌, ℕ, ◌+◌, ◌-◌, ◌*◌, ◌<◌, ◌≤◌, List, length, slice_index, sym, ◌∙◌, ap, subst, take, ◌++◌, arith}
use Rattle.std.proofs.Math.Seq.{take-append_seam}
use Rattle.drives.specs.Changes.{Halves}
use Rattle.drives.specs.Crash.{HasAt}
use Rattle.pair_store.specs.Content.{gate, IsOpen, IsSettled, block_on}
use Rattle.pair_store.specs.ContentLaws.{block_on-at, length-block_on}
use Rattle.pair_store.specs.Runs.{AreSettling, IsSettledRun}
use Rattle.pair_store.proofs.Contents.{body_block}

-- the gate of a block is its first byte
gate_of : (half : List ℕ) (n : ℕ) → slice_index (block_on half n) 0 ≡ gate half n
gate_of half n = block_on-at half n 0 (omega arith) ∙ ap (λ (i : ℕ). slice_index half i) (let e : 1024 * n + 0 ≡ 1024 * n = omega arith in e)

-- a block is settled by its bytes
pub settling_is : (n : ℕ) (a b : List ℕ) → AreSettling (block_on a n) (block_on b n) → IsSettled n (record { a = a; b = b })
settling_is n a b (inl (open_a, open_b, equal)) = inl (sym (gate_of a n) ∙ open_a, sym (gate_of b n) ∙ open_b, equal)
settling_is n a b (inr (shut_a, shut_b)) = inr ((λ e. shut_a (gate_of a n ∙ e)), (λ e. shut_b (gate_of b n ∙ e)))

pub is_settling : (n : ℕ) (a b : List ℕ) → IsSettled n (record { a = a; b = b }) → AreSettling (block_on a n) (block_on b n)
is_settling n a b (inl (open_a, open_b, equal)) = inl (gate_of a n ∙ open_a, gate_of b n ∙ open_b, equal)
is_settling n a b (inr (shut_a, shut_b)) = inr ((λ e. shut_a (sym (gate_of a n) ∙ e)), (λ e. shut_b (sym (gate_of b n) ∙ e)))

-- bytes that were read of a half hold its blocks
block_read : (first i : ℕ) (buf half : List ℕ) → 1024 * i + 1024 ≤ length buf → 1024 * first + length buf ≤ length half
    → HasAt (1024 * first) buf half → block_on half (first + i) ≡ block_on buf i
block_read first i buf half within long has =
    let full = length-block_on buf i in
    body_block (first + i) (block_on buf i) half (omega (arith, within, long)) (omega (arith, full, within)) (λ j low.
    let at : 1024 * (first + i) + j ≡ 1024 * first + (1024 * i + j) = omega arith in
    ap (λ (m : ℕ). slice_index half m) at ∙ has (1024 * i + j) (omega (arith, low, within)) ∙ sym (block_on-at buf i j low))

-- and tell which of them are settled
settled_read : (first i : ℕ) (a b : List ℕ) (x : Halves) → block_on x.a (first + i) ≡ block_on a i → block_on x.b (first + i) ≡ block_on b i
    → IsSettled i (record { a = a; b = b }) ↔ IsSettled (first + i) x
settled_read first i a b x is_a is_b = (
  λ s. settling_is (first + i) x.a x.b (subst (λ w. AreSettling w (block_on x.b (first + i))) (sym is_a) (subst (λ w. AreSettling (block_on a i) w) (sym is_b) (is_settling i a b s))),
  λ s. settling_is i a b (subst (λ w. AreSettling w (block_on b i)) is_a (subst (λ w. AreSettling (block_on x.a (first + i)) w) is_b (is_settling (first + i) x.a x.b s))),
)

-- what is counted in the bytes is so on the halves
pub run_read : (first count k : ℕ) (a b : List ℕ) (x : Halves) → length a ≡ 1024 * count → length b ≡ 1024 * count
    → 1024 * first + length a ≤ length x.a → 1024 * first + length b ≤ length x.b → HasAt (1024 * first) a x.a → HasAt (1024 * first) b x.b
    → IsSettledRun 0 count k (record { a = a; b = b }) → IsSettledRun first count k x
run_read first count k a b x size_a size_b long_a long_b has_a has_b run =
    let each : (i : ℕ) → i < count → IsSettled i (record { a = a; b = b }) ↔ IsSettled (first + i) x =
    λ i low. settled_read first i a b x
    (block_read first i a x.a (omega (arith, low, size_a)) long_a has_a)
    (block_read first i b x.b (omega (arith, low, size_b)) long_b has_b) in
    record {
      most = run.most;
      settled = λ n low high.
          let most = run.most in
          let is : first + (n - first) ≡ n = omega (arith, low) in
          subst (λ (m : ℕ). IsSettled m x) is ((each (n - first) (omega (arith, low, high, most))).0 (run.settled (n - first) (omega arith) (omega (arith, low, high))));
      ends = λ less is.
          let at : k ≡ 0 + k = omega arith in
          run.ends less (subst (λ (m : ℕ). IsSettled m (record { a = a; b = b })) at ((each k less).1 is));
    }

-- the bytes in front of others
front : (n : ℕ) (xs ys : List ℕ) → length xs ≡ n → take n (xs ++ ys) ≡ xs
front n xs ys full = subst (λ (m : ℕ). take m (xs ++ ys) ≡ xs) full (take-append_seam xs ys)

-- so is what is counted in a buffer's front
pub run_front : {count k n : ℕ} {a b : List ℕ} (behind_a behind_b : List ℕ) → length a ≡ n → length b ≡ n
    → IsSettledRun 0 count k (record { a = take n (a ++ behind_a); b = take n (b ++ behind_b) }) → IsSettledRun 0 count k (record { a = a; b = b })
run_front {count} {k} {n} {a} {b} behind_a behind_b full_a full_b run =
    subst (λ (w : List ℕ). IsSettledRun 0 count k (record { a = w; b = b })) (front n a behind_a full_a)
    (subst (λ (w : List ℕ). IsSettledRun 0 count k (record { a = take n (a ++ behind_a); b = w })) (front n b behind_b full_b) run)
