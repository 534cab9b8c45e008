-- Contents of blocks on halves of which one is being written.
use Rattle.std.proofs.Common.{◌≡◌, ◌≢◌, ◌⊎◌, inl, inr, ◌↔◌, ℕ, ◌+◌, ◌*◌, ◌<◌, ◌≤◌, Some, Bool, true, false, List, length, slice_index, sym, ◌∙◌, ap, arith, rules}
use Rattle.std.specs.Prelude.{IsTrue}
use Rattle.std.proofs.lemmas.Bool.{false≢true}
use Rattle.std.proofs.lemmas.List.{same_lists, get_or_default}
use Rattle.drives.specs.Changes.{Halves}
use Rattle.pair_store.specs.Content.{gate, IsOpen, block_on, content_of, IsSettled}
use Rattle.pair_store.specs.ContentLaws.{block_on-at, content_b, content_none, content_open_a, length-block_on}
use Rattle.pair_store.specs.Stages.{HasBody, IsStage, SameBlock, SameElsewhere}

same_numbers : (xs ys : List ℕ) → length xs ≡ length ys → ((i : ℕ) → i < length xs → slice_index xs i ≡ slice_index ys i) → xs ≡ ys
same_numbers xs ys e h = same_lists xs ys e (λ k d low. get_or_default xs k d 0 low ∙ h k low ∙ sym (get_or_default ys k d 0 (omega (arith, e, low))))

-- a block whose bytes are the same is the same
pub same_block : (n : ℕ) (x y : List ℕ) → length y ≡ length x → SameBlock n x y → block_on y n ≡ block_on x n
same_block n x y size same =
    let lx = length-block_on x n in
    let ly = length-block_on y n in
    same_numbers (block_on y n) (block_on x n) (omega (arith, lx, ly, size)) (λ i low.
    let short : i < 1024 = omega (arith, low, ly) in
    block_on-at y n i short ∙ same i short ∙ sym (block_on-at x n i short))

-- a block that has these bytes is them
pub body_block : (n : ℕ) (body y : List ℕ) → 1024 * n + 1024 ≤ length y → length body ≡ 1024 → HasBody n body y → block_on y n ≡ body
body_block n body y long size has =
    let ly = length-block_on y n in
    same_numbers (block_on y n) body (omega (arith, ly, long, size)) (λ i low.
    let short : i < 1024 = omega (arith, low, ly) in
    block_on-at y n i short ∙ has i short)

apart : (k n : ℕ) → k ≢ n → (k < n) ⊎ (n < k)
apart k n ne = grind arith

-- another block is as it was
pub other_block : (n k : ℕ) (x y : List ℕ) → k ≢ n → SameElsewhere n x y → SameBlock k x y
other_block n k x y ne same i low =
    elim (apart k n ne) [
      | inl below ↦ same.outside (1024 * k + i) (inl (omega (arith, below, low)))
      | inr above ↦ same.outside (1024 * k + i) (inr (omega (arith, above, low)))
    ]

pub gate_same : (n : ℕ) (x y : List ℕ) → SameBlock n x y → gate y n ≡ gate x n
gate_same n x y same =
    ap (λ (i : ℕ). slice_index y i) (let e : 1024 * n ≡ 1024 * n + 0 = omega arith in e)
    ∙ same 0 (omega arith)
    ∙ ap (λ (i : ℕ). slice_index x i) (let e : 1024 * n + 0 ≡ 1024 * n = omega arith in e)

-- a block that is as it was on both halves has its content
pub content_kept : (n : ℕ) (x y : Halves) → block_on y.a n ≡ block_on x.a n → block_on y.b n ≡ block_on x.b n → gate y.a n ≡ gate x.a n → gate y.b n ≡ gate x.b n → content_of y n ≡ content_of x n
content_kept n x y block_a block_b gate_a gate_b = rw (block_a, block_b, gate_a, gate_b)

-- half B of a settled block is closed: the content is half A's, which it was before
shut_content : (n : ℕ) (x y : Halves) → IsSettled n x → y.a ≡ x.a → gate y.b n ≢ 165 → content_of y n ≡ content_of x n
shut_content n x y (inl (open_a, open_b, equal)) kept shut =
    let still : IsOpen y.a n = ap (λ (a : List ℕ). gate a n) kept ∙ open_a in
    content_open_a y n shut still
    ∙ ap (λ (a : List ℕ). Some (block_on a n)) kept
    ∙ ap (λ (b : List ℕ). Some b) equal
    ∙ sym (content_b x n open_b)
shut_content n x y (inr (shut_a, shut_b)) kept shut =
    let still : gate y.a n ≢ 165 = λ e. shut_a (sym (ap (λ (a : List ℕ). gate a n) kept) ∙ e) in
    content_none y n shut still ∙ sym (content_none x n shut_b shut_a)

-- half B has the new bytes: they are the content
pub body_content : (n : ℕ) (body : List ℕ) (y : Halves) → length body ≡ 1024 → 1024 * n + 1024 ≤ length y.b → slice_index body 0 ≡ 165 → HasBody n body y.b → content_of y n ≡ Some body
body_content n body y full whole opened has =
    let is_open : IsOpen y.b n = ap (λ (i : ℕ). slice_index y.b i) (let e : 1024 * n ≡ 1024 * n + 0 = omega arith in e) ∙ has 0 (omega arith) ∙ opened in
    content_b y n is_open ∙ ap (λ (b : List ℕ). Some b) (body_block n body y.b whole full has)

-- while half B of a settled block is written, the block has its old content or the new one
pub stage_content : (n : ℕ) (body : List ℕ) (x y : Halves) → length body ≡ 1024 → 1024 * n + 1024 ≤ length x.b → slice_index body 0 ≡ 165 → IsSettled n x → y.a ≡ x.a → length y.b ≡ length x.b → IsStage n body x.b y.b → (content_of y n ≡ content_of x n) ⊎ (content_of y n ≡ Some body)
stage_content n body x y full whole opened settled kept size (inl shut) = inl (shut_content n x y settled kept shut)
stage_content n body x y full whole opened settled kept size (inr (inl same)) =
    inl (content_kept n x y (ap (λ (a : List ℕ). block_on a n) kept) (same_block n x.b y.b size same) (ap (λ (a : List ℕ). gate a n) kept) (gate_same n x.b y.b same))
stage_content n body x y full whole opened settled kept size (inr (inr has)) =
    inr (body_content n body y full (omega (arith, whole, size)) opened has)

-- all other blocks have their contents
pub others_content : (n k : ℕ) (x y : Halves) → k ≢ n → SameElsewhere n x.a y.a → SameElsewhere n x.b y.b → content_of y k ≡ content_of x k
others_content n k x y ne a b =
    let same_a = other_block n k x.a y.a ne a in
    let same_b = other_block n k x.b y.b ne b in
    content_kept k x y (same_block k x.a y.a a.size same_a) (same_block k x.b y.b b.size same_b) (gate_same k x.a y.a same_a) (gate_same k x.b y.b same_b)

-- what a read of an open block gives is its content
pub read_b : (n : ℕ) (bytes : List ℕ) (x : Halves) → length bytes ≡ 1024 → 1024 * n + 1024 ≤ length x.b → IsOpen x.b n → HasBody n bytes x.b → content_of x n ≡ Some bytes
read_b n bytes x full whole is_open has = content_b x n is_open ∙ ap (λ (b : List ℕ). Some b) (body_block n bytes x.b whole full has)

pub read_a : (n : ℕ) (bytes : List ℕ) (x : Halves) → length bytes ≡ 1024 → 1024 * n + 1024 ≤ length x.a → gate x.b n ≢ 165 → IsOpen x.a n → HasBody n bytes x.a → content_of x n ≡ Some bytes
read_a n bytes x full whole shut is_open has = content_open_a x n shut is_open ∙ ap (λ (b : List ℕ). Some b) (body_block n bytes x.a whole full has)

not_true : IsTrue false → ⊥
not_true t = search rules

-- a gate that was read closed is not open
pub shut_gate : (b : Bool) (P : Type 0) → b ≡ false → IsTrue b ↔ P → P → ⊥
shut_gate true P e iff p = absurd (false≢true (sym e))
shut_gate false P e iff p = not_true (iff.1 p)
