-- The bytes of a half, block by block.
use Rattle.std.proofs.Common.{◌≡◌, ℕ, ◌+◌, ◌*◌, ◌≤◌, List, ◌++◌, length, take, drop, arith, ap, ◌∙◌}
use Rattle.std.proofs.lemmas.List.{drop-append-le, take-append-le, drop_at, take_all, length-drop}
use Rattle.page_codec.specs.NewStore.{block_of}

-- what is appended leaves the blocks before it
pub block_of-append : (i : ℕ) (image more : List ℕ) → 1024 * (i + 1) ≤ length image → block_of i (image ++ more) ≡ block_of i image
block_of-append i image more h =
    ap (take 1024) (drop-append-le (1024 * i) image more (omega arith))
    ∙ take-append-le 1024 (drop (1024 * i) image) more (omega (arith, length-drop (1024 * i) image))

-- a block that is appended to so many others is the next
pub block_of-push : (n : ℕ) (image block : List ℕ) → length image ≡ 1024 * n → length block ≡ 1024 → block_of n (image ++ block) ≡ block
block_of-push n image block h e = ap (take 1024) (drop_at image block (1024 * n) h) ∙ take_all 1024 block (omega arith)
