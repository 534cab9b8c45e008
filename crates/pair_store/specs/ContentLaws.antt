-- The content of a block by its two gates, and its bytes.
use Rattle.std.specs.Prelude.{◌≡◌, ◌≢◌, ◌⊎◌, ◌==◌, ℕ, ◌+◌, ◌-◌, ◌*◌, ◌<◌, min, Bool, true, false, Some, None, if◌then◌else◌, List, length, drop, slice_index}
use Rattle.std.proofs.Common.{◌∙◌, ap, arith, length-take, length-drop}
use Rattle.std.proofs.lemmas.List.{get_or-take, get_or-drop}
use Rattle.std.proofs.lemmas.Bool.Decides.{nat_tests}
use Rattle.drives.specs.Changes.{Halves}
use Rattle.pair_store.specs.Content.{gate, IsOpen, block_on, content_of}

pub decide : (m n : ℕ) → (m ≡ n) ⊎ (m ≢ n)
decide m n = Prim.grind arith

open_test : (g : ℕ) → g ≡ 165 → (g == 165) ≡ true
open_test g e = Prim.grind (arith, nat_tests)

closed_test : (g : ℕ) → g ≢ 165 → (g == 165) ≡ false
closed_test g ne = Prim.grind (arith, nat_tests)

pub length-block_on : (xs : List ℕ) (n : ℕ) → length (block_on xs n) ≡ min 1024 (length xs - 1024 * n)
length-block_on xs n = Prim.simp (length-take, length-drop)

pub block_on-at : (xs : List ℕ) (n i : ℕ) → i < 1024 → slice_index (block_on xs n) i ≡ slice_index xs (1024 * n + i)
block_on-at xs n i low = get_or-take 1024 (drop (1024 * n) xs) i 0 low ∙ get_or-drop (1024 * n) xs i 0

pub content_b : (x : Halves) (n : ℕ) → IsOpen x.b n → content_of x n ≡ Some (block_on x.b n)
content_b x n e = ap (λ (t : Bool). if t then Some (block_on x.b n) else (if gate x.a n == 165 then Some (block_on x.a n) else None)) (open_test (gate x.b n) e)

content_a : (x : Halves) (n : ℕ) → gate x.b n ≢ 165 → content_of x n ≡ (if gate x.a n == 165 then Some (block_on x.a n) else None)
content_a x n ne = ap (λ (t : Bool). if t then Some (block_on x.b n) else (if gate x.a n == 165 then Some (block_on x.a n) else None)) (closed_test (gate x.b n) ne)

pub content_open_a : (x : Halves) (n : ℕ) → gate x.b n ≢ 165 → IsOpen x.a n → content_of x n ≡ Some (block_on x.a n)
content_open_a x n ne e = content_a x n ne ∙ ap (λ (t : Bool). if t then Some (block_on x.a n) else None) (open_test (gate x.a n) e)

pub content_none : (x : Halves) (n : ℕ) → gate x.b n ≢ 165 → gate x.a n ≢ 165 → content_of x n ≡ None
content_none x n ne ne' = content_a x n ne ∙ ap (λ (t : Bool). if t then Some (block_on x.a n) else None) (closed_test (gate x.a n) ne')
