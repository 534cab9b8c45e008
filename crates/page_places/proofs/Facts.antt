-- Blocks at paths.
use Rattle.std.proofs.Common.{◌≡◌, ℕ, List, [], ◌∷◌, ◌++◌, refl, ap, ◌∙◌, Option, Some, None, append-nil}
use Rattle.std.specs.Option.{option_and_then}
use Rattle.page_codec.specs.Values.{PageValue}
use Rattle.page_places.specs.Places.{Store, slot_block, block_at}

pub block_at_append : (store : Store) (b : ℕ) (p r : List ℕ) → block_at store b (p ++ r) ≡ option_and_then (λ c. block_at store c r) (block_at store b p)
block_at_append store b [] r = refl
block_at_append store b (s ∷ p) r = by (λ x. block_at_append store x p r) (option_and_then (λ (page : PageValue). slot_block page s) (store b))
  where
    by : ((x : ℕ) → block_at store x (p ++ r) ≡ option_and_then (λ c. block_at store c r) (block_at store x p))
        → (o : Option ℕ) → option_and_then (λ c. block_at store c (p ++ r)) o ≡ option_and_then (λ c. block_at store c r) (option_and_then (λ c. block_at store c p) o)
    by rest None = refl
    by rest (Some x) = rest x

-- the child's block is the one that its slot names
pub block_at_child : (store : Store) (root : ℕ) (p : List ℕ) (b s : ℕ) (page : PageValue) → block_at store root p ≡ Some b → store b ≡ Some page
    → block_at store root (p ++ s ∷ []) ≡ slot_block page s
block_at_child store root p b s page at holds =
    block_at_append store root p (s ∷ [])
    ∙ ap (option_and_then (λ c. block_at store c (s ∷ []))) at
    ∙ ap (λ o. option_and_then (λ (c : ℕ). Some c) (option_and_then (λ (page : PageValue). slot_block page s) o)) holds
    ∙ by (slot_block page s)
  where
    by : (o : Option ℕ) → option_and_then (λ (c : ℕ). Some c) o ≡ o
    by None = refl
    by (Some x) = refl

pub at_root : (q : List ℕ) → q ++ [] ≡ q
at_root q = append-nil q
