-- What a draft shows after the pages that both updates copied were merged.
use Rattle.std.proofs.Common.{◌≡◌, ℕ, Bool, true, false, List, [], ◌∷◌, ◌++◌, cond, Option, Some, ◌⊎◌}
use Rattle.std.specs.Option.{option_or}
use Rattle.page_codec.specs.Values.{PageValue}
use Rattle.page_places.specs.Places.{Store, block_at, slot_block, has_bit}
use Rattle.draft_model.specs.Views.{Copied, View, Copies, copies, live}

-- the block that a slot of a merged page names: of a child that I keep theirs, else mine; mine of a slot that I changed; else theirs
abbrev pub joined_block : Bool → Bool → Option ℕ → Option ℕ → Option ℕ
joined_block kept changed mine theirs = cond kept (option_or theirs mine) (cond changed mine theirs)

-- the page c became this one by their page at the same path
pub record IsMergedAt (store : Store) (root : ℕ) (h : Copies) (p : List ℕ) (c after : Copied) : Type 0 where
  pub block : ℕ
  pub theirs : PageValue
  pub at : block_at store root p ≡ Some block
  pub page : store block ≡ Some theirs
  pub stays : after.live ≡ c.live
  pub read : after.read ≡ c.read
  pub written : after.written ≡ c.written
  pub searched : after.searched ≡ c.searched
  pub modified : after.page.modified ≡ c.page.modified
  pub level : after.page.level ≡ c.page.level
  pub bytes : after.page.bytes ≡ cond c.written c.page.bytes theirs.bytes
  pub slot : (s : ℕ) → slot_block after.page s ≡ joined_block (live h (p ++ s ∷ [])) (has_bit c.page.modified s) (slot_block c.page s) (slot_block theirs s)

-- each live page at a fresh path was merged, and nothing else changed
abbrev pub IsJoined : Store → ℕ → (List ℕ → Bool) → View → View → Type 0
IsJoined store root fresh d e =
    (p : List ℕ) → ((e p ≡ d p) × (fresh p ≡ true → live (copies d) p ≡ false))
    ⊎ ((c : Copied) × (after : Copied) × (d p ≡ Some c) × (e p ≡ Some after) × IsMergedAt store root (copies d) p c after)
