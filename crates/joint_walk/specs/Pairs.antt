-- Two pages at one path: what a walk hands to the merge, and what the draft shows after it.
use Rattle.std.specs.Prelude.{◌≡◌, ℕ, ◌<◌, ◌≤◌, Bool, false, ◌&&◌, nat_lt, List, [], ◌∷◌, ◌++◌, length, if◌then◌else◌, None, option_map, unwrap_or}
use Rattle.std.specs.Option.{option_map_or}
use Rattle.ref_flags.specs.Flagged.{Flagged}
use Rattle.page_codec.specs.Blank.{empty_page}
use Rattle.page_codec.specs.Values.{PageValue}
use Rattle.page_places.specs.Places.{same, slot_block, has_bit}
use Rattle.draft_model.specs.Views.{View, copies, live}
use Rattle.draft_model.specs.Told.{flags_of, searched_of, modified_of, is_accessed}
use Rattle.draft_tree.specs.Drafts.{live_page, merged_page}
use Rattle.page_merge.specs.Jobs.{JobValue}

-- my page at p: the live one, else the empty page of that level
abbrev pub own_page : View → List ℕ → PageValue
own_page d p = unwrap_or (live_page (copies d p)) (empty_page (length p))

-- The job of a path: my page as the draft shows it, with what it marks there; their page with its marks; and the slots of mine that have a
-- live child. Both pages have sixteen slots, and at seven slots of the path none in use.
pub record IsJobOf (d : View) (p : List ℕ) (theirs : PageValue) (changed : Flagged) (job : JobValue) : Type 0 where
  pub mine : job.mine ≡ own_page d p
  pub marks : job.marks ≡ flags_of (d p)
  pub searched : job.searched ≡ searched_of (d p)
  pub modified : job.modified ≡ modified_of (d p)
  pub theirs_is : job.theirs ≡ theirs
  pub changed_is : job.changed ≡ changed
  pub kept : (k : ℕ) → k < 16 → has_bit job.kept k ≡ (nat_lt (length p) 7 && live (copies d) (p ++ k ∷ []))
  pub sixteen : length job.mine.refs ≡ 16
  pub short : length p ≤ 7
  pub leaf : length p ≡ 7 → (k : ℕ) → (slot_block job.mine k ≡ None) × (slot_block job.theirs k ≡ None)

-- the draft accessed the page below p in a slot
abbrev pub accesses_child : View → List ℕ → ℕ → Bool
accesses_child d p s = option_map_or is_accessed (d (p ++ s ∷ [])) false

-- what a draft shows after the pair at a path was merged: nothing else where the page is not live
abbrev pub settled_view : View → List ℕ → PageValue → View
settled_view d q page p = if same p q then option_map (λ c. if c.live then merged_page page c else c) (d p) else d p
