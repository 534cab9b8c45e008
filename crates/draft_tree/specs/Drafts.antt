-- What a draft gives out of a page, what a walk puts into one, and what every draft keeps.
use Rattle.std.specs.Prelude.{◌≡◌, ℕ, true, if◌then◌else◌, List, [], length, Option, Some, None, option_map}
use Rattle.std.specs.Coded.{Π_prop, coded_ℕ, Coded-set}
use Rattle.page_codec.specs.Values.{PageValue}
use Rattle.page_places.specs.Places.{same}
use Rattle.draft_model.specs.Views.{Copied, View, PageCopy}
use Rattle.draft_model.specs.Told.{is_accessed}

-- the page that is live at a path, or none
abbrev pub live_page : Option PageCopy → Option PageValue
live_page None = None
live_page (Some c) = if c.live then Some c.page else None

-- the page is live at the path, and the merged page is of its level
abbrev pub CanMerge : View → List ℕ → PageValue → Type 0
CanMerge d q merged = (c : Copied) × (d q ≡ Some c) × (c.live ≡ true) × (c.page.level ≡ merged.level)

-- a copied page that took over the slots and the data of a merged one; its level, its mask and its marks stay
abbrev pub merged_page : PageValue → Copied → Copied
merged_page merged c =
    record {
      live = c.live;
      read = c.read;
      written = c.written;
      searched = c.searched;
      page = record { level = c.page.level; modified = c.page.modified; refs = merged.refs; bytes = merged.bytes };
    }

-- what a draft shows after a page was merged at a path
abbrev pub merged_at : View → List ℕ → PageValue → View
merged_at d q merged p = if same p q then option_map (merged_page merged) (d p) else d p

-- ---- what stays when the base changes

-- the page, where the update accessed it
abbrev pub if_accessed : Option Copied → Option Copied
if_accessed None = None
if_accessed (Some c) = if is_accessed c then Some c else None

-- `/` and the pages that the update accessed; a page that was copied and never accessed is let go
abbrev pub accessed_pages : View → View
accessed_pages d p = if same p [] then d p else if_accessed (d p)

-- ---- what every draft keeps

-- each page that was copied or made has the level of its path
abbrev pub HasLevels : View → Type 0
HasLevels d = (p : List ℕ) (c : Copied) → d p ≡ Some c → c.page.level ≡ length p

pub HasLevels-prop : (d : View) → IsProp (HasLevels d)
HasLevels-prop d = Π_prop (λ p. Π_prop (λ c. Π_prop (λ e. Coded-set coded_ℕ _ _)))
