-- The blocks of a new version, and the order in which they are written.
use Rattle.std.specs.Prelude.{◌≡◌, ℕ, ◌+◌, ◌<◌, ◌≤◌, true, List, [], ◌∷◌, ◌++◌, map, drop, length, Option, Some, None, Ok, slice_get}
use Rattle.std.specs.Ordering.{is_le}
use Rattle.afs_base.specs.Path.{path_cmp}
use Rattle.block_map.specs.States.{held_below}
use Rattle.block_map.specs.declared.states.BlockState.{BlockState}
use Rattle.block_map.specs.declared.states.BlockState.TheVariants.{Held}
use Rattle.page_codec.specs.Values.{PageValue, MemberValue, VersionValue}
use Rattle.page_codec.specs.Bounds.{IsPage, IsVersion}
use Rattle.page_codec.specs.Spelling.{page_bytes, version_bytes}
use Rattle.page_codec.specs.Causes.{page_of, version_of}
use Rattle.draft_model.specs.Views.{Copied, View}
use Rattle.draft_model.specs.Flush.{Placed, block_of, copied_flags, flushed_page, in_turn}

-- a flush under way: which page goes to which block, the members that the version page names, and how many blocks were given out
pub record Plan : Type 0 where
  pub placed : List Placed
  pub members : List MemberValue
  pub written : ℕ

-- the version that a draft was made from: the block of its version page, its file, its serial
pub record Base : Type 0 where
  pub root : ℕ
  pub object : ℕ
  pub serial : ℕ

abbrev pub base_of : ℕ → ℕ → ℕ → Base
base_of root object serial = record { root = root; object = object; serial = serial }

abbrev pub paths_of : List Placed → List (List ℕ)
paths_of placed = map (λ x. x.path) placed

-- the place at k has the client's block at `from` and k, counting the blocks that it holds upwards
abbrev pub AreHeld : List BlockState → ℕ → ℕ → List Placed → Type 0
AreHeld states client from placed =
    (k : ℕ) (x : Placed) → slice_get placed k ≡ Some x
    → (slice_get states x.block ≡ Some (Held client)) × (held_below client states x.block ≡ from + k)

-- From the place at `next` on stand those of the pages in this slot of the page at `above` and in the slots after it, and what is below
-- these; no place before it is of one of these pages.
pub record IsNextBelow (placed : List Placed) (above : List ℕ) (slot next : ℕ) : Type 0 where
  pub before : (k : ℕ) → slot ≤ k → block_of placed (above ++ k ∷ []) ≡ block_of (drop next placed) (above ++ k ∷ [])
  pub behind : (k : ℕ) (x : Placed) → next ≤ k → slice_get placed k ≡ Some x → is_le (path_cmp (above ++ slot ∷ []) x.path) ≡ true
  pub within : next ≤ length placed

-- the place at k is that of a path
abbrev pub IsPlaceOf : List Placed → ℕ → List ℕ → Type 0
IsPlaceOf placed k path = (x : Placed) × (slice_get placed k ≡ Some x) × (x.path ≡ path)

-- the place of the page in a slot, where that page is written; then the page above has fewer than seven slots in its path
abbrev pub FoundBelow : List Placed → List ℕ → ℕ → Option Placed → Type 0
FoundBelow placed above slot None = block_of placed (above ++ slot ∷ []) ≡ None
FoundBelow placed above slot (Some x) =
    (x.path ≡ above ++ slot ∷ []) × (block_of placed (above ++ slot ∷ []) ≡ Some x.block) × (length above < 7)

-- the page is what is written for the page that the draft shows at the path; its level is the length of the path
pub record IsPageFor (d : View) (placed : List Placed) (path : List ℕ) (page : PageValue) : Type 0 where
  pub copy : Copied
  pub here : d path ≡ Some copy
  pub live : copy.live ≡ true
  pub page_is : page ≡ flushed_page d placed path copy.page
  pub level : page.level ≡ length path

-- the first place is that of `/`
abbrev pub StartsAtRoot : List Placed → Type 0
StartsAtRoot placed = (block : ℕ) × (slice_get placed 0 ≡ Some (record { path = []; block = block }))

-- the new version page: the flags of `/`, its page, the serial after the base's, and the base's block; nothing follows it yet
abbrev pub flushed_version : View → Base → List Placed → List MemberValue → PageValue → VersionValue
flushed_version d base placed members page =
    record {
      root = copied_flags (d []);
      page = flushed_page d placed [] page;
      object = base.object;
      serial = base.serial + 1;
      commit = None;
      base = Some base.root;
      members = members;
    }

-- the version page is what is written for the page `/` that the draft shows
pub record IsVersionFor (d : View) (base : Base) (placed : List Placed) (members : List MemberValue) (version : VersionValue) : Type 0 where
  pub copy : Copied
  pub here : d [] ≡ Some copy
  pub live : copy.live ≡ true
  pub version_is : version ≡ flushed_version d base placed members copy.page

-- The block is the one spelling of a page, or of a version page, and reads as just that.
abbrev pub IsPageBlock : PageValue → List ℕ → Type 0
IsPageBlock page bytes = IsPage page × (bytes ≡ page_bytes page) × (page_of bytes ≡ Ok page)

abbrev pub IsVersionBlock : VersionValue → List ℕ → Type 0
IsVersionBlock version bytes = IsVersion version × (bytes ≡ version_bytes version) × (version_of bytes ≡ Ok version)

-- the block is what is written for a page that is copied at the path: of `/` the version page, else the page
abbrev pub IsBlockFor : View → Base → Plan → List ℕ → PageValue → List ℕ → Type 0
IsBlockFor d base plan [] page bytes = IsVersionBlock (flushed_version d base plan.placed plan.members page) bytes
IsBlockFor d base plan (s ∷ p) page bytes = IsPageBlock (flushed_page d plan.placed (s ∷ p) page) bytes

-- .. for the page that the draft shows there
pub record IsWritten (d : View) (base : Base) (plan : Plan) (path : List ℕ) (bytes : List ℕ) : Type 0 where
  pub copy : Copied
  pub here : d path ≡ Some copy
  pub live : copy.live ≡ true
  pub bytes_are : IsBlockFor d base plan path copy.page bytes

-- the next place in the order of writing was given out: its block, and in bytes what is written at its path
pub record GivesNext (d : View) (base : Base) (old new : Plan) (block : ℕ) (bytes : List ℕ) : Type 0 where
  pub path : List ℕ
  pub turn : slice_get (in_turn old.placed) old.written ≡ Some (record { path = path; block = block })
  pub written : IsWritten d base old path bytes
  pub plan : new ≡ record { placed = old.placed; members = old.members; written = old.written + 1 }

-- every place was given out, and nothing changes
pub record IsDone (old new : Plan) (before after : List ℕ) : Type 0 where
  pub all : old.written ≡ length old.placed
  pub plan : new ≡ old
  pub bytes : after ≡ before
