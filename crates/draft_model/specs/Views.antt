-- What a draft shows: at each path the page that was copied there, with its marks.
use Rattle.std.specs.Prelude.{◌≡◌, ℕ, Bool, true, false, List, [], ◌∷◌, ◌++◌, Option, Some, None, option_map}
use Rattle.std.specs.Option.{option_map_or}
use Rattle.afs_base.specs.Path.{is_prefix}
use Rattle.afs_base.specs.declared.kind.Kind.{Kind}
use Rattle.afs_base.specs.declared.kind.Kind.TheVariants.{Data, Slot}
use Rattle.page_codec.specs.Values.{PageValue}
use Rattle.page_places.specs.Places.{has_bit, slot_block}

-- A page that was copied or made. `live` is false once it, or a page above it, was dropped; its marks stay. `page.modified` is the mask
-- of the slots that the update wrote, `searched` that of the slots that it read; `read` and `written` speak of the data.
pub record Copied : Type 0 where
  pub live : Bool
  pub read : Bool
  pub written : Bool
  pub searched : ℕ
  pub page : PageValue

-- the page that was copied at each path, where one was
abbrev pub View : Type 0
View = List ℕ → Option Copied

-- a copied page without what was read of it
pub record PageCopy : Type 0 where
  pub live : Bool
  pub page : PageValue

abbrev pub Copies : Type 0
Copies = List ℕ → Option PageCopy

-- the draft's pages, without what was read of them
abbrev pub copy_of : Copied → PageCopy
copy_of c = record { live = c.live; page = c.page }

abbrev pub copies : View → Copies
copies d p = option_map copy_of (d p)

-- a page was copied at the path, and is not dropped
abbrev pub live : Copies → List ℕ → Bool
live h p = option_map_or (λ c. c.live) (h p) false

-- the page that is live at a path
pub record LiveAt (h : Copies) (p : List ℕ) (c : PageCopy) : Type 0 where
  pub is : h p ≡ Some c
  pub live : c.live ≡ true

-- nothing was copied at the path or below it
abbrev pub IsUncopied : Copies → List ℕ → Type 0
IsUncopied h q = (r : List ℕ) → h (q ++ r) ≡ None

-- what a mark of a page says of its data or of a slot
abbrev pub reads_kind : Copied → Kind → Bool
reads_kind c Data = c.read
reads_kind c (Slot k) = has_bit c.searched k

abbrev pub writes_kind : Copied → Kind → Bool
writes_kind c Data = c.written
writes_kind c (Slot k) = has_bit c.page.modified k

-- the draft read the data or the slot of the page at a path
abbrev pub did_read : View → List ℕ → Kind → Bool
did_read d p k = option_map_or (λ c. reads_kind c k) (d p) false

-- the draft wrote it
abbrev pub did_write : View → List ℕ → Kind → Bool
did_write d p k = option_map_or (λ c. writes_kind c k) (d p) false

-- the page q of the base, in block b, is on the way to `end` and not copied, while the page above it is live and names it
pub record Wants (h : Copies) (end q : List ℕ) (b : ℕ) : Type 0 where
  pub above : List ℕ
  pub last : ℕ
  pub copy : PageCopy
  pub is : q ≡ above ++ last ∷ []
  pub on_way : is_prefix q end ≡ true
  pub at : LiveAt h above copy
  pub not_yet : live h q ≡ false
  pub block : slot_block copy.page last ≡ Some b

-- no page of the base is wanted on the way to `end`
abbrev pub WantsNone : Copies → List ℕ → Type 0
WantsNone h end = (p : List ℕ) (s : ℕ) (c : PageCopy) → LiveAt h p c → is_prefix (p ++ s ∷ []) end ≡ true → live h (p ++ s ∷ []) ≡ false
    → slot_block c.page s ≡ None

-- some step wants the page at q
abbrev pub IsWanted : Copies → List ℕ → Type 0
IsWanted h q = (end : List ℕ) × (b : ℕ) × Wants h end q b
