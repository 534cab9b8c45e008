-- Which blocks lie in which frames.
use Rattle.std.specs.Prelude.{◌≡◌, ℕ, ◌<◌, List, [], ◌∷◌, length, slice_index_or, slice_set, nat_eq, Option, Some, None, MatchOption}
use Rattle.std.specs.List.{IsDistinct}
use Rattle.std.specs.Map.{keys_of, lookup}
use Rattle.lru.specs.LruCache.{last_entry}
use Rattle.page_cache.specs.declared.frame.Frame.{Frame}

-- the block of a frame, if it has one, before others
abbrev pub in_front : Option ℕ → List ℕ → List (ℕ × List ℕ) → List (ℕ × List ℕ)
in_front None bytes es = es
in_front (Some n) bytes es = (n, bytes) ∷ es

-- the blocks that lie in the frames, in the frames' order
abbrev pub listed : List (ℕ × Frame) → List (ℕ × List ℕ)
listed [] = []
listed (e ∷ es) = in_front e.1.block e.1.bytes (listed es)

-- the frames without a block are behind the others
abbrev pub IsPacked : List (ℕ × Frame) → Type 0
IsPacked [] = Unit {0}
IsPacked (e ∷ es) = MatchOption e.1.block (listed es ≡ []) (λ _. IsPacked es)

-- the number of the frame in which block n lies, or none
abbrev pub place_of : ℕ → List (Option ℕ) → Option ℕ
place_of n places = slice_index_or places n None

-- block n lies in frame k
abbrev pub placed_at : ℕ → Option ℕ → List (Option ℕ) → List (Option ℕ)
placed_at n k places = slice_set places n k

-- block n came to frame k, in which another block may have been
abbrev pub replaced_by : Option ℕ → ℕ → ℕ → List (Option ℕ) → List (Option ℕ)
replaced_by None n k places = placed_at n (Some k) places
replaced_by (Some m) n k places = placed_at n (Some k) (placed_at m None places)

-- a block has a place exactly where a frame has the block
pub record IsPlaced (frame_at : ℕ → Option Frame) (place_at : ℕ → Option ℕ) : Type 0 where
  pub there : (n k : ℕ) → place_at n ≡ Some k → (f : Frame) × (frame_at k ≡ Some f) × (f.block ≡ Some n)
  pub back : (k n : ℕ) (f : Frame) → frame_at k ≡ Some f → f.block ≡ Some n → place_at n ≡ Some k

-- the last frame has number k and this block or none
pub record IsLastFrame (frames : List (ℕ × Frame)) (k : ℕ) (block : Option ℕ) : Type 0 where
  pub frame : Frame
  pub last : last_entry frames ≡ Some (k, frame)
  pub has : frame.block ≡ block

-- frames with different numbers, none of which has a block
pub record AreEmpty (frames : List (ℕ × Frame)) : Type 0 where
  pub distinct : IsDistinct nat_eq (keys_of frames)
  pub none : listed frames ≡ []

-- so many frames with different numbers, and each block's place
pub record IsLaid (frames : List (ℕ × Frame)) (places : List (Option ℕ)) (pages : ℕ) : Type 0 where
  pub some : 0 < pages
  pub all_in : length frames ≡ pages
  pub distinct : IsDistinct nat_eq (keys_of frames)
  pub packed : IsPacked frames
  pub placed : IsPlaced (λ k. lookup (nat_eq k) frames) (λ n. place_of n places)
