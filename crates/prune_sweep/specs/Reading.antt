-- What a block that was read makes of the marks.
use Rattle.std.specs.Prelude.{◌≡◌, ℕ, suc, nat_eq, Bool, true, false, List, ◌++◌, length, option_to_list, Option, Some, None, is_some, Ok, if◌then◌else◌}
use Rattle.std.specs.Option.{option_map_or}
use Rattle.page_codec.specs.Values.{ReferenceValue, PageValue, VersionValue}
use Rattle.page_codec.specs.Causes.{page_of, version_of}
use Rattle.prune_sweep.specs.declared.mark.Mark.{Mark}
use Rattle.prune_sweep.specs.declared.mark.Mark.TheVariants.{Unseen, Next, Wanted, Shared, Found, Kept}
use Rattle.prune_sweep.specs.declared.slots.Following.{Following}
use Rattle.prune_sweep.specs.declared.slots.Following.TheVariants.{AllShared}
use Rattle.prune_sweep.specs.declared.progress.Progress.{Progress}
use Rattle.prune_sweep.specs.Marks.{mark_at, as_shared}
use Rattle.prune_sweep.specs.Slots.{new_blocks, shared_blocks}
use Rattle.prune_sweep.specs.Progress.{begun, following_at, is_reached, next_version, read_mark}
use Rattle.prune_sweep.specs.Causes.{is_among, has_seen}

-- these blocks have this mark, and the others are as before
abbrev pub named_at : Mark → List ℕ → (ℕ → Mark) → ℕ → Mark
named_at mark blocks old n = if is_among n blocks then mark else old n

-- these blocks are shared pages of this level, and the others are as before
abbrev pub shared_at : ℕ → List ℕ → (ℕ → Mark) → ℕ → Mark
shared_at level blocks old n = if is_among n blocks then as_shared level (old n) else old n

-- A page with these slots was read: the pages that it names, of this level, are to be read now, and so is the next version later.
abbrev pub slots_at : Following → ℕ → List ReferenceValue → (ℕ → Mark) → ℕ → Mark
slots_at following level refs old =
    shared_at level (shared_blocks following refs) (named_at (Wanted level) (new_blocks following refs) old)

-- the block was read
pub record Turned (block : ℕ) (to : Mark) (following : Following) (level : ℕ) (refs : List ReferenceValue) (next : Option ℕ) (old new : List Mark) : Type 0 where
  pub size : length new ≡ length old
  pub fresh : has_seen old (new_blocks following refs ++ option_to_list next) ≡ false
  pub marks : (n : ℕ) → mark_at new n
      ≡ (if nat_eq n block
      then to
      else if option_map_or (nat_eq n) next false then Next else slots_at following level refs (mark_at old) n)

-- a page below `/` of this level was read
pub record PageRead (block level : ℕ) (following : Following) (stays : Bool) (bytes : List ℕ) (old new : Progress) : Type 0 where
  pub page : PageValue
  pub is : page_of bytes ≡ Ok page
  pub level_is : page.level ≡ level
  pub marks : Turned block (read_mark stays) following (suc level) page.refs None old.marks new.marks
  pub rest : new ≡ record old { marks = new.marks }

-- the page of the next version was taken, which is the version that is read now
pub record VersionTaken (block : ℕ) (version : VersionValue) (old new : Progress) : Type 0 where
  pub marks :
      Turned
      block (read_mark (is_reached old.upto version.serial))
      (following_at (begun old.stage) (is_reached old.upto version.serial)) 1 version.page.refs (next_version old.upto version) old.marks new.marks
  pub rest : new
      ≡ record old {
        marks = new.marks;
        stage = begun old.stage;
        after = next_version old.upto version;
        reached = if is_reached old.upto version.serial then Some block else None;
      }

-- the page of the next version was read
pub record VersionRead (block : ℕ) (bytes : List ℕ) (old new : Progress) : Type 0 where
  pub version : VersionValue
  pub is : version_of bytes ≡ Ok version
  pub taken : VersionTaken block version old new

-- the block was read, by its mark
abbrev pub ReadAt : Mark → ℕ → List ℕ → Progress → Progress → Type 0
ReadAt Unseen block bytes old new = ⊥
ReadAt Next block bytes old new = VersionRead block bytes old new
ReadAt (Wanted level) block bytes old new = PageRead block level (following_at old.stage (is_some old.reached)) (is_some old.reached) bytes old new
ReadAt (Shared level) block bytes old new = PageRead block level AllShared true bytes old new
ReadAt Found block bytes old new = ⊥
ReadAt Kept block bytes old new = ⊥

abbrev pub Reads : ℕ → List ℕ → Progress → Progress → Type 0
Reads block bytes old new = ReadAt (mark_at old.marks block) block bytes old new
