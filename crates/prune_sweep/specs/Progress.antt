-- How far a sweep has come.
use Rattle.std.specs.Prelude.{◌==◌, ℕ, Bool, false, Option, None, if◌then◌else◌}
use Rattle.std.specs.Option.{option_map_or}
use Rattle.page_codec.specs.Values.{VersionValue}
use Rattle.prune_sweep.specs.declared.mark.Mark.{Mark}
use Rattle.prune_sweep.specs.declared.mark.Mark.TheVariants.{Found, Kept}
use Rattle.prune_sweep.specs.declared.slots.Following.{Following}
use Rattle.prune_sweep.specs.declared.slots.Following.TheVariants.{AllNew, Copies, CopiesAndShared}
use Rattle.prune_sweep.specs.declared.stage.Stage.{Stage}
use Rattle.prune_sweep.specs.declared.stage.Stage.TheVariants.{New, First, Later}

-- the stage once the next version page was read
abbrev pub begun : Stage → Stage
begun New = First
begun First = Later
begun Later = Later

-- which slots are followed on a page of the version being read that no earlier version has
abbrev pub following_at : Stage → Bool → Following
following_at New stays = AllNew
following_at First stays = AllNew
following_at Later stays = if stays then CopiesAndShared else Copies

-- the version with this serial stays
abbrev pub is_reached : Option ℕ → ℕ → Bool
is_reached upto serial = option_map_or (λ n. n == serial) upto false

-- the next version that is to be read after this one
abbrev pub next_version : Option ℕ → VersionValue → Option ℕ
next_version upto version = if is_reached upto version.serial then None else version.commit

-- what a page that was read is marked as, by whether its version stays
abbrev pub read_mark : Bool → Mark
read_mark stays = if stays then Kept else Found
