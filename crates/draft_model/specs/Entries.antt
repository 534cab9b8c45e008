-- The pages of a draft as a list of entries, in the order of their paths.
use Rattle.std.specs.Prelude.{ℕ, Bool, ◌&&◌, ◌||◌, List, map, filter}
use Rattle.std.specs.List.{list_any}
use Rattle.std.specs.Map.{lookup}
use Rattle.std.specs.BTreeMap.{is_at}
use Rattle.afs_base.specs.Path.{path_cmp, is_prefix}
use Rattle.draft_model.specs.Views.{Copied, View}
use Rattle.draft_model.specs.Told.{is_marked}

-- a page and its path
abbrev pub Entry : Type 0
Entry = List ℕ × Copied

-- the page that stands at each path
abbrev pub shown : List Entry → View
shown pages p = lookup (is_at (path_cmp p)) pages

-- the data or some slot was written
abbrev pub is_written : Copied → Bool
is_written c = c.written || is_marked c.page.modified

-- something was written at or below the path
abbrev pub is_touched : List Entry → List ℕ → Bool
is_touched pages q = list_any (λ e. is_prefix q e.0 && is_written e.1) pages

-- the page of an entry is there, and something was written at or below it
abbrev pub is_fresh : List Entry → Entry → Bool
is_fresh pages e = e.1.live && is_touched pages e.0

-- the fresh paths, in order
abbrev pub fresh_paths : List Entry → List (List ℕ)
fresh_paths pages = map (λ e. e.0) (filter (is_fresh pages) pages)
