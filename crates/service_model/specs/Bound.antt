-- How many turns a line may take before it is answered.
use Rattle.std.specs.Prelude.{ℕ, ◌+◌, ◌*◌, Bool, ◌||◌, nat_lt, List, [], filter, length, sum_by, if◌then◌else◌, Option, Some, None, option_and_then, slice_get}
use Rattle.std.specs.List.{list_any}
use Rattle.std.specs.Ordering.{eq_by_cmp}
use Rattle.afs_base.specs.Path.{path_cmp}
use Rattle.script_text.specs.declared.command.Command.{Command}
use Rattle.script_text.specs.declared.command.Command.TheVariants.{Commit}
use Rattle.tree_model.specs.Accesses.{Place, all_reads, all_writes}
use Rattle.tree_model.specs.States.{State, Version}
use Rattle.service_model.specs.Standing.{Update, Work, has_writes, need, versions_of}

-- the one file of a plain update
abbrev pub plain_work : Option Update → Option Work
plain_work update = option_and_then (λ (u : Update). if u.is_super then None else slice_get u.works 0) update

-- the versions of a file that were committed after a base
abbrev pub later_versions : State → Work → List Version
later_versions state w = filter (λ v. nat_lt w.serial v.serial) (versions_of state w.object)

-- some of these places is on the page at a path
abbrev pub is_on_page : List ℕ → List Place → Bool
is_on_page p places = list_any (λ x. eq_by_cmp path_cmp x.0 p) places

-- the update read or wrote something on the page at a path
abbrev pub is_accessed : Work → List ℕ → Bool
is_accessed w p = is_on_page p (all_reads w.base [] w.steps) || is_on_page p (all_writes w.base w.steps)

-- how many pages that the update accessed are fresh in a version
abbrev pub shared_in : Work → Version → ℕ
shared_in w v = length (filter (is_accessed w) v.fresh)

-- the bound on the turns of a commit of an update with writes of this one file, over the state as the
-- latest turn of the line returns
abbrev pub commit_bound : State → Update → Work → ℕ
commit_bound state u w =
    (4 + 2 * need u) * (1 + length (later_versions state w)) + 2 * sum_by (shared_in w) (later_versions state w)

-- the bound on the turns of any other line, where so many versions came after the base
abbrev pub other_bound : State → ℕ → ℕ
other_bound state later = 2 * state.blocks + 2000 * (1 + later)

-- the bound on the turns of a line that began with this update open, and this one file of a plain update
abbrev pub line_bound : State → Option Update → Option Work → Command → ℕ
line_bound state (Some u) (Some w) Commit =
    if has_writes u then commit_bound state u w else other_bound state (length (later_versions state w))
line_bound state update (Some w) command = other_bound state (length (later_versions state w))
line_bound state update None command = other_bound state 0

-- the most turns of a line that began with this update open
abbrev pub turn_bound : State → Option Update → Command → ℕ
turn_bound state update command = line_bound state update (plain_work update) command
