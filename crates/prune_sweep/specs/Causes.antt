-- Why a block that is fed is refused: the causes in the order in which they are tried, each over the whole block.
use Rattle.std.specs.Prelude.{ℕ, ◌==◌, nat_eq, Bool, false, not, ◌&&◌, ◌||◌, List, [], ◌∷◌, ◌++◌, length, Option, Some, None, option_to_list, is_some, Result, Ok, Err}
use Rattle.std.specs.Option.{is_none}
use Rattle.std.specs.List.{list_any}
use Rattle.page_codec.specs.declared.why.Why.{Why}
use Rattle.page_codec.specs.declared.why.Why.TheVariants as why
use Rattle.page_codec.specs.Values.{PageValue, VersionValue}
use Rattle.page_codec.specs.Causes.{first_cause, page_of, version_of}
use Rattle.prune_sweep.specs.declared.mark.Mark.{Mark}
use Rattle.prune_sweep.specs.declared.mark.Mark.TheVariants.{Unseen, Next, Wanted, Shared, Found, Kept}
use Rattle.prune_sweep.specs.declared.slots.Following.{Following}
use Rattle.prune_sweep.specs.declared.slots.Following.TheVariants.{AllShared}
use Rattle.prune_sweep.specs.declared.stage.Stage.{Stage}
use Rattle.prune_sweep.specs.declared.progress.Progress.{Progress}
use Rattle.prune_sweep.specs.Marks.{mark_at, is_unseen}
use Rattle.prune_sweep.specs.Slots.{new_blocks, are_within, is_within}
use Rattle.prune_sweep.specs.Progress.{begun, following_at, is_reached, next_version}

-- the block is one of these
abbrev pub is_among : ℕ → List ℕ → Bool
is_among n blocks = list_any (nat_eq n) blocks

-- one of these blocks was named before, or is named twice
abbrev pub has_seen : List Mark → List ℕ → Bool
has_seen marks [] = false
has_seen marks (n ∷ blocks) = not (is_unseen (mark_at marks n)) || (is_among n blocks || has_seen marks blocks)

-- of a page below `/` of this level
abbrev pub page_cause : List Mark → Following → ℕ → Result PageValue Why → Option Why
page_cause marks following level (Err w) = Some w
page_cause marks following level (Ok page) =
    first_cause
    ((not (page.level == level), why.Level)
    ∷ (not (are_within following (length marks) page.refs), why.Reference)
    ∷ (has_seen marks (new_blocks following page.refs), why.Seen)
    ∷ [])

-- of the page of the next version, with the stage that it begins
abbrev pub version_cause : List Mark → Option ℕ → Stage → Result VersionValue Why → Option Why
version_cause marks upto stage (Err w) = Some w
version_cause marks upto stage (Ok version) =
    let stays = is_reached upto version.serial in
    let following = following_at stage stays in
    let next = next_version upto version in
    first_cause
    ((not (are_within following (length marks) version.page.refs && is_within (length marks) next), why.Reference)
    ∷ (has_seen marks (new_blocks following version.page.refs ++ option_to_list next), why.Seen)
    ∷ (is_some upto && (not stays && is_none version.commit), why.Serial)
    ∷ [])

-- of the block that is read, by its mark
abbrev pub cause_at : Progress → Mark → List ℕ → Option Why
cause_at known Unseen bytes = None
cause_at known Next bytes = version_cause known.marks known.upto (begun known.stage) (version_of bytes)
cause_at known (Wanted level) bytes = page_cause known.marks (following_at known.stage (is_some known.reached)) level (page_of bytes)
cause_at known (Shared level) bytes = page_cause known.marks AllShared level (page_of bytes)
cause_at known Found bytes = None
cause_at known Kept bytes = None

abbrev pub cause_of : Progress → ℕ → List ℕ → Option Why
cause_of known n bytes = cause_at known (mark_at known.marks n) bytes
