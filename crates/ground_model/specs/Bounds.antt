-- How many turns a commit may have taken, and the bound of a line.
use Rattle.std.specs.Prelude.{◌≡◌, ℕ, ◌+◌, ◌*◌, ◌^◌, ◌≤◌, not, ◌&&◌, nat_lt, List, [], ◌∷◌, filter, length, count_by, sum_by, Contains, Some, slice_get}
use Rattle.std.specs.Option.{option_map_or}
use Rattle.draft_model.specs.Views.{View}
use Rattle.joint_walk.specs.Later.{did_access}
use Rattle.joint_walk.specs.Walks.{WalkValue}
use Rattle.script_text.specs.declared.command.Command.{Command}
use Rattle.script_text.specs.declared.command.Command.TheVariants.{Commit}
use Rattle.script_text.specs.declared.script.Line.{Line}
use Rattle.service_model.specs.declared.journal.Entry.{Entry}
use Rattle.service_model.specs.Entries.{names_of, standing_after}
use Rattle.service_model.specs.Sound.{IsOn, IsOpenAt, IsSound}
use Rattle.service_model.specs.Standing.{Made, Scripts, Standing, Update, Work, client_of, lines_of, need, next_line}
use Rattle.tree_model.specs.Accesses.{fresh_as_top}
use Rattle.tree_model.specs.States.{State}
use Rattle.tree_model.specs.Trees.{Tree}
use Rattle.ground_model.specs.Ahead.{IsWalking}
use Rattle.ground_model.specs.Leaves.{Leaves, made_of}
use Rattle.ground_model.specs.Scenes.{Scene}

-- ---- later versions

-- How many pages that the update accessed are fresh in the version that m made.
abbrev pub shared_of : Work → Made → ℕ
shared_of w m = count_by (did_access m.before w.steps) (fresh_as_top m.before m.steps)

-- The versions of the update's file that were made after its base,
abbrev pub later_of : List Made → Work → List Made
later_of made w = filter (λ (m : Made). nat_lt w.serial m.serial) (made_of w.object made)

-- and those of them up to a serial.
abbrev pub later_to : List Made → Work → ℕ → List Made
later_to made w upto =
    filter (λ (m : Made). nat_lt w.serial m.serial && not (nat_lt upto m.serial))
    (made_of w.object made)

-- ---- turns

-- The turns that a commit takes for one of them at most: one to find it; one for each page of it
-- that is read; and one for each page that was written into a held block before it was found.
abbrev pub turns_for : ℕ → Work → Made → ℕ
turns_for held w m = 1 + held + shared_of w m

-- The turns of a commit whose draft is merged with the versions up to a serial, at most.
abbrev pub turns_to : List Made → ℕ → Work → ℕ → ℕ
turns_to made held w upto = sum_by (turns_for held w) (later_to made w upto)

-- ---- the bound

-- How many versions of its files were made after an update's bases, and how many of their fresh
-- pages the update accessed.
abbrev pub later_in : List Made → Update → ℕ
later_in made u = sum_by (λ (w : Work). length (later_of made w)) u.works

abbrev pub shared_in : List Made → Update → ℕ
shared_in made u = sum_by (λ (w : Work). sum_by (shared_of w) (later_of made w)) u.works

-- A commit that goes on after a turn does so at most this often.
abbrev pub commit_bound : List Made → Update → ℕ
commit_bound made u =
    (4 + 2 * need u) * (1 + later_in made u) + 2 * shared_in made u

-- A line of client k with this command goes on after a turn at most this often: a step at most once
-- for each slot of the way to its page.
abbrev pub command_bound : Standing → ℕ → Command → ℕ
command_bound s k Commit = option_map_or (commit_bound s.made) (client_of s k).update 0
command_bound s k _ = 7

-- So does client k's next line, or the one under way.
abbrev pub line_bound : Scripts → Standing → ℕ → ℕ
line_bound scripts s k =
    option_map_or (λ (line : Line). command_bound s k line.command) (next_line scripts s k) 0

-- ---- laws

-- One version more has its turns.
abbrev pub TurnsGrow : Type 0
TurnsGrow =
    (made : List Made) (held : ℕ) (w : Work) (m : Made) (upto : ℕ)
    → Contains made m → m.object ≡ w.object → m.serial ≡ upto + 1 → w.serial ≤ upto
    → turns_to made held w upto + turns_for held w m ≤ turns_to made held w (upto + 1)

-- A client that holds more blocks may have taken more.
abbrev pub TurnsOfMore : Type 0
TurnsOfMore =
    (made : List Made) (held more : ℕ) (w : Work) (upto : ℕ)
    → held ≤ more → turns_to made held w upto ≤ turns_to made more w upto

-- A client that is left what it relies on may have taken as many as before.
abbrev pub TurnsAreLeft : Type 0
TurnsAreLeft =
    (k : ℕ) (old new : Scene) (held : ℕ) (w : Work) (upto : ℕ)
    → Leaves k old new → IsOn old.standing k w
    → turns_to old.standing.made held w upto ≤ turns_to new.standing.made held w upto

-- A walk is fed no more pages than are shared.
abbrev pub WalkIsWithin : Type 0
WalkIsWithin =
    (scene : Scene) (w : Work) (upto root : ℕ) (tree : Tree) (before : View) (next : ℕ) (m : Made)
    (fed : ℕ) (walk : WalkValue) (d : View)
    → IsWalking scene w upto root tree before next m fed walk d → fed ≤ shared_of w m

-- What a commit took, with one vain flush more, is within its bound.
abbrev pub TurnsFit : Type 0
TurnsFit =
    (made : List Made) (held : ℕ) (u : Update) (w : Work) (upto : ℕ)
    → u.works ≡ w ∷ [] → held ≤ need u
    → turns_to made held w upto + (1 + held) ≤ commit_bound made u

-- ---- how large bounds are

-- No line names more than seventeen files.
abbrev pub NameFew : Scripts → Type 0
NameFew scripts =
    (k n : ℕ) (line : Line) → slice_get (lines_of scripts k) n ≡ Some line
    → length (names_of line.command) ≤ 17

-- Each entry makes as many versions at most.
abbrev pub FewAreMade : Type 0
FewAreMade =
    (opening : State) (scripts : Scripts) (es : List Entry) → NameFew scripts
    → length (standing_after opening scripts es).made ≤ 17 * length es

-- The bound of the next line of a client whose update, if one is open, has at most seventeen files.
abbrev pub BoundsAreSmall : Type 0
BoundsAreSmall =
    (scripts : Scripts) (s : Standing) (k : ℕ) → IsSound scripts s → 1 ≤ k
    → ((u : Update) → IsOpenAt s k u → length u.works ≤ 17)
    → line_bound scripts s k ≤ 2 ^ 18 * (1 + length s.made)
