-- A run of scripts over two halves, from the call's start to its end.
use Rattle.std.specs.Prelude.{◌≡◌, ℕ, List, map, None, Some, Ok, ◌⊎◌, ◌<◌}
use Rattle.drives.specs.declared.device.Drives.{Ghosts as Device}
use Rattle.drives.specs.declared.device.Half.{Half}
use Rattle.pair_store.specs.declared.on_halves.Pair.{Pair}
use Rattle.pair_store.specs.declared.store.Blocks.{Ghosts}
use Rattle.pair_store.specs.Pairs.{drives_of}
use Rattle.script_text.specs.declared.reply.LineReply.{LineReply}
use Rattle.service_model.specs.declared.journal.Journal.{Journal}
use Rattle.service_model.specs.Legal.{IsComplete}
use Rattle.service_model.specs.Order.{IsInOrder, play_order}
use Rattle.service_model.specs.Standing.{Scripts, start}
use Rattle.session.specs.declared.session.Session.{Session}
use Rattle.session.specs.declared.turned.Fault.TheVariants.{Drive}
use Rattle.store_commands.specs.Opening.{AreAtRest, files_on}
use Rattle.tree_model.specs.States.{State}
use Rattle.ground.specs.Promises.{IsPromised}
use Rattle.ground.specs.Runs.{GroundValue, entries_in, journal_in, scripts_in, store_in}
use Rattle.ground.specs.Turning.{standing_of}

-- The answers to the lines of each client so far.
abbrev pub answers_in : {D : Type 0} → GroundValue D → List (List LineReply)
answers_in g = map (λ (s : Session). s.course.replies.items) g.sessions

-- Of images it is said what a crash from the call's start on leaves, where nothing was pending then;
-- else nothing, the first moment being one that never comes.
abbrev pub SpeaksFrom : {V : Type 0} → Device V → V → ℕ → Type 0
SpeaksFrom {V} v before first = (AreAtRest v before × (first ≡ v.moment before))
    ⊎ ((d : V) → v.moment d < first)

-- A run of these scripts over the state that was found on the halves as the call began came to this,
-- with all that is promised of runs: its journal is legal, what is found and answered is that to
-- which it leads, and each image of each moment from `first` on holds the state after a front of it,
-- with every entry that was acknowledged by then. p is a pair of halves as a store of blocks.
pub record IsRunOn {V : Type 0} (v : Device V) (p : Ghosts (Pair V)) (first : ℕ)
    (before after : V) (scripts : Scripts) (journal : Journal) (opening : State)
    (g : GroundValue (Pair V)) : Type 0 where
  pub found : files_on v before ≡ Ok opening
  pub scripts_are : scripts_in g ≡ scripts
  pub drives : drives_of (store_in g) ≡ after
  pub journal_is : journal_in g ≡ journal
  pub promised : IsPromised p opening first g

-- The run came to its end: no fault came, its entries follow the order of play, and all lines are
-- answered.
pub record IsWholeRun {D : Type 0} (words : List ℕ) (opening : State)
    (g : GroundValue D) : Type 0 where
  pub fault : g.fault ≡ None
  pub ordered : IsInOrder (scripts_in g) (start opening (scripts_in g))
      (play_order words (scripts_in g)) (entries_in g)
  pub complete : IsComplete (scripts_in g) (standing_of opening g)

-- The scripts were played whole in the order of play,
pub record IsPlayed {V : Type 0} (v : Device V) (p : Ghosts (Pair V)) (words : List ℕ)
    (first : ℕ) (before after : V) (scripts : Scripts) (journal : Journal) : Type 0 where
  pub opening : State
  pub g : GroundValue (Pair V)
  pub run : IsRunOn v p first before after scripts journal opening g
  pub whole : IsWholeRun words opening g

-- or a half stopped the run.
pub record IsCutOff {V : Type 0} (v : Device V) (p : Ghosts (Pair V)) (first : ℕ)
    (before after : V) (scripts : Scripts) (journal : Journal) (half : Half) : Type 0 where
  pub opening : State
  pub g : GroundValue (Pair V)
  pub run : IsRunOn v p first before after scripts journal opening g
  pub stopped : g.fault ≡ Some (Drive half)
