-- The flushes of the files of an update of several files, one after the other: those that are done,
-- how one more is done, and what they come to where the last one, of the first file, is done.
use Rattle.std.specs.Prelude.{◌≡◌, ℕ, ◌+◌, List, [], ◌∷◌, ◌++◌, length, Some, slice_get}
use Rattle.std.specs.List.{AllByRecursion}
use Rattle.draft_model.specs.Flush.{block_of}
use Rattle.draft_model.specs.Views.{View}
use Rattle.page_codec.specs.Values.{MemberValue}
use Rattle.pair_store.specs.Blocks.{SameOthers}
use Rattle.service_model.specs.Sound.{IsOn}
use Rattle.service_model.specs.Standing.{Update, client_of, need, renewed_works}
use Rattle.version_chain.specs.Flush.{AreHeld, Base, GivesNext, Plan}
use Rattle.ground_model.specs.Leaves.{KeepsVersions, Leaves}
use Rattle.ground_model.specs.Scenes.{Scene}
use Rattle.ground_model.specs.Several.{AreNamedBy, AreWritten, IsRenewed, Renewal, places_of}
use Rattle.ground_model.specs.Several.{works_of}
use Rattle.ground_model.specs.SeveralFacts.{AreBeside, HoldsAlike}
use Rattle.ground_model.specs.SeveralTurns.{AreHeldFrom}

-- The flushes of these files are done, in the client's blocks from this one of them on; the members
-- name them in their order, and their own versions name none.
pub record AreDone (scene : Scene) (k from : ℕ) (members : List MemberValue)
    (rs : List Renewal) : Type 0 where
  pub each : AllByRecursion (IsRenewed scene k) rs
  pub held : AreHeldFrom scene.states k from rs
  pub named : AreNamedBy members rs
  pub none : AllByRecursion (λ (r : Renewal). r.plan.members ≡ []) rs

-- At first none is done.
abbrev pub DoneBegins : Type 0
DoneBegins = (scene : Scene) (k from : ℕ) → AreDone scene k from [] []

-- One more is done, in the blocks behind, and is named behind them.
abbrev pub DoneGoesOn : Type 0
DoneGoesOn =
    (scene : Scene) (k from : ℕ) (members : List MemberValue) (rs : List Renewal)
    (m : MemberValue) (r : Renewal)
    → AreDone scene k from members rs → IsRenewed scene k r
    → AreHeld scene.states k (from + length (places_of rs)) r.plan.placed
    → m.object ≡ r.work.object → block_of r.plan.placed [] ≡ Some m.block
    → r.plan.members ≡ []
    → AreDone scene k from (members ++ m ∷ []) (rs ++ r ∷ [])

-- They stay done while another flush, in blocks apart from theirs, has its next block written,
abbrev pub DoneStays : Type 0
DoneStays =
    (old new : Scene) (k start from : ℕ) (members : List MemberValue) (rs : List Renewal)
    (d : View) (base : Base) (plan more : Plan) (block : ℕ) (bytes : List ℕ)
    → AreDone old k start members rs → AreHeld old.states k from plan.placed
    → AreBeside start (length (places_of rs)) from (length plan.placed)
    → GivesNext d base plan more block bytes
    → KeepsVersions old new → HoldsAlike k old.states new.states
    → SameOthers block old.content new.content
    → AreDone new k start members rs

-- and where another client's turn left the client what it relies on.
abbrev pub DoneIsLeft : Type 0
DoneIsLeft =
    (k from : ℕ) (old new : Scene) (members : List MemberValue) (rs : List Renewal)
    → Leaves k old new → HoldsAlike k old.states new.states
    → ((i : ℕ) (r : Renewal) → slice_get rs i ≡ Some r → IsOn old.standing k r.work)
    → AreDone old k from members rs → AreDone new k from members rs

-- Where the flush of the first file is done too, in the first of the client's blocks, and its
-- version names the others, all files are written.
abbrev pub DoneIsWritten : Type 0
DoneIsWritten =
    (scene : Scene) (k : ℕ) (u : Update) (top : Renewal) (rs : List Renewal)
    → AreDone scene k (length top.plan.placed) top.plan.members rs → IsRenewed scene k top
    → AreHeld scene.states k 0 top.plan.placed
    → renewed_works u ≡ works_of (top ∷ rs) → (client_of scene.standing k).held ≡ need u
    → AreWritten scene k u top rs
