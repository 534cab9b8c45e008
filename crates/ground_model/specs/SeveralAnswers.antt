-- The commit of an update of several files that is answered in the turn of its one link: its first
-- file alone gets a new version, so that no link is left.
use Rattle.std.specs.Prelude.{◌≡◌, ◌≢◌, ℕ, List, [], ◌∷◌, ◌++◌, Option, Some, None}
use Rattle.afs_base.specs.declared.head.Head.{Head}
use Rattle.block_map.specs.declared.states.BlockState.{BlockState}
use Rattle.pair_store.specs.declared.store.Blocks.{Ghosts}
use Rattle.script_text.specs.declared.reply.LineReply.TheVariants as reply
use Rattle.script_text.specs.declared.script.Line.{Line}
use Rattle.service_model.specs.declared.journal.Entry.{Entry}
use Rattle.service_model.specs.declared.journal.What.TheVariants.{Answered}
use Rattle.service_model.specs.Entries.{made_by}
use Rattle.service_model.specs.Replies.{serials_by}
use Rattle.service_model.specs.Standing.{Scripts, Update, client_of}
use Rattle.store_changes.specs.Writes.{Content}
use Rattle.tree_model.specs.States.{State}
use Rattle.ground_model.specs.Commits.{commit_entry}
use Rattle.ground_model.specs.Laws.{Leads}
use Rattle.ground_model.specs.Lines.{answering, in_line}
use Rattle.ground_model.specs.Linking.{LeavesLinks, LeavesNames}
use Rattle.ground_model.specs.Rolling.{IsRolledFor}
use Rattle.ground_model.specs.Runs.{Stands}
use Rattle.ground_model.specs.Scenes.{AreHeads, Scene}
use Rattle.ground_model.specs.Several.{Renewal, heads_after}
use Rattle.ground_model.specs.SeveralTurns.{IsSeveralTurn}

-- The scene after the link was set and the commit was answered: the client's update is over, it has
-- one answer more and holds no block; no link of its files is left, and none of them names members.
pub record IsAnsweredTop (k : ℕ) (old new : Scene) (u : Update) (top : Renewal) (content : Content)
    (states : List BlockState) : Type 0 where
  pub content_is : new.content ≡ content
  pub states_is : new.states ≡ states
  pub own : client_of new.standing k
      ≡ answering (record (client_of old.standing k) { held = 0 })
      (reply.Committed (serials_by (made_by old.standing.state u) (Some u))) None
  pub leads : Leads k old new
  pub rolled : IsRolledFor new.store u
  pub links : (j : ℕ) → j ≢ k → LeavesLinks j old new × LeavesNames j old new
  pub heads : (heads : List (Option Head)) → AreHeads old heads
      → AreHeads new (heads_after (top ∷ []) heads)

-- The run stands there, with both entries noted.
abbrev pub AnsweredTopStands : {D : Type 0} → Ghosts D → Type 0
AnsweredTopStands {D} b =
    (opening : State) (scripts : Scripts) (first k : ℕ) (scene : Scene) (before after : D)
    (es : List Entry) (line : Line) (u : Update) (top : Renewal) (block : ℕ)
    (states : List BlockState)
    → Stands b opening scripts first scene before es
    → IsSeveralTurn b scripts k scene before after line u top [] block states
    → (new : Scene)
    × Stands b opening scripts first new after
    (es ++ commit_entry scene.standing k line u (b.moment after) ∷ in_line k line Answered ∷ [])
    × IsAnsweredTop k scene new u top (b.content after) states
