-- The turn of the link of a commit of one file.
use Rattle.std.specs.Prelude.{◌≡◌, ℕ, List, [], ◌∷◌, ◌++◌, Some, None}
use Rattle.block_map.specs.States.{Replaces}
use Rattle.block_map.specs.declared.states.BlockState.{BlockState}
use Rattle.block_map.specs.declared.states.BlockState.TheVariants.{Kept}
use Rattle.draft_model.specs.Flush.{block_of}
use Rattle.draft_model.specs.Views.{View}
use Rattle.pair_store.specs.declared.store.Blocks.{Ghosts}
use Rattle.script_text.specs.declared.reply.LineReply.TheVariants as reply
use Rattle.script_text.specs.declared.script.Line.{Line}
use Rattle.service_model.specs.declared.journal.Entry.{Entry}
use Rattle.service_model.specs.declared.journal.What.TheVariants.{Answered}
use Rattle.service_model.specs.Entries.{made_by}
use Rattle.service_model.specs.Replies.{serials_by}
use Rattle.service_model.specs.Standing.{Scripts, Update, Work, client_of, need}
use Rattle.store_changes.specs.Writes.{Content}
use Rattle.store_model.specs.Changes.{Rewrites, with_commit}
use Rattle.tree_model.specs.States.{State}
use Rattle.tree_model.specs.Trees.{Tree}
use Rattle.version_chain.specs.Flush.{Plan}
use Rattle.ground_model.specs.Commits.{HeadsGoOn, IsLinkedTo, IsWritten, MayCommit, commit_entry}
use Rattle.ground_model.specs.Laws.{Leads}
use Rattle.ground_model.specs.Lines.{answering, in_line}
use Rattle.ground_model.specs.Runs.{HasPut, Stands}
use Rattle.ground_model.specs.Scenes.{Scene}

-- The update may be committed and is written, and its link was set by one write, in the block of
-- the version that its draft was merged with last; the blocks that were written are kept now.
pub record IsLinkTurn {D : Type 0} (b : Ghosts D) (scripts : Scripts) (k : ℕ) (scene : Scene)
    (before after : D)
    (line : Line) (u : Update) (w : Work) (states : List BlockState) : Type 0 where
  pub may : MayCommit scripts scene.standing k line u w
  pub root : ℕ
  pub top : ℕ
  pub tree : Tree
  pub draft : View
  pub plan : Plan
  pub written : IsWritten scene k w root tree draft plan
  pub first : block_of plan.placed [] ≡ Some top
  pub bytes : List ℕ
  pub put : HasPut b before after root bytes
  pub rewrites : Rewrites scene.content (b.content after) root (with_commit top)
  pub kept : Replaces k Kept scene.states states

-- The run stands after it, with the commit noted at the moment as it returned: the version is
-- found, and the others are left what they rely on.
abbrev pub LinkTurnStands : {D : Type 0} → Ghosts D → Type 0
LinkTurnStands {D} b =
    (opening : State) (scripts : Scripts) (first k : ℕ) (scene : Scene) (before after : D)
    (es : List Entry)
    (line : Line) (u : Update) (w : Work) (states : List BlockState)
    → Stands b opening scripts first scene before es
    → (turn : IsLinkTurn b scripts k scene before after line u w states)
    → (new : Scene)
    × Stands b opening scripts first new after
    (es ++ commit_entry scene.standing k line u (b.moment after) ∷ [])
    × IsLinkedTo scripts k scene new (commit_entry scene.standing k line u (b.moment after))
    (b.content after) states
    × HeadsGoOn scene new w.object turn.top (need u)

-- The scene after a link that was set and its commit that was answered: the client's update is
-- over, it has one answer more, and it holds no block.
pub record IsAnsweredLink (k : ℕ) (old new : Scene) (u : Update) (content : Content)
    (states : List BlockState) : Type 0 where
  pub content_is : new.content ≡ content
  pub states_is : new.states ≡ states
  pub own : client_of new.standing k
      ≡ answering (record (client_of old.standing k) { held = 0 })
      (reply.Committed (serials_by (made_by old.standing.state u) (Some u))) None
  pub leads : Leads k old new

-- So the run stands where the commit is answered in the turn of its link.
abbrev pub AnsweredLinkStands : {D : Type 0} → Ghosts D → Type 0
AnsweredLinkStands {D} b =
    (opening : State) (scripts : Scripts) (first k : ℕ) (scene : Scene) (before after : D)
    (es : List Entry)
    (line : Line) (u : Update) (w : Work) (states : List BlockState)
    → Stands b opening scripts first scene before es
    → (turn : IsLinkTurn b scripts k scene before after line u w states)
    → (new : Scene)
    × Stands b opening scripts first new after
    (es ++ commit_entry scene.standing k line u (b.moment after) ∷ in_line k line Answered ∷ [])
    × IsAnsweredLink k scene new u (b.content after) states
    × HeadsGoOn scene new w.object turn.top (need u)
