-- The commit of an update of one file: what it has come to when its link may be set, and the scene
-- after that.
use Rattle.std.specs.Prelude.{◌≡◌, ℕ, ◌+◌, ◌-◌, ◌<◌, ◌≤◌, ◌^◌, true, false, List, [], ◌∷◌, length}
use Rattle.std.specs.Prelude.{Option, Some, None, slice_get, slice_set}
use Rattle.afs_base.specs.declared.head.Head.{Head}
use Rattle.block_map.specs.States.{Replaces}
use Rattle.block_map.specs.declared.states.BlockState.{BlockState}
use Rattle.block_map.specs.declared.states.BlockState.TheVariants.{Kept}
use Rattle.draft_model.specs.Flush.{block_of}
use Rattle.draft_model.specs.Views.{View}
use Rattle.script_text.specs.declared.command.Command.TheVariants.{Commit}
use Rattle.script_text.specs.declared.script.Line.{Line}
use Rattle.service_model.specs.declared.journal.Entry.{Entry}
use Rattle.service_model.specs.declared.journal.What.TheVariants.{Held, Committed}
use Rattle.service_model.specs.Entries.{made_by, after_entry, noting}
use Rattle.service_model.specs.Legal.{IsLawful}
use Rattle.service_model.specs.Sound.{IsSound}
use Rattle.service_model.specs.Standing.{Scripts, Standing, Update, Work, client_of, next_line}
use Rattle.service_model.specs.Standing.{serial_of, has_writes, need, locked_by}
use Rattle.store_changes.specs.Writes.{Content}
use Rattle.store_model.specs.Changes.{Rewrites, with_commit}
use Rattle.tree_model.specs.Trees.{Tree}
use Rattle.version_chain.specs.Flush.{Plan, base_of}
use Rattle.ground_model.specs.Laws.{Leads}
use Rattle.ground_model.specs.Lines.{in_line}
use Rattle.ground_model.specs.Own.{IsClient, HasMerged, IsFlushing}
use Rattle.ground_model.specs.Scenes.{AreHeads, Scene, IsShared}

-- What stands lets the update of one file be committed: its line is a commit, blocks were held for
-- it, something was written, nobody else has the file locked, and a serial is left.
pub record MayCommit (scripts : Scripts) (s : Standing) (k : ℕ) (line : Line) (u : Update)
    (w : Work) : Type 0 where
  pub client : IsClient s k
  pub next : next_line scripts s k ≡ Some line
  pub command : line.command ≡ Commit
  pub noted : (client_of s k).noted ≡ Held (need u) ∷ []
  pub is_open : (client_of s k).update ≡ Some u
  pub plain : u.is_super ≡ false
  pub works : u.works ≡ w ∷ []
  pub writes : has_writes u ≡ true
  pub unlocked : locked_by s k w.object ≡ None
  pub unworn : serial_of s.state w.object < 2 ^ 64 - 1

-- The update is merged with every version of its file, and its flush is done: the client holds the
-- blocks that were written, and no others.
pub record IsWritten (scene : Scene) (k : ℕ) (w : Work) (root : ℕ) (tree : Tree) (d : View)
    (plan : Plan) : Type 0 where
  pub merged : HasMerged scene w (serial_of scene.standing.state w.object) root tree d
  pub flush : IsFlushing scene k d
      (base_of root w.object (serial_of scene.standing.state w.object)) plan
  pub all : plan.written ≡ length plan.placed
  pub alone : plan.members ≡ []
  pub number : (client_of scene.standing k).held ≡ length plan.placed

-- The entry of the commit.
abbrev pub commit_entry : Standing → ℕ → Line → Update → ℕ → Entry
commit_entry s k line u at = in_line k line (Committed (made_by s.state u) at)

-- The scene after the link was set: its contents, its map and its standing are these, and it is
-- one. The client has the entry noted, and holds no block any more.
pub record IsLinkedTo (scripts : Scripts) (k : ℕ) (old new : Scene) (e : Entry) (content : Content)
    (states : List BlockState) : Type 0 where
  pub content_is : new.content ≡ content
  pub states_is : new.states ≡ states
  pub most : new.most ≡ old.most
  pub blocks : new.store.root.blocks ≡ old.store.root.blocks
  pub lawful : IsLawful scripts old.standing e
  pub standing : new.standing ≡ after_entry scripts old.standing e
  pub own : client_of new.standing k
      ≡ noting e.what (record (client_of old.standing k) { held = 0 })
  pub leads : Leads k old new

-- What is told of a file with one version more, in this block and with so many pages of its own.
abbrev pub head_after : Head → ℕ → ℕ → Head
head_after head block own =
    record {
      block = block;
      first = head.first;
      serial = head.serial + 1;
      kept = head.kept + own;
    }

-- What is told of the files is so after the commit where this one is told anew.
abbrev pub HeadsGoOn : Scene → Scene → ℕ → ℕ → ℕ → Type 0
HeadsGoOn old new object block own =
    (heads : List (Option Head)) (head : Head) → AreHeads old heads
    → slice_get heads (object - 1) ≡ Some (Some head)
    → AreHeads new (slice_set heads (object - 1) (Some (head_after head block own)))

-- Where the link of such an update was set, in the page that its draft was merged with last, the
-- blocks that were written are kept, and the commit is noted, that is a scene: one version more is
-- found, and the others are left what they rely on.
abbrev pub CommitLinks : Type 0
CommitLinks =
    (scripts : Scripts) (k : ℕ) (old : Scene) (line : Line) (u : Update) (w : Work) (root top : ℕ)
    (tree : Tree)
    (d : View) (plan : Plan) (content : Content) (states : List BlockState) (at : ℕ)
    → IsShared old → IsSound scripts old.standing → MayCommit scripts old.standing k line u w
    → IsWritten old k w root tree d plan → block_of plan.placed [] ≡ Some top
    → Rewrites old.content content root (with_commit top) → Replaces k Kept old.states states
    → old.standing.moment ≤ at
    → (new : Scene)
    × IsLinkedTo scripts k old new (commit_entry old.standing k line u at) content states
    × HeadsGoOn old new w.object top (need u)
