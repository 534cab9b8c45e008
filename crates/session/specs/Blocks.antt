-- How a commit takes blocks and is noted.
use Rattle.std.specs.Prelude.{◌≡◌, ℕ, ◌+◌, ◌-◌, ◌^◌, [], ◌∷◌, ◌++◌, Some, length, slice_get, slice_set, min}
use Rattle.afs_base.specs.declared.head.Head.{Head}
use Rattle.block_map.specs.States.{Replaces}
use Rattle.block_map.specs.declared.states.BlockState.TheVariants.{Kept}
use Rattle.draft_model.specs.Entries.{fresh_paths}
use Rattle.tree_model.specs.Accesses.{written_paths}
use Rattle.ground_model.specs.Lines.{in_line}
use Rattle.pair_store.specs.declared.store.Blocks.{Ghosts}
use Rattle.pool_draft.specs.Held.{picked_tree}
use Rattle.pool_draft.specs.Sets.{picked_of}
use Rattle.script_text.specs.ScriptValue.{ScriptValue}
use Rattle.script_text.specs.declared.reply.LineReply.TheVariants as reply
use Rattle.script_text.specs.declared.script.Line.{Line}
use Rattle.service_model.specs.declared.journal.Entry.{Entry}
use Rattle.service_model.specs.declared.journal.What.{What}
use Rattle.service_model.specs.declared.journal.What.TheVariants.{Answered, Committed}
use Rattle.service_model.specs.declared.named.Named.{Named}
use Rattle.session.specs.Answers.{IsCleared}
use Rattle.session.specs.Safe.{drafts_of, line_of, object_of, serial_of}
use Rattle.session.specs.Values.{IsNoted, entries_in, room_in}
use Rattle.session.specs.declared.common.Common.{Common}
use Rattle.session.specs.declared.course.Course.{Course}
use Rattle.session.specs.declared.turned.Turned.{Turned}
use Rattle.session.specs.declared.turned.Turned.TheVariants as turned

-- The client has one draft, which is picked.
pub record HasDraft (s : Course) : Type 0 where
  pub one : drafts_of s ≡ 1
  pub picked : picked_of s.drafts ≡ 0

-- So many pages of the draft are to be written, `/` anyhow.
abbrev pub IsNeeded : Course → ℕ → Type 0
IsNeeded s needed = needed ≡ length (written_paths (fresh_paths (picked_tree s.drafts.pages)))

-- ---- entries

-- The version that a commit of the draft makes, and its entry.
abbrev pub made_of : Course → Named
made_of s = record { object = object_of s; serial = serial_of s + 1 }

abbrev pub made_at : Course → ℕ → What
made_at s at = Committed (made_of s ∷ []) at

-- This entry may be done or not, and nothing else of what is shared changed.
pub record DoubtsAlone {D : Type 0} (c c' : Common D) (e : Entry) : Type 0 where
  pub only : c' ≡ record c { log = c'.log }
  pub entries : entries_in c'.log ≡ entries_in c.log
  pub room : room_in c'.log ≡ room_in c.log
  pub doubt : c'.log.journal.doubt ≡ Some e

-- ---- the new version

-- What is told of a file with a version more, in this block and with so many pages of its own.
abbrev pub head_with : Named → ℕ → ℕ → Head → Head
head_with made block own head =
    record {
      block = block;
      first = head.first;
      serial = made.serial;
      kept = min (head.kept + own) (2 ^ 32 - 1);
    }

-- A file that is told of has one version more; nothing else of what is shared changed.
pub record IsAppended {D : Type 0} (c c' : Common D) (made : Named) (block own : ℕ) : Type 0 where
  pub only : c' ≡ record c { heads = c'.heads }
  pub told : (head : Head) → slice_get c.heads.items (made.object - 1) ≡ Some (Some head)
      → c'.heads.items
      ≡ slice_set c.heads.items (made.object - 1) (Some (head_with made block own head))
  pub untold : ((head : Head) → slice_get c.heads.items (made.object - 1) ≡ Some (Some head) → ⊥)
      → c'.heads.items ≡ c.heads.items

-- The commit whose link was set is noted and answered: its blocks are kept, its file has one version
-- more, and the client's update is over.
pub record IsFinished {D : Type 0} (b : Ghosts D) (script : ScriptValue) (top : ℕ) (c c' : Common D)
    (s s' : Course) (result : Turned) : Type 0 where
  pub line : Line
  pub next : line_of script s ≡ Some line
  pub answer : result ≡ turned.Line line.number
  pub kept : Replaces s.client Kept c.map c'.map
  pub mid : Common D
  pub appended : IsAppended c mid (made_of s) top s.held
  pub only : c' ≡ record mid { map = c'.map; log = c'.log }
  pub noted : IsNoted c.log c'.log
      (in_line s.client line (made_at s (b.moment c.store)) ∷ in_line s.client line Answered ∷ [])
  pub drafts : IsCleared s'.drafts
  pub course : s' ≡ record s {
    replies = record s.replies {
      items = s.replies.items ++ reply.Committed ((serial_of s + 1) ∷ []) ∷ [];
    };
    drafts = s'.drafts;
    held = 0;
    turns = 0;
  }
