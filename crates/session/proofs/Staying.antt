-- What a client that commits has of its own stays so by a turn of its own that makes no version.
use Rattle.std.proofs.Common.{◌≡◌, ◌≢◌, inl, inr, ℕ, ◌-◌, ◌+◌, ◌≤◌, List, Some, None, refl, sym, ap, ◌∙◌, subst, arith}
use Rattle.std.specs.Prelude.{slice_index_or}
use Rattle.std.proofs.lemmas.Bool.{cases_Bool}
use Rattle.block_map.specs.declared.states.BlockState.{BlockState}
use Rattle.draft_model.specs.Views.{View}
use Rattle.script_text.specs.ScriptValue.{ScriptValue}
use Rattle.service_model.specs.Entries.{after_entries}
use Rattle.service_model.specs.Standing.{Scripts, Standing, Client, Made, Update, Work, client_of, has_locked, locked_by, newcomer, serial_of as last_serial}
use Rattle.service_model.specs.declared.journal.Entry.{Entry}
use Rattle.service_model.proofs.Causes.{none_has}
use Rattle.service_model.proofs.Journals.{apart, set_other}
use Rattle.super_files.specs.Locks.{IsOpenTo}
use Rattle.super_files.specs.declared.locks.Lock.{Lock}
use Rattle.store_changes.specs.Writes.{Content}
use Rattle.tree_model.specs.States.{State}
use Rattle.tree_model.specs.Trees.{Tree}
use Rattle.ground_model.specs.Bounds.{turns_to}
use Rattle.ground_model.specs.Laws.{Leads}
use Rattle.ground_model.specs.Lines.{Notes}
use Rattle.ground_model.specs.Own.{HasMerged}
use Rattle.ground_model.specs.Scenes.{Scene}
use Rattle.ground_model.specs.Steps.{moved_to}
use Rattle.ground_model.proofs.Ahead.{merged_stays_own}
use Rattle.ground_model.proofs.Lines.{became}
use Rattle.session.specs.Own.{IsCommittingOf, IsDeciding, IsMergedIn, IsTaken}
use Rattle.session.specs.Safe.{serial_of, view_of}
use Rattle.session.specs.Shared.{AreLocksIn}
use Rattle.session.specs.declared.course.Course.{Course}
use Rattle.session.specs.declared.stage.Stage.{Stage}
use Rattle.session.proofs.Courses.{course_with}
use Rattle.session.proofs.Going.{seated_on}
use Rattle.session.proofs.Locking.{first_none}

at_place : (clients : List Client) (i : ℕ) → slice_index_or clients i newcomer ≡ slice_index_or clients (1 + i - 1) newcomer
at_place clients i = ap (λ (m : ℕ). slice_index_or clients m newcomer) (let e : i ≡ 1 + i - 1 = omega arith in e)

-- where no other client changed, none has a file locked that none had
pub unlocked_still : (s t : Standing) (k object : ℕ) → ((j : ℕ) → 1 ≤ j → j ≢ k → client_of t j ≡ client_of s j) → locked_by s k object ≡ None → locked_by t k object ≡ None
unlocked_still s t k object same none =
    first_none k 1 (has_locked object) t.clients (λ i ne.
    ap (has_locked object) (at_place t.clients i ∙ same (1 + i) (omega arith) ne)
    ∙ none_has s k (has_locked object) none refl (1 + i) (omega arith) ne)

-- the locks tell that none has
pub unlocked_is : (s : Standing) (k object : ℕ) (locks : List Lock) → AreLocksIn s locks → IsOpenTo k object locks → locked_by s k object ≡ None
unlocked_is s k object locks are open_to =
    first_none k 1 (has_locked object) s.clients (λ i ne. elim (cases_Bool (has_locked object (slice_index_or s.clients i newcomer))) [
      | inl has ↦ absurd (ne (open_to (1 + i) ((are (1 + i) object (omega arith)).1 (ap (has_locked object) (sym (at_place s.clients i)) ∙ has))))
      | inr off ↦ off
    ])

module _ (scripts : Scripts) (scene : Scene) (script : ScriptValue) (s : Course) (content : Content) (states : List BlockState) (es : List Entry) (cl : Client)
    (u : Update) (w : Work) (co : IsCommittingOf scripts scene script s u w) (notes : Notes scripts scene.standing s.client es cl)
    (leads : Leads s.client scene (moved_to scene content states (after_entries scripts scene.standing es))) where
  abbrev after : Scene
  after = moved_to scene content states (after_entries scripts scene.standing es)

  own_is : client_of after.standing s.client ≡ cl
  own_is = became scene.standing after.standing s.client cl co.seated.client notes.becomes

  pub merged_on : (upto root : ℕ) (tree : Tree) (d : View) → HasMerged scene w upto root tree d → HasMerged after w upto root tree d
  merged_on upto root tree d h = merged_stays_own scene after w upto root tree d leads.versions notes.becomes.made h

  pub unlocked_on : (object : ℕ) → locked_by scene.standing s.client object ≡ None → locked_by after.standing s.client object ≡ None
  unlocked_on object none =
      unlocked_still scene.standing after.standing s.client object
      (λ j low ne. ap (λ (cs : List Client). slice_index_or cs (j - 1) newcomer) notes.becomes.clients ∙ set_other scene.standing.clients (s.client - 1) (j - 1) cl newcomer (apart s.client j co.seated.client.low low ne))
      none

  pub serial_on : (object : ℕ) → last_serial scene.standing.state object ≡ last_serial after.standing.state object
  serial_on object = ap (λ (x : State). last_serial x object) (sym notes.becomes.state)

  module _ (held : ℕ) (stage : Stage) (turns : ℕ) (is_open : cl.update ≡ Some u) (answers : cl.answers ≡ s.replies.items) (taken : IsTaken held u cl.noted) (holds : cl.held ≡ held) where
    pub committing_on : IsCommittingOf scripts after script (course_with s held stage turns) u w
    committing_on = record {
      seated = seated_on scripts scene script s (course_with s held stage turns) content states es cl co.seated notes refl answers;
      is_open = ap (λ (x : Client). x.update) own_is ∙ is_open;
      plain = record {
        plain = co.plain.plain;
        works = co.plain.works;
        picked = co.plain.picked;
        drafts = co.plain.drafts;
        count = co.plain.count;
        object = co.plain.object;
      };
      line = co.line;
      next = co.next;
      command = co.command;
      writes = co.writes;
      taken = subst (λ (x : Client). IsTaken held u x.noted) (sym own_is) taken;
      held = ap (λ (x : Client). x.held) own_is ∙ holds;
    }

-- so it stays merged, and so it decides, where the client keeps its update
module _ (scripts : Scripts) (scene : Scene) (script : ScriptValue) (s : Course) (content : Content) (states : List BlockState) (es : List Entry) (cl : Client)
    (held : ℕ) (stage : Stage) (turns more after_more : ℕ) (m : IsMergedIn more scripts scene script s) (notes : Notes scripts scene.standing s.client es cl)
    (leads : Leads s.client scene (moved_to scene content states (after_entries scripts scene.standing es)))
    (is_open : cl.update ≡ Some m.update) (answers : cl.answers ≡ s.replies.items) (taken : IsTaken held m.update cl.noted) (holds : cl.held ≡ held)
    (fits : turns ≤ turns_to scene.standing.made held m.work (serial_of s) + after_more) where
  abbrev later : Scene
  later = moved_to scene content states (after_entries scripts scene.standing es)

  unfoldable pub still_merged : IsMergedIn after_more scripts later script (course_with s held stage turns)
  still_merged = record {
    update = m.update;
    work = m.work;
    tree = m.tree;
    committing = committing_on scripts scene script s content states es cl m.update m.work m.committing notes leads held stage turns is_open answers taken holds;
    merged = merged_on scripts scene script s content states es cl m.update m.work m.committing notes leads (serial_of s) _ m.tree (view_of s) m.merged;
    turns = subst (λ (made : List Made). turns ≤ turns_to made held m.work (serial_of s) + after_more) (sym notes.becomes.made) fits;
  }

-- so it decides, where it had no more turns than the versions take
module _ (scripts : Scripts) (scene : Scene) (script : ScriptValue) (s : Course) (content : Content) (states : List BlockState) (es : List Entry) (cl : Client)
    (held : ℕ) (stage : Stage) (turns more : ℕ) (m : IsMergedIn more scripts scene script s) (notes : Notes scripts scene.standing s.client es cl)
    (leads : Leads s.client scene (moved_to scene content states (after_entries scripts scene.standing es)))
    (is_open : cl.update ≡ Some m.update) (answers : cl.answers ≡ s.replies.items) (taken : IsTaken held m.update cl.noted) (holds : cl.held ≡ held)
    (fits : turns ≤ turns_to scene.standing.made held m.work (serial_of s) + 0) where
  pub still_deciding : locked_by scene.standing s.client m.work.object ≡ None → serial_of s ≡ last_serial scene.standing.state m.work.object
      → IsDeciding scripts (moved_to scene content states (after_entries scripts scene.standing es)) script (course_with s held stage turns)
  unfolding still_merged
  still_deciding unlocked last = record {
    open_to = record {
      merged = still_merged scripts scene script s content states es cl held stage turns more 0 m notes leads is_open answers taken holds fits;
      unlocked = unlocked_on scripts scene script s content states es cl m.update m.work m.committing notes leads m.work.object unlocked;
    };
    last = last ∙ serial_on scripts scene script s content states es cl m.update m.work m.committing notes leads m.work.object;
  }
