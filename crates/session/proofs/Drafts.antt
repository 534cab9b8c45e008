-- The one draft of a client that has an update open.
use Rattle.std.proofs.Common.{◌≡◌, ◌<◌, length, ap, subst, arith}
use Rattle.draft_model.specs.Entries.{fresh_paths, shown}
use Rattle.draft_model.specs.Told.{AreFresh, TellsFresh}
use Rattle.draft_model.proofs.Telling.{tells_fresh}
use Rattle.pair_store.specs.declared.store.Blocks.{Ghosts}
use Rattle.pool_draft.specs.Held.{picked_tree, tree_of}
use Rattle.pool_draft.specs.Roots.{fresh_ready, object_in, root_in, serial_in}
use Rattle.pool_draft.specs.Sets.{base_at, picked_of, roots_of, view_at}
use Rattle.script_text.specs.ScriptValue.{ScriptValue}
use Rattle.session.specs.Blocks.{HasDraft}
use Rattle.session.specs.Calls.{IsReady}
use Rattle.session.specs.Safe.{AreDraftsIn, AreSafeDrafts, HasDraftIn, drafts_of, object_of, root_of, serial_of, view_of}
use Rattle.session.specs.declared.common.Common.{Common}
use Rattle.session.specs.declared.course.Course.{Course}

-- a client that is ready and has one draft has it picked
pub has_draft_in : {D : Type 0} (b : Ghosts D) (script : ScriptValue) (c : Common D) (s : Course) → IsReady b script c s → drafts_of s ≡ 1 → HasDraftIn (b.size c.store) s
has_draft_in b script c s ready one =
    let is : AreDraftsIn (b.size c.store) s.drafts 1 = subst (λ n. AreSafeDrafts (b.size c.store) s.drafts n) one ready.safe.drafts in
    let low = is.picked in
    record { one = one; picked = omega (arith, low); base = is.bases 0 (omega arith) }

pub has_draft : {D : Type 0} (b : Ghosts D) (script : ScriptValue) (c : Common D) (s : Course) → IsReady b script c s → drafts_of s ≡ 1 → HasDraft s
has_draft b script c s ready one = (let d = has_draft_in b script c s ready one in record { one = one; picked = d.picked })

-- what is picked is the draft
pub is_picked : (s : Course) → HasDraft s → picked_of s.drafts < roots_of s.drafts
is_picked s d = (let one = d.one in let picked = d.picked in omega (arith, one, picked))

pub root_is : (s : Course) → HasDraft s → root_in (base_at s.drafts (picked_of s.drafts)) ≡ root_of s
root_is s d = ap (λ n. root_in (base_at s.drafts n)) d.picked

pub object_is : (s : Course) → HasDraft s → object_in (base_at s.drafts (picked_of s.drafts)) ≡ object_of s
object_is s d = ap (λ n. object_in (base_at s.drafts n)) d.picked

pub serial_is : (s : Course) → HasDraft s → serial_in (base_at s.drafts (picked_of s.drafts)) ≡ serial_of s
serial_is s d = ap (λ n. serial_in (base_at s.drafts n)) d.picked

pub view_is : (s : Course) → HasDraft s → view_at s.drafts (picked_of s.drafts) ≡ view_of s
view_is s d = ap (λ n. view_at s.drafts n) d.picked

-- its fresh paths
pub fresh_are : (s : Course) → HasDraft s → AreFresh (view_of s) (fresh_paths (picked_tree s.drafts.pages))
fresh_are s d =
    subst (λ n. AreFresh (shown (tree_of s.drafts.pages n)) (fresh_paths (picked_tree s.drafts.pages))) d.picked
    (fresh_ready s.drafts.pages (length s.drafts.bases.items) s.drafts.count s.drafts.fed s.drafts.drafts (is_picked s d))

pub fresh_told : (s : Course) → HasDraft s → TellsFresh (view_of s) (fresh_paths (picked_tree s.drafts.pages))
fresh_told s d = tells_fresh (view_of s) (fresh_paths (picked_tree s.drafts.pages)) (fresh_are s d)
