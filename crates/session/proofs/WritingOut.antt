-- A turn of a commit that writes a page of its flush.
use Rattle.std.proofs.Common.{◌≡◌, inl, inr, ℕ, suc, ◌<◌, List, [], ◌∷◌, length, Some, refl, sym, ap, ◌∙◌, subst, arith, slice_get}
use Rattle.std.specs.Prelude.{slice_index}
use Rattle.draft_model.specs.Flush.{Placed, in_turn}
use Rattle.draft_model.specs.Views.{View}
use Rattle.page_codec.specs.Values.{PageValue, VersionValue}
use Rattle.page_codec.specs.Spelling.{frame_bytes, page_bytes, version_bytes}
use Rattle.pair_store.specs.declared.store.Blocks.{Ghosts}
use Rattle.pool_draft.specs.Roots.{object_in, root_in, serial_in}
use Rattle.pool_draft.specs.Sets.{base_at, picked_of, view_at}
use Rattle.script_text.specs.ScriptValue.{ScriptValue}
use Rattle.version_chain.specs.Flush.{Base, GivesNext, IsBlockFor, IsWritten, Plan, base_of}
use Rattle.version_chain.proofs.Written.{get_more}
use Rattle.session.specs.Blocks.{HasDraft}
use Rattle.session.specs.Calls.{IsReady}
use Rattle.session.specs.Safe.{IsSafeFlush, drafts_of, object_of, root_of, serial_of, view_of}
use Rattle.session.specs.declared.common.Common.{Common}
use Rattle.session.specs.declared.course.Course.{Course}
use Rattle.session.proofs.Drafts.{has_draft, object_is, root_is, serial_is, view_is}

-- ---- what is written

page_gate : (p : PageValue) → slice_index (page_bytes p) 0 ≡ 165
unfolding page_bytes frame_bytes
page_gate p = refl

version_gate : (v : VersionValue) → slice_index (version_bytes v) 0 ≡ 165
unfolding version_bytes frame_bytes
version_gate v = refl

-- what is written for a page has an open gate
block_gate : (d : View) (base : Base) (plan : Plan) (path : List ℕ) (page : PageValue) (bytes : List ℕ) → IsBlockFor d base plan path page bytes → slice_index bytes 0 ≡ 165
block_gate d base plan [] page bytes is = ap (λ xs. slice_index xs 0) is.1 ∙ version_gate _
block_gate d base plan (s ∷ p) page bytes is = ap (λ xs. slice_index xs 0) is.1 ∙ page_gate _

written_gate : (d : View) (base : Base) (plan : Plan) (path bytes : List ℕ) → IsWritten d base plan path bytes → slice_index bytes 0 ≡ 165
written_gate d base plan path bytes w = block_gate d base plan path w.copy.page bytes w.bytes_are

-- the place whose turn it is is one of the plan
turn_place : (placed : List Placed) (k : ℕ) (x : Placed) → slice_get (in_turn placed) k ≡ Some x → (j : ℕ) × (slice_get placed j ≡ Some x)
turn_place [] k x at = absurd cc
turn_place (y ∷ placed) k x at = elim (get_more placed y k x at) [
  | inl e ↦ (suc k, e)
  | inr e ↦ (0, ap Some (sym e.1))
]

module _ {D : Type 0} (b : Ghosts D) (script : ScriptValue) (c : Common D) (s : Course) (ready : IsReady b script c s) (one : drafts_of s ≡ 1) (flush more : Plan) (at : ℕ) (bytes : List ℕ)
    (safe : IsSafeFlush (length c.map) s flush)
    (given : GivesNext (view_at s.drafts (picked_of s.drafts))
    (base_of (root_in (base_at s.drafts (picked_of s.drafts))) (object_in (base_at s.drafts (picked_of s.drafts))) (serial_in (base_at s.drafts (picked_of s.drafts)))) flush more at bytes) where
  draft : HasDraft s
  draft = has_draft b script c s ready one

  -- of its draft
  pub gives : GivesNext (view_of s) (base_of (root_of s) (object_of s) (serial_of s)) flush more at bytes
  gives =
      subst (λ n. GivesNext (view_of s) (base_of (root_of s) (object_of s) n) flush more at bytes) (serial_is s draft)
      (subst (λ n. GivesNext (view_of s) (base_of (root_of s) n (serial_in (base_at s.drafts (picked_of s.drafts)))) flush more at bytes) (object_is s draft)
      (subst (λ n. GivesNext (view_of s) (base_of n (object_in (base_at s.drafts (picked_of s.drafts))) (serial_in (base_at s.drafts (picked_of s.drafts)))) flush more at bytes) (root_is s draft)
      (subst (λ d. GivesNext d (base_of (root_in (base_at s.drafts (picked_of s.drafts))) (object_in (base_at s.drafts (picked_of s.drafts))) (serial_in (base_at s.drafts (picked_of s.drafts)))) flush more at bytes)
      (view_is s draft) given)))

  pub its_place : (j : ℕ) × (slice_get flush.placed j ≡ Some (record { path = given.path; block = at }))
  its_place = turn_place flush.placed flush.written (record { path = given.path; block = at }) given.turn

  pub block_within : at < b.size c.store
  block_within =
      let low = safe.within its_place.0 (record { path = given.path; block = at }) its_place.1 in
      let most = ready.store.map in
      omega (arith, low, most)

  pub gate_open : slice_index bytes 0 ≡ 165
  gate_open = written_gate _ _ flush given.path bytes given.written

  -- the flush stays safe
  pub more_safe : IsSafeFlush (length c.map) s more
  more_safe =
      let same : more.placed ≡ flush.placed = ap (λ (p : Plan). p.placed) given.plan in
      subst (λ (p : Plan). IsSafeFlush (length c.map) s p) (sym given.plan)
      (record { placed = safe.placed; top = safe.top; within = safe.within; serial = safe.serial })
