use Rattle.std.proofs.Common.{◌≡◌, ◌+◌, ◌*◌, ◌<◌, ◌≤◌, ◌⊎◌, inl, inr, ℕ, length, sym, subst, arith}
use Rattle.std.specs.Prelude.{Result, Ok, Err, IfOk, OnOk, OnErr, IsOk}
use Rattle.tree_model.specs.Trees.{IsMake}
use Rattle.tree_model.specs.declared.step.Step.{Step}
use Rattle.tree_model.specs.declared.step.Step.TheVariants.{ReadAt, ListAt, WriteAt, MakeAt, DropAt}
use Rattle.tree_model.specs.declared.step.Reply.{Reply}
use Rattle.draft_model.specs.Views.{View, copies}
use Rattle.draft_model.specs.Steps.{stepped, reply_in}
use Rattle.draft_model.specs.Stands.{Runs}
use Rattle.draft_model.proofs.Runs.{runs}
use Rattle.draft_model.specs.Entries.{shown}
use Rattle.draft_tree.proofs.Kept.{top_stepped, levels_stepped, top_same, levels_same}
use Rattle.draft_tree.specs.Pages.{Shows}
use Rattle.pool_draft.specs.Held.{picked_tree, beside, space_of}
use Rattle.pool_draft.specs.declared.pool_set.PoolSet.{PoolSet}
use Rattle.pool_draft.proofs.Roots.{drafts_after, room_for}
use Rattle.pool_draft.proofs.pool_set.PoolSetDraft.step.Goals as goal

make_or : (step : Step) → IsMake step ⊎ (IsMake step → ⊥)
make_or (ReadAt p) = inr (λ h. h)
make_or (ListAt p) = inr (λ h. h)
make_or (WriteAt p bytes) = inr (λ h. h)
make_or (MakeAt c) = inl tt
make_or (DropAt c) = inr (λ h. h)

on_ok : {T E P : Type 0} (r : Result T E) → IsOk r → OnOk r P → P
on_ok (Ok x) ok h = h
on_ok (Err e) ok h = absurd (cc ok)

map_ok : {T E P Q : Type 0} (r : Result T E) → (P → Q) → OnOk r P → OnOk r Q
map_ok (Ok x) f h = f h
map_ok (Err e) f h = tt

each_ok : {T E P : Type 0} (r : Result T E) (Q R : T → Type 0) → ((x : T) → P → Q x → R x) → OnOk r P → IfOk r Q → IfOk r R
each_ok (Ok x) Q R f h k = f x h k
each_ok (Err e) Q R f h k = tt

no_err : {T E : Type 0} (P : Type 0) (r : Result T E) → IsOk r → OnErr r P
no_err P (Ok x) ok = tt
no_err P (Err e) ok = absurd (cc ok)

-- a step that has room is not refused
done_well : {T E : Type 0} (s : PoolSet) (r : Result T E) → s.count < 128
    → (Unit {0} → length (picked_tree s.pages) < space_of (beside s.pages) → IsOk r) → IsOk r
done_well s r room succeeds =
    let few : 7 * s.count + s.fed ≤ 902 = omega (arith, room, s.few) in
    succeeds tt (room_for s.pages (length s.bases.items) s.count s.fed s.drafts few)

pub invariant_of-self-clause-drafts : goal.invariant_of-self-clause-drafts
invariant_of-self-clause-drafts c =
    let s = c.args.self.now in
    let j = c.step.new.pages in
    let d = shown (picked_tree s.pages) in
    let done = c.args.done.now in
    let ready = c.requires.ready in
    let shows : Shows (picked_tree j) (stepped d done) = on_ok c.step.result (done_well s c.step.result c.requires.room c.step.ensures.succeeds) c.step.ensures.view in
    let after = λ (n : ℕ) (less : length (picked_tree j) ≤ length (picked_tree s.pages) + n) (more : n + (7 * s.count + s.fed) ≤ 7 * (s.count + 1) + 0).
    drafts_after s.pages j (length s.bases.items) s.count s.fed (s.count + 1) 0 n s.drafts ready c.step.ensures.others
    (c.step.ensures.order (s.drafts.order s.pages.root ready))
    (top_same (stepped d done) (shown (picked_tree j)) shows (top_stepped d done (s.drafts.top s.pages.root ready)))
    (levels_same (stepped d done) (shown (picked_tree j)) shows (levels_stepped d done (s.drafts.levels s.pages.root ready)))
    less more in
    elim (make_or done) [
      | inl make ↦ after 1 c.step.ensures.len (omega (arith, c.requires.few make))
      | inr other ↦ after 0 (omega (arith, c.step.ensures.no_more other)) (omega (arith, s.few))
    ]

pub returns-clause-stepped : goal.returns-clause-stepped
returns-clause-stepped c = map_ok c.step.result (λ shows i p. shows p i) c.step.ensures.view

pub returns-clause-runs : goal.returns-clause-runs
returns-clause-runs c =
    let d = shown (picked_tree c.args.self.now.pages) in
    let j = c.step.new.pages in
    let done = c.args.done.now in
    let one = λ (reply : Reply) (view : Shows (picked_tree j) (stepped d done)) (is : reply ≡ reply_in (copies d) done).
    let shows : stepped d done ≡ shown (picked_tree j) = λ i p. sym (view p) i in
    let F : View → Type 0 = λ v. Runs d v done (reply_in (copies d) done) in
    let G : Reply → Type 0 = λ r. Runs d (shown (picked_tree j)) done r in
    subst G (sym is) (subst F shows (runs d done c.step.ensures.slots c.requires.none)) in
    each_ok c.step.result (λ reply. reply ≡ reply_in (copies d) done) (λ reply. Runs d (shown (picked_tree j)) done reply) one c.step.ensures.view c.step.ensures.reply

pub returns-clause-err : goal.returns-clause-err
returns-clause-err c = no_err _ c.step.result (done_well c.args.self.now c.step.result c.requires.room c.step.ensures.succeeds)

pub returns-clause-succeeds : goal.returns-clause-succeeds
returns-clause-succeeds c never = done_well c.args.self.now c.step.result c.requires.room c.step.ensures.succeeds
