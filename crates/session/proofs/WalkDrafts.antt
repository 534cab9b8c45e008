-- The draft of a client through the calls of its walk.
use Rattle.std.proofs.Common.{◌≡◌, sym, ap, ◌∙◌, subst}
use Rattle.draft_model.specs.Views.{View}
use Rattle.joint_walk.specs.Calls.{Feeds}
use Rattle.joint_walk.specs.Walks.{WalkValue}
use Rattle.page_codec.specs.Values.{PageValue}
use Rattle.pool_draft.specs.Roots.{OtherDrafts, object_in, root_in, serial_in}
use Rattle.pool_draft.specs.Sets.{base_at, others_of, picked_of, roots_of, view_at}
use Rattle.pool_draft.specs.declared.pool_set.PoolSet.{PoolSet}
use Rattle.session.specs.Safe.{drafts_of, view_of}
use Rattle.session.specs.Values.{one_more}
use Rattle.session.specs.Walks.{GoesFurther, HasTaken, IsSameDraft}
use Rattle.session.specs.declared.course.Course.{Course}
use Rattle.session.specs.declared.stage.Stage.TheVariants as stage
use Rattle.session.specs.declared.turned.Turned.{Turned}

-- What a call of the picked draft leaves of the set.
pub record IsCalled (old new : PoolSet) : Type 0 where
  pub root : root_in (base_at new (picked_of new)) ≡ root_in (base_at old (picked_of old))
  pub object : object_in (base_at new (picked_of new)) ≡ object_in (base_at old (picked_of old))
  pub serial : serial_in (base_at new (picked_of new)) ≡ serial_in (base_at old (picked_of old))
  pub count : new.count ≡ old.count
  pub rest : others_of new ≡ others_of old

module _ (s : Course) (new : PoolSet) (one : drafts_of s ≡ 1) (picked : picked_of s.drafts ≡ 0) (called : IsCalled s.drafts new) where
  pub still_picked : picked_of new ≡ 0
  still_picked = ap (λ (o : OtherDrafts). o.pages.root) called.rest ∙ picked

  pub same_draft : IsSameDraft s (record s { drafts = new })
  same_draft = record {
    one = ap (λ (o : OtherDrafts). o.roots) called.rest ∙ one;
    picked = still_picked;
    root = ap (λ n. root_in (base_at new n)) (sym still_picked) ∙ called.root ∙ ap (λ n. root_in (base_at s.drafts n)) picked;
    object = ap (λ n. object_in (base_at new n)) (sym still_picked) ∙ called.object ∙ ap (λ n. object_in (base_at s.drafts n)) picked;
    serial = ap (λ n. serial_in (base_at new n)) (sym still_picked) ∙ called.serial ∙ ap (λ n. serial_in (base_at s.drafts n)) picked;
    count = called.count;
  }

  -- it shows what it showed
  pub called_view : view_at new (picked_of new) ≡ view_at s.drafts (picked_of s.drafts) → view_at new 0 ≡ view_of s
  called_view view = ap (view_at new) (sym still_picked) ∙ view ∙ ap (view_at s.drafts) picked

  -- a walk that was fed a page is kept
  pub taken_by : (walk more : WalkValue) (page : PageValue) (s' : Course) (result : Turned) → Feeds walk (view_at s.drafts (picked_of s.drafts)) page more (view_at new (picked_of new))
      → GoesFurther more (record s { drafts = new }) s' result → HasTaken walk page s s' result
  taken_by walk more page s' result feeds further = record {
    more = more;
    feeds =
        let F : View → View → Type 0 = λ v w. Feeds walk v page more w in
        subst (λ (x : Course). F (view_at s.drafts 0) (view_at x.drafts 0)) (sym further.only)
        (subst (λ n. F (view_at s.drafts 0) (view_at new n)) still_picked (subst (λ n. F (view_at s.drafts n) (view_at new (picked_of new))) picked feeds));
    same = same_then (record s { drafts = new }) s' (ap (λ (x : Course). x.drafts) further.only) same_draft;
    only = further.only ∙ ap (λ (x : PoolSet). record s { drafts = x; stage = stage.Walking more; turns = one_more s.turns }) (sym (ap (λ (x : Course). x.drafts) further.only));
    answer = further.answer;
  }
    where
      same_then : (t u : Course) → u.drafts ≡ t.drafts → IsSameDraft s t → IsSameDraft s u
      same_then t u e same = record {
        one = ap roots_of e ∙ same.one;
        picked = ap picked_of e ∙ same.picked;
        root = ap (λ (x : PoolSet). root_in (base_at x 0)) e ∙ same.root;
        object = ap (λ (x : PoolSet). object_in (base_at x 0)) e ∙ same.object;
        serial = ap (λ (x : PoolSet). serial_in (base_at x 0)) e ∙ same.serial;
        count = ap (λ (x : PoolSet). x.count) e ∙ same.count;
      }
