-- What the turns of a client leave the others: what they rely on, and the links that they set.
use Rattle.std.proofs.Common.{◌≡◌, ◌≢◌, ℕ, ◌≤◌, refl, sym, ap, ◌∙◌, subst, arith}
use Rattle.std.specs.List.{list_any}
use Rattle.pair_store.specs.declared.store.Blocks.{Ghosts}
use Rattle.service_model.specs.Sound.{HasNoted, IsOpenAt, is_committing}
use Rattle.service_model.specs.Standing.{Client}
use Rattle.ground_model.specs.Leaves.{Leaves}
use Rattle.ground_model.specs.LinksLeft.{AnswerLeavesAll, AnsweredTopLeavesAll, CommitLeavesAll, LeavesAllGoOn, LeavesAllOthers, LeftLinksStay, LinkLeavesAll, MarkLeavesAll, MovedLeavesAll}
use Rattle.ground_model.specs.Laws.{Leads}
use Rattle.ground_model.specs.Linking.{LeavesLinks, LeavesNames}
use Rattle.ground_model.specs.Scenes.{IsLinking, Scene}
use Rattle.ground_model.specs.Steps.{moved_to}
use Rattle.ground_model.proofs.CommitFacts.{moment_is_past}
use Rattle.ground_model.proofs.RollingOthers.{commit_leaves_links, same_store_leaves_links}
use Rattle.ground_model.proofs.SeveralLinks.{links_stay}
use Rattle.ground_model.proofs.Steps.{leaves_go_on}
use Rattle.ground_model.proofs.Testing.{standing_sound}

-- a client whose turns are not these sets links of the files that it set them of
linking_still : (j object : ℕ) (old mid : Scene) → Leaves j old mid → (l : IsLinking old.standing object) → l.client ≡ j
    → (m : IsLinking mid.standing object) × (m.client ≡ j)
linking_still j object old mid leaves l e = (
  record {
    client = j;
    update = l.update;
    number = subst (λ n. 1 ≤ n) e l.number;
    is_open = ap (λ (c : Client). c.update) leaves.client ∙ subst (λ n. IsOpenAt old.standing n l.update) e l.is_open;
    several = l.several;
    committed = ap (λ (c : Client). list_any is_committing c.noted) leaves.client ∙ subst (λ n. HasNoted old.standing n is_committing) e l.committed;
    has = l.has;
  },
  refl,
)

pub leaves_all_go_on : LeavesAllGoOn
leaves_all_go_on j old mid new one two = record {
  relied = leaves_go_on j old mid new one.relied two.relied;
  links = λ object l e counts. (let m = linking_still j object old mid one.relied l e in two.links object m.0 m.1 counts ∙ one.links object l e counts);
  names = λ version t i m at l e.
      let still = linking_still j m.object old mid one.relied l e in
      let then = two.names version t i m at still.0 still.1 in
      let was = one.names version then.0 i m at l e in
      (was.0, was.1 ∙ then.1);
}

pub left_links_stay : LeftLinksStay
left_links_stay k old new u made at object block members left all is = links_stay k old new u made at object block members left all.relied all.links all.names is

-- what leads on and leaves the links leaves all
all_left : (k : ℕ) (old new : Scene) → Leads k old new → ((j : ℕ) → 1 ≤ j → j ≢ k → LeavesLinks j old new × LeavesNames j old new) → LeavesAllOthers k old new
all_left k old new leads links j low ne =
    let both = links j low ne in
    record { relied = leads.leaves j low ne; links = both.0; names = both.1 }

pub moved_leaves_all : MovedLeavesAll
moved_leaves_all k scene content states standing leads =
    all_left k scene (moved_to scene content states standing) leads (λ j low ne. same_store_leaves_links j scene (moved_to scene content states standing) refl)

pub link_leaves_all : {D : Type 0} (b : Ghosts D) → LinkLeavesAll b
link_leaves_all b opening scripts first k scene new before after es fs line u w states st turn onward leads =
    let early = moment_is_past b opening scripts first scene before es st in
    let later = turn.put.later in
    all_left k scene new leads (λ j low ne.
    commit_leaves_links scripts k scene new line u w turn.root turn.top turn.tree turn.draft turn.plan (b.content after) states (b.moment after)
    st.shared (standing_sound b opening scripts first scene before es st) turn.may turn.written turn.first turn.rewrites turn.kept (omega (arith, early, later))
    onward.shared onward.content (onward.most ∙ turn.put.size ∙ sym st.most) j)

pub commit_leaves_all : CommitLeavesAll
commit_leaves_all scripts k old new line u top members block at content states is = all_left k old new is.to.leads (λ j low ne. is.leaves j ne)

pub answered_top_leaves_all : AnsweredTopLeavesAll
answered_top_leaves_all k old new u top content states is = all_left k old new is.leads (λ j low ne. is.links j ne)

pub mark_leaves_all : MarkLeavesAll
mark_leaves_all k old new content is = all_left k old new is.leads is.links

pub answer_leaves_all : AnswerLeavesAll
answer_leaves_all k u made old new is = all_left k old new is.leads is.links
