use Rattle.std.proofs.Common.{◌≡◌, ◌∷◌, ℕ, Bool, List, Option, Ok, Err, Result, sym, ap, subst, ◌∙◌, length}
use Rattle.std.proofs.lemmas.Result.{err_from_is_err_and}
use Rattle.page_codec.specs.Values.{MemberValue}
use Rattle.store_model.specs.Walk.{Blocks, and_then, done}
use Rattle.store_model.specs.Laws.{pages_of}
use Rattle.page_places.specs.Places.{Store}
use Rattle.store_model.specs.Members.{Top as ModelTop, Linked as ModelLinked, last_in, member_linked, version_linked}
use Rattle.store_check.specs.declared.refused.WalkRefused.{WalkRefused}
use Rattle.store_check.specs.declared.version.Prior.{Prior}
use Rattle.store_check.specs.declared.chain.FoundFile.{FoundFile}
use Rattle.store_check.specs.declared.tops.Top.{Top}
use Rattle.store_check.specs.declared.tops.Linked.{Linked}
use Rattle.store_check.specs.Surveyed.{blocks_in}
use Rattle.store_check.specs.Tops.{AreNamed, LikeLinked, at_object, prior_in, shown_top}
use Rattle.store_check.proofs.Passing.{stopped_at, stops_on, shows_exit}
use Rattle.store_check.proofs.MemberWalk.{PriorTold, prior_told, named_too}
use Rattle.store_check.proofs.tops.link_member.Goals as goal

-- what was found for a member, of what is kept
told_of :
    (blocks : Blocks) (store : Store) (count : ℕ) (kept : Linked) (top : Top) (model : ModelTop) (member : MemberValue) (from : ModelLinked) (places : List ℕ) (chains : List (Option FoundFile)) (named : List Bool) (result : Result Prior WalkRefused)
    → top ≡ shown_top model → LikeLinked store count places kept from → chains ≡ kept.chains.items → named ≡ kept.named.items
    → prior_in top member.object (at_object member.object chains) (at_object member.object named) ≡ result
    → PriorTold blocks model member from places (last_in member.object from.files) result
told_of blocks store count kept top model member from places chains named result is like chains_are named_are gave =
    subst (λ (r : Result Prior WalkRefused). PriorTold blocks model member from places (last_in member.object from.files) r)
    (
    ap (λ (t : Top). prior_in t member.object (at_object member.object kept.chains.items) (at_object member.object kept.named.items)) (sym is)
    ∙ ap (λ (cs : List (Option FoundFile)). prior_in top member.object (at_object member.object cs) (at_object member.object kept.named.items)) (sym chains_are)
    ∙ ap (λ (ns : List Bool). prior_in top member.object (at_object member.object chains) (at_object member.object ns)) (sym named_are)
    ∙ gave
    )
    (prior_told blocks model member from places store count kept like)

pub returns-in_err-prior-clause-walk : goal.returns-in_err-prior-clause-walk
returns-in_err-prior-clause-walk g c = λ told model from top like.
    let s = c.args.survey.now in
    let S = pages_of (g.B.Blocks.content s.began) in
    let blocks = blocks_in g.B.Blocks.content s in
    let member : MemberValue = record { object = c.args.object; block = c.args.n } in
    let stop = stopped_at g.B.Blocks c.args.survey.now.store c.in_err-prior.field-0.0 in
    let p = err_from_is_err_and c.from_residual.result c.from_residual.ensures.1 in
    shows_exit (λ _ (found : ModelLinked). LikeLinked S s.count s.list c.args.linked.now found) c.from_residual.result stop
    (member_linked blocks model member from (last_in c.args.object from.files) s.list) s.list (p.1 ∙ ap Err p.2)
    (told_of blocks S s.count c.args.linked.now c.args.top.now model member from s.list c.as_slice.result.now c.as_slice-2.result.now (Err stop.refused) top like c.as_slice.ensures.value c.as_slice-2.ensures.value
    (sym c.prior_at.ensures.value ∙ c.in_err-prior.was) stop.past)

pub returns-in_err-link_version-clause-walk : goal.returns-in_err-link_version-clause-walk
returns-in_err-link_version-clause-walk g c = λ told model from top like.
    let s = c.args.survey.now in
    let S = pages_of (g.B.Blocks.content s.began) in
    let blocks = blocks_in g.B.Blocks.content s in
    let member : MemberValue = record { object = c.args.object; block = c.args.n } in
    let stop = stopped_at g.B.Blocks c.link_version.new.survey.store c.in_err-link_version.field-0.0 in
    let p = err_from_is_err_and c.from_residual-in_err-link_version.result c.from_residual-in_err-link_version.ensures.1 in
    let of = told_of blocks S s.count c.args.linked.now c.args.top.now model member from s.list c.as_slice.result.now c.as_slice-2.result.now (Ok c.in_ok-prior.prior) top like c.as_slice.ensures.value c.as_slice-2.ensures.value
    (sym c.prior_at.ensures.value ∙ c.in_ok-prior.was) in
    shows_exit (λ _ (found : ModelLinked). LikeLinked S s.count c.link_version.new.survey.list c.link_version.new.linked found) c.from_residual-in_err-link_version.result stop
    (member_linked blocks model member from (last_in c.args.object from.files) s.list) c.link_version.new.survey.list (p.1 ∙ ap Err p.2)
    (stops_on stop (version_linked blocks c.args.top.now.block member of.0 from.files s.list) _ (c.in_err-link_version.ensures.walk told of.0 from.files like.files like.few of.1 of.2)
    (λ cause is. of.3
    ∙ ap (λ (t : Top). and_then (version_linked blocks t.block member of.0 from.files s.list) (named_too blocks model member from s.list)) (sym top)
    ∙ ap (λ r. and_then r (named_too blocks model member from s.list)) is))

pub returns-clause-walk : goal.returns-clause-walk
unfolding done
returns-clause-walk g c = λ told model from top like.
    let s = c.args.survey.now in
    let S = pages_of (g.B.Blocks.content s.began) in
    let blocks = blocks_in g.B.Blocks.content s in
    let member : MemberValue = record { object = c.args.object; block = c.args.n } in
    let of = told_of blocks S s.count c.args.linked.now c.args.top.now model member from s.list c.as_slice.result.now c.as_slice-2.result.now (Ok c.in_ok-prior.prior) top like c.as_slice.ensures.value c.as_slice-2.ensures.value
    (sym c.prior_at.ensures.value ∙ c.in_ok-prior.was) in
    let e = c.in_ok-link_version.ensures in
    let found = e.walk told of.0 from.files like.files like.few of.1 of.2 in (
      record { files = found.0; named = c.args.object ∷ from.named },
      record {
        files = found.1.0;
        few = found.1.1;
        named = c.mark.ensures.marks from.named (subst (λ (marks : List Bool). AreNamed from.named marks) (sym e.named) like.named);
        size = c.mark.ensures.size ∙ ap length e.named ∙ like.size ∙ sym e.size;
      },
      of.3
          ∙ ap (λ (t : Top). and_then (version_linked blocks t.block member of.0 from.files s.list) (named_too blocks model member from s.list)) (sym top)
          ∙ ap (λ r. and_then r (named_too blocks model member from s.list)) found.2,
    )
