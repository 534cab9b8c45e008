use Rattle.std.proofs.Common.{◌≡◌, ◌≤◌, ◌∷◌, ℕ, Some, Ok, Err, refl, sym, ap, subst, ◌∙◌, length, arith}
use Rattle.std.proofs.lemmas.Result.{err_from_is_err_and}
use Rattle.page_codec.specs.Values.{MemberValue}
use Rattle.store_model.specs.Laws.{pages_of}
use Rattle.store_model.specs.Members.{Linked as ModelLinked, last_in, member_linked, members_linked}
use Rattle.store_check.specs.Surveyed.{blocks_in}
use Rattle.store_check.specs.Results.{Stops}
use Rattle.store_check.specs.Tops.{AreNamed, LikeLinked}
use Rattle.store_check.proofs.Passing.{stopped_at, stops_on, shows_exit, told_on, on, back}
use Rattle.store_check.proofs.MemberWalk.{members_on, members_refused, members_end}
use Rattle.store_check.proofs.tops.link_members.Goals as goal

pub members-init : goal.members-init
members-init g c = record {
  began = refl;
  count = refl;
  size = c.requires;
  far = λ told model from top like. record { linked = from; like = like; is = refl };
}

pub members-preserved : goal.members-preserved
members-preserved g c =
    let b = g.B.Blocks in
    let s = c.args.survey.now in
    let l = c.members.survey in
    let i = c.members.invariant in
    let e = c.in_ok-link_member.ensures in
    record {
      began = e.began ∙ i.began;
      count = e.count ∙ i.count;
      size = e.size;
      far = λ told model from top like.
          let S = pages_of (b.content s.began) in
          let f = i.far told model from top like in
          let found = e.walk (told_on b s l i.began i.count told) model f.linked top
          (on b s l i.began i.count (λ d m. LikeLinked (pages_of (b.content d)) m l.list c.members.linked f.linked) f.like) in
          let member : MemberValue = record { object = c.member.inside.object; block = c.member.inside.block } in
          let next = back b s l i.began i.count (λ d m. LikeLinked (pages_of (b.content d)) m c.link_member.new.survey.list c.link_member.new.linked found.0) found.1 in
          let is = back b s l i.began i.count
          (λ d m. member_linked (record { content = b.content d; count = m }) model member f.linked (last_in member.object f.linked.files) l.list ≡ Ok (found.0, c.link_member.new.survey.list)) found.2 in
          members_on (blocks_in b.content s) model S s.count c.args.top.now.members from s.list c.members.k c.members.linked c.link_member.new.linked l.list c.link_member.new.survey.list member found.0
          (c.get-member.ensures ∙ ap Some (sym c.member.view_is)) f next is;
    }

pub returns-in_err-link_member-clause-walk : goal.returns-in_err-link_member-clause-walk
returns-in_err-link_member-clause-walk g c = λ told model from top like.
    let b = g.B.Blocks in
    let s = c.args.survey.now in
    let l = c.members.survey in
    let i = c.members.invariant in
    let S = pages_of (b.content s.began) in
    let f = i.far told model from top like in
    let stop = stopped_at g.B.Blocks c.link_member.new.survey.store c.in_err-link_member.field-0.0 in
    let p = err_from_is_err_and c.from_residual.result c.from_residual.ensures.1 in
    let member : MemberValue = record { object = c.member.inside.object; block = c.member.inside.block } in
    let stopped = back b s l i.began i.count
    (λ d m. Stops {X = ModelLinked} stop (member_linked (record { content = b.content d; count = m }) model member f.linked (last_in member.object f.linked.files) l.list))
    (c.in_err-link_member.ensures.walk (told_on b s l i.began i.count told) model f.linked top
    (on b s l i.began i.count (λ d m. LikeLinked (pages_of (b.content d)) m l.list c.members.linked f.linked) f.like)) in
    shows_exit (λ _ (found : ModelLinked). LikeLinked S s.count c.link_member.new.survey.list c.link_member.new.linked found) c.from_residual.result stop
    (members_linked (blocks_in b.content s) model c.args.top.now.members from s.list) c.link_member.new.survey.list (p.1 ∙ ap Err p.2)
    (stops_on stop (member_linked (blocks_in b.content s) model member f.linked (last_in member.object f.linked.files) l.list) _ stopped
    (λ cause is. members_refused (blocks_in b.content s) model S s.count c.args.top.now.members from s.list c.members.k c.members.linked l.list member cause
    (c.get-member.ensures ∙ ap Some (sym c.member.view_is)) f is))

pub returns-clause-walk : goal.returns-clause-walk
returns-clause-walk g c = λ told model from top like.
    let b = g.B.Blocks in
    let s = c.args.survey.now in
    let S = pages_of (b.content s.began) in
    let f = c.members.invariant.far told model from top like in
    let past : length c.args.top.now.members ≤ c.members.k = Prim.omega (arith, c.members-test.false, c.len-k-end.ensures.value) in (
      record f.linked { named = model.object ∷ f.linked.named },
      record {
        files = f.like.files;
        few = f.like.few;
        named = subst (λ (n : ℕ). AreNamed (n ∷ f.linked.named) c.mark.new.named.items) (ap (λ t. t.object) top) (c.mark.ensures.marks f.linked.named f.like.named);
        size = c.mark.ensures.size ∙ f.like.size;
      },
      members_end (blocks_in b.content s) model S s.count c.args.top.now.members from s.list c.members.k c.members.linked c.members.survey.list past f,
    )
