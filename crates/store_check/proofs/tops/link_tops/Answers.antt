use Rattle.std.proofs.Common.{◌≡◌, ◌≤◌, ℕ, List, Ok, Err, refl, ap, subst, ◌∙◌, length, arith}
use Rattle.std.proofs.lemmas.List.{length-map}
use Rattle.std.proofs.lemmas.Result.{err_from_is_err_and}
use Rattle.page_codec.specs.Values.{MemberValue}
use Rattle.store_model.specs.Laws.{pages_of}
use Rattle.store_model.specs.Members.{Linked as ModelLinked, members_linked, tops_linked}
use Rattle.store_check.specs.declared.tops.Top.{Top}
use Rattle.store_check.specs.Surveyed.{blocks_in}
use Rattle.store_check.specs.Results.{Stops}
use Rattle.store_check.specs.Tops.{LikeLinked, shown_top}
use Rattle.store_check.proofs.Passing.{stopped_at, stops_on, shows_exit, told_on, on, back}
use Rattle.store_check.proofs.MemberWalk.{tops_go_on, tops_stop, tops_done, top_at}
use Rattle.store_check.proofs.tops.link_tops.Goals as goal

pub tops-init : goal.tops-init
tops-init g c = record {
  began = refl;
  count = refl;
  size = c.requires;
  far = λ told models from tops like. record { linked = from; like = like; is = refl };
}

pub tops-preserved : goal.tops-preserved
tops-preserved g c =
    let b = g.B.Blocks in
    let s = c.args.survey.now in
    let l = c.tops.survey in
    let i = c.tops.invariant in
    let e = c.in_ok-link_members.ensures in
    let k : ℕ = c.tops.k in
    let after = c.link_members.new.survey.list in
    record {
      began = e.began ∙ i.began;
      count = e.count ∙ i.count;
      size = e.size;
      far = λ told models from tops like.
          let S = pages_of (b.content s.began) in
          let f = i.far told models from tops like in
          let at = top_at c.args.tops.now models k c.index-tops-k.result tops c.tops-test.true in
          let found = e.walk (told_on b s l i.began i.count told) at.model f.linked (c.index-tops-k.is ∙ at.is)
          (on b s l i.began i.count (λ d m. LikeLinked (pages_of (b.content d)) m l.list c.tops.linked f.linked) f.like) in
          let next = back b s l i.began i.count (λ d m. LikeLinked (pages_of (b.content d)) m c.link_members.new.survey.list c.link_members.new.linked found.0) found.1 in
          let is1 = back b s l i.began i.count
          (λ d m. members_linked (record { content = b.content d; count = m }) at.model c.index-tops-k.result.members f.linked l.list ≡ Ok (found.0, after)) found.2 in
          let is = subst (λ (members : List MemberValue). members_linked (blocks_in b.content s) at.model members f.linked l.list ≡ Ok (found.0, after)) (ap (λ (t : Top). t.members) (c.index-tops-k.is ∙ at.is)) is1 in
          tops_go_on (blocks_in b.content s) S s.count models from s.list k c.tops.linked l.list c.link_members.new.linked after at.model found.0 at.here f next is;
    }

pub returns-in_err-link_members-clause-walk : goal.returns-in_err-link_members-clause-walk
returns-in_err-link_members-clause-walk g c = λ told models from tops like.
    let b = g.B.Blocks in
    let s = c.args.survey.now in
    let l = c.tops.survey in
    let i = c.tops.invariant in
    let k : ℕ = c.tops.k in
    let S = pages_of (b.content s.began) in
    let f = i.far told models from tops like in
    let stop = stopped_at g.B.Blocks c.link_members.new.survey.store c.in_err-link_members.field-0.0 in
    let p = err_from_is_err_and c.from_residual.result c.from_residual.ensures.1 in
    let at = top_at c.args.tops.now models k c.index-tops-k.result tops c.tops-test.true in
    let stopped = back b s l i.began i.count
    (λ d m. Stops {X = ModelLinked} stop (members_linked (record { content = b.content d; count = m }) at.model c.index-tops-k.result.members f.linked l.list))
    (c.in_err-link_members.ensures.walk (told_on b s l i.began i.count told) at.model f.linked (c.index-tops-k.is ∙ at.is)
    (on b s l i.began i.count (λ d m. LikeLinked (pages_of (b.content d)) m l.list c.tops.linked f.linked) f.like)) in
    let here = subst (λ (members : List MemberValue). Stops {X = ModelLinked} stop (members_linked (blocks_in b.content s) at.model members f.linked l.list)) (ap (λ (t : Top). t.members) (c.index-tops-k.is ∙ at.is)) stopped in
    shows_exit (λ _ (found : ModelLinked). LikeLinked S s.count c.link_members.new.survey.list c.link_members.new.linked found) c.from_residual.result stop
    (tops_linked (blocks_in b.content s) models from s.list) c.link_members.new.survey.list (p.1 ∙ ap Err p.2)
    (stops_on stop (members_linked (blocks_in b.content s) at.model at.model.version.members f.linked l.list) _ here
    (λ cause is. tops_stop (blocks_in b.content s) S s.count models from s.list k c.tops.linked l.list at.model cause at.here f is))

pub returns-clause-walk : goal.returns-clause-walk
returns-clause-walk g c = λ told models from tops like.
    let b = g.B.Blocks in
    let s = c.args.survey.now in
    let S = pages_of (b.content s.began) in
    let f = c.tops.invariant.far told models from tops like in
    let past : length models ≤ c.tops.k = Prim.omega (arith, c.tops-test.false, ap length tops, length-map models shown_top) in
    (f.linked, f.like, tops_done (blocks_in b.content s) S s.count models from s.list c.tops.k c.tops.linked c.tops.survey.list past f)
