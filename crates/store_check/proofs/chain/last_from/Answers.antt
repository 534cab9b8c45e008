use Rattle.std.proofs.Common.{◌≡◌, ◌+◌, ◌-◌, ℕ, suc, Some, Ok, Err, refl, ap, subst, ◌∙◌, arith}
use Rattle.std.proofs.lemmas.Result.{err_from_is_err_and}
use Rattle.store_model.specs.Laid.{LaidVersion}
use Rattle.store_model.specs.Laws.{pages_of}
use Rattle.store_model.specs.Chains.{chain_from, version_at}
use Rattle.store_check.specs.Before.{PagesLie}
use Rattle.store_check.specs.Surveyed.{blocks_in}
use Rattle.store_check.specs.Files.{LikeVersions}
use Rattle.store_check.specs.Results.{Stops}
use Rattle.store_check.proofs.Passing.{stopped_at, stops_on, shows_exit, told_on, back, on}
use Rattle.store_check.proofs.ChainWalk.{ChainSoFar, chain_begin, chain_on, chain_refused, chain_done, chain_spent}
use Rattle.store_check.proofs.chain.last_from.Goals as goal

pub versions-init : goal.versions-init
versions-init g c =
    let b = g.B.Blocks in
    let s = c.args.survey.now in
    record {
      began = refl;
      count = refl;
      end = c.count-step-end.ensures;
      far = λ told laid lies first.
          let S = pages_of (b.content s.began) in
          subst (λ (m : ℕ). ChainSoFar (blocks_in b.content s) c.args.object S s.count laid s.list m c.args.first s.list)
          (let e : s.count ≡ s.count - 0 = Prim.omega arith in e)
          (chain_begin (blocks_in b.content s) c.args.object S s.count laid s.list c.args.first first lies);
    }

pub versions-preserved : goal.versions-preserved
versions-preserved g c =
    let b = g.B.Blocks in
    let s = c.args.survey.now in
    let l = c.versions.survey in
    let i = c.versions.invariant in
    let e = c.in_ok-last-in-Some.ensures in
    let after = c.next_at.new.survey.list in
    record {
      began = e.began ∙ i.began;
      count = e.count ∙ i.count;
      end = i.end;
      far = λ told laid lies first.
          let S = pages_of (b.content s.began) in
          let f = i.far told laid lies first in
          let found = e.walk (told_on b s l i.began i.count told) f.here
          (on b s l i.began i.count (λ d m. PagesLie (pages_of (b.content d)) m f.here.block f.here.nodes) f.lies) f.kept in
          let next_lies = back b s l i.began i.count (λ d m. PagesLie (pages_of (b.content d)) m found.0.block found.0.nodes) found.1.1 in
          let is = back b s l i.began i.count
          (λ d m. version_at (record { content = b.content d; count = m }) c.args.object f.here.block c.in-Some.n (Some f.here) l.list ≡ Ok (found.0, after)) found.2 in
          let more : s.count - c.versions._step ≡ suc (s.count - (c.versions._step + 1)) = Prim.omega (arith, c.versions-test.true, i.end) in
          chain_on (blocks_in b.content s) c.args.object S s.count laid s.list c.versions.last l.list (s.count - c.versions._step) (s.count - (c.versions._step + 1)) c.in-Some.n found.0
          c.in_ok-last-in-Some.last after more f c.in-Some.is found.1.0 next_lies is;
    }

pub returns-in-None-clause-walk : goal.returns-in-None-clause-walk
returns-in-None-clause-walk g c = λ told laid lies first.
    let b = g.B.Blocks in
    let s = c.args.survey.now in
    chain_done (blocks_in b.content s) c.args.object (pages_of (b.content s.began)) s.count laid s.list c.versions.last c.versions.survey.list (s.count - c.versions._step)
    (c.versions.invariant.far told laid lies first) c.in-None.is

pub returns-in_err-last-in-Some-clause-walk : goal.returns-in_err-last-in-Some-clause-walk
returns-in_err-last-in-Some-clause-walk g c = λ told laid lies first.
    let b = g.B.Blocks in
    let s = c.args.survey.now in
    let l = c.versions.survey in
    let i = c.versions.invariant in
    let S = pages_of (b.content s.began) in
    let f = i.far told laid lies first in
    let stop = stopped_at g.B.Blocks c.next_at.new.survey.store c.in_err-last-in-Some.field-0.0 in
    let p = err_from_is_err_and c.from_residual.result c.from_residual.ensures.1 in
    let stopped = c.in_err-last-in-Some.ensures.walk (told_on b s l i.began i.count told) f.here
    (on b s l i.began i.count (λ d m. PagesLie (pages_of (b.content d)) m f.here.block f.here.nodes) f.lies) f.kept in
    let here = back b s l i.began i.count
    (λ d m. Stops {X = LaidVersion} stop (version_at (record { content = b.content d; count = m }) c.args.object f.here.block c.in-Some.n (Some f.here) l.list)) stopped in
    let more : s.count - c.versions._step ≡ suc (s.count - (c.versions._step + 1)) = Prim.omega (arith, c.versions-test.true, i.end) in
    shows_exit (LikeVersions S s.count laid.serial) c.from_residual.result stop (chain_from (blocks_in b.content s) c.args.object s.count laid s.list) c.next_at.new.survey.list (p.1 ∙ ap Err p.2)
    (stops_on stop (version_at (blocks_in b.content s) c.args.object f.here.block c.in-Some.n (Some f.here) l.list) _ here
    (λ cause is. chain_refused (blocks_in b.content s) c.args.object S s.count laid s.list c.versions.last l.list (s.count - c.versions._step) (s.count - (c.versions._step + 1)) c.in-Some.n cause more f
    c.in-Some.is is))

pub returns-clause-walk : goal.returns-clause-walk
returns-clause-walk g c = λ told laid lies first.
    let b = g.B.Blocks in
    let s = c.args.survey.now in
    let spent : s.count - c.versions._step ≡ 0 = Prim.omega (arith, c.versions-test.false, c.versions.invariant.end) in
    chain_spent (blocks_in b.content s) c.args.object (pages_of (b.content s.began)) s.count laid s.list c.versions.last c.versions.survey.list (s.count - c.versions._step) spent
    (c.versions.invariant.far told laid lies first)
