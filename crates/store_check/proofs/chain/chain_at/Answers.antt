use Rattle.std.proofs.Common.{◌≡◌, ℕ, arith, List, Some, None, Ok, Err, refl, ap, ◌∙◌}
use Rattle.std.proofs.lemmas.Result.{err_from_is_err_and}
use Rattle.store_model.specs.Laid.{LaidVersion}
use Rattle.store_model.specs.Laws.{pages_of}
use Rattle.store_model.specs.Chains.{chain_at, chain_from, version_at}
use Rattle.store_check.specs.declared.chain.FoundFile.{FoundFile}
use Rattle.store_check.specs.Before.{PagesLie}
use Rattle.store_check.specs.Surveyed.{blocks_in}
use Rattle.store_check.specs.Files.{AllLie, LikeVersions, chain_of, kept_by}
use Rattle.store_check.specs.Results.{Stops}
use Rattle.store_check.proofs.Passing.{stopped_at, stops_on, shows_exit, told_on, back, on}
use Rattle.store_check.proofs.Adding.{adds_chain}
use Rattle.store_check.proofs.ChainWalk.{first_stops, chain_is, chain_kept}
use Rattle.store_check.proofs.chain.chain_at.Goals as goal

pub returns-in_err-first-clause-walk : goal.returns-in_err-first-clause-walk
returns-in_err-first-clause-walk g c = λ told.
    let b = g.B.Blocks in
    let s = c.args.survey.now in
    let stop = stopped_at g.B.Blocks c.version_at.new.survey.store c.in_err-first.field-0.0 in
    let p = err_from_is_err_and c.from_residual.result c.from_residual.ensures.1 in
    shows_exit (λ (chain : FoundFile) (versions : List LaidVersion). (Some chain ≡ chain_of versions) × AllLie (pages_of (b.content s.began)) s.count versions) c.from_residual.result stop
    (chain_at (blocks_in b.content s) c.args.object c.args.namer c.args.n s.list) c.version_at.new.survey.list (p.1 ∙ ap Err p.2)
    (stops_on stop (version_at (blocks_in b.content s) c.args.object c.args.namer c.args.n None s.list) _ (c.in_err-first.ensures.walk told None tt refl)
    (λ cause is. first_stops (blocks_in b.content s) c.args.object c.args.namer c.args.n s.list cause is))

pub returns-in_err-last-clause-walk : goal.returns-in_err-last-clause-walk
returns-in_err-last-clause-walk g c = λ told.
    let b = g.B.Blocks in
    let s = c.args.survey.now in
    let s1 = c.version_at.new.survey in
    let first = c.in_ok-first.ensures in
    let found = first.walk told None tt refl in
    let stop = stopped_at g.B.Blocks c.last_from.new.survey.store c.in_err-last.field-0.0 in
    let p = err_from_is_err_and c.from_residual-in_err-last.result c.from_residual-in_err-last.ensures.1 in
    let stopped = c.in_err-last.ensures.walk (told_on b s s1 first.began first.count told) found.0
    (on b s s1 first.began first.count (λ d m. PagesLie (pages_of (b.content d)) m found.0.block found.0.nodes) found.1.1) found.1.0 in
    let here = back b s s1 first.began first.count
    (λ d m. Stops {X = List LaidVersion} stop (chain_from (record { content = b.content d; count = m }) c.args.object m found.0 s1.list)) stopped in
    shows_exit (λ (chain : FoundFile) (versions : List LaidVersion). (Some chain ≡ chain_of versions) × AllLie (pages_of (b.content s.began)) s.count versions) c.from_residual-in_err-last.result stop
    (chain_at (blocks_in b.content s) c.args.object c.args.namer c.args.n s.list) c.last_from.new.survey.list (p.1 ∙ ap Err p.2)
    (stops_on stop (chain_from (blocks_in b.content s) c.args.object s.count found.0 s1.list) _ here
    (λ cause is. chain_is (blocks_in b.content s) c.args.object c.args.namer c.args.n s.list found.0 s1.list found.2 ∙ is))

pub returns-clause-walk : goal.returns-clause-walk
returns-clause-walk g c = λ told.
    let b = g.B.Blocks in
    let s = c.args.survey.now in
    let s1 = c.version_at.new.survey in
    let first = c.in_ok-first.ensures in
    let found = first.walk told None tt refl in
    let S1 = c.in_ok-last.ensures.walk (told_on b s s1 first.began first.count told) found.0
    (on b s s1 first.began first.count (λ d m. PagesLie (pages_of (b.content d)) m found.0.block found.0.nodes) found.1.1) found.1.0 in
    let like = back b s s1 first.began first.count (λ d m. LikeVersions (pages_of (b.content d)) m found.0.serial c.in_ok-last.last S1.0) S1.1 in
    let is = back b s s1 first.began first.count
    (λ d m. chain_from (record { content = b.content d; count = m }) c.args.object m found.0 s1.list ≡ Ok (S1.0, c.last_from.new.survey.list)) S1.2 in
    let whole = chain_is (blocks_in b.content s) c.args.object c.args.namer c.args.n s.list found.0 s1.list found.2 ∙ is in
    let more = (adds_chain (blocks_in b.content s) c.args.object c.args.namer c.args.n).runs s.list S1.0 c.last_from.new.survey.list whole in
    let kept : c.saturating_sub.result ≡ kept_by S1.0 = Prim.omega (arith, c.saturating_sub.ensures, c.found.ensures.value, c.found-found.ensures.value, more) in (
      S1.0,
      (
        ap (λ (k : ℕ). Some (let chain : FoundFile = record { last = c.in_ok-last.last; first = k; unset = None; kept = c.saturating_sub.result } in chain)) (ap (λ v. v.serial) found.1.0)
            ∙ chain_kept (pages_of (b.content s.began)) s.count found.0.serial c.saturating_sub.result c.in_ok-last.last S1.0 like kept,
        like.lie,
      ),
      whole,
    )
