use Rattle.std.proofs.Common.{◌≡◌, ℕ, List, [], option_map, Ok, Err, ap, subst, ◌∙◌}
use Rattle.std.proofs.lemmas.Result.{err_from_is_err_and}
use Rattle.store_model.specs.Laid.{LaidVersion, Node}
use Rattle.store_model.specs.Laws.{pages_of}
use Rattle.store_model.specs.Pages.{pages_below}
use Rattle.store_model.specs.Chains.{version_at}
use Rattle.store_check.specs.declared.version.FoundVersion.{FoundVersion}
use Rattle.store_check.specs.Before.{PagesLie}
use Rattle.store_check.specs.Results.{Stops}
use Rattle.store_check.specs.Surveyed.{blocks_in}
use Rattle.store_check.specs.Versions.{OneLies, shown_of, root_at}
use Rattle.store_check.proofs.Passing.{stopped_at, stops_on, shows_exit, told_on, back, on}
use Rattle.store_check.proofs.BeforeLaws.{one_before}
use Rattle.store_check.proofs.VersionWalk.{root_stops, pages_stop, pages_end, found_from}
use Rattle.store_check.proofs.Lying.{version_lies}
use Rattle.store_check.proofs.version.version_at.Goals as goal

pub returns-in_err-version-clause-walk : goal.returns-in_err-version-clause-walk
returns-in_err-version-clause-walk g c = λ told laid lies before.
    let b = g.B.Blocks in
    let s = c.args.survey.now in
    let stop = stopped_at g.B.Blocks c.root_at.new.survey.store c.in_err-version.field-0.0 in
    let p = err_from_is_err_and c.from_residual.result c.from_residual.ensures.1 in
    shows_exit (λ (version : FoundVersion) (found : LaidVersion). (version ≡ shown_of found) × PagesLie (pages_of (b.content s.began)) s.count found.block found.nodes) c.from_residual.result stop
    (version_at (blocks_in b.content s) c.args.object c.args.namer c.args.n laid s.list) c.root_at.new.survey.list (p.1 ∙ ap Err p.2)
    (stops_on stop (root_at (blocks_in b.content s) c.args.object c.args.namer c.args.n c.args.before.now s.list) _ (c.in_err-version.ensures.walk told)
    (λ cause is. root_stops (blocks_in b.content s) c.args.object c.args.namer c.args.n laid c.args.before.now s.list cause before is))

pub returns-in_err-root_pages-clause-walk : goal.returns-in_err-root_pages-clause-walk
returns-in_err-root_pages-clause-walk g c = λ told laid lies before.
    let b = g.B.Blocks in
    let s = c.args.survey.now in
    let first = c.in_ok-version.ensures in
    let second = c.in_ok-befores.ensures in
    let s1 = c.root_at.new.survey in
    let s2 = c.root_befores.new.survey in
    let told1 = told_on b s s1 first.began first.count told in
    let lies1 = on b s s1 first.began first.count (λ d m. OneLies (pages_of (b.content d)) m laid) lies in
    let are = second.befores told1 laid lies1 before in
    let told2 = told_on b s1 s2 second.began second.count told1 in
    let lies2 = on b s1 s2 second.began second.count (λ d m. OneLies (pages_of (b.content d)) m laid) lies1 in
    let stop = stopped_at g.B.Blocks c.root_pages.new.survey.store c.in_err-root_pages.field-0.0 in
    let p = err_from_is_err_and c.from_residual-in_err-root_pages.result c.from_residual-in_err-root_pages.ensures.1 in
    let version = c.in_ok-version.version in
    let nodes = option_map (λ v. v.nodes) laid in
    let shown2 = c.in_err-root_pages.ensures.walk told2 nodes (one_before (pages_of (b.content s2.began)) s2.count laid lies2) are in
    let shown1 = back b s1 s2 second.began second.count
    (λ d m. Stops {X = List Node} stop (pages_below (record { content = b.content d; count = m }) nodes 7 c.args.n [] version.page.refs s2.list)) shown2 in
    let shown0 = back b s s1 first.began first.count
    (λ d m. Stops {X = List Node} stop (pages_below (record { content = b.content d; count = m }) nodes 7 c.args.n [] version.page.refs s2.list)) shown1 in
    let shown = subst (λ (places : List ℕ). Stops {X = List Node} stop (pages_below (blocks_in b.content s) nodes 7 c.args.n [] version.page.refs places)) second.list shown0 in
    shows_exit (λ (version : FoundVersion) (found : LaidVersion). (version ≡ shown_of found) × PagesLie (pages_of (b.content s.began)) s.count found.block found.nodes) c.from_residual-in_err-root_pages.result stop
    (version_at (blocks_in b.content s) c.args.object c.args.namer c.args.n laid s.list) c.root_pages.new.survey.list (p.1 ∙ ap Err p.2)
    (stops_on stop (pages_below (blocks_in b.content s) nodes 7 c.args.n [] version.page.refs s1.list) _ shown
    (λ cause is. pages_stop (blocks_in b.content s) c.args.object c.args.namer c.args.n laid c.args.before.now s.list version s1.list before (first.walk told) cause is))

pub returns-clause-walk : goal.returns-clause-walk
returns-clause-walk g c = λ told laid lies before.
    let b = g.B.Blocks in
    let s = c.args.survey.now in
    let first = c.in_ok-version.ensures in
    let second = c.in_ok-befores.ensures in
    let s1 = c.root_at.new.survey in
    let s2 = c.root_befores.new.survey in
    let after = c.root_pages.new.survey.list in
    let told1 = told_on b s s1 first.began first.count told in
    let lies1 = on b s s1 first.began first.count (λ d m. OneLies (pages_of (b.content d)) m laid) lies in
    let are = second.befores told1 laid lies1 before in
    let told2 = told_on b s1 s2 second.began second.count told1 in
    let lies2 = on b s1 s2 second.began second.count (λ d m. OneLies (pages_of (b.content d)) m laid) lies1 in
    let version = c.in_ok-version.version in
    let nodes = option_map (λ v. v.nodes) laid in
    let found = c.in_ok-root_pages.ensures.walk told2 nodes (one_before (pages_of (b.content s2.began)) s2.count laid lies2) are in
    let is1 = back b s1 s2 second.began second.count
    (λ d m. pages_below (record { content = b.content d; count = m }) nodes 7 c.args.n [] version.page.refs s2.list ≡ Ok (found.0, after)) found.2 in
    let is0 = back b s s1 first.began first.count
    (λ d m. pages_below (record { content = b.content d; count = m }) nodes 7 c.args.n [] version.page.refs s2.list ≡ Ok (found.0, after)) is1 in
    let is = subst (λ (places : List ℕ). pages_below (blocks_in b.content s) nodes 7 c.args.n [] version.page.refs places ≡ Ok (found.0, after)) second.list is0 in
    let end = pages_end (blocks_in b.content s) c.args.object c.args.namer c.args.n laid c.args.before.now s.list version s1.list before (first.walk told) found.0 after is in (
      found_from c.args.n version found.0,
      (c.kept_of.ensures, version_lies (b.content s.began) s.count c.args.object c.args.namer c.args.n laid s.list after (found_from c.args.n version found.0) lies end),
      end,
    )
