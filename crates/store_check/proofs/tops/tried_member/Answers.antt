use Rattle.std.proofs.Common.{◌≡◌, ◌==◌, ◌&&◌, length, Some, Err, sym, ap, ◌∙◌}
use Rattle.std.specs.Option.{is_none}
use Rattle.std.proofs.lemmas.Result.{err_from_is_err_and}
use Rattle.store_model.specs.Laid.{LaidVersion}
use Rattle.store_model.specs.Laws.{pages_of}
use Rattle.store_model.specs.Chains.{version_at}
use Rattle.store_check.specs.declared.version.FoundVersion.{FoundVersion}
use Rattle.store_check.specs.Before.{PagesLie}
use Rattle.store_check.specs.Surveyed.{blocks_in}
use Rattle.store_check.specs.Versions.{shown_of, tried_at}
use Rattle.store_check.proofs.Passing.{stopped_at, stops_on, shows_exit}
use Rattle.store_check.proofs.VersionWalk.{tried_stops, tried_fails, tried_passes}
use Rattle.store_check.proofs.tops.tried_member.Goals as goal

pub returns-in_err-version-clause-walk : goal.returns-in_err-version-clause-walk
returns-in_err-version-clause-walk g c = λ told laid lies before.
    let b = g.B.Blocks in
    let s = c.args.survey.now in
    let stop = stopped_at g.B.Blocks c.version_at.new.survey.store c.in_err-version.field-0.0 in
    let p = err_from_is_err_and c.from_residual.result c.from_residual.ensures.1 in
    shows_exit (λ (version : FoundVersion) (found : LaidVersion). (version ≡ shown_of found) × PagesLie (pages_of (b.content s.began)) s.count found.block found.nodes) c.from_residual.result stop
    (tried_at (blocks_in b.content s) c.args.object c.args.namer c.args.n laid s.list) c.version_at.new.survey.list (p.1 ∙ ap Err p.2)
    (stops_on stop (version_at (blocks_in b.content s) c.args.object c.args.namer c.args.n (Some laid) s.list) _ (c.in_err-version.ensures.walk told (Some laid) lies before)
    (λ cause is. tried_stops (blocks_in b.content s) c.args.object c.args.namer c.args.n laid s.list cause is))

pub returns-then-not-is_last-clause-walk : goal.returns-then-not-is_last-clause-walk
returns-then-not-is_last-clause-walk g c = λ told laid lies before.
    let s = c.args.survey.now in
    let found = c.in_ok-version.ensures.walk told (Some laid) lies before in
    tried_fails (blocks_in g.B.Blocks.content s) c.args.object c.args.namer c.args.n laid s.list found.0 c.version_at.new.survey.list found.2
    (ap (λ (v : FoundVersion). is_none v.commit && length v.members == 0) (sym found.1.0) ∙ sym c.is_last.ensures ∙ c.if-not-is_last.true)

pub returns-clause-walk : goal.returns-clause-walk
returns-clause-walk g c = λ told laid lies before.
    let s = c.args.survey.now in
    let found = c.in_ok-version.ensures.walk told (Some laid) lies before in (
      found.0,
      found.1,
      tried_passes (blocks_in g.B.Blocks.content s) c.args.object c.args.namer c.args.n laid s.list found.0 c.version_at.new.survey.list found.2
          (ap (λ (v : FoundVersion). is_none v.commit && length v.members == 0) (sym found.1.0) ∙ sym c.is_last.ensures ∙ c.if-not-is_last.false),
    )
