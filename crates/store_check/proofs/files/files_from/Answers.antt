use Rattle.std.proofs.Common.{◌≡◌, ◌+◌, ◌≤◌, ℕ, List, Option, Ok, Err, length-append, [], ◌∷◌, refl, sym, ap, subst, ◌∙◌, map, length, arith, Vec, Global}
use Rattle.std.proofs.lemmas.Result.{err_from_is_err_and}
use Rattle.store_model.specs.Walk.{if_some}
use Rattle.store_model.specs.Laid.{LaidFile, LaidVersion}
use Rattle.store_model.specs.Laws.{pages_of}
use Rattle.store_model.specs.Chains.{chain_at}
use Rattle.store_model.specs.Tables.{files_from}
use Rattle.store_check.specs.declared.chain.FoundFile.{FoundFile}
use Rattle.store_check.specs.Rows.{row_of}
use Rattle.store_check.specs.Files.{AllLie, LikeFiles}
use Rattle.store_check.specs.Surveyed.{blocks_in}
use Rattle.store_check.specs.Results.{Stops}
use Rattle.store_check.proofs.Passing.{stopped_at, stops_on, shows_exit, told_on, back}
use Rattle.store_check.proofs.ListWalk.{FilesSoFar, files_begin, files_on, files_refused, files_end, file_at}
use Rattle.store_check.proofs.files.files_from.Goals as goal

pub files-init : goal.files-init
files-init g c = record {
  began = refl;
  count = refl;
  size = ap length c.new-chains.ensures.items;
  far = λ told.
      let S = pages_of (g.B.Blocks.content c.args.survey.now.began) in
      subst (λ (chains : List (Option FoundFile)). FilesSoFar S (blocks_in g.B.Blocks.content c.args.survey.now) c.args.rows.now c.args.survey.now.list 0 chains c.args.survey.now.list)
      (sym c.new-chains.ensures.items) (files_begin S (blocks_in g.B.Blocks.content c.args.survey.now) c.args.rows.now c.args.survey.now.list);
}

pub files-preserved : goal.files-preserved
files-preserved g c =
    let b = g.B.Blocks in
    let s = c.args.survey.now in
    let l = c.files.survey in
    let i = c.files.invariant in
    let e = c.in_ok-chain.ensures in
    let rows = c.args.rows.now in
    let k : ℕ = c.files.i in
    let row = c.index-rows-i.result in
    let after = c.file_at.new.survey.list in
    record {
      began = e.began ∙ i.began;
      count = e.count ∙ i.count;
      size = Prim.omega (arith, i.size, ap length c.in_ok-push.ensures.items, length-append c.files.chains.items (c.in_ok-chain.chain ∷ []));
      far = λ told.
          let S = pages_of (b.content s.began) in
          let found = e.walk (told_on b s l i.began i.count told) in
          let lie = back b s l i.began i.count (λ d m. AllLie (pages_of (b.content d)) m found.0) found.1.1 in
          let is = back b s l i.began i.count
          (λ d m. if_some row.entry.first (chain_at (record { content = b.content d; count = m }) (k + 1) row.block) l.list ≡ Ok (found.0, after)) found.2 in
          files_on S (blocks_in b.content s) rows s.list k c.files.chains.items c.push.new.self.items l.list row c.in_ok-chain.chain found.0 after c.files-test.true c.index-rows-i.is
          c.in_ok-push.ensures.items (i.far told) found.1.0 lie is;
    }

pub returns-in_err-chain-clause-walk : goal.returns-in_err-chain-clause-walk
returns-in_err-chain-clause-walk g c = λ told.
    let b = g.B.Blocks in
    let s = c.args.survey.now in
    let l = c.files.survey in
    let i = c.files.invariant in
    let rows = c.args.rows.now in
    let k : ℕ = c.files.i in
    let row = c.index-rows-i.result in
    let S = pages_of (b.content s.began) in
    let stop = stopped_at g.B.Blocks c.file_at.new.survey.store c.in_err-chain.field-0.0 in
    let p = err_from_is_err_and c.from_residual.result c.from_residual.ensures.1 in
    let stopped = back b s l i.began i.count
    (λ d m. Stops {X = List LaidVersion} stop (if_some row.entry.first (chain_at (record { content = b.content d; count = m }) (k + 1) row.block) l.list))
    (c.in_err-chain.ensures.walk (told_on b s l i.began i.count told)) in
    shows_exit (λ (chains : Vec (Option FoundFile) Global) (files : List LaidFile). LikeFiles S s.count chains.items files) c.from_residual.result stop
    (files_from (blocks_in b.content s) 1 (map row_of rows) s.list) c.file_at.new.survey.list (p.1 ∙ ap Err p.2)
    (stops_on stop (file_at (blocks_in b.content s) (k + 1) (row_of row) l.list) _ stopped
    (λ cause is. files_refused S (blocks_in b.content s) rows s.list k c.files.chains.items l.list row cause c.files-test.true c.index-rows-i.is (i.far told) is))

pub returns-clause-walk : goal.returns-clause-walk
returns-clause-walk g c = λ told.
    let b = g.B.Blocks in
    let s = c.args.survey.now in
    let past : length c.args.rows.now ≤ c.files.i = Prim.omega (arith, c.files-test.false) in
    files_end (pages_of (b.content s.began)) (blocks_in b.content s) c.args.rows.now s.list c.files.i c.files.chains.items c.files.survey.list past (c.files.invariant.far told)
