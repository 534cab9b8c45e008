use Rattle.std.proofs.Common.{◌≡◌, ◌≤◌, List, Ok, Err, ap, subst, ◌∙◌, length, map, arith, []}
use Rattle.std.proofs.lemmas.Result.{err_from_is_err_and}
use Rattle.store_model.specs.Laid.{LaidFile}
use Rattle.store_model.specs.Laws.{pages_of}
use Rattle.store_model.specs.Tables.{table_rows, files_from}
use Rattle.store_model.specs.Members.{Linked as ModelLinked, tops_from, tops_linked}
use Rattle.store_model.specs.Found.{LaidStore}
use Rattle.store_check.specs.declared.checking.Found.{Found}
use Rattle.store_check.specs.declared.rows.Row.{Row}
use Rattle.store_check.specs.Rows.{row_of}
use Rattle.store_check.specs.Files.{LikeFiles, chains_of}
use Rattle.store_check.specs.Counts.{kept_in}
use Rattle.store_check.specs.Checked.{LikeTable, walk_from}
use Rattle.store_check.specs.Since.{is_past}
use Rattle.store_check.specs.Surveyed.{blocks_in}
use Rattle.store_check.specs.Results.{Stops, Shows}
use Rattle.store_check.proofs.Passing.{stopped_at, stops_on, shows_exit, told_on, on, back}
use Rattle.store_check.proofs.Adding.{adds_files}
use Rattle.store_check.proofs.WholeWalk.{rows_stop, files_stop, store_shown}
use Rattle.store_check.proofs.checking.walk.Goals as goal

pub returns-in_err-rows-clause-walk : goal.returns-in_err-rows-clause-walk
returns-in_err-rows-clause-walk g c = λ told.
    let s = c.args.survey.now in
    let blocks = blocks_in g.B.Blocks.content s in
    let root = c.args.root.now in
    let stop = stopped_at g.B.Blocks c.table_rows.new.survey.store c.in_err-rows.field-0.0 in
    let p = err_from_is_err_and c.from_residual.result c.from_residual.ensures.1 in
    shows_exit (λ (found : Found) (store : LaidStore). LikeTable found.table store × (found.linked.chains.items ≡ chains_of store.files) × (store.root ≡ root)) c.from_residual.result stop
    (walk_from blocks root s.list) c.table_rows.new.survey.list (p.1 ∙ ap Err p.2)
    (stops_on stop (table_rows blocks root s.list) _ (c.in_err-rows.ensures.walk told) (λ cause is. rows_stop blocks root s.list cause is))

pub returns-in_err-chains-clause-walk : goal.returns-in_err-chains-clause-walk
returns-in_err-chains-clause-walk g c = λ told.
    let b = g.B.Blocks in
    let s = c.args.survey.now in
    let s1 = c.table_rows.new.survey in
    let first = c.in_ok-rows.ensures in
    let blocks = blocks_in b.content s in
    let root = c.args.root.now in
    let rows = c.in_ok-rows.rows.items in
    let stop = stopped_at g.B.Blocks c.files_from.new.survey.store c.in_err-chains.field-0.0 in
    let p = err_from_is_err_and c.from_residual-in_err-chains.result c.from_residual-in_err-chains.ensures.1 in
    let stopped = back b s s1 first.began first.count
    (λ d m. Stops {X = List LaidFile} stop (files_from (record { content = b.content d; count = m }) 1 (map row_of c.as_slice-2.result.now) s1.list))
    (c.in_err-chains.ensures.walk (told_on b s s1 first.began first.count told)) in
    let here = subst (λ (rs : List Row). Stops {X = List LaidFile} stop (files_from blocks 1 (map row_of rs) s1.list)) c.as_slice-2.ensures.value stopped in
    shows_exit (λ (found : Found) (store : LaidStore). LikeTable found.table store × (found.linked.chains.items ≡ chains_of store.files) × (store.root ≡ root)) c.from_residual-in_err-chains.result stop
    (walk_from blocks root s.list) c.files_from.new.survey.list (p.1 ∙ ap Err p.2)
    (stops_on stop (files_from blocks 1 (map row_of rows) s1.list) _ here (λ cause is. files_stop blocks root s.list (map row_of rows) s1.list (first.walk told) cause is))

pub link_files-requires : goal.link_files-requires
link_files-requires g c = Prim.omega (arith, c.in_ok-chains.ensures.size, ap length c.as_slice-2.ensures.value, c.in_ok-rows.ensures.most)

pub returns-clause-walk : goal.returns-clause-walk
returns-clause-walk g c = λ told.
    let b = g.B.Blocks in
    let s = c.args.survey.now in
    let s1 = c.table_rows.new.survey in
    let s2 = c.files_from.new.survey in
    let first = c.in_ok-rows.ensures in
    let second = c.in_ok-chains.ensures in
    let blocks = blocks_in b.content s in
    let root = c.args.root.now in
    let rows = c.in_ok-rows.rows.items in
    let told1 = told_on b s s1 first.began first.count told in
    let found = second.walk told1 in
    let told2 = told_on b s1 s2 second.began second.count told1 in
    let like2 = on b s1 s2 second.began second.count (λ d m. LikeFiles (pages_of (b.content d)) m c.in_ok-chains.chains.items found.0) found.1 in
    let is1 = back b s s1 first.began first.count
    (λ d m. files_from (record { content = b.content d; count = m }) 1 (map row_of c.as_slice-2.result.now) s1.list ≡ Ok (found.0, s2.list)) found.2 in
    let files_are = subst (λ (rs : List Row). files_from blocks 1 (map row_of rs) s1.list ≡ Ok (found.0, s2.list)) c.as_slice-2.ensures.value is1 in
    let few : kept_in found.0 ≤ length s2.list = Prim.omega (arith, (adds_files blocks 1 (map row_of rows)).runs s1.list found.0 s2.list files_are) in
    let Q = c.link_files.ensures.walk told2 found.0 like2 few in
    let q1 = back b s1 s2 second.began second.count
    (λ d m. Shows (is_past b c.link_files.new.survey.store) (λ (f : Found) (linked : ModelLinked). (f.table ≡ c.in_ok-table.table) × (f.linked.chains.items ≡ chains_of linked.files)) c.link_files.result
    (tops_linked (record { content = b.content d; count = m }) (tops_from 1 found.0) (record { files = found.0; named = [] }) s2.list) c.link_files.new.survey.list) Q in
    let q0 = back b s s1 first.began first.count
    (λ d m. Shows (is_past b c.link_files.new.survey.store) (λ (f : Found) (linked : ModelLinked). (f.table ≡ c.in_ok-table.table) × (f.linked.chains.items ≡ chains_of linked.files)) c.link_files.result
    (tops_linked (record { content = b.content d; count = m }) (tops_from 1 found.0) (record { files = found.0; named = [] }) s2.list) c.link_files.new.survey.list) q1 in
    let t = c.in_ok-table.ensures in
    store_shown (is_past b c.link_files.new.survey.store) blocks root s.list rows s1.list (first.walk told) found.0 s2.list files_are c.in_ok-table.table t.format t.blocks t.key t.parts
    (t.entries ∙ ap (λ (rs : List Row). map (λ (row : Row). row.entry) rs) c.as_slice.ensures.value) c.link_files.result c.link_files.new.survey.list q0
