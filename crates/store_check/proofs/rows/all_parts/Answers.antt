use Rattle.std.proofs.Common.{◌≡◌, ◌+◌, ◌≤◌, ◌++◌, ℕ, List, Ok, Err, sym, ap, subst, ◌∙◌, map, length, arith, Vec, Global, append-nil, length-append}
use Rattle.std.proofs.lemmas.List.{map-append}
use Rattle.std.proofs.lemmas.Result.{err_from_is_err_and}
use Rattle.store_model.specs.Tables.{Row as ModelRow, part_rows, parts_from}
use Rattle.store_check.specs.declared.rows.Row.{Row}
use Rattle.store_check.specs.Surveyed.{blocks_in}
use Rattle.store_check.specs.Results.{Stops}
use Rattle.store_check.specs.Rows.{row_of}
use Rattle.store_check.proofs.Passing.{stopped_at, stops_on, walks_exit, told_on, back}
use Rattle.store_check.proofs.ListWalk.{SoFar, goes_on, is_refused, ends, parts_walk, part_found, part_refused, no_parts_left}
use Rattle.store_check.proofs.rows.all_parts.Goals as goal

pub parts-preserved : goal.parts-preserved
parts-preserved g c =
    let b = g.B.Blocks in
    let s = c.args.survey.now in
    let l = c.parts.survey in
    let i = c.parts.invariant in
    let e = c.in_ok-part.ensures in
    let parts = c.args.parts.now in
    let j : ℕ = c.parts.j in
    let other = c.index-parts-j.result in
    let after = c.part_rows.new.survey.list in
    let found : List ModelRow = map row_of c.in_ok-part.part.items in
    record {
      began = e.began ∙ i.began;
      count = e.count ∙ i.count;
      size = Prim.omega (arith, i.size, e.size, ap length c.in_ok-extend_from_slice.ensures.items, length-append c.parts.rows.items c.as_slice.result.now, ap length c.as_slice.ensures.value);
      far = λ told.
          let is = back b s l i.began i.count
          (λ d m. part_rows (record { content = b.content d; count = m }) j other l.list ≡ Ok (found, after))
          (e.walk (told_on b s l i.began i.count told)) in
          let far = goes_on (parts_walk (blocks_in b.content s)) parts 0 s.list j (map row_of c.parts.rows.items) l.list other j found after c.parts-test.true c.index-parts-j.is
          (let e : j ≡ 0 + j = Prim.omega arith in e) (i.far told) (part_found (blocks_in b.content s) j other l.list found after is) in
          subst (λ (rows : List ModelRow). SoFar (parts_walk (blocks_in b.content s)) parts 0 s.list (j + 1) rows after)
          (sym (ap (map row_of) (c.in_ok-extend_from_slice.ensures.items ∙ ap (λ (xs : List Row). c.parts.rows.items ++ xs) c.as_slice.ensures.value) ∙ map-append row_of c.parts.rows.items c.in_ok-part.part.items)) far;
    }

pub returns-in_err-part-clause-walk : goal.returns-in_err-part-clause-walk
returns-in_err-part-clause-walk g c = λ told.
    let b = g.B.Blocks in
    let s = c.args.survey.now in
    let l = c.parts.survey in
    let i = c.parts.invariant in
    let parts = c.args.parts.now in
    let j : ℕ = c.parts.j in
    let other = c.index-parts-j.result in
    let stop = stopped_at g.B.Blocks c.part_rows.new.survey.store c.in_err-part.field-0.0 in
    let p = err_from_is_err_and c.from_residual.result c.from_residual.ensures.1 in
    let stopped = back b s l i.began i.count
    (λ d m. Stops {X = List ModelRow} stop (part_rows (record { content = b.content d; count = m }) j other l.list))
    (c.in_err-part.ensures.walk (told_on b s l i.began i.count told)) in
    walks_exit (λ (rows : Vec Row Global). map row_of rows.items) c.from_residual.result stop (parts_from (blocks_in b.content s) 0 parts s.list) c.part_rows.new.survey.list (p.1 ∙ ap Err p.2)
    (stops_on stop (part_rows (blocks_in b.content s) j other l.list) _ stopped
    (λ cause is. is_refused (parts_walk (blocks_in b.content s)) parts 0 s.list j (map row_of c.parts.rows.items) l.list other j cause c.parts-test.true c.index-parts-j.is
    (let e : j ≡ 0 + j = Prim.omega arith in e) (i.far told) (part_refused (blocks_in b.content s) j other l.list cause is)))

pub returns-clause-walk : goal.returns-clause-walk
returns-clause-walk g c = λ told.
    let b = g.B.Blocks in
    let s = c.args.survey.now in
    let past : length c.args.parts.now ≤ c.parts.j = Prim.omega (arith, c.parts-test.false) in
    ends (parts_walk (blocks_in b.content s)) c.args.parts.now 0 s.list c.parts.j (map row_of c.parts.rows.items) c.parts.survey.list past (c.parts.invariant.far told) (no_parts_left (blocks_in b.content s) c.parts.survey.list)
    ∙ ap (λ (rows : List ModelRow). Ok (rows, c.parts.survey.list)) (append-nil (map row_of c.parts.rows.items))
