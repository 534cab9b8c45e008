use Rattle.std.proofs.Common.{◌∷◌, List, refl, ap, subst, sym, ◌∙◌, slice_set, arith}
use Rattle.std.specs.List.{insert}
use Rattle.page_codec.specs.Values.{PageValue}
use Rattle.draft_model.specs.Views.{Copied}
use Rattle.draft_tree.specs.Marking.{copied_with}
use Rattle.pool_draft.specs.declared.row.Row.{Row}
use Rattle.pool_draft.specs.Keys.{key_list}
use Rattle.pool_draft.specs.Writes.{IsRowPut}
use Rattle.pool_draft.proofs.Putting.{row_put}
use Rattle.pool_draft.proofs.row_writes.insert_row.Goals as goal

pub returns-clause-put : goal.returns-clause-put
returns-clause-put c =
    let run = c.args.lease.now.run in
    let rows = c.args.lease.now.rows.items in
    let told = c.in-Some.ensures.some in
    let row : Row = record { key = c.of.result; marks = c.copied.inside.marks; frame = c.in-Some.frame } in
    let page : Copied = copied_with c.copied.inside.marks c.copied.inside.page in
    let put : IsRowPut c.args.pool.now run rows c.args.k (c.args.root ∷ c.args.at.now) page (slice_set c.args.pool.now row.frame c.copied.inside.page) c.take.new.lease.run (insert rows c.args.k row) =
    row_put c.args.pool.now run rows c.args.k (c.args.root ∷ c.args.at.now) page row c.take.new.lease.run told.0 told.1 told.2 (ap key_list c.of.ensures) refl c.requires.out (omega (arith, told.0.below, c.requires.of)) in
    let P : Copied → Type 0 = λ x. IsRowPut c.args.pool.now run rows c.args.k (c.args.root ∷ c.args.at.now) x (slice_set c.args.pool.now row.frame c.copied.inside.page) c.take.new.lease.run (insert rows c.args.k row) in
    let Q : List PageValue → Type 0 = λ ps. IsRowPut c.args.pool.now run rows c.args.k (c.args.root ∷ c.args.at.now) c.args.copied.now (slice_set ps row.frame c.copied.inside.page) c.take.new.lease.run (insert rows c.args.k row) in
    let R : List Row → Type 0 = λ rs. IsRowPut c.args.pool.now run rows c.args.k (c.args.root ∷ c.args.at.now) c.args.copied.now (slice_set c.take.new.self row.frame c.copied.inside.page) c.take.new.lease.run rs in
    subst R (sym (c.put_at.ensures.items ∙ ap (λ v. insert v.items c.args.k row) c.take.ensures.rows)) (subst Q (sym c.take.ensures.pages) (subst P c.copied.view_is put))
