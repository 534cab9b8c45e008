use Rattle.std.proofs.Common.{rules}
use Rattle.std.proofs.lemmas.Fn.{always_returns_same}
use Rattle.afs_base.specs.Path.{path_cmp}
use Rattle.pool_draft.specs.declared.row.Row.{Row}
use Rattle.pool_draft.specs.Keys.{key_list}
use Rattle.pool_draft.specs.Rows.{key_of}
use Rattle.pool_draft.proofs.Searching.{found_place, gap_place}
use Rattle.pool_draft.proofs.frame_pages.place_in.Goals as goal

pub returns-clause-found : goal.returns-clause-found
returns-clause-found c =
    let key = key_list c.args.key.now in
    let result = c.binary_search_by.ensures.position (λ (y : Row). path_cmp (key_of y) key) (always_returns_same _ _ _ (λ a r g called. search rules)) in
    found_place c.args.rows.now key c.binary_search_by.result c.binary_search_by.ensures.bound result

pub returns-clause-gap : goal.returns-clause-gap
returns-clause-gap c =
    let key = key_list c.args.key.now in
    let result = c.binary_search_by.ensures.position (λ (y : Row). path_cmp (key_of y) key) (always_returns_same _ _ _ (λ a r g called. search rules)) in
    gap_place c.args.rows.now key c.binary_search_by.result c.requires c.binary_search_by.ensures.bound result
