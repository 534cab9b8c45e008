use Rattle.std.proofs.Common.{◌≡◌, ◌++◌, ◌∷◌, [], List, ℕ, Some, true, false, sym, ap, ◌∙◌, arith}
use Rattle.std.specs.List.{slice_get}
use Rattle.page_places.specs.Places.{same}
use Rattle.draft_model.specs.Flush.{Placed}
use Rattle.version_chain.proofs.Written.{got_is}
use Rattle.version_chain.proofs.Below.{next_is, next_other}
use Rattle.version_chain.proofs.place.place_below.Goals as goal

pub returns-then-is_child : goal.returns-then-is_child
returns-then-is_child c =
    let q : List ℕ = c.args.above.now ++ c.args.slot ∷ [] in
    let item = c.index-places-next.result in
    let here : slice_get c.args.places.now c.args.next ≡ Some item = got_is c.args.places.now c.args.next item (omega arith) c.index-places-next.is in
    let is : same q item.path ≡ true =
    ap (λ (y : Placed). same (c.args.above.now ++ c.args.slot ∷ []) y.path) (sym c.place.view_is) ∙ sym c.is_child.ensures.value ∙ c.if-is_child.true in
    let found = next_is c.args.places.now c.args.above.now c.args.slot c.args.next item c.requires.next here is in
    (found.0, found.1, c.is_child.ensures.above c.if-is_child.true)

pub returns-else-is_child : goal.returns-else-is_child
returns-else-is_child c =
    let item = c.index-places-next.result in
    let here : slice_get c.args.places.now c.args.next ≡ Some item = got_is c.args.places.now c.args.next item (omega arith) c.index-places-next.is in
    let off : same (c.args.above.now ++ c.args.slot ∷ []) item.path ≡ false =
    ap (λ (y : Placed). same (c.args.above.now ++ c.args.slot ∷ []) y.path) (sym c.place.view_is) ∙ sym c.is_child.ensures.value ∙ c.if-is_child.false in
    next_other c.args.places.now c.args.above.now c.args.slot c.args.next item c.requires.rising c.requires.next here off
