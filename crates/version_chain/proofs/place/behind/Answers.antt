use Rattle.std.proofs.Common.{◌≡◌, ◌++◌, ◌∷◌, [], ℕ, drop, Some, true, refl, sym, ap, ◌∙◌, add-one, arith}
use Rattle.std.specs.List.{slice_get}
use Rattle.afs_base.specs.Path.{is_prefix}
use Rattle.draft_model.specs.Flush.{Placed, block_of}
use Rattle.version_chain.proofs.Written.{got_is}
use Rattle.version_chain.proofs.Below.{next_stop, next_all, pass_one}
use Rattle.version_chain.proofs.place.behind.Goals as goal

pub search-init : goal.search-init
search-init c = λ k h. refl

pub returns-then-not-is_below : goal.returns-then-not-is_below
returns-then-not-is_below c =
    let item = c.index-places-at.result in
    let here : slice_get c.args.places.now c.search.at ≡ Some item = got_is c.args.places.now c.search.at item (omega arith) c.index-places-at.is in
    next_stop c.args.places.now c.args.above.now c.args.slot c.args.next c.search.at item c.requires.rising c.requires.next c.search.auto.at c.search.invariant here
    (ap (λ (y : Placed). is_prefix (c.args.above.now ++ c.args.slot ∷ []) y.path) (sym c.place.view_is) ∙ sym c.is_below.ensures ∙ c.if-not-is_below.true)

pub search-preserved : goal.search-preserved
search-preserved c =
    let item = c.index-places-at.result in
    let here : slice_get c.args.places.now c.search.at ≡ Some item = got_is c.args.places.now c.search.at item (omega arith) c.index-places-at.is in
    let on : is_prefix (c.args.above.now ++ c.args.slot ∷ []) item.path ≡ true =
    ap (λ (y : Placed). is_prefix (c.args.above.now ++ c.args.slot ∷ []) y.path) (sym c.place.view_is) ∙ sym c.is_below.ensures ∙ c.if-not-is_below.false in
    λ k h. pass_one c.args.places.now c.args.above.now c.args.slot c.args.next c.search.at item here on c.search.invariant k h
    ∙ ap (λ (n : ℕ). block_of (drop n c.args.places.now) (c.args.above.now ++ k ∷ [])) (sym (add-one c.search.at))

pub returns : goal.returns
returns c =
    next_all c.args.places.now c.args.above.now c.args.slot c.args.next c.search.at c.requires.rising c.requires.next
    (let within = c.search.auto.at-end c.requires.next.within in omega (arith, within, c.search-test.false)) c.search.invariant
