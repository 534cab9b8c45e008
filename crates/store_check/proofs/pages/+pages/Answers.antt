use Rattle.std.proofs.Common.{◌≡◌, ◌-◌, ◌<◌, ◌≤◌, ◌++◌, ◌∷◌, [], ℕ, List, Result, Option, Some, None, Ok, Err, refl, sym, ap, subst, ◌∙◌, length, arith, get_or}
use Rattle.std.proofs.lemmas.Option.{get_or_from_slice_get}
use Rattle.std.proofs.lemmas.Result.{err_from_is_err_and}
use Rattle.page_codec.specs.Values.{ReferenceValue}
use Rattle.store_model.specs.Walk.{Blocks, done}
use Rattle.store_model.specs.Laid.{Node}
use Rattle.store_model.specs.Laws.{pages_of}
use Rattle.store_model.specs.Pages.{pages_below, slot_from, own_from, page_at}
use Rattle.store_check.specs.declared.before.Before.{Before}
use Rattle.store_check.specs.declared.refused.WalkRefused.{WalkRefused}
use Rattle.store_check.specs.Before.{BeforeLies, before_at, own_block}
use Rattle.store_check.specs.Since.{is_past}
use Rattle.store_check.specs.Surveyed.{blocks_in}
use Rattle.store_check.specs.Results.{ShowsNone, Stops}
use Rattle.store_check.proofs.Passing.{stopped_at, stops_on, shows_exit, shows_as, told_on, back, on}
use Rattle.store_check.proofs.Slots.{slots_begin, slots_on, slots_refused, slots_end, Chosen, chosen, chosen_none, own_refused, own_shown, child_depth, below_is}
use Rattle.store_check.proofs.pages.+pages.Goals as goal

pub pages_below-slots-init : goal.pages_below-slots-init
pages_below-slots-init g t c = record {
  began = refl;
  count = refl;
  far = λ told nodes path lies depth are. slots_begin _ _ _ _ _ _ _;
}

pub pages_below-slots-preserved : goal.pages_below-slots-preserved
pages_below-slots-preserved g t c =
    let b = g.B.Blocks in
    let i = c.slots.invariant in
    let e = c.in_ok-slot_pages.ensures in
    let s = c.args.survey.now in
    let k : ℕ = c.slots.k in
    let other = c.index-refs-k.result in
    let refs = c.args.refs.now in
    record {
      began = e.began ∙ i.began;
      count = e.count ∙ i.count;
      far = λ told nodes path lies depth are.
          let low : k < length refs = Prim.omega (arith, c.type_inv.refs, c.slots-test.true) in
          let here = e.walk (told_on b s c.slots.survey i.began i.count told) nodes (path ++ k ∷ [])
          (on b s c.slots.survey i.began i.count (λ d n. BeforeLies (pages_of (b.content d)) n nodes) lies)
          (child_depth path k c.args.depth c.if-depth-eq0.false depth)
          (sym (get_or_from_slice_get c.args.befores.now k (before_at nodes (path ++ k ∷ [])) c.index-befores-k.result (are k c.slots-test.true))) in
          slots_on (blocks_in b.content s) (pages_below (blocks_in b.content s) nodes (c.args.depth - 1)) nodes c.args.namer path refs s.list c.slots.survey.list c.slot_pages.new.survey.list k other here.0 low
          (i.far told nodes path lies depth are)
          (back b s c.slots.survey i.began i.count
          (λ d n. slot_from (record { content = b.content d; count = n }) (pages_below (record { content = b.content d; count = n }) nodes (c.args.depth - 1)) nodes c.args.namer (path ++ k ∷ []) (get_or refs k other) (get_or refs k other).block c.slots.survey.list ≡ Ok (here.0, c.slot_pages.new.survey.list))
          here.2);
    }

pub pages_below-returns-then-depth-eq0-clause-walk :
    goal.pages_below-returns-then-depth-eq0-clause-walk
unfolding pages_below done
pages_below-returns-then-depth-eq0-clause-walk g t c = λ told nodes path lies depth are.
    ([], tt, ap (λ d. pages_below (blocks_in g.B.Blocks.content c.args.survey.now) nodes d c.args.namer path c.args.refs.now c.args.survey.now.list) c.if-depth-eq0.true)

pub pages_below-returns-in_err-slot_pages-clause-walk :
    goal.pages_below-returns-in_err-slot_pages-clause-walk
pages_below-returns-in_err-slot_pages-clause-walk g t c =
    let b = g.B.Blocks in
    let i = c.slots.invariant in
    let e = c.in_err-slot_pages.ensures in
    let s = c.args.survey.now in
    let k : ℕ = c.slots.k in
    let other = c.index-refs-k.result in
    let refs = c.args.refs.now in
    λ told nodes path lies depth are.
    let low : k < length refs = Prim.omega (arith, c.type_inv.refs, c.slots-test.true) in
    let p = err_from_is_err_and c.from_residual.result c.from_residual.ensures.1 in
    let stop = stopped_at g.B.Blocks c.slot_pages.new.survey.store c.in_err-slot_pages.field-0.0 in
    let here = e.walk (told_on b s c.slots.survey i.began i.count told) nodes (path ++ k ∷ [])
    (on b s c.slots.survey i.began i.count (λ d n. BeforeLies (pages_of (b.content d)) n nodes) lies)
    (child_depth path k c.args.depth c.if-depth-eq0.false depth)
    (sym (get_or_from_slice_get c.args.befores.now k (before_at nodes (path ++ k ∷ [])) c.index-befores-k.result (are k c.slots-test.true))) in
    shows_exit (λ _ (_ : List Node). Unit {0}) c.from_residual.result stop _ _ (p.1 ∙ ap Err p.2)
    (stops_on stop _ _
    (back b s c.slots.survey i.began i.count
    (λ d n. Stops stop (slot_from (record { content = b.content d; count = n }) (pages_below (record { content = b.content d; count = n }) nodes (c.args.depth - 1)) nodes c.args.namer (path ++ k ∷ []) (get_or refs k other) (get_or refs k other).block c.slots.survey.list))
    here)
    (λ cause is. below_is (blocks_in b.content s) nodes c.args.depth c.args.namer path refs s.list c.if-depth-eq0.false
    ∙ slots_refused (blocks_in b.content s) (pages_below (blocks_in b.content s) nodes (c.args.depth - 1)) nodes c.args.namer path refs s.list c.slots.survey.list k other cause low
    (i.far told nodes path lies depth are) is))

pub pages_below-returns-clause-walk : goal.pages_below-returns-clause-walk
pages_below-returns-clause-walk g t c =
    let b = g.B.Blocks in
    let i = c.slots.invariant in
    let s = c.args.survey.now in
    let k : ℕ = c.slots.k in
    let refs = c.args.refs.now in
    λ told nodes path lies depth are.
    let past : length refs ≤ k = Prim.omega (arith, c.told-refs, c.slots-test.false) in
    let end = slots_end (blocks_in b.content s) (pages_below (blocks_in b.content s) nodes (c.args.depth - 1)) nodes c.args.namer path refs s.list c.slots.survey.list k past (i.far told nodes path lies depth are) in
    (end.0, tt, below_is (blocks_in b.content s) nodes c.args.depth c.args.namer path refs s.list c.if-depth-eq0.false ∙ end.2)

-- what the choice at a slot says, for what the version before has there
choice :
    (blocks : Blocks) (nodes : Option (List Node)) (d namer : ℕ) (path : List ℕ) (reference : ReferenceValue) (before : Before) (seen : List ℕ) (result : Result (Option ℕ) WalkRefused)
    → before_at nodes path ≡ before → own_block namer reference before reference.block ≡ result
    → Chosen result (slot_from blocks (pages_below blocks nodes d) nodes namer path reference reference.block seen) (λ n. own_from blocks (pages_below blocks nodes d) namer path reference n seen) seen
choice blocks nodes d namer path reference before seen result at is =
    let o = slot_from blocks (pages_below blocks nodes d) nodes namer path reference reference.block seen in
    let own = (λ (n : ℕ). own_from blocks (pages_below blocks nodes d) namer path reference n seen) in
    subst (λ (r : Result (Option ℕ) WalkRefused). Chosen r o own seen) (ap (λ v. own_block namer reference v reference.block) at ∙ is)
    (chosen blocks (pages_below blocks nodes d) nodes namer path reference reference.block seen)

pub slot_pages-returns-in_err-own_block-clause-walk :
    goal.slot_pages-returns-in_err-own_block-clause-walk
slot_pages-returns-in_err-own_block-clause-walk g t c = λ told nodes path lies depth at.
    let blocks = blocks_in g.B.Blocks.content c.args.survey.now in
    let stop = stopped_at g.B.Blocks c.args.survey.now.store c.in_err-own_block.field-0.0 in
    let p = err_from_is_err_and c.from_residual.result c.from_residual.ensures.1 in
    let chose = choice blocks nodes c.args.depth c.args.namer path c.args.reference.now c.args.before.now c.args.survey.now.list (Err stop.refused) at (sym c.own_block.ensures ∙ c.in_err-own_block.was) in
    shows_exit (λ _ (_ : List Node). Unit {0}) c.from_residual.result stop _ _ (p.1 ∙ ap Err p.2) (chosen_none stop _ _ _ chose)

pub slot_pages-returns-in-None-clause-walk : goal.slot_pages-returns-in-None-clause-walk
slot_pages-returns-in-None-clause-walk g t c = λ told nodes path lies depth at.
    let s = c.args.survey.now in
    let chose = choice (blocks_in g.B.Blocks.content s) nodes c.args.depth c.args.namer path c.args.reference.now c.args.before.now s.list (Ok None) at
    (sym c.own_block.ensures ∙ c.in_ok-own_block.was ∙ ap Ok c.in-None.is) in
    (chose.0, tt, chose.1)

pub slot_pages-returns-in-Some-clause-walk : goal.slot_pages-returns-in-Some-clause-walk
slot_pages-returns-in-Some-clause-walk g t c = λ told nodes path lies depth at.
    let b = g.B.Blocks in
    let s = c.args.survey.now in
    let blocks = blocks_in b.content s in
    let reference = c.args.reference.now in
    let chose = choice blocks nodes c.args.depth c.args.namer path reference c.args.before.now s.list (Ok (Some c.in-Some.n)) at
    (sym c.own_block.ensures ∙ c.in_ok-own_block.was ∙ ap Ok c.in-Some.is) in
    shows_as (λ _ (_ : List Node). Unit {0}) (is_past b c.own_pages.new.survey.store) c.own_pages.result _ _ c.own_pages.new.survey.list chose
    (c.own_pages.ensures.walk told nodes path reference lies depth at)

pub own_pages-returns-in_err-page-clause-walk : goal.own_pages-returns-in_err-page-clause-walk
own_pages-returns-in_err-page-clause-walk g t c = λ told nodes path reference lies depth at.
    let s = c.args.survey.now in
    let blocks = blocks_in g.B.Blocks.content s in
    let n = c.args.n in
    let stop = stopped_at g.B.Blocks c.page_at.new.survey.store c.in_err-page.field-0.0 in
    let p = err_from_is_err_and c.from_residual.result c.from_residual.ensures.1 in
    let level : 7 - c.args.depth ≡ length path = Prim.omega (arith, depth) in
    let here : Stops stop (page_at blocks c.args.namer n (length path) s.list) =
    subst (λ (l : ℕ). Stops stop (page_at blocks c.args.namer n l s.list)) level (c.in_err-page.ensures.walk told) in
    shows_exit (λ _ (_ : List Node). Unit {0}) c.from_residual.result stop _ _ (p.1 ∙ ap Err p.2)
    (stops_on stop (page_at blocks c.args.namer n (length path) s.list) _ here
    (λ cause is. own_refused blocks (pages_below blocks nodes c.args.depth) c.args.namer path reference n s.list cause is))

pub own_pages-returns-clause-walk : goal.own_pages-returns-clause-walk
own_pages-returns-clause-walk g t c = λ told nodes path reference lies depth at.
    let b = g.B.Blocks in
    let s = c.args.survey.now in
    let blocks = blocks_in b.content s in
    let n = c.args.n in
    let level : 7 - c.args.depth ≡ length path = Prim.omega (arith, depth) in
    let page = c.in_ok-page.page in
    let first = c.in_ok-page.ensures in
    let second = c.in_ok-befores.ensures in
    let s1 = c.page_at.new.survey in
    let s2 = c.slot_befores.new.survey in
    let here : page_at blocks c.args.namer n (length path) s.list ≡ Ok (page, s1.list) =
    subst (λ (l : ℕ). page_at blocks c.args.namer n l s.list ≡ Ok (page, s1.list)) level (first.walk told) in
    let told1 = told_on b s s1 first.began first.count told in
    let lies1 = on b s s1 first.began first.count (λ d m. BeforeLies (pages_of (b.content d)) m nodes) lies in
    let long : 1 ≤ length path = Prim.omega (arith, depth, c.requires) in
    let are = second.befores told1 nodes path lies1 long at in
    let told2 = told_on b s1 s2 second.began second.count told1 in
    let lies2 = on b s1 s2 second.began second.count (λ d m. BeforeLies (pages_of (b.content d)) m nodes) lies1 in
    let past = is_past b c.pages_below.new.survey.store in
    let shown = c.pages_below.ensures.walk told2 nodes path lies2 depth are in
    let shown1 = back b s1 s2 second.began second.count
    (λ d m. ShowsNone {X = List Node} past c.pages_below.result (pages_below (record { content = b.content d; count = m }) nodes c.args.depth n path c.page.inside.refs s2.list) c.pages_below.new.survey.list) shown in
    let shown0 = back b s s1 first.began first.count
    (λ d m. ShowsNone {X = List Node} past c.pages_below.result (pages_below (record { content = b.content d; count = m }) nodes c.args.depth n path c.page.inside.refs s2.list) c.pages_below.new.survey.list) shown1 in
    own_shown blocks (pages_below blocks nodes c.args.depth) past c.args.namer path reference n page s.list s1.list c.pages_below.new.survey.list c.pages_below.result here
    (subst (λ (refs : List ReferenceValue). ShowsNone {X = List Node} past c.pages_below.result (pages_below blocks nodes c.args.depth n path refs s1.list) c.pages_below.new.survey.list) (ap (λ v. v.refs) c.page.view_is)
    (subst (λ (places : List ℕ). ShowsNone {X = List Node} past c.pages_below.result (pages_below blocks nodes c.args.depth n path c.page.inside.refs places) c.pages_below.new.survey.list) second.list shown0))
