use Rattle.std.proofs.Common.{◌≡◌, ◌+◌, List, [], ◌∷◌, ◌++◌, Option, take, take_all, ap, subst, sym, ◌∙◌, arith}
use Rattle.std.specs.FinSet as set
use Rattle.std.proofs.lemmas.List.{take_more}
use Rattle.tree_model.specs.Accesses.{Place, IsClash}
use Rattle.tree_model.specs.Gathered.{Accessed, least_with}
use Rattle.tree_model.proofs.Gathering.{clash_none, clash_more}
use Rattle.tree_model.proofs.access.first_clash.Goals as goal

pub loop-place-init : goal.loop-place-init
loop-place-init c = clash_none c.visible.inside.writes.items

pub loop-place-preserved : goal.loop-place-preserved
loop-place-preserved c =
    let items = c.deref-place-items.result.now in
    let i = c.loop-place.place-index in
    let writes = c.visible.inside.writes.items in
    let x = c.place-item.result in
    let front : take (i + 1) items ≡ take i items ++ x ∷ [] =
    take_more items i x c.loop-place-test.true ∙ ap (λ (y : Place). take i items ++ y ∷ []) (sym c.place-item.is) in
    let least : c.least_with_place-least.result ≡ least_with writes c.loop-place.least x =
    c.least_with_place-least.ensures ∙ ap (λ (ys : List Place). least_with ys c.loop-place.least x) c.deref.ensures.value in
    let F : List Place → Type 0 = λ xs. IsClash (set.from_list xs) (set.from_list writes) c.least_with_place-least.result in
    let G : Option Place → Type 0 = λ o. IsClash (set.from_list (take i items ++ x ∷ [])) (set.from_list writes) o in
    subst F (sym front) (subst G (sym least) (clash_more (take i items) writes x c.loop-place.least c.loop-place.invariant))

pub returns : goal.returns
returns c =
    let items = c.deref-place-items.result.now in
    let all : take c.loop-place.place-index items ≡ c.args.mine.now.reads =
    take_all c.loop-place.place-index items (omega arith) ∙ c.deref-place-items.ensures.value ∙ ap (λ (a : Accessed). a.reads) c.mine.view_is in
    let writes : c.visible.inside.writes.items ≡ c.args.visible.now.writes = ap (λ (a : Accessed). a.writes) c.visible.view_is in
    let F : List Place → Type 0 = λ xs. IsClash (set.from_list xs) (set.from_list c.visible.inside.writes.items) c.loop-place.least in
    let G : List Place → Type 0 = λ ys. IsClash (set.from_list c.args.mine.now.reads) (set.from_list ys) c.loop-place.least in
    subst G writes (subst F all c.loop-place.invariant)
