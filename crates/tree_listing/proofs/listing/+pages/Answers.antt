use Rattle.std.proofs.Common.{◌≡◌, ◌-◌, ◌<◌, ◌≤◌, ◌++◌, ◌∷◌, [], ℕ, List, Option, Result, Ok, Err, Some, refl, sym, ap, subst, ◌∙◌, length, arith, get_or, map}
use Rattle.std.proofs.lemmas.Result.{err_from_is_err_and}
use Rattle.page_codec.specs.Values.{PageValue, ReferenceValue}
use Rattle.store_model.specs.Walk.{Blocks}
use Rattle.store_model.specs.Laws.{pages_of}
use Rattle.store_check.proofs.ReadOnly.{none_read, read_on}
use Rattle.store_check.specs.declared.refused.WalkRefused.{WalkRefused}
use Rattle.tree_listing.specs.TreeText.{page_line}
use Rattle.tree_listing.specs.Listing.{EachBelow, EachBelowSlots, IsOpen, blocks_of}
use Rattle.tree_listing.specs.FirstFault.{and_then, page_named}
use Rattle.tree_listing.specs.Results.{Stops}
use Rattle.tree_listing.specs.Walk.{AreBelow, AreUnder, Entry, IsRising, Lists, pages_from, pages_named, slot_pages, slots_pages, under}
use Rattle.tree_listing.proofs.Decoding.{each_slot, named_reads}
use Rattle.tree_listing.proofs.Moving.{each_below_on, each_open_on, grows_none, grows_on, leaf_is, lists_as, lists_exit, lists_first, lists_leaf, lists_slot, page_is, same_blocks, slot_names, slots_begin, slots_end, slots_on, slots_refused, stopped_since, stops_on, unread_since}
use Rattle.tree_listing.proofs.listing.+pages.Goals as goal

-- ---- a page

pub list_page-returns-in_err-append_line-clause-only :
    goal.list_page-returns-in_err-append_line-clause-only
list_page-returns-in_err-append_line-clause-only g t c =
    let b = g.B.Blocks in
    none_read b c.args.store.now (g.met.B.Blocks.clock c.args.store.now)

pub list_page-returns-then-depth-eq0-clause-only :
    goal.list_page-returns-then-depth-eq0-clause-only
list_page-returns-then-depth-eq0-clause-only g t c =
    let b = g.B.Blocks in
    none_read b c.args.store.now (g.met.B.Blocks.clock c.args.store.now)

pub list_page-returns-then-depth-eq0-clause-lists :
    goal.list_page-returns-then-depth-eq0-clause-lists
list_page-returns-then-depth-eq0-clause-lists g t c =
    let b = g.B.Blocks in
    let page = c.args.page.now in
    let line = c.in_ok-append_line.ensures.line ∙ ap (λ (bytes : List ℕ). c.args.out.now.items ++ page_line c.args.path.now bytes) (c.bytes.ensures.value ∙ ap (λ (p : PageValue). p.bytes) c.page.view_is) in
    lists_leaf _ c.args.path.now c.args.out.now.items c.append_line.new.out.items page.bytes (pages_from (blocks_of b.content b.size c.args.store.now) c.args.depth c.args.n page) line
    (leaf_is (blocks_of b.content b.size c.args.store.now) c.args.depth c.args.n page c.if-depth-eq0.true)

pub list_page-returns-clause-lists : goal.list_page-returns-clause-lists
list_page-returns-clause-lists g t c =
    let b = g.B.Blocks in
    let s = c.args.store.now in
    let blocks = blocks_of b.content b.size s in
    let page = c.args.page.now in
    let path = c.args.path.now in
    let old = c.args.out.now.items in
    let mid = c.append_line.new.out.items in
    let new = c.list_slots.new.out.items in
    let line = c.in_ok-append_line.ensures.line ∙ ap (λ (bytes : List ℕ). old ++ page_line path bytes) (c.bytes.ensures.value ∙ ap (λ (p : PageValue). p.bytes) c.page.view_is) in
    let told : Type 0 = b.tells × EachBelowSlots (b.settled s) (pages_of (b.content s)) page.refs in
    let inner = subst
    (λ (refs : List ReferenceValue). Lists (AreBelow 16) (b.tells × EachBelowSlots (b.settled s) (pages_of (b.content s)) refs) path mid new c.list_slots.result
    (slots_pages (pages_named blocks (c.args.depth - 1) c.args.n) 0 refs))
    (ap (λ (p : PageValue). p.refs) c.page.view_is) c.list_slots.ensures.lists in
    lists_as IsRising told told path old new c.list_slots.result _ (pages_from blocks c.args.depth c.args.n page) (λ x. x)
    (λ x. page_is blocks c.args.depth c.args.n page c.if-depth-eq0.false)
    (lists_first told path old mid new page.bytes c.list_slots.result (slots_pages (pages_named blocks (c.args.depth - 1) c.args.n) 0 page.refs) line inner)

pub list_page-returns-clause-stopped : goal.list_page-returns-clause-stopped
list_page-returns-clause-stopped g t c = λ told each.
    let b = g.B.Blocks in
    let s = c.args.store.now in
    c.list_slots.ensures.stopped told
    (subst (λ (refs : List ReferenceValue). EachBelowSlots (IsOpen (b.settled s) (b.content s)) (pages_of (b.content s)) refs) (sym (ap (λ (p : PageValue). p.refs) c.page.view_is)) each)

-- ---- a slot

pub list_slot-returns-in_err-page-in-Some-clause-lists :
    goal.list_slot-returns-in_err-page-in-Some-clause-lists
list_slot-returns-in_err-page-in-Some-clause-lists g t c =
    let b = g.B.Blocks in
    let s = c.args.store.now in
    let blocks = blocks_of b.content b.size s in
    let n = c.in-Some.n in
    let stop = c.in_err-page-in-Some.field-0.0 in
    let p = err_from_is_err_and c.from_residual.result c.from_residual.ensures.1 in
    let at : c.args.reference.now.block ≡ Some n = sym (ap (λ (r : ReferenceValue). r.block) c.reference.view_is) ∙ c.in-Some.is in
    lists_exit (AreUnder c.args.k) _ c.args.path.now c.args.out.now.items c.args.out.now.items c.from_residual.result stop _ (p.1 ∙ ap Err p.2)
    (λ x. stops_on stop (page_named blocks c.args.namer n (7 - c.args.depth)) _ (c.in_err-page-in-Some.ensures.found x.0 (x.1 n at [] n refl))
    (λ cause is. ap (λ o. slot_pages (pages_named blocks c.args.depth c.args.namer) c.args.k o) at
    ∙ ap (λ r. and_then (and_then r (pages_from blocks c.args.depth n)) (λ (es : List Entry). Ok (map (under c.args.k) es))) is))

pub list_slot-returns-in_err-page-in-Some-clause-stopped :
    goal.list_slot-returns-in_err-page-in-Some-clause-stopped
list_slot-returns-in_err-page-in-Some-clause-stopped g t c = λ told each h is.
    let n = c.in-Some.n in
    let p = err_from_is_err_and c.from_residual.result c.from_residual.ensures.1 in
    let at : c.args.reference.now.block ≡ Some n = sym (ap (λ (r : ReferenceValue). r.block) c.reference.view_is) ∙ c.in-Some.is in
    let one : c.in_err-page-in-Some.field-0.0 ≡ WalkRefused.ReadFault h = cc in
    c.in_err-page-in-Some.ensures.stopped told (each n at [] n refl) h (ap Err one)

pub list_slot-returns-in-None-clause-only : goal.list_slot-returns-in-None-clause-only
list_slot-returns-in-None-clause-only g t c =
    let b = g.B.Blocks in
    none_read b c.args.store.now (g.met.B.Blocks.clock c.args.store.now)

pub list_slot-returns-in_ok-page-in-Some-clause-only :
    goal.list_slot-returns-in_ok-page-in-Some-clause-only
list_slot-returns-in_ok-page-in-Some-clause-only g t c =
    let b = g.B.Blocks in
    read_on b c.args.store.now c.page_named.new.store c.list_page.new.store
    c.in_ok-page-in-Some.ensures.only c.list_page.ensures.only

pub list_slot-returns-in_ok-page-in-Some-clause-lists :
    goal.list_slot-returns-in_ok-page-in-Some-clause-lists
list_slot-returns-in_ok-page-in-Some-clause-lists g t c =
    let b = g.B.Blocks in
    let s = c.args.store.now in
    let s1 = c.page_named.new.store in
    let blocks = blocks_of b.content b.size s in
    let n = c.in-Some.n in
    let k : ℕ = c.args.k in
    let page = c.in_ok-page-in-Some.page in
    let first = c.in_ok-page-in-Some.ensures in
    let path = c.args.path.now in
    let old = c.args.out.now.items in
    let new = c.list_page.new.out.items in
    let at : c.args.reference.now.block ≡ Some n = sym (ap (λ (r : ReferenceValue). r.block) c.reference.view_is) ∙ c.in-Some.is in
    let told : Type 0 = b.tells × ((m : ℕ) → c.args.reference.now.block ≡ Some m → EachBelow (b.settled s) (pages_of (b.content s)) m) in
    let told1 : Type 0 = b.tells × EachBelowSlots (b.settled s1) (pages_of (b.content s1)) page.refs in
    let found : told → page_named blocks c.args.namer n (7 - c.args.depth) ≡ Ok page = λ x. first.found x.0 (x.1 n at [] n refl) in
    let inner = subst (λ (q : List ℕ). Lists IsRising told1 q old new c.list_page.result (pages_from (blocks_of b.content b.size s1) c.args.depth n page)) c.child_of-child.ensures c.list_page.ensures.lists in
    let here = lists_as IsRising told1 told (path ++ k ∷ []) old new c.list_page.result (pages_from (blocks_of b.content b.size s1) c.args.depth n page) (pages_named blocks c.args.depth c.args.namer n)
    (λ x. (
      x.0,
      λ slot m named. each_below_on b s s1 first.only x.0 m
          (each_slot (b.settled s) (pages_of (b.content s)) n page (named_reads blocks c.args.namer n (7 - c.args.depth) page (found x)) (x.1 n at) slot m named),
    ))
    (λ x. ap (λ (bs : Blocks). pages_from bs c.args.depth n page) (same_blocks b s s1 first.only x.0)
    ∙ sym (ap (λ r. and_then r (pages_from blocks c.args.depth n)) (found x)))
    inner in
    subst (λ (o : Option ℕ). Lists (AreUnder k) told path old new c.list_page.result (slot_pages (pages_named blocks c.args.depth c.args.namer) k o)) (sym at)
    (lists_slot told path old new k c.list_page.result (pages_named blocks c.args.depth c.args.namer n) here)

pub list_slot-returns-in_ok-page-in-Some-clause-stopped :
    goal.list_slot-returns-in_ok-page-in-Some-clause-stopped
list_slot-returns-in_ok-page-in-Some-clause-stopped g t c = λ told each h is.
    let b = g.B.Blocks in
    let s = c.args.store.now in
    let s1 = c.page_named.new.store in
    let blocks = blocks_of b.content b.size s in
    let n = c.in-Some.n in
    let page = c.in_ok-page-in-Some.page in
    let first = c.in_ok-page-in-Some.ensures in
    let at : c.args.reference.now.block ≡ Some n = sym (ap (λ (r : ReferenceValue). r.block) c.reference.view_is) ∙ c.in-Some.is in
    let here = each n at [] n refl in
    let reads = named_reads blocks c.args.namer n (7 - c.args.depth) page (first.found told here.settled_here) in
    stopped_since b s s1 c.list_page.new.store h first.only
    (c.list_page.ensures.stopped told
    (λ slot m named. each_open_on b s s1 first.only told m
    (each_slot (IsOpen (b.settled s) (b.content s)) (pages_of (b.content s)) n page reads (each n at) slot m named))
    h is)

pub list_slot-returns-in_ok-page-in-Some-clause-unread :
    goal.list_slot-returns-in_ok-page-in-Some-clause-unread
list_slot-returns-in_ok-page-in-Some-clause-unread g t c = λ h is.
    let b = g.B.Blocks in
    unread_since b c.args.store.now c.page_named.new.store c.list_page.new.store h
    c.in_ok-page-in-Some.ensures.only (c.list_page.ensures.unread h is)

-- ---- all slots

pub list_slots-slots-init : goal.list_slots-slots-init
list_slots-slots-init g t c =
    let b = g.B.Blocks in record {
      only = none_read b c.args.store.now (g.met.B.Blocks.clock c.args.store.now);
      grows = grows_none c.args.out.now.items;
      far = slots_begin _ _ c.args.refs.now c.args.path.now c.args.out.now.items;
    }

pub list_slots-returns-in_err-list_slot-clause-only :
    goal.list_slots-returns-in_err-list_slot-clause-only
list_slots-returns-in_err-list_slot-clause-only g t c =
    let b = g.B.Blocks in
    read_on b c.args.store.now c.slots.store c.list_slot.new.store
    c.slots.invariant.only c.in_err-list_slot.ensures.only

pub list_slots-returns-in_err-list_slot-clause-lists :
    goal.list_slots-returns-in_err-list_slot-clause-lists
list_slots-returns-in_err-list_slot-clause-lists g t c =
    let b = g.B.Blocks in
    let i = c.slots.invariant in
    let s = c.args.store.now in
    let k : ℕ = c.slots.k in
    let other = c.index-refs-k.result in
    let refs = c.args.refs.now in
    let stop = c.in_err-list_slot.field-0.0 in
    let p = err_from_is_err_and c.from_residual.result c.from_residual.ensures.1 in
    let low : k < length refs = Prim.omega (arith, c.type_inv.refs, c.slots-test.true) in
    lists_exit (AreBelow 16) _ c.args.path.now c.args.out.now.items c.list_slot.new.out.items c.from_residual.result stop _ (p.1 ∙ ap Err p.2)
    (slots_refused _ (pages_named (blocks_of b.content b.size s) c.args.depth c.args.namer) refs c.args.path.now c.args.out.now.items c.slots.out.items k other stop low i.far
    (λ x. subst (λ (bs : Blocks). Stops stop (slot_pages (pages_named bs c.args.depth c.args.namer) k (get_or refs k other).block))
    (same_blocks b s c.slots.store i.only x.0)
    (c.in_err-list_slot.ensures.lists (
      x.0,
      λ m e. each_below_on b s c.slots.store i.only x.0 m
          (x.1 k m (slot_names refs k other m low e)),
    ))))

pub list_slots-returns-in_err-list_slot-clause-stopped :
    goal.list_slots-returns-in_err-list_slot-clause-stopped
list_slots-returns-in_err-list_slot-clause-stopped g t c = λ told each h is.
    let b = g.B.Blocks in
    let i = c.slots.invariant in
    let s = c.args.store.now in
    let k : ℕ = c.slots.k in
    let other = c.index-refs-k.result in
    let refs = c.args.refs.now in
    let p = err_from_is_err_and c.from_residual.result c.from_residual.ensures.1 in
    let low : k < length refs = Prim.omega (arith, c.type_inv.refs, c.slots-test.true) in
    let one : c.in_err-list_slot.field-0.0 ≡ WalkRefused.ReadFault h = cc in
    stopped_since b s c.slots.store c.list_slot.new.store h i.only
    (c.in_err-list_slot.ensures.stopped told
    (λ m e. each_open_on b s c.slots.store i.only told m (each k m (slot_names refs k other m low e)))
    h (ap Err one))

pub list_slots-returns-in_err-list_slot-clause-unread :
    goal.list_slots-returns-in_err-list_slot-clause-unread
list_slots-returns-in_err-list_slot-clause-unread g t c = λ h is.
    let b = g.B.Blocks in
    let p = err_from_is_err_and c.from_residual.result c.from_residual.ensures.1 in
    let one : c.in_err-list_slot.field-0.0 ≡ WalkRefused.ReadFault h = cc in
    unread_since b c.args.store.now c.slots.store c.list_slot.new.store h
    c.slots.invariant.only (c.in_err-list_slot.ensures.unread h (ap Err one))

pub list_slots-slots-preserved : goal.list_slots-slots-preserved
list_slots-slots-preserved g t c =
    let b = g.B.Blocks in
    let i = c.slots.invariant in
    let s = c.args.store.now in
    let k : ℕ = c.slots.k in
    let other = c.index-refs-k.result in
    let refs = c.args.refs.now in
    let low : k < length refs = Prim.omega (arith, c.type_inv.refs, c.slots-test.true) in
    let told : Type 0 = b.tells × EachBelowSlots (b.settled s) (pages_of (b.content s)) refs in
    let one : Result (Unit {0}) WalkRefused = Ok tt in
    let here = lists_as {X = Unit {0}} (AreUnder k) _ told c.args.path.now c.slots.out.items c.list_slot.new.out.items one
    (slot_pages (pages_named (blocks_of b.content b.size c.slots.store) c.args.depth c.args.namer) k (get_or refs k other).block)
    (slot_pages (pages_named (blocks_of b.content b.size s) c.args.depth c.args.namer) k (get_or refs k other).block)
    (λ x. (
      x.0,
      λ m e. each_below_on b s c.slots.store i.only x.0 m
          (x.1 k m (slot_names refs k other m low e)),
    ))
    (λ x. ap (λ (bs : Blocks). slot_pages (pages_named bs c.args.depth c.args.namer) k (get_or refs k other).block)
    (same_blocks b s c.slots.store i.only x.0))
    c.in_ok-list_slot.ensures.lists in
    record {
      only = read_on b s c.slots.store c.list_slot.new.store i.only c.in_ok-list_slot.ensures.only;
      grows = grows_on c.args.out.now.items c.slots.out.items c.list_slot.new.out.items i.grows c.in_ok-list_slot.ensures.grows;
      far = slots_on {X = Unit {0}} told (pages_named (blocks_of b.content b.size s) c.args.depth c.args.namer) refs c.args.path.now c.args.out.now.items c.slots.out.items c.list_slot.new.out.items k other one tt low
          i.far refl here;
    }

pub list_slots-returns-clause-lists : goal.list_slots-returns-clause-lists
list_slots-returns-clause-lists g t c =
    let b = g.B.Blocks in
    let refs = c.args.refs.now in
    let k : ℕ = c.slots.k in
    let past : length refs ≤ k = Prim.omega (arith, c.told-refs, c.slots-test.false) in
    let all : k ≡ 16 = Prim.omega (arith, c.slots.auto.k-end, c.slots-test.false) in
    slots_end _ (pages_named (blocks_of b.content b.size c.args.store.now) c.args.depth c.args.namer) refs c.args.path.now c.args.out.now.items c.slots.out.items k past all c.slots.invariant.far
