use Rattle.std.proofs.Common.{◌≡◌, ℕ, List, [], Result, Ok, Err, refl, sym, ap, subst, ◌∙◌}
use Rattle.std.proofs.lemmas.Result.{err_from_is_err_and}
use Rattle.page_codec.specs.Values.{PageValue}
use Rattle.store_model.specs.Walk.{Blocks, Refused}
use Rattle.store_model.specs.Laws.{pages_of}
use Rattle.store_check.proofs.ReadOnly.{read_on}
use Rattle.store_check.specs.declared.refused.WalkRefused.{WalkRefused}
use Rattle.tree_listing.specs.Listing.{EachBelow, EachBelowSlots, IsOpen, blocks_of}
use Rattle.tree_listing.specs.FirstFault.{root_in}
use Rattle.tree_listing.specs.Walk.{IsRising, Lists, pages_from}
use Rattle.tree_listing.proofs.Decoding.{each_slot, has_content, root_reads}
use Rattle.tree_listing.proofs.Held.{walked_root}
use Rattle.tree_listing.proofs.Faults.{first_fault}
use Rattle.tree_listing.proofs.Moving.{cause_is, each_below_on, each_open_on, gives_exit, lists_bad, lists_lines, lists_text, no_cause, same_blocks, stopped_since, unread_since, version_is, version_stops}
use Rattle.tree_listing.proofs.listing.list_tree.Goals as goal

ok_is : {x y : PageValue} → (let r : Result PageValue Refused = Ok x in r) ≡ Ok y → x ≡ y
ok_is h = cc

pub returns-in_err-page-clause-text : goal.returns-in_err-page-clause-text
returns-in_err-page-clause-text g c = λ told tree holds readable.
    let b = g.B.Blocks in
    let blocks = blocks_of b.content b.size c.args.store.now in
    let p = err_from_is_err_and c.from_residual.result c.from_residual.ensures.1 in
    let stop = c.in_err-page.field-0.0 in
    let walked = walked_root blocks c.args.root tree holds readable.low in
    gives_exit _ c.from_residual.result stop (p.1 ∙ ap Err p.2)
    (no_cause stop (root_in blocks c.args.root) walked.page (c.in_err-page.ensures.found told (readable.settled_each [] c.args.root refl)) walked.read)

pub returns-in_err-page-clause-bad : goal.returns-in_err-page-clause-bad
returns-in_err-page-clause-bad g c = λ told each block why is.
    let b = g.B.Blocks in
    let blocks = blocks_of b.content b.size c.args.store.now in
    let p = err_from_is_err_and c.from_residual.result c.from_residual.ensures.1 in
    let stop = c.in_err-page.field-0.0 in
    first_fault blocks c.args.root (record { block = block; why = why })
    (version_stops blocks c.args.root (record { block = block; why = why })
    (cause_is stop c.from_residual.result (root_in blocks c.args.root) block why (p.1 ∙ ap Err p.2) is (c.in_err-page.ensures.found told (each [] c.args.root refl))))

pub returns-in_err-page-clause-stopped : goal.returns-in_err-page-clause-stopped
returns-in_err-page-clause-stopped g c = λ told tree holds readable h is.
    let b = g.B.Blocks in
    let s = c.args.store.now in
    let p = err_from_is_err_and c.from_residual.result c.from_residual.ensures.1 in
    let one : c.in_err-page.field-0.0 ≡ WalkRefused.ReadFault h = cc in
    let page = holds.page [] c.args.root refl in
    c.in_err-page.ensures.stopped told
    (record { settled_here = readable.settled_each [] c.args.root refl; some = has_content (b.content s) c.args.root page.0 page.1 }) h (ap Err one)

pub returns-clause-only : goal.returns-clause-only
returns-clause-only g c =
    let b = g.B.Blocks in
    read_on b c.args.store.now c.root_in.new.store c.list_page.new.store
    c.in_ok-page.ensures.only c.list_page.ensures.only

pub returns-clause-lines : goal.returns-clause-lines
returns-clause-lines g c =
    let b = g.B.Blocks in
    lists_lines _ c.args.out.now.items c.list_page.new.out.items c.list_page.result _
    (subst (λ (q : List ℕ). Lists IsRising (b.tells × EachBelowSlots (b.settled c.root_in.new.store) (pages_of (b.content c.root_in.new.store)) c.in_ok-page.page.refs) q c.args.out.now.items c.list_page.new.out.items
    c.list_page.result (pages_from (blocks_of b.content b.size c.root_in.new.store) 7 c.args.root c.in_ok-page.page)) c.root.ensures c.list_page.ensures.lists)

pub returns-clause-text : goal.returns-clause-text
returns-clause-text g c = λ told tree holds readable.
    let b = g.B.Blocks in
    let s = c.args.store.now in
    let s1 = c.root_in.new.store in
    let root = c.args.root in
    let page = c.in_ok-page.page in
    let first = c.in_ok-page.ensures in
    let walked = walked_root (blocks_of b.content b.size s) root tree holds readable.low in
    let found : root_in (blocks_of b.content b.size s) root ≡ Ok page = first.found told (readable.settled_each [] root refl) in
    let one : walked.page ≡ page = ok_is (sym walked.read ∙ found) in
    let same = same_blocks b s s1 first.only told in
    let lists = subst (λ (q : List ℕ). Lists IsRising (b.tells × EachBelowSlots (b.settled s1) (pages_of (b.content s1)) page.refs) q c.args.out.now.items c.list_page.new.out.items
    c.list_page.result (pages_from (blocks_of b.content b.size s1) 7 root page)) c.root.ensures c.list_page.ensures.lists in
    lists_text _ c.args.out.now.items c.list_page.new.out.items c.list_page.result (pages_from (blocks_of b.content b.size s1) 7 root page) tree lists (
      told,
      λ slot m named. each_below_on b s s1 first.only told m
          (each_slot (b.settled s) (pages_of (b.content s)) root page (root_reads (blocks_of b.content b.size s) root page found) readable.settled_each slot m named),
    )
    (ap (λ (bs : Blocks). pages_from bs 7 root page) same ∙ ap (pages_from (blocks_of b.content b.size s) 7 root) (sym one) ∙ walked.pages)

pub returns-clause-bad : goal.returns-clause-bad
returns-clause-bad g c = λ told each block why is.
    let b = g.B.Blocks in
    let s = c.args.store.now in
    let s1 = c.root_in.new.store in
    let root = c.args.root in
    let page = c.in_ok-page.page in
    let first = c.in_ok-page.ensures in
    let found : root_in (blocks_of b.content b.size s) root ≡ Ok page = first.found told (each [] root refl) in
    let same = same_blocks b s s1 first.only told in
    first_fault (blocks_of b.content b.size s) root (record { block = block; why = why })
    (version_is (blocks_of b.content b.size s) root page found
    ∙ ap (λ (bs : Blocks). pages_from bs 7 root page) (sym same)
    ∙ lists_bad _ _ c.args.out.now.items c.list_page.new.out.items c.list_page.result (pages_from (blocks_of b.content b.size s1) 7 root page) block why c.list_page.ensures.lists (
      told,
      λ slot m named. each_below_on b s s1 first.only told m
          (each_slot (b.settled s) (pages_of (b.content s)) root page (root_reads (blocks_of b.content b.size s) root page found) each slot m named),
    )
    is)

pub returns-clause-stopped : goal.returns-clause-stopped
returns-clause-stopped g c = λ told tree holds readable h is.
    let b = g.B.Blocks in
    let s = c.args.store.now in
    let s1 = c.root_in.new.store in
    let root = c.args.root in
    let page = c.in_ok-page.page in
    let first = c.in_ok-page.ensures in
    let found : root_in (blocks_of b.content b.size s) root ≡ Ok page = first.found told (readable.settled_each [] root refl) in
    let each_open : EachBelow (IsOpen (b.settled s) (b.content s)) (pages_of (b.content s)) root = λ path n e.
    let x = holds.page path n e in record { settled_here = readable.settled_each path n e; some = has_content (b.content s) n x.0 x.1 } in
    stopped_since b s s1 c.list_page.new.store h first.only
    (c.list_page.ensures.stopped told
    (λ slot m named. each_open_on b s s1 first.only told m
    (each_slot (IsOpen (b.settled s) (b.content s)) (pages_of (b.content s)) root page (root_reads (blocks_of b.content b.size s) root page found) each_open slot m named))
    h is)

pub returns-clause-unread : goal.returns-clause-unread
returns-clause-unread g c = λ h is.
    let b = g.B.Blocks in
    unread_since b c.args.store.now c.root_in.new.store c.list_page.new.store h
    c.in_ok-page.ensures.only (c.list_page.ensures.unread h is)
