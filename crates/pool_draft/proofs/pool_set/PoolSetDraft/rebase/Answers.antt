use Rattle.std.proofs.Common.{◌≡◌, ℕ, List, filter, length, ap, subst, sym, ◌∙◌, arith}
use Rattle.std.proofs.Math.ListN.{length-set}
use Rattle.draft_model.specs.Entries.{Entry, shown}
use Rattle.draft_model.proofs.Entries.{IsInOrder, order_rising}
use Rattle.draft_tree.specs.Drafts.{accessed_pages}
use Rattle.draft_tree.specs.Pages.{is_kept}
use Rattle.draft_tree.proofs.Kept.{top_same, levels_same}
use Rattle.draft_tree.proofs.Letting.{shown_kept, length_kept, levels_accessed}
use Rattle.pool_draft.specs.Held.{Held, picked_tree}
use Rattle.pool_draft.specs.Roots.{AreDrafts, root_in, object_in, serial_in}
use Rattle.pool_draft.proofs.Keeping.{order_kept}
use Rattle.pool_draft.proofs.Roots.{drafts_after, base_put, others_put}
use Rattle.pool_draft.proofs.pool_set.PoolSetDraft.rebase.Goals as goal

shows : (h j : Held) → picked_tree j ≡ filter (λ e. is_kept e.0 e.1) (picked_tree h) → IsInOrder (picked_tree h)
    → (p : List ℕ) → shown (picked_tree j) p ≡ accessed_pages (shown (picked_tree h)) p
shows h j tree order p = ap (λ (es : List Entry). shown es p) tree ∙ shown_kept (picked_tree h) order p

pub invariant_of-self-clause-drafts : goal.invariant_of-self-clause-drafts
invariant_of-self-clause-drafts c =
    let s = c.args.self.now in
    let j = c.keep_accessed.new.self in
    let d = shown (picked_tree s.pages) in
    let ready = c.requires.ready in
    let O : List Entry → Type 0 = λ es. IsInOrder es in
    let order : IsInOrder (picked_tree j) = subst O (sym c.keep_accessed.ensures.tree) (order_kept (λ (e : Entry). is_kept e.0 e.1) (picked_tree s.pages) c.keep_accessed.ensures.ordered) in
    let D : ℕ → Type 0 = λ n. AreDrafts j n s.count s.fed in
    let many : length s.bases.items ≡ length c.set_base.new.bases.items = sym (ap length c.set_base.ensures ∙ length-set s.bases.items c.picked-number.result _) in
    subst D many
    (drafts_after s.pages j (length s.bases.items) s.count s.fed s.count s.fed 0 s.drafts ready c.keep_accessed.ensures.others
    (order_rising (picked_tree j) order)
    (top_same (accessed_pages d) (shown (picked_tree j)) (shows s.pages j c.keep_accessed.ensures.tree c.keep_accessed.ensures.ordered) (s.drafts.top s.pages.root ready))
    (levels_same (accessed_pages d) (shown (picked_tree j)) (shows s.pages j c.keep_accessed.ensures.tree c.keep_accessed.ensures.ordered) (levels_accessed d (s.drafts.levels s.pages.root ready)))
    (omega (arith, ap length c.keep_accessed.ensures.tree, length_kept (picked_tree s.pages))) (omega arith))

pub returns-clause-root : goal.returns-clause-root
returns-clause-root c =
    let s = c.args.self.now in
    ap root_in (base_put s.bases.items _ _ _ s.pages c.keep_accessed.new.self c.set_base.ensures c.picked-number.ensures c.keep_accessed.ensures.others c.requires.ready)

pub returns-clause-serial : goal.returns-clause-serial
returns-clause-serial c =
    let s = c.args.self.now in
    ap serial_in (base_put s.bases.items _ _ _ s.pages c.keep_accessed.new.self c.set_base.ensures c.picked-number.ensures c.keep_accessed.ensures.others c.requires.ready)

pub returns-clause-object : goal.returns-clause-object
returns-clause-object c =
    let s = c.args.self.now in
    ap object_in (base_put s.bases.items _ _ _ s.pages c.keep_accessed.new.self c.set_base.ensures c.picked-number.ensures c.keep_accessed.ensures.others c.requires.ready)
    ∙ c.object-object.ensures.value

pub returns-clause-view : goal.returns-clause-view
returns-clause-view c = λ i p. shows c.args.self.now.pages c.keep_accessed.new.self c.keep_accessed.ensures.tree c.keep_accessed.ensures.ordered p i

pub returns-clause-rest : goal.returns-clause-rest
returns-clause-rest c =
    let s = c.args.self.now in
    others_put s.bases.items _ _ _ s.pages c.keep_accessed.new.self c.set_base.ensures c.picked-number.ensures c.keep_accessed.ensures.others
