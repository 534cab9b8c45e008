-- What was written at or below a path, found by looking on from a row.
use Rattle.std.proofs.Common.{◌≡◌, ℕ, zero, suc, true, false, ◌&&◌, ◌||◌, List, [], ◌∷◌, drop, refl, sym, ap, ◌∙◌, Some}
use Rattle.std.specs.Prelude.{slice_get}
use Rattle.std.specs.Map.{keys_of}
use Rattle.std.specs.Ordering.{is_le, ordering_reverse}
use Rattle.std.specs.declared.cmp.Ordering.{Ordering}
use Rattle.std.specs.declared.cmp.Ordering.TheVariants.{Less, Equal, Greater}
use Rattle.afs_base.specs.Path.{path_cmp, is_prefix}
use Rattle.tree_model.proofs.Paths.{never, false_if, path_total}
use Rattle.draft_model.specs.Entries.{Entry, is_written, is_touched}
use Rattle.draft_model.proofs.Entries.{IsInOrder, order_head, order_tail, found_after}
use Rattle.draft_model.proofs.Facts.{and_false}
use Rattle.draft_tree.proofs.Fresh.{prefix_le, none_later}
use Rattle.pool_draft.specs.Seeking.{AreBefore}
use Rattle.pool_draft.proofs.Entries.{found_shown}

-- a path before this one is not below it
not_before : (key p : List ℕ) → path_cmp p key ≡ Less → is_prefix key p ≡ false
not_before key p less = false_if (is_prefix key p) (λ on. sym (ap is_le (path_total.antisymm key p ∙ ap ordering_reverse less)) ∙ prefix_le key p on)

-- nothing is below a path among the entries before it
pub touched_drop : (es : List Entry) (i : ℕ) (key : List ℕ) → AreBefore key (keys_of es) i → is_touched (drop i es) key ≡ is_touched es key
touched_drop es zero key before = refl
touched_drop [] (suc i) key before = absurd before
touched_drop (e ∷ es) (suc i) key before =
    touched_drop es i key before.1
    ∙ sym (ap (λ b. (b && is_written e.1) || is_touched es key) (not_before key e.0 before.0))

-- ---- looking on from a place

-- the entry at a place is not before the path
abbrev pub IsFrom : List ℕ → List Entry → ℕ → Type 0
IsFrom key es i = (e : Entry) → slice_get es i ≡ Some e → is_le (path_cmp key e.0) ≡ true

entry_is : (x y : Entry) → Some x ≡ Some y → x ≡ y
entry_is x y h = cc h

pub drop_entry : (es : List Entry) (i : ℕ) (e : Entry) → slice_get es i ≡ Some e → drop i es ≡ e ∷ drop (suc i) es
drop_entry [] i e at = absurd (cc at)
drop_entry (x ∷ es) zero e at = ap (λ (y : Entry). y ∷ es) (entry_is x e at)
drop_entry (x ∷ es) (suc i) e at = drop_entry es i e at

-- the entry at a place is not below the path: no later one is
pub stop_here : (es : List Entry) (i : ℕ) (e : Entry) (key : List ℕ) → IsInOrder es → slice_get es i ≡ Some e → is_le (path_cmp key e.0) ≡ true
    → is_prefix key e.0 ≡ false → is_touched (drop i es) key ≡ false
stop_here [] i e key order at le off = absurd (cc at)
stop_here (x ∷ es) zero e key order at le off =
    let is : x.0 ≡ e.0 = ap (λ (y : Entry). y.0) (entry_is x e at) in
    (λ j. ((ap (is_prefix key) is ∙ off) j && is_written x.1) || none_later key x.0 es (ap (λ p. is_le (path_cmp key p)) is ∙ le) (ap (is_prefix key) is ∙ off) (order_head x es order) j)
stop_here (x ∷ es) (suc i) e key order at le off = stop_here es i e key (order_tail x es order) at le off

next_after : (es : List Entry) (i : ℕ) (e f : Entry) → IsInOrder es → slice_get es i ≡ Some e → slice_get es (suc i) ≡ Some f → path_cmp e.0 f.0 ≡ Less
next_after [] i e f order at next = absurd (cc at)
next_after (x ∷ es) zero e f order at next =
    let first = found_after x.0 es (order_head x es order) f.0 f.1 (found_shown es 0 f (order_tail x es order) next) in
    ap (λ (y : Entry). path_cmp y.0 f.0) (sym (entry_is x e at)) ∙ first
next_after (x ∷ es) (suc i) e f order at next = next_after es i e f (order_tail x es order) at next

le_then_lt : (a e x : List ℕ) → is_le (path_cmp a e) ≡ true → path_cmp e x ≡ Less → is_le (path_cmp a x) ≡ true
le_then_lt a e x le lt = by (path_cmp a e) refl
  where
    by : (o : Ordering) → path_cmp a e ≡ o → is_le (path_cmp a x) ≡ true
    by Less g = ap is_le (path_total.trans a e x g lt)
    by Equal g = ap is_le (path_total.congr a e x g ∙ lt)
    by Greater g = never le (ap is_le g)

-- it is, so the next one is not before the path either
pub go_on : (es : List Entry) (i : ℕ) (e : Entry) (key : List ℕ) → IsInOrder es → slice_get es i ≡ Some e → is_prefix key e.0 ≡ true → IsFrom key es (suc i)
go_on es i e key order at on f next = le_then_lt key e.0 f.0 (prefix_le key e.0 on) (next_after es i e f order at next)

-- .. and it was not written
pub skip_one : (es : List Entry) (i : ℕ) (e : Entry) (key : List ℕ) → slice_get es i ≡ Some e → is_written e.1 ≡ false → is_touched (drop (suc i) es) key ≡ is_touched (drop i es) key
skip_one es i e key at stale =
    sym (ap (λ xs. is_touched xs key) (drop_entry es i e at) ∙ ap (λ b. (is_prefix key e.0 && b) || is_touched (drop (suc i) es) key) stale
    ∙ ap (λ b. b || is_touched (drop (suc i) es) key) (and_false (is_prefix key e.0)))

-- .. or it was
pub found_one : (es : List Entry) (i : ℕ) (e : Entry) (key : List ℕ) → slice_get es i ≡ Some e → is_prefix key e.0 ≡ true → is_written e.1 ≡ true → is_touched (drop i es) key ≡ true
found_one es i e key at on fresh =
    ap (λ xs. is_touched xs key) (drop_entry es i e at) ∙ (λ j. (on j && fresh j) || is_touched (drop (suc i) es) key)
