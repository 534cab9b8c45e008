-- Entries in order: what stands at a place, and what a change at a place shows.
use Rattle.std.proofs.Common.{◌≡◌, ℕ, zero, suc, true, false, cond, List, [], ◌∷◌, ◌⊎◌, inl, inr, refl, sym, ap, ◌∙◌, Option, Some, None, slice_set}
use Rattle.std.specs.Prelude.{slice_get}
use Rattle.std.specs.List.{insert}
use Rattle.std.specs.List.Sorted.{IsStrictlySortedBy}
use Rattle.std.specs.Map.{keys_of}
use Rattle.std.specs.declared.cmp.Ordering.TheVariants.{Less}
use Rattle.afs_base.specs.Path.{path_cmp}
use Rattle.tree_model.proofs.Paths.{told, never, path_total, same_self, same_is}
use Rattle.page_places.specs.Places.{same}
use Rattle.draft_model.specs.Views.{Copied}
use Rattle.draft_model.specs.Entries.{Entry, shown}
use Rattle.draft_model.proofs.Entries.{IsInOrder, AllAfter, order_head, order_tail, found_after, less_apart, same_sym}
use Rattle.pool_draft.specs.Seeking.{AreBefore, IsBehind}

some_is : {A : Type 0} (x y : A) → Some x ≡ Some y → x ≡ y
some_is x y e = cc e

-- what stands at a place is shown
pub found_shown : (es : List Entry) (i : ℕ) (e : Entry) → IsInOrder es → slice_get es i ≡ Some e → shown es e.0 ≡ Some e.1
found_shown [] i e order at = absurd (cc at)
found_shown (x ∷ es) zero e order at =
    let is : x ≡ e = some_is x e at in
    (λ j. cond (same e.0 (is j).0) (Some (is j).1) (shown es e.0)) ∙ ap (λ b. cond b (Some e.1) (shown es e.0)) (same_self e.0)
found_shown (x ∷ es) (suc i) e order at =
    let rest = found_shown es i e (order_tail x es order) at in
    ap (λ b. cond b (Some x.1) (shown es e.0)) (less_apart x.0 e.0 (found_after x.0 es (order_head x es order) e.0 e.1 rest)) ∙ rest

-- what is behind all that follow is not among them
none_before : (key : List ℕ) (es : List Entry) → AllAfter key es → shown es key ≡ None
none_before key es after = by (shown es key) refl
  where
    by : (o : Option Copied) → shown es key ≡ o → o ≡ None
    by None h = refl
    by (Some c) h = never (same_self key) (less_apart key key (found_after key es after key c h))

all_behind : (key p : List ℕ) (es : List Entry) → path_cmp key p ≡ Less → AllAfter p es → AllAfter key es
all_behind key p [] less after = tt
all_behind key p (e ∷ es) less after = (path_total.trans key p e.0 less after.0, all_behind key p es less after.1)

apart_before : (p key : List ℕ) → path_cmp p key ≡ Less → same key p ≡ false
apart_before p key h = less_apart p key h

-- at a gap no page is shown
pub gap_shown : (es : List Entry) (i : ℕ) (key : List ℕ) → IsInOrder es → AreBefore key (keys_of es) i → IsBehind key (keys_of es) i → shown es key ≡ None
gap_shown [] i key order before behind = refl
gap_shown (e ∷ es) zero key order before behind =
    none_before key (e ∷ es) (behind, all_behind key e.0 es behind (order_head e es order))
gap_shown (e ∷ es) (suc i) key order before behind =
    ap (λ b. cond b (Some e.1) (shown es key)) (apart_before e.0 key before.0)
    ∙ gap_shown es i key (order_tail e es order) before.1 behind

-- a page that is put into a gap
pub put_shown : (es : List Entry) (i : ℕ) (key : List ℕ) (c : Copied) → AreBefore key (keys_of es) i
    → (p : List ℕ) → shown (insert es i (key, c)) p ≡ cond (same p key) (Some c) (shown es p)
put_shown es zero key c before p = refl
put_shown [] (suc i) key c before p = absurd before
put_shown (e ∷ es) (suc i) key c before p = by (told (same p e.0)) (put_shown es i key c before.1 p)
  where
    by : (same p e.0 ≡ true) ⊎ (same p e.0 ≡ false)
        → shown (insert es i (key, c)) p ≡ cond (same p key) (Some c) (shown es p)
        → cond (same p e.0) (Some e.1) (shown (insert es i (key, c)) p) ≡ cond (same p key) (Some c) (cond (same p e.0) (Some e.1) (shown es p))
    by (inl h) rest =
        let off : same p key ≡ false = ap (λ x. same x key) (same_is p e.0 h) ∙ same_sym e.0 key ∙ apart_before e.0 key before.0 in
        ap (λ b. cond b (Some e.1) (shown (insert es i (key, c)) p)) h
        ∙ sym (ap (λ b. cond b (Some e.1) (shown es p)) h)
        ∙ sym (ap (λ b. cond b (Some c) (cond (same p e.0) (Some e.1) (shown es p))) off)
    by (inr h) rest =
        ap (λ b. cond b (Some e.1) (shown (insert es i (key, c)) p)) h
        ∙ rest
        ∙ sym (ap (λ b. cond (same p key) (Some c) (cond b (Some e.1) (shown es p))) h)

all_insert : (p : List ℕ) (es : List Entry) (i : ℕ) (e : Entry) → path_cmp p e.0 ≡ Less → AllAfter p es → AllAfter p (insert es i e)
all_insert p es zero e less after = (less, after)
all_insert p [] (suc i) e less after = (less, tt)
all_insert p (x ∷ es) (suc i) e less after = (after.0, all_insert p es i e less after.1)

-- .. and the order stays
pub put_order : (es : List Entry) (i : ℕ) (key : List ℕ) (c : Copied) → IsInOrder es → AreBefore key (keys_of es) i → IsBehind key (keys_of es) i
    → IsInOrder (insert es i (key, c))
unfolding IsStrictlySortedBy
put_order [] zero key c order before behind = (tt, tt)
put_order [] (suc i) key c order before behind = absurd before
put_order (e ∷ es) zero key c order before behind =
    ((behind, all_behind key e.0 es behind (order_head e es order)), order)
put_order (e ∷ es) (suc i) key c order before behind =
    (all_insert e.0 es i (key, c) before.0 (order_head e es order), put_order es i key c (order_tail e es order) before.1 behind)

-- a page that is written over
pub set_shown : (es : List Entry) (i : ℕ) (e : Entry) (w : Copied) → IsInOrder es → slice_get es i ≡ Some e
    → (p : List ℕ) → shown (slice_set es i (e.0, w)) p ≡ cond (same p e.0) (Some w) (shown es p)
set_shown [] i e w order at p = absurd (cc at)
set_shown (x ∷ es) zero e w order at p = by (told (same p e.0))
  where
    is : x.0 ≡ e.0
    is = ap (λ (y : Entry). y.0) (some_is x e at)

    by : (same p e.0 ≡ true) ⊎ (same p e.0 ≡ false) → cond (same p e.0) (Some w) (shown es p) ≡ cond (same p e.0) (Some w) (cond (same p x.0) (Some x.1) (shown es p))
    by (inl h) = ap (λ b. cond b (Some w) (shown es p)) h ∙ sym (ap (λ b. cond b (Some w) (cond (same p x.0) (Some x.1) (shown es p))) h)
    by (inr h) =
        ap (λ b. cond b (Some w) (shown es p)) h
        ∙ sym (ap (λ b. cond b (Some x.1) (shown es p)) (ap (same p) is ∙ h))
        ∙ sym (ap (λ b. cond b (Some w) (cond (same p x.0) (Some x.1) (shown es p))) h)
set_shown (x ∷ es) (suc i) e w order at p = by (told (same p x.0)) (set_shown es i e w (order_tail x es order) at p)
  where
    less : path_cmp x.0 e.0 ≡ Less
    less = found_after x.0 es (order_head x es order) e.0 e.1 (found_shown es i e (order_tail x es order) at)

    by : (same p x.0 ≡ true) ⊎ (same p x.0 ≡ false)
        → shown (slice_set es i (e.0, w)) p ≡ cond (same p e.0) (Some w) (shown es p)
        → cond (same p x.0) (Some x.1) (shown (slice_set es i (e.0, w)) p) ≡ cond (same p e.0) (Some w) (cond (same p x.0) (Some x.1) (shown es p))
    by (inl h) rest =
        let off : same p e.0 ≡ false = ap (λ q. same q e.0) (same_is p x.0 h) ∙ same_sym x.0 e.0 ∙ apart_before x.0 e.0 less in
        ap (λ b. cond b (Some x.1) (shown (slice_set es i (e.0, w)) p)) h
        ∙ sym (ap (λ b. cond b (Some x.1) (shown es p)) h)
        ∙ sym (ap (λ b. cond b (Some w) (cond (same p x.0) (Some x.1) (shown es p))) off)
    by (inr h) rest =
        ap (λ b. cond b (Some x.1) (shown (slice_set es i (e.0, w)) p)) h
        ∙ rest
        ∙ sym (ap (λ b. cond (same p e.0) (Some w) (cond b (Some x.1) (shown es p))) h)

pub set_keys : (es : List Entry) (i : ℕ) (e : Entry) (w : Copied) → slice_get es i ≡ Some e → keys_of (slice_set es i (e.0, w)) ≡ keys_of es
set_keys [] i e w at = refl
set_keys (x ∷ es) zero e w at = ap (λ (y : Entry). y.0 ∷ keys_of es) (sym (some_is x e at))
set_keys (x ∷ es) (suc i) e w at = ap (λ ks. x.0 ∷ ks) (set_keys es i e w at)
