-- The pages of one root among those of all.
use Rattle.std.proofs.Common.{◌≡◌, ℕ, zero, suc, ◌+◌, Bool, true, false, ◌&&◌, ◌||◌, cond, nat_eq, List, [], ◌∷◌, length, ◌⊎◌, inl, inr, refl, sym, ap, subst, ◌∙◌, Some, slice_set, eqb-true, eq-eqb, arith}
use Rattle.std.specs.Prelude.{slice_get}
use Rattle.std.specs.List.{insert}
use Rattle.std.specs.List.Sorted.{IsStrictlySortedBy}
use Rattle.std.specs.Map.{keys_of}
use Rattle.std.specs.Ordering.{nat_cmp, is_eq, ordering_then}
use Rattle.std.specs.Cmp.{tied_itself, nat_cmp_total}
use Rattle.std.specs.FinMap.{nat_cmp-IsAntisymmetric}
use Rattle.std.specs.declared.cmp.Ordering.{Ordering}
use Rattle.std.specs.declared.cmp.Ordering.TheVariants.{Less, Equal, Greater}
use Rattle.afs_base.specs.Path.{path_cmp, is_prefix}
use Rattle.tree_model.proofs.Paths.{told, false_if}
use Rattle.page_places.specs.Places.{same}
use Rattle.draft_model.specs.Views.{Copied}
use Rattle.draft_model.specs.Entries.{Entry, shown, is_written, is_touched}
use Rattle.draft_model.proofs.Entries.{IsInOrder, AllAfter, order_head, order_tail}
use Rattle.pool_draft.specs.Forest.{join_below, below}

-- ---- keys

-- two keys of one root
pub cmp_own : (root : ℕ) (p q : List ℕ) → path_cmp (root ∷ p) (root ∷ q) ≡ path_cmp p q
cmp_own root p q = ap (λ o. ordering_then o (path_cmp p q)) (tied_itself nat_cmp_total root)

-- two keys of two roots are two
pub same_other : (root k : ℕ) (p q : List ℕ) → nat_eq k root ≡ false → same (root ∷ p) (k ∷ q) ≡ false
same_other root k p q off = false_if (same (root ∷ p) (k ∷ q)) (λ on. by (nat_cmp root k) refl on)
  where
    by : (o : Ordering) → nat_cmp root k ≡ o → is_eq (ordering_then o (path_cmp p q)) ≡ true → false ≡ true
    by Less e on = on
    by Equal e on = sym off ∙ eq-eqb k root (sym (nat_cmp-IsAntisymmetric root k e))
    by Greater e on = on

-- ---- what is shown

pub shown_below : (root : ℕ) (es : List Entry) (p : List ℕ) → shown (below root es) p ≡ shown es (root ∷ p)
shown_below root [] p = refl
shown_below root (e ∷ es) p = by e.0 (shown_below root es p)
  where
    by : (key : List ℕ) → shown (below root es) p ≡ shown es (root ∷ p)
        → shown (join_below root key e.1 (below root es)) p ≡ cond (same (root ∷ p) key) (Some e.1) (shown es (root ∷ p))
    by [] rest = rest
    by (k ∷ q) rest = into (told (nat_eq k root))
      where
        into : (nat_eq k root ≡ true) ⊎ (nat_eq k root ≡ false)
            → shown (join_below root (k ∷ q) e.1 (below root es)) p ≡ cond (same (root ∷ p) (k ∷ q)) (Some e.1) (shown es (root ∷ p))
        into (inl h) =
            ap (λ b. shown (cond b ((q, e.1) ∷ below root es) (below root es)) p) h
            ∙ ap (λ o. cond (same p q) (Some e.1) o) rest
            ∙ sym (ap (λ o. cond (is_eq o) (Some e.1) (shown es (root ∷ p))) (ap (λ n. path_cmp (root ∷ p) (n ∷ q)) (eqb-true k root h) ∙ cmp_own root p q))
        into (inr h) =
            ap (λ b. shown (cond b ((q, e.1) ∷ below root es) (below root es)) p) h
            ∙ rest
            ∙ sym (ap (λ b. cond b (Some e.1) (shown es (root ∷ p))) (same_other root k p q h))

-- ---- the order

after_below : (root : ℕ) (q : List ℕ) (es : List Entry) → AllAfter (root ∷ q) es → AllAfter q (below root es)
after_below root q [] after = tt
after_below root q (e ∷ es) after = by e.0 after.0 (after_below root q es after.1)
  where
    by : (key : List ℕ) → path_cmp (root ∷ q) key ≡ Less → AllAfter q (below root es) → AllAfter q (join_below root key e.1 (below root es))
    by [] less rest = rest
    by (k ∷ p) less rest = into (nat_eq k root) refl
      where
        into : (b : Bool) → nat_eq k root ≡ b → AllAfter q (cond b ((p, e.1) ∷ below root es) (below root es))
        into true h = (sym (cmp_own root q p) ∙ ap (λ n. path_cmp (root ∷ q) (n ∷ p)) (sym (eqb-true k root h)) ∙ less, rest)
        into false h = rest

pub order_below : (root : ℕ) (es : List Entry) → IsInOrder es → IsInOrder (below root es)
unfolding IsStrictlySortedBy
order_below root [] order = tt
order_below root (e ∷ es) order = by e.0 (order_head e es order) (order_below root es (order_tail e es order))
  where
    by : (key : List ℕ) → AllAfter key es → IsInOrder (below root es) → IsInOrder (join_below root key e.1 (below root es))
    by [] after rest = rest
    by (k ∷ p) after rest = into (nat_eq k root) refl
      where
        into : (b : Bool) → nat_eq k root ≡ b → IsInOrder (cond b ((p, e.1) ∷ below root es) (below root es))
        into true h =
            let P : ℕ → Type 0 = λ n. AllAfter (n ∷ p) es in
            (after_below root p es (subst P (eqb-true k root h) after), rest)
        into false h = rest

-- ---- what was written

pub touched_below : (root : ℕ) (es : List Entry) (q : List ℕ) → is_touched (below root es) q ≡ is_touched es (root ∷ q)
touched_below root [] q = refl
touched_below root (e ∷ es) q = by e.0 (touched_below root es q)
  where
    by : (key : List ℕ) → is_touched (below root es) q ≡ is_touched es (root ∷ q)
        → is_touched (join_below root key e.1 (below root es)) q ≡ ((is_prefix (root ∷ q) key && is_written e.1) || is_touched es (root ∷ q))
    by [] rest = rest
    by (k ∷ p) rest = into (told (nat_eq k root))
      where
        into : (nat_eq k root ≡ true) ⊎ (nat_eq k root ≡ false)
            → is_touched (join_below root (k ∷ p) e.1 (below root es)) q ≡ ((is_prefix (root ∷ q) (k ∷ p) && is_written e.1) || is_touched es (root ∷ q))
        into (inl h) =
            let on : nat_eq root k ≡ true = eq-eqb root k (sym (eqb-true k root h)) in
            ap (λ b. is_touched (cond b ((p, e.1) ∷ below root es) (below root es)) q) h
            ∙ ap (λ b. (is_prefix q p && is_written e.1) || b) rest
            ∙ sym (ap (λ b. ((b && is_prefix q p) && is_written e.1) || is_touched es (root ∷ q)) on)
        into (inr h) =
            let off : nat_eq root k ≡ false = false_if (nat_eq root k) (λ on. sym h ∙ eq-eqb k root (sym (eqb-true root k on))) in
            ap (λ b. is_touched (cond b ((p, e.1) ∷ below root es) (below root es)) q) h
            ∙ rest
            ∙ sym (ap (λ b. ((b && is_prefix q p) && is_written e.1) || is_touched es (root ∷ q)) off)

-- ---- one entry more, or another page in an entry

-- of another root
pub insert_other : (root k : ℕ) (p : List ℕ) (c : Copied) → nat_eq k root ≡ false → (es : List Entry) (i : ℕ) → below root (insert es i (k ∷ p, c)) ≡ below root es
insert_other root k p c off es zero = ap (λ b. cond b ((p, c) ∷ below root es) (below root es)) off
insert_other root k p c off [] (suc i) = ap (λ b. cond b ((p, c) ∷ []) []) off
insert_other root k p c off (e ∷ es) (suc i) = ap (λ rest. join_below root e.0 e.1 rest) (insert_other root k p c off es i)

pub set_other : (root k : ℕ) (p : List ℕ) (c : Copied) → nat_eq k root ≡ false → (es : List Entry) (i : ℕ) (was : Copied)
    → slice_get es i ≡ Some (k ∷ p, was) → below root (slice_set es i (k ∷ p, c)) ≡ below root es
set_other root k p c off [] i was at = refl
set_other root k p c off (e ∷ es) zero was at =
    ap (λ b. cond b ((p, c) ∷ below root es) (below root es)) off
    ∙ sym (ap (λ b. cond b ((p, was) ∷ below root es) (below root es)) off)
    ∙ ap (λ (x : Entry). join_below root x.0 x.1 (below root es)) (entry_is (k ∷ p, was) e (sym at))
  where
    entry_is : (x y : Entry) → Some x ≡ Some y → x ≡ y
    entry_is x y h = cc h
set_other root k p c off (e ∷ es) (suc i) was at = ap (λ rest. join_below root e.0 e.1 rest) (set_other root k p c off es i was at)

-- of the root
length_join : (root : ℕ) (key : List ℕ) (c : Copied) (es fs : List Entry) (n : ℕ) → length es ≡ length fs + n
    → length (join_below root key c es) ≡ length (join_below root key c fs) + n
length_join root [] c es fs n h = h
length_join root (k ∷ p) c es fs n h = by (nat_eq k root)
  where
    by : (b : Bool) → length (cond b ((p, c) ∷ es) es) ≡ length (cond b ((p, c) ∷ fs) fs) + n
    by true = omega arith
    by false = h

pub insert_own : (root : ℕ) (p : List ℕ) (c : Copied) (es : List Entry) (i : ℕ) → length (below root (insert es i (root ∷ p, c))) ≡ length (below root es) + 1
insert_own root p c es zero = ap (λ b. length (cond b ((p, c) ∷ below root es) (below root es))) (eq-eqb root root refl) ∙ omega arith
insert_own root p c [] (suc i) = ap (λ b. length {A = Entry} (cond b ((p, c) ∷ []) [])) (eq-eqb root root refl)
insert_own root p c (e ∷ es) (suc i) = length_join root e.0 e.1 (below root (insert es i (root ∷ p, c))) (below root es) 1 (insert_own root p c es i)

pub keys_join : (root : ℕ) (key : List ℕ) (c w : Copied) (es fs : List Entry) → keys_of es ≡ keys_of fs → keys_of (join_below root key c es) ≡ keys_of (join_below root key w fs)
keys_join root [] c w es fs h = h
keys_join root (k ∷ p) c w es fs h = by (nat_eq k root)
  where
    by : (b : Bool) → keys_of (cond b ((p, c) ∷ es) es) ≡ keys_of (cond b ((p, w) ∷ fs) fs)
    by true = ap (λ ks. p ∷ ks) h
    by false = h

-- the keys of a root are told by the keys of all
pub keys_below : (root : ℕ) (es fs : List Entry) → keys_of es ≡ keys_of fs → keys_of (below root es) ≡ keys_of (below root fs)
keys_below root [] [] h = refl
keys_below root [] (f ∷ fs) h = absurd (cc h)
keys_below root (e ∷ es) [] h = absurd (cc h)
keys_below root (e ∷ es) (f ∷ fs) h =
    let head : e.0 ≡ f.0 = head_is e.0 f.0 (keys_of es) (keys_of fs) h in
    let tail : keys_of es ≡ keys_of fs = tail_is e.0 f.0 (keys_of es) (keys_of fs) h in
    keys_join root e.0 e.1 f.1 (below root es) (below root fs) (keys_below root es fs tail)
    ∙ ap (λ key. keys_of (join_below root key f.1 (below root fs))) head
  where
    head_is : (x y : List ℕ) (xs ys : List (List ℕ)) → x ∷ xs ≡ y ∷ ys → x ≡ y
    head_is x y xs ys h = cc h

    tail_is : (x y : List ℕ) (xs ys : List (List ℕ)) → x ∷ xs ≡ y ∷ ys → xs ≡ ys
    tail_is x y xs ys h = cc h
