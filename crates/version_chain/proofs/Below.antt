-- Places in the order of their paths: those of the children of a page, slot after slot.
use Rattle.std.proofs.Common.{◌≡◌, ℕ, zero, suc, ◌+◌, ◌<◌, ◌≤◌, true, false, ◌&&◌, cond, List, [], ◌∷◌, ◌++◌, drop, length, ◌⊎◌, inl, inr, refl, sym, ap, subst, ◌∙◌, Option, Some, None, arith, add-one, eq-eqb}
use Rattle.std.specs.Option.{option_map_or}
use Rattle.std.specs.List.{slice_get, list_all}
use Rattle.std.specs.declared.cmp.Ordering.{Ordering}
use Rattle.std.specs.declared.cmp.Ordering.TheVariants.{Less, Equal, Greater}
use Rattle.std.specs.Ordering.{nat_cmp, is_lt, is_le, is_eq, ordering_then}
use Rattle.std.specs.Cmp.{tied_itself, first_so, second_so, nat_cmp_is, nat_cmp_total}
use Rattle.std.specs.FinMap.{nat_cmp-IsAntisymmetric}
use Rattle.std.proofs.lemmas.Bool.{cases_lt}
use Rattle.afs_base.specs.Path.{path_cmp, is_prefix}
use Rattle.tree_model.proofs.Paths.{never, false_if, same_is, prefix_child, child_above, path_total}
use Rattle.page_places.specs.Places.{same}
use Rattle.draft_model.specs.Told.{are_rising}
use Rattle.draft_model.specs.Flush.{Placed, block_of}
use Rattle.draft_model.proofs.Moves.{child_is}
use Rattle.draft_model.proofs.Entries.{same_sym}
use Rattle.version_chain.specs.Flush.{paths_of, IsNextBelow}
use Rattle.version_chain.proofs.Written.{got_lt}

-- ---- the order of paths

less_is : (o : Ordering) → is_lt o ≡ true → o ≡ Less
less_is Less h = refl
less_is Equal h = never h refl
less_is Greater h = never h refl

less_apart : (p q : List ℕ) → path_cmp p q ≡ Less → same q p ≡ false
less_apart p q h = same_sym q p ∙ ap is_eq h

le_then_less : (a e x : List ℕ) → is_le (path_cmp a e) ≡ true → path_cmp e x ≡ Less → path_cmp a x ≡ Less
le_then_less a e x le lt = by (path_cmp a e) refl
  where
    by : (o : Ordering) → path_cmp a e ≡ o → path_cmp a x ≡ Less
    by Less g = path_total.trans a e x g lt
    by Equal g = path_total.congr a e x g ∙ lt
    by Greater g = never le (ap is_le g)

-- a path stands before those below it
above_less : (a : List ℕ) (s : ℕ) → path_cmp a (a ++ s ∷ []) ≡ Less
above_less [] s = refl
above_less (t ∷ a) s = ap (λ o. ordering_then o (path_cmp a (a ++ s ∷ []))) (tied_itself nat_cmp_total t) ∙ above_less a s

nat_less : (m n : ℕ) → m < n → nat_cmp m n ≡ Less
nat_less m n h = sym (nat_cmp_is m n Less h)

nat_same : (m n : ℕ) → m ≡ n → nat_cmp m n ≡ Equal
nat_same m n h = sym (nat_cmp_is m n Equal h)

nat_more : (m n : ℕ) → n < m → nat_cmp m n ≡ Greater
nat_more m n h = sym (nat_cmp_is m n Greater h)

empty_least : (q : List ℕ) → is_le (path_cmp [] q) ≡ true
empty_least [] = refl
empty_least (s ∷ q) = refl

-- a number that is at most the first slot
le_head : (m t : ℕ) (q : List ℕ) → m ≤ t → is_le (ordering_then (nat_cmp m t) (path_cmp [] q)) ≡ true
le_head m t q h = by (cases_lt m t)
  where
    by : (m < t) ⊎ (t ≤ m) → is_le (ordering_then (nat_cmp m t) (path_cmp [] q)) ≡ true
    by (inl less) = ap (λ o. is_le (ordering_then o (path_cmp [] q))) (nat_less m t less)
    by (inr past) = ap (λ o. is_le (ordering_then o (path_cmp [] q))) (nat_same m t (omega arith)) ∙ empty_least q

-- what stands behind a path does not stand before its first child
le_first : (a q : List ℕ) → path_cmp a q ≡ Less → is_le (path_cmp (a ++ 0 ∷ []) q) ≡ true
le_first [] [] h = absurd (cc)
le_first [] (t ∷ q) h = le_head 0 t q (omega arith)
le_first (s ∷ a) [] h = absurd (cc)
le_first (s ∷ a) (t ∷ q) h = by (nat_cmp s t) refl (le_first a q)
  where
    by : (o : Ordering) → nat_cmp s t ≡ o → (path_cmp a q ≡ Less → is_le (path_cmp (a ++ 0 ∷ []) q) ≡ true) → is_le (ordering_then (nat_cmp s t) (path_cmp (a ++ 0 ∷ []) q)) ≡ true
    by Less g rest = ap (λ o. is_le (ordering_then o (path_cmp (a ++ 0 ∷ []) q))) g
    by Equal g rest = ap (λ o. is_le (ordering_then o (path_cmp (a ++ 0 ∷ []) q))) g ∙ rest (sym (ap (λ o. ordering_then o (path_cmp a q)) g) ∙ h)
    by Greater g rest = absurd (cc (sym (ap (λ o. ordering_then o (path_cmp a q)) g) ∙ h))

-- what neither stands before a child nor lies at or below it does not stand before the next one
le_next : (a : List ℕ) (s : ℕ) (q : List ℕ) → is_le (path_cmp (a ++ s ∷ []) q) ≡ true → is_prefix (a ++ s ∷ []) q ≡ false → is_le (path_cmp (a ++ suc s ∷ []) q) ≡ true
le_next [] s [] le off = never le refl
le_next [] s (t ∷ q) le off = by (cases_lt s t)
  where
    by : (s < t) ⊎ (t ≤ s) → is_le (ordering_then (nat_cmp (suc s) t) (path_cmp [] q)) ≡ true
    by (inl less) = le_head (suc s) t q (omega arith)
    by (inr past) = elim (cases_lt t s) [
      | inl less ↦ never le (ap (λ o. is_le (ordering_then o (path_cmp [] q))) (nat_more s t less))
      | inr more ↦ never (ap (λ b. b && true) (eq-eqb s t (omega arith))) off
    ]
le_next (x ∷ a) s [] le off = never le refl
le_next (x ∷ a) s (t ∷ q) le off = by (nat_cmp x t) refl (le_next a s q)
  where
    by : (o : Ordering) → nat_cmp x t ≡ o
        → (is_le (path_cmp (a ++ s ∷ []) q) ≡ true → is_prefix (a ++ s ∷ []) q ≡ false → is_le (path_cmp (a ++ suc s ∷ []) q) ≡ true)
        → is_le (ordering_then (nat_cmp x t) (path_cmp (a ++ suc s ∷ []) q)) ≡ true
    by Less g rest = ap (λ o. is_le (ordering_then o (path_cmp (a ++ suc s ∷ []) q))) g
    by Equal g rest =
        ap (λ o. is_le (ordering_then o (path_cmp (a ++ suc s ∷ []) q))) g
        ∙ rest (sym (ap (λ o. is_le (ordering_then o (path_cmp (a ++ s ∷ []) q))) g) ∙ le)
        (sym (ap (λ b. b && is_prefix (a ++ s ∷ []) q) (eq-eqb x t (nat_cmp-IsAntisymmetric x t g))) ∙ off)
    by Greater g rest = never le (ap (λ o. is_le (ordering_then o (path_cmp (a ++ s ∷ []) q))) g)

-- the child of another slot is another path than one at or below this one
other_child : (a : List ℕ) (s k : ℕ) (q : List ℕ) → is_prefix (a ++ s ∷ []) q ≡ true → (s ≡ k → ⊥) → same (a ++ k ∷ []) q ≡ false
other_child a s k q on apart = false_if (same (a ++ k ∷ []) q) (λ e. absurd (by (prefix_child (a ++ s ∷ []) a k (ap (is_prefix (a ++ s ∷ [])) (same_is (a ++ k ∷ []) q e) ∙ on))))
  where
    by : (a ++ s ∷ [] ≡ a ++ k ∷ []) ⊎ (is_prefix (a ++ s ∷ []) a ≡ true) → ⊥
    by (inl e) = apart (child_is a s a k e).1
    by (inr e) = never e (child_above a s)

-- ---- places in order

placed_is : (x y : Placed) → Some x ≡ Some y → x ≡ y
placed_is x y e = ap (λ (o : Option Placed). option_map_or (λ (z : Placed). z) o x) e

later_less : (p : List ℕ) (placed : List Placed) (k : ℕ) (x : Placed) → list_all (λ q. is_lt (path_cmp p q)) (paths_of placed) ≡ true → slice_get placed k ≡ Some x → path_cmp p x.path ≡ Less
later_less p [] k x all at = absurd (cc)
later_less p (y ∷ placed) zero x all at =
    ap (λ (z : Placed). path_cmp p z.path) (sym (placed_is y x at)) ∙ less_is (path_cmp p y.path) (first_so (is_lt (path_cmp p y.path)) (list_all (λ q. is_lt (path_cmp p q)) (paths_of placed)) all)
later_less p (y ∷ placed) (suc k) x all at = later_less p placed k x (second_so (is_lt (path_cmp p y.path)) (list_all (λ q. is_lt (path_cmp p q)) (paths_of placed)) all) at

pub rising_at : (placed : List Placed) (j k : ℕ) (x y : Placed) → are_rising (paths_of placed) ≡ true → slice_get placed j ≡ Some x → slice_get placed k ≡ Some y → j < k → path_cmp x.path y.path ≡ Less
rising_at [] j k x y rising at there less = absurd (cc)
rising_at (z ∷ placed) zero zero x y rising at there less = absurd (omega arith)
rising_at (z ∷ placed) zero (suc k) x y rising at there less =
    ap (λ (w : Placed). path_cmp w.path y.path) (sym (placed_is z x at))
    ∙ later_less z.path placed k y (first_so (list_all (λ q. is_lt (path_cmp z.path q)) (paths_of placed)) (are_rising (paths_of placed)) rising) there
rising_at (z ∷ placed) (suc j) zero x y rising at there less = absurd (omega arith)
rising_at (z ∷ placed) (suc j) (suc k) x y rising at there less =
    rising_at placed j k x y (second_so (list_all (λ q. is_lt (path_cmp z.path q)) (paths_of placed)) (are_rising (paths_of placed)) rising) at there (omega arith)

-- one place of another path further on
block_skip : (placed : List Placed) (k : ℕ) (x : Placed) (q : List ℕ) → slice_get placed k ≡ Some x → same q x.path ≡ false → block_of (drop k placed) q ≡ block_of (drop (suc k) placed) q
block_skip [] k x q at apart = absurd (cc)
block_skip (y ∷ placed) zero x q at apart = ap (λ b. cond b (Some y.block) (block_of placed q)) (ap (λ (z : Placed). same q z.path) (placed_is y x at) ∙ apart)
block_skip (y ∷ placed) (suc k) x q at apart = block_skip placed k x q at apart

-- the place that is met first
block_here : (placed : List Placed) (k : ℕ) (x : Placed) (q : List ℕ) → slice_get placed k ≡ Some x → same q x.path ≡ true → block_of (drop k placed) q ≡ Some x.block
block_here [] k x q at here = absurd (cc)
block_here (y ∷ placed) zero x q at here =
    ap (λ b. cond b (Some y.block) (block_of placed q)) (ap (λ (z : Placed). same q z.path) (placed_is y x at) ∙ here)
    ∙ ap (λ (z : Placed). Some z.block) (placed_is y x at)
block_here (y ∷ placed) (suc k) x q at here = block_here placed k x q at here

-- no place from k on has this path
block_none : (placed : List Placed) (k : ℕ) (q : List ℕ) → ((j : ℕ) (x : Placed) → k ≤ j → slice_get placed j ≡ Some x → same q x.path ≡ false) → block_of (drop k placed) q ≡ None
block_none [] zero q none = refl
block_none [] (suc k) q none = refl
block_none (y ∷ placed) zero q none =
    ap (λ b. cond b (Some y.block) (block_of placed q)) (none 0 y (omega arith) refl)
    ∙ block_none placed 0 q (λ j x h at. none (suc j) x (omega arith) at)
block_none (y ∷ placed) (suc k) q none = block_none placed k q (λ j x h at. none (suc j) x (omega arith) at)

-- no place before n has this path
block_past : (placed : List Placed) (n : ℕ) (q : List ℕ) → ((j : ℕ) (x : Placed) → j < n → slice_get placed j ≡ Some x → same q x.path ≡ false) → block_of placed q ≡ block_of (drop n placed) q
block_past [] zero q none = refl
block_past [] (suc n) q none = refl
block_past (y ∷ placed) zero q none = refl
block_past (y ∷ placed) (suc n) q none =
    ap (λ b. cond b (Some y.block) (block_of placed q)) (none 0 y (omega arith) refl)
    ∙ block_past placed n q (λ j x h at. none (suc j) x (omega arith) at)

got : (placed : List Placed) (k n : ℕ) → k ≤ n → n < length placed → (x : Placed) × (slice_get placed k ≡ Some x)
got [] k n h within = absurd (omega arith)
got (y ∷ placed) zero n h within = (y, refl)
got (y ∷ placed) (suc k) zero h within = absurd (omega arith)
got (y ∷ placed) (suc k) (suc n) h within = got placed k n (omega arith) (omega arith)

-- ---- slot after slot

-- behind the page's own place stands that of its first child
pub next_start : (placed : List Placed) (at : ℕ) (x : Placed) (a : List ℕ) → are_rising (paths_of placed) ≡ true → slice_get placed at ≡ Some x → x.path ≡ a → IsNextBelow placed a 0 (suc at)
next_start placed at x a rising here is = record {
  before = λ k h. block_past placed (suc at) (a ++ k ∷ []) (λ j y less there. earlier k j y less there);
  behind = λ j y h there. le_first a y.path (ap (λ (p : List ℕ). path_cmp p y.path) (sym is) ∙ rising_at placed at j x y rising here there (omega arith));
  within = got_lt placed at x here;
}
  where
    earlier : (k j : ℕ) (y : Placed) → j < suc at → slice_get placed j ≡ Some y → same (a ++ k ∷ []) y.path ≡ false
    earlier k j y less there = by (cases_lt j at)
      where
        by : (j < at) ⊎ (at ≤ j) → same (a ++ k ∷ []) y.path ≡ false
        by (inl before) =
            less_apart y.path (a ++ k ∷ [])
            (path_total.trans y.path a (a ++ k ∷ []) (ap (path_cmp y.path) (sym is) ∙ rising_at placed j at y x rising there here before) (above_less a k))
        by (inr past) =
            let one : y.path ≡ a = ap (λ (z : Placed). z.path) (placed_is y x (sym there ∙ ap (slice_get placed) (let e : j ≡ at = omega arith in e) ∙ here)) ∙ is in
            ap (same (a ++ k ∷ [])) one ∙ less_apart a (a ++ k ∷ []) (above_less a k)

-- the places at and below a child were passed
pub next_more : (placed : List Placed) (a : List ℕ) (s next at : ℕ) → are_rising (paths_of placed) ≡ true → IsNextBelow placed a s next → next ≤ at → at ≤ length placed
    → ((k : ℕ) → suc s ≤ k → block_of (drop next placed) (a ++ k ∷ []) ≡ block_of (drop at placed) (a ++ k ∷ []))
    → ((x : Placed) → slice_get placed at ≡ Some x → is_prefix (a ++ s ∷ []) x.path ≡ false) → IsNextBelow placed a (suc s) at
next_more placed a s next at rising was later within passed off = record {
  before = λ k h. was.before k (omega arith) ∙ passed k h;
  behind = λ j y h there. from j y h there;
  within = within;
}
  where
    from : (j : ℕ) (y : Placed) → at ≤ j → slice_get placed j ≡ Some y → is_le (path_cmp (a ++ suc s ∷ []) y.path) ≡ true
    from j y h there = by (cases_lt at j)
      where
        here : (x : Placed) × (slice_get placed at ≡ Some x)
        here = got placed at j h (got_lt placed j y there)

        first : is_le (path_cmp (a ++ suc s ∷ []) here.0.path) ≡ true
        first = le_next a s here.0.path (was.behind at here.0 later here.1) (off here.0 here.1)

        by : (at < j) ⊎ (j ≤ at) → is_le (path_cmp (a ++ suc s ∷ []) y.path) ≡ true
        by (inl less) = ap is_le (le_then_less (a ++ suc s ∷ []) here.0.path y.path first (rising_at placed at j here.0 y rising here.1 there less))
        by (inr past) =
            let e : at ≡ j = omega arith in
            ap (λ (z : Placed). is_le (path_cmp (a ++ suc s ∷ []) z.path)) (placed_is y here.0 (sym there ∙ ap (slice_get placed) (sym e) ∙ here.1)) ∙ first

-- one place at or below the child is passed
pub pass_one : (placed : List Placed) (a : List ℕ) (s next at : ℕ) (x : Placed) → slice_get placed at ≡ Some x → is_prefix (a ++ s ∷ []) x.path ≡ true
    → ((k : ℕ) → suc s ≤ k → block_of (drop next placed) (a ++ k ∷ []) ≡ block_of (drop at placed) (a ++ k ∷ []))
    → (k : ℕ) → suc s ≤ k → block_of (drop next placed) (a ++ k ∷ []) ≡ block_of (drop (suc at) placed) (a ++ k ∷ [])
pass_one placed a s next at x here on so_far k h =
    so_far k h ∙ block_skip placed at x (a ++ k ∷ []) here (other_child a s k x.path on (λ e. absurd (omega (arith, e, h))))

-- the place that stands next is that of the page in the slot
pub next_is : (placed : List Placed) (a : List ℕ) (s next : ℕ) (x : Placed) → IsNextBelow placed a s next → slice_get placed next ≡ Some x → same (a ++ s ∷ []) x.path ≡ true
    → (x.path ≡ a ++ s ∷ []) × (block_of placed (a ++ s ∷ []) ≡ Some x.block)
next_is placed a s next x was here is = (sym (same_is (a ++ s ∷ []) x.path is), was.before s (omega arith) ∙ block_here placed next x (a ++ s ∷ []) here is)

-- .. or there is none
pub next_other : (placed : List Placed) (a : List ℕ) (s next : ℕ) (x : Placed) → are_rising (paths_of placed) ≡ true → IsNextBelow placed a s next → slice_get placed next ≡ Some x
    → same (a ++ s ∷ []) x.path ≡ false → block_of placed (a ++ s ∷ []) ≡ None
next_other placed a s next x rising was here off = was.before s (omega arith) ∙ block_none placed next (a ++ s ∷ []) (λ j y h there. by j y there (cases_lt next j) h)
  where
    by : (j : ℕ) (y : Placed) → slice_get placed j ≡ Some y → (next < j) ⊎ (j ≤ next) → next ≤ j → same (a ++ s ∷ []) y.path ≡ false
    by j y there (inl less) h =
        same_sym (a ++ s ∷ []) y.path
        ∙ less_apart (a ++ s ∷ []) y.path (le_then_less (a ++ s ∷ []) x.path y.path (was.behind next x (omega arith) here) (rising_at placed next j x y rising here there less))
    by j y there (inr past) h =
        let e : next ≡ j = omega arith in
        ap (λ (z : Placed). same (a ++ s ∷ []) z.path) (placed_is y x (sym there ∙ ap (slice_get placed) (sym e) ∙ here)) ∙ off

pub next_end : (placed : List Placed) (a : List ℕ) (s next : ℕ) → IsNextBelow placed a s next → length placed ≤ next → block_of placed (a ++ s ∷ []) ≡ None
next_end placed a s next was past = was.before s (omega arith) ∙ block_none placed next (a ++ s ∷ []) (λ j x h at. absurd (omega (arith, got_lt placed j x at)))

-- the first place that does not lie at or below the child was met
pub next_stop : (placed : List Placed) (a : List ℕ) (s next at : ℕ) (x : Placed) → are_rising (paths_of placed) ≡ true → IsNextBelow placed a s next → next ≤ at
    → ((k : ℕ) → suc s ≤ k → block_of (drop next placed) (a ++ k ∷ []) ≡ block_of (drop at placed) (a ++ k ∷ []))
    → slice_get placed at ≡ Some x → is_prefix (a ++ s ∷ []) x.path ≡ false → IsNextBelow placed a (s + 1) at
next_stop placed a s next at x rising was later passed here off =
    let F : ℕ → Type 0 = λ n. IsNextBelow placed a n at in
    subst F (sym (add-one s))
    (next_more placed a s next at rising was later (omega (arith, got_lt placed at x here)) passed
    (λ y there. ap (λ (z : Placed). is_prefix (a ++ s ∷ []) z.path) (placed_is y x (sym there ∙ here)) ∙ off))

-- .. or all places were passed
pub next_all : (placed : List Placed) (a : List ℕ) (s next at : ℕ) → are_rising (paths_of placed) ≡ true → IsNextBelow placed a s next → at ≡ length placed
    → ((k : ℕ) → suc s ≤ k → block_of (drop next placed) (a ++ k ∷ []) ≡ block_of (drop at placed) (a ++ k ∷ []))
    → IsNextBelow placed a (s + 1) (length placed)
next_all placed a s next at rising was end passed =
    let F : ℕ → Type 0 = λ n. IsNextBelow placed a n (length placed) in
    subst F (sym (add-one s))
    (next_more placed a s next (length placed) rising was was.within (omega arith)
    (λ k h. passed k h ∙ ap (λ n. block_of (drop n placed) (a ++ k ∷ [])) end)
    (λ y there. absurd (omega (arith, got_lt placed (length placed) y there))))
