-- A row is taken away, and its frame goes back.
use Rattle.std.proofs.Common.{◌≡◌, ◌≢◌, ℕ, zero, suc, ◌+◌, ◌-◌, ◌<◌, ◌≤◌, false, List, [], ◌∷◌, length, map, refl, sym, ap, subst, Some, arith}
use Rattle.std.proofs.Math.ListN.{length-set}
use Rattle.std.proofs.lemmas.List.Edits.{length-remove}
use Rattle.std.specs.Prelude.{slice_get}
use Rattle.std.specs.List.{AllByRecursion, remove}
use Rattle.std.specs.List.Sorted.{IsStrictlySortedBy}
use Rattle.std.specs.declared.cmp.Ordering.TheVariants.{Less}
use Rattle.afs_base.specs.Path.{path_cmp}
use Rattle.frame_pool.specs.Leasing.{left, IsOut, put_back}
use Rattle.pool_draft.specs.declared.row.Row.{Row}
use Rattle.pool_draft.specs.Held.{Held, IsHeld}
use Rattle.pool_draft.specs.Rows.{key_of, frames_of, AreApart, AreAllOut}
use Rattle.pool_draft.proofs.Rows.{all_here, all_both, out_back}
use Rattle.pool_draft.proofs.Putting.{with_run}

pub map_remove : {A B : Type 0} (f : A → B) (xs : List A) (i : ℕ) → map f (remove xs i) ≡ remove (map f xs) i
map_remove f [] zero = refl
map_remove f [] (suc i) = refl
map_remove f (x ∷ xs) zero = refl
map_remove f (x ∷ xs) (suc i) = ap (λ l. f x ∷ l) (map_remove f xs i)

pub all_remove : {A : Type 0} (P : A → Type 0) (xs : List A) (i : ℕ) → AllByRecursion P xs → AllByRecursion P (remove xs i)
all_remove P [] zero all = tt
all_remove P [] (suc i) all = tt
all_remove P (x ∷ xs) zero all = all.1
all_remove P (x ∷ xs) (suc i) all = (all.0, all_remove P xs i all.1)

sorted_remove : (ks : List (List ℕ)) (i : ℕ) → IsStrictlySortedBy path_cmp ks → IsStrictlySortedBy path_cmp (remove ks i)
unfolding IsStrictlySortedBy
sorted_remove [] zero order = tt
sorted_remove [] (suc i) order = tt
sorted_remove (k ∷ ks) zero order = order.1
sorted_remove (k ∷ ks) (suc i) order = (all_remove (λ y. path_cmp k y ≡ Less) ks i order.0, sorted_remove ks i order.1)

apart_remove : (fs : List ℕ) (i : ℕ) → AreApart fs → AreApart (remove fs i)
apart_remove [] zero apart = tt
apart_remove [] (suc i) apart = tt
apart_remove (f ∷ fs) zero apart = apart.1
apart_remove (f ∷ fs) (suc i) apart = (all_remove (λ g. f ≢ g) fs i apart.0, apart_remove fs i apart.1)

-- the frame that is taken away is none of those that stay
off_rest : (fs : List ℕ) (i : ℕ) (f : ℕ) → slice_get fs i ≡ Some f → AreApart fs → AllByRecursion (λ g. f ≢ g) (remove fs i)
off_rest [] i f at apart = absurd (cc at)
off_rest (g ∷ fs) zero f at apart = let P : ℕ → Type 0 = λ n. AllByRecursion (λ h. n ≢ h) fs in subst P (is g f at) apart.0
  where
    is : (x y : ℕ) → Some x ≡ Some y → x ≡ y
    is x y h = cc h
off_rest (g ∷ fs) (suc i) f at apart = (λ e. all_here (λ h. g ≢ h) fs i f apart.0 at (sym e), off_rest fs i f at apart.1)

pub held_left : (h : Held) (k : ℕ) (f : ℕ) → IsHeld h → k < length h.rows → slice_get (frames_of h.rows) k ≡ Some f
    → left (put_back h.run f) ≡ left h.run + 1 → IsHeld (with_run h h.pages (remove h.rows k) (put_back h.run f))
held_left h k f held within at more = record {
  ordered = subst O (sym (map_remove key_of h.rows k)) (sorted_remove (map key_of h.rows) k held.ordered);
  apart = subst A (sym frames) (apart_remove (frames_of h.rows) k held.apart);
  out = subst B (sym frames) (all_both (IsOut h.run) (λ g. f ≢ g) (IsOut (put_back h.run f)) (λ g is off. out_back h.run f g own off is) (remove (frames_of h.rows) k)
      (all_remove (IsOut h.run) (frames_of h.rows) k held.out) (off_rest (frames_of h.rows) k f at held.apart));
  short = all_remove (λ (r : Row). length r.key.path ≤ 7) h.rows k held.short;
  of = omega (arith, held.of, length-set h.run.taken (f - h.run.first) false);
  room = omega (arith, held.room, more, length-remove h.rows k within);
}
  where
    O : List (List ℕ) → Type 0
    O ks = IsStrictlySortedBy path_cmp ks

    A : List ℕ → Type 0
    A fs = AreApart fs

    B : List ℕ → Type 0
    B fs = AreAllOut (put_back h.run f) fs

    frames : frames_of (remove h.rows k) ≡ remove (frames_of h.rows) k
    frames = map_remove (λ (r : Row). r.frame) h.rows k

    own : IsOut h.run f
    own = all_here (IsOut h.run) (frames_of h.rows) k f held.out at
