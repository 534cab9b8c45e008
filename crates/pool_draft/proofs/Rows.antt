-- Rows and their frames: what a write into a frame, a row more and a row less leave.
use Rattle.std.proofs.Common.{◌≡◌, ◌≢◌, ℕ, zero, suc, ◌-◌, ◌<◌, Bool, true, false, List, [], ◌∷◌, length, map, refl, sym, ap, subst, ◌∙◌, cond, nat_eq, Option, Some, option_map, slice_set, slice_index_or, arith, get_or-set_other, get_or-set_same}
use Rattle.std.proofs.lemmas.Option.{slice_get-map}
use Rattle.std.proofs.Math.ListN.{length-set}
use Rattle.std.specs.Prelude.{slice_get}
use Rattle.std.specs.List.{AllByRecursion, insert}
use Rattle.std.specs.Map.{keys_of}
use Rattle.page_codec.specs.Values.{PageValue}
use Rattle.page_codec.specs.Blank.{empty_page}
use Rattle.draft_tree.specs.Marking.{copied_with}
use Rattle.frame_pool.specs.Leasing.{Leased, IsOut, IsIn, taken_out, put_back}
use Rattle.pool_draft.specs.declared.row.Row.{Row}
use Rattle.pool_draft.specs.Held.{more_rows}
use Rattle.pool_draft.specs.Rows.{key_of, copied_in, forest, frames_of, AreApart, AreAllOut}

-- ---- lists

pub all_here : {A : Type 0} (P : A → Type 0) (xs : List A) (i : ℕ) (x : A) → AllByRecursion P xs → slice_get xs i ≡ Some x → P x
all_here {A} P [] i x all at = absurd (cc at)
all_here {A} P (y ∷ xs) zero x all at = let is : y ≡ x = some_is y x at in subst P is all.0
  where
    some_is : (a b : A) → Some a ≡ Some b → a ≡ b
    some_is a b h = cc h
all_here {A} P (y ∷ xs) (suc i) x all at = all_here P xs i x all.1 at

pub all_map : {A : Type 0} (P Q : A → Type 0) → ((x : A) → P x → Q x) → (xs : List A) → AllByRecursion P xs → AllByRecursion Q xs
all_map P Q f [] all = tt
all_map P Q f (x ∷ xs) all = (f x all.0, all_map P Q f xs all.1)

pub all_both : {A : Type 0} (P Q R : A → Type 0) → ((x : A) → P x → Q x → R x) → (xs : List A) → AllByRecursion P xs → AllByRecursion Q xs → AllByRecursion R xs
all_both P Q R f [] all more = tt
all_both P Q R f (x ∷ xs) all more = (f x all.0 more.0, all_both P Q R f xs all.1 more.1)

pub all_insert : {A : Type 0} (P : A → Type 0) (xs : List A) (i : ℕ) (x : A) → P x → AllByRecursion P xs → AllByRecursion P (insert xs i x)
all_insert P xs zero x own all = (own, all)
all_insert P [] (suc i) x own all = (own, tt)
all_insert P (y ∷ xs) (suc i) x own all = (all.0, all_insert P xs i x own all.1)

pub map_insert : {A B : Type 0} (f : A → B) (xs : List A) (i : ℕ) (x : A) → map f (insert xs i x) ≡ insert (map f xs) i (f x)
map_insert f xs zero x = refl
map_insert f [] (suc i) x = refl
map_insert f (y ∷ xs) (suc i) x = ap (λ l. f y ∷ l) (map_insert f xs i x)

-- ---- keys

pub keys_forest : (pages : List PageValue) (rows : List Row) → keys_of (forest pages rows) ≡ map key_of rows
keys_forest pages [] = refl
keys_forest pages (r ∷ rows) = ap (λ ks. key_of r ∷ ks) (keys_forest pages rows)

-- ---- frames

pub apart_insert : (fs : List ℕ) (i : ℕ) (f : ℕ) → AllByRecursion (λ g. f ≢ g) fs → AreApart fs → AreApart (insert fs i f)
apart_insert fs zero f off apart = (off, apart)
apart_insert [] (suc i) f off apart = (tt, tt)
apart_insert (g ∷ fs) (suc i) f off apart =
    (all_insert (λ h. g ≢ h) fs i f (λ e. off.0 (sym e)) apart.0, apart_insert fs i f off.1 apart.1)

-- a frame that is not out is none of those that are
pub in_off : (run : Leased) (f : ℕ) → IsIn run f → (fs : List ℕ) → AreAllOut run fs → AllByRecursion (λ g. f ≢ g) fs
in_off run f home fs out = all_map (IsOut run) (λ g. f ≢ g) (λ g is e. differ (ap (λ n. slice_index_or run.taken (n - run.first) false) e) is.out home.home) fs out
  where
    differ : {a b : Bool} → a ≡ b → b ≡ true → a ≡ false → ⊥
    differ e h g = absurd (cc (sym g ∙ e ∙ h))

set_true : (xs : List Bool) (i j : ℕ) → slice_index_or xs j false ≡ true → slice_index_or (slice_set xs i true) j false ≡ true
set_true [] i j h = h
set_true (x ∷ xs) zero zero h = refl
set_true (x ∷ xs) zero (suc j) h = h
set_true (x ∷ xs) (suc i) zero h = h
set_true (x ∷ xs) (suc i) (suc j) h = set_true xs i j h

set_false : (xs : List Bool) (i j : ℕ) → i ≢ j → slice_index_or xs j false ≡ true → slice_index_or (slice_set xs i false) j false ≡ true
set_false [] i j off h = h
set_false (x ∷ xs) zero zero off h = absurd (off refl)
set_false (x ∷ xs) zero (suc j) off h = h
set_false (x ∷ xs) (suc i) zero off h = h
set_false (x ∷ xs) (suc i) (suc j) off h = set_false xs i j (λ e. off (ap suc e)) h

-- after a frame was taken out, those that were out are, and it is
pub out_taken : (run : Leased) (f g : ℕ) → IsOut run g → IsOut (taken_out run f) g
out_taken run f g is = record {
  from = is.from;
  below = omega (arith, is.below, length-set run.taken (f - run.first) true);
  out = set_true run.taken (f - run.first) (g - run.first) is.out;
}

pub taken_is_out : (run : Leased) (f : ℕ) → IsIn run f → IsOut (taken_out run f) f
taken_is_out run f home = record {
  from = home.from;
  below = omega (arith, home.below, length-set run.taken (f - run.first) true);
  out = get_or-set_same run.taken (f - run.first) true false (omega (arith, home.from, home.below));
}

-- after a frame was put back, the others that were out are
pub out_back : (run : Leased) (f g : ℕ) → IsOut run f → f ≢ g → IsOut run g → IsOut (put_back run f) g
out_back run f g own off is = record {
  from = is.from;
  below = omega (arith, is.below, length-set run.taken (f - run.first) false);
  out = set_false run.taken (f - run.first) (g - run.first) (λ e. off (omega (arith, e, own.from, is.from))) is.out;
}

-- ---- writes into frames

-- into a frame that no row has
pub write_apart : (pages : List PageValue) (f : ℕ) (w : PageValue) (rows : List Row) → AllByRecursion (λ g. f ≢ g) (frames_of rows)
    → forest (slice_set pages f w) rows ≡ forest pages rows
write_apart pages f w [] off = refl
write_apart pages f w (r ∷ rows) off = (λ j. (key_of r, here j) ∷ write_apart pages f w rows off.1 j)
  where
    here : copied_in (slice_set pages f w) r ≡ copied_in pages r
    here =
        let ne : r.frame ≢ f = λ e. off.0 (sym e) in
        ap (λ page. copied_with r.marks page) (get_or-set_other pages f r.frame w (empty_page 0) ne)

-- into the frame of a row
pub write_own : (pages : List PageValue) (w : PageValue) (rows : List Row) (i : ℕ) (r s : Row) → slice_get rows i ≡ Some r → AreApart (frames_of rows)
    → key_of s ≡ key_of r → s.frame ≡ r.frame → r.frame < length pages
    → forest (slice_set pages r.frame w) (slice_set rows i s) ≡ slice_set (forest pages rows) i (key_of r, copied_with s.marks w)
write_own pages w [] i r s at apart key frame within = absurd (cc at)
write_own pages w (x ∷ rows) zero r s at apart key frame within =
    let is : x ≡ r = row_is x r at in
    let F : Row → Type 0 = λ y. AllByRecursion (λ g. y.frame ≢ g) (frames_of rows) in
    (λ j. (key j, copied_with s.marks (page j)) ∷ write_apart pages r.frame w rows (subst F is apart.0) j)
  where
    row_is : (a b : Row) → Some a ≡ Some b → a ≡ b
    row_is a b h = cc h

    page : slice_index_or (slice_set pages r.frame w) s.frame (empty_page 0) ≡ w
    page = ap (λ n. slice_index_or (slice_set pages r.frame w) n (empty_page 0)) frame ∙ get_or-set_same pages r.frame w (empty_page 0) within
write_own pages w (x ∷ rows) (suc i) r s at apart key frame within =
    (λ j. (key_of x, copied_with x.marks (page j)) ∷ write_own pages w rows i r s at apart.1 key frame within j)
  where
    off : x.frame ≢ r.frame
    off = all_here (λ g. x.frame ≢ g) (frames_of rows) i r.frame apart.0 (slice_get-map (λ (y : Row). y.frame) rows i ∙ ap (λ (o : Option Row). option_map (λ (y : Row). y.frame) o) at)

    page : slice_index_or (slice_set pages r.frame w) x.frame (empty_page 0) ≡ slice_index_or pages x.frame (empty_page 0)
    page = get_or-set_other pages r.frame x.frame w (empty_page 0) off

-- ---- how many rows are of other roots

pub more_insert : (root : ℕ) (rows : List Row) (i : ℕ) (r : Row) → nat_eq r.key.root root ≡ true → more_rows root (insert rows i r) ≡ more_rows root rows
more_insert root rows zero r own = ap (λ b. cond b (more_rows root rows) (suc (more_rows root rows))) own
more_insert root [] (suc i) r own = ap (λ b. cond b 0 1) own
more_insert root (x ∷ rows) (suc i) r own = ap (λ n. cond (nat_eq x.key.root root) n (suc n)) (more_insert root rows i r own)

-- ---- a row that is set, with the same key and frame

pub set_same : {A B : Type 0} (f : A → B) (xs : List A) (i : ℕ) (x y : A) → slice_get xs i ≡ Some x → f y ≡ f x → map f (slice_set xs i y) ≡ map f xs
set_same {A} f [] i x y at same = refl
set_same {A} f (z ∷ xs) zero x y at same = (λ j. (same ∙ ap f (is x z (sym at))) j ∷ map f xs)
  where
    is : (a b : A) → Some a ≡ Some b → a ≡ b
    is a b h = cc h
set_same {A} f (z ∷ xs) (suc i) x y at same = ap (λ l. f z ∷ l) (set_same f xs i x y at same)

pub all_set : {A : Type 0} (P : A → Type 0) (xs : List A) (i : ℕ) (x : A) → P x → AllByRecursion P xs → AllByRecursion P (slice_set xs i x)
all_set P [] i x own all = tt
all_set P (y ∷ xs) zero x own all = (own, all.1)
all_set P (y ∷ xs) (suc i) x own all = (all.0, all_set P xs i x own all.1)

pub more_set : (root : ℕ) (rows : List Row) (i : ℕ) (r s : Row) → slice_get rows i ≡ Some r → s.key.root ≡ r.key.root → more_rows root (slice_set rows i s) ≡ more_rows root rows
more_set root [] i r s at same = refl
more_set root (x ∷ rows) zero r s at same =
    ap (λ n. cond (nat_eq n root) (more_rows root rows) (suc (more_rows root rows))) (same ∙ ap (λ (y : Row). y.key.root) (is r x (sym at)))
  where
    is : (a b : Row) → Some a ≡ Some b → a ≡ b
    is a b h = cc h
more_set root (x ∷ rows) (suc i) r s at same = ap (λ n. cond (nat_eq x.key.root root) n (suc n)) (more_set root rows i r s at same)
