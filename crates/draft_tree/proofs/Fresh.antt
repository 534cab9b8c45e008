-- The entries at and below a path stand together.
use Rattle.std.proofs.Common.{◌≡◌, ℕ, ◌+◌, true, false, ◌&&◌, ◌||◌, cond, nat_eq, List, [], ◌∷◌, ◌++◌, map, filter, take, ◌⊎◌, inl, inr, refl, sym, ap, ◌∙◌, Option, option_map, slice_get, eqb-true, eq-eqb, add_comm, add-one, length, ◌<◌, arith, append_assoc, append-nil, length-append}
use Rattle.std.proofs.lemmas.Option.{slice_get-map}
use Rattle.std.specs.List.{AllByRecursion, list_any, prefix_len, take_while}
use Rattle.std.specs.Map.{keys_of}
use Rattle.std.specs.BTreeMap.Range.{entries_between}
use Rattle.std.specs.declared.ops.Bound.TheVariants.{Included, Unbounded}
use Rattle.std.specs.declared.cmp.Ordering.{Ordering}
use Rattle.std.specs.declared.cmp.Ordering.TheVariants.{Less, Equal, Greater}
use Rattle.std.specs.Ordering.{nat_cmp, is_le, ordering_then, ordering_reverse}
use Rattle.std.specs.Cmp.{tied_itself, first_so, second_so, nat_cmp_total}
use Rattle.std.specs.FinMap.{nat_cmp-IsAntisymmetric}
use Rattle.afs_base.specs.Path.{path_cmp, is_prefix}
use Rattle.tree_model.proofs.Paths.{told, never, false_if, path_total}
use Rattle.draft_model.proofs.Facts.{and_true}
use Rattle.draft_model.specs.Entries.{Entry, is_written, is_touched, is_fresh, fresh_paths}
use Rattle.draft_model.proofs.Entries.{IsInOrder, AllAfter, order_head, order_tail, few_paths}

-- ---- what lies at and below a path stands together

-- what stands between a path and one below it lies below it too
convex : (a e x : List ℕ) → is_prefix a x ≡ true → is_le (path_cmp a e) ≡ true → path_cmp e x ≡ Less → is_prefix a e ≡ true
convex [] e x on le lt = refl
convex (s ∷ a) e [] on le lt = never on refl
convex (s ∷ a) [] (y ∷ x) on le lt = never le refl
convex (s ∷ a) (t ∷ e) (y ∷ x) on le lt = by (nat_cmp s t) refl (convex a e x (second_so (nat_eq s y) (is_prefix a x) on))
  where
    reversed : nat_cmp t y ≡ ordering_reverse (nat_cmp s t)
    reversed = ap (nat_cmp t) (sym (eqb-true s y (first_so (nat_eq s y) (is_prefix a x) on))) ∙ nat_cmp_total.antisymm t s

    by : (o : Ordering) → nat_cmp s t ≡ o
        → (is_le (path_cmp a e) ≡ true → path_cmp e x ≡ Less → is_prefix a e ≡ true)
        → (nat_eq s t && is_prefix a e) ≡ true
    by Less g rest = absurd (cc (sym (ap (λ o. ordering_then o (path_cmp e x)) (reversed ∙ ap ordering_reverse g)) ∙ lt))
    by Equal g rest =
        (λ i. eq-eqb s t (nat_cmp-IsAntisymmetric s t g) i
        && rest
        (sym (ap (λ o. is_le (ordering_then o (path_cmp a e))) g) ∙ le)
        (sym (ap (λ o. ordering_then o (path_cmp e x)) (reversed ∙ ap ordering_reverse g)) ∙ lt)
        i)
    by Greater g rest = never le (ap (λ o. is_le (ordering_then o (path_cmp a e))) g)

pub prefix_le : (a x : List ℕ) → is_prefix a x ≡ true → is_le (path_cmp a x) ≡ true
prefix_le [] [] on = refl
prefix_le [] (y ∷ x) on = refl
prefix_le (s ∷ a) [] on = never on refl
prefix_le (s ∷ a) (y ∷ x) on =
    ap (λ o. is_le (ordering_then o (path_cmp a x)))
    (ap (nat_cmp s) (sym (eqb-true s y (first_so (nat_eq s y) (is_prefix a x) on))) ∙ tied_itself nat_cmp_total s)
    ∙ prefix_le a x (second_so (nat_eq s y) (is_prefix a x) on)

le_then_lt : (a e x : List ℕ) → is_le (path_cmp a e) ≡ true → path_cmp e x ≡ Less → is_le (path_cmp a x) ≡ true
le_then_lt a e x le lt = by (path_cmp a e) refl
  where
    by : (o : Ordering) → path_cmp a e ≡ o → is_le (path_cmp a x) ≡ true
    by Less g = ap is_le (path_total.trans a e x g lt)
    by Equal g = ap is_le (path_total.congr a e x g ∙ lt)
    by Greater g = never le (ap is_le g)

-- no entry after one that is not below the path is below it
pub none_later : (a p : List ℕ) (es : List Entry) → is_le (path_cmp a p) ≡ true → is_prefix a p ≡ false → AllAfter p es → list_any (λ e. is_prefix a e.0 && is_written e.1) es ≡ false
none_later a p [] le off after = refl
none_later a p (e ∷ es) le off after =
    (λ i. (off_here i && is_written e.1) || none_later a p es le off after.1 i)
  where
    off_here : is_prefix a e.0 ≡ false
    off_here = false_if (is_prefix a e.0) (λ on. sym off ∙ convex a p e.0 on le after.0)

AllFrom : List ℕ → List Entry → Type 0
AllFrom a es = AllByRecursion (λ y. is_le (path_cmp a y) ≡ true) (keys_of es)

all_from : (a p : List ℕ) (es : List Entry) → is_le (path_cmp a p) ≡ true → AllAfter p es → AllFrom a es
unfolding AllFrom
all_from a p [] le after = tt
all_from a p (e ∷ es) le after = (le_then_lt a p e.0 le after.0, all_from a p es le after.1)

taken_from : (a : List ℕ) (es : List Entry) → IsInOrder es → AllFrom a es
    → list_any (λ e. is_written e.1) (take_while (λ e. is_prefix a e.0) es) ≡ list_any (λ e. is_prefix a e.0 && is_written e.1) es
unfolding AllFrom
taken_from a [] order from = refl
taken_from a (e ∷ es) order from = by (told (is_prefix a e.0)) (taken_from a es (order_tail e es order) from.1)
  where
    n : ℕ
    n = prefix_len (λ (x : Entry). is_prefix a x.0) es

    by : (is_prefix a e.0 ≡ true) ⊎ (is_prefix a e.0 ≡ false)
        → list_any (λ e. is_written e.1) (take_while (λ e. is_prefix a e.0) es) ≡ list_any (λ e. is_prefix a e.0 && is_written e.1) es
        → list_any (λ e. is_written e.1) (take_while (λ e. is_prefix a e.0) (e ∷ es)) ≡ ((is_prefix a e.0 && is_written e.1) || list_any (λ e. is_prefix a e.0 && is_written e.1) es)
    by (inl on) rest =
        ap (λ b. list_any (λ (x : Entry). is_written x.1) (take (cond b (1 + n) 0) (e ∷ es))) on
        ∙ ap (λ m. list_any (λ (x : Entry). is_written x.1) (take m (e ∷ es))) (add_comm 1 n ∙ add-one n)
        ∙ ap (λ b. is_written e.1 || b) rest
        ∙ sym (ap (λ b. (b && is_written e.1) || list_any (λ (x : Entry). is_prefix a x.0 && is_written x.1) es) on)
    by (inr off) rest =
        ap (λ b. list_any (λ (x : Entry). is_written x.1) (take (cond b (1 + n) 0) (e ∷ es))) off
        ∙ sym (none_later a e.0 es (from.0) off (order_head e es order))
        ∙ sym (ap (λ b. (b && is_written e.1) || list_any (λ (x : Entry). is_prefix a x.0 && is_written x.1) es) off)

kept_all : (a : List ℕ) (es : List Entry) → AllFrom a es → entries_between path_cmp (Included a) Unbounded es ≡ es
unfolding AllFrom
kept_all a [] from = refl
kept_all a (e ∷ es) from =
    ap (λ b. cond b (e ∷ entries_between path_cmp (Included a) Unbounded es) (entries_between path_cmp (Included a) Unbounded es)) (and_true (is_le (path_cmp a e.0)) ∙ from.0)
    ∙ ap (λ xs. e ∷ xs) (kept_all a es from.1)

pub touched_from : (a : List ℕ) (es : List Entry) → IsInOrder es
    → list_any (λ e. is_written e.1) (take_while (λ e. is_prefix a e.0) (entries_between path_cmp (Included a) Unbounded es)) ≡ is_touched es a
unfolding AllFrom
touched_from a [] order = refl
touched_from a (e ∷ es) order = by (told (is_le (path_cmp a e.0))) (touched_from a es (order_tail e es order))
  where
    by : (is_le (path_cmp a e.0) ≡ true) ⊎ (is_le (path_cmp a e.0) ≡ false)
        → list_any (λ e. is_written e.1) (take_while (λ e. is_prefix a e.0) (entries_between path_cmp (Included a) Unbounded es)) ≡ is_touched es a
        → list_any (λ e. is_written e.1) (take_while (λ e. is_prefix a e.0) (entries_between path_cmp (Included a) Unbounded (e ∷ es))) ≡ is_touched (e ∷ es) a
    by (inl le) rest =
        let from : AllFrom a es = all_from a e.0 es le (order_head e es order) in
        ap (λ xs. list_any (λ (e : Entry). is_written e.1) (take_while (λ (e : Entry). is_prefix a e.0) xs)) (kept_all a (e ∷ es) (le, from))
        ∙ taken_from a (e ∷ es) order (le, from)
    by (inr past) rest =
        ap (λ b. list_any (λ (e : Entry). is_written e.1) (take_while (λ (e : Entry). is_prefix a e.0) (cond b (e ∷ entries_between path_cmp (Included a) Unbounded es) (entries_between path_cmp (Included a) Unbounded es))))
        (and_true (is_le (path_cmp a e.0)) ∙ past)
        ∙ rest
        ∙ sym (ap (λ b. (b && is_written e.1) || is_touched es a) (false_if (is_prefix a e.0) (λ on. sym past ∙ prefix_le a e.0 on)))

-- the path of the k-th fresh page
pub fresh_at : (es all : List Entry) (o : Option Entry) (k : ℕ) → o ≡ slice_get (filter (is_fresh all) es) k → es ≡ all
    → option_map (λ (e : Entry). e.0) o ≡ slice_get (fresh_paths all) k
fresh_at es all o k is same_entries =
    ap (option_map (λ (e : Entry). e.0)) (is ∙ ap (λ (xs : List Entry). slice_get (filter (is_fresh all) xs) k) same_entries)
    ∙ sym (slice_get-map (λ (e : Entry). e.0) (filter (is_fresh all) all) k)

-- ---- the fresh paths, listed one after the other

abbrev paths_in : List Entry → List Entry → List (List ℕ)
paths_in all es = map (λ (e : Entry). e.0) (filter (is_fresh all) es)

-- so far these are listed, and the entries `rest` are left
abbrev pub IsListed : List Entry → List Entry → List (List ℕ) → Type 0
IsListed all rest listed = listed ++ paths_in all rest ≡ fresh_paths all

-- one fresh path more
pub listed_more : (all rest : List Entry) (e : Entry) (listed : List (List ℕ)) → is_fresh all e ≡ true → IsListed all (e ∷ rest) listed → IsListed all rest (listed ++ e.0 ∷ [])
listed_more all rest e listed fresh so_far =
    append_assoc listed (e.0 ∷ []) (paths_in all rest)
    ∙ ap (λ b. listed ++ map (λ (x : Entry). x.0) (cond b (e ∷ filter (is_fresh all) rest) (filter (is_fresh all) rest))) (sym fresh)
    ∙ so_far

-- one that is not fresh
pub listed_same : (all rest : List Entry) (e : Entry) (listed : List (List ℕ)) → is_fresh all e ≡ false → IsListed all (e ∷ rest) listed → IsListed all rest listed
listed_same all rest e listed stale so_far =
    ap (λ b. listed ++ map (λ (x : Entry). x.0) (cond b (e ∷ filter (is_fresh all) rest) (filter (is_fresh all) rest))) (sym stale) ∙ so_far

-- there is room for it
pub listed_room : (all rest : List Entry) (e : Entry) (listed : List (List ℕ)) → is_fresh all e ≡ true → IsListed all (e ∷ rest) listed → length listed < length all
listed_room all rest e listed fresh so_far =
    let whole : length (listed ++ e.0 ∷ []) + length (paths_in all rest) ≡ length (fresh_paths all) =
    sym (length-append (listed ++ e.0 ∷ []) (paths_in all rest)) ∙ ap length (listed_more all rest e listed fresh so_far) in
    omega (arith, whole, length-append listed (e.0 ∷ []), few_paths all)

pub listed_all : (all : List Entry) (listed : List (List ℕ)) → IsListed all [] listed → listed ≡ fresh_paths all
listed_all all listed so_far = sym (append-nil listed) ∙ so_far

pub listed_start : (all rest : List Entry) (listed : List (List ℕ)) → listed ≡ [] → rest ≡ all → IsListed all rest listed
listed_start all rest listed none whole = λ i. none i ++ paths_in all (whole i)
