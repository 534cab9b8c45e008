-- Lists of places without repeats, and how the accesses of an update grow step by step.
use Rattle.std.proofs.Common.{◌≡◌, ℕ, ◌+◌, Bool, true, false, not, ◌&&◌, ◌||◌, cond, List, [], ◌∷◌, ◌++◌, ◌⊎◌, inl, inr, refl, sym, ap, subst, ◌∙◌, map, filter, append_assoc, append-nil, add-one, Option, Some, None, Less, Equal, Greater, Ordering, is_lt}
use Rattle.std.specs.Cmp.{tied_itself, first_so, second_so}
use Rattle.std.specs.FinSet as set
use Rattle.afs_base.specs.declared.kind.Kind.TheVariants.{Data}
use Rattle.tree_model.specs.declared.step.Step.{Step}
use Rattle.tree_model.specs.declared.step.Step.TheVariants.{ReadAt, ListAt, WriteAt, MakeAt, DropAt}
use Rattle.tree_model.specs.Trees.{Tree, has, path_of, numbers_below, after, tree_after}
use Rattle.tree_model.specs.Accesses.{Place, place_cmp, is_among, slot_of, way_to, on_the_way, step_reads, step_writes, all_reads, all_writes, IsClash, KeepsVisible}
use Rattle.tree_model.specs.Gathered.{are_distinct, with_place, with_places, lesser, least_with}
use Rattle.tree_model.proofs.Paths.{told, never, both_true, or_told, or_left, or_right, not_true, same_test, false_if}
use Rattle.tree_model.proofs.PlaceFacts.{place_total, place_only, same_place, same_place_self, same_place_is, among_append, among_told, map_push}

-- ---- lists without repeats

pub with_places_append : (xs ys zs : List Place) → with_places xs (ys ++ zs) ≡ with_places (with_places xs ys) zs
with_places_append xs [] zs = refl
with_places_append xs (y ∷ ys) zs = with_places_append (with_place xs y) ys zs

among_push : (xs : List Place) (y x : Place) → is_among (xs ++ y ∷ []) x ≡ (is_among xs x || same_place x y)
among_push xs y x = among_append xs (y ∷ []) x ∙ ap (λ b. is_among xs x || b) (or_false (same_place x y))
  where
    or_false : (b : Bool) → (b || false) ≡ b
    or_false true = refl
    or_false false = refl

among_with_place : (xs : List Place) (y x : Place) → is_among (with_place xs y) x ≡ (is_among xs x || same_place x y)
among_with_place xs y x = by (told (is_among xs y))
  where
    by : (is_among xs y ≡ true) ⊎ (is_among xs y ≡ false) → is_among (with_place xs y) x ≡ (is_among xs x || same_place x y)
    by (inl e) = ap (λ b. is_among (cond b xs (xs ++ y ∷ [])) x) e
        ∙ same_test (is_among xs x) (is_among xs x || same_place x y) (λ h. or_left _ _ h)
        (λ h. elim (or_told _ _ h) [ inl g ↦ g | inr g ↦ ap (is_among xs) (same_place_is x y g) ∙ e ])
    by (inr e) = ap (λ b. is_among (cond b xs (xs ++ y ∷ [])) x) e ∙ among_push xs y x

or_assoc : (a b c : Bool) → ((a || b) || c) ≡ (a || (b || c))
or_assoc true b c = refl
or_assoc false b c = refl

-- a place is among the places with more where it is among either
pub among_with_places : (xs ys : List Place) (x : Place) → is_among (with_places xs ys) x ≡ (is_among xs x || is_among ys x)
among_with_places xs [] x = by (is_among xs x)
  where
    by : (b : Bool) → b ≡ (b || false)
    by true = refl
    by false = refl
among_with_places xs (y ∷ ys) x =
    among_with_places (with_place xs y) ys x
    ∙ ap (λ b. b || is_among ys x) (among_with_place xs y x)
    ∙ or_assoc (is_among xs x) (same_place x y) (is_among ys x)

-- gathered places are the places
pub gathered : (ys : List Place) (x : Place) → is_among (with_places [] ys) x ≡ is_among ys x
gathered ys x = among_with_places [] ys x

distinct_push : (xs : List Place) (y : Place) → are_distinct xs ≡ true → is_among xs y ≡ false → are_distinct (xs ++ y ∷ []) ≡ true
distinct_push [] y d h = refl
distinct_push (x ∷ xs) y d h =
    let apart : is_among (xs ++ y ∷ []) x ≡ false =
    false_if _ (λ among. elim (or_told (is_among xs x) (same_place x y) (sym (among_push xs y x) ∙ among)) [
      | inl e ↦ sym (not_true _ (first_so _ _ d)) ∙ e
      | inr e ↦ sym h ∙ or_left (same_place y x) (is_among xs y) (ap (λ z. same_place z x) (sym (same_place_is x y e)) ∙ same_place_self x)
    ]) in
    both_true _ _ (ap not apart) (distinct_push xs y (second_so _ _ d) (false_if _ (λ e. sym h ∙ or_right (same_place y x) _ e)))

pub distinct_with_place : (xs : List Place) (y : Place) → are_distinct xs ≡ true → are_distinct (with_place xs y) ≡ true
distinct_with_place xs y d = by (told (is_among xs y))
  where
    by : (is_among xs y ≡ true) ⊎ (is_among xs y ≡ false) → are_distinct (with_place xs y) ≡ true
    by (inl e) = ap (λ b. are_distinct (cond b xs (xs ++ y ∷ []))) e ∙ d
    by (inr e) = ap (λ b. are_distinct (cond b xs (xs ++ y ∷ []))) e ∙ distinct_push xs y d e

pub distinct_with_places : (xs ys : List Place) → are_distinct xs ≡ true → are_distinct (with_places xs ys) ≡ true
distinct_with_places xs [] d = d
distinct_with_places xs (y ∷ ys) d = distinct_with_places (with_place xs y) ys (distinct_with_place xs y d)

-- what a filter keeps was there
pub among_filter : (test : Place → Bool) (xs : List Place) (x : Place) → is_among (filter test xs) x ≡ true → is_among xs x ≡ true
among_filter test [] x h = h
among_filter test (y ∷ xs) x h = by (told (test y)) (among_filter test xs x)
  where
    by : (test y ≡ true) ⊎ (test y ≡ false) → (is_among (filter test xs) x ≡ true → is_among xs x ≡ true) → is_among (y ∷ xs) x ≡ true
    by (inl e) rest = elim (or_told (same_place x y) (is_among (filter test xs) x) (ap (λ b. is_among (cond b (y ∷ filter test xs) (filter test xs)) x) (sym e) ∙ h)) [
      | inl g ↦ or_left _ _ g
      | inr g ↦ or_right _ _ (rest g)
    ]
    by (inr e) rest = or_right _ _ (rest (ap (λ b. is_among (cond b (y ∷ filter test xs) (filter test xs)) x) (sym e) ∙ h))

-- a filter leaves no place twice where none was
pub distinct_filter : (test : Place → Bool) (xs : List Place) → are_distinct xs ≡ true → are_distinct (filter test xs) ≡ true
distinct_filter test [] d = refl
distinct_filter test (x ∷ xs) d = by (test x) (distinct_filter test xs (second_so _ _ d))
  where
    by : (b : Bool) → are_distinct (filter test xs) ≡ true → are_distinct (cond b (x ∷ filter test xs) (filter test xs)) ≡ true
    by true rest = both_true _ _ (ap not (false_if _ (λ e. sym (not_true _ (first_so _ _ d)) ∙ among_filter test xs x e))) rest
    by false rest = rest

-- a place is among those that a filter keeps where it was there and passes
pub among_filter_is : (test : Place → Bool) (xs : List Place) (x : Place) → is_among (filter test xs) x ≡ (is_among xs x && test x)
among_filter_is test xs x = same_test (is_among (filter test xs) x) (is_among xs x && test x)
    (λ h. both_true _ _ (among_filter test xs x h) (passes xs h))
    (λ h. keeps xs (first_so (is_among xs x) (test x) h) (second_so (is_among xs x) (test x) h))
  where
    passes : (xs : List Place) → is_among (filter test xs) x ≡ true → test x ≡ true
    passes [] h = never h refl
    passes (y ∷ xs) h = by (told (test y)) (passes xs)
      where
        by : (test y ≡ true) ⊎ (test y ≡ false) → (is_among (filter test xs) x ≡ true → test x ≡ true) → test x ≡ true
        by (inl e) rest = elim (among_told y (filter test xs) x (ap (λ b. is_among (cond b (y ∷ filter test xs) (filter test xs)) x) (sym e) ∙ h)) [
          | inl is ↦ ap test is ∙ e
          | inr g ↦ rest g
        ]
        by (inr e) rest = rest (ap (λ b. is_among (cond b (y ∷ filter test xs) (filter test xs)) x) (sym e) ∙ h)

    keeps : (xs : List Place) → is_among xs x ≡ true → test x ≡ true → is_among (filter test xs) x ≡ true
    keeps [] h t = never h refl
    keeps (y ∷ xs) h t = by (told (test y)) (λ g. keeps xs g t)
      where
        by : (test y ≡ true) ⊎ (test y ≡ false) → (is_among xs x ≡ true → is_among (filter test xs) x ≡ true) → is_among (filter test (y ∷ xs)) x ≡ true
        by (inl e) rest = ap (λ b. is_among (cond b (y ∷ filter test xs) (filter test xs)) x) e
            ∙ elim (among_told y xs x h) [ inl is ↦ or_left _ _ (ap (λ (z : Place). same_place z y) is ∙ same_place_self y) | inr g ↦ or_right _ _ (rest g) ]
        by (inr e) rest = ap (λ b. is_among (cond b (y ∷ filter test xs) (filter test xs)) x) e
            ∙ elim (among_told y xs x h) [ inl is ↦ never (sym (ap test is) ∙ t) e | inr g ↦ rest g ]

-- lists with the same places are the same set
pub same_places : (xs ys : List Place) → ((x : Place) → is_among xs x ≡ is_among ys x) → set.from_list {R = place_cmp} xs ≡ set.from_list ys
same_places xs ys is = set.same_set place_total place_only _ _ (λ x. set.contains-from_list place_total xs x ∙ is x ∙ sym (set.contains-from_list place_total ys x))

-- a filter keeps of a set what passes
pub filtered_set : (test : Place → Bool) (xs : List Place) → set.from_list {R = place_cmp} (filter test xs) ≡ set.retain (set.from_list xs) test
filtered_set test xs = set.same_set place_total place_only _ _ (λ x.
    set.contains-from_list place_total (filter test xs) x
    ∙ among_filter_is test xs x
    ∙ ap (λ b. b && test x) (sym (set.contains-from_list place_total xs x))
    ∙ sym (set.contains-retain (set.from_list xs) test x (λ y e. ap test (sym (place_only x y e)))))

-- the writes on pages of the tree that an update left are those that can be seen of it
pub keeps_visible : (writes : List Place) (t : Tree) → KeepsVisible writes t (filter (λ x. has t x.0) writes)
keeps_visible writes t base steps wrote left =
    filtered_set (λ x. has t x.0) writes
    ∙ (λ i. set.retain (wrote i) (λ x. has (left i) x.0))

-- ---- one step more

pub way_push : (p : List ℕ) (s : ℕ) → way_to (p ++ s ∷ []) ≡ way_to p ++ (p, s) ∷ []
way_push [] s = refl
way_push (u ∷ p) s =
    ap (λ (ways : List (List ℕ × ℕ)). ([], u) ∷ map (λ (c : List ℕ × ℕ). (u ∷ c.0, c.1)) ways) (way_push p s)
    ∙ ap (λ (ways : List (List ℕ × ℕ)). ([], u) ∷ ways) (map_push (λ (c : List ℕ × ℕ). (u ∷ c.0, c.1)) (way_to p) (p, s))

pub on_the_way_child : (t : Tree) (c : List ℕ × ℕ) → on_the_way t (path_of c) ≡ on_the_way t c.0 ++ cond (has t c.0) (slot_of c ∷ []) []
on_the_way_child t c =
    ap (λ (ways : List (List ℕ × ℕ)). map slot_of (filter (λ (d : List ℕ × ℕ). has t d.0) ways)) (way_push c.0 c.1)
    ∙ filtered (way_to c.0)
  where
    filtered : (ways : List (List ℕ × ℕ)) → map slot_of (filter (λ (d : List ℕ × ℕ). has t d.0) (ways ++ c ∷ [])) ≡ map slot_of (filter (λ (d : List ℕ × ℕ). has t d.0) ways) ++ cond (has t c.0) (slot_of c ∷ []) []
    filtered [] = by (has t c.0)
      where
        by : (b : Bool) → map slot_of (cond {A = List (List ℕ × ℕ)} b (c ∷ []) []) ≡ cond b (slot_of c ∷ []) []
        by true = refl
        by false = refl
    filtered (d ∷ ways) = by (has t d.0) (filtered ways)
      where
        by : (b : Bool)
            → map slot_of (filter (λ (d : List ℕ × ℕ). has t d.0) (ways ++ c ∷ [])) ≡ map slot_of (filter (λ (d : List ℕ × ℕ). has t d.0) ways) ++ cond (has t c.0) (slot_of c ∷ []) []
            → map slot_of (cond b (d ∷ filter (λ (d : List ℕ × ℕ). has t d.0) (ways ++ c ∷ [])) (filter (λ (d : List ℕ × ℕ). has t d.0) (ways ++ c ∷ [])))
            ≡ map slot_of (cond b (d ∷ filter (λ (d : List ℕ × ℕ). has t d.0) ways) (filter (λ (d : List ℕ × ℕ). has t d.0) ways)) ++ cond (has t c.0) (slot_of c ∷ []) []
        by true rest = ap (λ xs. slot_of d ∷ xs) rest
        by false rest = rest

pub tree_after_more : (t : Tree) (steps : List Step) (step : Step) → tree_after t (steps ++ step ∷ []) ≡ after (tree_after t steps) step
tree_after_more t [] step = refl
tree_after_more t (s ∷ steps) step = tree_after_more (after t s) steps step

pub all_writes_more : (t : Tree) (steps : List Step) (step : Step) → all_writes t (steps ++ step ∷ []) ≡ all_writes t steps ++ step_writes (tree_after t steps) step
all_writes_more t [] step = append-nil _
all_writes_more t (s ∷ steps) step =
    ap (λ xs. step_writes t s ++ xs) (all_writes_more (after t s) steps step) ∙ sym (append_assoc (step_writes t s) _ _)

pub all_reads_more : (t : Tree) (done : List Place) (steps : List Step) (step : Step)
    → all_reads t done (steps ++ step ∷ []) ≡ all_reads t done steps ++ step_reads (tree_after t steps) (done ++ all_writes t steps) step
all_reads_more t done [] step = append-nil _ ∙ ap (λ xs. step_reads t xs step) (sym (append-nil done))
all_reads_more t done (s ∷ steps) step =
    ap (λ xs. step_reads t done s ++ xs)
    (all_reads_more (after t s) (done ++ step_writes t s) steps step
    ∙ ap (λ ys. all_reads (after t s) (done ++ step_writes t s) steps ++ step_reads (tree_after (after t s) steps) ys step) (append_assoc done (step_writes t s) _))
    ∙ sym (append_assoc (step_reads t done s) _ _)

-- what a step reads depends on what was written before by its places alone
pub step_reads_same : (t : Tree) (xs ys : List Place) (step : Step) → ((x : Place) → is_among xs x ≡ is_among ys x) → step_reads t xs step ≡ step_reads t ys step
step_reads_same t xs ys (ReadAt p) is = ap (λ b. on_the_way t p ++ cond (has t p && not b) ((p, Data) ∷ []) []) (is (p, Data))
step_reads_same t xs ys (ListAt p) is = refl
step_reads_same t xs ys (WriteAt p bytes) is = refl
step_reads_same t xs ys (MakeAt c) is = refl
step_reads_same t xs ys (DropAt c) is = refl

-- one more slot of a page
pub slots_more : (init : List Place) (at : List ℕ) (n : ℕ)
    → with_place (with_places init (map (λ s. slot_of (at, s)) (numbers_below n))) (slot_of (at, n)) ≡ with_places init (map (λ s. slot_of (at, s)) (numbers_below (n + 1)))
unfolding numbers_below
slots_more init at n =
    sym (with_places_append init (map (λ s. slot_of (at, s)) (numbers_below n)) (slot_of (at, n) ∷ []))
    ∙ ap (with_places init) (sym (map_push (λ s. slot_of (at, s)) (numbers_below n) n))
    ∙ ap (λ (m : ℕ). with_places init (map (λ s. slot_of (at, s)) (numbers_below m))) (sym (add-one n))

-- one more slot on the way
pub way_more : (init : List Place) (t : Tree) (c : List ℕ × ℕ) (at : List ℕ) → path_of c ≡ at
    → with_places (with_places init (on_the_way t c.0)) (cond (has t c.0) (slot_of c ∷ []) []) ≡ with_places init (on_the_way t at)
way_more init t c at is =
    sym (with_places_append init (on_the_way t c.0) (cond (has t c.0) (slot_of c ∷ []) []))
    ∙ ap (with_places init) (sym (on_the_way_child t c) ∙ ap (on_the_way t) is)

-- what stands gathered after the first steps of an update
pub record Gathers (base : Tree) (steps : List Step) (t : Tree) (rs ws : List Place) : Type 0 where
  pub tree : t ≡ tree_after base steps
  pub reads : rs ≡ with_places [] (all_reads base [] steps)
  pub writes : ws ≡ with_places [] (all_writes base steps)

pub gathers_more : (base : Tree) (steps : List Step) (step : Step) (tree : Tree) (reads writes : List Place) → Gathers base steps tree reads writes
    → Gathers base (steps ++ step ∷ []) (after tree step) (with_places reads (step_reads tree writes step)) (with_places writes (step_writes tree step))
gathers_more base steps step tree reads writes g = record {
  tree = ap (λ (t : Tree). after t step) g.tree ∙ sym (tree_after_more base steps step);
  reads =
      (λ i. with_places (g.reads i) (step_reads (g.tree i) writes step))
      ∙ ap (with_places (with_places [] (all_reads base [] steps)))
      (step_reads_same (tree_after base steps) writes (all_writes base steps) step (λ x. ap (λ ys. is_among ys x) g.writes ∙ gathered (all_writes base steps) x))
      ∙ sym (with_places_append [] (all_reads base [] steps) (step_reads (tree_after base steps) (all_writes base steps) step))
      ∙ ap (with_places []) (sym (all_reads_more base [] steps step));
  writes =
      (λ i. with_places (g.writes i) (step_writes (g.tree i) step))
      ∙ sym (with_places_append [] (all_writes base steps) (step_writes (tree_after base steps) step))
      ∙ ap (with_places []) (sym (all_writes_more base steps step));
}

-- gathered places are distinct, and the set of the places
pub gathered_distinct : (ys : List Place) → are_distinct (with_places [] ys) ≡ true
gathered_distinct ys = distinct_with_places [] ys refl

pub gathered_set : (ys : List Place) → set.from_list {R = place_cmp} (with_places [] ys) ≡ set.from_list ys
gathered_set ys = same_places (with_places [] ys) ys (gathered ys)

-- ---- the least place so far

less : (r : Ordering) → is_lt r ≡ true → r ≡ Less
less Less h = refl
less Equal h = never h refl
less Greater h = never h refl

not_below_itself : (x : Place) → is_lt (place_cmp x x) ≡ false
not_below_itself x = ap is_lt (tied_itself place_total x)

-- the next place is looked at: it is the least where it is in both, and below the least so far
pub clash_more : (xs ys : List Place) (x : Place) (least : Option Place) → IsClash (set.from_list xs) (set.from_list ys) least
    → IsClash (set.from_list (xs ++ x ∷ [])) (set.from_list ys) (least_with ys least x)
clash_more xs ys x least first = by least (told (is_among ys x)) first
  where
    seen : (zs : List Place) (z : Place) → set.contains (set.from_list {R = place_cmp} zs) z ≡ is_among zs z
    seen zs z = set.contains-from_list place_total zs z

    more : (z : Place) → set.contains (set.from_list {R = place_cmp} (xs ++ x ∷ [])) z ≡ true → (set.contains (set.from_list {R = place_cmp} xs) z ≡ true) ⊎ (z ≡ x)
    more z h = elim (or_told _ _ (sym (among_push xs x z) ∙ sym (seen (xs ++ x ∷ []) z) ∙ h)) [ inl e ↦ inl (seen xs z ∙ e) | inr e ↦ inr (same_place_is z x e) ]

    still : (z : Place) → set.contains (set.from_list {R = place_cmp} xs) z ≡ true → set.contains (set.from_list {R = place_cmp} (xs ++ x ∷ [])) z ≡ true
    still z h = seen (xs ++ x ∷ []) z ∙ among_push xs x z ∙ or_left _ _ (sym (seen xs z) ∙ h)

    itself : set.contains (set.from_list {R = place_cmp} (xs ++ x ∷ [])) x ≡ true
    itself = seen (xs ++ x ∷ []) x ∙ among_push xs x x ∙ or_right _ _ (same_place_self x)

    lower : (l : Place) → (is_lt (place_cmp x l) ≡ true) ⊎ (is_lt (place_cmp x l) ≡ false) → is_among ys x ≡ true → IsClash (set.from_list xs) (set.from_list ys) (Some l)
        → IsClash (set.from_list (xs ++ x ∷ [])) (set.from_list ys) (cond (is_lt (place_cmp x l)) (Some x) (Some l))
    lower l (inl e) there was =
        let F : Bool → Type 0 = λ b. IsClash (set.from_list (xs ++ x ∷ [])) (set.from_list ys) (cond b (Some x) (Some l)) in
        subst F (sym e) (
          itself,
          seen ys x ∙ there,
          λ z h g. elim (more z h) [
            | inl old ↦ false_if _ (λ below. sym (was.2 z old g) ∙ ap is_lt (place_total.trans z x l (less _ below) (less _ e)))
            | inr is ↦ ap (λ (y : Place). is_lt (place_cmp y x)) is ∙ not_below_itself x
          ],
        )
    lower l (inr e) there was =
        let F : Bool → Type 0 = λ b. IsClash (set.from_list (xs ++ x ∷ [])) (set.from_list ys) (cond b (Some x) (Some l)) in
        subst F (sym e) (
          still l was.0,
          was.1,
          λ z h g. elim (more z h) [
            | inl old ↦ was.2 z old g
            | inr is ↦ ap (λ (y : Place). is_lt (place_cmp y l)) is ∙ e
          ],
        )

    by : (o : Option Place) → (is_among ys x ≡ true) ⊎ (is_among ys x ≡ false) → IsClash (set.from_list xs) (set.from_list ys) o
        → IsClash (set.from_list (xs ++ x ∷ [])) (set.from_list ys) (least_with ys o x)
    by None (inl e) was =
        let F : Bool → Type 0 = λ b. IsClash (set.from_list (xs ++ x ∷ [])) (set.from_list ys) (cond b (Some x) None) in
        subst F (sym e) (
          itself,
          seen ys x ∙ e,
          λ z h g. elim (more z h) [
            | inl old ↦ never g (was z old)
            | inr is ↦ ap (λ (y : Place). is_lt (place_cmp y x)) is ∙ not_below_itself x
          ],
        )
    by None (inr e) was =
        let F : Bool → Type 0 = λ b. IsClash (set.from_list (xs ++ x ∷ [])) (set.from_list ys) (cond b (Some x) None) in
        subst F (sym e) (λ z h. elim (more z h) [
          | inl old ↦ was z old
          | inr is ↦ seen ys z ∙ ap (is_among ys) is ∙ e
        ])
    by (Some l) (inl e) was =
        let F : Bool → Type 0 = λ b. IsClash (set.from_list (xs ++ x ∷ [])) (set.from_list ys) (cond b (lesser (Some l) x) (Some l)) in
        subst F (sym e) (lower l (told (is_lt (place_cmp x l))) e was)
    by (Some l) (inr e) was =
        let F : Bool → Type 0 = λ b. IsClash (set.from_list (xs ++ x ∷ [])) (set.from_list ys) (cond b (lesser (Some l) x) (Some l)) in
        subst F (sym e) (
          still l was.0,
          was.1,
          λ z h g. elim (more z h) [
            | inl old ↦ was.2 z old g
            | inr is ↦ never (sym (ap (is_among ys) is) ∙ sym (seen ys z) ∙ g) e
          ],
        )

-- no place is read before the first one is looked at
pub clash_none : (ys : List Place) → IsClash (set.from_list []) (set.from_list ys) None
clash_none ys x h = never h (set.contains-empty place_cmp x)
