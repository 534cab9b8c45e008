-- The bound of a line is a small number: an update has few steps, so it accesses few pages, and few are fresh.
use Rattle.std.proofs.Common.{◌≡◌, ◌⊎◌, inl, inr, ℕ, suc, ◌+◌, ◌*◌, ◌^◌, ◌≤◌, ◌==◌, nat_lt, Bool, true, false, not, ◌&&◌, cond, T, nat_eq, List, [], ◌∷◌, ◌++◌, map, filter, length, slice_get, zero, Option, Some, None, All, refl, sym, ap, ◌∙◌, arith, length-append, sum_by, eqb-true, mul-suc}
use Rattle.std.specs.FinMap as finite
use Rattle.std.specs.FinMap.Entries.{is_sorted, below_all}
use Rattle.std.specs.Cmp.{first_so, second_so}
use Rattle.std.specs.List.{list_all, list_any}
use Rattle.std.specs.Prelude.{Contains, get_or}
use Rattle.std.proofs.lemmas.Option.{slice_get-get_or}
use Rattle.block_map.proofs.Marking.{slice_get-lt}
use Rattle.std.specs.Option.{option_map_or}
use Rattle.std.specs.Ordering.{is_lt}
use Rattle.std.proofs.lemmas.List.{length-map}
use Rattle.std.proofs.lemmas.List.Elements.{All-head, All-tail}
use Rattle.std.proofs.lemmas.List.Folds.{list_any-append}
use Rattle.std.proofs.lemmas.List.Sums.{length-filter, sum_by-cons}
use Rattle.afs_base.specs.Path.{path_cmp, is_prefix}
use Rattle.afs_base.specs.declared.kind.Kind.TheVariants.{Data}
use Rattle.draft_model.specs.Told.{are_rising, is_one_of}
use Rattle.joint_walk.specs.Later.{did_access, is_path_of}
use Rattle.joint_walk.proofs.Counting.{no_longer}
use Rattle.page_places.specs.Places.{same}
use Rattle.script_text.specs.declared.command.Command.{Command}
use Rattle.script_text.specs.declared.command.Command.TheVariants.{Begin, Super, Pick, Do, Commit, Abandon, Create, Destroy, Prune, Restrict}
use Rattle.script_text.specs.declared.script.Line.{Line}
use Rattle.service_model.specs.Sound.{IsOpenAt, IsSound, IsTreeStep}
use Rattle.service_model.specs.Standing.{Made, Scripts, Standing, Update, Work, client_of, has_writes, is_written, need, next_line, step_count, top_and_written}
use Rattle.tree_model.specs.declared.step.Step.{Step}
use Rattle.tree_model.specs.declared.step.Step.TheVariants.{ReadAt, ListAt, WriteAt, MakeAt, DropAt}
use Rattle.tree_model.specs.Accesses.{Place, all_reads, all_writes, fresh_as_top, fresh_of, is_among, on_the_way, own_reads, slot_of, slots_at, step_reads, step_writes, target, touches, way_to, written_paths}
use Rattle.tree_model.specs.Trees.{Tree, after, can_make, every_slot, has, numbers_below, path_of, tree_after}
use Rattle.tree_model.proofs.Paths.{both_true, or_left, or_right, or_told, same_is, same_self, told}
use Rattle.tree_model.proofs.PlaceFacts.{any_map}
use Rattle.ground_model.specs.Bounds.{BoundsAreSmall, command_bound, commit_bound, later_in, later_of, shared_in, shared_of}
use Rattle.ground_model.specs.Leaves.{made_of}
use Rattle.std.proofs.lemmas.Nat.{mul-le}
use Rattle.ground_model.proofs.Bounded.{kept_has}
use Rattle.ground_model.proofs.FewMade.{filter_le}

-- ---- lists of paths in order

abbrev Page : Type 0
Page = List ℕ × List ℕ

truth : (b : Bool) → T b → b ≡ true
truth true h = refl
truth false h = absurd h

below_keys : (p : List ℕ) (es : List Page) → below_all path_cmp p es ≡ list_all (λ q. is_lt (path_cmp p q)) (map (λ (e : Page). e.0) es)
below_keys p [] = refl
below_keys p (e ∷ es) = ap (λ b. is_lt (path_cmp p e.0) && b) (below_keys p es)

sorted_keys : (es : List Page) → is_sorted path_cmp es ≡ are_rising (map (λ (e : Page). e.0) es)
sorted_keys [] = refl
sorted_keys (e ∷ es) = λ i. below_keys e.0 es i && sorted_keys es i

keys_rise : (t : Tree) → are_rising (finite.keys t) ≡ true
keys_rise t =
    sym (sorted_keys (finite.entries t)) ∙ truth (is_sorted path_cmp (finite.entries t)) (finite.entries_sorted t)

written_rise : (ps : List (List ℕ)) → are_rising ps ≡ true → are_rising (written_paths ps) ≡ true
written_rise [] h = refl
written_rise (p ∷ ps) h = h

fresh_rise : (t : Tree) (steps : List Step) → are_rising (fresh_as_top t steps) ≡ true
fresh_rise t steps = written_rise (fresh_of t steps) (keys_rise (finite.retain_keys (tree_after t steps) (touches (all_writes t steps))))

all_filtered : (test p : List ℕ → Bool) (ps : List (List ℕ)) → list_all p ps ≡ true → list_all p (filter test ps) ≡ true
all_filtered test p [] h = h
all_filtered test p (q ∷ ps) h = by (test q) (all_filtered test p ps (second_so (p q) (list_all p ps) h))
  where
    by : (b : Bool) → list_all p (filter test ps) ≡ true → list_all p (cond b (q ∷ filter test ps) (filter test ps)) ≡ true
    by true rest = both_true (p q) (list_all p (filter test ps)) (first_so (p q) (list_all p ps) h) rest
    by false rest = rest

filter_rises : (test : List ℕ → Bool) (ps : List (List ℕ)) → are_rising ps ≡ true → are_rising (filter test ps) ≡ true
filter_rises test [] h = h
filter_rises test (p ∷ ps) h =
    by (test p) (filter_rises test ps (second_so (list_all (λ q. is_lt (path_cmp p q)) ps) (are_rising ps) h))
  where
    by : (b : Bool) → are_rising (filter test ps) ≡ true → are_rising (cond b (p ∷ filter test ps) (filter test ps)) ≡ true
    by true rest =
        both_true (list_all (λ q. is_lt (path_cmp p q)) (filter test ps)) (are_rising (filter test ps))
        (all_filtered test (λ q. is_lt (path_cmp p q)) ps (first_so (list_all (λ q. is_lt (path_cmp p q)) ps) (are_rising ps) h)) rest
    by false rest = rest

-- what a filter keeps passes
filter_passes : (test : List ℕ → Bool) (ps : List (List ℕ)) (q : List ℕ) → is_one_of (filter test ps) q ≡ true → test q ≡ true
filter_passes test [] q h = absurd (cc h)
filter_passes test (p ∷ ps) q h = by (told (test p)) (filter_passes test ps q)
  where
    by : (test p ≡ true) ⊎ (test p ≡ false) → (is_one_of (filter test ps) q ≡ true → test q ≡ true) → test q ≡ true
    by (inl e) rest =
        elim (or_told (same q p) (is_one_of (filter test ps) q) (ap (λ b. is_one_of (cond b (p ∷ filter test ps) (filter test ps)) q) (sym e) ∙ h)) [
          | inl is ↦ ap test (same_is q p is) ∙ e
          | inr later ↦ rest later
        ]
    by (inr e) rest = rest (ap (λ b. is_one_of (cond b (p ∷ filter test ps) (filter test ps)) q) (sym e) ∙ h)

one_of_left : (ps qs : List (List ℕ)) (q : List ℕ) → is_one_of ps q ≡ true → is_one_of (ps ++ qs) q ≡ true
one_of_left ps qs q h = list_any-append (λ p. same q p) ps qs ∙ or_left (is_one_of ps q) (is_one_of qs q) h

one_of_right : (ps qs : List (List ℕ)) (q : List ℕ) → is_one_of qs q ≡ true → is_one_of (ps ++ qs) q ≡ true
one_of_right ps qs q h = list_any-append (λ p. same q p) ps qs ∙ or_right (is_one_of ps q) (is_one_of qs q) h

-- ---- how many places steps access

cond_le : {X : Type 0} (b : Bool) (xs : List X) → length (cond b xs []) ≤ length xs
cond_le true xs = omega arith
cond_le false xs = omega arith

sixteen : length every_slot ≡ 16
unfolding numbers_below
sixteen = refl

slots_count : (p : List ℕ) → length (slots_at p) ≡ 16
slots_count p = length-map every_slot (λ s. slot_of (p, s)) ∙ sixteen

way_count : (p : List ℕ) → length (way_to p) ≡ length p
way_count [] = refl
way_count (s ∷ p) = ap suc (length-map (way_to p) (λ (c : List ℕ × ℕ). (s ∷ c.0, c.1)) ∙ way_count p)

on_way_count : (t : Tree) (p : List ℕ) → length (on_the_way t p) ≤ length p
on_way_count t p =
    let all = length-map (filter (λ (c : List ℕ × ℕ). has t c.0) (way_to p)) slot_of in
    let less = filter_le (λ (c : List ℕ × ℕ). has t c.0) (way_to p) in
    let count = way_count p in
    omega (arith, all, less, count)

own_count : (t : Tree) (done : List Place) (step : Step) → length (own_reads t done step) ≤ 16
own_count t done (ReadAt p) = let most = cond_le {X = Place} (has t p && not (is_among done (p, Data))) ((p, Data) ∷ []) in omega (arith, most)
own_count t done (ListAt p) = let most = cond_le (has t p) (slots_at p) in let count = slots_count p in omega (arith, most, count)
own_count t done (WriteAt p bytes) = omega arith
own_count t done (MakeAt c) =
    let most = cond_le (can_make t c) (slots_at (path_of c)) in
    let count = slots_count (path_of c) in
    omega (arith, most, count)
own_count t done (DropAt c) = omega arith

read_count : (t : Tree) (done : List Place) (step : Step) → length (target step) ≤ 7 → length (step_reads t done step) ≤ 23
read_count t done step short =
    let way = on_way_count t (target step) in
    let own = own_count t done step in
    let both = length-append (on_the_way t (target step)) (own_reads t done step) in
    omega (arith, way, own, both, short)

write_count : (t : Tree) (step : Step) → length (step_writes t step) ≤ 18
write_count t (ReadAt p) = omega arith
write_count t (ListAt p) = omega arith
write_count t (WriteAt p bytes) = let most = cond_le {X = Place} (has t p) ((p, Data) ∷ []) in omega (arith, most)
write_count t (MakeAt c) =
    let most = cond_le (can_make t c) (slot_of c ∷ (path_of c, Data) ∷ slots_at (path_of c)) in
    let count = slots_count (path_of c) in
    omega (arith, most, count)
write_count t (DropAt c) = let most = cond_le (has t (path_of c)) (slot_of c ∷ []) in omega (arith, most)

reads_count : (t : Tree) (done : List Place) (steps : List Step) → All IsTreeStep steps → length (all_reads t done steps) ≤ 23 * length steps
reads_count t done [] all = omega arith
reads_count t done (step ∷ steps) all =
    let here = read_count t done step (All-head IsTreeStep step steps all).short in
    let rest = reads_count (after t step) (done ++ step_writes t step) steps (All-tail IsTreeStep step steps all) in
    let both = length-append (step_reads t done step) (all_reads (after t step) (done ++ step_writes t step) steps) in
    omega (arith, here, rest, both)

writes_count : (t : Tree) (steps : List Step) → length (all_writes t steps) ≤ 18 * length steps
writes_count t [] = omega arith
writes_count t (step ∷ steps) =
    let here = write_count t step in
    let rest = writes_count (after t step) steps in
    let both = length-append (step_writes t step) (all_writes (after t step) steps) in
    omega (arith, here, rest, both)

-- ---- pages that steps access

abbrev paths_of : List Place → List (List ℕ)
paths_of places = map (λ (x : Place). x.0) places

abbrev accessed : Tree → List Step → List (List ℕ)
accessed t steps = paths_of (all_reads t [] steps) ++ paths_of (all_writes t steps)

in_paths : (places : List Place) (p : List ℕ) → is_path_of places p ≡ true → is_one_of (paths_of places) p ≡ true
in_paths places p h = any_map (λ (x : Place). x.0) (λ q. same p q) places ∙ h

in_accessed : (t : Tree) (steps : List Step) (p : List ℕ) → did_access t steps p ≡ true → is_one_of (accessed t steps) p ≡ true
in_accessed t steps p h = elim (or_told (is_path_of (all_reads t [] steps) p) (is_path_of (all_writes t steps) p) h) [
  | inl e ↦ one_of_left (paths_of (all_reads t [] steps)) (paths_of (all_writes t steps)) p (in_paths (all_reads t [] steps) p e)
  | inr e ↦ one_of_right (paths_of (all_reads t [] steps)) (paths_of (all_writes t steps)) p (in_paths (all_writes t steps) p e)
]

accessed_count : (t : Tree) (steps : List Step) → All IsTreeStep steps → length (accessed t steps) ≤ 41 * length steps
accessed_count t steps all =
    let reads = reads_count t [] steps all in
    let writes = writes_count t steps in
    let both = length-append (paths_of (all_reads t [] steps)) (paths_of (all_writes t steps)) in
    let one = length-map (all_reads t [] steps) (λ (x : Place). x.0) in
    let two = length-map (all_writes t steps) (λ (x : Place). x.0) in
    omega (arith, reads, writes, both, one, two)

-- of the fresh pages of a version an update accessed few
shared_few : (w : Work) (m : Made) → All IsTreeStep w.steps → length w.steps ≤ 128 → shared_of w m ≤ 5248
shared_few w m all few =
    let test = did_access m.before w.steps in
    let fresh = fresh_as_top m.before m.steps in
    let count = length-filter test fresh in
    let most = no_longer (filter test fresh) (accessed m.before w.steps) (filter_rises test fresh (fresh_rise m.before m.steps))
    (λ p h. in_accessed m.before w.steps p (filter_passes test fresh p h)) in
    let all_accessed = accessed_count m.before w.steps all in
    omega (arith, count, most, all_accessed, few)

-- ---- fresh pages

-- the paths on the way to a path, and itself
abbrev prefixes : List ℕ → List (List ℕ)
prefixes [] = [] ∷ []
prefixes (s ∷ p) = [] ∷ map (λ q. s ∷ q) (prefixes p)

prefix_count : (p : List ℕ) → length (prefixes p) ≡ suc (length p)
prefix_count [] = refl
prefix_count (s ∷ p) = ap suc (length-map (prefixes p) (λ q. s ∷ q) ∙ prefix_count p)

map_in : (t : ℕ) (ps : List (List ℕ)) (p : List ℕ) → is_one_of ps p ≡ true → is_one_of (map (λ q. t ∷ q) ps) (t ∷ p) ≡ true
map_in t [] p h = absurd (cc h)
map_in t (q ∷ ps) p h =
    let later : List (List ℕ) = map (λ x. t ∷ x) ps in
    elim (or_told (same p q) (is_one_of ps p) h) [
      | inl e ↦ or_left (same (t ∷ p) (t ∷ q)) (is_one_of later (t ∷ p)) (ap (λ x. same (t ∷ p) (t ∷ x)) (sym (same_is p q e)) ∙ same_self (t ∷ p))
      | inr e ↦ or_right (same (t ∷ p) (t ∷ q)) (is_one_of later (t ∷ p)) (map_in t ps p e)
    ]

prefix_in : (p q : List ℕ) → is_prefix p q ≡ true → is_one_of (prefixes q) p ≡ true
prefix_in [] [] h = or_left (same [] []) false (same_self [])
prefix_in [] (t ∷ q) h = or_left (same [] []) (is_one_of (map (λ x. t ∷ x) (prefixes q)) []) (same_self [])
prefix_in (s ∷ p) [] h = absurd (cc h)
prefix_in (s ∷ p) (t ∷ q) h =
    let is : s ≡ t = eqb-true s t (first_so (nat_eq s t) (is_prefix p q) h) in
    let later : List (List ℕ) = map (λ x. t ∷ x) (prefixes q) in
    ap (λ n. is_one_of (prefixes (t ∷ q)) (n ∷ p)) is
    ∙ or_right (same (t ∷ p) []) (is_one_of later (t ∷ p)) (map_in t (prefixes q) p (prefix_in p q (second_so (nat_eq s t) (is_prefix p q) h)))

-- the paths on the ways of steps
abbrev ways : List Step → List (List ℕ)
ways [] = []
ways (step ∷ steps) = prefixes (target step) ++ ways steps

ways_count : (steps : List Step) → All IsTreeStep steps → length (ways steps) ≤ 8 * length steps
ways_count [] all = omega arith
ways_count (step ∷ steps) all =
    let short = (All-head IsTreeStep step steps all).short in
    let here = prefix_count (target step) in
    let rest = ways_count steps (All-tail IsTreeStep step steps all) in
    let both = length-append (prefixes (target step)) (ways steps) in
    omega (arith, short, here, rest, both)

-- a test that is the same of all
one_test : {X : Type 0} (b : Bool) (xs : List X) → list_any (λ _. b) xs ≡ true → b ≡ true
one_test b [] h = absurd (cc h)
one_test b (x ∷ xs) h = elim (or_told b (list_any (λ _. b) xs) h) [ inl e ↦ e | inr e ↦ one_test b xs e ]

longer_way : (p q r : List ℕ) → is_prefix p q ≡ true → is_prefix p (q ++ r) ≡ true
longer_way [] q r h = refl
longer_way (s ∷ p) [] r h = absurd (cc h)
longer_way (s ∷ p) (t ∷ q) r h =
    both_true (nat_eq s t) (is_prefix p (q ++ r)) (first_so (nat_eq s t) (is_prefix p q) h) (longer_way p q r (second_so (nat_eq s t) (is_prefix p q) h))

touched_if : (b : Bool) (xs : List Place) (p : List ℕ) → touches (cond b xs []) p ≡ true → touches xs p ≡ true
touched_if true xs p h = h
touched_if false xs p h = absurd (cc h)

-- what a step writes is on the way to its path
on_way : (t : Tree) (step : Step) (p : List ℕ) → touches (step_writes t step) p ≡ true → is_prefix p (target step) ≡ true
on_way t (ReadAt q) p h = absurd (cc h)
on_way t (ListAt q) p h = absurd (cc h)
on_way t (WriteAt q bytes) p h =
    elim (or_told (is_prefix p q) false (touched_if (has t q) ((q, Data) ∷ []) p h)) [ inl e ↦ e | inr e ↦ absurd (cc e) ]
on_way t (MakeAt c) p h =
    let slots : List Place = slots_at (path_of c) in
    elim (or_told (is_prefix p c.0) (touches ((path_of c, Data) ∷ slots) p) (touched_if (can_make t c) (slot_of c ∷ (path_of c, Data) ∷ slots) p h)) [
      | inl e ↦ longer_way p c.0 (c.1 ∷ []) e
      | inr rest ↦ elim (or_told (is_prefix p (path_of c)) (touches slots p) rest) [
        | inl e ↦ e
        | inr e ↦ one_test (is_prefix p (path_of c)) every_slot (sym (any_map (λ s. slot_of (path_of c, s)) (λ (x : Place). is_prefix p x.0) every_slot) ∙ e)
      ]
    ]
on_way t (DropAt c) p h =
    elim (or_told (is_prefix p c.0) false (touched_if (has t (path_of c)) (slot_of c ∷ []) p h)) [
      | inl e ↦ longer_way p c.0 (c.1 ∷ []) e
      | inr e ↦ absurd (cc e)
    ]

in_ways : (t : Tree) (steps : List Step) (p : List ℕ) → touches (all_writes t steps) p ≡ true → is_one_of (ways steps) p ≡ true
in_ways t [] p h = absurd (cc h)
in_ways t (step ∷ steps) p h =
    let here : List Place = step_writes t step in
    let later : List Place = all_writes (after t step) steps in
    elim (or_told (touches here p) (touches later p) (sym (list_any-append (λ (x : Place). is_prefix p x.0) here later) ∙ h)) [
      | inl e ↦ one_of_left (prefixes (target step)) (ways steps) p (prefix_in p (target step) (on_way t step p e))
      | inr e ↦ one_of_right (prefixes (target step)) (ways steps) p (in_ways (after t step) steps p e)
    ]

fresh_touched : (t : Tree) (steps : List Step) (p : List ℕ) → is_one_of (fresh_of t steps) p ≡ true → touches (all_writes t steps) p ≡ true
fresh_touched t steps p h =
    let w : List Place = all_writes t steps in
    first_so (touches w p) (has (tree_after t steps) p)
    (sym (sym (finite.contains_key-keys (finite.retain_keys (tree_after t steps) (touches w)) p) ∙ kept_has (tree_after t steps) w p) ∙ h)

written_count : (ps : List (List ℕ)) → length (written_paths ps) ≤ 1 + length ps
written_count [] = omega arith
written_count (p ∷ ps) = omega arith

-- few pages are fresh
fresh_by : (t : Tree) (steps : List Step) → All IsTreeStep steps → length (fresh_as_top t steps) ≤ 1 + 8 * length steps
fresh_by t steps all =
    let most = no_longer (fresh_of t steps) (ways steps) (keys_rise (finite.retain_keys (tree_after t steps) (touches (all_writes t steps))))
    (λ p h. in_ways t steps p (fresh_touched t steps p h)) in
    let count = ways_count steps all in
    let written = written_count (fresh_of t steps) in
    omega (arith, most, count, written)

-- ---- the bound

abbrev fresh_count : Work → ℕ
fresh_count w = length (fresh_as_top w.base w.steps)

-- what is said of each file of an update
abbrev OfEach : List Work → (Work → Type 0) → Type 0
OfEach ws P = (i : ℕ) (w : Work) → slice_get ws i ≡ Some w → P w

filtered_sum : (f : Work → ℕ) (test : Work → Bool) (ws : List Work) → sum_by f (filter test ws) ≤ sum_by f ws
filtered_sum f test [] = omega arith
filtered_sum f test (w ∷ ws) = by (test w) (filtered_sum f test ws)
  where
    by : (b : Bool) → sum_by f (filter test ws) ≤ sum_by f ws → sum_by f (cond b (w ∷ filter test ws) (filter test ws)) ≤ sum_by f (w ∷ ws)
    by true rest =
        let one = sum_by-cons f w (filter test ws) in
        let all = sum_by-cons f w ws in
        omega (arith, rest, one, all)
    by false rest = let all = sum_by-cons f w ws in omega (arith, rest, all)

renewed_sum : (f : Work → ℕ) (b : Bool) (ws : List Work) → sum_by f (cond b (top_and_written ws) (filter is_written ws)) ≤ sum_by f ws
renewed_sum f true [] = omega arith
renewed_sum f true (w ∷ ws) =
    let rest = filtered_sum f is_written ws in
    let one = sum_by-cons f w (filter is_written ws) in
    let all = sum_by-cons f w ws in
    omega (arith, rest, one, all)
renewed_sum f false ws = filtered_sum f is_written ws

fresh_sum : (ws : List Work) → OfEach ws (λ w. All IsTreeStep w.steps) → sum_by fresh_count ws ≤ length ws + 8 * sum_by (λ (w : Work). length w.steps) ws
fresh_sum [] all = omega arith
fresh_sum (w ∷ ws) all =
    let here = fresh_by w.base w.steps (all 0 w refl) in
    let rest = fresh_sum ws (λ i x is. all (suc i) x is) in
    let sum = sum_by-cons fresh_count w ws in
    let steps = sum_by-cons (λ (x : Work). length x.steps) w ws in
    omega (arith, here, rest, sum, steps)

sum_most : {X : Type 0} (f : X → ℕ) (n : ℕ) (xs : List X) → ((i : ℕ) (x : X) → slice_get xs i ≡ Some x → f x ≤ n) → sum_by f xs ≤ n * length xs
sum_most f n [] all = omega arith
sum_most f n (x ∷ xs) all =
    let here = all 0 x refl in
    let rest = sum_most f n xs (λ i y is. all (suc i) y is) in
    let sum = sum_by-cons f x xs in
    let product = mul-suc n (length xs) in
    omega (arith, here, rest, sum, product)

steps_within : (ws : List Work) (i : ℕ) (w : Work) → slice_get ws i ≡ Some w → length w.steps ≤ sum_by (λ (x : Work). length x.steps) ws
steps_within [] i w is = absurd (let no : None ≡ Some w = is in cc no)
steps_within (x ∷ ws) zero w is =
    let same : x ≡ w = cc in
    let sum = sum_by-cons (λ (y : Work). length y.steps) x ws in
    let here = ap (λ (y : Work). length y.steps) same in
    omega (arith, sum, here)
steps_within (x ∷ ws) (suc i) w is =
    let rest = steps_within ws i w is in
    let sum = sum_by-cons (λ (y : Work). length y.steps) x ws in
    omega (arith, rest, sum)

module _ (made : List Made) (u : Update) (seventeen : length u.works ≤ 17) (all : OfEach u.works (λ w. All IsTreeStep w.steps)) (few : step_count u ≤ 128) where
  need_few : need u ≤ 1041
  need_few =
      let most = renewed_sum fresh_count (u.is_super && has_writes u) u.works in
      let fresh = fresh_sum u.works all in
      omega (arith, most, fresh, seventeen, few)

  made_few : (w : Work) → length (later_of made w) ≤ length made
  made_few w =
      let one = filter_le (λ (m : Made). nat_lt w.serial m.serial) (made_of w.object made) in
      let two = filter_le (λ (m : Made). m.object == w.object) made in
      omega (arith, one, two)

  later_few : later_in made u ≤ length made * 17
  later_few =
      let sum = sum_most (λ (w : Work). length (later_of made w)) (length made) u.works (λ i w is. made_few w) in
      let product = mul-le (length made) (length u.works) (length made) 17 (omega arith) seventeen in
      omega (arith, sum, product)

  shared_here : (i : ℕ) (w : Work) → slice_get u.works i ≡ Some w → sum_by (shared_of w) (later_of made w) ≤ 5248 * length made
  shared_here i w is =
      let steps = steps_within u.works i w is in
      let most = sum_most (shared_of w) 5248 (later_of made w) (λ j m there. shared_few w m (all i w is) (omega (arith, steps, few))) in
      let count = made_few w in
      omega (arith, most, count)

  all_shared_few : shared_in made u ≤ 5248 * length made * 17
  all_shared_few =
      let sum = sum_most (λ (w : Work). sum_by (shared_of w) (later_of made w)) (5248 * length made) u.works shared_here in
      let product = mul-le (5248 * length made) (length u.works) (5248 * length made) 17 (omega arith) seventeen in
      omega (arith, sum, product)

  bound_few : commit_bound made u ≤ 2 ^ 18 * (1 + length made)
  bound_few =
      let needed = need_few in
      let later = later_few in
      let shared = all_shared_few in
      let product = mul-le (4 + 2 * need u) (1 + later_in made u) 2086 (1 + length made * 17) (omega (arith, needed)) (omega (arith, later)) in
      omega (arith, product, shared)

-- what lies at a place is on the list
slice_contains : (ws : List Work) (i : ℕ) (w : Work) → slice_get ws i ≡ Some w → Contains ws w
slice_contains ws i w is =
    let low = slice_get-lt ws i w is in
    let both : Some (get_or ws i w) ≡ Some w = sym (slice_get-get_or ws i w low) ∙ is in
    (i, low, cc)

-- of an update that is open
open_few : (scripts : Scripts) (s : Standing) (k : ℕ) (u : Update) → IsSound scripts s → 1 ≤ k → IsOpenAt s k u → length u.works ≤ 17
    → commit_bound s.made u ≤ 2 ^ 18 * (1 + length s.made)
open_few scripts s k u sound low at seventeen =
    let mine = sound.updates k u low at in
    bound_few s.made u seventeen (λ i w is. (mine.based w (slice_contains u.works i w is)).steps) mine.few

pub bounds_are_small : BoundsAreSmall
bounds_are_small scripts s k sound low small = by (next_line scripts s k)
  where
    most : ℕ
    most = 2 ^ 18 * (1 + length s.made)

    seven : 7 ≤ most
    seven = omega arith

    of_update : (o : Option Update) → (client_of s k).update ≡ o → option_map_or (commit_bound s.made) o 0 ≤ most
    of_update None is = omega arith
    of_update (Some u) is = open_few scripts s k u sound low is (small u is)

    of_command : (c : Command) → command_bound s k c ≤ most
    of_command (Begin file) = seven
    of_command (Super files) = seven
    of_command (Pick place) = seven
    of_command (Do step) = seven
    of_command Commit = of_update (client_of s k).update refl
    of_command Abandon = seven
    of_command Create = seven
    of_command (Destroy file) = seven
    of_command (Prune file keep) = seven
    of_command (Restrict file mask) = seven

    by : (o : Option Line) → option_map_or (λ (line : Line). command_bound s k line.command) o 0 ≤ most
    by None = omega arith
    by (Some line) = of_command line.command
