-- A tree by the list of its pages: what steps do, read and write there, computed.
use Rattle.std.proofs.Common.{◌≡◌, ℕ, ◌^◌, Bool, true, false, not, ◌&&◌, cond, List, [], ◌∷◌, ◌++◌, map, filter, sum_by, is_some, Option, None, refl, sym, ap, ◌∙◌}
use Rattle.std.specs.Prelude.{if◌then◌else◌}
use Rattle.std.specs.FinMap as finite
use Rattle.std.specs.FinMap.Entries.{find, put, where_key, is_sorted-where_key, find-where_key, same_entries}
use Rattle.std.specs.Option.{option_map_or}
use Rattle.afs_base.specs.Path.{path_cmp, is_prefix}
use Rattle.afs_base.specs.declared.kind.Kind.TheVariants.{Data}
use Rattle.tree_model.specs.declared.step.Step.{Step}
use Rattle.tree_model.specs.declared.step.Step.TheVariants.{ReadAt, ListAt, WriteAt, MakeAt, DropAt}
use Rattle.tree_model.specs.declared.step.Reply.{Reply}
use Rattle.tree_model.specs.declared.step.Reply.TheVariants.{Bytes, Slots, Done, Absent, Present}
use Rattle.tree_model.specs.Accesses.{Place, all_reads, all_writes, fresh_as_top, is_among, on_the_way, own_reads, slot_of, slots_at, step_reads, step_writes, target, touches, way_to, written_paths}
use Rattle.tree_model.specs.Trees.{Tree, after, can_make, every_slot, has, path_of, reply_of, single, tree_after, without}
use Rattle.tree_model.proofs.Paths.{path_only, path_total}
use Rattle.service_model.proofs.Clashes.{clash_from, clash_in, visible_list}
use Rattle.service_model.proofs.Making.{entries_empty}

-- the pages of a tree, in the order of their paths: each path with its data
abbrev pub Pages : Type 0
Pages = List (List ℕ × List ℕ)

abbrev pub pages_of : Tree → Pages
pages_of t = finite.entries t

-- a page has this path
abbrev pub lists : Pages → List ℕ → Bool
lists pages p = is_some (find path_cmp p pages)

-- a page can be made
abbrev pub makes : Pages → List ℕ × ℕ → Bool
makes pages c = lists pages c.0 && not (lists pages (path_of c))

has_is : (t : Tree) (p : List ℕ) → has t p ≡ lists (pages_of t) p
has_is t p = ap is_some (finite.get-entries t p)

makes_is : (t : Tree) (c : List ℕ × ℕ) → can_make t c ≡ makes (pages_of t) c
makes_is t c = λ i. has_is t c.0 i && not (has_is t (path_of c) i)

kept_is : (t : Tree) (test : List ℕ → Bool) → pages_of (finite.retain_keys t test) ≡ where_key path_cmp test (pages_of t)
kept_is t test =
    same_entries path_cmp path_total path_only (pages_of (finite.retain_keys t test)) (where_key path_cmp test (pages_of t))
    (finite.entries_sorted (finite.retain_keys t test))
    (is_sorted-where_key path_cmp test (pages_of t) (finite.entries_sorted t))
    (λ q. sym (finite.get-entries (finite.retain_keys t test) q)
    ∙ finite.get-retain_keys t test q (λ x e. ap test (sym (path_only q x e)))
    ∙ ap (λ o. cond (test q) o None) (finite.get-entries t q)
    ∙ sym (find-where_key path_cmp test q (λ x e. ap test (sym (path_only q x e))) (pages_of t)))

-- ---- the tree after steps

abbrev pub step_in : Pages → Step → Pages
step_in pages (ReadAt p) = pages
step_in pages (ListAt p) = pages
step_in pages (WriteAt p bytes) = if lists pages p then put path_cmp p bytes pages else pages
step_in pages (MakeAt c) = if makes pages c then put path_cmp (path_of c) [] pages else pages
step_in pages (DropAt c) = if lists pages (path_of c) then where_key path_cmp (λ q. not (is_prefix (path_of c) q)) pages else pages

abbrev pub steps_in : Pages → List Step → Pages
steps_in pages [] = pages
steps_in pages (step ∷ steps) = steps_in (step_in pages step) steps

pages_if : (b : Bool) (t u : Tree) → pages_of (if b then t else u) ≡ (if b then pages_of t else pages_of u)
pages_if true t u = refl
pages_if false t u = refl

step_is : (t : Tree) (step : Step) → pages_of (after t step) ≡ step_in (pages_of t) step
step_is t (ReadAt p) = refl
step_is t (ListAt p) = refl
step_is t (WriteAt p bytes) =
    pages_if (has t p) (finite.insert t p bytes) t
    ∙ (λ i. if has_is t p i then finite.entries-insert path_total t p bytes i else pages_of t)
step_is t (MakeAt c) =
    pages_if (can_make t c) (finite.insert t (path_of c) []) t
    ∙ (λ i. if makes_is t c i then finite.entries-insert path_total t (path_of c) [] i else pages_of t)
step_is t (DropAt c) =
    pages_if (has t (path_of c)) (without t (path_of c)) t
    ∙ (λ i. if has_is t (path_of c) i then kept_is t (λ q. not (is_prefix (path_of c) q)) i else pages_of t)

pub steps_are : (t : Tree) (steps : List Step) → pages_of (tree_after t steps) ≡ steps_in (pages_of t) steps
steps_are t [] = refl
steps_are t (step ∷ steps) = steps_are (after t step) steps ∙ ap (λ pages. steps_in pages steps) (step_is t step)

-- ---- what steps write

abbrev pub writes_in : Pages → Step → List Place
writes_in pages (ReadAt p) = []
writes_in pages (ListAt p) = []
writes_in pages (WriteAt p bytes) = if lists pages p then (p, Data) ∷ [] else []
writes_in pages (MakeAt c) = if makes pages c then slot_of c ∷ (path_of c, Data) ∷ slots_at (path_of c) else []
writes_in pages (DropAt c) = if lists pages (path_of c) then slot_of c ∷ [] else []

abbrev pub all_writes_in : Pages → List Step → List Place
all_writes_in pages [] = []
all_writes_in pages (step ∷ steps) = writes_in pages step ++ all_writes_in (step_in pages step) steps

writes_are : (t : Tree) (step : Step) → step_writes t step ≡ writes_in (pages_of t) step
writes_are t (ReadAt p) = refl
writes_are t (ListAt p) = refl
writes_are t (WriteAt p bytes) = ap (λ b. if b then (p, Data) ∷ [] else []) (has_is t p)
writes_are t (MakeAt c) = ap (λ b. if b then slot_of c ∷ (path_of c, Data) ∷ slots_at (path_of c) else []) (makes_is t c)
writes_are t (DropAt c) = ap (λ b. if b then slot_of c ∷ [] else []) (has_is t (path_of c))

pub all_writes_are : (t : Tree) (steps : List Step) → all_writes t steps ≡ all_writes_in (pages_of t) steps
all_writes_are t [] = refl
all_writes_are t (step ∷ steps) =
    ap (λ places. step_writes t step ++ places) (all_writes_are (after t step) steps)
    ∙ (λ i. writes_are t step i ++ all_writes_in (step_is t step i) steps)

-- ---- what steps read

abbrev pub way_in : Pages → List ℕ → List Place
way_in pages p = map slot_of (filter (λ c. lists pages c.0) (way_to p))

abbrev pub own_reads_in : Pages → List Place → Step → List Place
own_reads_in pages done (ReadAt p) = if lists pages p && not (is_among done (p, Data)) then (p, Data) ∷ [] else []
own_reads_in pages done (ListAt p) = if lists pages p then slots_at p else []
own_reads_in pages done (WriteAt p bytes) = []
own_reads_in pages done (MakeAt c) = if makes pages c then slots_at (path_of c) else []
own_reads_in pages done (DropAt c) = []

abbrev pub all_reads_in : Pages → List Place → List Step → List Place
all_reads_in pages done [] = []
all_reads_in pages done (step ∷ steps) =
    (way_in pages (target step) ++ own_reads_in pages done step) ++ all_reads_in (step_in pages step) (done ++ writes_in pages step) steps

way_is : (t : Tree) (p : List ℕ) → on_the_way t p ≡ way_in (pages_of t) p
way_is t p = λ i. map slot_of (filter (λ c. has_is t c.0 i) (way_to p))

own_reads_are : (t : Tree) (done : List Place) (step : Step) → own_reads t done step ≡ own_reads_in (pages_of t) done step
own_reads_are t done (ReadAt p) = ap (λ b. if b && not (is_among done (p, Data)) then (p, Data) ∷ [] else []) (has_is t p)
own_reads_are t done (ListAt p) = ap (λ b. if b then slots_at p else []) (has_is t p)
own_reads_are t done (WriteAt p bytes) = refl
own_reads_are t done (MakeAt c) = ap (λ b. if b then slots_at (path_of c) else []) (makes_is t c)
own_reads_are t done (DropAt c) = refl

pub all_reads_are : (t : Tree) (done : List Place) (steps : List Step) → all_reads t done steps ≡ all_reads_in (pages_of t) done steps
all_reads_are t done [] = refl
all_reads_are t done (step ∷ steps) =
    ap (λ places. step_reads t done step ++ places) (all_reads_are (after t step) (done ++ step_writes t step) steps)
    ∙ (λ i. (way_is t (target step) i ++ own_reads_are t done step i) ++ all_reads_in (step_is t step i) (done ++ writes_are t step i) steps)

-- ---- fresh paths, clashes, answers

abbrev pub fresh_in : Pages → List Step → List (List ℕ)
fresh_in pages steps =
    written_paths (map (λ (page : List ℕ × List ℕ). page.0) (where_key path_cmp (touches (all_writes_in pages steps)) (steps_in pages steps)))

pub fresh_are : (t : Tree) (steps : List Step) → fresh_as_top t steps ≡ fresh_in (pages_of t) steps
fresh_are t steps =
    ap (λ (es : Pages). written_paths (map (λ (page : List ℕ × List ℕ). page.0) es))
    (kept_is (tree_after t steps) (touches (all_writes t steps))
    ∙ (λ i. where_key path_cmp (touches (all_writes_are t steps i)) (steps_are t steps i)))

abbrev pub visible_in : Pages → List Step → List Place
visible_in pages steps = filter (λ (x : Place). lists (steps_in pages steps) x.0) (all_writes_in pages steps)

visible_are : (t : Tree) (steps : List Step) → visible_list t steps ≡ visible_in (pages_of t) steps
visible_are t steps =
    (λ i. filter (λ (x : Place). has_is (tree_after t steps) x.0 i) (all_writes_are t steps i))
    ∙ ap (λ (es : Pages). filter (λ (x : Place). lists es x.0) (all_writes_in (pages_of t) steps)) (steps_are t steps)

-- the clash of an update with another one, by the pages of the trees that they began from
abbrev pub clash_of : Pages → List Step → Pages → List Step → Option Place
clash_of mine steps theirs others = clash_from (visible_in theirs others) None (all_reads_in mine [] steps)

pub clash_by : (a : Tree) (mine : List Step) (b : Tree) (theirs : List Step) → clash_in a mine b theirs ≡ clash_of (pages_of a) mine (pages_of b) theirs
clash_by a mine b theirs = λ i. clash_from (visible_are b theirs i) None (all_reads_are a [] mine i)

abbrev pub reply_in : Pages → Step → Reply
reply_in pages (ReadAt p) = option_map_or Bytes (find path_cmp p pages) Absent
reply_in pages (ListAt p) =
    if lists pages p then Slots (sum_by (λ s. if lists pages (p ++ s ∷ []) then 2 ^ s else 0) every_slot) else Absent
reply_in pages (WriteAt p bytes) = if lists pages p then Done else Absent
reply_in pages (MakeAt c) = if lists pages c.0 then (if lists pages (path_of c) then Present else Done) else Absent
reply_in pages (DropAt c) = if lists pages (path_of c) then Done else Absent

pub reply_by : (t : Tree) (step : Step) → reply_of t step ≡ reply_in (pages_of t) step
reply_by t (ReadAt p) = ap (λ o. option_map_or Bytes o Absent) (finite.get-entries t p)
reply_by t (ListAt p) =
    λ i. if has_is t p i then Slots (sum_by (λ s. if has_is t (p ++ s ∷ []) i then 2 ^ s else 0) every_slot) else Absent
reply_by t (WriteAt p bytes) = ap (λ b. if b then Done else Absent) (has_is t p)
reply_by t (MakeAt c) = λ i. if has_is t c.0 i then (if has_is t (path_of c) i then Present else Done) else Absent
reply_by t (DropAt c) = ap (λ b. if b then Done else Absent) (has_is t (path_of c))

-- the tree of the page `/` alone
pub single_pages : pages_of single ≡ ([], []) ∷ []
single_pages = finite.entries-insert path_total finite.empty [] [] ∙ ap (put path_cmp [] []) entries_empty
