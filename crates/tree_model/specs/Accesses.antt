use Rattle.std.specs.Prelude.{◌≡◌, ℕ, Bool, true, false, not, ◌&&◌, List, [], ◌∷◌, ◌++◌, map, filter, if◌then◌else◌, Option, Some, None}
use Rattle.std.specs.List.{list_any}
use Rattle.std.specs.declared.cmp.Ordering.{Ordering}
use Rattle.std.specs.Ordering.{nat_cmp, on, then_cmp, eq_by_cmp, is_lt}
use Rattle.std.specs.FinMap as map
use Rattle.std.specs.FinSet as set
use Rattle.afs_base.specs.Path.{path_cmp, is_prefix}
use Rattle.afs_base.specs.Kind.{kind_place}
use Rattle.afs_base.specs.declared.kind.Kind.{Kind}
use Rattle.afs_base.specs.declared.kind.Kind.TheVariants.{Data, Slot}
use Rattle.tree_model.specs.declared.step.Step.{Step}
use Rattle.tree_model.specs.declared.step.Step.TheVariants.{ReadAt, ListAt, WriteAt, MakeAt, DropAt}
use Rattle.tree_model.specs.Trees.{Tree, has, path_of, every_slot, can_make, after, tree_after}

-- What a list of steps reads and writes, which of its writes a later reader can see, and the clash of two lists of steps.
-- Reads and writes are gathered step by step, each step seen on the tree before it. Nothing is ever taken out.

-- what an access touches: a page's data, or one of its slots
abbrev pub Place : Type 0
Place = List ℕ × Kind

-- places are ordered by path, then the data before every slot, then by slot
abbrev pub place_cmp : Place → Place → Ordering
place_cmp = then_cmp (on (λ x. x.0) path_cmp) (on (λ x. kind_place x.1) nat_cmp)

-- the place is one of these
abbrev pub is_among : List Place → Place → Bool
is_among places x = list_any (eq_by_cmp place_cmp x) places

-- the slot that names a child on the page above it
abbrev pub slot_of : List ℕ × ℕ → Place
slot_of c = (c.0, Slot c.1)

-- the children that stand on the way to a path, the path itself last
abbrev pub way_to : List ℕ → List (List ℕ × ℕ)
way_to [] = []
way_to (s ∷ p) = ([], s) ∷ map (λ c. (s ∷ c.0, c.1)) (way_to p)

-- the slots that lead to a path, of the pages above it that are there
abbrev pub on_the_way : Tree → List ℕ → List Place
on_the_way t p = map slot_of (filter (λ c. has t c.0) (way_to p))

-- every slot of the page at a path
abbrev pub slots_at : List ℕ → List Place
slots_at p = map (λ s. slot_of (p, s)) every_slot

-- the path that a step names
abbrev pub target : Step → List ℕ
target (ReadAt p) = p
target (ListAt p) = p
target (WriteAt p bytes) = p
target (MakeAt c) = path_of c
target (DropAt c) = path_of c

-- the last page on a step's way that the step looks into: a make and a drop do not look into their own page
abbrev pub end_of : Step → List ℕ
end_of (ReadAt p) = p
end_of (ListAt p) = p
end_of (WriteAt p bytes) = p
end_of (MakeAt c) = c.0
end_of (DropAt c) = c.0

-- what a step reads besides the way to its path; `done` is what was written before it
abbrev pub own_reads : Tree → List Place → Step → List Place
own_reads t done (ReadAt p) = if has t p && not (is_among done (p, Data)) then (p, Data) ∷ [] else []
own_reads t done (ListAt p) = if has t p then slots_at p else []
own_reads t done (WriteAt p bytes) = []
own_reads t done (MakeAt c) = if can_make t c then slots_at (path_of c) else []
own_reads t done (DropAt c) = []

-- what a step reads
abbrev pub step_reads : Tree → List Place → Step → List Place
step_reads t done step = on_the_way t (target step) ++ own_reads t done step

-- what a step writes
abbrev pub step_writes : Tree → Step → List Place
step_writes t (ReadAt p) = []
step_writes t (ListAt p) = []
step_writes t (WriteAt p bytes) = if has t p then (p, Data) ∷ [] else []
step_writes t (MakeAt c) = if can_make t c then slot_of c ∷ (path_of c, Data) ∷ slots_at (path_of c) else []
step_writes t (DropAt c) = if has t (path_of c) then slot_of c ∷ [] else []

-- what these steps read, where `done` was written before them
abbrev pub all_reads : Tree → List Place → List Step → List Place
all_reads t done [] = []
all_reads t done (step ∷ steps) = step_reads t done step ++ all_reads (after t step) (done ++ step_writes t step) steps

-- what these steps write
abbrev pub all_writes : Tree → List Step → List Place
all_writes t [] = []
all_writes t (step ∷ steps) = step_writes t step ++ all_writes (after t step) steps

-- the reads of an update, as a set
abbrev pub reads_of : Tree → List Step → set.FinSet place_cmp
reads_of t steps = set.from_list (all_reads t [] steps)

-- the writes of an update, as a set
abbrev pub writes_of : Tree → List Step → set.FinSet place_cmp
writes_of t steps = set.from_list (all_writes t steps)

-- the writes at paths of the tree after the update
abbrev pub visible_of : Tree → List Step → set.FinSet place_cmp
visible_of t steps = set.retain (writes_of t steps) (λ x. has (tree_after t steps) x.0)

-- the places kept of these are the writes that can be seen of each update that wrote them and left this tree
abbrev pub KeepsVisible : List Place → Tree → List Place → Type 0
KeepsVisible writes t kept = (base : Tree) (steps : List Step) → set.from_list writes ≡ writes_of base steps → t ≡ tree_after base steps
    → set.from_list kept ≡ visible_of base steps

-- the least place that is in both sets, or none where none is
abbrev pub IsClash : set.FinSet place_cmp → set.FinSet place_cmp → Option Place → Type 0
IsClash reads visible None = (x : Place) → set.contains reads x ≡ true → set.contains visible x ≡ false
IsClash reads visible (Some least) = (set.contains reads least ≡ true) × (set.contains visible least ≡ true)
    × ((x : Place) → set.contains reads x ≡ true → set.contains visible x ≡ true → is_lt (place_cmp x least) ≡ false)

-- some of these places is on the page at p or on one below it
abbrev pub touches : List Place → List ℕ → Bool
touches places p = list_any (λ x. is_prefix p x.0) places

-- the paths, in order, of the pages at or below which an update wrote and which are there after it
abbrev pub fresh_of : Tree → List Step → List (List ℕ)
fresh_of t steps = map.keys (map.retain_keys (tree_after t steps) (touches (all_writes t steps)))

-- the paths that are written: the fresh ones, or `/` alone where none is fresh
abbrev pub written_paths : List (List ℕ) → List (List ℕ)
written_paths [] = [] ∷ []
written_paths (p ∷ paths) = p ∷ paths

-- the fresh paths of the top file of an update that has members: `/` is fresh there though nothing was written
abbrev pub fresh_as_top : Tree → List Step → List (List ℕ)
fresh_as_top t steps = written_paths (fresh_of t steps)
