-- A walk over a draft and a later version: which pages are still to be read, and what was merged so far.
use Rattle.std.specs.Prelude.{◌≡◌, ℕ, ◌+◌, ◌<◌, ◌≤◌, Bool, true, false, not, ◌&&◌, ◌||◌, List, [], ◌∷◌, ◌++◌, length, nat_eq, nat_lt, Option, Some, None}
use Rattle.std.specs.Option.{option_map_or}
use Rattle.std.specs.List.{list_any}
use Rattle.std.specs.Ordering.{is_lt}
use Rattle.afs_base.specs.Path.{path_cmp, is_prefix}
use Rattle.afs_base.specs.declared.kind.Kind.{Kind}
use Rattle.afs_base.specs.declared.kind.Kind.TheVariants.{Data, Slot}
use Rattle.ref_flags.specs.Flagged.{Flagged}
use Rattle.tree_model.specs.declared.step.Step.{Step}
use Rattle.tree_model.specs.Trees.{Tree}
use Rattle.tree_model.specs.Accesses.{Place, is_among, all_reads, all_writes, reads_of, visible_of, IsClash}
use Rattle.page_codec.specs.Values.{ReferenceValue}
use Rattle.page_places.specs.Places.{Store, same, block_at, slot_block, has_bit}
use Rattle.draft_model.specs.Views.{Copied, View, copies, live}
use Rattle.draft_model.specs.Stands.{IsKind, StandsFor}
use Rattle.draft_model.specs.Told.{are_rising, is_one_of}
use Rattle.draft_tree.specs.Drafts.{merged_page}
use Rattle.page_merge.specs.Jobs.{JobValue, merged}
use Rattle.joint_walk.specs.Later.{did_access, is_own, IsLater, AreMarks}

-- ---- the walk's own state

-- a page of the later version that is to be read: its path, its block, and its marks in the slot that names it
pub record Pending : Type 0 where
  pub path : List ℕ
  pub block : ℕ
  pub flags : Flagged

-- two pages at one path that are not merged yet
pub record Pair : Type 0 where
  pub path : List ℕ
  pub job : JobValue

-- the pair that waits, if one does; the pages to be read, in the order of their paths; and the clash, where one was found
pub record WalkValue : Type 0 where
  pub pair : Option Pair
  pub pending : List Pending
  pub clash : Option Place

-- the first path stands before the second and before all that is below it: where they first differ, its slot is the lesser
abbrev pub is_before : List ℕ → List ℕ → Bool
is_before [] q = false
is_before (s ∷ p) [] = false
is_before (s ∷ p) (t ∷ q) = nat_lt s t || (nat_eq s t && is_before p q)

-- each of these has the property
abbrev pub AllOf : (Pending → Type 0) → List Pending → Type 0
AllOf P [] = Unit {0}
AllOf P (x ∷ pending) = P x × AllOf P pending

-- each of these stands before those that follow it
abbrev pub AreApart : List Pending → Type 0
AreApart [] = Unit {0}
AreApart (x ∷ pending) = AllOf (λ y. is_before x.path y.path ≡ true) pending × AreApart pending

-- the page at p, or one above it, is still to be read
abbrev pub is_pending : List Pending → List ℕ → Bool
is_pending pending p = list_any (λ x. is_prefix x.path p) pending

-- the path is that of the pair that waits
abbrev pub waits : Option Pair → List ℕ → Bool
waits pair p = option_map_or (λ x. same p x.path) pair false

-- one more page that is wanted, where the slot names one
abbrev pub put_wanted : Bool → List ℕ → Flagged → Option ℕ → List Pending → List Pending
put_wanted false p flags block rest = rest
put_wanted true p flags None rest = rest
put_wanted true p flags (Some b) rest = record { path = p; block = b; flags = flags } ∷ rest

-- the pages below p that the later version has of its own and that pass a test of their slots, in order
abbrev pub wanted_children : (ℕ → Bool) → List ℕ → ℕ → List ReferenceValue → List Pending
wanted_children test p s [] = []
wanted_children test p s (r ∷ refs) = put_wanted (r.flags.copied && test s) (p ++ s ∷ []) r.flags r.block (wanted_children test p (s + 1) refs)

-- ---- what both updates touched

-- my steps accessed the page, and it is the later version's own
abbrev pub is_shared : Tree → List Step → List Step → List ℕ → Bool
is_shared a mine other p = is_own a other p && did_access a mine p

-- my steps read something of the page at p that the other ones wrote
abbrev pub is_met : Tree → List Step → List Step → List ℕ → Kind → Bool
is_met a mine other p k = is_among (all_reads a [] mine) (p, k) && is_among (all_writes a other) (p, k)

abbrev pub IsUnmet : Tree → List Step → List Step → List ℕ → Type 0
IsUnmet a mine other p = (k : Kind) → IsKind k → is_met a mine other p k ≡ false

-- the job of a path: my page as the draft has it, the later version's page, and the accesses of both there
pub record IsJobAt (store : Store) (root : ℕ) (a : Tree) (mine other : List Step) (d : View) (p : List ℕ) (job : JobValue) : Type 0 where
  pub block : ℕ
  pub at : block_at store root p ≡ Some block
  pub theirs : store block ≡ Some job.theirs
  pub page : (c : Copied) → d p ≡ Some c → c.live ≡ true → job.mine ≡ c.page
  pub sixteen : length job.mine.refs ≡ 16
  pub read : job.marks.read ≡ is_among (all_reads a [] mine) (p, Data)
  pub written : job.marks.written ≡ is_among (all_writes a mine) (p, Data)
  pub searched : (k : ℕ) → k < 16 → has_bit job.searched k ≡ is_among (all_reads a [] mine) (p, Slot k)
  pub modified : (k : ℕ) → k < 16 → has_bit job.modified k ≡ is_among (all_writes a mine) (p, Slot k)
  pub changed : job.changed.written ≡ is_among (all_writes a other) (p, Data)
  pub kept : length p < 7 → (k : ℕ) → k < 16 → has_bit job.kept k ≡ live (copies d) (p ++ k ∷ [])
  pub short : length p ≤ 7
  pub leaf : length p ≡ 7 → (k : ℕ) → (slot_block job.mine k ≡ None) × (slot_block job.theirs k ≡ None)

-- ---- how far the walk is

-- The steps `mine` were done on the tree a, whose blocks go down from `base`; the version in block `root` is what `other` made of it. The
-- draft showed `start` as the walk began: it keeps no page that the steps did not access.
pub record IsSetting (store : Store) (base root : ℕ) (a : Tree) (mine other : List Step) (start : View) : Type 0 where
  pub stands : StandsFor store base a mine start
  pub later : IsLater store base root a other
  pub some : did_access a mine [] ≡ true
  pub accessed : (p : List ℕ) → live (copies start) p ≡ true → did_access a mine p ≡ true

-- a page that is to be read: it is the later version's page at a shared path behind all that were fed
pub record IsWanted (store : Store) (root : ℕ) (a : Tree) (mine other : List Step) (fed : List (List ℕ)) (x : Pending) : Type 0 where
  pub shared : is_shared a mine other x.path ≡ true
  pub at : block_at store root x.path ≡ Some x.block
  pub marks : AreMarks a other x.path x.flags
  pub ahead : (p : List ℕ) → is_one_of fed p ≡ true → is_lt (path_cmp p x.path) ≡ true

-- Pages were fed at these paths, in order, and each of them is shared. Each shared path is one of these, or at or below one that is to be
-- read.
pub record HasFed (store : Store) (root : ℕ) (a : Tree) (mine other : List Step) (pending : List Pending) (fed : List (List ℕ)) : Type 0 where
  pub rising : are_rising fed ≡ true
  pub shared : (p : List ℕ) → is_one_of fed p ≡ true → is_shared a mine other p ≡ true
  pub apart : AreApart pending
  pub wanted : AllOf (IsWanted store root a mine other fed) pending
  pub cover : (p : List ℕ) → is_shared a mine other p ≡ true → (is_one_of fed p || is_pending pending p) ≡ true

-- the pair that waits is that of the last path that was fed
abbrev pub IsLast : Store → ℕ → Tree → List Step → List Step → View → List (List ℕ) → Option Pair → Type 0
IsLast store root a mine other start fed None = Unit {0}
IsLast store root a mine other start fed (Some x) =
    (is_one_of fed x.path ≡ true) × ((p : List ℕ) → is_one_of fed p ≡ true → same p x.path ≡ false → is_lt (path_cmp p x.path) ≡ true)
    × IsJobAt store root a mine other start x.path x.job

-- a path is settled where it was fed and does not wait: nothing clashes there, and its live page was merged
pub record IsSettled (store : Store) (root : ℕ) (a : Tree) (mine other : List Step) (start d : View) (p : List ℕ) : Type 0 where
  pub unmet : IsUnmet a mine other p
  pub merged : (c : Copied) → start p ≡ Some c → c.live ≡ true → (job : JobValue) × IsJobAt store root a mine other start p job × (d p ≡ Some (merged_page (merged job) c))

-- no clash was found so far
pub record GoesOn (store : Store) (root : ℕ) (a : Tree) (mine other : List Step) (start : View) (fed : List (List ℕ)) (w : WalkValue) (d : View) : Type 0 where
  pub has_fed : HasFed store root a mine other w.pending fed
  pub last : IsLast store root a mine other start fed w.pair
  pub settled : (p : List ℕ) → is_one_of fed p ≡ true → waits w.pair p ≡ false → IsSettled store root a mine other start d p
  pub rest : (p : List ℕ) → (is_one_of fed p && (not (waits w.pair p) && live (copies start) p)) ≡ false → d p ≡ start p

-- a clash was found: it is the least
pub record HasClash (a : Tree) (mine other : List Step) (fed : List (List ℕ)) (w : WalkValue) (x : Place) : Type 0 where
  pub least : IsClash (reads_of a mine) (visible_of a other) (Some x)
  pub pair : w.pair ≡ None
  pub pending : w.pending ≡ []
  pub rising : are_rising fed ≡ true
  pub shared : (p : List ℕ) → is_one_of fed p ≡ true → is_shared a mine other p ≡ true

abbrev pub StateOf : Store → ℕ → Tree → List Step → List Step → View → List (List ℕ) → WalkValue → View → Option Place → Type 0
StateOf store root a mine other start fed w d None = GoesOn store root a mine other start fed w d
StateOf store root a mine other start fed w d (Some x) = HasClash a mine other fed w x

-- The walk is under way: n pages were fed, `/` among them, and it stands as above between the steps `mine` on the tree a and the version in
-- block `root`, which `other` made of that tree.
pub record IsUnderWay (store : Store) (base root : ℕ) (a : Tree) (mine other : List Step) (n : ℕ) (w : WalkValue) (d : View) : Type 0 where
  pub start : View
  pub fed : List (List ℕ)
  pub setting : IsSetting store base root a mine other start
  pub count : length fed ≡ n
  pub state : StateOf store root a mine other start fed w d w.clash
