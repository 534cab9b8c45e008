use Rattle.std.specs.Prelude.{◌≡◌, ℕ, zero, suc, ◌^◌, ◌≤◌, Bool, true, not, ◌&&◌, List, [], ◌∷◌, ◌++◌, length, if◌then◌else◌, Some, sum_by}
use Rattle.std.specs.Option.{option_map_or}
use Rattle.std.specs.FinMap as map
use Rattle.afs_base.specs.Path.{path_cmp, is_prefix, are_slots}
pub use Rattle.tree_model.specs.Children.{path_of}
use Rattle.tree_model.specs.declared.step.Step.{Step}
use Rattle.tree_model.specs.declared.step.Step.TheVariants.{ReadAt, ListAt, WriteAt, MakeAt, DropAt}
use Rattle.tree_model.specs.declared.step.Reply.{Reply}
use Rattle.tree_model.specs.declared.step.Reply.TheVariants.{Bytes, Slots, Done, Absent, Present}

-- A version of a file as a tree of pages, and what each step answers and does to it.

-- the data of each page, by the page's path
abbrev pub Tree : Type 0
Tree = map.FinMap path_cmp (List ℕ)

-- the tree has a page at the path
abbrev pub has : Tree → List ℕ → Bool
has t p = map.contains_key t p

-- the tree has a page at `/`, and with each page those above it
pub record IsTree (t : Tree) : Type 0 where
  pub root : has t [] ≡ true
  pub closed : (p q : List ℕ) → is_prefix q p ≡ true → has t p ≡ true → has t q ≡ true

-- the tree of a version: besides, no path has more than seven slots, each slot is below 16, and no page has more than 800 bytes
pub record IsKept (t : Tree) : Type 0 where
  pub tree : IsTree t
  pub short : (p : List ℕ) → has t p ≡ true → length p ≤ 7
  pub slots : (p : List ℕ) → has t p ≡ true → are_slots p ≡ true
  pub bytes : (p bytes : List ℕ) → map.get t p ≡ Some bytes → length bytes ≤ 800

-- the tree of the page `/` alone, with no data
abbrev pub single : Tree
single = map.insert map.empty [] []

-- the numbers below n, ascending
unfoldable pub numbers_below : ℕ → List ℕ
numbers_below zero = []
numbers_below (suc n) = numbers_below n ++ n ∷ []

-- the slots of a page, ascending
abbrev pub every_slot : List ℕ
every_slot = numbers_below 16

-- the bit of a slot that has a page below it, which is 2 to the slot
abbrev pub bit_of : Tree → List ℕ → ℕ → ℕ
bit_of t p s = if has t (p ++ s ∷ []) then 2 ^ s else 0

-- the bits of these slots together
abbrev pub child_bits : Tree → List ℕ → List ℕ → ℕ
child_bits t p slots = sum_by (bit_of t p) slots

-- a page can be made where the page above is there and the page itself is not
abbrev pub can_make : Tree → List ℕ × ℕ → Bool
can_make t c = has t c.0 && not (has t (path_of c))

-- the tree without the page at p and all that is below it
abbrev pub without : Tree → List ℕ → Tree
without t p = map.retain_keys t (λ q. not (is_prefix p q))

-- the tree after a step
abbrev pub after : Tree → Step → Tree
after t (ReadAt p) = t
after t (ListAt p) = t
after t (WriteAt p bytes) = if has t p then map.insert t p bytes else t
after t (MakeAt c) = if can_make t c then map.insert t (path_of c) [] else t
after t (DropAt c) = if has t (path_of c) then without t (path_of c) else t

-- the step is a make
abbrev pub IsMake : Step → Type 0
IsMake (ReadAt p) = ⊥
IsMake (ListAt p) = ⊥
IsMake (WriteAt p bytes) = ⊥
IsMake (MakeAt c) = Unit {0}
IsMake (DropAt c) = ⊥

-- the answer to a step
abbrev pub reply_of : Tree → Step → Reply
reply_of t (ReadAt p) = option_map_or Bytes (map.get t p) Absent
reply_of t (ListAt p) = if has t p then Slots (child_bits t p every_slot) else Absent
reply_of t (WriteAt p bytes) = if has t p then Done else Absent
reply_of t (MakeAt c) = if has t c.0 then (if has t (path_of c) then Present else Done) else Absent
reply_of t (DropAt c) = if has t (path_of c) then Done else Absent

-- the tree after all these steps, the first one first
abbrev pub tree_after : Tree → List Step → Tree
tree_after t [] = t
tree_after t (step ∷ steps) = tree_after (after t step) steps

-- the answers to all these steps
abbrev pub replies_of : Tree → List Step → List Reply
replies_of t [] = []
replies_of t (step ∷ steps) = reply_of t step ∷ replies_of (after t step) steps
