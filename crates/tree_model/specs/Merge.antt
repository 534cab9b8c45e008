use Rattle.std.specs.Prelude.{◌≡◌, ℕ, true, ◌⊎◌, List, [], ◌∷◌, ◌++◌, None}
use Rattle.std.specs.FinMap as map
use Rattle.afs_base.specs.Path.{is_prefix}
use Rattle.afs_base.specs.declared.kind.Kind.{Kind}
use Rattle.afs_base.specs.declared.kind.Kind.TheVariants.{Data, Slot}
use Rattle.tree_model.specs.declared.step.Step.{Step}
use Rattle.tree_model.specs.Trees.{Tree, has, IsTree, tree_after, replies_of}
use Rattle.tree_model.specs.Accesses.{Place, is_among, all_reads, all_writes, reads_of, visible_of, fresh_of, IsClash}

-- Why an update that clashes with nobody may be committed on a later tree.

-- two trees agree on the data of a page, or on whether there is a page below a slot
abbrev pub AgreeAt : Tree → Tree → List ℕ → Kind → Type 0
AgreeAt t u p Data = map.get t p ≡ map.get u p
AgreeAt t u p (Slot k) = has t (p ++ k ∷ []) ≡ has u (p ++ k ∷ [])

-- at a place the trees t and u agree; and on the way to its page they have the same pages, and so have the trees a and b
pub record MovesAlike (a b t u : Tree) (x : Place) : Type 0 where
  pub same : AgreeAt t u x.0 x.1
  pub above : (q : List ℕ) → is_prefix q x.0 ≡ true → has t q ≡ has u q
  pub base : (q : List ℕ) → is_prefix q x.0 ≡ true → has a q ≡ has b q

-- Steps that read and wrote these places led from the tree a to the tree t, and from b to u.
-- At each path t and u agree, or each is as it was before; and each place that was read or written moved alike.
pub record Alike (a b t u : Tree) (reads writes : List Place) : Type 0 where
  pub tree_of_a : IsTree t
  pub tree_of_b : IsTree u
  pub at : (q : List ℕ) → (map.get t q ≡ map.get u q) ⊎ ((map.get t q ≡ map.get a q) × (map.get u q ≡ map.get b q))
  pub read : (x : Place) → is_among reads x ≡ true → MovesAlike a b t u x
  pub written : (x : Place) → is_among writes x ≡ true → MovesAlike a b t u x

-- the steps answer, read, write, show and make fresh on the tree b what they do on the tree a
pub record ActsAlike (a b : Tree) (steps : List Step) : Type 0 where
  pub replies : replies_of b steps ≡ replies_of a steps
  pub reads : all_reads b [] steps ≡ all_reads a [] steps
  pub writes : all_writes b steps ≡ all_writes a steps
  pub visible : visible_of b steps ≡ visible_of a steps
  pub fresh : fresh_of b steps ≡ fresh_of a steps
  pub alike : Alike a b (tree_after a steps) (tree_after b steps) (all_reads a [] steps) (all_writes a steps)

-- where my reads meet none of their visible writes, mine do after theirs what they do without them
abbrev pub MergeLaw : Type 0
MergeLaw = (a : Tree) (mine theirs : List Step) → IsTree a → IsClash (reads_of a mine) (visible_of a theirs) None → ActsAlike a (tree_after a theirs) mine
