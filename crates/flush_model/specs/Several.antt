-- An update of several files whose flushes are done: their next versions, and the store after the
-- one write that commits them all.
use Rattle.std.specs.Prelude.{◌≡◌, ◌≢◌, ◌↔◌, ◌⊎◌, ℕ, suc, Bool, nat_eq, true, false, List, [], ◌∷◌, ◌++◌, map, Some, Ok, slice_get}
use Rattle.std.specs.List.{list_any, AllByRecursion}
use Rattle.tree_model.specs.declared.step.Step.{Step}
use Rattle.tree_model.specs.Trees.{Tree}
use Rattle.page_codec.specs.Values.{MemberValue}
use Rattle.draft_model.specs.Views.{View}
use Rattle.draft_model.specs.Flush.{block_of, is_block_of}
use Rattle.store_model.specs.Laid.{LaidVersion, LaidFile}
use Rattle.store_model.specs.Members.{names_none, longer}
use Rattle.store_model.specs.Found.{LaidStore, laid, version_in, state_in}
use Rattle.store_model.specs.Changes.{Rewrites, with_commit, Outstanding, file_committed, files_committed, with_version}
use Rattle.store_model.specs.Together.{News, AreNext, with_all}
use Rattle.store_changes.specs.Stands.{Stands, IsPlace}
use Rattle.version_chain.specs.Flush.{Plan, Base}
use Rattle.version_chain.specs.Laws.{Content}
use Rattle.flush_model.specs.Flushed.{IsFlushed, IsNextOf, NamesNoneOf}

-- One file of an update: its object, its last version with the tree, the steps and the draft of
-- them, and the plan of its flush. Objects count from 0.
pub record Part : Type 0 where
  pub object : ℕ
  pub last : LaidVersion
  pub before : Tree
  pub steps : List Step
  pub draft : View
  pub base : Base
  pub plan : Plan

-- its flush is done, and its last version names no members
pub record IsDone (content : Content) (store : LaidStore) (places : List ℕ)
    (part : Part) : Type 0 where
  pub flushed : IsFlushed
      content store places part.object part.last part.before part.steps part.draft part.base
      part.plan
  pub none : names_none part.last ≡ true

-- a version is the next one of this part, with these new blocks
abbrev pub IsNextOfPart : Content → ℕ → Part → LaidVersion → List ℕ → Type 0
IsNextOfPart content count part version new =
    IsNextOf content count part.object part.last part.before part.steps part.plan version new

-- two parts are of different files, and of different blocks
pub record AreTwo (p q : Part) : Type 0 where
  pub objects : q.object ≢ p.object
  pub blocks : (n : ℕ) → is_block_of p.plan.placed n ≡ true → is_block_of q.plan.placed n ≡ true → ⊥

-- so it is of any two of these
abbrev pub AreDifferent : List Part → Type 0
AreDifferent [] = Unit {0}
AreDifferent (p ∷ parts) = AllByRecursion (AreTwo p) parts × AreDifferent parts

-- the members name these parts: each its object and the block of its version page
abbrev pub AreNamed : List MemberValue → List Part → Type 0
AreNamed [] [] = Unit {0}
AreNamed [] (p ∷ parts) = ⊥
AreNamed (m ∷ members) [] = ⊥
AreNamed (m ∷ members) (p ∷ parts) =
    ((m.object ≡ suc p.object) × (block_of p.plan.placed [] ≡ Some m.block))
    × AreNamed members parts

-- the parts of an update: all flushes are done, the first one's version names the others as its
-- members, and theirs name none
pub record AreParts (content : Content) (store : LaidStore) (places : List ℕ) (top : Part)
    (parts : List Part) : Type 0 where
  pub first : IsDone content store places top
  pub others : AllByRecursion (IsDone content store places) parts
  pub different : AreDifferent (top ∷ parts)
  pub named : AreNamed top.plan.members parts
  pub none : AllByRecursion (λ p. p.plan.members ≡ []) parts

-- some part has this block
abbrev pub is_of_some : List Part → ℕ → Bool
is_of_some parts n = list_any (λ p. is_block_of p.plan.placed n) parts

-- each of these is the next version of its part
abbrev pub AreNextOf : Content → ℕ → List Part → List News → Type 0
AreNextOf content count [] [] = Unit {0}
AreNextOf content count [] (x ∷ news) = ⊥
AreNextOf content count (p ∷ parts) [] = ⊥
AreNextOf content count (p ∷ parts) (x ∷ news) =
    ((new : List ℕ) × IsNextOfPart content count p x.version new)
    × AreNextOf content count parts news

-- The members with their next versions, each read after the first one's and those before it, and
-- the places then.
pub record AreReady (content : Content) (store : LaidStore) (top : Part) (parts : List Part)
    (version : LaidVersion) (own : List ℕ) : Type 0 where
  pub news : List News
  pub after : List ℕ
  pub are : map (λ x. x.member) news ≡ top.plan.members
  pub each : AreNextOf content store.root.blocks parts news
  pub tried : AreNext
      (record { content = content; count = store.root.blocks })
      (record { object = suc top.object; version = version })
      news (files_committed top.object version.block version store) own after
  pub places : (n : ℕ) → IsPlace after n ↔ (IsPlace own n ⊎ (is_of_some parts n ≡ true))

-- Where the flushes of all parts are done, each member is the next version of its file, as a commit
-- of several files wants it.
abbrev pub FlushedAreNext : Type 0
FlushedAreNext =
    (content : Content) (most : ℕ) (store : LaidStore) (places : List ℕ)
    → laid content most [] ≡ Ok (store, places)
    → (top : Part) (parts : List Part) → AreParts content store places top parts
    → (version : LaidVersion) (new : List ℕ)
    → IsNextOfPart content store.root.blocks top version new
    → AreReady content store top parts version (new ++ places)

-- ---- the store after the commit

-- the objects of these parts, which count from 1 here
abbrev pub objects_of : List Part → List ℕ
objects_of parts = map (λ p. suc p.object) parts

-- an object is of none of these parts
abbrev pub IsBeside : List Part → ℕ → Type 0
IsBeside parts object = list_any (nat_eq (suc object)) (objects_of parts) ≡ false

-- the file of each part is as it was before, with its next version behind
abbrev pub AreLonger : List LaidFile → List LaidFile → List Part → List News → Type 0
AreLonger before after [] [] = Unit {0}
AreLonger before after [] (x ∷ news) = ⊥
AreLonger before after (p ∷ parts) [] = ⊥
AreLonger before after (p ∷ parts) (x ∷ news) =
    ((file : LaidFile) → slice_get before p.object ≡ Some file
    → slice_get after p.object ≡ Some (longer x.version file))
    × AreLonger before after parts news

-- the link from each part's last version to its next one is outstanding
abbrev pub AreOutstanding : LaidStore → List Part → List News → Type 0
AreOutstanding store [] [] = Unit {0}
AreOutstanding store [] (x ∷ news) = ⊥
AreOutstanding store (p ∷ parts) [] = ⊥
AreOutstanding store (p ∷ parts) (x ∷ news) =
    ((link : Outstanding store)
    × ((link.object ≡ p.object) × (link.base ≡ p.last) × (link.next ≡ x.version)))
    × AreOutstanding store parts news

-- What one write of the commit reference of the first part's last version makes of a store: each
-- file of the parts has its next version behind, and nothing else changes; the blocks of the
-- flushes are places too. The links of all but the first file are outstanding then.
pub record IsCommitted (content d : Content) (most : ℕ) (old : LaidStore) (places : List ℕ)
    (top : Part) (parts : List Part) : Type 0 where
  pub version : LaidVersion
  pub new : List ℕ
  pub next : IsNextOfPart content old.root.blocks top version new
  pub news : List News
  pub each : AreNextOf content old.root.blocks parts news
  pub stands : Stands
      d most old (IsBeside (top ∷ parts))
      (with_all news (with_version top.object (version_in version) (state_in old)))
      (λ n. IsPlace places n ⊎ (is_of_some (top ∷ parts) n ≡ true))
  pub first : (file : LaidFile) → slice_get old.files top.object ≡ Some file
      → slice_get stands.store.files top.object ≡ Some (file_committed version.block version file)
  pub others : AreLonger old.files stands.store.files parts news
  pub links : AreOutstanding stands.store parts news

-- One write commits all parts of an update, or the one part that it has.
abbrev pub FlushedIsCommitted : Type 0
FlushedIsCommitted =
    (content d : Content) (most : ℕ) (store : LaidStore) (places : List ℕ)
    → laid content most [] ≡ Ok (store, places)
    → (top : Part) (parts : List Part) → AreParts content store places top parts
    → NamesNoneOf store (objects_of (top ∷ parts))
    → (block : ℕ) → block_of top.plan.placed [] ≡ Some block
    → Rewrites content d top.last.block (with_commit block)
    → IsCommitted content d most store places top parts
