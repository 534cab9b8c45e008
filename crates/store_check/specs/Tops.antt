-- Members of other files, as the walk in code keeps them.
use Rattle.std.specs.Prelude.{◌≡◌, ◌==◌, ◌&&◌, ◌+◌, ◌-◌, ℕ, suc, ◌<◌, ◌≤◌, nat_eq, Bool, not, List, [], ◌∷◌, ◌++◌, length, Option, Some, None, Result, Ok, Err, slice_get, if◌then◌else◌}
use Rattle.std.specs.List.{list_any}
use Rattle.std.specs.Option.{is_none}
use Rattle.page_codec.specs.declared.why.Why.TheVariants.{Member}
use Rattle.page_places.specs.Places.{Store}
use Rattle.store_model.specs.Members.{Top as ModelTop, Linked as ModelLinked}
use Rattle.store_check.specs.declared.refused.WalkRefused.{WalkRefused}
use Rattle.store_check.specs.declared.refused.WalkRefused.TheVariants.{BadStore}
use Rattle.store_check.specs.declared.version.Prior.{Prior}
use Rattle.store_check.specs.declared.version.FoundVersion.{FoundVersion}
use Rattle.store_check.specs.declared.chain.FoundFile.{FoundFile}
use Rattle.store_check.specs.declared.tops.Top.{Top}
use Rattle.store_check.specs.declared.tops.Linked.{Linked}
use Rattle.store_check.specs.Files.{LikeFiles}
use Rattle.store_check.specs.Counts.{kept_in}

-- the object, whose last version this is, as a top where that names members
abbrev pub top_in : ℕ → Option FoundFile → List Top
top_in object None = []
top_in object (Some chain) = if length chain.last.members == 0 then [] else record { object = object; block = chain.last.block; members = chain.last.members } ∷ []

-- the tops from this object on, ascending
abbrev pub tops_in : ℕ → List (Option FoundFile) → List Top
tops_in object [] = []
tops_in object (chain ∷ others) = top_in object chain ++ tops_in (suc object) others

-- what is kept of an object whose last version names members
abbrev pub shown_top : ModelTop → Top
shown_top top = record { object = top.object; block = top.version.block; members = top.version.members }

-- the objects that were named are marked, each at its place
pub record AreNamed (named : List ℕ) (marks : List Bool) : Type 0 where
  pub is : (k : ℕ) → k < length marks → slice_get marks k ≡ Some (list_any (nat_eq (k + 1)) named)

-- what is kept of the files with the members that were linked so far, whose blocks are among these places, and of the objects that
-- were named
pub record LikeLinked (store : Store) (count : ℕ) (places : List ℕ) (kept : Linked) (linked : ModelLinked) : Type 0 where
  pub files : LikeFiles store count kept.chains.items linked.files
  pub few : kept_in linked.files ≤ length places
  pub named : AreNamed linked.named kept.named.items
  pub size : length kept.named.items ≡ length kept.chains.items

-- what is at the place of an object, which counts from 1
abbrev pub at_object : {X : Type 0} → ℕ → List X → Option X
at_object object xs = if object == 0 then None else slice_get xs (object - 1)

-- an object may be a member of the top: it is another one, its last version names no members, and it was not named yet
abbrev pub may_link : ℕ → ℕ → FoundVersion → Bool → Bool
may_link top object last mark = not (object == top) && length last.members == 0 && not mark

-- the last version of a member, where its object is live and may be one
abbrev pub prior_in : Top → ℕ → Option (Option FoundFile) → Option Bool → Result Prior WalkRefused
prior_in top object None mark = Err (BadStore top.block Member)
prior_in top object (Some None) mark = Err (BadStore top.block Member)
prior_in top object (Some (Some chain)) None = Err (BadStore top.block Member)
prior_in top object (Some (Some chain)) (Some mark) =
    if may_link top.object object chain.last mark then Ok (record { serial = chain.last.serial; block = chain.last.block }) else Err (BadStore top.block Member)

-- the block of a version that names no next one
abbrev pub unset_of : FoundVersion → Option ℕ
unset_of version = if is_none version.commit then Some version.block else None

-- what is kept of a file with one more version, which holds so many blocks
abbrev pub with_last : FoundVersion → ℕ → FoundFile → FoundFile
with_last last pages chain = record { last = last; first = chain.first; unset = unset_of chain.last; kept = chain.kept + pages }
