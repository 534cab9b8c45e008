-- The commit of an update of several files: what it has come to when the one link that commits it
-- may be set, and the scene after that.
use Rattle.std.specs.Prelude.{◌≡◌, ◌≢◌, ℕ, ◌-◌, ◌≤◌, true, List, [], ◌∷◌, ◌++◌, map, length, Option}
use Rattle.std.specs.Prelude.{Some, None, slice_get, slice_set}
use Rattle.std.specs.List.{AllByRecursion}
use Rattle.std.specs.Option.{option_and_then, option_map_or}
use Rattle.afs_base.specs.declared.head.Head.{Head}
use Rattle.block_map.specs.States.{Replaces}
use Rattle.block_map.specs.declared.states.BlockState.{BlockState}
use Rattle.block_map.specs.declared.states.BlockState.TheVariants.{Kept}
use Rattle.draft_model.specs.Flush.{Placed, are_apart, block_of}
use Rattle.draft_model.specs.Views.{View}
use Rattle.page_codec.specs.Values.{MemberValue}
use Rattle.script_text.specs.declared.command.Command.TheVariants.{Commit}
use Rattle.script_text.specs.declared.script.Line.{Line}
use Rattle.service_model.specs.declared.journal.What.TheVariants.{Held}
use Rattle.service_model.specs.Entries.{made_by}
use Rattle.service_model.specs.Legal.{AreUnworn}
use Rattle.service_model.specs.Sound.{IsSound}
use Rattle.service_model.specs.Standing.{Scripts, Standing, Update, Work, client_of, next_line}
use Rattle.service_model.specs.Standing.{has_writes, need, renewed_works, serial_of}
use Rattle.store_changes.specs.Writes.{Content}
use Rattle.store_model.specs.Changes.{Rewrites, with_commit}
use Rattle.version_chain.specs.Flush.{Plan, base_of}
use Rattle.ground_model.specs.Commits.{IsLinkedTo, commit_entry, head_after}
use Rattle.ground_model.specs.Linking.{IsSettingLinks, LeavesLinks, LeavesNames, Link}
use Rattle.ground_model.specs.Own.{IsClient, HasDraft, IsFlushing}
use Rattle.ground_model.specs.Scenes.{AreHeads, Scene, IsLinking, IsShared}

-- What stands lets the update of several files be committed: its line is a commit, blocks were held
-- for it, something was written, and a serial is left for each file that gets a new version. Its
-- locks keep others off.
pub record MayCommitSeveral (scripts : Scripts) (s : Standing) (k : ℕ) (line : Line)
    (u : Update) : Type 0 where
  pub client : IsClient s k
  pub next : next_line scripts s k ≡ Some line
  pub command : line.command ≡ Commit
  pub noted : (client_of s k).noted ≡ Held (need u) ∷ []
  pub is_open : (client_of s k).update ≡ Some u
  pub several : u.is_super ≡ true
  pub writes : has_writes u ≡ true
  pub unworn : AreUnworn s.state u

-- One file that gets a new version: its part of the update, the block of the version that it began
-- from, its draft, and the plan of its flush.
pub record Renewal : Type 0 where
  pub work : Work
  pub root : ℕ
  pub draft : View
  pub plan : Plan

abbrev pub works_of : List Renewal → List Work
works_of rs = map (λ r. r.work) rs

-- The places of all flushes, one after the other.
abbrev pub places_of : List Renewal → List Placed
places_of [] = []
places_of (r ∷ rs) = r.plan.placed ++ places_of rs

-- Its draft stands for its steps on its base, and its flush is done, in blocks that the client
-- holds.
pub record IsRenewed (scene : Scene) (k : ℕ) (r : Renewal) : Type 0 where
  pub draft : HasDraft scene r.work r.root r.draft
  pub flush : IsFlushing scene k r.draft (base_of r.root r.work.object r.work.serial) r.plan
  pub all : r.plan.written ≡ length r.plan.placed

-- The members name these files in their order, each with the block of its new version page.
abbrev pub AreNamedBy : List MemberValue → List Renewal → Type 0
AreNamedBy [] [] = Unit {0}
AreNamedBy [] (r ∷ rs) = ⊥
AreNamedBy (m ∷ ms) [] = ⊥
AreNamedBy (m ∷ ms) (r ∷ rs) =
    ((m.object ≡ r.work.object) × (block_of r.plan.placed [] ≡ Some m.block)) × AreNamedBy ms rs

-- The flushes of all files that get a new version are done: the client holds the blocks that were
-- written, no two of which are one, and no others. The first file's version names the others as its
-- members, and these name none.
pub record AreWritten (scene : Scene) (k : ℕ) (u : Update) (top : Renewal)
    (members : List Renewal) : Type 0 where
  pub works : renewed_works u ≡ works_of (top ∷ members)
  pub each : AllByRecursion (IsRenewed scene k) (top ∷ members)
  pub apart : are_apart (places_of (top ∷ members)) ≡ true
  pub number : (client_of scene.standing k).held ≡ length (places_of (top ∷ members))
  pub named : AreNamedBy top.plan.members members
  pub none : AllByRecursion (λ (r : Renewal). r.plan.members ≡ []) members

-- The links that are left once they are committed: from the base of each member to its new version.
abbrev pub links_to : List Renewal → List MemberValue → List Link
links_to [] ms = []
links_to (r ∷ rs) [] = []
links_to (r ∷ rs) (m ∷ ms) = record { base = r.root; member = m } ∷ links_to rs ms

-- What is told of the files after the commit: of each of these it is told anew, with the block of
-- its new version page and as many pages of its own as its flush has places.
abbrev pub told_anew : List (Option Head) → ℕ → ℕ → Option ℕ → List (Option Head)
told_anew heads object own None = heads
told_anew heads object own (Some block) =
    option_map_or (λ head. slice_set heads (object - 1) (Some (head_after head block own)))
    (option_and_then (λ (o : Option Head). o) (slice_get heads (object - 1))) heads

abbrev pub heads_after : List Renewal → List (Option Head) → List (Option Head)
heads_after [] heads = heads
heads_after (r ∷ rs) heads =
    heads_after rs
    (told_anew heads r.work.object (length r.plan.placed) (block_of r.plan.placed []))

-- The scene after the one link was set: the client has the entry noted, holds no block any more,
-- and sets the members' links now. Links that another client sets are left to it.
pub record AreCommitted (scripts : Scripts) (k : ℕ) (old new : Scene) (line : Line) (u : Update)
    (top : Renewal) (members : List Renewal) (block at : ℕ) (content : Content)
    (states : List BlockState) : Type 0 where
  pub to : IsLinkedTo scripts k old new (commit_entry old.standing k line u at) content states
  pub links : IsSettingLinks new k u (made_by old.standing.state u) at top.work.object block
      top.plan.members (links_to members top.plan.members)
  pub leaves : (j : ℕ) → j ≢ k → LeavesLinks j old new × LeavesNames j old new
  pub heads : (heads : List (Option Head)) → AreHeads old heads
      → AreHeads new (heads_after (top ∷ members) heads)

-- Of an update of several files that is not committed yet, each file that gets a new version began
-- from its last version, and nobody sets links of it.
abbrev pub SeveralAreLast : Type 0
SeveralAreLast =
    (scripts : Scripts) (s : Standing) (k : ℕ) (line : Line) (u : Update) (i : ℕ) (w : Work)
    → IsSound scripts s → MayCommitSeveral scripts s k line u
    → slice_get (renewed_works u) i ≡ Some w
    → (w.serial ≡ serial_of s.state w.object) × (IsLinking s w.object → ⊥)

-- Where the one link of such an update was set, in the version page that its first file's draft
-- began from, the blocks that were written are kept, and the commit is noted, that is a scene: each
-- of the files has one version more, and the others are left what they rely on.
abbrev pub CommitLinksSeveral : Type 0
CommitLinksSeveral =
    (scripts : Scripts) (k : ℕ) (old : Scene) (line : Line) (u : Update) (top : Renewal)
    (members : List Renewal) (block : ℕ) (content : Content) (states : List BlockState) (at : ℕ)
    → IsShared old → IsSound scripts old.standing
    → MayCommitSeveral scripts old.standing k line u
    → AreWritten old k u top members → block_of top.plan.placed [] ≡ Some block
    → Rewrites old.content content top.root (with_commit block)
    → Replaces k Kept old.states states → old.standing.moment ≤ at
    → (new : Scene) × AreCommitted scripts k old new line u top members block at content states
