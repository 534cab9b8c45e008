-- What the code of a commit of one file knows, and what follows: how many blocks it needs, that it
-- may be refused, that it may be committed, and what a commit without writes notes.
use Rattle.std.specs.Prelude.{◌≡◌, ℕ, ◌-◌, ◌<◌, ◌≤◌, ◌^◌, Bool, true, false, List, [], ◌∷◌, length}
use Rattle.std.specs.Prelude.{None, Some}
use Rattle.draft_model.specs.Told.{TellsFresh, TellsWrites}
use Rattle.draft_model.specs.Views.{View}
use Rattle.pair_store.specs.declared.store.Blocks.{Ghosts}
use Rattle.script_text.specs.declared.command.Command.TheVariants.{Commit}
use Rattle.script_text.specs.declared.reply.LineReply.TheVariants as reply
use Rattle.script_text.specs.declared.script.Line.{Line}
use Rattle.script_text.specs.declared.script.Mode.{Mode}
use Rattle.service_model.specs.declared.journal.Entry.{Entry}
use Rattle.service_model.specs.declared.journal.Refusal.{Refusal}
use Rattle.service_model.specs.declared.journal.Refusal.TheVariants.{Conflict, Locked}
use Rattle.service_model.specs.declared.journal.Refusal.TheVariants.{NoSpace, Worn}
use Rattle.service_model.specs.declared.journal.What.TheVariants as what
use Rattle.service_model.specs.Entries.{without_update}
use Rattle.service_model.specs.Legal.{IsFirstClash, IsLawfulWhat, IsUndecided}
use Rattle.service_model.specs.Replies.{refusal_of, serials_by}
use Rattle.service_model.specs.Standing.{Scripts, Standing, Update, Work, client_of, free}
use Rattle.service_model.specs.Standing.{has_writes, locked_by, need, serial_of}
use Rattle.tree_model.specs.Accesses.{fresh_as_top, written_paths}
use Rattle.tree_model.specs.States.{State}
use Rattle.tree_model.specs.Trees.{Tree}
use Rattle.ground_model.specs.CommitLines.{IsCommitting}
use Rattle.ground_model.specs.Commits.{MayCommit}
use Rattle.ground_model.specs.Fronts.{AreOfTurn}
use Rattle.ground_model.specs.Lines.{IsAt, Notes, answering, in_line}
use Rattle.ground_model.specs.Own.{HasDraft, HasMerged}
use Rattle.ground_model.specs.Runs.{Stands}
use Rattle.ground_model.specs.Scenes.{Scene}

-- ---- an update of one file

-- An update of this file alone, to which something was written.
pub record IsOneWritten (u : Update) (w : Work) : Type 0 where
  pub plain : u.is_super ≡ false
  pub works : u.works ≡ w ∷ []
  pub writes : has_writes u ≡ true

-- It needs a block for each fresh path,
abbrev pub NeedOfOne : Type 0
NeedOfOne =
    (u : Update) (w : Work) → IsOneWritten u w → need u ≡ length (fresh_as_top w.base w.steps)

-- which are as many as those of its draft, and of the draft merged with later versions.
abbrev pub NeedIsTold : Type 0
NeedIsTold =
    (scene : Scene) (u : Update) (w : Work) (root : ℕ) (d : View) (fresh : List (List ℕ))
    → IsOneWritten u w → HasDraft scene w root d → TellsFresh d fresh
    → length (written_paths fresh) ≡ need u

abbrev pub MergedNeedIsTold : Type 0
MergedNeedIsTold =
    (scene : Scene) (u : Update) (w : Work) (upto root : ℕ) (tree : Tree) (d : View)
    (fresh : List (List ℕ))
    → IsOneWritten u w → HasMerged scene w upto root tree d → TellsFresh d fresh
    → length (written_paths fresh) ≡ need u

-- Whether something was written is what its draft tells, and the draft merged with later versions.
abbrev pub WritesAreTold : Type 0
WritesAreTold =
    (scene : Scene) (u : Update) (w : Work) (root : ℕ) (d : View) (told : Bool)
    → u.works ≡ w ∷ [] → HasDraft scene w root d → TellsWrites d told → has_writes u ≡ told

abbrev pub MergedWritesAreTold : Type 0
MergedWritesAreTold =
    (scene : Scene) (u : Update) (w : Work) (upto root : ℕ) (tree : Tree) (d : View) (told : Bool)
    → u.works ≡ w ∷ [] → HasMerged scene w upto root tree d → TellsWrites d told
    → has_writes u ≡ told

-- ---- refusals

-- The client has such an update open, and nothing was noted of its line but, at most, that blocks
-- are held.
pub record IsUndecidedOne (s : Standing) (k : ℕ) (u : Update) (w : Work) : Type 0 where
  pub is_open : (client_of s k).update ≡ Some u
  pub one : IsOneWritten u w
  pub undecided : IsUndecided (client_of s k).noted

-- What stands is a cause to refuse its commit: a clash with a version that was made after the base,
-- another client's lock, too few free blocks, or no serial left.
abbrev pub IsCauseFor : Standing → ℕ → Update → Work → Refusal → Type 0
IsCauseFor s k u w (Conflict serial path kind) = IsFirstClash s.made w serial (path, kind)
IsCauseFor s k u w (Locked by) = locked_by s k w.object ≡ Some by
IsCauseFor s k u w (NoSpace needed blocks) =
    ((client_of s k).noted ≡ []) × (needed ≡ need u) × (blocks ≡ free s) × (blocks < needed)
IsCauseFor s k u w Worn = serial_of s.state w.object ≡ 2 ^ 64 - 1

-- So it may be refused for each of them.
abbrev pub RefusalIsLawful : Type 0
RefusalIsLawful =
    (mode : Mode) (s : Standing) (k : ℕ) (u : Update) (w : Work) (why : Refusal)
    → IsUndecidedOne s k u w → IsCauseFor s k u w why
    → IsLawfulWhat mode s k Commit (what.Refused why)

-- Then that is noted, and its answer.
abbrev pub OneIsRefused : Type 0
OneIsRefused =
    (scripts : Scripts) (s : Standing) (k : ℕ) (line : Line) (u : Update) (w : Work)
    (why : Refusal)
    → IsCommitting scripts s k line → IsUndecidedOne s k u w → IsCauseFor s k u w why
    → Notes scripts s k
    (in_line k line (what.Refused why) ∷ in_line k line what.Answered ∷ [])
    (answering (without_update (client_of s k)) (reply.Refused (refusal_of why)) None)

-- ---- commits

-- Where none of them is there and the blocks that it needs are held, it may be committed.
abbrev pub MayCommitIs : Type 0
MayCommitIs =
    (scripts : Scripts) (s : Standing) (k : ℕ) (line : Line) (u : Update) (w : Work)
    → IsCommitting scripts s k line → (client_of s k).update ≡ Some u → IsOneWritten u w
    → (client_of s k).noted ≡ what.Held (need u) ∷ []
    → locked_by s k w.object ≡ None → serial_of s.state w.object < 2 ^ 64 - 1
    → MayCommit scripts s k line u w

-- The entries of the commit of an update that wrote nothing, and those of its answer.
abbrev pub empty_commit : ℕ → Line → ℕ → List Entry
empty_commit k line at =
    in_line k line (what.Committed [] at) ∷ in_line k line what.Answered ∷ []

-- It makes no version, holds no block and is answered by the serials of the bases, all in one turn.
abbrev pub EmptyCommitIsNoted : Type 0
EmptyCommitIsNoted =
    (scripts : Scripts) (s : Standing) (k : ℕ) (line : Line) (u : Update) (at : ℕ)
    → IsAt scripts s k line → line.command ≡ Commit → (client_of s k).update ≡ Some u
    → has_writes u ≡ false → s.moment ≤ at
    → Notes scripts s k (empty_commit k line at)
    (answering (client_of s k) (reply.Committed (serials_by [] (Some u))) None)
    × AreOfTurn at (empty_commit k line at)

-- What stands carries no later moment than the store of the run tells.
abbrev pub MomentIsPast : {D : Type 0} → Ghosts D → Type 0
MomentIsPast {D} b =
    (opening : State) (scripts : Scripts) (first : ℕ) (scene : Scene) (store : D) (es : List Entry)
    → Stands b opening scripts first scene store es → scene.standing.moment ≤ b.moment store
