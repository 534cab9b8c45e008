-- What the code of a commit of several files knows of what stands, and what follows: from which
-- versions it began, for which causes it is refused, that it may be committed, and its answer.
use Rattle.std.specs.Prelude.{◌≡◌, ℕ, zero, suc, ◌+◌, ◌-◌, ◌<◌, ◌^◌, true, false, List, []}
use Rattle.std.specs.Prelude.{◌∷◌, map, length, Some, None, if◌then◌else◌, slice_get}
use Rattle.std.specs.List.{list_any}
use Rattle.block_map.specs.States.{Replaces}
use Rattle.block_map.specs.declared.states.BlockState.{BlockState}
use Rattle.block_map.specs.declared.states.BlockState.TheVariants.{Free}
use Rattle.script_text.specs.declared.reply.LineReply.TheVariants as reply
use Rattle.script_text.specs.declared.script.Line.{Line}
use Rattle.service_model.specs.declared.journal.Refusal.{Refusal}
use Rattle.service_model.specs.declared.journal.Refusal.TheVariants.{Worn}
use Rattle.service_model.specs.declared.journal.What.TheVariants as what
use Rattle.service_model.specs.Entries.{after_entries, made_by, without_update}
use Rattle.service_model.specs.Legal.{AreUnworn, IsRefusable, IsUndecided}
use Rattle.service_model.specs.Replies.{refusal_of, serials_by}
use Rattle.service_model.specs.Sound.{IsSound, is_committing}
use Rattle.service_model.specs.Standing.{Scripts, Standing, Update, Work, client_of, has_writes}
use Rattle.service_model.specs.Standing.{is_written, need, renewed_works, serial_of}
use Rattle.ground_model.specs.CommitLines.{IsCommitting}
use Rattle.ground_model.specs.LineTurns.{IsMapStep}
use Rattle.ground_model.specs.Lines.{Notes, answering, in_line}
use Rattle.ground_model.specs.Own.{IsClient}
use Rattle.ground_model.specs.Scenes.{IsShared, Scene}
use Rattle.ground_model.specs.Several.{MayCommitSeveral}

-- ---- its bases

-- The client has an update of several files open, and has not committed it.
pub record IsOpenSeveral (s : Standing) (k : ℕ) (u : Update) : Type 0 where
  pub client : IsClient s k
  pub is_open : (client_of s k).update ≡ Some u
  pub several : u.is_super ≡ true
  pub uncommitted : list_any is_committing (client_of s k).noted ≡ false

-- Then each of its files began from its last version.
abbrev pub SeveralAreBased : Type 0
SeveralAreBased =
    (scripts : Scripts) (s : Standing) (k : ℕ) (u : Update) (i : ℕ) (w : Work)
    → IsSound scripts s → IsOpenSeveral s k u → slice_get u.works i ≡ Some w
    → w.serial ≡ serial_of s.state w.object

-- So a serial is left for each file that gets a new version where one is left after each of these
-- bases,
abbrev pub SeveralAreUnworn : Type 0
SeveralAreUnworn =
    (scripts : Scripts) (s : Standing) (k : ℕ) (u : Update)
    → IsSound scripts s → IsOpenSeveral s k u
    → ((i : ℕ) (w : Work) → slice_get (renewed_works u) i ≡ Some w → w.serial < 2 ^ 64 - 1)
    → AreUnworn s.state u

-- and where none is left after one of them the commit may be refused for that.
abbrev pub SeveralAreWorn : Type 0
SeveralAreWorn =
    (scripts : Scripts) (s : Standing) (k : ℕ) (u : Update) (i : ℕ) (w : Work)
    → IsSound scripts s → IsOpenSeveral s k u
    → slice_get (renewed_works u) i ≡ Some w → w.serial ≡ 2 ^ 64 - 1
    → IsRefusable s k u Worn

-- ---- refusals

-- The client has an update with writes open, of any number of files, and nothing was noted of its
-- line but, at most, that blocks are held.
pub record IsUndecidedOf (s : Standing) (k : ℕ) (u : Update) : Type 0 where
  pub is_open : (client_of s k).update ≡ Some u
  pub writes : has_writes u ≡ true
  pub undecided : IsUndecided (client_of s k).noted

-- A cause for which its commit may be refused is noted, and its answer: its update is over;
abbrev pub RefusableIsNoted : Type 0
RefusableIsNoted =
    (scripts : Scripts) (s : Standing) (k : ℕ) (line : Line) (u : Update) (why : Refusal)
    → IsCommitting scripts s k line → IsUndecidedOf s k u → IsRefusable s k u why
    → Notes scripts s k
    (in_line k line (what.Refused why) ∷ in_line k line what.Answered ∷ [])
    (answering (without_update (client_of s k)) (reply.Refused (refusal_of why)) None)

-- and the blocks that it held, if any, are given back.
abbrev pub RefusableGivesBack : Type 0
RefusableGivesBack =
    (scripts : Scripts) (k : ℕ) (scene : Scene) (states : List BlockState) (line : Line)
    (u : Update) (why : Refusal)
    → IsShared scene → IsCommitting scripts scene.standing k line
    → IsUndecidedOf scene.standing k u → IsRefusable scene.standing k u why
    → Replaces k Free scene.states states
    → IsMapStep k scene states
    (after_entries scripts scene.standing
    (in_line k line (what.Refused why) ∷ in_line k line what.Answered ∷ []))

-- ---- the commit

-- Where the blocks that it needs are held, and serials are left, it may be committed.
abbrev pub MayCommitSeveralIs : Type 0
MayCommitSeveralIs =
    (scripts : Scripts) (s : Standing) (k : ℕ) (line : Line) (u : Update)
    → IsCommitting scripts s k line → (client_of s k).update ≡ Some u
    → u.is_super ≡ true → has_writes u ≡ true
    → (client_of s k).noted ≡ what.Held (need u) ∷ [] → AreUnworn s.state u
    → MayCommitSeveral scripts s k line u

-- ---- its answer

-- The serial of a file of the update after the commit: the one after its base where the file gets a
-- new version, as the first one does and each that was written; else that of its base.
abbrev pub serial_after : Work → ℕ
serial_after w = if is_written w then w.serial + 1 else w.serial

abbrev pub serials_after : List Work → List ℕ
serials_after [] = []
serials_after (w ∷ ws) = (w.serial + 1) ∷ map serial_after ws

-- Each file has its serial at its place.
abbrev pub serial_at : ℕ → Work → ℕ
serial_at zero w = w.serial + 1
serial_at (suc i) w = serial_after w

abbrev pub SerialsAreAt : Type 0
SerialsAreAt =
    (ws : List Work)
    → (length (serials_after ws) ≡ length ws)
    × ((i : ℕ) (w : Work) → slice_get ws i ≡ Some w
    → slice_get (serials_after ws) i ≡ Some (serial_at i w))

-- The commit of an update of several files with writes is answered by these,
abbrev pub SerialsOfSeveral : Type 0
SerialsOfSeveral =
    (scripts : Scripts) (s : Standing) (k : ℕ) (line : Line) (u : Update)
    → IsSound scripts s → MayCommitSeveral scripts s k line u
    → serials_by (made_by s.state u) (Some u) ≡ serials_after u.works

-- and that of an update without writes, of any number of files, by the serials of the bases.
abbrev pub SerialsOfEmpty : Type 0
SerialsOfEmpty = (u : Update) → serials_by [] (Some u) ≡ map (λ w. w.serial) u.works
