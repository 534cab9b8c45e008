-- Which entry may come next, and which journals may be.
use Rattle.std.specs.Prelude.{◌≡◌, ◌≢◌, ◌⊎◌, ℕ, ◌-◌, ◌^◌, ◌<◌, ◌≤◌, false, length, List, [], ◌∷◌, ◌++◌, Option, Some, None, option_to_list, IsSome, IsSomeAnd, IsTrue, MatchBool, All, slice_get}
use Rattle.script_text.specs.ScriptValue.{ScriptValue}
use Rattle.script_text.specs.declared.script.Line.{Line}
use Rattle.script_text.specs.declared.script.Mode.{Mode}
use Rattle.script_text.specs.declared.command.Command.{Command}
use Rattle.script_text.specs.declared.command.FileName.{FileName}
use Rattle.script_text.specs.declared.command.Command.TheVariants.{Begin, Super, Commit, Abandon, Create, Destroy, Prune}
use Rattle.service_model.specs.declared.journal.Entry.{Entry}
use Rattle.service_model.specs.declared.journal.Refusal.{Refusal}
use Rattle.service_model.specs.declared.journal.Refusal.TheVariants.{Conflict, Locked, NoSpace, Worn}
use Rattle.service_model.specs.declared.journal.What.{What}
use Rattle.service_model.specs.declared.journal.What.TheVariants.{Began, Held, Committed, Refused, GivenUp, Started, Created, Destroyed, Pruned, Answered}
use Rattle.service_model.specs.declared.named.Named.{Named}
use Rattle.tree_model.specs.Accesses.{Place, IsClash, reads_of, visible_of}
use Rattle.tree_model.specs.States.{State, file_of}
use Rattle.service_model.specs.Causes.{cause_of, object_of}
use Rattle.service_model.specs.Entries.{opened, bases_of, made_by, after_entry, after_entries, mode_of}
use Rattle.service_model.specs.Replies.{reply_at}
use Rattle.service_model.specs.Standing.{Scripts, Standing, Client, Update, Work, Made, Upkeep, start, client_of, next_line, last_line, serial_of, has_writes, renewed_works, need, free, locked_by, kept_blocks}
use Rattle.service_model.specs.Upkeep.{new_object, new_blocks, kept_from, first_serial, pruned_blocks}

-- ---- lines

-- the line opens an update
abbrev pub IsOpening : Command → Type 0
IsOpening (Begin file) = Unit {0}
IsOpening (Super files) = Unit {0}
IsOpening _ = ⊥

-- the line begins maintenance, which a pruning does only where it takes something away
abbrev pub IsMaintenance : Standing → Command → Type 0
IsMaintenance s Create = Unit {0}
IsMaintenance s (Destroy file) = Unit {0}
IsMaintenance s (Prune file keep) =
    kept_from s (object_of file) keep ≢ first_serial s.state (object_of file)
IsMaintenance s _ = ⊥

-- ---- commits

-- a version that was made in this run after an update's base
abbrev pub IsLater : Work → Made → Type 0
IsLater w m = (m.object ≡ w.object) × (w.serial < m.serial)

-- that version's update wrote nothing that the update read
abbrev pub IsUnreadOf : Work → Made → Type 0
IsUnreadOf w m = IsClash (reads_of w.base w.steps) (visible_of m.before m.steps) None

-- no version of the file that was made after the base wrote what the update read
abbrev pub IsUnclashed : List Made → Work → Type 0
IsUnclashed made w = All (λ (m : Made). IsLater w m → IsUnreadOf w m) made

-- the first version made after the base that wrote what the update read has this serial, and this is the
-- least such place
abbrev pub IsFirstClash : List Made → Work → ℕ → Place → Type 0
IsFirstClash made w serial place =
    ((m : Made) × (n : ℕ) × (slice_get made n ≡ Some m) × IsLater w m × (m.serial ≡ serial)
    × IsClash (reads_of w.base w.steps) (visible_of m.before m.steps) (Some place))
    × All (λ (m : Made). IsLater w m → m.serial < serial → IsUnreadOf w m) made

-- no other client has a file of the update locked, and what it read still stands. An update of several
-- files keeps others off.
abbrev pub IsUnopposed : Standing → ℕ → Update → Type 0
IsUnopposed s k u =
    u.is_super ≡ false → All (λ (w : Work). (locked_by s k w.object ≡ None) × IsUnclashed s.made w) u.works

-- a serial is left for each file that is renewed
abbrev pub AreUnworn : State → Update → Type 0
AreUnworn state u = All (λ (w : Work). serial_of state w.object < 2 ^ 64 - 1) (renewed_works u)

-- an update with writes may be committed: its blocks are held, it is not opposed, serials are left, and
-- the new versions are those of the files that it renews, under the next serials
pub record IsCommittable (s : Standing) (k : ℕ) (u : Update) (made : List Named) : Type 0 where
  pub held : (client_of s k).noted ≡ Held (need u) ∷ []
  pub unopposed : IsUnopposed s k u
  pub unworn : AreUnworn s.state u
  pub versions : made ≡ made_by s.state u

-- a commit may be refused for this
abbrev pub IsRefusable : Standing → ℕ → Update → Refusal → Type 0
IsRefusable s k u (Conflict serial path kind) =
    (w : Work) × (u.is_super ≡ false) × (u.works ≡ w ∷ []) × IsFirstClash s.made w serial (path, kind)
IsRefusable s k u (Locked by) =
    (w : Work) × (u.is_super ≡ false) × (u.works ≡ w ∷ []) × (locked_by s k w.object ≡ Some by)
IsRefusable s k u (NoSpace needed blocks) =
    ((client_of s k).noted ≡ []) × (needed ≡ need u) × (blocks ≡ free s) × (blocks < needed)
IsRefusable s k u Worn =
    (w : Work) × (n : ℕ) × (slice_get (renewed_works u) n ≡ Some w)
    × (serial_of s.state w.object ≡ 2 ^ 64 - 1)

-- nothing was noted of the line but, at most, that blocks are held
abbrev pub IsUndecided : List What → Type 0
IsUndecided noted = (noted ≡ []) ⊎ ((blocks : ℕ) × (noted ≡ Held blocks ∷ []))

-- ---- one entry

-- so many blocks may be held for a commit: nothing was noted of the line, the update has writes and
-- needs so many, and so many are free
pub record IsHoldable (s : Standing) (k : ℕ) (u : Update) (blocks : ℕ) : Type 0 where
  pub first : (client_of s k).noted ≡ []
  pub writes : IsTrue (has_writes u)
  pub needed : blocks ≡ need u
  pub room : blocks ≤ free s

-- the commit of an update may be noted with these versions: without writes there are none
abbrev pub IsCommitOf : Standing → ℕ → Update → List Named → Type 0
IsCommitOf s k u made =
    MatchBool (has_writes u) (IsCommittable s k u made) (((client_of s k).noted ≡ []) × (made ≡ []))

-- an entry of client k may come next in a line with this command
abbrev pub IsLawfulWhat : Mode → Standing → ℕ → Command → What → Type 0
IsLawfulWhat mode s k command (Began bases) =
    IsOpening command × ((client_of s k).noted ≡ []) × (cause_of s k command ≡ None)
    × (bases ≡ bases_of (opened s.state command))
IsLawfulWhat mode s k command (Held blocks) =
    ((command ≡ Commit) × IsSomeAnd (client_of s k).update (λ u. IsHoldable s k u blocks))
    ⊎ ((command ≡ Create) × ((client_of s k).noted ≡ Started ∷ []) × (s.latest ≡ k)
    × IsSomeAnd (new_object s.state) (λ object. blocks ≡ new_blocks s.state object))
IsLawfulWhat mode s k command (Committed made at) =
    (command ≡ Commit) × IsSomeAnd (client_of s k).update (λ u. IsCommitOf s k u made) × (s.moment ≤ at)
IsLawfulWhat mode s k command (Refused why) =
    (command ≡ Commit) × IsUndecided (client_of s k).noted
    × IsSomeAnd (client_of s k).update (λ u. IsTrue (has_writes u) × IsRefusable s k u why)
IsLawfulWhat mode s k command GivenUp =
    (command ≡ Abandon) × ((client_of s k).noted ≡ []) × IsSome (client_of s k).update
IsLawfulWhat mode s k command Started =
    IsMaintenance s command × ((client_of s k).noted ≡ []) × (cause_of s k command ≡ None)
IsLawfulWhat mode s k command (Created object at) =
    (command ≡ Create) × ((blocks : ℕ) × ((client_of s k).noted ≡ Started ∷ Held blocks ∷ []))
    × (new_object s.state ≡ Some object) × (s.moment ≤ at)
IsLawfulWhat mode s k command (Destroyed object blocks at) =
    ((file : FileName) × (command ≡ Destroy file) × (object ≡ object_of file))
    × ((client_of s k).noted ≡ Started ∷ []) × (s.latest ≡ k)
    × IsSomeAnd (file_of s.state object) (λ file. blocks ≡ kept_blocks file) × (s.moment ≤ at)
IsLawfulWhat mode s k command (Pruned object first blocks at) =
    ((file : FileName) × (keep : ℕ) × (command ≡ Prune file keep) × (object ≡ object_of file))
    × ((client_of s k).noted ≡ Started ∷ []) × IsSomeAnd s.upkeep (λ (up : Upkeep). first ≡ up.first)
    × IsSomeAnd (file_of s.state object) (λ file. blocks ≡ pruned_blocks first file) × (s.moment ≤ at)
IsLawfulWhat mode s k command Answered = IsSome (reply_at mode s k command)

-- an entry belongs to its client's next line, carries that line's number, and is lawful there
abbrev pub IsInLine : Scripts → Standing → Entry → Type 0
IsInLine scripts s e =
    (line : Line) × (next_line scripts s e.client ≡ Some line) × (e.line ≡ line.number)
    × IsLawfulWhat (mode_of scripts e.client) s e.client line.command e.what

-- an entry gives up the update that is open as its client's last line was answered, directly after it
abbrev pub IsAtEnd : Scripts → Standing → Entry → Type 0
IsAtEnd scripts s e =
    (line : Line) × (next_line scripts s e.client ≡ None) × (last_line scripts e.client ≡ Some line)
    × (e.line ≡ line.number) × (e.what ≡ GivenUp) × (s.latest ≡ e.client) × IsSome (client_of s e.client).update

-- an entry may come next
abbrev pub IsLawful : Scripts → Standing → Entry → Type 0
IsLawful scripts s e =
    (1 ≤ e.client) × (e.client ≤ length s.clients) × (IsInLine scripts s e ⊎ IsAtEnd scripts s e)

-- each of these entries may come where it comes
abbrev pub IsLegalFrom : Scripts → Standing → List Entry → Type 0
IsLegalFrom scripts s [] = Unit {0}
IsLegalFrom scripts s (e ∷ es) = IsLawful scripts s e × IsLegalFrom scripts (after_entry scripts s e) es

-- a journal over an opening state
abbrev pub IsLegal : State → Scripts → List Entry → Type 0
IsLegal opening scripts es = IsLegalFrom scripts (start opening scripts) es

-- a legal journal leads to what stands
pub record Reaches (opening : State) (scripts : Scripts) (es : List Entry) (s : Standing) : Type 0 where
  pub legal : IsLegal opening scripts es
  pub leads : after_entries scripts (start opening scripts) es ≡ s

-- ---- acknowledged, complete

-- the moment that an entry carries. A commit without writes carries one too, and changes no state.
abbrev pub moment_of : What → Option ℕ
moment_of (Committed made at) = Some at
moment_of (Created object at) = Some at
moment_of (Destroyed object blocks at) = Some at
moment_of (Pruned object first blocks at) = Some at
moment_of _ = None

-- an entry that carries a moment was acknowledged by another. This is asked of the entries that are known
-- to be done, never of one in doubt.
abbrev pub IsAcknowledged : ℕ → Entry → Type 0
IsAcknowledged moment e = IsSomeAnd (moment_of e.what) (λ at. at ≤ moment)

-- the entries of a journal, and after them the one in doubt, where one is
abbrev pub all_entries : List Entry → Option Entry → List Entry
all_entries entries doubt = entries ++ option_to_list doubt

-- each line of each of these scripts is answered, and its client has no update open
abbrev pub IsCompleteFor : List ScriptValue → List Client → Type 0
IsCompleteFor [] [] = Unit {0}
IsCompleteFor [] (c ∷ clients) = ⊥
IsCompleteFor (script ∷ scripts) [] = ⊥
IsCompleteFor (script ∷ scripts) (c ∷ clients) =
    (length c.answers ≡ length script.lines) × (c.update ≡ None) × IsCompleteFor scripts clients

-- each line of each script is answered, and no update is open
abbrev pub IsComplete : Scripts → Standing → Type 0
IsComplete scripts s = IsCompleteFor scripts s.clients
