-- The line that opens an update of several files: in its first turn the bases are noted, and each
-- turn reads one version page; with the last one it is answered.
use Rattle.std.specs.Prelude.{◌≡◌, ℕ, true, List, [], ◌∷◌, ◌++◌, map, Option, Some, None, is_some}
use Rattle.std.specs.Prelude.{if◌then◌else◌, length, slice_get, ◌-◌, ◌≤◌, ◌≢◌, ◌==◌}
use Rattle.std.specs.List.{list_any}
use Rattle.afs_base.specs.declared.head.Head.{Head}
use Rattle.draft_model.specs.Stands.{Begins}
use Rattle.draft_model.specs.Views.{View}
use Rattle.page_codec.specs.Values.{PageValue}
use Rattle.pair_store.specs.declared.store.Blocks.{Ghosts}
use Rattle.script_text.specs.declared.command.Command.TheVariants.{Super}
use Rattle.script_text.specs.declared.command.FileName.{FileName}
use Rattle.script_text.specs.declared.reply.LineRefusal.{LineRefusal}
use Rattle.script_text.specs.declared.reply.LineRefusal.TheVariants.{DeniedTwice, Open}
use Rattle.script_text.specs.declared.reply.LineReply.TheVariants as reply
use Rattle.script_text.specs.declared.script.Line.{Line}
use Rattle.service_model.specs.declared.journal.Entry.{Entry}
use Rattle.service_model.specs.declared.journal.What.TheVariants.{Answered, Began}
use Rattle.service_model.specs.Causes.{cause_of, first_cause, has_twice, locked_cause, object_of, when}
use Rattle.service_model.specs.Entries.{after_entries, bases_of, noting, opened, work_on}
use Rattle.service_model.specs.Sound.{IsOpenAt}
use Rattle.service_model.specs.Standing.{Scripts, Standing, Client, Update, Upkeep, Work, client_of}
use Rattle.service_model.specs.Standing.{has_file, next_line, seal_in}
use Rattle.store_model.specs.Laws.{pages_of}
use Rattle.tree_model.specs.States.{State}
use Rattle.ground_model.specs.Causes.{name_cause}
use Rattle.ground_model.specs.Laws.{Leads}
use Rattle.ground_model.specs.Leaves.{KeepsVersions, Leaves}
use Rattle.ground_model.specs.Lines.{IsAt, Notes, answering, in_line}
use Rattle.ground_model.specs.Own.{HasDraft, IsBase, IsClient, IsResting}
use Rattle.ground_model.specs.Runs.{IsRead, Stands}
use Rattle.ground_model.specs.Scenes.{AreHeads, IsShared, Scene}
use Rattle.ground_model.specs.Steps.{moved_to}

-- ---- causes

-- Why one of these names is refused, by the seals of the objects: the first such one counts.
abbrev pub names_cause : State → List FileName → Option LineRefusal
names_cause state files =
    first_cause (map (λ file. name_cause (seal_in state (object_of file)) file) files)

-- An update of several files may be opened where none is open, no name is refused, no two of them
-- name one object, and no other client has one of the objects locked.
abbrev pub CauseOfSuper : Type 0
CauseOfSuper =
    (s : Standing) (k : ℕ) (files : List FileName)
    → cause_of s k (Super files) ≡ (if is_some (client_of s k).update
    then Some Open
    else first_cause
    (names_cause s.state files ∷ when (has_twice (map object_of files)) DeniedTwice
    ∷ locked_cause s k (map object_of files) ∷ []))

-- ---- entries

-- The client as its update of several files is open, and its bases are noted.
abbrev pub began : Client → Update → Client
began c u = noting (Began (bases_of u)) (record c { update = Some u })

-- Where no cause is there, the bases are noted, which are the last versions of the files.
abbrev pub SuperIsNoted : Type 0
SuperIsNoted =
    (scripts : Scripts) (s : Standing) (k : ℕ) (line : Line) (files : List FileName)
    → IsAt scripts s k line → line.command ≡ Super files → cause_of s k line.command ≡ None
    → Notes scripts s k (in_line k line (Began (bases_of (opened s.state line.command))) ∷ [])
    (began (client_of s k) (opened s.state line.command))

-- The line under way opens an update of several files: that is noted of it, and nothing else. The
-- client holds no block, and has no maintenance.
pub record IsOpeningSeveral (scripts : Scripts) (s : Standing) (k : ℕ) (line : Line)
    (u : Update) : Type 0 where
  pub client : IsClient s k
  pub next : next_line scripts s k ≡ Some line
  pub files : List FileName
  pub command : line.command ≡ Super files
  pub is_open : (client_of s k).update ≡ Some u
  pub several : u.is_super ≡ true
  pub noted : (client_of s k).noted ≡ Began (bases_of u) ∷ []
  pub held : (client_of s k).held ≡ 0
  pub idle : (up : Upkeep) → s.upkeep ≡ Some up → up.client ≢ k

-- Then it may be answered, by the serials of the bases; the update is open.
abbrev pub SuperIsAnswered : Type 0
SuperIsAnswered =
    (scripts : Scripts) (s : Standing) (k : ℕ) (line : Line) (u : Update)
    → IsOpeningSeveral scripts s k line u
    → Notes scripts s k (in_line k line Answered ∷ [])
    (answering (client_of s k) (reply.Base (map (λ n. n.serial) (bases_of u))) (Some u))

-- The update has the files that the line names, each on its last version, and no others; so these
-- are those that it locks.
abbrev pub SuperHasFiles : Type 0
SuperHasFiles =
    (state : State) (files : List FileName) (object : ℕ)
    → ((opened state (Super files)).is_super ≡ true)
    × ((opened state (Super files)).works ≡ map (work_on state) files)
    × (has_file object (opened state (Super files))
    ≡ list_any (λ file. object_of file == object) files)

-- ---- version pages

-- What is told of a file's last version is where the update of the file begins.
abbrev pub WorkBegins : Type 0
WorkBegins =
    (scene : Scene) (heads : List (Option Head)) (file : FileName) (head : Head) (w : Work)
    → IsShared scene → AreHeads scene heads → 1 ≤ object_of file
    → slice_get heads (object_of file - 1) ≡ Some (Some head)
    → w ≡ work_on scene.standing.state file
    → IsBase scene w.object w.serial head.block w.base

-- A draft that begins on the version page of a work's base is one of that work.
abbrev pub BaseBeginsDraft : Type 0
BaseBeginsDraft =
    (scene : Scene) (w : Work) (root : ℕ) (page : PageValue) (d : View)
    → IsShared scene → IsBase scene w.object w.serial root w.base → w.steps ≡ []
    → pages_of scene.content root ≡ Some page → Begins d root page → HasDraft scene w root d

-- The version pages on which the files of an update begin lie in these blocks, file by file.
pub record HasBases (scene : Scene) (u : Update) (roots : List ℕ) : Type 0 where
  pub count : length roots ≡ length u.works
  pub each : (i : ℕ) (w : Work) (root : ℕ) → slice_get u.works i ≡ Some w
      → slice_get roots i ≡ Some root → IsBase scene w.object w.serial root w.base

-- That is told of the object that this name stands for: its last version lies in that block.
pub record IsToldAt (heads : List (Option Head)) (file : FileName) (root : ℕ) : Type 0 where
  pub counts : 1 ≤ object_of file
  pub head : Head
  pub told : slice_get heads (object_of file - 1) ≡ Some (Some head)
  pub block : head.block ≡ root

-- So it is of an update that is opened, where that is told of the files that the line names;
abbrev pub BasesBegin : Type 0
BasesBegin =
    (scene : Scene) (heads : List (Option Head)) (files : List FileName) (roots : List ℕ)
    → IsShared scene → AreHeads scene heads → length roots ≡ length files
    → ((i : ℕ) (file : FileName) (root : ℕ) → slice_get files i ≡ Some file
    → slice_get roots i ≡ Some root → IsToldAt heads file root)
    → HasBases scene (opened scene.standing.state (Super files)) roots

-- where every version is there again;
abbrev pub BasesStay : Type 0
BasesStay =
    (old new : Scene) (u : Update) (roots : List ℕ) → KeepsVersions old new
    → HasBases old u roots → HasBases new u roots

-- and where the client is left what it relies on. Its line is under way as it was, then.
abbrev pub BasesAreLeft : Type 0
BasesAreLeft =
    (k : ℕ) (old new : Scene) (u : Update) (roots : List ℕ) → 1 ≤ k → Leaves k old new
    → IsOpenAt old.standing k u → HasBases old u roots → HasBases new u roots

abbrev pub OpeningIsLeft : Type 0
OpeningIsLeft =
    (scripts : Scripts) (k : ℕ) (old new : Scene) (line : Line) (u : Update) → Leaves k old new
    → IsOpeningSeveral scripts old.standing k line u
    → IsOpeningSeveral scripts new.standing k line u

-- ---- turns

-- The entry of the bases.
abbrev pub super_entry : Standing → ℕ → Line → Entry
super_entry s k line = in_line k line (Began (bases_of (opened s.state line.command)))

-- After the turn in which such a line began it is under way, with the entry noted; and the others
-- are left what they rely on.
pub record HasBegun (scripts : Scripts) (k : ℕ) (line : Line) (old new : Scene) : Type 0 where
  pub leads : Leads k old new
  pub own : client_of new.standing k
      ≡ began (client_of old.standing k) (opened old.standing.state line.command)
  pub opening : IsOpeningSeveral
      scripts new.standing k line (opened old.standing.state line.command)

-- The run stands after that turn, in which at most a page was read.
abbrev pub SuperBegins : {D : Type 0} → Ghosts D → Type 0
SuperBegins {D} b =
    (opening : State) (scripts : Scripts) (first k : ℕ) (scene : Scene) (before after : D)
    (es : List Entry) (line : Line) (files : List FileName)
    → Stands b opening scripts first scene before es → IsAt scripts scene.standing k line
    → line.command ≡ Super files → cause_of scene.standing k line.command ≡ None
    → IsRead b before after
    → Stands b opening scripts first
    (moved_to scene (b.content after) scene.states
    (after_entries scripts scene.standing (super_entry scene.standing k line ∷ [])))
    after (es ++ super_entry scene.standing k line ∷ [])
    × HasBegun scripts k line scene
    (moved_to scene (b.content after) scene.states
    (after_entries scripts scene.standing (super_entry scene.standing k line ∷ [])))

-- So it does after each turn that reads one page more,
abbrev pub SuperReads : {D : Type 0} → Ghosts D → Type 0
SuperReads {D} b =
    (opening : State) (scripts : Scripts) (first k : ℕ) (scene : Scene) (before after : D)
    (es : List Entry) (line : Line) (u : Update)
    → Stands b opening scripts first scene before es
    → IsOpeningSeveral scripts scene.standing k line u → IsRead b before after
    → Stands b opening scripts first
    (moved_to scene (b.content after) scene.states scene.standing) after es
    × Leads k scene (moved_to scene (b.content after) scene.states scene.standing)

-- and after the turn that reads the last one and answers the line: the client rests, and its update
-- is open.
pub record HasOpened (k : ℕ) (u : Update) (old new : Scene) : Type 0 where
  pub leads : Leads k old new
  pub own : client_of new.standing k ≡ answering (client_of old.standing k)
      (reply.Base (map (λ n. n.serial) (bases_of u))) (Some u)
  pub resting : IsResting new.standing k

abbrev pub SuperAnswers : {D : Type 0} → Ghosts D → Type 0
SuperAnswers {D} b =
    (opening : State) (scripts : Scripts) (first k : ℕ) (scene : Scene) (before after : D)
    (es : List Entry) (line : Line) (u : Update)
    → Stands b opening scripts first scene before es
    → IsOpeningSeveral scripts scene.standing k line u → IsRead b before after
    → Stands b opening scripts first
    (moved_to scene (b.content after) scene.states
    (after_entries scripts scene.standing (in_line k line Answered ∷ [])))
    after (es ++ in_line k line Answered ∷ [])
    × HasOpened k u scene
    (moved_to scene (b.content after) scene.states
    (after_entries scripts scene.standing (in_line k line Answered ∷ [])))
