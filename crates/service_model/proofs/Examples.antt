-- Runs worked by hand: what each client is answered, and that each entry is lawful. The checker computes each.
use Rattle.std.proofs.Common.{◌≡◌, inl, inr, ℕ, List, [], ◌∷◌, ◌++◌, map, replicate, None, refl, lit≤}
use Rattle.script_text.specs.ScriptValue.{ScriptValue}
use Rattle.script_text.specs.declared.script.Line.{Line}
use Rattle.script_text.specs.declared.script.Mode.TheVariants.{Numbers}
use Rattle.script_text.specs.declared.command.Command.{Command}
use Rattle.script_text.specs.declared.command.Command.TheVariants as command
use Rattle.script_text.specs.declared.command.FileName.TheVariants.{Number}
use Rattle.script_text.specs.declared.reply.LineReply.{LineReply}
use Rattle.script_text.specs.declared.reply.LineReply.TheVariants as reply
use Rattle.script_text.specs.declared.reply.LineRefusal.TheVariants as refusal
use Rattle.caps.specs.declared.denied.DeniedWhy.TheVariants.{NoObject}
use Rattle.service_model.specs.declared.journal.Entry.{Entry}
use Rattle.service_model.specs.declared.journal.What.{What}
use Rattle.service_model.specs.declared.journal.What.TheVariants.{Began, Held, Committed, GivenUp, Started, Created, Destroyed, Answered}
use Rattle.service_model.specs.declared.named.Named.{Named}
use Rattle.tree_model.specs.declared.step.Step.TheVariants.{ReadAt, WriteAt}
use Rattle.tree_model.specs.Trees.{single, numbers_below}
use Rattle.tree_model.specs.States.{State, File, serials_of}
use Rattle.service_model.specs.Standing.{Scripts, Standing, Client}
use Rattle.service_model.specs.Entries.{standing_after}
use Rattle.service_model.specs.Legal.{IsLegal}
use Rattle.service_model.specs.Order.{Turn, play_order}

-- ---- stores and scripts

-- a file as it is made
abbrev pub made_file : File
made_file = record { generation = 1; secret = []; versions = record { serial = 1; tree = single; fresh = [] ∷ [] } ∷ [] }

-- an entry in which no file was ever made
abbrev pub nothing : File
nothing = record { generation = 0; secret = []; versions = [] }

-- a store of format 1 with these entries and so many blocks
abbrev pub store : ℕ → List File → State
store blocks files = record { format = 1; blocks = blocks; key = 7; files = files }

-- two files, and an entry for a third
abbrev pub two_files : State
two_files = store 64 (made_file ∷ made_file ∷ nothing ∷ [])

abbrev pub line : ℕ → Command → Line
line n command = record { number = n; command = command }

abbrev pub script : List Line → ScriptValue
script lines = record { mode = Numbers; lines = lines }

abbrev pub entry : ℕ → ℕ → What → Entry
entry client line what = record { client = client; line = line; what = what }

abbrev pub named : ℕ → ℕ → Named
named object serial = record { object = object; serial = serial }

abbrev pub turn : ℕ → ℕ → Turn
turn client line = record { client = client; line = line }

-- what each client was answered
abbrev pub answers : Standing → List (List LineReply)
answers s = map (λ (c : Client). c.answers) s.clients

-- the serials of each file
abbrev pub serials : Standing → List (List ℕ)
serials s = map serials_of s.state.files

-- ---- the order of play: one line of each client that is named, and then each client's rest

abbrev one_writes : ScriptValue
one_writes = script (line 1 (command.Begin (Number 1)) ∷ line 2 (command.Do (WriteAt (0 ∷ []) (170 ∷ []))) ∷ line 3 command.Commit ∷ [])

pub both_in_order : play_order (1 ∷ 2 ∷ []) (one_writes ∷ one_writes ∷ [])
    ≡ turn 1 1 ∷ turn 2 1 ∷ turn 1 2 ∷ turn 1 3 ∷ turn 2 2 ∷ turn 2 3 ∷ []
both_in_order = refl

-- a word for a client that has no line left does nothing
pub third_word_is_idle : play_order (2 ∷ 2 ∷ 2 ∷ []) (script (line 4 command.Commit ∷ []) ∷ script (line 2 command.Abandon ∷ []) ∷ [])
    ≡ turn 2 2 ∷ turn 1 4 ∷ []
third_word_is_idle = refl

-- ---- a file with an open update is not destroyed

abbrev pins : ScriptValue
pins = script (line 1 (command.Begin (Number 2)) ∷ line 2 command.Abandon ∷ [])

abbrev destroys : ScriptValue
destroys = script (line 1 (command.Destroy (Number 2)) ∷ [])

abbrev pinned_run : List Entry
pinned_run =
    entry 1 1 (Began (named 2 1 ∷ [])) ∷ entry 1 1 Answered ∷ entry 2 1 Answered ∷ entry 1 2 GivenUp ∷ entry 1 2 Answered ∷ []

pub pinned_is_told : answers (standing_after two_files (pins ∷ destroys ∷ []) pinned_run)
    ≡ (reply.Base (1 ∷ []) ∷ reply.Abandoned ∷ []) ∷ (reply.Refused (refusal.Pinned 1) ∷ []) ∷ []
pinned_is_told = refl

pub pinned_is_lawful : IsLegal two_files (pins ∷ destroys ∷ []) pinned_run
pinned_is_lawful = (
  (lit≤ tt, lit≤ tt, inl (line 1 (command.Begin (Number 2)), refl, refl, (tt, refl, refl, refl))),
  (
    (lit≤ tt, lit≤ tt, inl (line 1 (command.Begin (Number 2)), refl, refl, refl)),
    (
      (lit≤ tt, lit≤ tt, inl (line 1 (command.Destroy (Number 2)), refl, refl, refl)),
      (
        (lit≤ tt, lit≤ tt, inl (line 2 command.Abandon, refl, refl, (refl, refl, refl))),
        (
          (lit≤ tt, lit≤ tt, inl (line 2 command.Abandon, refl, refl, refl)),
          tt,
        ),
      ),
    ),
  ),
)

-- ---- a file is destroyed, and another one is made in its entry

abbrev makes_again : ScriptValue
makes_again = script (line 1 (command.Destroy (Number 2)) ∷ line 2 command.Create ∷ line 3 (command.Begin (Number 9)) ∷ [])

abbrev made_again_run : List Entry
made_again_run =
    entry 1 1 Started ∷ entry 1 1 (Destroyed 2 1 10) ∷ entry 1 1 Answered ∷ entry 1 2 Started ∷ entry 1 2 (Held 1)
    ∷ entry 1 2 (Created 2 20) ∷ entry 1 2 Answered ∷ entry 1 3 Answered ∷ []

pub made_again_is_told : answers (standing_after two_files (makes_again ∷ []) made_again_run)
    ≡ (reply.Destroyed 1 ∷ reply.Created 2 None ∷ reply.Refused (refusal.Denied (record { why = NoObject })) ∷ []) ∷ []
made_again_is_told = refl

pub made_again_serials : serials (standing_after two_files (makes_again ∷ []) made_again_run) ≡ (1 ∷ []) ∷ (1 ∷ []) ∷ [] ∷ []
made_again_serials = refl

pub made_again_is_lawful : IsLegal two_files (makes_again ∷ []) made_again_run
made_again_is_lawful = (
  (lit≤ tt, lit≤ tt, inl (line 1 (command.Destroy (Number 2)), refl, refl, (tt, refl, refl))),
  (
    (lit≤ tt, lit≤ tt, inl (line 1 (command.Destroy (Number 2)), refl, refl, ((Number 2, refl, refl), refl, refl, refl, lit≤ tt))),
    (
      (lit≤ tt, lit≤ tt, inl (line 1 (command.Destroy (Number 2)), refl, refl, refl)),
      (
        (lit≤ tt, lit≤ tt, inl (line 2 command.Create, refl, refl, (tt, refl, refl))),
        (
          (lit≤ tt, lit≤ tt, inl (line 2 command.Create, refl, refl, inr (refl, refl, refl, refl))),
          (
            (lit≤ tt, lit≤ tt, inl (line 2 command.Create, refl, refl, (refl, (1, refl), refl, lit≤ tt))),
            (
              (lit≤ tt, lit≤ tt, inl (line 2 command.Create, refl, refl, refl)),
              (
                (lit≤ tt, lit≤ tt, inl (line 3 (command.Begin (Number 9)), refl, refl, refl)),
                tt,
              ),
            ),
          ),
        ),
      ),
    ),
  ),
)

-- ---- what a client may not ask for now

abbrev asks_wrongly : ScriptValue
asks_wrongly = script (
    line 1 (command.Do (ReadAt [])) ∷ line 2 (command.Begin (Number 1)) ∷ line 3 (command.Begin (Number 1)) ∷ line 4 command.Abandon
    ∷ line 5 (command.Super (Number 1 ∷ Number 1 ∷ [])) ∷ line 6 (command.Super (Number 1 ∷ Number 9 ∷ [])) ∷ []
    )

abbrev asked_wrongly_run : List Entry
asked_wrongly_run =
    entry 1 1 Answered ∷ entry 1 2 (Began (named 1 1 ∷ [])) ∷ entry 1 2 Answered ∷ entry 1 3 Answered ∷ entry 1 4 GivenUp ∷ entry 1 4 Answered
    ∷ entry 1 5 Answered ∷ entry 1 6 Answered ∷ []

pub asked_wrongly_is_told : answers (standing_after two_files (asks_wrongly ∷ []) asked_wrongly_run)
    ≡ (reply.Refused refusal.Idle ∷ reply.Base (1 ∷ []) ∷ reply.Refused refusal.Open ∷ reply.Abandoned
    ∷ reply.Refused refusal.DeniedTwice ∷ reply.Refused (refusal.Denied (record { why = NoObject })) ∷ []) ∷ []
asked_wrongly_is_told = refl

-- ---- an update of two files has both locked until it is over

abbrev locks : ScriptValue
locks = script (line 1 (command.Super (Number 1 ∷ Number 2 ∷ [])) ∷ line 2 command.Abandon ∷ [])

abbrev meets_locks : ScriptValue
meets_locks = script (line 1 (command.Super (Number 2 ∷ Number 1 ∷ [])) ∷ line 2 (command.Super (Number 2 ∷ Number 1 ∷ [])) ∷ [])

abbrev locked_run : List Entry
locked_run =
    entry 1 1 (Began (named 1 1 ∷ named 2 1 ∷ [])) ∷ entry 1 1 Answered ∷ entry 2 1 Answered ∷ entry 1 2 GivenUp ∷ entry 1 2 Answered
    ∷ entry 2 2 (Began (named 2 1 ∷ named 1 1 ∷ [])) ∷ entry 2 2 Answered ∷ entry 2 2 GivenUp ∷ []

pub locked_is_told : answers (standing_after two_files (locks ∷ meets_locks ∷ []) locked_run)
    ≡ (reply.Base (1 ∷ 1 ∷ []) ∷ reply.Abandoned ∷ []) ∷ (reply.Refused (refusal.Locked 1) ∷ reply.Base (1 ∷ 1 ∷ []) ∷ []) ∷ []
locked_is_told = refl

pub locked_is_lawful : IsLegal two_files (locks ∷ meets_locks ∷ []) locked_run
locked_is_lawful = (
  (lit≤ tt, lit≤ tt, inl (line 1 (command.Super (Number 1 ∷ Number 2 ∷ [])), refl, refl, (tt, refl, refl, refl))),
  (
    (lit≤ tt, lit≤ tt, inl (line 1 (command.Super (Number 1 ∷ Number 2 ∷ [])), refl, refl, refl)),
    (
      (lit≤ tt, lit≤ tt, inl (line 1 (command.Super (Number 2 ∷ Number 1 ∷ [])), refl, refl, refl)),
      (
        (lit≤ tt, lit≤ tt, inl (line 2 command.Abandon, refl, refl, (refl, refl, refl))),
        (
          (lit≤ tt, lit≤ tt, inl (line 2 command.Abandon, refl, refl, refl)),
          (
            (lit≤ tt, lit≤ tt, inl (line 2 (command.Super (Number 2 ∷ Number 1 ∷ [])), refl, refl, (tt, refl, refl, refl))),
            (
              (lit≤ tt, lit≤ tt, inl (line 2 (command.Super (Number 2 ∷ Number 1 ∷ [])), refl, refl, refl)),
              (
                (lit≤ tt, lit≤ tt, inr (line 2 (command.Super (Number 2 ∷ Number 1 ∷ [])), refl, refl, refl, refl, refl, refl)),
                tt,
              ),
            ),
          ),
        ),
      ),
    ),
  ),
)

-- ---- an update that wrote nothing makes no version; `pick` names one of its files

abbrev reads_alone : ScriptValue
reads_alone = script (line 1 (command.Begin (Number 1)) ∷ line 2 (command.Pick 0) ∷ line 3 (command.Pick 1) ∷ line 4 command.Commit ∷ [])

abbrev read_run : List Entry
read_run =
    entry 1 1 (Began (named 1 1 ∷ [])) ∷ entry 1 1 Answered ∷ entry 1 2 Answered ∷ entry 1 3 Answered ∷ entry 1 4 (Committed [] 9)
    ∷ entry 1 4 Answered ∷ []

pub read_is_told : answers (standing_after two_files (reads_alone ∷ []) read_run)
    ≡ (reply.Base (1 ∷ []) ∷ reply.Picked ∷ reply.Refused refusal.NoSuchPick ∷ reply.Committed (1 ∷ []) ∷ []) ∷ []
read_is_told = refl

pub read_is_lawful : IsLegal two_files (reads_alone ∷ []) read_run
read_is_lawful = (
  (lit≤ tt, lit≤ tt, inl (line 1 (command.Begin (Number 1)), refl, refl, (tt, refl, refl, refl))),
  (
    (lit≤ tt, lit≤ tt, inl (line 1 (command.Begin (Number 1)), refl, refl, refl)),
    (
      (lit≤ tt, lit≤ tt, inl (line 2 (command.Pick 0), refl, refl, refl)),
      (
        (lit≤ tt, lit≤ tt, inl (line 3 (command.Pick 1), refl, refl, refl)),
        (
          (lit≤ tt, lit≤ tt, inl (line 4 command.Commit, refl, refl, (refl, (refl, refl), lit≤ tt))),
          (
            (lit≤ tt, lit≤ tt, inl (line 4 command.Commit, refl, refl, refl)),
            tt,
          ),
        ),
      ),
    ),
  ),
)

-- ---- maintenance of one client keeps that of others off, and pruning where there is nothing to prune is none

abbrev two_makers : Scripts
two_makers =
    script (line 1 (command.Destroy (Number 2)) ∷ line 2 (command.Prune (Number 1) 1) ∷ [])
    ∷ script (line 1 command.Create ∷ line 2 (command.Prune (Number 2) 1) ∷ []) ∷ []

abbrev two_makers_run : List Entry
two_makers_run =
    entry 1 1 Started ∷ entry 1 1 (Destroyed 2 1 10) ∷ entry 2 1 Answered ∷ entry 1 1 Answered ∷ entry 1 2 Answered ∷ entry 2 2 Answered ∷ []

pub two_makers_told : answers (standing_after two_files two_makers two_makers_run)
    ≡ (reply.Destroyed 1 ∷ reply.Pruned 1 0 ∷ [])
    ∷ (reply.Refused (refusal.Busy 1) ∷ reply.Refused (refusal.Denied (record { why = NoObject })) ∷ []) ∷ []
two_makers_told = refl

-- ---- no entry, or no block, for a new file

abbrev makes : Scripts
makes = script (line 1 command.Create ∷ []) ∷ []

pub full_is_told : answers (standing_after (store 64 (made_file ∷ [])) makes (entry 1 1 Answered ∷ []))
    ≡ (reply.Refused refusal.TableFull ∷ []) ∷ []
full_is_told = refl

pub no_block_is_told : answers (standing_after (store 2 (made_file ∷ nothing ∷ [])) makes (entry 1 1 Answered ∷ []))
    ≡ (reply.Refused (refusal.NoSpace 1 0) ∷ []) ∷ []
no_block_is_told = refl

-- in a table of several blocks a file that is the first of its group takes two
abbrev one_group : State
one_group = record { format = 2; blocks = 66; key = 7; files = replicate 63 made_file ++ nothing ∷ [] }

pub no_two_blocks_is_told : answers (standing_after one_group makes (entry 1 1 Answered ∷ []))
    ≡ (reply.Refused (refusal.NoSpace 2 1) ∷ []) ∷ []
unfolding numbers_below
no_two_blocks_is_told = refl
