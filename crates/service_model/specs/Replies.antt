-- What a line is answered: by the entry that it has of its own, else by the first cause, else by what it asks for.
use Rattle.std.specs.Prelude.{ℕ, ◌==◌, List, [], ◌∷◌, map, find, if◌then◌else◌, Option, Some, None, option_map, option_and_then, Result, Ok, Err}
use Rattle.std.specs.Option.{option_map_or}
use Rattle.caps.specs.declared.denied.DeniedWhy.{DeniedWhy}
use Rattle.caps.specs.Grant.{capability_of}
use Rattle.script_text.specs.declared.command.Command.{Command}
use Rattle.script_text.specs.declared.command.Command.TheVariants as command
use Rattle.script_text.specs.declared.script.Mode.{Mode}
use Rattle.script_text.specs.declared.script.Mode.TheVariants.{Numbers, Caps}
use Rattle.script_text.specs.declared.reply.LineRefusal.{LineRefusal}
use Rattle.script_text.specs.declared.reply.LineRefusal.TheVariants as refusal
use Rattle.script_text.specs.declared.reply.LineReply.{LineReply}
use Rattle.script_text.specs.declared.reply.LineReply.TheVariants as reply
use Rattle.service_model.specs.declared.journal.Refusal.{Refusal}
use Rattle.service_model.specs.declared.journal.Refusal.TheVariants as why
use Rattle.service_model.specs.declared.journal.What.{What}
use Rattle.service_model.specs.declared.journal.What.TheVariants.{Began, Held, Committed, Refused, GivenUp, Started, Created, Destroyed, Pruned, Answered}
use Rattle.service_model.specs.declared.named.Named.{Named}
use Rattle.tree_model.specs.declared.step.Step.{Step}
use Rattle.tree_model.specs.States.{State}
use Rattle.tree_model.specs.Trees.{tree_after, reply_of}
use Rattle.service_model.specs.Causes.{cause_of, restricted_in, object_of}
use Rattle.service_model.specs.Standing.{Standing, Client, Update, Work, client_of, picked_work, seal_in}
use Rattle.service_model.specs.Upkeep.{kept_from, first_serial}

-- a file's serial as a commit made it, or that of its base where it made none
abbrev pub serial_by : List Named → Work → ℕ
serial_by made w = option_map_or (λ (n : Named). n.serial) (find (λ (n : Named). n.object == w.object) made) w.serial

-- the serials of an update's files after a commit
abbrev pub serials_by : List Named → Option Update → List ℕ
serials_by made update = option_map_or (λ (u : Update). map (serial_by made) u.works) update []

-- the answer by which a refused commit is told
abbrev pub refusal_of : Refusal → LineRefusal
refusal_of (why.Conflict serial path kind) = refusal.Conflict serial path kind
refusal_of (why.Locked by) = refusal.Locked by
refusal_of (why.NoSpace needed free) = refusal.NoSpace needed free
refusal_of why.Worn = refusal.Worn

-- the capability of a new file, where files are named by capabilities
abbrev pub new_capability : Mode → State → ℕ → Option (List ℕ)
new_capability Numbers state object = None
new_capability Caps state object = option_map (λ seal. capability_of seal object 7) (seal_in state object)

-- the answer by an entry of the line's own, if there is one that answers
abbrev pub own_reply : Mode → State → Option Update → List What → Option LineReply
own_reply mode state update [] = None
own_reply mode state update (Began bases ∷ noted) = Some (reply.Base (map (λ (n : Named). n.serial) bases))
own_reply mode state update (Held blocks ∷ noted) = own_reply mode state update noted
own_reply mode state update (Committed made at ∷ noted) = Some (reply.Committed (serials_by made update))
own_reply mode state update (Refused cause ∷ noted) = Some (reply.Refused (refusal_of cause))
own_reply mode state update (GivenUp ∷ noted) = Some reply.Abandoned
own_reply mode state update (Started ∷ noted) = own_reply mode state update noted
own_reply mode state update (Created object at ∷ noted) =
    Some (reply.Created object (new_capability mode state object))
own_reply mode state update (Destroyed object blocks at ∷ noted) = Some (reply.Destroyed blocks)
own_reply mode state update (Pruned object first blocks at ∷ noted) = Some (reply.Pruned first blocks)
own_reply mode state update (Answered ∷ noted) = None

-- the answer of a step on an update: what it answers after the update's own steps on that file
abbrev pub step_reply : Step → Update → Option LineReply
step_reply step u = option_map (λ w. reply.Stepped (reply_of (tree_after w.base w.steps) step)) (picked_work u)

-- the answer of a pruning that takes nothing away
abbrev pub prune_reply : Standing → ℕ → ℕ → Option LineReply
prune_reply s object keep =
    if kept_from s object keep == first_serial s.state object
    then Some (reply.Pruned (first_serial s.state object) 0) else None

-- a capability that was restricted
abbrev pub cap_reply : Result (List ℕ) DeniedWhy → Option LineReply
cap_reply (Ok cap) = Some (reply.Cap cap)
cap_reply (Err denied) = None

-- the answer of a line that has neither an entry of its own nor a cause
abbrev pub plain_reply : Standing → Client → Command → Option LineReply
plain_reply s c (command.Begin file) = None
plain_reply s c (command.Super files) = None
plain_reply s c (command.Pick place) = Some reply.Picked
plain_reply s c (command.Do step) = option_and_then (step_reply step) c.update
plain_reply s c command.Commit = None
plain_reply s c command.Abandon = None
plain_reply s c command.Create = None
plain_reply s c (command.Destroy file) = None
plain_reply s c (command.Prune file keep) = prune_reply s (object_of file) keep
plain_reply s c (command.Restrict file mask) = cap_reply (restricted_in s.state file mask)

-- the answer of a line without an entry of its own
abbrev pub asked_reply : Option LineRefusal → Option LineReply → Option LineReply
asked_reply (Some cause) plain = Some (reply.Refused cause)
asked_reply None plain = plain

-- the answer of a line of client k after these entries of it, where it can be answered now
abbrev pub reply_after : Mode → Standing → ℕ → Command → List What → Option LineReply
reply_after mode s k command [] = asked_reply (cause_of s k command) (plain_reply s (client_of s k) command)
reply_after mode s k command (what ∷ noted) = own_reply mode s.state (client_of s k).update (what ∷ noted)

-- the answer of client k's line, where it can be answered now
abbrev pub reply_at : Mode → Standing → ℕ → Command → Option LineReply
reply_at mode s k command = reply_after mode s k command (client_of s k).noted
