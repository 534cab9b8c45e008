-- The text of each answer.
use Rattle.std.specs.Prelude.{ℕ, ◌/◌, ◌%◌, ◌^◌, ◌==◌, if◌then◌else◌, List, [], ◌∷◌, ◌++◌, codes, Option, Some, None}
use Rattle.std.specs.List.{flat_map, range_with_len}
use Rattle.std.specs.Fmt.{decimal}
use Rattle.hex.specs.Hex.{encode_lower}
use Rattle.afs_base.specs.declared.kind.Kind.{Kind}
use Rattle.afs_base.specs.declared.kind.Kind.TheVariants.{Data, Slot}
use Rattle.tree_model.specs.declared.step.Reply.{Reply}
use Rattle.tree_model.specs.declared.step.Reply.TheVariants.{Bytes, Slots, Done, Absent, Present}
use Rattle.caps.specs.declared.denied.DeniedWhy.{DeniedWhy}
use Rattle.caps.specs.declared.denied.DeniedWhy.TheVariants.{NoObject, Check, Rights}
use Rattle.script_text.specs.declared.refused.LineWhy.{LineWhy}
use Rattle.script_text.specs.declared.refused.LineWhy.TheVariants.{Lines, Size, Text, Word, Number, Capability, Path, Data as NoData}
use Rattle.script_text.specs.declared.reply.LineReply.{LineReply}
use Rattle.script_text.specs.declared.reply.LineReply.TheVariants.{Base, Committed, Stepped, Picked, Abandoned, Created, Destroyed, Pruned, Cap, Refused}
use Rattle.script_text.specs.declared.reply.LineRefusal.{LineRefusal}
use Rattle.script_text.specs.declared.reply.LineRefusal.TheVariants.{Open, Idle, Denied, DeniedTwice, DeniedRights, Full, NoSuchPick, Locked, Conflict, Worn, NoSpace, Busy, Pinned, TableFull}

-- a number after a space
abbrev pub spaced : ℕ → List ℕ
spaced n = 32 ∷ decimal n

-- the slots of a mask, ascending, each after a space: slot s is there where digit s of the binary number is 1
abbrev pub slot_word : ℕ → ℕ → List ℕ
slot_word mask s = if mask / 2 ^ s % 2 == 1 then spaced s else []

-- the text of a mask of slots
abbrev pub slots_text : ℕ → List ℕ
slots_text mask = if mask == 0 then codes "slots -" else codes "slots" ++ flat_map (slot_word mask) (range_with_len 0 16)

-- the text of data
abbrev pub data_text : List ℕ → List ℕ
data_text [] = codes "data -"
data_text (b ∷ bs) = codes "data " ++ encode_lower (b ∷ bs)

-- the text of a step's answer
abbrev pub step_text : Reply → List ℕ
step_text (Bytes bytes) = data_text bytes
step_text (Slots mask) = slots_text mask
step_text Done = codes "ok"
step_text Absent = codes "absent"
step_text Present = codes "present"

-- a slot of a path after its stroke
abbrev pub stroke : ℕ → List ℕ
stroke s = 47 ∷ decimal s

-- the text of a path
abbrev pub path_text : List ℕ → List ℕ
path_text [] = codes "/"
path_text (s ∷ ss) = flat_map stroke (s ∷ ss)

-- the text of what an access touches
abbrev pub kind_text : Kind → List ℕ
kind_text Data = codes "data"
kind_text (Slot k) = codes "slot " ++ decimal k

-- the text of a cause of denial
abbrev pub why_text : DeniedWhy → List ℕ
why_text NoObject = codes "denied object"
why_text Check = codes "denied check"
why_text Rights = codes "denied rights"

-- the text of a refusal
abbrev pub refusal_text : LineRefusal → List ℕ
refusal_text Open = codes "open"
refusal_text Idle = codes "idle"
refusal_text (Denied d) = why_text d.why
refusal_text DeniedTwice = codes "denied twice"
refusal_text DeniedRights = codes "denied rights"
refusal_text Full = codes "full"
refusal_text NoSuchPick = codes "absent"
refusal_text (Locked by) = codes "locked " ++ decimal by
refusal_text (Conflict serial path kind) =
    codes "conflict " ++ (decimal serial ++ (codes " " ++ (path_text path ++ (codes " " ++ kind_text kind))))
refusal_text Worn = codes "worn"
refusal_text (NoSpace needed free) = codes "nospace " ++ (decimal needed ++ (codes " " ++ decimal free))
refusal_text (Busy by) = codes "busy " ++ decimal by
refusal_text (Pinned by) = codes "pinned " ++ decimal by
refusal_text TableFull = codes "tablefull"

-- the text of a new file's answer
abbrev pub created_text : ℕ → Option (List ℕ) → List ℕ
created_text object None = codes "created " ++ decimal object
created_text object (Some cap) = codes "created " ++ (decimal object ++ (codes " " ++ encode_lower cap))

-- the text of an answer, without the line that it answers and without a line feed
abbrev pub reply_text : LineReply → List ℕ
reply_text (Base serials) = codes "base" ++ flat_map spaced serials
reply_text (Committed serials) = codes "committed" ++ flat_map spaced serials
reply_text (Stepped reply) = step_text reply
reply_text Picked = codes "ok"
reply_text Abandoned = codes "abandoned"
reply_text (Created object cap) = created_text object cap
reply_text (Destroyed blocks) = codes "destroyed " ++ decimal blocks
reply_text (Pruned first blocks) = codes "pruned " ++ (decimal first ++ (codes " " ++ decimal blocks))
reply_text (Cap cap) = codes "cap " ++ encode_lower cap
reply_text (Refused refusal) = refusal_text refusal

-- the word for what is wrong with a line
abbrev pub cause_text : LineWhy → List ℕ
cause_text Lines = codes "lines"
cause_text Size = codes "size"
cause_text Text = codes "text"
cause_text Word = codes "word"
cause_text Number = codes "number"
cause_text Capability = codes "capability"
cause_text Path = codes "path"
cause_text NoData = codes "data"
