-- What contracts see of the lists that a run adds to in room that was made before.
use Rattle.std.specs.Prelude.{◌≡◌, ◌++◌, ℕ, ◌+◌, ◌-◌, ◌^◌, List, min, vec_capacity}
use Rattle.script_text.specs.declared.reply.LineReply.{LineReply}
use Rattle.service_model.specs.declared.journal.Entry.{Entry}
use Rattle.session.specs.declared.log.Log.{Log}

-- The answers to a client's lines so far, and for how many there is room.
pub record RepliesValue : Type 0 where
  pub items : List LineReply
  pub room : ℕ

-- What a run did so far, and for how many entries there is room.
abbrev pub entries_in : Log → List Entry
entries_in l = l.journal.entries.items

abbrev pub room_in : Log → ℕ
room_in l = vec_capacity l.journal.entries

-- A turn more, counted up to the last number that there is.
abbrev pub one_more : ℕ → ℕ
one_more turns = min (turns + 1) (2 ^ 64 - 1)

-- These entries were noted.
pub record IsNoted (old new : Log) (es : List Entry) : Type 0 where
  pub entries : entries_in new ≡ entries_in old ++ es
  pub room : room_in new ≡ room_in old
  pub doubt : new.journal.doubt ≡ old.journal.doubt
