-- What follows for runs through the order of play.
use Rattle.std.specs.Prelude.{◌≡◌, ◌≢◌, ℕ, ◌+◌, ◌≤◌, List, [], ◌∷◌, ◌++◌, length, Some, None}
use Rattle.std.specs.Prelude.{slice_get}
use Rattle.script_text.specs.declared.script.Line.{Line}
use Rattle.service_model.specs.declared.journal.Entry.{Entry}
use Rattle.service_model.specs.declared.journal.What.TheVariants.{Answered}
use Rattle.service_model.specs.Entries.{after_entries, standing_after}
use Rattle.service_model.specs.Legal.{IsComplete, IsLegalFrom}
use Rattle.service_model.specs.Order.{IsInOrder, Turn, numbers_of, order_from, play_order}
use Rattle.service_model.specs.Standing.{Scripts, Standing, client_of, lines_of, next_line, start}
use Rattle.tree_model.specs.States.{State}
use Rattle.play_order.specs.Orders.{AnswersOne, AreBy, AreDue, AreFinishedBelow, AreOfClient}
use Rattle.play_order.specs.Orders.{HasOneMore, IsWholeLine, IsWithin, PlayInvariant}
use Rattle.play_order.specs.Orders.{answer_count, answers_in, left_of, turn_of}

-- ---- entries of one client

-- Legal entries of client k add as many answers to its own as they answer lines.
abbrev pub AnswersAreCounted : Type 0
AnswersAreCounted =
    (scripts : Scripts) (s : Standing) (k : ℕ) (es : List Entry)
    → AreBy k es → IsLegalFrom scripts s es
    → answer_count (after_entries scripts s es) k ≡ answer_count s k + answers_in es

-- Where they leave it as many answers as it had, none of them is an answer.
abbrev pub WithinIsUnanswered : Type 0
WithinIsUnanswered =
    (scripts : Scripts) (s : Standing) (k : ℕ) (es : List Entry)
    → AreBy k es → IsLegalFrom scripts s es
    → answer_count (after_entries scripts s es) k ≡ answer_count s k
    → (n : ℕ) (e : Entry) → slice_get es n ≡ Some e → e.what ≢ Answered

-- Where none of them is an answer, they leave it as many answers as it had.
abbrev pub UnansweredIsWithin : Type 0
UnansweredIsWithin =
    (scripts : Scripts) (s : Standing) (k : ℕ) (es : List Entry)
    → AreBy k es → IsLegalFrom scripts s es
    → ((n : ℕ) (e : Entry) → slice_get es n ≡ Some e → e.what ≢ Answered)
    → answer_count (after_entries scripts s es) k ≡ answer_count s k

-- Legal entries of client k leave every other client as it was.
abbrev pub OthersAreLeft : Type 0
OthersAreLeft =
    (scripts : Scripts) (s : Standing) (k j : ℕ) (es : List Entry)
    → AreBy k es → IsLegalFrom scripts s es → 1 ≤ j → j ≢ k
    → client_of (after_entries scripts s es) j ≡ client_of s j

-- Entries that are due, and those that are due where they lead, are due together.
abbrev pub DueAppends : Type 0
DueAppends =
    (scripts : Scripts) (s : Standing) (es fs : List Entry)
    → AreDue scripts s es → AreDue scripts (after_entries scripts s es) fs
    → AreDue scripts s (es ++ fs)

-- No entries are those of any client.
abbrev pub NoneAreOfClient : Type 0
NoneAreOfClient = (scripts : Scripts) (s : Standing) (k : ℕ) → AreOfClient scripts s k []

-- Entries of a client, and its entries where they lead, are its entries together.
abbrev pub OfClientAppends : Type 0
OfClientAppends =
    (scripts : Scripts) (s : Standing) (k : ℕ) (es fs : List Entry)
    → AreOfClient scripts s k es → AreOfClient scripts (after_entries scripts s es) k fs
    → AreOfClient scripts s k (es ++ fs)

-- ---- a whole line

-- A line begins with no entries.
abbrev pub WithinBegins : Type 0
WithinBegins = (scripts : Scripts) (s : Standing) (k : ℕ) → IsWithin scripts s k []

-- It goes on by entries that do not answer it.
abbrev pub WithinGoesOn : Type 0
WithinGoesOn =
    (scripts : Scripts) (s : Standing) (k : ℕ) (es fs : List Entry)
    → IsWithin scripts s k es → IsWithin scripts (after_entries scripts s es) k fs
    → IsWithin scripts s k (es ++ fs)

-- It ends with entries that answer it.
abbrev pub WithinEnds : Type 0
WithinEnds =
    (scripts : Scripts) (s : Standing) (k : ℕ) (es fs : List Entry)
    → IsWithin scripts s k es → AnswersOne scripts (after_entries scripts s es) k fs
    → AnswersOne scripts s k (es ++ fs)

-- Entries that answer one line are those of the client's next line.
abbrev pub OneIsWhole : Type 0
OneIsWhole =
    (scripts : Scripts) (s : Standing) (k : ℕ) (line : Line) (es : List Entry)
    → next_line scripts s k ≡ Some line → AnswersOne scripts s k es
    → IsWholeLine scripts s line es

-- They are in the order of that line alone.
abbrev pub OneIsInOrder : Type 0
OneIsInOrder =
    (scripts : Scripts) (s : Standing) (k : ℕ) (line : Line) (es : List Entry)
    → next_line scripts s k ≡ Some line → AnswersOne scripts s k es
    → IsInOrder scripts s (turn_of k line ∷ []) es

-- Client k has one answer more by them, and no other client has.
abbrev pub OneIsMore : Type 0
OneIsMore =
    (scripts : Scripts) (s : Standing) (k : ℕ) (es : List Entry)
    → AnswersOne scripts s k es → HasOneMore s (after_entries scripts s es) k

-- ---- orders

-- Entries that are in order, and those that are in order where they lead, are in order together.
abbrev pub OrderAppends : Type 0
OrderAppends =
    (scripts : Scripts) (s : Standing) (order more : List Turn) (es fs : List Entry)
    → IsInOrder scripts s order es → IsInOrder scripts (after_entries scripts s es) more fs
    → IsInOrder scripts s (order ++ more) (es ++ fs)

-- Before the first entry all lines are left.
abbrev pub StartLeavesAll : Type 0
StartLeavesAll =
    (opening : State) (scripts : Scripts)
    → left_of scripts (start opening scripts) ≡ numbers_of scripts

-- A word comes to the next line of its client.
abbrev pub WordTakesLine : Type 0
WordTakesLine =
    (scripts : Scripts) (s t : Standing) (k : ℕ) (words : List ℕ) (line : Line)
    → next_line scripts s k ≡ Some line → HasOneMore s t k
    → order_from (k ∷ words) (left_of scripts s)
    ≡ turn_of k line ∷ order_from words (left_of scripts t)

-- It comes to nothing where its client is finished.
abbrev pub WordIsPassed : Type 0
WordIsPassed =
    (scripts : Scripts) (s : Standing) (k : ℕ) (words : List ℕ)
    → 1 ≤ k → next_line scripts s k ≡ None
    → order_from (k ∷ words) (left_of scripts s) ≡ order_from words (left_of scripts s)

-- Behind the words the next line is that of the least client that is not finished.
abbrev pub EndTakesLine : Type 0
EndTakesLine =
    (scripts : Scripts) (s t : Standing) (k : ℕ) (line : Line)
    → AreFinishedBelow scripts s k → next_line scripts s k ≡ Some line → HasOneMore s t k
    → order_from [] (left_of scripts s) ≡ turn_of k line ∷ order_from [] (left_of scripts t)

-- There is none where all clients are finished.
abbrev pub EndIsReached : Type 0
EndIsReached =
    (scripts : Scripts) (s : Standing)
    → AreFinishedBelow scripts s (length scripts + 1) → order_from [] (left_of scripts s) ≡ []

-- ---- clients that are finished

-- A client is finished where it has as many answers as lines.
abbrev pub FullIsFinished : Type 0
FullIsFinished =
    (scripts : Scripts) (s : Standing) (k : ℕ)
    → answer_count s k ≡ length (lines_of scripts k) → next_line scripts s k ≡ None

-- No client is below the first one.
abbrev pub FinishingBegins : Type 0
FinishingBegins = (scripts : Scripts) (s : Standing) → AreFinishedBelow scripts s 1

-- Clients are finished one after another.
abbrev pub FinishingGoesOn : Type 0
FinishingGoesOn =
    (scripts : Scripts) (s : Standing) (k : ℕ)
    → AreFinishedBelow scripts s k → next_line scripts s k ≡ None
    → AreFinishedBelow scripts s (k + 1)

-- ---- a run

-- A run begins with no entries, and all words are left.
abbrev pub PlayBegins : Type 0
PlayBegins =
    (opening : State) (scripts : Scripts) (words : List ℕ)
    → PlayInvariant opening scripts words words []

-- It goes on by a line of the client that the next word names.
abbrev pub PlayTakesWord : Type 0
PlayTakesWord =
    (opening : State) (scripts : Scripts) (words rest : List ℕ) (k : ℕ) (es fs : List Entry)
    → PlayInvariant opening scripts words (k ∷ rest) es
    → AnswersOne scripts (standing_after opening scripts es) k fs
    → PlayInvariant opening scripts words rest (es ++ fs)

-- It passes the word of a client that is finished.
abbrev pub PlayPassesWord : Type 0
PlayPassesWord =
    (opening : State) (scripts : Scripts) (words rest : List ℕ) (k : ℕ) (es : List Entry)
    → PlayInvariant opening scripts words (k ∷ rest) es
    → 1 ≤ k → next_line scripts (standing_after opening scripts es) k ≡ None
    → PlayInvariant opening scripts words rest es

-- Behind the words it goes on by a line of the least client that is not finished, and those below
-- it stay finished.
abbrev pub PlayTakesEnd : Type 0
PlayTakesEnd =
    (opening : State) (scripts : Scripts) (words : List ℕ) (k : ℕ) (es fs : List Entry)
    → PlayInvariant opening scripts words [] es
    → AreFinishedBelow scripts (standing_after opening scripts es) k
    → AnswersOne scripts (standing_after opening scripts es) k fs
    → PlayInvariant opening scripts words [] (es ++ fs)
    × AreFinishedBelow scripts (standing_after opening scripts (es ++ fs)) k

-- Where all clients are finished its entries follow the order of play, and nothing is left to do.
abbrev pub PlayIsDone : Type 0
PlayIsDone =
    (opening : State) (scripts : Scripts) (words : List ℕ) (es : List Entry)
    → PlayInvariant opening scripts words [] es
    → AreFinishedBelow scripts (standing_after opening scripts es) (length scripts + 1)
    → IsInOrder scripts (start opening scripts) (play_order words scripts) es
    × IsComplete scripts (standing_after opening scripts es)
