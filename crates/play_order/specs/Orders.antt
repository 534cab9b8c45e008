-- How a run goes through the order of play: entries of one client, a whole line, what is left.
use Rattle.std.specs.Prelude.{◌≡◌, ◌≢◌, ◌⊎◌, ℕ, suc, ◌+◌, ◌<◌, ◌≤◌, List, [], ◌∷◌, ◌++◌, map}
use Rattle.std.specs.Prelude.{drop, length, count_by, Some, None, slice_get}
use Rattle.script_text.specs.declared.script.Line.{Line}
use Rattle.service_model.specs.declared.journal.Entry.{Entry}
use Rattle.service_model.specs.declared.journal.What.TheVariants.{Answered}
use Rattle.service_model.specs.Entries.{after_entry, after_entries, is_answer, standing_after}
use Rattle.service_model.specs.Legal.{IsAtEnd, IsLegal, IsLegalFrom}
use Rattle.service_model.specs.Order.{IsDue, IsInOrder, Turn, order_from, play_order}
use Rattle.service_model.specs.Standing.{Scripts, Standing, client_of, next_line, start}
use Rattle.tree_model.specs.States.{State}

-- ---- entries of one client

-- These entries are all of client k.
abbrev pub AreBy : ℕ → List Entry → Type 0
AreBy k es = (n : ℕ) (e : Entry) → slice_get es n ≡ Some e → e.client ≡ k

-- Each of these entries of a commit comes where no earlier cause of a refusal does.
abbrev pub AreDue : Scripts → Standing → List Entry → Type 0
AreDue scripts s [] = Unit {0}
AreDue scripts s (e ∷ es) = IsDue s e.client e.what × AreDue scripts (after_entry scripts s e) es

-- These entries are all of client k, and each is legal and due where it comes.
pub record AreOfClient (scripts : Scripts) (s : Standing) (k : ℕ) (es : List Entry) : Type 0 where
  pub own : AreBy k es
  pub legal : IsLegalFrom scripts s es
  pub due : AreDue scripts s es

-- How many lines of client k are answered.
abbrev pub answer_count : Standing → ℕ → ℕ
answer_count s k = length (client_of s k).answers

-- How many lines these entries answer.
abbrev pub answers_in : List Entry → ℕ
answers_in es = count_by (λ (e : Entry). is_answer e.what) es

-- ---- a whole line

-- A line of client k, by its number.
abbrev pub turn_of : ℕ → Line → Turn
turn_of k line = record { client = k; line = line.number }

-- Client k is between two lines: nothing is noted of its next one, and where it has none no update
-- is open.
pub record IsBetween (scripts : Scripts) (s : Standing) (k : ℕ) : Type 0 where
  pub fresh : (client_of s k).noted ≡ []
  pub closed : next_line scripts s k ≡ None → (client_of s k).update ≡ None

-- Within a line: these entries of client k answered none.
pub record IsWithin (scripts : Scripts) (s : Standing) (k : ℕ) (es : List Entry) : Type 0 where
  pub entries : AreOfClient scripts s k es
  pub same : answer_count (after_entries scripts s es) k ≡ answer_count s k

-- These entries of client k answer one line, and leave it between two lines.
pub record AnswersOne (scripts : Scripts) (s : Standing) (k : ℕ) (es : List Entry) : Type 0 where
  pub entries : AreOfClient scripts s k es
  pub more : answer_count (after_entries scripts s es) k ≡ answer_count s k + 1
  pub between : IsBetween scripts (after_entries scripts s es) k

-- Entries of a line: each carries its number, the last one answers it, and none before that one
-- answers. An update that is open at a script's end is given up after it.
pub record IsWholeLine (scripts : Scripts) (s : Standing) (line : Line)
    (es : List Entry) : Type 0 where
  pub numbers : (n : ℕ) (e : Entry) → slice_get es n ≡ Some e → e.line ≡ line.number
  pub before : List Entry
  pub answer : Entry
  pub after : List Entry
  pub parts : es ≡ before ++ answer ∷ after
  pub none : answers_in before ≡ 0
  pub answers : answer.what ≡ Answered
  pub last : (after ≡ []) ⊎ ((e : Entry) × (after ≡ e ∷ [])
      × IsAtEnd scripts (after_entry scripts (after_entries scripts s before) answer) e)

-- Client k has answered one line more where t stands than where s does, and every other client as
-- many.
pub record HasOneMore (s t : Standing) (k : ℕ) : Type 0 where
  pub low : 1 ≤ k
  pub more : answer_count t k ≡ answer_count s k + 1
  pub others : (j : ℕ) → 1 ≤ j → j ≢ k → answer_count t j ≡ answer_count s j

-- ---- what is left

-- The numbers of the lines that each client has left, the first client having this number.
abbrev pub left_from : ℕ → Standing → Scripts → List (List ℕ)
left_from k s [] = []
left_from k s (script ∷ scripts) =
    drop (answer_count s k) (map (λ line. line.number) script.lines) ∷ left_from (suc k) s scripts

-- The numbers of the lines that each client has left, client 1 first.
abbrev pub left_of : Scripts → Standing → List (List ℕ)
left_of scripts s = left_from 1 s scripts

-- Each client below k has answered all its lines.
abbrev pub AreFinishedBelow : Scripts → Standing → ℕ → Type 0
AreFinishedBelow scripts s k = (j : ℕ) → 1 ≤ j → j < k → next_line scripts s j ≡ None

-- ---- a run

-- What a run keeps as it goes through the words of an order, and then from client to client: its
-- entries are legal, and follow an order that comes to the order of play with what is left of it by
-- the rest of the words; and each client is between two lines.
pub record PlayInvariant (opening : State) (scripts : Scripts) (words rest : List ℕ)
    (es : List Entry) : Type 0 where
  pub legal : IsLegal opening scripts es
  pub done : List Turn
  pub in_order : IsInOrder scripts (start opening scripts) done es
  pub order : done ++ order_from rest (left_of scripts (standing_after opening scripts es))
      ≡ play_order words scripts
  pub between : (k : ℕ) → 1 ≤ k → IsBetween scripts (standing_after opening scripts es) k
