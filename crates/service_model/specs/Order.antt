-- In which order a run answers the lines of its clients, and which journals follow such an order.
use Rattle.std.specs.Prelude.{◌≡◌, ◌⊎◌, ℕ, zero, suc, ◌-◌, false, List, [], ◌∷◌, ◌++◌, map, if◌then◌else◌, All, None, IfSome}
use Rattle.script_text.specs.ScriptValue.{ScriptValue}
use Rattle.service_model.specs.declared.journal.Entry.{Entry}
use Rattle.service_model.specs.declared.journal.Refusal.{Refusal}
use Rattle.service_model.specs.declared.journal.Refusal.TheVariants.{Conflict, Locked, NoSpace, Worn}
use Rattle.service_model.specs.declared.journal.What.{What}
use Rattle.service_model.specs.declared.journal.What.TheVariants.{Held, Refused}
use Rattle.service_model.specs.Entries.{after_entry, is_answer}
use Rattle.service_model.specs.Legal.{AreUnworn, IsUnopposed, IsAtEnd}
use Rattle.service_model.specs.Standing.{Scripts, Standing, Update, Work, client_of, locked_by}

-- a line of a client, by its number
pub record Turn : Type 0 where
  pub client : ℕ
  pub line : ℕ

-- these lines of a client
abbrev pub turns_of : ℕ → List ℕ → List Turn
turns_of k lines = map (λ n. record { client = k; line = n }) lines

-- ---- the order

-- the numbers of the lines that each client has left, client 1 first
abbrev pub numbers_of : Scripts → List (List ℕ)
numbers_of scripts = map (λ (script : ScriptValue). map (λ line. line.number) script.lines) scripts

-- the first line that is left of the client at a place
abbrev pub next_of : ℕ → List (List ℕ) → List ℕ
next_of place [] = []
next_of zero ([] ∷ rest) = []
next_of zero ((n ∷ lines) ∷ rest) = n ∷ []
next_of (suc place) (lines ∷ rest) = next_of place rest

-- what is left without it
abbrev pub without_next : ℕ → List (List ℕ) → List (List ℕ)
without_next place [] = []
without_next zero ([] ∷ rest) = [] ∷ rest
without_next zero ((n ∷ lines) ∷ rest) = lines ∷ rest
without_next (suc place) (lines ∷ rest) = lines ∷ without_next place rest

-- all lines that are left, client by client, the first client having this number
abbrev pub to_the_ends : ℕ → List (List ℕ) → List Turn
to_the_ends k [] = []
to_the_ends k (lines ∷ rest) = turns_of k lines ++ to_the_ends (suc k) rest

-- the next line of each client that is named; then the clients go to their ends, the least client first
abbrev pub order_from : List ℕ → List (List ℕ) → List Turn
order_from [] left = to_the_ends 1 left
order_from (k ∷ words) left =
    turns_of k (next_of (k - 1) left) ++ order_from words (without_next (k - 1) left)

-- the order in which the lines are answered where these clients are named
abbrev pub play_order : List ℕ → Scripts → List Turn
play_order words scripts = order_from words (numbers_of scripts)

-- ---- journals in order

-- this holds of client k's open update, where it has one
abbrev pub IfUpdate : Standing → ℕ → (Update → Type 0) → Type 0
IfUpdate s k P = IfSome (client_of s k).update P

-- no other client has a file of a plain update locked
abbrev pub IsUnlocked : Standing → ℕ → Update → Type 0
IsUnlocked s k u = u.is_super ≡ false → All (λ (w : Work). locked_by s k w.object ≡ None) u.works

-- a refusal comes where no earlier cause does: a lock, then a clash, then the last serial, then too few free blocks
abbrev pub IsFirstOf : Standing → ℕ → Update → Refusal → Type 0
IsFirstOf s k u (Conflict serial path kind) = IsUnlocked s k u
IsFirstOf s k u (Locked by) = Unit {0}
IsFirstOf s k u (NoSpace needed blocks) = IsUnopposed s k u × AreUnworn s.state u
IsFirstOf s k u Worn = IsUnopposed s k u

-- an entry of a commit comes where no earlier cause of a refusal does
abbrev pub IsDue : Standing → ℕ → What → Type 0
IsDue s k (Held blocks) = IfUpdate s k (λ u. IsUnopposed s k u × AreUnworn s.state u)
IsDue s k (Refused why) = IfUpdate s k (λ u. IsFirstOf s k u why)
IsDue s k _ = Unit {0}

-- an entry belongs to the line that is answered next, and is due there
abbrev pub IsOfTurn : Scripts → Standing → Turn → Entry → Type 0
IsOfTurn scripts s turn e = (e.client ≡ turn.client) × (e.line ≡ turn.line) × IsDue s e.client e.what

-- the lines are answered in this order and all of them are; each entry, the first ones too, belongs to the
-- line that is answered next, or gives up an update at a script's end
abbrev pub IsInOrder : Scripts → Standing → List Turn → List Entry → Type 0
IsInOrder scripts s order [] = order ≡ []
IsInOrder scripts s [] (e ∷ es) = IsAtEnd scripts s e × IsInOrder scripts (after_entry scripts s e) [] es
IsInOrder scripts s (turn ∷ order) (e ∷ es) =
    (IsOfTurn scripts s turn e
    × IsInOrder scripts (after_entry scripts s e) (if is_answer e.what then order else turn ∷ order) es)
    ⊎ (IsAtEnd scripts s e × IsInOrder scripts (after_entry scripts s e) (turn ∷ order) es)
