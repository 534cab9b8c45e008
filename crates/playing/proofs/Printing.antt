-- Texts of runs that are printed piece by piece.
use Rattle.std.proofs.Common.{◌≡◌, ℕ, zero, suc, ◌+◌, ◌<◌, ◌≤◌, List, [], ◌∷◌, ◌++◌, length, map, drop, None, Some, refl, sym, ap, subst, ◌∙◌, arith, append_assoc, append-nil}
use Rattle.std.specs.List.{slice_get}
use Rattle.std.specs.Option.{option_map, unwrap_or}
use Rattle.script_text.specs.declared.reply.LineReply.{LineReply}
use Rattle.script_text.specs.declared.script.Line.{Line}
use Rattle.script_text.specs.ScriptValue.{ScriptValue}
use Rattle.service_model.specs.Print.{answer_text, client_text, clients_text}
use Rattle.service_model.specs.Standing.{Client}
use Rattle.playing.specs.Running.{AreAnswered, answers_of, lines_of}

-- ---- one client

client_here : (k : ℕ) (lines : List Line) (replies : List LineReply) (i : ℕ) (line : Line)
    (reply : LineReply) → slice_get lines i ≡ Some line → slice_get replies i ≡ Some reply
    → client_text k (drop i lines) (drop i replies)
    ≡ answer_text k line.number reply
    ++ client_text k (drop (suc i) lines) (drop (suc i) replies)
client_here k [] replies i line reply is answered = absurd cc
client_here k (l ∷ lines) [] i line reply is answered = absurd cc
client_here k (l ∷ lines) (r ∷ replies) zero line reply is answered =
    let one : l ≡ line = cc in
    let other : r ≡ reply = cc in
    λ i. answer_text k (one i).number (other i) ++ client_text k lines replies
client_here k (l ∷ lines) (r ∷ replies) (suc i) line reply is answered =
    client_here k lines replies i line reply is answered

client_unanswered : (k : ℕ) (lines : List Line) → client_text k lines [] ≡ []
client_unanswered k [] = refl
client_unanswered k (line ∷ lines) = refl

-- no line is left, or no answer
client_ended : (k : ℕ) (lines : List Line) (replies : List LineReply) (i : ℕ) → length lines ≤ i
    → client_text k (drop i lines) (drop i replies) ≡ []
client_ended k [] replies zero past = refl
client_ended k [] replies (suc i) past = refl
client_ended k (l ∷ lines) replies zero past = absurd (omega (arith, past))
client_ended k (l ∷ lines) [] (suc i) past = client_unanswered k (drop i lines)
client_ended k (l ∷ lines) (r ∷ replies) (suc i) past =
    client_ended k lines replies i (omega (arith, past))

client_stopped : (k : ℕ) (lines : List Line) (replies : List LineReply) (i : ℕ)
    → slice_get replies i ≡ None → client_text k (drop i lines) (drop i replies) ≡ []
client_stopped k lines [] zero is = client_unanswered k lines
client_stopped k lines [] (suc i) is = client_unanswered k (drop (suc i) lines)
client_stopped k lines (r ∷ replies) zero is = absurd cc
client_stopped k [] (r ∷ replies) (suc i) is = refl
client_stopped k (l ∷ lines) (r ∷ replies) (suc i) is = client_stopped k lines replies i is

-- a text with what is left is all: one piece more
pub piece_more : (old text text' piece rest all : List ℕ) → text ++ (piece ++ rest) ≡ old ++ all
    → text' ≡ text ++ piece → text' ++ rest ≡ old ++ all
piece_more old text text' piece rest all far is =
    ap (λ t. t ++ rest) is ∙ append_assoc text piece rest ∙ far

-- nothing is left
pub piece_last : (old text rest all : List ℕ) → text ++ rest ≡ old ++ all → rest ≡ []
    → text ≡ old ++ all
piece_last old text rest all far none =
    sym (ap (λ r. text ++ r) none ∙ append-nil text) ∙ far

module _ (k : ℕ) (lines : List Line) (replies : List LineReply) (i : ℕ) (old text : List ℕ)
    (far : text ++ client_text k (drop i lines) (drop i replies)
    ≡ old ++ client_text k lines replies) where
  pub client_more : (line : Line) (reply : LineReply) (text' : List ℕ)
      → slice_get lines i ≡ Some line → slice_get replies i ≡ Some reply
      → text' ≡ text ++ answer_text k line.number reply
      → text' ++ client_text k (drop (i + 1) lines) (drop (i + 1) replies)
      ≡ old ++ client_text k lines replies
  client_more line reply text' is answered more =
      subst (λ n. text' ++ client_text k (drop n lines) (drop n replies)
      ≡ old ++ client_text k lines replies) (let e : suc i ≡ i + 1 = omega arith in e)
      (piece_more old text text' (answer_text k line.number reply)
      (client_text k (drop (suc i) lines) (drop (suc i) replies)) (client_text k lines replies)
      (ap (λ t. text ++ t) (sym (client_here k lines replies i line reply is answered)) ∙ far) more)

  pub client_done : slice_get replies i ≡ None → text ≡ old ++ client_text k lines replies
  client_done none =
      piece_last old text (client_text k (drop i lines) (drop i replies))
      (client_text k lines replies) far (client_stopped k lines replies i none)

  pub client_whole : length lines ≤ i → text ≡ old ++ client_text k lines replies
  client_whole past =
      piece_last old text (client_text k (drop i lines) (drop i replies))
      (client_text k lines replies) far (client_ended k lines replies i past)

-- the lines of a script that is there
pub lines_at : (scripts : List ScriptValue) (place : ℕ) (script : ScriptValue)
    → slice_get scripts place ≡ Some script → lines_of scripts place ≡ script.lines
lines_at scripts place script is =
    ap (λ o. unwrap_or (option_map (λ (s : ScriptValue). s.lines) o) []) is

-- ---- all clients

-- the answered lines of clients, the first of which has this number, by what they were answered
abbrev pub answers_text : ℕ → List ScriptValue → List (List LineReply) → List ℕ
answers_text k [] answers = []
answers_text k (script ∷ scripts) [] = []
answers_text k (script ∷ scripts) (replies ∷ answers) =
    client_text k script.lines replies ++ answers_text (k + 1) scripts answers

pub answers_are : (k : ℕ) (scripts : List ScriptValue) (clients : List Client)
    → answers_text k scripts (map (λ (c : Client). c.answers) clients)
    ≡ clients_text k scripts clients
answers_are k [] clients = refl
answers_are k (script ∷ scripts) [] = refl
answers_are k (script ∷ scripts) (c ∷ clients) =
    ap (λ t. client_text k script.lines c.answers ++ t) (answers_are (k + 1) scripts clients)

answers_unanswered : (k : ℕ) (scripts : List ScriptValue) → answers_text k scripts [] ≡ []
answers_unanswered k [] = refl
answers_unanswered k (script ∷ scripts) = refl

answers_ended : (k : ℕ) (scripts : List ScriptValue) (answers : List (List LineReply)) (i : ℕ)
    → length scripts ≤ i → answers_text k (drop i scripts) (drop i answers) ≡ []
answers_ended k [] answers zero past = refl
answers_ended k [] answers (suc i) past = refl
answers_ended k (s ∷ scripts) answers zero past = absurd (omega (arith, past))
answers_ended k (s ∷ scripts) [] (suc i) past = answers_unanswered k (drop i scripts)
answers_ended k (s ∷ scripts) (r ∷ answers) (suc i) past =
    answers_ended k scripts answers i (omega (arith, past))

answers_here : (k : ℕ) (scripts : List ScriptValue) (answers : List (List LineReply)) (i : ℕ)
    → i < length scripts → answers_text k (drop i scripts) (drop i answers)
    ≡ client_text k (lines_of scripts i) (answers_of answers i)
    ++ answers_text (k + 1) (drop (suc i) scripts) (drop (suc i) answers)
answers_here k [] answers i inside = absurd (omega (arith, inside))
answers_here k (s ∷ scripts) [] zero inside =
    sym (ap (λ t. t ++ answers_text (k + 1) scripts []) (client_unanswered k s.lines)
    ∙ answers_unanswered (k + 1) scripts)
answers_here k (s ∷ scripts) (r ∷ answers) zero inside = refl
answers_here k (s ∷ scripts) [] (suc i) inside =
    answers_unanswered k (drop i scripts)
    ∙ sym (ap (λ t. t ++ answers_text (k + 1) (drop (suc i) scripts) [])
    (client_unanswered k (lines_of scripts i))
    ∙ answers_unanswered (k + 1) (drop (suc i) scripts))
answers_here k (s ∷ scripts) (r ∷ answers) (suc i) inside =
    answers_here k scripts answers i (omega (arith, inside))

module _ (scripts : List ScriptValue) (answers : List (List LineReply)) (i : ℕ)
    (old text : List ℕ) (far : text ++ answers_text (i + 1) (drop i scripts) (drop i answers)
    ≡ old ++ answers_text 1 scripts answers) where
  pub answers_more : (text' : List ℕ) → i < length scripts
      → text' ≡ text ++ client_text (i + 1) (lines_of scripts i) (answers_of answers i)
      → text' ++ answers_text (i + 1 + 1) (drop (i + 1) scripts) (drop (i + 1) answers)
      ≡ old ++ answers_text 1 scripts answers
  answers_more text' inside more =
      subst (λ n. text' ++ answers_text (i + 1 + 1) (drop n scripts) (drop n answers)
      ≡ old ++ answers_text 1 scripts answers) (let e : suc i ≡ i + 1 = omega arith in e)
      (piece_more old text text' (client_text (i + 1) (lines_of scripts i) (answers_of answers i))
      (answers_text (i + 1 + 1) (drop (suc i) scripts) (drop (suc i) answers))
      (answers_text 1 scripts answers)
      (ap (λ t. text ++ t) (sym (answers_here (i + 1) scripts answers i inside)) ∙ far) more)

  pub answers_whole : length scripts ≤ i → (clients : List Client) → AreAnswered answers clients
      → text ≡ old ++ clients_text 1 scripts clients
  answers_whole past clients are =
      piece_last old text (answers_text (i + 1) (drop i scripts) (drop i answers))
      (answers_text 1 scripts answers) far (answers_ended (i + 1) scripts answers i past)
      ∙ ap (λ a. old ++ answers_text 1 scripts a) (sym are)
      ∙ ap (λ t. old ++ t) (answers_are 1 scripts clients)
