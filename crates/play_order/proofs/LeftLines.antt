-- What is left of each client's lines, and what a word of an order takes of it.
use Rattle.std.proofs.Common.{◌≡◌, ◌≢◌, ℕ, zero, suc, ◌+◌, ◌-◌, ◌<◌, ◌≤◌, List, [], ◌∷◌, ◌++◌, length, drop, Option, Some, None, refl, sym, ap, ◌∙◌, arith}
use Rattle.std.specs.Prelude.{map, option_to_list, slice_get, slice_index_or}
use Rattle.std.specs.Option.{option_map_or}
use Rattle.script_text.specs.ScriptValue.{ScriptValue}
use Rattle.script_text.specs.declared.script.Line.{Line}
use Rattle.service_model.specs.Order.{next_of, numbers_of, order_from, to_the_ends, turns_of, without_next}
use Rattle.service_model.specs.Standing.{Scripts, Standing, Client, client_of, lines_of, newcomer, next_line, start}
use Rattle.tree_model.specs.States.{State}
use Rattle.play_order.specs.Orders.{AreFinishedBelow, HasOneMore, answer_count, left_from, left_of, turn_of}
use Rattle.play_order.specs.OrderLaws.{EndIsReached, EndTakesLine, StartLeavesAll, WordIsPassed, WordTakesLine}

-- ---- the lines of one client

abbrev number_of : Line → ℕ
number_of line = line.number

abbrev numbers_in : Option Line → List ℕ
numbers_in o = map number_of (option_to_list o)

-- of the lines behind so many the first one is at that place
next_dropped : (lines : List Line) (n : ℕ) (rest : List (List ℕ)) → next_of zero (drop n (map number_of lines) ∷ rest) ≡ numbers_in (slice_get lines n)
next_dropped [] zero rest = refl
next_dropped [] (suc n) rest = refl
next_dropped (line ∷ lines) zero rest = refl
next_dropped (line ∷ lines) (suc n) rest = next_dropped lines n rest

-- without it there are those behind one more
without_dropped : (lines : List Line) (n : ℕ) (rest : List (List ℕ))
    → without_next zero (drop n (map number_of lines) ∷ rest) ≡ drop (suc n) (map number_of lines) ∷ rest
without_dropped [] zero rest = refl
without_dropped [] (suc n) rest = refl
without_dropped (line ∷ lines) zero rest = refl
without_dropped (line ∷ lines) (suc n) rest = without_dropped lines n rest

-- nothing is taken where none is there
without_none : (lines : List Line) (n : ℕ) (rest : List (List ℕ)) → slice_get lines n ≡ None
    → without_next zero (drop n (map number_of lines) ∷ rest) ≡ drop n (map number_of lines) ∷ rest
without_none [] zero rest none = refl
without_none [] (suc n) rest none = refl
without_none (line ∷ lines) zero rest none = (let wrong : Some line ≡ None = none in absurd (cc wrong))
without_none (line ∷ lines) (suc n) rest none = without_none lines n rest none

-- ---- all clients

-- the lines of the client at a place
abbrev pub lines_at : Scripts → ℕ → List Line
lines_at scripts i = option_map_or (λ (script : ScriptValue). script.lines) (slice_get scripts i) []

next_left : (k i : ℕ) (s : Standing) (scripts : Scripts)
    → next_of i (left_from k s scripts) ≡ numbers_in (slice_get (lines_at scripts i) (answer_count s (k + i)))
next_left k i s [] = refl
next_left k zero s (script ∷ scripts) =
    next_dropped script.lines (answer_count s k) (left_from (suc k) s scripts)
    ∙ ap (λ n. numbers_in (slice_get script.lines (answer_count s n))) (omega arith)
next_left k (suc i) s (script ∷ scripts) =
    next_left (suc k) i s scripts ∙ ap (λ n. numbers_in (slice_get (lines_at scripts i) (answer_count s n))) (omega arith)

-- what is left depends on how many are answered alone
same_left : (k : ℕ) (s t : Standing) (scripts : Scripts) → ((j : ℕ) → k ≤ j → answer_count t j ≡ answer_count s j) → left_from k s scripts ≡ left_from k t scripts
same_left k s t [] same = refl
same_left k s t (script ∷ scripts) same =
    ap (λ n. drop n (map number_of script.lines) ∷ left_from (suc k) s scripts) (sym (same k (omega arith)))
    ∙ ap (λ rest. drop (answer_count t k) (map number_of script.lines) ∷ rest)
    (same_left (suc k) s t scripts (λ j high. same j (omega (arith, high))))

without_left : (k i : ℕ) (s t : Standing) (scripts : Scripts) → answer_count t (k + i) ≡ answer_count s (k + i) + 1
    → ((j : ℕ) → k ≤ j → j ≢ k + i → answer_count t j ≡ answer_count s j)
    → without_next i (left_from k s scripts) ≡ left_from k t scripts
without_left k i s t [] more others = refl
without_left k zero s t (script ∷ scripts) more others =
    let at : k + 0 ≡ k = omega arith in
    let one : suc (answer_count s k) ≡ answer_count t k
    = (let here : answer_count t k ≡ answer_count s k + 1
    = ap (answer_count t) (sym at) ∙ more ∙ ap (λ n. answer_count s n + 1) at in omega (arith, here)) in
    without_dropped script.lines (answer_count s k) (left_from (suc k) s scripts)
    ∙ ap (λ n. drop n (map number_of script.lines) ∷ left_from (suc k) s scripts) one
    ∙ ap (λ rest. drop (answer_count t k) (map number_of script.lines) ∷ rest)
    (same_left (suc k) s t scripts (λ j high. others j (omega (arith, high)) (omega (arith, high))))
without_left k (suc i) s t (script ∷ scripts) more others =
    let at : k + suc i ≡ suc k + i = omega arith in
    let here : answer_count s k ≡ answer_count t k = sym (others k (omega arith) (omega arith)) in
    ap (λ n. drop n (map number_of script.lines) ∷ without_next i (left_from (suc k) s scripts)) here
    ∙ ap (λ rest. drop (answer_count t k) (map number_of script.lines) ∷ rest)
    (without_left (suc k) i s t scripts (ap (answer_count t) (sym at) ∙ more ∙ ap (λ n. answer_count s n + 1) at)
    (λ j high ne. others j (omega (arith, high)) (λ e. ne (e ∙ at))))

none_left : (k i : ℕ) (s : Standing) (scripts : Scripts) → slice_get (lines_at scripts i) (answer_count s (k + i)) ≡ None
    → without_next i (left_from k s scripts) ≡ left_from k s scripts
none_left k i s [] none = refl
none_left k zero s (script ∷ scripts) none =
    let at : k ≡ k + 0 = omega arith in
    without_none script.lines (answer_count s k) (left_from (suc k) s scripts)
    (ap (λ n. slice_get script.lines (answer_count s n)) at ∙ none)
none_left k (suc i) s (script ∷ scripts) none =
    let at : suc k + i ≡ k + suc i = omega arith in
    ap (λ rest. drop (answer_count s k) (map number_of script.lines) ∷ rest)
    (none_left (suc k) i s scripts (ap (λ n. slice_get (lines_at scripts i) (answer_count s n)) at ∙ none))

-- ---- words

module _ (scripts : Scripts) (s : Standing) (k : ℕ) (low : 1 ≤ k) where
  at_place : 1 + (k - 1) ≡ k
  at_place = omega (arith, low)

  next_here : (o : Option Line) → next_line scripts s k ≡ o → next_of (k - 1) (left_of scripts s) ≡ numbers_in o
  next_here o is =
      next_left 1 (k - 1) s scripts ∙ ap (λ n. numbers_in (slice_get (lines_of scripts k) (answer_count s n))) at_place ∙ ap numbers_in is

  without_here : (t : Standing) → HasOneMore s t k → without_next (k - 1) (left_of scripts s) ≡ left_of scripts t
  without_here t h =
      without_left 1 (k - 1) s t scripts (ap (answer_count t) at_place ∙ h.more ∙ ap (λ n. answer_count s n + 1) (sym at_place))
      (λ j high ne. h.others j high (λ e. ne (e ∙ sym at_place)))

  none_here : next_line scripts s k ≡ None → without_next (k - 1) (left_of scripts s) ≡ left_of scripts s
  none_here none =
      none_left 1 (k - 1) s scripts (ap (λ n. slice_get (lines_of scripts k) (answer_count s n)) at_place ∙ none)

pub word_takes_line : WordTakesLine
word_takes_line scripts s t k words line next h =
    ap (λ ns. turns_of k ns ++ order_from words (without_next (k - 1) (left_of scripts s))) (next_here scripts s k h.low (Some line) next)
    ∙ ap (λ left. turn_of k line ∷ order_from words left) (without_here scripts s k h.low t h)

pub word_is_passed : WordIsPassed
word_is_passed scripts s k words low none =
    ap (λ ns. turns_of k ns ++ order_from words (without_next (k - 1) (left_of scripts s))) (next_here scripts s k low None none)
    ∙ ap (order_from words) (none_here scripts s k low none)

-- ---- before the first entry

pub start_client : (opening : State) (scripts : Scripts) (k : ℕ) → client_of (start opening scripts) k ≡ newcomer
start_client opening scripts k = newcomers scripts (k - 1)
  where
    newcomers : (all : Scripts) (i : ℕ) → slice_index_or (map (λ _. newcomer) all) i newcomer ≡ newcomer
    newcomers [] i = refl
    newcomers (script ∷ all) zero = refl
    newcomers (script ∷ all) (suc i) = newcomers all i

pub start_count : (opening : State) (scripts : Scripts) (k : ℕ) → answer_count (start opening scripts) k ≡ 0
start_count opening scripts k = ap (λ (c : Client). length c.answers) (start_client opening scripts k)

all_left : (k : ℕ) (s : Standing) (scripts : Scripts) → ((j : ℕ) → answer_count s j ≡ 0) → left_from k s scripts ≡ numbers_of scripts
all_left k s [] none = refl
all_left k s (script ∷ scripts) none =
    ap (λ n. drop n (map number_of script.lines) ∷ left_from (suc k) s scripts) (none k)
    ∙ ap (λ rest. map number_of script.lines ∷ rest) (all_left (suc k) s scripts none)

pub start_leaves_all : StartLeavesAll
start_leaves_all opening scripts = all_left 1 (start opening scripts) scripts (start_count opening scripts)

-- ---- the ends

-- behind the words the order is that of a word for the first client that has a line left
end_as_word : (m i : ℕ) (left : List (List ℕ)) → ((p : ℕ) → p < i → next_of p left ≡ [])
    → to_the_ends m left ≡ turns_of (m + i) (next_of i left) ++ to_the_ends m (without_next i left)
end_as_word m i [] none = refl
end_as_word m zero ([] ∷ rest) none = refl
end_as_word m zero ((n ∷ lines) ∷ rest) none =
    let at : m ≡ m + 0 = omega arith in
    ap (λ k. turns_of k (n ∷ []) ++ (turns_of m lines ++ to_the_ends (suc m) rest)) at
end_as_word m (suc i) ([] ∷ rest) none =
    let at : suc m + i ≡ m + suc i = omega arith in
    end_as_word (suc m) i rest (λ p low. none (suc p) (omega (arith, low)))
    ∙ ap (λ k. turns_of k (next_of i rest) ++ to_the_ends (suc m) (without_next i rest)) at
end_as_word m (suc i) ((n ∷ lines) ∷ rest) none =
    let wrong : n ∷ [] ≡ [] = none 0 (omega arith) in absurd (cc wrong)

-- there is no order where nothing is left
end_of_none : (m : ℕ) (left : List (List ℕ)) → ((p : ℕ) → p < length left → next_of p left ≡ []) → to_the_ends m left ≡ []
end_of_none m [] none = refl
end_of_none m ([] ∷ rest) none = end_of_none (suc m) rest (λ p low. none (suc p) (omega (arith, low)))
end_of_none m ((n ∷ lines) ∷ rest) none = (let wrong : n ∷ [] ≡ [] = none 0 (omega arith) in absurd (cc wrong))

-- clients that are finished have nothing left
finished_left : (scripts : Scripts) (s : Standing) (k : ℕ) → AreFinishedBelow scripts s k → (p : ℕ) → p + 1 < k → next_of p (left_of scripts s) ≡ []
finished_left scripts s k below p low =
    let at : (p + 1) - 1 ≡ p = omega arith in
    ap (λ i. next_of i (left_of scripts s)) (sym at) ∙ next_here scripts s (p + 1) (omega arith) None (below (p + 1) (omega arith) low)

pub end_takes_line : EndTakesLine
end_takes_line scripts s t k line below next h =
    let low : 1 ≤ k = h.low in
    let at : 1 + (k - 1) ≡ k = omega (arith, low) in
    end_as_word 1 (k - 1) (left_of scripts s) (λ p less. finished_left scripts s k below p (omega (arith, less, low)))
    ∙ ap (λ n. turns_of n (next_of (k - 1) (left_of scripts s)) ++ to_the_ends 1 (without_next (k - 1) (left_of scripts s))) at
    ∙ word_takes_line scripts s t k [] line next h

left_length : (k : ℕ) (s : Standing) (scripts : Scripts) → length (left_from k s scripts) ≡ length scripts
left_length k s [] = refl
left_length k s (script ∷ scripts) = ap suc (left_length (suc k) s scripts)

pub end_is_reached : EndIsReached
end_is_reached scripts s below =
    end_of_none 1 (left_of scripts s)
    (λ p low. finished_left scripts s (length scripts + 1) below p (let all = left_length 1 s scripts in omega (arith, low, all)))
