-- A whole line: its entries, its end, and that it is in order.
use Rattle.std.proofs.Common.{◌≡◌, ◌⊎◌, inl, inr, ℕ, zero, suc, ◌+◌, ◌-◌, ◌≤◌, Bool, true, false, List, [], ◌∷◌, ◌++◌, length, Option, Some, None, refl, sym, ap, ◌∙◌, subst, arith}
use Rattle.std.specs.Prelude.{IsSome, if◌then◌else◌, slice_get}
use Rattle.std.proofs.lemmas.Option.{slice_get_within}
use Rattle.script_text.specs.declared.script.Line.{Line}
use Rattle.service_model.specs.declared.journal.Entry.{Entry}
use Rattle.service_model.specs.Entries.{after_entries, after_entry, is_answer}
use Rattle.service_model.specs.Legal.{IsAtEnd, IsLegalFrom}
use Rattle.service_model.specs.Order.{IsInOrder, IsOfTurn, Turn}
use Rattle.service_model.specs.Standing.{Scripts, Standing, Client, Update, client_of, last_line, lines_of, next_line}
use Rattle.service_model.proofs.Journals.{after_append}
use Rattle.play_order.specs.Orders.{AnswersOne, AreBy, AreDue, IsBetween, IsWholeLine, answer_count, answers_in, turn_of}
use Rattle.play_order.specs.OrderLaws.{OneIsInOrder, OneIsMore, OneIsWhole, WithinBegins, WithinEnds, WithinGoesOn}
use Rattle.play_order.proofs.ClientEntries.{added, answers_cons, by_head, by_rest, more_or_same, none_are_of_client, of_client_appends, only_more, others_are_left}
use Rattle.play_order.proofs.OneEntry.{IsAnswerStep, IsEndStep, IsNoteStep, step_of}

-- ---- within a line

pub within_begins : WithinBegins
within_begins scripts s k = record { entries = none_are_of_client scripts s k; same = refl }

pub within_goes_on : WithinGoesOn
within_goes_on scripts s k es fs one two = record {
  entries = of_client_appends scripts s k es fs one.entries two.entries;
  same = ap (λ t. answer_count t k) (after_append scripts s es fs) ∙ two.same ∙ one.same;
}

pub within_ends : WithinEnds
within_ends scripts s k es fs one two = record {
  entries = of_client_appends scripts s k es fs one.entries two.entries;
  more = ap (λ t. answer_count t k) (after_append scripts s es fs) ∙ two.more ∙ ap (λ n. n + 1) one.same;
  between =
      let F : Standing → Type 0 = λ t. IsBetween scripts t k in
      subst F (sym (after_append scripts s es fs)) two.between;
}

-- ---- behind the answer

-- these entries of client k answer no line, and nothing is noted after them
pub record IsBehind (scripts : Scripts) (s : Standing) (k : ℕ) (es : List Entry) : Type 0 where
  pub own : AreBy k es
  pub legal : IsLegalFrom scripts s es
  pub same : answer_count (after_entries scripts s es) k ≡ answer_count s k
  pub fresh : (client_of (after_entries scripts s es) k).noted ≡ []

never_empty : {X : Type 0} {A : Type 0} (xs ys : List X) (x : X) → (xs ++ x ∷ []) ++ ys ≡ [] → A
never_empty [] ys x e = (let no : x ∷ ys ≡ [] = e in absurd (cc no))
never_empty (z ∷ xs) ys x e = (let no : z ∷ ((xs ++ x ∷ []) ++ ys) ≡ [] = e in absurd (cc no))

-- the first of them is at the end
behind_first : (scripts : Scripts) (s : Standing) (k : ℕ) (e : Entry) (es : List Entry) → IsBehind scripts s k (e ∷ es) → IsEndStep scripts s k e
behind_first scripts s k e es h =
    let t : Standing = after_entry scripts s e in
    let rest : AreBy k es = by_rest k e es h.own in
    elim (step_of scripts s k e (by_head k e es h.own) h.legal.0) [
      | inl a ↦ (let more = more_or_same scripts t k es rest h.legal.1 in let one = a.more in let same = h.same in absurd (omega (arith, more, one, same)))
      | inr (inl n) ↦ (let m = only_more scripts t k es rest h.legal.1 (h.same ∙ sym (ap length n.notes.answers)) in
          never_empty (client_of s k).noted m.0 e.what (sym (m.1 ∙ ap (λ l. l ++ m.0) n.notes.noted) ∙ h.fresh))
      | inr (inr z) ↦ z
    ]

behind_rest : (scripts : Scripts) (s : Standing) (k : ℕ) (e : Entry) (es : List Entry) → IsBehind scripts s k (e ∷ es) → IsBehind scripts (after_entry scripts s e) k es
behind_rest scripts s k e es h = record {
  own = by_rest k e es h.own;
  legal = h.legal.1;
  same = h.same ∙ sym (ap length (behind_first scripts s k e es h).notes.answers);
  fresh = h.fresh;
}

-- they are in the order of no lines
pub behind_in_order : (scripts : Scripts) (s : Standing) (k : ℕ) (es : List Entry) → IsBehind scripts s k es → IsInOrder scripts s [] es
behind_in_order scripts s k [] h = refl
behind_in_order scripts s k (e ∷ es) h =
    ((behind_first scripts s k e es h).at_end, behind_in_order scripts (after_entry scripts s e) k es (behind_rest scripts s k e es h))

-- none comes where no update is open
behind_closed : (scripts : Scripts) (s : Standing) (k : ℕ) (es : List Entry) → IsBehind scripts s k es → (client_of s k).update ≡ None → es ≡ []
behind_closed scripts s k [] h closed = refl
behind_closed scripts s k (e ∷ es) h closed =
    let F : Option Update → Type 0 = λ o. IsSome o in
    let open_is : IsSome (client_of s e.client).update = (behind_first scripts s k e es h).at_end.6 in
    let no : IsSome (client_of s k).update = subst F (ap (λ n. (client_of s n).update) (by_head k e es h.own)) open_is in
    closed_is (client_of s k).update closed no
  where
    closed_is : (o : Option Update) → o ≡ None → IsSome o → e ∷ es ≡ []
    closed_is None is some = (let wrong : true ≡ false = sym some in absurd (cc wrong))
    closed_is (Some u) is some = (let wrong : Some u ≡ None = is in absurd (cc wrong))

-- there is at most one
pub behind_one : (scripts : Scripts) (s : Standing) (k : ℕ) (es : List Entry) → IsBehind scripts s k es
    → (es ≡ []) ⊎ ((e : Entry) × (es ≡ e ∷ []) × IsAtEnd scripts s e)
behind_one scripts s k [] h = inl refl
behind_one scripts s k (e ∷ es) h =
    let first : IsEndStep scripts s k e = behind_first scripts s k e es h in
    inr (e, ap (λ l. e ∷ l) (behind_closed scripts (after_entry scripts s e) k es (behind_rest scripts s k e es h) first.closed), first.at_end)

-- ---- a whole line

-- entries of client k, from within its next line to its end
record IsToEnd (scripts : Scripts) (s : Standing) (k : ℕ) (line : Line) (es : List Entry) : Type 0 where
  next : next_line scripts s k ≡ Some line
  own : AreBy k es
  legal : IsLegalFrom scripts s es
  more : answer_count (after_entries scripts s es) k ≡ answer_count s k + 1
  fresh : (client_of (after_entries scripts s es) k).noted ≡ []

to_end : (scripts : Scripts) (s : Standing) (k : ℕ) (line : Line) (es : List Entry) → next_line scripts s k ≡ Some line
    → AnswersOne scripts s k es → IsToEnd scripts s k line es
to_end scripts s k line es next one =
    record { next = next; own = one.entries.own; legal = one.entries.legal; more = one.more; fresh = one.between.fresh }

never_at_end : {A : Type 0} (scripts : Scripts) (s : Standing) (k : ℕ) (line : Line) (e : Entry) → next_line scripts s k ≡ Some line
    → e.client ≡ k → IsEndStep scripts s k e → A
never_at_end scripts s k line e next own z =
    let no : Some line ≡ None = sym next ∙ ap (λ n. next_line scripts s n) (sym own) ∙ z.at_end.1 in absurd (cc no)

-- the line goes on behind an entry that is no answer
noted_on : (scripts : Scripts) (s : Standing) (k : ℕ) (line : Line) (e : Entry) (es : List Entry) → IsToEnd scripts s k line (e ∷ es)
    → IsNoteStep scripts s k e → IsToEnd scripts (after_entry scripts s e) k line es
noted_on scripts s k line e es h n = record {
  next = ap (λ l. slice_get (lines_of scripts k) (length l)) n.notes.answers ∙ h.next;
  own = by_rest k e es h.own;
  legal = h.legal.1;
  more = h.more ∙ sym (ap (λ l. length l + 1) n.notes.answers);
  fresh = h.fresh;
}

answered_on : (scripts : Scripts) (s : Standing) (k : ℕ) (line : Line) (e : Entry) (es : List Entry) → IsToEnd scripts s k line (e ∷ es)
    → IsAnswerStep scripts s k e → IsBehind scripts (after_entry scripts s e) k es
answered_on scripts s k line e es h a =
    record { own = by_rest k e es h.own; legal = h.legal.1; same = h.more ∙ sym a.more; fresh = h.fresh }

same_number : (scripts : Scripts) (s : Standing) (k : ℕ) (line other : Line) (e : Entry) → next_line scripts s k ≡ Some line
    → next_line scripts s k ≡ Some other → e.line ≡ other.number → e.line ≡ line.number
same_number scripts s k line other e next is number =
    let same : Some other ≡ Some line = sym is ∙ next in
    let equal : other ≡ line = cc same in
    number ∙ ap (λ (l : Line). l.number) equal

-- ---- its order

abbrev left_by : Entry → Turn → List Turn
left_by e turn = if is_answer e.what then [] else turn ∷ []

in_order_by : (scripts : Scripts) (s : Standing) (k : ℕ) (line : Line) (e : Entry) (es : List Entry) (x : Bool) → is_answer e.what ≡ x
    → IsOfTurn scripts s (turn_of k line) e
    → IsInOrder scripts (after_entry scripts s e) (if x then [] else turn_of k line ∷ []) es
    → IsInOrder scripts s (turn_of k line ∷ []) (e ∷ es)
in_order_by scripts s k line e es x is of_turn rest =
    let F : Bool → Type 0 = λ y. IsInOrder scripts (after_entry scripts s e) (if y then [] else turn_of k line ∷ []) es in
    inl (of_turn, subst F (sym is) rest)

end_in_order : (scripts : Scripts) (s : Standing) (k : ℕ) (line : Line) (es : List Entry) → IsToEnd scripts s k line es → AreDue scripts s es
    → IsInOrder scripts s (turn_of k line ∷ []) es
end_in_order scripts s k line [] h due = (let more = h.more in absurd (omega (arith, more)))
end_in_order scripts s k line (e ∷ es) h due =
    elim (step_of scripts s k e (by_head k e es h.own) h.legal.0) [
      | inl a ↦ in_order_by scripts s k line e es true (ap is_answer a.is)
          (by_head k e es h.own, same_number scripts s k line a.line e h.next a.next a.number, due.0)
          (behind_in_order scripts (after_entry scripts s e) k es (answered_on scripts s k line e es h a))
      | inr (inl n) ↦ in_order_by scripts s k line e es false n.plain
          (by_head k e es h.own, same_number scripts s k line n.line e h.next n.next n.number, due.0)
          (end_in_order scripts (after_entry scripts s e) k line es (noted_on scripts s k line e es h n) due.1)
      | inr (inr z) ↦ never_at_end scripts s k line e h.next (by_head k e es h.own) z
    ]

pub one_is_in_order : OneIsInOrder
one_is_in_order scripts s k line es next one =
    end_in_order scripts s k line es (to_end scripts s k line es next one) one.entries.due

-- ---- its parts

-- no line is left where none is found
pub past_end : {X : Type 0} (xs : List X) (i : ℕ) → slice_get xs i ≡ None → length xs ≤ i
past_end [] i none = omega arith
past_end (x ∷ xs) zero none = (let wrong : Some x ≡ None = none in absurd (cc wrong))
past_end (x ∷ xs) (suc i) none = (let rest = past_end xs i none in omega arith)

-- the line that was answered is the last one where no line is left
is_last : (scripts : Scripts) (s t : Standing) (k : ℕ) (line : Line) → next_line scripts s k ≡ Some line
    → answer_count t k ≡ answer_count s k + 1 → next_line scripts t k ≡ None → last_line scripts k ≡ Some line
is_last scripts s t k line next more none =
    let within = slice_get_within (lines_of scripts k) (answer_count s k) line next in
    let past = past_end (lines_of scripts k) (answer_count t k) none in
    let at : length (lines_of scripts k) - 1 ≡ answer_count s k = omega (arith, within, past, more) in
    ap (slice_get (lines_of scripts k)) at ∙ next

end_number : (scripts : Scripts) (s : Standing) (k : ℕ) (line : Line) (e z : Entry) → next_line scripts s k ≡ Some line
    → IsAnswerStep scripts s k e → z.client ≡ k → IsAtEnd scripts (after_entry scripts s e) z → z.line ≡ line.number
end_number scripts s k line e z next a own h =
    let none : next_line scripts (after_entry scripts s e) k ≡ None
    = ap (next_line scripts (after_entry scripts s e)) (sym own) ∙ h.1 in
    let last : last_line scripts k ≡ Some line = is_last scripts s (after_entry scripts s e) k line next a.more none in
    let same : Some h.0 ≡ Some line = sym h.2 ∙ ap (last_line scripts) own ∙ last in
    let equal : h.0 ≡ line = cc same in
    h.3 ∙ ap (λ (l : Line). l.number) equal

abbrev CarryNumber : Line → List Entry → Type 0
CarryNumber line es = (n : ℕ) (e : Entry) → slice_get es n ≡ Some e → e.line ≡ line.number

numbers_cons : (line : Line) (e : Entry) (es : List Entry) → e.line ≡ line.number → CarryNumber line es → CarryNumber line (e ∷ es)
numbers_cons line e es here rest zero x is =
    let same : e ≡ x = cc is in
    ap (λ (y : Entry). y.line) (sym same) ∙ here
numbers_cons line e es here rest (suc n) x is = rest n x is

numbers_none : (line : Line) → CarryNumber line []
numbers_none line n e is = (let no : None ≡ Some e = is in absurd (cc no))

behind_numbers : (scripts : Scripts) (s : Standing) (k : ℕ) (line : Line) (e : Entry) (es : List Entry) → next_line scripts s k ≡ Some line
    → IsAnswerStep scripts s k e → IsBehind scripts (after_entry scripts s e) k es → CarryNumber line es
behind_numbers scripts s k line e es next a h =
    elim (behind_one scripts (after_entry scripts s e) k es h) [
      | inl none ↦ subst (CarryNumber line) (sym none) (numbers_none line)
      | inr z ↦ (let F : List Entry → Type 0 = λ l. AreBy k l in
          subst (CarryNumber line) (sym z.1)
          (numbers_cons line z.0 [] (end_number scripts s k line e z.0 next a (by_head k z.0 [] (subst F z.1 h.own)) z.2) (numbers_none line)))
    ]

answer_whole : (scripts : Scripts) (s : Standing) (k : ℕ) (line : Line) (e : Entry) (es : List Entry) → IsToEnd scripts s k line (e ∷ es)
    → IsAnswerStep scripts s k e → IsWholeLine scripts s line (e ∷ es)
answer_whole scripts s k line e es h a =
    let behind : IsBehind scripts (after_entry scripts s e) k es = answered_on scripts s k line e es h a in
    record {
      numbers = numbers_cons line e es (same_number scripts s k line a.line e h.next a.next a.number) (behind_numbers scripts s k line e es h.next a behind);
      before = [];
      answer = e;
      after = es;
      parts = refl;
      none = refl;
      answers = a.is;
      last = behind_one scripts (after_entry scripts s e) k es behind;
    }

note_whole : (scripts : Scripts) (s : Standing) (k : ℕ) (line : Line) (e : Entry) (es : List Entry) → IsToEnd scripts s k line (e ∷ es)
    → IsNoteStep scripts s k e → IsWholeLine scripts (after_entry scripts s e) line es → IsWholeLine scripts s line (e ∷ es)
note_whole scripts s k line e es h n w =
    let none : answers_in (e ∷ w.before) ≡ 0
    = (let all = answers_cons e w.before in let plain : added e.what ≡ 0 = ap (λ b. if b then 1 else 0) n.plain in let rest = w.none in omega arith) in
    record {
      numbers = numbers_cons line e es (same_number scripts s k line n.line e h.next n.next n.number) w.numbers;
      before = e ∷ w.before;
      answer = w.answer;
      after = w.after;
      parts = ap (λ l. e ∷ l) w.parts;
      none = none;
      answers = w.answers;
      last = w.last;
    }

end_whole : (scripts : Scripts) (s : Standing) (k : ℕ) (line : Line) (es : List Entry) → IsToEnd scripts s k line es → IsWholeLine scripts s line es
end_whole scripts s k line [] h = (let more = h.more in absurd (omega (arith, more)))
end_whole scripts s k line (e ∷ es) h =
    elim (step_of scripts s k e (by_head k e es h.own) h.legal.0) [
      | inl a ↦ answer_whole scripts s k line e es h a
      | inr (inl n) ↦ note_whole scripts s k line e es h n
          (end_whole scripts (after_entry scripts s e) k line es (noted_on scripts s k line e es h n))
      | inr (inr z) ↦ never_at_end scripts s k line e h.next (by_head k e es h.own) z
    ]

pub one_is_whole : OneIsWhole
one_is_whole scripts s k line es next one = end_whole scripts s k line es (to_end scripts s k line es next one)

-- ---- the answers of all

low_by : (scripts : Scripts) (s : Standing) (k : ℕ) (es : List Entry) → AnswersOne scripts s k es → 1 ≤ k
low_by scripts s k es one = by es one.entries.own one.entries.legal one.more
  where
    by : (fs : List Entry) → AreBy k fs → IsLegalFrom scripts s fs → answer_count (after_entries scripts s fs) k ≡ answer_count s k + 1 → 1 ≤ k
    by [] own legal more = absurd (omega (arith, more))
    by (e ∷ fs) own legal more = subst (λ n. 1 ≤ n) (by_head k e fs own) legal.0.0

pub one_is_more : OneIsMore
one_is_more scripts s k es one = record {
  low = low_by scripts s k es one;
  more = one.more;
  others = λ j low ne. ap (λ (c : Client). length c.answers) (others_are_left scripts s k j es one.entries.own one.entries.legal low ne);
}

-- no line is answered where none is left
none_more : (scripts : Scripts) (s : Standing) (k : ℕ) (es : List Entry) → next_line scripts s k ≡ None → AreBy k es → IsLegalFrom scripts s es
    → answer_count (after_entries scripts s es) k ≡ answer_count s k
none_more scripts s k [] none own legal = refl
none_more scripts s k (e ∷ es) none own legal =
    elim (step_of scripts s k e (by_head k e es own) legal.0) [
      | inl a ↦ (let wrong : Some a.line ≡ None = sym a.next ∙ none in absurd (cc wrong))
      | inr (inl n) ↦ (let wrong : Some n.line ≡ None = sym n.next ∙ none in absurd (cc wrong))
      | inr (inr z) ↦ none_more scripts (after_entry scripts s e) k es
          (ap (λ l. slice_get (lines_of scripts k) (length l)) z.notes.answers ∙ none) (by_rest k e es own) legal.1 ∙ ap length z.notes.answers
    ]

-- a line was there to be answered
pub one_is_there : (scripts : Scripts) (s : Standing) (k : ℕ) (es : List Entry) → AnswersOne scripts s k es
    → (line : Line) × (next_line scripts s k ≡ Some line)
one_is_there scripts s k es one = by (next_line scripts s k) refl
  where
    by : (o : Option Line) → next_line scripts s k ≡ o → (line : Line) × (next_line scripts s k ≡ Some line)
    by (Some line) is = (line, is)
    by None is =
        let same = none_more scripts s k es is one.entries.own one.entries.legal in
        let more = one.more in
        absurd (omega (arith, same, more))
