-- Two clients play to their ends in order; and where a turn that answers a line begins the next one as well, the order is not kept.
use Rattle.std.proofs.Common.{◌≡◌, inl, inr, ℕ, zero, suc, ◌+◌, [], ◌∷◌, Some, None, refl, arith}
use Rattle.script_text.specs.declared.script.Line.{Line}
use Rattle.script_text.specs.declared.script.Mode.TheVariants.{Numbers}
use Rattle.script_text.specs.declared.command.Command.TheVariants.{Abandon, Begin}
use Rattle.script_text.specs.declared.command.FileName.TheVariants.{Number}
use Rattle.service_model.specs.declared.journal.Entry.{Entry}
use Rattle.service_model.specs.declared.journal.What.TheVariants.{Answered, Began}
use Rattle.service_model.specs.Causes.{cause_of}
use Rattle.service_model.specs.Entries.{after_entries, bases_of, opened, standing_after}
use Rattle.service_model.specs.Legal.{IsComplete, IsLegalFrom}
use Rattle.service_model.specs.Order.{IsInOrder, play_order}
use Rattle.service_model.specs.Standing.{Scripts, start}
use Rattle.tree_model.specs.States.{State}
use Rattle.play_order.specs.Orders.{AnswersOne, AreBy, AreDue, AreFinishedBelow, answer_count, turn_of}
use Rattle.play_order.proofs.PlayEnds.{play_is_done}
use Rattle.play_order.proofs.Plays.{play_begins, play_takes_end, play_takes_word}

abbrev abandoning : ℕ → Line
abandoning n = record { number = n; command = Abandon }

abbrev answer_by : ℕ → ℕ → Entry
answer_by k n = record { client = k; line = n; what = Answered }

-- ---- in order

abbrev two : Scripts
two = record { mode = Numbers; lines = abandoning 4 ∷ [] } ∷ record { mode = Numbers; lines = abandoning 7 ∷ [] } ∷ []

by_one : (e : Entry) → AreBy e.client (e ∷ [])
by_one e zero x is = (let same : e ≡ x = cc is in cc same)
by_one e (suc n) x is = (let no : None ≡ Some x = is in absurd (cc no))

second_answers : (opening : State) → AnswersOne two (start opening two) 2 (answer_by 2 7 ∷ [])
second_answers opening = record {
  entries = record {
    own = by_one (answer_by 2 7);
    legal = ((omega arith, omega arith, inl (abandoning 7, refl, refl, refl)), tt);
    due = (tt, tt);
  };
  more = refl;
  between = record { fresh = refl; closed = λ none. refl };
}

first_answers : (opening : State) → AnswersOne two (standing_after opening two (answer_by 2 7 ∷ [])) 1 (answer_by 1 4 ∷ [])
first_answers opening = record {
  entries = record {
    own = by_one (answer_by 1 4);
    legal = ((omega arith, omega arith, inl (abandoning 4, refl, refl, refl)), tt);
    due = (tt, tt);
  };
  more = refl;
  between = record { fresh = refl; closed = λ none. refl };
}

both_finished : (opening : State) → AreFinishedBelow two (standing_after opening two (answer_by 2 7 ∷ answer_by 1 4 ∷ [])) 3
both_finished opening zero low less = absurd (omega (arith, low))
both_finished opening (suc zero) low less = refl
both_finished opening (suc (suc zero)) low less = refl
both_finished opening (suc (suc (suc n))) low less = absurd (omega (arith, less))

-- a word of client 2, and then client 1
two_in_order : (opening : State)
    → IsInOrder two (start opening two) (play_order (2 ∷ []) two) (answer_by 2 7 ∷ answer_by 1 4 ∷ [])
    × IsComplete two (standing_after opening two (answer_by 2 7 ∷ answer_by 1 4 ∷ []))
two_in_order opening =
    let word = play_takes_word opening two (2 ∷ []) [] 2 [] (answer_by 2 7 ∷ []) (play_begins opening two (2 ∷ [])) (second_answers opening) in
    let ended = play_takes_end opening two (2 ∷ []) 1 (answer_by 2 7 ∷ []) (answer_by 1 4 ∷ []) word
    (λ j low less. absurd (omega (arith, low, less))) (first_answers opening) in
    play_is_done opening two (2 ∷ []) (answer_by 2 7 ∷ answer_by 1 4 ∷ []) ended.0 (both_finished opening)

-- ---- not in order

abbrev begins_one : Line
begins_one = record { number = 5; command = Begin (Number 1) }

abbrev alone : Scripts
alone = record { mode = Numbers; lines = abandoning 4 ∷ begins_one ∷ [] } ∷ []

module _ (opening : State) (live : cause_of (start opening alone) 1 (Begin (Number 1)) ≡ None) where
  abbrev began : Entry
  began = record { client = 1; line = 5; what = Began (bases_of (opened opening (Begin (Number 1)))) }

  -- these entries are legal, and answer one line
  too_many_legal : IsLegalFrom alone (start opening alone) (answer_by 1 4 ∷ began ∷ [])
  too_many_legal = (
    (omega arith, omega arith, inl (abandoning 4, refl, refl, refl)),
    ((omega arith, omega arith, inl (begins_one, refl, refl, (tt, refl, live, refl))), tt),
  )

  too_many_due : AreDue alone (start opening alone) (answer_by 1 4 ∷ began ∷ [])
  too_many_due = (tt, (tt, tt))

  too_many_answer : answer_count (after_entries alone (start opening alone) (answer_by 1 4 ∷ began ∷ [])) 1
      ≡ answer_count (start opening alone) 1 + 1
  too_many_answer = refl

  -- and are not in the order of that line
  too_many_wrong : IsInOrder alone (start opening alone) (turn_of 1 (abandoning 4) ∷ []) (answer_by 1 4 ∷ began ∷ []) → ⊥
  too_many_wrong h =
      elim h [
        | inl a ↦ (let wrong : Some begins_one ≡ None = a.1.0.1 in cc wrong)
        | inr z ↦ (let wrong : Some (abandoning 4) ≡ None = z.0.1 in cc wrong)
      ]
