-- What entries of one client come to: how many answers it has, and what is noted of its line.
use Rattle.std.proofs.Common.{◌≡◌, ◌≢◌, inl, inr, ℕ, zero, suc, ◌+◌, ◌≤◌, cond, List, [], ◌∷◌, ◌++◌, length, Some, None, refl, sym, ap, ◌∙◌, arith, append_assoc, append-nil}
use Rattle.std.specs.Prelude.{slice_get}
use Rattle.std.proofs.lemmas.List.Sums.{sum_by-cons}
use Rattle.service_model.specs.declared.journal.Entry.{Entry}
use Rattle.service_model.specs.declared.journal.What.{What}
use Rattle.service_model.specs.declared.journal.What.TheVariants.{Answered}
use Rattle.service_model.specs.Entries.{after_entries, after_entry, is_answer}
use Rattle.service_model.specs.Legal.{IsLegalFrom}
use Rattle.service_model.specs.Standing.{Scripts, Standing, client_of}
use Rattle.service_model.proofs.Journals.{client_stays, legal_append}
use Rattle.play_order.specs.Orders.{AreBy, answer_count, answers_in}
use Rattle.play_order.specs.OrderLaws.{AnswersAreCounted, DueAppends, NoneAreOfClient, OfClientAppends, OthersAreLeft, UnansweredIsWithin, WithinIsUnanswered}
use Rattle.play_order.proofs.OneEntry.{IsStep, entry_length, step_of}

-- ---- lists of entries

pub by_head : (k : ℕ) (e : Entry) (es : List Entry) → AreBy k (e ∷ es) → e.client ≡ k
by_head k e es own = own 0 e refl

pub by_rest : (k : ℕ) (e : Entry) (es : List Entry) → AreBy k (e ∷ es) → AreBy k es
by_rest k e es own = λ n x is. own (suc n) x is

by_cons : (k : ℕ) (e : Entry) (es : List Entry) → ((x : Entry) → Some e ≡ Some x → x.client ≡ k) → AreBy k es → AreBy k (e ∷ es)
by_cons k e es head rest zero x is = head x is
by_cons k e es head rest (suc n) x is = rest n x is

pub by_append : (k : ℕ) (es fs : List Entry) → AreBy k es → AreBy k fs → AreBy k (es ++ fs)
by_append k [] fs own more = more
by_append k (e ∷ es) fs own more = by_cons k e (es ++ fs) (own 0) (by_append k es fs (by_rest k e es own) more)

pub due_appends : DueAppends
due_appends scripts s [] fs due more = more
due_appends scripts s (e ∷ es) fs due more = (due.0, due_appends scripts (after_entry scripts s e) es fs due.1 more)

pub none_are_of_client : NoneAreOfClient
none_are_of_client scripts s k = record { own = λ n x is. (let no : None ≡ Some x = is in absurd (cc no)); legal = tt; due = tt }

pub of_client_appends : OfClientAppends
of_client_appends scripts s k es fs one two = record {
  own = by_append k es fs one.own two.own;
  legal = legal_append scripts s es fs one.legal two.legal;
  due = due_appends scripts s es fs one.due two.due;
}

-- what an entry adds to the answers
abbrev pub added : What → ℕ
added what = cond (is_answer what) 1 0

pub answers_cons : (e : Entry) (es : List Entry) → answers_in (e ∷ es) ≡ added e.what + answers_in es
answers_cons e es = sum_by-cons (λ (x : Entry). added x.what) e es

-- ---- how many are answered

step_count : (scripts : Scripts) (s : Standing) (k : ℕ) (e : Entry) → IsStep scripts s k e
    → answer_count (after_entry scripts s e) k ≡ answer_count s k + added e.what
step_count scripts s k e (inl a) = a.more ∙ ap (λ w. answer_count s k + added w) (sym a.is)
step_count scripts s k e (inr (inl n)) =
    let same : answer_count (after_entry scripts s e) k ≡ answer_count s k = ap length n.notes.answers in
    let none : added e.what ≡ 0 = ap (λ b. cond b 1 0) n.plain in
    omega arith
step_count scripts s k e (inr (inr z)) =
    let same : answer_count (after_entry scripts s e) k ≡ answer_count s k = ap length z.notes.answers in
    let none : added e.what ≡ 0 = ap added z.at_end.4 in
    omega arith

pub answers_are_counted : AnswersAreCounted
answers_are_counted scripts s k [] own legal = omega arith
answers_are_counted scripts s k (e ∷ es) own legal =
    let here = step_count scripts s k e (step_of scripts s k e (by_head k e es own) legal.0) in
    let rest = answers_are_counted scripts (after_entry scripts s e) k es (by_rest k e es own) legal.1 in
    let all = answers_cons e es in
    omega arith

pub more_or_same : (scripts : Scripts) (s : Standing) (k : ℕ) (es : List Entry) → AreBy k es → IsLegalFrom scripts s es
    → answer_count s k ≤ answer_count (after_entries scripts s es) k
more_or_same scripts s k es own legal =
    let all = answers_are_counted scripts s k es own legal in
    omega arith

none_answers : (es : List Entry) → answers_in es ≡ 0 → (n : ℕ) (e : Entry) → slice_get es n ≡ Some e → e.what ≢ Answered
none_answers [] none n e is = (let no : None ≡ Some e = is in absurd (cc no))
none_answers (x ∷ es) none zero e is = λ h.
    let all = answers_cons x es in
    let same : x ≡ e = cc is in
    let one : added x.what ≡ 1 = ap (λ (y : Entry). added y.what) same ∙ ap added h in
    omega arith
none_answers (x ∷ es) none (suc n) e is = none_answers es (let all = answers_cons x es in omega arith) n e is

pub within_is_unanswered : WithinIsUnanswered
within_is_unanswered scripts s k es own legal same =
    none_answers es (let all = answers_are_counted scripts s k es own legal in omega arith)

no_answer : (what : What) → what ≢ Answered → added what ≡ 0
no_answer Answered ne = absurd (ne refl)
no_answer _ ne = refl

none_in : (es : List Entry) → ((n : ℕ) (e : Entry) → slice_get es n ≡ Some e → e.what ≢ Answered) → answers_in es ≡ 0
none_in [] none = omega arith
none_in (e ∷ es) none =
    let here = no_answer e.what (none 0 e refl) in
    let rest = none_in es (λ n x is. none (suc n) x is) in
    let all = answers_cons e es in
    omega arith

pub unanswered_is_within : UnansweredIsWithin
unanswered_is_within scripts s k es own legal none =
    let all = answers_are_counted scripts s k es own legal in
    let zero_in = none_in es none in
    omega arith

-- ---- other clients

pub others_are_left : OthersAreLeft
others_are_left scripts s k j [] own legal low ne = refl
others_are_left scripts s k j (e ∷ es) own legal low ne =
    others_are_left scripts (after_entry scripts s e) k j es (by_rest k e es own) legal.1 low ne
    ∙ client_stays scripts s e j legal.0.0 low (λ same. ne (same ∙ by_head k e es own))

pub entries_length : (scripts : Scripts) (s : Standing) (es : List Entry) → IsLegalFrom scripts s es
    → length (after_entries scripts s es).clients ≡ length s.clients
entries_length scripts s [] legal = refl
entries_length scripts s (e ∷ es) legal = entries_length scripts (after_entry scripts s e) es legal.1 ∙ entry_length scripts s e legal.0

-- ---- what is noted

-- where no line is answered, more is noted or nothing changes
pub only_more : (scripts : Scripts) (s : Standing) (k : ℕ) (es : List Entry) → AreBy k es → IsLegalFrom scripts s es
    → answer_count (after_entries scripts s es) k ≡ answer_count s k
    → (more : List What) × ((client_of (after_entries scripts s es) k).noted ≡ (client_of s k).noted ++ more)
only_more scripts s k [] own legal same = ([], sym (append-nil (client_of s k).noted))
only_more scripts s k (e ∷ es) own legal same =
    let t : Standing = after_entry scripts s e in
    let rest : AreBy k es = by_rest k e es own in
    elim (step_of scripts s k e (by_head k e es own) legal.0) [
      | inl a ↦ (let more = more_or_same scripts t k es rest legal.1 in let one = a.more in absurd (omega (arith, more, one, same)))
      | inr (inl n) ↦ (let ih = only_more scripts t k es rest legal.1 (same ∙ sym (ap length n.notes.answers)) in
          (e.what ∷ ih.0, ih.1 ∙ ap (λ l. l ++ ih.0) n.notes.noted ∙ append_assoc (client_of s k).noted (e.what ∷ []) ih.0))
      | inr (inr z) ↦ (let ih = only_more scripts t k es rest legal.1 (same ∙ sym (ap length z.notes.answers)) in
          (ih.0, ih.1 ∙ ap (λ l. l ++ ih.0) z.notes.noted))
    ]
