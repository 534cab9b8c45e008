-- The end of a run: its entries follow the order of play, and it is complete.
use Rattle.std.proofs.Common.{◌≡◌, ◌≢◌, ◌⊎◌, inl, inr, ℕ, suc, ◌+◌, ◌-◌, ◌<◌, ◌≤◌, List, [], ◌∷◌, ◌++◌, length, None, refl, sym, ap, ◌∙◌, subst, arith, append-nil}
use Rattle.std.specs.Prelude.{map, slice_index_or}
use Rattle.std.proofs.lemmas.Bool.{cases_eq}
use Rattle.std.proofs.lemmas.Option.{slice_get_past, slice_get_within}
use Rattle.service_model.specs.declared.journal.Entry.{Entry}
use Rattle.service_model.specs.Entries.{after_entries, after_entry, standing_after}
use Rattle.service_model.specs.Legal.{IsComplete, IsCompleteFor, IsLawful, IsLegalFrom}
use Rattle.service_model.specs.Order.{IsInOrder, Turn, play_order}
use Rattle.service_model.specs.Standing.{Scripts, Standing, Client, lines_of, newcomer, next_line, start}
use Rattle.service_model.proofs.Journals.{client_stays}
use Rattle.tree_model.specs.States.{State}
use Rattle.play_order.specs.Orders.{AreFinishedBelow, PlayInvariant, answer_count}
use Rattle.play_order.specs.OrderLaws.{FinishingBegins, FinishingGoesOn, FullIsFinished, PlayIsDone}
use Rattle.play_order.proofs.ClientEntries.{entries_length}
use Rattle.play_order.proofs.LeftLines.{end_is_reached, lines_at, start_count}
use Rattle.play_order.proofs.OneEntry.{IsStep, lawful_step}
use Rattle.play_order.proofs.WholeLines.{past_end}

-- ---- no client has more answers than lines

abbrev HasLines : Scripts → Standing → ℕ → Type 0
HasLines scripts s k = answer_count s k ≤ length (lines_of scripts k)

own_has_lines : (scripts : Scripts) (s : Standing) (e : Entry) → IsStep scripts s e.client e → HasLines scripts s e.client → HasLines scripts (after_entry scripts s e) e.client
own_has_lines scripts s e (inl a) old =
    let within = slice_get_within (lines_of scripts e.client) (answer_count s e.client) a.line a.next in
    let more = a.more in
    omega (arith, within, more)
own_has_lines scripts s e (inr (inl n)) old = (let same = ap length n.notes.answers in omega (arith, same, old))
own_has_lines scripts s e (inr (inr z)) old = (let same = ap length z.notes.answers in omega (arith, same, old))

entry_has_lines : (scripts : Scripts) (s : Standing) (e : Entry) (k : ℕ) → 1 ≤ k → IsLawful scripts s e → HasLines scripts s k → HasLines scripts (after_entry scripts s e) k
entry_has_lines scripts s e k low lawful old = by (cases_eq k e.client)
  where
    by : (k ≡ e.client) ⊎ (k ≢ e.client) → HasLines scripts (after_entry scripts s e) k
    by (inl same) =
        subst (λ n. HasLines scripts (after_entry scripts s e) n) (sym same)
        (own_has_lines scripts s e (lawful_step scripts s e lawful) (subst (λ n. HasLines scripts s n) same old))
    by (inr ne) =
        let F : Client → Type 0 = λ c. length c.answers ≤ length (lines_of scripts k) in
        subst F (sym (client_stays scripts s e k lawful.0 low ne)) old

entries_have_lines : (scripts : Scripts) (s : Standing) (es : List Entry) (k : ℕ) → 1 ≤ k → IsLegalFrom scripts s es → HasLines scripts s k
    → HasLines scripts (after_entries scripts s es) k
entries_have_lines scripts s [] k low legal old = old
entries_have_lines scripts s (e ∷ es) k low legal old =
    entries_have_lines scripts (after_entry scripts s e) es k low legal.1 (entry_has_lines scripts s e k low legal.0 old)

pub journal_has_lines : (opening : State) (scripts : Scripts) (es : List Entry) (k : ℕ) → 1 ≤ k → IsLegalFrom scripts (start opening scripts) es
    → HasLines scripts (standing_after opening scripts es) k
journal_has_lines opening scripts es k low legal =
    entries_have_lines scripts (start opening scripts) es k low legal (let none = start_count opening scripts k in omega (arith, none))

-- ---- clients that are finished

pub full_is_finished : FullIsFinished
full_is_finished scripts s k all = slice_get_past (lines_of scripts k) (answer_count s k) (omega (arith, all))

pub finishing_begins : FinishingBegins
finishing_begins scripts s j low less = absurd (omega (arith, low, less))

pub finishing_goes_on : FinishingGoesOn
finishing_goes_on scripts s k below none j low less = by (cases_eq j k)
  where
    by : (j ≡ k) ⊎ (j ≢ k) → next_line scripts s j ≡ None
    by (inl same) = ap (next_line scripts s) same ∙ none
    by (inr ne) = below j low (omega (arith, less, ne))

-- ---- complete

-- the client at a place is through
record IsThrough (scripts : Scripts) (clients : List Client) (i : ℕ) : Type 0 where
  all : length (slice_index_or clients i newcomer).answers ≡ length (lines_at scripts i)
  closed : (slice_index_or clients i newcomer).update ≡ None

complete_from : (scripts : Scripts) (clients : List Client) → length clients ≡ length scripts
    → ((i : ℕ) → i < length scripts → IsThrough scripts clients i) → IsCompleteFor scripts clients
complete_from [] [] same through = tt
complete_from [] (c ∷ clients) same through = absurd (omega (arith, same))
complete_from (script ∷ scripts) [] same through = absurd (omega (arith, same))
complete_from (script ∷ scripts) (c ∷ clients) same through = (
  (through 0 (omega arith)).all,
  (through 0 (omega arith)).closed,
  complete_from scripts clients (omega (arith, same)) (λ i low.
      let next = through (suc i) (omega (arith, low)) in record { all = next.all; closed = next.closed }),
)

module _ (opening : State) (scripts : Scripts) (words : List ℕ) (es : List Entry) (play : PlayInvariant opening scripts words [] es)
    (below : AreFinishedBelow scripts (standing_after opening scripts es) (length scripts + 1)) where
  abbrev stands : Standing
  stands = standing_after opening scripts es

  client_through : (i k : ℕ) → i ≡ k - 1 → 1 ≤ k → k ≤ length scripts → IsThrough scripts stands.clients i
  client_through i k at low high =
      let none : next_line scripts stands k ≡ None = below k low (omega (arith, high)) in
      let F : ℕ → Type 0 = λ n. IsThrough scripts stands.clients n in
      let past = past_end (lines_of scripts k) (answer_count stands k) none in
      let most = journal_has_lines opening scripts es k low play.legal in
      subst F (sym at) (record { all = omega (arith, past, most); closed = (play.between k low).closed none })

  complete : IsComplete scripts stands
  complete =
      complete_from scripts stands.clients (entries_length scripts (start opening scripts) es play.legal ∙ started scripts)
      (λ i low. client_through i (i + 1) (omega arith) (omega arith) (omega (arith, low)))
    where
      started : (all : Scripts) → length (map (λ _. newcomer) all) ≡ length all
      started [] = refl
      started (script ∷ all) = ap suc (started all)

  ordered : IsInOrder scripts (start opening scripts) (play_order words scripts) es
  ordered =
      let F : List Turn → Type 0 = λ l. IsInOrder scripts (start opening scripts) l es in
      subst F (sym (append-nil play.done) ∙ ap (λ l. play.done ++ l) (sym (end_is_reached scripts stands below)) ∙ play.order) play.in_order

pub play_is_done : PlayIsDone
play_is_done opening scripts words es play below = (ordered opening scripts words es play below, complete opening scripts words es play below)
