-- A run through the order of play: how it begins, and how it goes on.
use Rattle.std.proofs.Common.{◌≡◌, ◌≢◌, ◌⊎◌, inl, inr, ℕ, ◌≤◌, List, [], ◌∷◌, ◌++◌, length, Some, refl, sym, ap, ◌∙◌, subst, arith, append_assoc}
use Rattle.std.specs.Prelude.{slice_get}
use Rattle.std.proofs.lemmas.Bool.{cases_eq}
use Rattle.script_text.specs.declared.script.Line.{Line}
use Rattle.service_model.specs.declared.journal.Entry.{Entry}
use Rattle.service_model.specs.Entries.{after_entries, standing_after}
use Rattle.service_model.specs.Order.{order_from}
use Rattle.service_model.specs.Standing.{Scripts, Standing, Client, client_of, lines_of, next_line, start}
use Rattle.service_model.proofs.Journals.{after_append, legal_append}
use Rattle.tree_model.specs.States.{State}
use Rattle.play_order.specs.Orders.{AnswersOne, AreFinishedBelow, IsBetween, PlayInvariant, left_of, turn_of}
use Rattle.play_order.specs.OrderLaws.{PlayBegins, PlayPassesWord, PlayTakesEnd, PlayTakesWord}
use Rattle.play_order.proofs.ClientEntries.{others_are_left}
use Rattle.play_order.proofs.LeftLines.{end_takes_line, start_client, start_leaves_all, word_is_passed, word_takes_line}
use Rattle.play_order.proofs.OrderAppends.{order_appends}
use Rattle.play_order.proofs.WholeLines.{one_is_in_order, one_is_more, one_is_there}

-- ---- it begins

pub play_begins : PlayBegins
play_begins opening scripts words = record {
  legal = tt;
  done = [];
  in_order = refl;
  order = ap (order_from words) (start_leaves_all opening scripts);
  between = λ k low. record {
    fresh = ap (λ (c : Client). c.noted) (start_client opening scripts k);
    closed = λ none. ap (λ (c : Client). c.update) (start_client opening scripts k);
  };
}

-- ---- it goes on

module _ (opening : State) (scripts : Scripts) (words : List ℕ) (k : ℕ) (es fs : List Entry) where
  abbrev stands : Standing
  stands = standing_after opening scripts es

  abbrev then_stands : Standing
  then_stands = after_entries scripts stands fs

  leads : standing_after opening scripts (es ++ fs) ≡ then_stands
  leads = after_append scripts (start opening scripts) es fs

  -- each client is between two lines
  still_between : AnswersOne scripts stands k fs → ((j : ℕ) → 1 ≤ j → IsBetween scripts stands j) → (j : ℕ) → 1 ≤ j → IsBetween scripts then_stands j
  still_between one old j low = by (cases_eq j k)
    where
      by : (j ≡ k) ⊎ (j ≢ k) → IsBetween scripts then_stands j
      by (inl same) = subst (λ n. IsBetween scripts then_stands n) (sym same) one.between
      by (inr ne) =
          let is : client_of then_stands j ≡ client_of stands j
          = others_are_left scripts stands k j fs one.entries.own one.entries.legal low ne in
          record {
            fresh = ap (λ (c : Client). c.noted) is ∙ (old j low).fresh;
            closed = λ none. ap (λ (c : Client). c.update) is
                ∙ (old j low).closed (ap (λ (c : Client). slice_get (lines_of scripts j) (length c.answers)) (sym is) ∙ none);
          }

  -- a line more is done
  takes : (rest more : List ℕ) (line : Line) → PlayInvariant opening scripts words rest es → AnswersOne scripts stands k fs
      → next_line scripts stands k ≡ Some line
      → order_from rest (left_of scripts stands) ≡ turn_of k line ∷ order_from more (left_of scripts then_stands)
      → PlayInvariant opening scripts words more (es ++ fs)
  takes rest more line play one next order = record {
    legal = legal_append scripts (start opening scripts) es fs play.legal one.entries.legal;
    done = play.done ++ turn_of k line ∷ [];
    in_order = order_appends scripts (start opening scripts) play.done (turn_of k line ∷ []) es fs play.in_order
        (one_is_in_order scripts stands k line fs next one);
    order =
        append_assoc play.done (turn_of k line ∷ []) (order_from more (left_of scripts (standing_after opening scripts (es ++ fs))))
        ∙ ap (λ t. play.done ++ turn_of k line ∷ order_from more (left_of scripts t)) leads
        ∙ ap (λ l. play.done ++ l) (sym order) ∙ play.order;
    between = λ j low.
        let F : Standing → Type 0 = λ t. IsBetween scripts t j in
        subst F (sym leads) (still_between one play.between j low);
  }

pub play_takes_word : PlayTakesWord
play_takes_word opening scripts words rest k es fs play one =
    let there = one_is_there scripts (standing_after opening scripts es) k fs one in
    takes opening scripts words k es fs (k ∷ rest) rest there.0 play one there.1
    (word_takes_line scripts (standing_after opening scripts es) (after_entries scripts (standing_after opening scripts es) fs) k rest there.0 there.1
    (one_is_more scripts (standing_after opening scripts es) k fs one))

pub play_passes_word : PlayPassesWord
play_passes_word opening scripts words rest k es play low none = record {
  legal = play.legal;
  done = play.done;
  in_order = play.in_order;
  order =
      ap (λ l. play.done ++ l) (sym (word_is_passed scripts (standing_after opening scripts es) k rest low none)) ∙ play.order;
  between = play.between;
}

still_finished : (opening : State) (scripts : Scripts) (k : ℕ) (es fs : List Entry) → AreFinishedBelow scripts (standing_after opening scripts es) k
    → AnswersOne scripts (standing_after opening scripts es) k fs → AreFinishedBelow scripts (standing_after opening scripts (es ++ fs)) k
still_finished opening scripts k es fs below one j low less =
    let is : client_of (after_entries scripts (standing_after opening scripts es) fs) j ≡ client_of (standing_after opening scripts es) j
    = others_are_left scripts (standing_after opening scripts es) k j fs one.entries.own one.entries.legal low (omega (arith, less)) in
    ap (λ t. next_line scripts t j) (after_append scripts (start opening scripts) es fs)
    ∙ ap (λ (c : Client). slice_get (lines_of scripts j) (length c.answers)) is ∙ below j low less

pub play_takes_end : PlayTakesEnd
play_takes_end opening scripts words k es fs play below one =
    let there = one_is_there scripts (standing_after opening scripts es) k fs one in (
      takes opening scripts words k es fs [] [] there.0 play one there.1
          (end_takes_line scripts (standing_after opening scripts es) (after_entries scripts (standing_after opening scripts es) fs) k there.0 below there.1
          (one_is_more scripts (standing_after opening scripts es) k fs one)),
      still_finished opening scripts k es fs below one,
    )
