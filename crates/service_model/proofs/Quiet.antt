-- What stands stays sound where blocks are taken, a commit is refused, or an update is given up.
use Rattle.std.proofs.Common.{◌≡◌, ◌⊎◌, inl, inr, ℕ, ◌-◌, ◌≤◌, true, false, List, [], ◌∷◌, ◌++◌, length, Some, None, refl, sym, ap, ◌∙◌}
use Rattle.std.specs.Prelude.{slice_get, slice_set}
use Rattle.std.specs.List.{list_any}
use Rattle.script_text.specs.declared.script.Line.{Line}
use Rattle.script_text.specs.declared.script.Mode.{Mode}
use Rattle.service_model.specs.declared.journal.Refusal.{Refusal}
use Rattle.service_model.specs.declared.journal.What.{What}
use Rattle.service_model.specs.declared.journal.What.TheVariants.{Held, Refused, GivenUp, Started}
use Rattle.service_model.specs.Standing.{Scripts, Standing, Client, Update, client_of, with_client, lines_of, next_line}
use Rattle.service_model.specs.Entries.{after_what, after_end, noting, without_update}
use Rattle.service_model.specs.Sound.{IsSound, IsOpenAt, is_holding, is_committing, is_starting}
use Rattle.service_model.proofs.Entering.{IsQuietClient, client_in, noted_clients, other_more, none_before, noted_line, same_upkeep, same_update, quiet_step}

module _ (scripts : Scripts) (s : Standing) (k : ℕ) (own : Line) (a : 1 ≤ k) (b : k ≤ length s.clients) (sound : IsSound scripts s)
    (next : next_line scripts s k ≡ Some own) where
  -- an entry of its line leaves client k's update, or ends it
  noting_keeps : (c : Client) (what : What) → c.noted ≡ (client_of s k).noted → c.answers ≡ (client_of s k).answers
      → ((u : Update) → c.update ≡ Some u → IsOpenAt s k u) → (is_holding (c.noted ++ what ∷ []) ≡ false → c.held ≡ 0)
      → is_starting what ≡ false → is_committing what ≡ false
      → IsSound scripts (record (with_client (with_client s k c) k (noting what (client_of (with_client s k c) k))) { latest = k })
  noting_keeps c what noted answers open_is held plain other =
      let l : List Client = slice_set (slice_set s.clients (k - 1) c) (k - 1) (noting what (client_of (with_client s k c) k)) in
      let t : Standing = record s { clients = l; upkeep = s.upkeep; latest = k } in
      let clients : l ≡ slice_set s.clients (k - 1) (noting what c) = noted_clients s k c what a b in
      let quiet : IsQuietClient s k (noting what c) = record {
        update = λ u e. same_update s k u (open_is u e);
        uncommitted = λ u e none. ap (list_any is_committing) (sym noted) ∙ none_before is_committing c.noted what none;
        held = held;
      } in
      quiet_step scripts s k (noting what c) a b sound quiet l s.upkeep clients
      (same_upkeep scripts s k (noting what c) a b sound (other_more is_starting c.noted what plain ∙ ap (list_any is_starting) noted))
      (noted_line scripts s t k (noting what c) what own next (client_in s t k (noting what c) clients a b)
      (ap (λ n. n ++ what ∷ []) noted) answers plain (λ e. (let no : true ≡ false = sym e ∙ other in absurd (cc no)))
      (sound.lines k own a next))

  -- blocks are taken only in a line that is not decided
  taken : (blocks : ℕ) (noted : List What) → (noted ≡ []) ⊎ (noted ≡ Started ∷ []) → is_holding (noted ++ Held blocks ∷ []) ≡ true
  taken blocks noted (inl e) = ap (λ l. is_holding (l ++ Held blocks ∷ [])) e
  taken blocks noted (inr e) = ap (λ l. is_holding (l ++ Held blocks ∷ [])) e

  pub held_keeps : (mode : Mode) (blocks : ℕ) → ((client_of s k).noted ≡ []) ⊎ ((client_of s k).noted ≡ Started ∷ [])
      → IsSound scripts (after_what mode s k own.command (Held blocks))
  held_keeps mode blocks noted =
      noting_keeps (record (client_of s k) { held = blocks }) (Held blocks) refl refl (λ u e. e)
      (λ e. (let no : true ≡ false = sym (taken blocks (client_of s k).noted noted) ∙ e in absurd (cc no))) refl refl

  pub refused_keeps : (mode : Mode) (why : Refusal) → IsSound scripts (after_what mode s k own.command (Refused why))
  refused_keeps mode why =
      noting_keeps (without_update (client_of s k)) (Refused why) refl refl
      (λ u e. (let no : Some u ≡ None = sym e in absurd (cc no))) (λ e. refl) refl refl

  pub given_up_keeps : (mode : Mode) → IsSound scripts (after_what mode s k own.command GivenUp)
  given_up_keeps mode =
      noting_keeps (without_update (client_of s k)) GivenUp refl refl
      (λ u e. (let no : Some u ≡ None = sym e in absurd (cc no))) (λ e. refl) refl refl

-- what stands stays sound where the update that is open at a script's end is given up
pub end_keeps : (scripts : Scripts) (s : Standing) (k : ℕ) → 1 ≤ k → k ≤ length s.clients → IsSound scripts s
    → next_line scripts s k ≡ None → IsSound scripts (after_end s k)
end_keeps scripts s k a b sound next =
    let c : Client = without_update (client_of s k) in
    let t : Standing = record s { clients = slice_set s.clients (k - 1) c; upkeep = s.upkeep; latest = k } in
    let quiet : IsQuietClient s k c = record {
      update = λ u e. (let no : Some u ≡ None = sym e in absurd (cc no));
      uncommitted = λ u e none. none;
      held = λ e. refl;
    } in
    quiet_step scripts s k c a b sound quiet (slice_set s.clients (k - 1) c) s.upkeep refl
    (same_upkeep scripts s k c a b sound refl)
    (λ line after. (let no : Some line ≡ None = sym after ∙ still in absurd (cc no)))
  where
    still : next_line scripts (after_end s k) k ≡ None
    still =
        ap (λ (x : Client). slice_get (lines_of scripts k) (length x.answers))
        (client_in s (after_end s k) k (without_update (client_of s k)) refl a b) ∙ next
