-- Each entry of a journal makes no more versions than its line's update has files.
use Rattle.std.proofs.Common.{◌≡◌, ◌⊎◌, inl, inr, ℕ, zero, suc, ◌+◌, ◌*◌, ◌-◌, ◌≤◌, ◌==◌, Bool, true, false, not, ◌&&◌, List, [], ◌∷◌, map, filter, length, Option, Some, None, refl, sym, ap, subst, arith, length-append}
use Rattle.std.specs.Prelude.{if◌then◌else◌, is_some, slice_index_or, slice_set}
use Rattle.std.specs.Option.{option_map_or}
use Rattle.std.proofs.lemmas.List.{length-map}
use Rattle.std.proofs.lemmas.List.Sums.{length-filter, count_by-le-length}
use Rattle.script_text.specs.declared.command.Command.{Command}
use Rattle.script_text.specs.declared.command.Command.TheVariants.{Begin, Super, Pick, Do, Commit, Abandon, Create, Destroy, Prune, Restrict}
use Rattle.script_text.specs.declared.script.Line.{Line}
use Rattle.script_text.specs.declared.script.Mode.{Mode}
use Rattle.service_model.specs.declared.journal.Entry.{Entry}
use Rattle.service_model.specs.declared.journal.What.{What}
use Rattle.service_model.specs.declared.journal.What.TheVariants.{Began, Held, Committed, Refused, GivenUp, Started, Created, Destroyed, Pruned, Answered}
use Rattle.service_model.specs.Causes.{cause_of}
use Rattle.service_model.specs.Entries.{after_end, after_entries, after_entry, after_what, answered, changed, is_answer, mode_of, names_of, news_by, news_of, noted_in, noting, opened, step_at, updated, with_step, work_on}
use Rattle.service_model.specs.Standing.{Client, Made, Scripts, Standing, Update, Work, client_of, has_writes, is_written, newcomer, next_line, renewed_works, start, top_and_written, with_client}
use Rattle.tree_model.specs.declared.step.Step.{Step}
use Rattle.tree_model.specs.States.{State}
use Rattle.ground_model.specs.Bounds.{FewAreMade, NameFew}

-- ---- lists

-- a list that is filtered is no longer
pub filter_le : {X : Type 0} (test : X → Bool) (xs : List X) → length (filter test xs) ≤ length xs
filter_le test xs = omega (arith, length-filter test xs, count_by-le-length test xs)

-- a place of a list in which one place was set
set_either : {X : Type 0} (xs : List X) (i j : ℕ) (x d : X)
    → (slice_index_or (slice_set xs i x) j d ≡ x) ⊎ (slice_index_or (slice_set xs i x) j d ≡ slice_index_or xs j d)
set_either [] i j x d = inr refl
set_either (y ∷ ys) zero zero x d = inl refl
set_either (y ∷ ys) zero (suc j) x d = inr refl
set_either (y ∷ ys) (suc i) zero x d = inr refl
set_either (y ∷ ys) (suc i) (suc j) x d = set_either ys i j x d

-- ---- what a commit makes

renewed_le : (u : Update) → length (renewed_works u) ≤ length u.works
renewed_le u = by (u.is_super && has_writes u)
  where
    top : (ws : List Work) → length (top_and_written ws) ≤ length ws
    top [] = omega arith
    top (w ∷ ws) = let rest = filter_le is_written ws in omega (arith, rest)

    by : (b : Bool) → length (if b then top_and_written u.works else filter is_written u.works) ≤ length u.works
    by true = top u.works
    by false = filter_le is_written u.works

-- ---- updates of few files

abbrev HasFew : Option Update → Type 0
HasFew update = (u : Update) → update ≡ Some u → length u.works ≤ 17

record FewIn (s : Standing) (n : ℕ) : Type 0 where
  works : (k : ℕ) → HasFew (client_of s k).update
  made : length s.made ≤ n

none_few : HasFew None
none_few u e = absurd (cc e)

one_few : (v : Update) → length v.works ≤ 17 → HasFew (Some v)
one_few v few u e =
    let F : Update → Type 0 = λ x. length x.works ≤ 17 in
    subst F (ap (λ (o : Option Update). option_map_or (λ (x : Update). x) o v) e) few

new_few : (state : State) (s : Standing) (k : ℕ) (o : Option Update) → HasFew o → length (option_map_or (news_of state) o []) ≤ 17
new_few state s k None few = omega arith
new_few state s k (Some u) few =
    let here = few u refl in
    let most = renewed_le u in
    let all = length-map (renewed_works u) (news_by state) in
    omega (arith, here, most, all)

with_few : (s : Standing) (k : ℕ) (c : Client) → ((j : ℕ) → HasFew (client_of s j).update) → HasFew c.update
    → (j : ℕ) → HasFew (client_of (with_client s k c) j).update
with_few s k c all here j =
    let F : Client → Type 0 = λ x. HasFew x.update in
    elim (set_either s.clients (k - 1) (j - 1) c newcomer) [
      | inl e ↦ subst F (sym e) here
      | inr e ↦ subst F (sym e) (all j)
    ]

-- ---- a line that is answered

step_length : (i : ℕ) (step : Step) (ws : List Work) → length (step_at i step ws) ≡ length ws
step_length i step [] = refl
step_length zero step (w ∷ ws) = refl
step_length (suc i) step (w ∷ ws) = ap suc (step_length i step ws)

updated_few : (command : Command) (o : Option Update) → HasFew o → HasFew (updated command o)
updated_few (Begin file) o few = few
updated_few (Super files) o few = few
updated_few (Pick place) None few = none_few
updated_few (Pick place) (Some v) few = one_few (record v { picked = place }) (few v refl)
updated_few (Do step) None few = none_few
updated_few (Do step) (Some v) few =
    one_few (with_step step v) (let here = few v refl in let same = step_length v.picked step v.works in omega (arith, here, same))
updated_few Commit o few = none_few
updated_few Abandon o few = few
updated_few Create o few = few
updated_few (Destroy file) o few = few
updated_few (Prune file keep) o few = few
updated_few (Restrict file mask) o few = few

answered_few : (mode : Mode) (s : Standing) (k : ℕ) (command : Command) (c : Client) → HasFew c.update
    → HasFew (answered mode s k command c).update
answered_few mode s k command c few = by (is_some (cause_of s k command))
  where
    by : (b : Bool) → HasFew (if b then c.update else updated command c.update)
    by true = few
    by false = updated_few command c.update few

-- ---- one entry

opened_few : (state : State) (command : Command) → length (names_of command) ≤ 17 → HasFew (Some (opened state command))
opened_few state command few =
    one_few (opened state command) (let all = length-map (names_of command) (work_on state) in omega (arith, few, all))

more : {s : Standing} {n : ℕ} → FewIn s n → length s.made ≤ n + 17
more h = let made = h.made in omega (arith, made)

changed_few : (mode : Mode) (s : Standing) (k : ℕ) (command : Command) (what : What) (n : ℕ) → length (names_of command) ≤ 17 → FewIn s n
    → FewIn (changed mode s k command what) (n + 17)
changed_few mode s k command (Began bases) n few h =
    record { works = with_few s k _ h.works (opened_few s.state command few); made = more h }
changed_few mode s k command (Held blocks) n few h = record { works = with_few s k _ h.works (h.works k); made = more h }
changed_few mode s k command (Committed made at) n few h = record {
  works = with_few s k _ h.works (h.works k);
  made =
      let was = h.made in
      let new = new_few s.state s k (client_of s k).update (h.works k) in
      let both = length-append s.made (option_map_or (news_of s.state) (client_of s k).update []) in
      omega (arith, was, new, both);
}
changed_few mode s k command (Refused why) n few h = record { works = with_few s k _ h.works none_few; made = more h }
changed_few mode s k command GivenUp n few h = record { works = with_few s k _ h.works none_few; made = more h }
changed_few mode s k command Started n few h = record { works = h.works; made = more h }
changed_few mode s k command (Created object at) n few h = record { works = with_few s k _ h.works (h.works k); made = more h }
changed_few mode s k command (Destroyed object blocks at) n few h = record {
  works = h.works;
  made =
      let was = h.made in
      let less = filter_le (λ (m : Made). not (m.object == object)) s.made in
      omega (arith, was, less);
}
changed_few mode s k command (Pruned object first blocks at) n few h = record { works = h.works; made = more h }
changed_few mode s k command Answered n few h =
    record { works = with_few s k _ h.works (answered_few mode s k command (client_of s k) (h.works k)); made = more h }

noted_few : (s : Standing) (k : ℕ) (what : What) (n : ℕ) → FewIn s n → FewIn (noted_in s k what) n
noted_few s k what n h = by (is_answer what)
  where
    by : (b : Bool) → FewIn (if b then s else with_client s k (noting what (client_of s k))) n
    by true = h
    by false = record { works = with_few s k _ h.works (h.works k); made = h.made }

entry_few : (scripts : Scripts) (s : Standing) (e : Entry) (n : ℕ) → NameFew scripts → FewIn s n → FewIn (after_entry scripts s e) (n + 17)
entry_few scripts s e n names h = by (next_line scripts s e.client) refl
  where
    by : (o : Option Line) → next_line scripts s e.client ≡ o
        → FewIn (option_map_or (λ (line : Line). after_what (mode_of scripts e.client) s e.client line.command e.what) o (after_end s e.client)) (n + 17)
    by None is = record { works = with_few s e.client _ h.works none_few; made = more h }
    by (Some line) is =
        let noted = noted_few _ e.client e.what (n + 17)
        (changed_few (mode_of scripts e.client) s e.client line.command e.what n
        (names e.client (length (client_of s e.client).answers) line is) h) in
        record { works = noted.works; made = noted.made }

-- ---- all entries

entries_few : (scripts : Scripts) (s : Standing) (es : List Entry) (n : ℕ) → NameFew scripts → FewIn s n
    → length (after_entries scripts s es).made ≤ n + 17 * length es
entries_few scripts s [] n names h = let made = h.made in omega (arith, made)
entries_few scripts s (e ∷ es) n names h =
    let rest = entries_few scripts (after_entry scripts s e) es (n + 17) names (entry_few scripts s e n names h) in
    omega (arith, rest)

start_few : (opening : State) (scripts : Scripts) → FewIn (start opening scripts) 0
start_few opening scripts = record {
  works = λ k.
      let F : Client → Type 0 = λ x. HasFew x.update in
      subst F (sym (new scripts (k - 1))) none_few;
  made = omega arith;
}
  where
    new : {X : Type 0} (xs : List X) (i : ℕ) → slice_index_or (map (λ _. newcomer) xs) i newcomer ≡ newcomer
    new [] i = refl
    new (x ∷ xs) zero = refl
    new (x ∷ xs) (suc i) = new xs i

pub few_are_made : FewAreMade
few_are_made opening scripts es names =
    let few = entries_few scripts (start opening scripts) es 0 names (start_few opening scripts) in
    omega (arith, few)
