-- No commit changes whether an object is live, or its seal.
use Rattle.std.proofs.Common.{◌≡◌, ◌≢◌, ◌⊎◌, inl, inr, ℕ, suc, true, false, cond, nat_lt, List, [], ◌∷◌, ◌++◌, length, map, Option, Some, None, refl, sym, ap, ◌∙◌, subst, arith}
use Rattle.std.specs.Prelude.{option_to_list}
use Rattle.std.specs.List.{list_all}
use Rattle.std.specs.Cmp.{first_so, second_so}
use Rattle.std.specs.Option.{option_and_then, option_map_or}
use Rattle.std.proofs.lemmas.Bool.{cases_eq, lt-ltb}
use Rattle.caps.specs.Grant.{SealValue}
use Rattle.script_text.specs.declared.command.Command.{Command}
use Rattle.script_text.specs.declared.script.Line.{Line}
use Rattle.script_text.specs.declared.script.Mode.{Mode}
use Rattle.service_model.specs.declared.journal.Entry.{Entry}
use Rattle.service_model.specs.declared.journal.What.{What}
use Rattle.service_model.specs.declared.journal.What.TheVariants.{Answered, Began, Committed, Created, Destroyed, GivenUp, Held, Pruned, Refused, Started}
use Rattle.service_model.specs.Entries.{after_end, after_entries, after_entry, after_what, committed_in, mode_of, next_version, on_file, with_file, with_next}
use Rattle.service_model.specs.Standing.{Scripts, Standing, Work, client_of, next_line, renewed_works, seal_in, seal_of, start}
use Rattle.service_model.proofs.Files.{here_file, other_file}
use Rattle.service_model.proofs.Journals.{after_append}
use Rattle.tree_model.specs.States.{State, File, Version, file_of, last_of}
use Rattle.tree_model.specs.declared.step.Step.{Step}
use Rattle.ground_model.specs.Tables.{SealsStay, TableGoesOn, is_keeping, keeps_files}

-- a file with one version more is live where it was
seal_next : (steps : List Step) (file : File) → seal_of (with_next steps file) ≡ seal_of file
seal_next steps file = ap (λ b. cond b (Some seal) None) (live file.versions)
  where
    seal : SealValue
    seal = record { secret = file.secret; generation = file.generation }

    live : (versions : List Version) → nat_lt 0 (length (versions ++ map (next_version steps) (option_to_list (last_of versions)))) ≡ nat_lt 0 (length versions)
    live [] = refl
    live (v ∷ vs) =
        lt-ltb 0 (suc (length (vs ++ map (next_version steps) (option_to_list (last_of (v ∷ vs)))))) (omega arith)
        ∙ sym (lt-ltb 0 (suc (length vs)) (omega arith))

seal_on : (state : State) (object : ℕ) (steps : List Step) (other : ℕ) → seal_in (on_file state object (with_next steps)) other ≡ seal_in state other
seal_on state object steps other = by (cases_eq other object)
  where
    here : (o : Option File) → file_of state object ≡ o → seal_in (on_file state object (with_next steps)) object ≡ seal_in state object
    here None e = ap (λ (x : Option File). seal_in (option_map_or (λ file. with_file state object (with_next steps file)) x state) object) e
    here (Some file) e =
        ap (option_and_then seal_of) (here_file state object (with_next steps) file e) ∙ seal_next steps file ∙ sym (ap (option_and_then seal_of) e)

    by : (other ≡ object) ⊎ (other ≢ object) → seal_in (on_file state object (with_next steps)) other ≡ seal_in state other
    by (inl e) = subst (λ n. seal_in (on_file state object (with_next steps)) n ≡ seal_in state n) (sym e) (here (file_of state object) refl)
    by (inr ne) = ap (option_and_then seal_of) (other_file state object (with_next steps) other ne)

seals_committed : (state : State) (works : List Work) (object : ℕ) → seal_in (committed_in state works) object ≡ seal_in state object
seals_committed state [] object = refl
seals_committed state (w ∷ works) object =
    seals_committed (on_file state w.object (with_next w.steps)) works object ∙ seal_on state w.object w.steps object

after_one : (mode : Mode) (s : Standing) (k : ℕ) (command : Command) (what : What) → is_keeping what ≡ true → (object : ℕ)
    → seal_in (after_what mode s k command what).state object ≡ seal_in s.state object
after_one mode s k command (Began bases) keeps object = refl
after_one mode s k command (Held blocks) keeps object = refl
after_one mode s k command (Committed made at) keeps object = seals_committed s.state (option_map_or renewed_works (client_of s k).update []) object
after_one mode s k command (Refused why) keeps object = refl
after_one mode s k command GivenUp keeps object = refl
after_one mode s k command Started keeps object = refl
after_one mode s k command (Created made at) keeps object = absurd (let no : false ≡ true = keeps in cc)
after_one mode s k command (Destroyed gone blocks at) keeps object = absurd (let no : false ≡ true = keeps in cc)
after_one mode s k command (Pruned kept first blocks at) keeps object = absurd (let no : false ≡ true = keeps in cc)
after_one mode s k command Answered keeps object = refl

seal_after : (scripts : Scripts) (s : Standing) (e : Entry) → keeps_files e ≡ true → (object : ℕ) → seal_in (after_entry scripts s e).state object ≡ seal_in s.state object
seal_after scripts s e keeps object = by (next_line scripts s e.client)
  where
    by : (o : Option Line) → seal_in (option_map_or (λ (line : Line). after_what (mode_of scripts e.client) s e.client line.command e.what) o (after_end s e.client)).state object ≡ seal_in s.state object
    by None = refl
    by (Some line) = after_one (mode_of scripts e.client) s e.client line.command e.what keeps object

pub seals_stay : SealsStay
seals_stay scripts s [] keeps object = refl
seals_stay scripts s (e ∷ es) keeps object =
    seals_stay scripts (after_entry scripts s e) es (second_so (keeps_files e) (list_all keeps_files es) keeps) object
    ∙ seal_after scripts s e (first_so (keeps_files e) (list_all keeps_files es) keeps) object

pub table_goes_on : TableGoesOn
table_goes_on opening scripts es fs old new table before after keeps has object =
    let here : after_entries scripts old fs ≡ new =
    ap (λ (x : Standing). after_entries scripts x fs) (sym before.leads) ∙ sym (after_append scripts (start opening scripts) es fs) ∙ after.leads in
    has object ∙ sym (seals_stay scripts old fs keeps object) ∙ ap (λ (x : Standing). seal_in x.state object) here
