-- The turn of the link of a commit of one file.
use Rattle.std.proofs.Common.{◌≡◌, inr, ℕ, ◌+◌, ◌≤◌, ◌&&◌, Bool, true, false, cond, nat_eq, nat_le, List, [], ◌∷◌, Option, Some, None, is_some, refl, ap, ◌∙◌, subst, arith, eq-eqb, leb-true}
use Rattle.std.specs.Prelude.{count_by}
use Rattle.std.specs.List.{list_all}
use Rattle.std.specs.Option.{option_map_or}
use Rattle.pair_store.specs.declared.store.Blocks.{Ghosts}
use Rattle.script_text.specs.declared.command.Command.{Command}
use Rattle.script_text.specs.declared.script.Line.{Line}
use Rattle.script_text.specs.declared.script.Mode.{Mode}
use Rattle.service_model.specs.declared.journal.Entry.{Entry}
use Rattle.service_model.specs.declared.journal.What.{What}
use Rattle.service_model.specs.declared.journal.What.TheVariants.{Began, Held, Committed, Refused, GivenUp, Started, Created, Destroyed, Pruned, Answered}
use Rattle.service_model.specs.Entries.{after_what, after_end, after_entry, after_entries, mode_of}
use Rattle.service_model.specs.Legal.{moment_of}
use Rattle.service_model.specs.Sound.{IsSound}
use Rattle.service_model.specs.Standing.{Scripts, Standing, next_line, start}
use Rattle.service_model.proofs.Keeps.{journal_sound}
use Rattle.store_changes.specs.Writes.{Content}
use Rattle.ground_model.specs.Commits.{IsLinkedTo, commit_entry}
use Rattle.ground_model.specs.Fronts.{AreOfTurn, is_by, is_change}
use Rattle.ground_model.specs.Turns.{LinkTurnStands}
use Rattle.ground_model.proofs.Committing.{commit_links}
use Rattle.ground_model.proofs.Shows.{root_within}
use Rattle.ground_model.proofs.Turning.{turn_stands}

-- ---- moments

-- an entry that carries no later moment leaves none
what_moment : (mode : Mode) (s : Standing) (k : ℕ) (command : Command) (what : What) (n : ℕ) → s.moment ≤ n → option_map_or (λ at. nat_le at n) (moment_of what) true ≡ true
    → (after_what mode s k command what).moment ≤ n
what_moment mode s k command (Began bases) n low is = low
what_moment mode s k command (Held blocks) n low is = low
what_moment mode s k command (Committed made at) n low is = leb-true at n is
what_moment mode s k command (Refused why) n low is = low
what_moment mode s k command GivenUp n low is = low
what_moment mode s k command Started n low is = low
what_moment mode s k command (Created object at) n low is = leb-true at n is
what_moment mode s k command (Destroyed object blocks at) n low is = leb-true at n is
what_moment mode s k command (Pruned object first blocks at) n low is = leb-true at n is
what_moment mode s k command Answered n low is = low

entry_moment : (scripts : Scripts) (s : Standing) (e : Entry) (n : ℕ) → s.moment ≤ n → is_by n e ≡ true → (after_entry scripts s e).moment ≤ n
entry_moment scripts s e n low is = by (next_line scripts s e.client)
  where
    by : (o : Option Line) → (option_map_or (λ (line : Line). after_what (mode_of scripts e.client) s e.client line.command e.what) o (after_end s e.client)).moment ≤ n
    by None = low
    by (Some line) = what_moment (mode_of scripts e.client) s e.client line.command e.what n low is

both : (a b : Bool) → (a && b) ≡ true → (a ≡ true) × (b ≡ true)
both true b h = (refl, h)
both false b h = absurd cc

pub moments_by : (scripts : Scripts) (s : Standing) (es : List Entry) (n : ℕ) → s.moment ≤ n → list_all (is_by n) es ≡ true → (after_entries scripts s es).moment ≤ n
moments_by scripts s [] n low h = low
moments_by scripts s (e ∷ es) n low h =
    let all = both (is_by n e) (list_all (is_by n) es) h in
    moments_by scripts (after_entry scripts s e) es n (entry_moment scripts s e n low all.0) all.1

-- an entry at this moment is all that a turn noted
pub one_entry : (now : ℕ) (e : Entry) → moment_of e.what ≡ Some now → AreOfTurn now (e ∷ [])
one_entry now e is = record {
  moments = ap (λ o. option_map_or (λ at. nat_eq at now) o true && true) is ∙ ap (λ b. b && true) (eq-eqb now now refl);
  one = (let n : count_by is_change (e ∷ []) ≡ 1 = ap (λ o. 0 + cond (is_some o) 1 0) is in omega (arith, n));
}

-- ---- the turn

pub link_turn_stands : {D : Type 0} (b : Ghosts D) → ((s : D) (n : ℕ) (f : Content) → b.settled_always s n → b.may_leave s (b.moment s) f → f n ≡ b.content s n) → LinkTurnStands b
link_turn_stands b settled_left opening scripts first k scene before after es line u w states st turn =
    let sound : IsSound scripts scene.standing = journal_sound opening scripts es scene.standing st.fitting.fit st.sayable st.reaches in
    let early : scene.standing.moment ≤ b.moment before =
    subst (λ (s : Standing). s.moment ≤ b.moment before) st.reaches.leads (moments_by scripts (start opening scripts) es (b.moment before) (omega arith) st.past) in
    let later = turn.put.later in
    let links = commit_links scripts k scene line u w turn.root turn.top turn.tree turn.draft turn.plan (b.content after) states (b.moment after)
    st.shared sound turn.may turn.written turn.first turn.rewrites turn.kept (omega (arith, early, later)) in
    let to : IsLinkedTo scripts k scene links.0 (commit_entry scene.standing k line u (b.moment after)) (b.content after) states = links.1 in (
      links.0,
      turn_stands b settled_left opening scripts first scene links.0 before after es (commit_entry scene.standing k line u (b.moment after) ∷ []) st (record {
        operation = inr (turn.root, turn.bytes, root_within scene k w turn.root turn.tree turn.draft turn.plan st.shared turn.written, turn.put);
        content = to.content_is;
        most = to.most;
        blocks = to.blocks;
        legal = (to.lawful, tt);
        leads = to.standing;
        moments = one_entry (b.moment after) (commit_entry scene.standing k line u (b.moment after)) refl;
      }) to.leads.shared,
      to,
      links.2,
    )
