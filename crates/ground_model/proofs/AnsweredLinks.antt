-- The turn of the link of a commit of one file, where the commit is answered in the same turn.
use Rattle.std.proofs.Common.{◌≡◌, ◌≢◌, inr, ℕ, suc, ◌≤◌, ◌&&◌, true, List, [], ◌∷◌, ◌++◌, length, Some, None, refl, sym, ap, ◌∙◌, subst, arith, slice_get, true≢false, eq-eqb}
use Rattle.std.specs.Prelude.{count_by}
use Rattle.std.specs.List.{list_any}
use Rattle.block_map.specs.States.{state_at, held_count}
use Rattle.block_map.specs.declared.states.BlockState.{BlockState}
use Rattle.pair_store.specs.declared.store.Blocks.{Ghosts}
use Rattle.script_text.specs.declared.reply.LineReply.TheVariants as reply
use Rattle.script_text.specs.declared.script.Line.{Line}
use Rattle.service_model.specs.declared.journal.Entry.{Entry}
use Rattle.service_model.specs.declared.journal.What.{What}
use Rattle.service_model.specs.declared.journal.What.TheVariants.{Held, Committed, Answered}
use Rattle.service_model.specs.declared.named.Named.{Named}
use Rattle.service_model.specs.Entries.{after_entries, made_by}
use Rattle.service_model.specs.Legal.{IsLegalFrom}
use Rattle.service_model.specs.Replies.{serials_by}
use Rattle.service_model.specs.Sound.{IsOpenAt, IsSound, is_starting}
use Rattle.service_model.specs.Standing.{Scripts, Standing, Client, Update, Upkeep, Work, client_of, lines_of, need, start}
use Rattle.service_model.proofs.Keeps.{entry_keeps, journal_sound}
use Rattle.store_changes.specs.Writes.{Content}
use Rattle.tree_model.specs.States.{State}
use Rattle.ground_model.specs.CommitLines.{IsCommitting}
use Rattle.ground_model.specs.Commits.{HeadsGoOn, IsLinkedTo, commit_entry}
use Rattle.ground_model.specs.Fronts.{AreOfTurn, is_change}
use Rattle.ground_model.specs.Laws.{Leads}
use Rattle.ground_model.specs.Lines.{Notes, answering, in_line}
use Rattle.ground_model.specs.Own.{IsClient}
use Rattle.ground_model.specs.Runs.{Stands}
use Rattle.ground_model.specs.Scenes.{Scene, IsLinking}
use Rattle.ground_model.specs.Steps.{ChangesOnly, IsLineStep, moved_to}
use Rattle.ground_model.specs.Turns.{AnsweredLinkStands, IsAnsweredLink, IsLinkTurn}
use Rattle.ground_model.proofs.CommitLines.{commit_is_answered}
use Rattle.ground_model.proofs.Committing.{commit_links}
use Rattle.ground_model.proofs.Lines.{became, changes_only}
use Rattle.ground_model.proofs.LinkTurns.{moments_by}
use Rattle.ground_model.proofs.QuietTurns.{same_held}
use Rattle.ground_model.proofs.Steps.{leaves_go_on, line_step_leads, there_twice}
use Rattle.ground_model.proofs.Shows.{root_within}
use Rattle.ground_model.proofs.Turning.{turn_stands}

-- a commit's entry at this moment and its answer are all that a turn noted
two_entries : (now k : ℕ) (line : Line) (made : List Named) → AreOfTurn now (in_line k line (Committed made now) ∷ in_line k line Answered ∷ [])
two_entries now k line made = record {
  moments = ap (λ b. b && (true && true)) (eq-eqb now now refl);
  one = (let n : count_by is_change (in_line k line (Committed made now) ∷ in_line k line Answered ∷ []) ≡ 1 = refl in omega (arith, n));
}

module _ {D : Type 0} (b : Ghosts D) (settled_left : (s : D) (n : ℕ) (f : Content) → b.settled_always s n → b.may_leave s (b.moment s) f → f n ≡ b.content s n)
    (opening : State) (scripts : Scripts) (first k : ℕ) (scene : Scene) (before after : D) (es : List Entry) (line : Line) (u : Update) (w : Work) (states : List BlockState)
    (st : Stands b opening scripts first scene before es) (turn : IsLinkTurn b scripts k scene before after line u w states) where
  abbrev commits : Entry
  commits = commit_entry scene.standing k line u (b.moment after)

  abbrev answers : Entry
  answers = in_line k line Answered

  abbrev made : List Named
  made = made_by scene.standing.state u

  sound : IsSound scripts scene.standing
  sound = journal_sound opening scripts es scene.standing st.fitting.fit st.sayable st.reaches

  early : scene.standing.moment ≤ b.moment after
  early =
      let by : scene.standing.moment ≤ b.moment before =
      subst (λ (s : Standing). s.moment ≤ b.moment before) st.reaches.leads (moments_by scripts (start opening scripts) es (b.moment before) (omega arith) st.past) in
      let later = turn.put.later in
      omega (arith, by, later)

  pub link : (mid : Scene) × IsLinkedTo scripts k scene mid commits (b.content after) states × HeadsGoOn scene mid w.object turn.top (need u)
  link =
      commit_links scripts k scene line u w turn.root turn.top turn.tree turn.draft turn.plan (b.content after) states (b.moment after)
      st.shared sound turn.may turn.written turn.first turn.rewrites turn.kept early

  to : IsLinkedTo scripts k scene link.0 commits (b.content after) states
  to = link.1

  sound_then : IsSound scripts link.0.standing
  sound_then = subst (IsSound scripts) (sym to.standing) (entry_keeps scripts scene.standing commits st.sayable sound to.lawful)

  noted_is : (client_of link.0.standing k).noted ≡ Held (need u) ∷ Committed made (b.moment after) ∷ []
  noted_is = ap (λ (c : Client). c.noted) to.own ∙ ap (λ (ns : List What). ns ++ Committed made (b.moment after) ∷ []) turn.may.noted

  is_open : (client_of link.0.standing k).update ≡ Some u
  is_open = ap (λ (c : Client). c.update) to.own ∙ turn.may.is_open

  client : IsClient link.0.standing k
  client = record {
    low = turn.may.client.low;
    high = subst (λ n. k ≤ n) (sym (to.leads.leaves (suc k) (omega arith) (λ e. omega (arith, e))).clients) turn.may.client.high;
  }

  not_linking : (object : ℕ) (l : IsLinking link.0.standing object) → l.client ≢ k
  not_linking object l e =
      let mine : IsOpenAt link.0.standing k l.update = subst (λ n. IsOpenAt link.0.standing n l.update) e l.is_open in
      let both : Some l.update ≡ Some u = sym mine ∙ is_open in
      let same : l.update ≡ u = cc in
      true≢false (sym l.several ∙ ap (λ (x : Update). x.is_super) same ∙ turn.may.plain)

  idle : (up : Upkeep) → link.0.standing.upkeep ≡ Some up → up.client ≢ k
  idle up is mine =
      let here : list_any is_starting (client_of link.0.standing k).noted ≡ true =
      subst (λ n. list_any is_starting (client_of link.0.standing n).noted ≡ true) mine (sound_then.upkeep up is).1 in
      true≢false (sym here ∙ ap (list_any is_starting) noted_is)

  committing : IsCommitting scripts link.0.standing k line
  committing = record {
    client = client;
    next = ap (λ (c : Client). slice_get (lines_of scripts k) (length c.answers)) to.own ∙ turn.may.next;
    command = turn.may.command;
    idle = idle;
  }

  abbrev told : Client
  told = answering (client_of link.0.standing k) (reply.Committed (serials_by made (Some u))) None

  abbrev over : Standing
  over = after_entries scripts link.0.standing (answers ∷ [])

  notes : Notes scripts link.0.standing k (answers ∷ []) told
  notes = commit_is_answered scripts link.0.standing k line u (need u) (b.moment after) made committing is_open noted_is

  only : ChangesOnly k link.0.standing over
  only = changes_only link.0.standing over k told client notes.becomes not_linking

  own : client_of over k ≡ told
  own = became link.0.standing over k told client notes.becomes

  step : IsLineStep k link.0 (b.content after) states over
  step = record {
    same = λ n. ap (λ (f : Content). f n) (sym to.content_is);
    only = only;
    size = ap length (sym to.states_is);
    fixed = λ n s is. (λ e. ap (λ xs. state_at xs n) (sym to.states_is) ∙ e, λ e. ap (λ xs. state_at xs n) to.states_is ∙ e);
    held = λ j. ap (held_count j) (sym to.states_is) ∙ to.leads.shared.map.held j ∙ same_held link.0.standing over k only.others (ap (λ (x : Client). x.held) own) j;
  }

  abbrev new : Scene
  new = moved_to link.0 (b.content after) states over

  onward : Leads k link.0 new
  onward = line_step_leads k link.0 (b.content after) states over to.leads.shared step

  leads : Leads k scene new
  leads = record {
    shared = onward.shared;
    versions = λ o v has. (let one = to.leads.versions o v has in there_twice scene link.0 new o v one (onward.versions o one.again one.is));
    leaves = λ j low ne. leaves_go_on j scene link.0 new (to.leads.leaves j low ne) (onward.leaves j low ne);
  }

  pub stands_then : Stands b opening scripts first new after (es ++ commits ∷ answers ∷ [])
  stands_then =
      turn_stands b settled_left opening scripts first scene new before after es (commits ∷ answers ∷ []) st (record {
        operation = inr (turn.root, turn.bytes, root_within scene k w turn.root turn.tree turn.draft turn.plan st.shared turn.written, turn.put);
        content = refl;
        most = to.most;
        blocks = to.blocks;
        legal = (to.lawful, subst (λ s. IsLegalFrom scripts s (answers ∷ [])) to.standing notes.legal);
        leads = ap (λ (s : Standing). after_entries scripts s (answers ∷ [])) to.standing;
        moments = two_entries (b.moment after) k line made;
      }) onward.shared

  pub answered : IsAnsweredLink k scene new u (b.content after) states
  answered = record {
    content_is = refl;
    states_is = refl;
    own = own ∙ ap (λ (c : Client). answering c (reply.Committed (serials_by made (Some u))) None) to.own;
    leads = leads;
  }

  pub heads_then : HeadsGoOn scene new w.object turn.top (need u)
  heads_then = link.2

pub answered_link_stands : {D : Type 0} (b : Ghosts D) → ((s : D) (n : ℕ) (f : Content) → b.settled_always s n → b.may_leave s (b.moment s) f → f n ≡ b.content s n) → AnsweredLinkStands b
answered_link_stands b settled_left opening scripts first k scene before after es line u w states st turn = (
  _,
  stands_then b settled_left opening scripts first k scene before after es line u w states st turn,
  answered b settled_left opening scripts first k scene before after es line u w states st turn,
  heads_then b settled_left opening scripts first k scene before after es line u w states st turn,
)
