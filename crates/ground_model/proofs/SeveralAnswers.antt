-- The turn of the link of a commit of several files of which the first alone gets a new version, and its answer in the same turn.
use Rattle.std.proofs.Common.{◌≡◌, ◌≢◌, inr, ℕ, true, List, [], ◌∷◌, ◌++◌, length, Some, None, refl, sym, ap, ◌∙◌, subst, slice_get, true≢false}
use Rattle.std.specs.List.{list_any}
use Rattle.block_map.specs.declared.states.BlockState.{BlockState}
use Rattle.page_codec.specs.Values.{MemberValue}
use Rattle.pair_store.specs.declared.store.Blocks.{Ghosts}
use Rattle.script_text.specs.declared.reply.LineReply.TheVariants as reply
use Rattle.script_text.specs.declared.script.Line.{Line}
use Rattle.service_model.specs.declared.journal.Entry.{Entry}
use Rattle.service_model.specs.declared.journal.What.TheVariants.{Answered}
use Rattle.service_model.specs.Entries.{after_entries, made_by}
use Rattle.service_model.specs.Replies.{serials_by}
use Rattle.service_model.specs.Sound.{IsSound, is_starting}
use Rattle.service_model.specs.Standing.{Scripts, Client, Update, Upkeep, client_of, lines_of}
use Rattle.service_model.proofs.Keeps.{entry_keeps}
use Rattle.store_changes.specs.Writes.{Content}
use Rattle.tree_model.specs.States.{State}
use Rattle.ground_model.specs.CommitLines.{IsCommitting}
use Rattle.ground_model.specs.Commits.{IsLinkedTo, commit_entry}
use Rattle.ground_model.specs.Laws.{Leads}
use Rattle.ground_model.specs.Lines.{answering, in_line}
use Rattle.ground_model.specs.Linking.{IsSettingLinks}
use Rattle.ground_model.specs.Rolling.{IsAnsweredCommit}
use Rattle.ground_model.specs.Runs.{IsTurn, Stands}
use Rattle.ground_model.specs.Scenes.{Scene}
use Rattle.ground_model.specs.Several.{AreCommitted, AreNamedBy, Renewal}
use Rattle.ground_model.specs.SeveralAnswers.{AnsweredTopStands, IsAnsweredTop}
use Rattle.ground_model.specs.SeveralTurns.{IsSeveralTurn}
use Rattle.ground_model.specs.Steps.{moved_to}
use Rattle.ground_model.proofs.LinkTurns.{one_entry}
use Rattle.ground_model.proofs.RollingAnswers.{answer_joins}
use Rattle.ground_model.proofs.SeveralTurns.{several_turn_stands}
use Rattle.ground_model.proofs.Shows.{base_shows}
use Rattle.ground_model.proofs.Steps.{leaves_go_on, there_twice}
use Rattle.ground_model.proofs.Testing.{standing_sound}

-- whoever names no file names no member
named_none : (ms : List MemberValue) → AreNamedBy ms [] → ms ≡ []
named_none [] named = refl
named_none (m ∷ ms) named = absurd named

module _ {D : Type 0} (b : Ghosts D) (settled_left : (s : D) (n : ℕ) (f : Content) → b.settled_always s n → b.may_leave s (b.moment s) f → f n ≡ b.content s n)
    (opening : State) (scripts : Scripts) (first k : ℕ) (scene : Scene) (before after : D) (es : List Entry) (line : Line) (u : Update) (top : Renewal) (block : ℕ)
    (states : List BlockState) (st : Stands b opening scripts first scene before es) (turn : IsSeveralTurn b scripts k scene before after line u top [] block states) where
  abbrev commits : Entry
  commits = commit_entry scene.standing k line u (b.moment after)

  abbrev answers : Entry
  answers = in_line k line Answered

  came : (mid : Scene) × Stands b opening scripts first mid after (es ++ commit_entry scene.standing k line u (b.moment after) ∷ [])
      × AreCommitted scripts k scene mid line u top [] block (b.moment after) (b.content after) states
  came = several_turn_stands b settled_left opening scripts first k scene before after es line u top [] block states st turn

  to : IsLinkedTo scripts k scene came.0 commits (b.content after) states
  to = came.2.to

  setting : IsSettingLinks came.0 k u (made_by scene.standing.state u) (b.moment after) top.work.object block [] []
  setting =
      subst (λ ms. IsSettingLinks came.0 k u (made_by scene.standing.state u) (b.moment after) top.work.object block ms [])
      (named_none top.plan.members turn.written.named) came.2.links

  sound_then : IsSound scripts came.0.standing
  sound_then =
      subst (IsSound scripts) (sym to.standing)
      (entry_keeps scripts scene.standing commits st.sayable (standing_sound b opening scripts first scene before es st) to.lawful)

  idle : (up : Upkeep) → came.0.standing.upkeep ≡ Some up → up.client ≢ k
  idle up is mine =
      let here : list_any is_starting (client_of came.0.standing k).noted ≡ true =
      subst (λ n. list_any is_starting (client_of came.0.standing n).noted ≡ true) mine (sound_then.upkeep up is).1 in
      true≢false (sym here ∙ ap (list_any is_starting) setting.committed.noted)

  committing : IsCommitting scripts came.0.standing k line
  committing = record {
    client = setting.committed.client;
    next = ap (λ (c : Client). slice_get (lines_of scripts k) (length c.answers)) to.own ∙ turn.may.next;
    command = turn.may.command;
    idle = idle;
  }

  is_turn : IsTurn b scripts scene came.0 before after (commits ∷ [])
  is_turn = record {
    operation = inr (top.root, turn.bytes, (base_shows scene top.work.object top.work.serial top.root top.work.base st.shared turn.written.each.0.draft.base).lies.high, turn.put);
    content = to.content_is;
    most = to.most;
    blocks = to.blocks;
    legal = (to.lawful, tt);
    leads = to.standing;
    moments = one_entry (b.moment after) commits refl;
  }

  abbrev new : Scene
  new = moved_to came.0 came.0.content came.0.states (after_entries scripts came.0.standing (answers ∷ []))

  joined : Stands b opening scripts first new after (es ++ commits ∷ answers ∷ []) × IsAnsweredCommit k u (made_by scene.standing.state u) came.0 new
  joined =
      answer_joins b settled_left opening scripts first k scene came.0 before after es (commits ∷ []) line u (made_by scene.standing.state u) (b.moment after)
      top.work.object block st is_turn to.leads.shared committing setting

  leads_then : Leads k scene new
  leads_then = record {
    shared = joined.1.leads.shared;
    versions = λ o v has. (let one = to.leads.versions o v has in there_twice scene came.0 new o v one (joined.1.leads.versions o one.again one.is));
    leaves = λ j low ne. leaves_go_on j scene came.0 new (to.leads.leaves j low ne) (joined.1.leads.leaves j low ne);
  }

  pub answered_top : (last : Scene) × Stands b opening scripts first last after (es ++ commits ∷ answers ∷ []) × IsAnsweredTop k scene last u top (b.content after) states
  answered_top = (
    new,
    joined.0,
    record {
      content_is = to.content_is;
      states_is = to.states_is;
      own = joined.1.own ∙ ap (λ (c : Client). answering c (reply.Committed (serials_by (made_by scene.standing.state u) (Some u))) None) to.own;
      leads = leads_then;
      rolled = joined.1.rolled;
      links = λ j ne. came.2.leaves j ne;
      heads = λ heads are. came.2.heads heads are;
    },
  )

pub answered_top_stands : {D : Type 0} (b : Ghosts D) → ((s : D) (n : ℕ) (f : Content) → b.settled_always s n → b.may_leave s (b.moment s) f → f n ≡ b.content s n) → AnsweredTopStands b
answered_top_stands b settled_left opening scripts first k scene before after es line u top block states st turn =
    answered_top b settled_left opening scripts first k scene before after es line u top block states st turn
