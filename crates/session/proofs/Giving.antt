-- A commit that is refused, and one of an update that wrote nothing.
use Rattle.std.proofs.Common.{◌≡◌, ◌⊎◌, inl, inr, ℕ, zero, suc, ◌≤◌, false, ◌&&◌, List, [], ◌∷◌, length, Option, Some, None, refl, sym, ap, ◌∙◌, subst, arith}
use Rattle.std.specs.Prelude.{IfSome}
use Rattle.std.specs.Option.{option_map_or}
use Rattle.block_map.specs.States.{Replaces, held_count}
use Rattle.block_map.specs.declared.states.BlockState.{BlockState}
use Rattle.block_map.specs.declared.states.BlockState.TheVariants.{Free}
use Rattle.block_map.proofs.Replacing.{held_count-Replaces, held_count-Replaces-others}
use Rattle.pair_store.specs.declared.store.Blocks.{Ghosts}
use Rattle.script_text.specs.ScriptValue.{ScriptValue}
use Rattle.pool_draft.specs.declared.pool_set.PoolSet.{PoolSet}
use Rattle.script_text.specs.declared.reply.LineRefusal.{LineRefusal}
use Rattle.script_text.specs.declared.reply.LineReply.TheVariants as reply
use Rattle.script_text.specs.declared.script.Line.{Line}
use Rattle.service_model.specs.declared.journal.Entry.{Entry}
use Rattle.service_model.specs.declared.journal.Refusal.{Refusal}
use Rattle.service_model.specs.declared.journal.What.TheVariants.{Answered, Refused}
use Rattle.service_model.specs.Entries.{after_entries, without_update}
use Rattle.service_model.specs.Replies.{refusal_of}
use Rattle.service_model.specs.Standing.{Scripts, Standing, Client, Update, client_of, has_file, has_locked}
use Rattle.store_model.proofs.Edits.{some_is}
use Rattle.tree_model.specs.States.{State}
use Rattle.ground_model.specs.CommitLines.{IsCommitting}
use Rattle.ground_model.specs.LineTurns.{IsMapStep}
use Rattle.ground_model.specs.Lines.{Notes, answering, in_line}
use Rattle.ground_model.specs.Own.{IsClient}
use Rattle.ground_model.specs.Scenes.{Scene, IsShared, held_by}
use Rattle.ground_model.proofs.CommitLines.{refusal_is_noted}
use Rattle.ground_model.proofs.LineTurns.{map_step, refusal_gives_back}
use Rattle.ground_model.proofs.Noted.{untimed_are_of_turn}
use Rattle.session.specs.Answers.{IsAnswered, IsCleared, IsRefusing, NotesAlone}
use Rattle.session.specs.Calls.{IsIn, IsReady, TurnCall}
use Rattle.session.specs.Ends.{TurnGoes}
use Rattle.session.specs.Safe.{line_of}
use Rattle.session.specs.declared.common.Common.{Common}
use Rattle.session.specs.declared.course.Course.{Course}
use Rattle.session.specs.declared.turned.Turned.{Turned}
use Rattle.session.specs.declared.turned.Turned.TheVariants as turned
use Rattle.session.proofs.BlockLaws.{BlockLaws}
use Rattle.session.proofs.Deciding.{at_commit, line_here, sets_none}
use Rattle.session.proofs.Over.{IsOver, KeepsHeld, over_by, over_call, over_goes, some_here}

-- ---- the map

-- What a client holds was given back, or it held nothing and the map is as it was.
abbrev pub GivesBack : ℕ → ℕ → List BlockState → List BlockState → Type 0
GivesBack k n old new = Replaces k Free old new ⊎ ((n ≡ 0) × (new ≡ old))

pub gives_keeps : (k n : ℕ) (old new : List BlockState) → held_count k old ≡ n → GivesBack k n old new → KeepsHeld k 0 old new
gives_keeps k n old new held (inl gives) = record {
  size = gives.size;
  others = λ j ne. held_count-Replaces-others k j Free old new gives refl ne;
  own = held_count-Replaces k Free old new gives refl;
}
gives_keeps k n old new held (inr (none, same)) = record {
  size = ap length same;
  others = λ j ne. ap (held_count j) same;
  own = ap (held_count k) same ∙ held ∙ none;
}

held_is : (s : Standing) (k : ℕ) → 1 ≤ k → held_by s k ≡ (client_of s k).held
held_is s zero low = absurd (omega (arith, low))
held_is s (suc k) low = refl

-- the map agrees with what is noted where it is as it was, and the client holds nothing before and after
pub map_stays : (scripts : Scripts) (k : ℕ) (scene : Scene) (es : List Entry) (c : Client) → IsShared scene → IsClient scene.standing k → Notes scripts scene.standing k es c
    → c.held ≡ 0 → (client_of scene.standing k).held ≡ 0 → IsMapStep k scene scene.states (after_entries scripts scene.standing es)
map_stays scripts k scene es c shared client notes then_none none =
    map_step scripts k scene scene.states es c shared.map client notes refl (λ n s fixed. (λ e. e, λ e. e)) (λ j ne. refl)
    (shared.map.held k ∙ held_is scene.standing k client.low ∙ none ∙ sym then_none)

-- an update of one file locks nothing
pub plain_locks : (c : Client) (u : Update) → c.update ≡ Some u → u.is_super ≡ false → (object : ℕ) → has_locked object c ≡ false
plain_locks c u is_open plain object =
    ap (λ (o : Option Update). option_map_or (λ u. u.is_super && has_file object u) o false) is_open ∙ ap (λ b. b && has_file object u) plain

-- ---- the refusal

module _ (scripts : Scripts) (scene : Scene) (script : ScriptValue) (s : Course) (why : Refusal) (line : Line) (states : List BlockState)
    (is : IsRefusing why scripts scene script s) (next : line_of script s ≡ Some line) (shared : IsShared scene) (gives : GivesBack s.client s.held scene.states states) where
  abbrev refusal : List Entry
  refusal = in_line s.client line (Refused why) ∷ in_line s.client line Answered ∷ []

  abbrev refused : Client
  refused = answering (without_update (client_of scene.standing s.client)) (reply.Refused (refusal_of why)) None

  at : IsCommitting scripts scene.standing s.client line
  at =
      let co = is.committing.committing in
      let same : co.line ≡ line = some_is (sym co.next ∙ next) in
      subst (λ (x : Line). IsCommitting scripts scene.standing s.client x) same (at_commit scripts scene script s is.committing.update is.committing.work co)

  notes : Notes scripts scene.standing s.client refusal refused
  notes = refusal_is_noted scripts scene.standing s.client line why at (is.may.lawful line next)

  map_by : GivesBack s.client s.held scene.states states → IsMapStep s.client scene states (after_entries scripts scene.standing refusal)
  map_by (inl back) = refusal_gives_back scripts s.client scene states line why shared at (is.may.lawful line next) back
  map_by (inr (none, same)) =
      let co = is.committing.committing in
      subst (λ (xs : List BlockState). IsMapStep s.client scene xs (after_entries scripts scene.standing refusal)) (sym same)
      (map_stays scripts s.client scene refusal refused shared co.seated.client notes refl (co.held ∙ none))

module _ {D : Type 0} (b : Ghosts D) (script : ScriptValue) (line : Line) (why : Refusal) (states : List BlockState) (c c' : Common D) (s s' : Course)
    (ready : IsReady b script c s) (over : IsOver script line (Refused why) (reply.Refused (refusal_of why)) states 0 c c' s s') (gives : GivesBack s.client s.held c.map states) where
  refuse_goes : (laws : BlockLaws b) (opening : State) (scripts : Scripts) (first : ℕ) (scene : Scene) → IsIn b (IsRefusing why) script c s opening scripts first scene
      → TurnGoes b opening scripts first scene c c' script s'
  refuse_goes laws opening scripts first scene is =
      over_goes b script line (Refused why) (reply.Refused (refusal_of why)) states 0 c c' s s' ready over (gives_keeps s.client s.held c.map states ready.safe.held gives)
      laws opening scripts first scene (answering (without_update (client_of scene.standing s.client)) (reply.Refused (refusal_of why)) None) is.stands (record {
        seated = is.mine.committing.committing.seated;
        plain = plain_locks (client_of scene.standing s.client) is.mine.committing.update is.mine.committing.committing.is_open is.mine.committing.committing.plain.plain;
        notes = notes scripts scene script s why line states is.mine over.next is.stands.stands.shared back;
        answers = refl;
        no_update = refl;
        fresh = refl;
        none = refl;
        held = refl;
        links = sets_none scripts scene script s is.mine.committing.update is.mine.committing.work is.mine.committing.committing;
        map = map_by scripts scene script s why line states is.mine over.next is.stands.stands.shared back back;
        moments = untimed_are_of_turn (b.moment c'.store) _ refl;
        due = is.mine.may.due;
      })
    where
      back : GivesBack s.client s.held scene.states states
      back = subst (λ (xs : List BlockState). GivesBack s.client s.held xs states) is.stands.map gives

  pub refuse_call : (b.tells → BlockLaws b) → (result : Turned) → result ≡ turned.Line line.number → TurnCall b (IsRefusing why) script c c' s s' result
  refuse_call laws result answers =
      over_call b script line (Refused why) (reply.Refused (refusal_of why)) states 0 c c' s s' ready over (gives_keeps s.client s.held c.map states ready.safe.held gives)
      (IsRefusing why) result answers (λ told opening scripts first scene is. refuse_goes (laws told) opening scripts first scene is)

-- ---- what the code did

pub refuse_by : {D : Type 0} (b : Ghosts D) (script : ScriptValue) (why : Refusal) (states : List BlockState) (c d e c' : Common D) (s t s' : Course) (cleared : PoolSet) (text : LineRefusal) (result : Turned)
    → (b.tells → BlockLaws b) → IsReady b script c s → d ≡ record c { map = states } → t ≡ record s { held = 0 } → GivesBack s.client s.held c.map states → text ≡ refusal_of why
    → IfSome (line_of script t) (λ x. NotesAlone d e (in_line t.client x (Refused why) ∷ [])) → IsCleared cleared
    → IfSome (line_of script (record t { drafts = cleared })) (λ x. IsAnswered script x (reply.Refused text) e c' (record t { drafts = cleared }) s')
    → IfSome (line_of script (record t { drafts = cleared })) (λ x. result ≡ turned.Line x.number) → TurnCall b (IsRefusing why) script c c' s s' result
refuse_by b script why states c d e c' s t s' cleared text result laws ready d_is t_is gives text_is note none answered number =
    let line = line_here script s ready.line in
    let over : IsOver script line.0 (Refused why) (reply.Refused text) states 0 c c' s s' =
    over_by script line.0 (Refused why) (reply.Refused text) states 0 c d e c' s t (record t { drafts = cleared }) s' line.1 d_is t_is note refl none answered in
    refuse_call b script line.0 why states c c' s s' ready (subst (λ (x : LineRefusal). IsOver script line.0 (Refused why) (reply.Refused x) states 0 c c' s s') text_is over) gives laws result
    (some_here (λ (x : Line). result ≡ turned.Line x.number) (line_of script t) line.0 number (ap (λ (x : Course). line_of script x) t_is ∙ line.1))
