-- What a turn of one client comes to for the run.
use Rattle.std.proofs.Common.{◌≡◌, ◌≢◌, inl, inr, ℕ, ◌-◌, ◌≤◌, List, [], ◌∷◌, ◌++◌, length, Option, Some, None, refl, sym, ap, ◌∙◌, subst, arith}
use Rattle.std.specs.Prelude.{option_and_then, slice_get, slice_set}
use Rattle.std.specs.Option.{option_map_or}
use Rattle.pair_store.specs.declared.store.Blocks.{Ghosts}
use Rattle.page_merge.specs.Jobs.{JobValue}
use Rattle.ground_model.specs.Opened.{IsOpenedFrom}
use Rattle.recovery.specs.declared.opened.OpenedOver.{OpenedOver}
use Rattle.script_text.specs.ScriptValue.{ScriptValue}
use Rattle.script_text.specs.declared.reply.LineReply.{LineReply}
use Rattle.service_model.specs.declared.journal.Entry.{Entry}
use Rattle.service_model.specs.Entries.{standing_after}
use Rattle.service_model.specs.Legal.{IsLegalFrom}
use Rattle.service_model.specs.Standing.{Scripts, lines_of, start}
use Rattle.service_model.proofs.Members.{set_elsewhere, set_here}
use Rattle.tree_model.specs.States.{State}
use Rattle.session.specs.Calls.{AnswersLine, CountsTurn, IsCounted, IsLost, KeepsRest, TurnCall, waiting_in}
use Rattle.session.specs.Ends.{StopsWith, TurnEnds, TurnGoes}
use Rattle.session.specs.Own.{IsOwn}
use Rattle.session.specs.Safe.{IsSafe, entries_left}
use Rattle.session.specs.Shared.{RunStands, entries_of}
use Rattle.session.specs.Values.{RepliesValue, one_more}
use Rattle.session.specs.Walks.{CountsMerge}
use Rattle.session.proofs.Frames.{own_is_left, safe_is_left}
use Rattle.session.specs.declared.common.Common.{Common}
use Rattle.session.specs.declared.session.Session.{Session}
use Rattle.session.specs.declared.turned.Fault.{Fault}
use Rattle.session.specs.declared.turned.Fault.TheVariants.{Drive, Bad}
use Rattle.session.specs.declared.turned.Turned.{Turned}
use Rattle.session.specs.declared.turned.Turned.TheVariants as turned
use Rattle.ground.specs.Grounds.{AllStand, AreClients, HasHalted, HasRun, IsGround, IsSafeRun, StandsOr}
use Rattle.ground.specs.Runs.{GroundValue, scripts_of, store_in}
use Rattle.ground.specs.Turning.{AnswersTurn, AreLater, CountsMerges, CountsTurns, HasNoted, IsAnswering, IsNeverBad, IsRunOf, IsSameRun, IsStoppedBy, IsThrough, IsTimely, IsWhole, OthersStay, fault_of, merges_of, replies_of, turns_of, waiting_of}
use Rattle.ground.proofs.Timely.{between_here, timely_here}
use Rattle.ground.proofs.Halts.{entries_noted, halts, nothing_noted, unmoved_moments}
use Rattle.ground.proofs.Merging.{merged_in_all}
use Rattle.ground.proofs.Clients.{clients_set, get_set, left_set, lines_at, scripts_set, set_same}

module _ {D : Type 0} (b : Ghosts D) (opened : OpenedOver D) (c c' : Common D) (sessions : List Session) (i : ℕ) (s s' : Session) (result : Turned)
    (at : slice_get sessions i ≡ Some s) (script : s'.script ≡ s.script) (call : TurnCall b IsOwn s.script c c' s.course s'.course result)
    (still : result ≡ turned.Finished → (s' ≡ s) × (c' ≡ c)) where
  abbrev before : GroundValue D
  before = record { opened = opened; common = c; sessions = sessions; fault = None }

  abbrev after : GroundValue D
  after = record { opened = opened; common = c'; sessions = slice_set sessions i s'; fault = fault_of result }

  scripts_stay : scripts_of (slice_set sessions i s') ≡ scripts_of sessions
  scripts_stay = scripts_set sessions i s s' at script

  pub run : IsSameRun b before after
  run = record { opened = refl; scripts = scripts_stay; size = call.numbers.size }

  -- ---- numbers

  module _ (clients : AreClients sessions) where
    other_number : (j : ℕ) (t : Session) → j ≢ i → slice_get sessions j ≡ Some t → t.course.client ≢ s.course.client
    other_number j t ne is same = (let n = clients.numbers j t is in let m = clients.numbers i s at in ne (omega (arith, n, m, same)))

    safe_each : ((j : ℕ) (t : Session) → slice_get sessions j ≡ Some t → IsSafe (b.size c.store) c.map t.script t.course)
        → (j : ℕ) (t : Session) → slice_get (slice_set sessions i s') j ≡ Some t → IsSafe (b.size c'.store) c'.map t.script t.course
    safe_each h j t is = elim (get_set sessions i j s' t is) [
      | inl e ↦ subst (λ (u : Session). IsSafe (b.size c'.store) c'.map u.script u.course) (sym e.1)
          (subst (λ (x : ScriptValue). IsSafe (b.size c'.store) c'.map x s'.course) (sym script) call.safe)
      | inr e ↦ safe_is_left b c c' s.course.client t.script t.course call.numbers (other_number j t e.0 e.1) (h j t e.1)
    ]

  pub safe_stays : IsSafeRun b.size c sessions → IsSafeRun b.size c' (slice_set sessions i s')
  safe_stays h = record {
    store = call.store;
    clients = clients_set sessions i s s' at call.client h.clients;
    safe = safe_each h.clients h.safe;
    room = (let left = left_set sessions i s s' at in let room = h.room in let took = call.entries in let same = call.numbers.room in
        let mine = ap (λ (x : ScriptValue). entries_left x s'.course) script in omega (arith, left, room, took, same, mine));
    few = (let left = left_set sessions i s s' at in let few = h.few in let took = call.entries in
        let mine = ap (λ (x : ScriptValue). entries_left x s'.course) script in omega (arith, left, few, took, mine));
  }

  -- ---- where contents are told

  module _ (opening : State) (first : ℕ) (clients : AreClients sessions) (a : AllStand b opening first c sessions) where
    goes : TurnGoes b opening (scripts_of sessions) first a.scene c c' s.script s'.course → AllStand b opening first c' (slice_set sessions i s')
    goes g =
        let F : Scripts → Type 0 = λ scripts. RunStands b opening scripts first g.after c' in
        let G : Scripts → Session → Type 0 = λ scripts t. IsOwn scripts g.after t.script t.course in
        record {
          scene = g.after;
          stands = subst F (sym scripts_stay) g.goes.stands;
          own = λ j t is. subst (λ scripts. G scripts t) (sym scripts_stay) (elim (get_set sessions i j s' t is) [
            | inl e ↦ subst (G (scripts_of sessions)) (sym e.1) (subst (λ (x : ScriptValue). IsOwn (scripts_of sessions) g.after x s'.course) (sym script) g.mine)
            | inr e ↦ own_is_left b opening (scripts_of sessions) first a.scene g.after c c' s'.course.client g.es t.script t.course g.goes
                (λ same. other_number clients j t e.0 e.1 (same ∙ call.client)) (a.own j t e.1)
          ]);
        }

    ends : (r : Turned) → (r ≡ turned.Finished → (s' ≡ s) × (c' ≡ c)) → AnswersLine s.script s.course s'.course r → TurnEnds b opening (scripts_of sessions) first a.scene c c' s.script s.course s'.course r
        → StandsOr b opening first c' (slice_set sessions i s') (fault_of r)
    ends (turned.Line n) same h g = goes g
    ends turned.Again same h g = goes g
    ends (turned.Work job) same h g = goes g
    ends turned.Finished same h g =
        let F : Common D → Type 0 = λ x. AllStand b opening first x sessions in
        subst (AllStand b opening first c') (sym (ap (slice_set sessions i) (same refl).0 ∙ set_same sessions i s at)) (subst F (sym g.0) a)
    ends (turned.Stopped (Drive half)) same h g =
        subst (λ scripts. HasHalted b opening scripts first c' (slice_set sessions i s')) (sym scripts_stay) (halts b opening first c c' sessions clients a s'.course.client g i s s' at h)
    ends (turned.Stopped (Bad block why)) same h g = g

  -- ---- the whole

  turned_in : b.tells → (first : ℕ) (h : HasRun b first before) → TurnEnds b h.opening (scripts_of sessions) first h.stands.scene c c' s.script s.course s'.course result
  turned_in tells first h = call.turns tells h.opening (scripts_of sessions) first h.stands.scene (record { stands = h.stands.stands; mine = h.stands.own i s at })

  keeps_run : b.tells → AreClients sessions → (first : ℕ) → HasRun b first before → HasRun b first after
  keeps_run tells clients first h = record {
    opening = h.opening;
    found = h.found;
    stands = ends h.opening first clients h.stands result still call.lines (turned_in tells first h);
  }

  pub keeps : IsGround b before → IsGround b after
  keeps h = record {
    size = call.numbers.size ∙ h.size;
    safe = safe_stays h.safe;
    told = λ tells first is. keeps_run tells h.safe.clients first (h.told tells first is);
  }

  -- ---- answers

  mine_was : (k : ℕ) → i ≡ k - 1 → replies_of before k ≡ s.course.replies.items
  mine_was k place = ap (λ n. option_map_or (λ (t : Session). t.course.replies.items) (slice_get sessions n) []) (sym place) ∙ ap (λ o. option_map_or (λ (t : Session). t.course.replies.items) o []) at

  mine_is : (k : ℕ) → i ≡ k - 1 → replies_of after k ≡ s'.course.replies.items
  mine_is k place = ap (λ n. option_map_or (λ (t : Session). t.course.replies.items) (slice_get (slice_set sessions i s') n) []) (sym place)
      ∙ ap (λ o. option_map_or (λ (t : Session). t.course.replies.items) o []) (set_here sessions i s s' at)

  my_lines : (k : ℕ) → i ≡ k - 1 → lines_of (scripts_of sessions) k ≡ s.script.lines
  my_lines k place = ap (λ n. option_map_or (λ (x : ScriptValue). x.lines) (slice_get (scripts_of sessions) n) []) (sym place)
      ∙ ap (λ o. option_map_or (λ (x : ScriptValue). x.lines) o []) (lines_at sessions i s at)

  same_replies : (k : ℕ) → i ≡ k - 1 → s'.course.replies ≡ s.course.replies → replies_of after k ≡ replies_of before k
  same_replies k place same = mine_is k place ∙ ap (λ (x : RepliesValue). x.items) same ∙ sym (mine_was k place)

  module _ (k : ℕ) (place : i ≡ k - 1) (number : 1 ≤ k) where
    line_answered : (n : ℕ) → AnswersLine s.script s.course s'.course (turned.Line n) → IsAnswering before after k n
    line_answered n (line, reply, is, number, more) = record {
      line = line;
      next = ap (λ lines. slice_get lines (length (replies_of before k))) (my_lines k place) ∙ ap (λ (xs : List LineReply). slice_get s.script.lines (length xs)) (mine_was k place) ∙ is;
      number = number;
      reply = reply;
      more = mine_is k place ∙ ap (λ (x : RepliesValue). x.items) more ∙ ap (λ xs. xs ++ reply ∷ []) (sym (mine_was k place));
    }

    nothing_new : (r : Turned) → r ≡ result → r ≡ turned.Finished → after ≡ before
    nothing_new r is done =
        let same = still (sym is ∙ done) in
        ap (λ (x : Common D). record after { common = x }) same.1 ∙ ap (λ xs. record before { sessions = xs; fault = fault_of result }) (ap (slice_set sessions i) same.0 ∙ set_same sessions i s at)
        ∙ ap (λ f. record before { fault = f }) (ap fault_of (sym is ∙ done))

    waiting_was : waiting_of before k ≡ waiting_in s.course.stage
    waiting_was = ap (λ n. option_and_then (λ (t : Session). waiting_in t.course.stage) (slice_get sessions n)) (sym place)
        ∙ ap (λ o. option_and_then (λ (t : Session). waiting_in t.course.stage) o) at

    waiting_is : waiting_of after k ≡ waiting_in s'.course.stage
    waiting_is = ap (λ n. option_and_then (λ (t : Session). waiting_in t.course.stage) (slice_get (slice_set sessions i s') n)) (sym place)
        ∙ ap (λ o. option_and_then (λ (t : Session). waiting_in t.course.stage) o) (set_here sessions i s s' at)

    answers_by : (r : Turned) → r ≡ result → AnswersLine s.script s.course s'.course r → AnswersTurn before after k r
    answers_by (turned.Line n) is h = line_answered n h
    answers_by turned.Again is h = same_replies k place h
    answers_by (turned.Work job) is h = (same_replies k place h.0, waiting_is ∙ h.1)
    answers_by turned.Finished is h = (
      ap length (mine_was k place) ∙ h.0 ∙ ap length (sym (my_lines k place)),
      nothing_new turned.Finished is refl,
    )
    answers_by (turned.Stopped fault) is h = same_replies k place h

    pub answers : AnswersTurn before after k result
    answers = answers_by result refl call.lines

    turns_was : turns_of before k ≡ s.course.turns
    turns_was = ap (λ n. option_map_or (λ (t : Session). t.course.turns) (slice_get sessions n) 0) (sym place) ∙ ap (λ o. option_map_or (λ (t : Session). t.course.turns) o 0) at

    turns_is : turns_of after k ≡ s'.course.turns
    turns_is = ap (λ n. option_map_or (λ (t : Session). t.course.turns) (slice_get (slice_set sessions i s') n) 0) (sym place)
        ∙ ap (λ o. option_map_or (λ (t : Session). t.course.turns) o 0) (set_here sessions i s s' at)

    counts_by : (r : Turned) → CountsTurn s.course s'.course r → CountsTurns before after k r
    counts_by (turned.Line n) h = turns_is ∙ h.0
    counts_by turned.Again h = turns_is ∙ h ∙ ap one_more (sym turns_was)
    counts_by (turned.Work job) h = turns_is ∙ h ∙ ap one_more (sym turns_was)
    counts_by turned.Finished h = turns_is ∙ h ∙ sym turns_was
    counts_by (turned.Stopped fault) h = tt

    pub counts : CountsTurns before after k result
    counts = counts_by result call.counts

    merges_was : merges_of before k ≡ s.merges
    merges_was = ap (λ n. option_map_or (λ (t : Session). t.merges) (slice_get sessions n) 0) (sym place) ∙ ap (λ o. option_map_or (λ (t : Session). t.merges) o 0) at

    merges_is : merges_of after k ≡ s'.merges
    merges_is = ap (λ n. option_map_or (λ (t : Session). t.merges) (slice_get (slice_set sessions i s') n) 0) (sym place)
        ∙ ap (λ o. option_map_or (λ (t : Session). t.merges) o 0) (set_here sessions i s s' at)

    pub merges : (offer : Option JobValue) → CountsMerge (waiting_in s.course.stage) offer s.merges s'.merges → CountsMerges before after k offer
    merges offer counts =
        let F : ℕ → ℕ → Type 0 = λ n n'. CountsMerge (waiting_of before k) offer n n' in
        let waits = subst (λ (o : Option JobValue). CountsMerge o offer s.merges s'.merges) (sym waiting_was) counts in
        record {
          client = subst (λ n. F n (merges_of after k)) (sym merges_was) (subst (F s.merges) (sym merges_is) waits);
          run = merged_in_all sessions i s s' (waiting_of before k) offer at waits;
        }

    my_place : slice_get (slice_set sessions i s') (k - 1) ≡ Some s'
    my_place = ap (slice_get (slice_set sessions i s')) (sym place) ∙ set_here sessions i s s' at

    run_of : (o : State) → IsRunOf b before o → IsRunOf b after o
    run_of o is = record { tells = is.tells; first = is.first; opened = is.opened; found = is.found }

    pub timely : IsGround b after → (o : State) → IsRunOf b before o → after.fault ≡ None → IsTimely o after k
    timely ground o is none = timely_here b after ground o (run_of o is) none k number s' my_place

    whole_by : IsGround b after → (o : State) → IsRunOf b before o → (r : Turned) → r ≡ result → CountsTurn s.course s'.course r → IsWhole o after k r
    whole_by ground o is (turned.Line n) same h = between_here b after ground o (run_of o is) (ap fault_of (sym same)) k number s' my_place h.1
    whole_by ground o is turned.Again same h = tt
    whole_by ground o is (turned.Work job) same h = tt
    whole_by ground o is turned.Finished same h = tt
    whole_by ground o is (turned.Stopped fault) same h = tt

    pub whole : IsGround b after → (o : State) → IsRunOf b before o → IsWhole o after k result
    whole ground o is = whole_by ground o is result refl call.counts

    pub others : OthersStay before after k
    others j low ne = set_elsewhere sessions i (j - 1) s' (λ same. ne (omega (arith, same, place, number, low)))

    pub finished : (length s.course.replies.items ≡ length s.script.lines → result ≡ turned.Finished) → IsThrough before k → result ≡ turned.Finished
    finished all through = all (ap length (sym (mine_was k place)) ∙ through ∙ ap length (my_lines k place))

    -- ---- faults

    pub stopped : (b.tells → (first : ℕ) → IsOpenedFrom b opened first → HasRun b first before) → IsStoppedBy b before after result
    stopped has h none is =
        let was = call.stopped h is in
        record { failed = was.failed; last = elim was.last [ inl e ↦ inl e | inr e ↦ inr (e.0, not_run e.1) ] }
      where
        not_run : (b.tells → IsLost b IsOwn s.script c s.course) → (opening : State) → IsRunOf b before opening → ⊥
        not_run lost o is =
            let h = has is.tells is.first is.opened in
            lost is.tells h.opening (scripts_of sessions) is.first h.stands.scene (record { stands = h.stands.stands; mine = h.stands.own i s at })

    -- ---- entries

    module _ (o : State) (clients : AreClients sessions) (first : ℕ) (h : HasRun b first before) (same : h.opening ≡ o) where
      stood : h.stands.scene.standing ≡ standing_after o (scripts_of sessions) (entries_of c)
      stood = sym h.stands.stands.stands.reaches.leads ∙ ap (λ (x : State). standing_after x (scripts_of sessions) (entries_of c)) same

      mine : s'.course.client ≡ k
      mine = (let n = clients.numbers i s at in call.client ∙ omega (arith, n, place, number))

      abbrev legal : List Entry → State → Type 0
      legal es x = IsLegalFrom (scripts_of sessions) (start x (scripts_of sessions)) es

      noted : TurnGoes b h.opening (scripts_of sessions) first h.stands.scene c c' s.script s'.course → HasNoted b o before after k
      noted g =
          entries_noted b o before after k s'.course.client h.stands.scene.standing g.es stood mine g.goes.entries g.goes.of_client
          (subst (legal (entries_of c')) same g.goes.stands.stands.reaches.legal) g.moments

      halted : StopsWith b h.opening (scripts_of sessions) first h.stands.scene c c' s'.course.client → HasNoted b o before after k
      halted g =
          entries_noted b o before after k s'.course.client h.stands.scene.standing g.es stood mine g.entries g.of_client
          (subst (legal (entries_of c')) same g.stopped.reaches.legal) (unmoved_moments (b.moment c'.store) g.es g.unmoved)

      notes_by : (r : Turned) → TurnEnds b h.opening (scripts_of sessions) first h.stands.scene c c' s.script s.course s'.course r → HasNoted b o before after k × IsNeverBad r
      notes_by (turned.Line n) g = (noted g, λ block why is. absurd cc)
      notes_by turned.Again g = (noted g, λ block why is. absurd cc)
      notes_by (turned.Work job) g = (noted g, λ block why is. absurd cc)
      notes_by turned.Finished g = (nothing_noted b o before after k (ap entries_of g.0), λ block why is. absurd cc)
      notes_by (turned.Stopped (Drive half)) g = (halted g, λ block why is. absurd cc)
      notes_by (turned.Stopped (Bad block why)) g = absurd g

    pub notes : AreClients sessions → (b.tells → (first : ℕ) → IsOpenedFrom b opened first → HasRun b first before) → (opening : State) → IsRunOf b before opening → HasNoted b opening before after k × IsNeverBad result
    notes clients has o is =
        let h : HasRun b is.first before = has is.tells is.first is.opened in
        let same : h.opening ≡ o = (let one = h.found in let two = is.found in cc (one, two)) in
        notes_by o clients is.first h same result (turned_in is.tells is.first h)

-- ---- as a run sees it

-- What a turn of client k comes to.
pub record Came {D : Type 0} (b : Ghosts D) (g g' : GroundValue D) (k : ℕ) (offer : Option JobValue) (result : Turned) : Type 0 where
  pub keeps : IsGround b g'
  pub run : IsSameRun b g g'
  pub stays : (fault : Fault) → g.fault ≡ Some fault → (result ≡ turned.Stopped fault) × (g' ≡ g)
  pub fault : g'.fault ≡ fault_of result
  pub answers : AnswersTurn g g' k result
  pub turns : CountsTurns g g' k result
  pub rest : KeepsRest b (store_in g) (store_in g') result
  pub timely : (opening : State) → IsRunOf b g opening → g'.fault ≡ None → IsTimely opening g' k
  pub whole : (opening : State) → IsRunOf b g opening → IsWhole opening g' k result
  pub others : OthersStay g g' k
  pub merges : g.fault ≡ None → result ≢ turned.Finished → CountsMerges g g' k offer
  pub finished : IsThrough g k → g.fault ≡ None → result ≡ turned.Finished
  pub counted : IsCounted (b.count (store_in g)) (b.count (store_in g')) result
  pub later : AreLater b g g'
  pub stopped : IsStoppedBy b g g' result
  pub notes : (opening : State) → IsRunOf b g opening → HasNoted b opening g g' k
  pub good : (opening : State) → IsRunOf b g opening → IsNeverBad result

module _ {D : Type 0} (b : Ghosts D) (opened : OpenedOver D) (c c' : Common D) (sessions : List Session) (s s' : Session) (k i : ℕ) (offer : Option JobValue) (result : Turned)
    (fault : Option Fault) (g : GroundValue D) where
  abbrev was : Option Fault → GroundValue D
  was f = record { opened = opened; common = c; sessions = sessions; fault = f }

  abbrev becomes : Option Fault → GroundValue D
  becomes f = record { opened = opened; common = c'; sessions = slice_set sessions i s'; fault = f }

  -- of a run that no fault stopped
  pub record Turning : Type 0 where
    pub sound : IsGround b (was fault)
    pub is : was fault ≡ g
    pub none : fault ≡ None
    pub number : 1 ≤ k
    pub place : i ≡ k - 1
    pub at : slice_get sessions i ≡ Some s
    pub script : s'.script ≡ s.script
    pub finished : length s.course.replies.items ≡ length s.script.lines → result ≡ turned.Finished
    pub still : result ≡ turned.Finished → (s' ≡ s) × (c' ≡ c)
    pub call : TurnCall b IsOwn s.script c c' s.course s'.course result
    pub merges : result ≢ turned.Finished → CountsMerge (waiting_in s.course.stage) offer s.merges s'.merges

  pub came : Turning → (f : Option Fault) → f ≡ fault_of result → Came b g (becomes f) k offer result
  came t f is =
      let F : Option Fault → Type 0 = λ x. Came b g (becomes x) k offer result in
      let G : GroundValue D → Type 0 = λ x. Came b x (becomes (fault_of result)) k offer result in
      subst F (sym is) (subst G (ap was (sym t.none) ∙ t.is) here)
    where
      ground : IsGround b (was None)
      ground = subst (λ x. IsGround b (was x)) t.none t.sound

      noted_here : (o : State) → IsRunOf b (was None) o → HasNoted b o (was None) (becomes (fault_of result)) k × IsNeverBad result
      noted_here = notes b opened c c' sessions i s s' result t.at t.script t.call t.still k t.place t.number ground.safe.clients ground.told

      here : Came b (was None) (becomes (fault_of result)) k offer result
      here = record {
        keeps = keeps b opened c c' sessions i s s' result t.at t.script t.call t.still ground;
        run = run b opened c c' sessions i s s' result t.at t.script t.call t.still;
        stays = λ x some. absurd cc;
        fault = refl;
        answers = answers b opened c c' sessions i s s' result t.at t.script t.call t.still k t.place t.number;
        turns = counts b opened c c' sessions i s s' result t.at t.script t.call t.still k t.place t.number;
        rest = t.call.rest;
        timely = timely b opened c c' sessions i s s' result t.at t.script t.call t.still k t.place t.number (keeps b opened c c' sessions i s s' result t.at t.script t.call t.still ground);
        whole = whole b opened c c' sessions i s s' result t.at t.script t.call t.still k t.place t.number (keeps b opened c c' sessions i s s' result t.at t.script t.call t.still ground);
        others = others b opened c c' sessions i s s' result t.at t.script t.call t.still k t.place t.number;
        merges = λ none ne. merges b opened c c' sessions i s s' result t.at t.script t.call t.still k t.place t.number offer (t.merges ne);
        finished = λ through none. finished b opened c c' sessions i s s' result t.at t.script t.call t.still k t.place t.number t.finished through;
        counted = t.call.counted;
        later = record { faults = t.call.numbers.faults; last = t.call.numbers.last };
        stopped = stopped b opened c c' sessions i s s' result t.at t.script t.call t.still k t.place t.number ground.told;
        notes = λ o is. (noted_here o is).0;
        good = λ o is. (noted_here o is).1;
      }
