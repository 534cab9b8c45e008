-- The run goes on after a commit whose link was set, and its client rests.
use Rattle.std.proofs.Common.{◌≡◌, ◌≢◌, ◌⊎◌, inl, inr, ℕ, zero, suc, ◌-◌, ◌+◌, ◌<◌, ◌≤◌, ◌^◌, true, false, cond, ◌&&◌, List, [], ◌∷◌, ◌++◌, length, map, Option, Some, None, Result, Ok, refl, sym, ap, ◌∙◌, subst, arith, slice_get, get_or, eq-eqb, true≢false}
use Rattle.std.specs.Prelude.{count_by, min, slice_set}
use Rattle.std.specs.List.{list_any}
use Rattle.std.specs.Option.{option_map_or}
use Rattle.std.proofs.lemmas.Bool.{cases_eq}
use Rattle.afs_base.specs.declared.head.Head.{Head}
use Rattle.block_map.specs.States.{Replaces}
use Rattle.block_map.specs.declared.states.BlockState.{BlockState}
use Rattle.block_map.specs.declared.states.BlockState.TheVariants.{Kept}
use Rattle.page_codec.specs.Values.{TableValue}
use Rattle.pair_store.specs.declared.fault.PairFault.{PairFault}
use Rattle.pair_store.specs.declared.outcome.Tas.{Tas}
use Rattle.pair_store.specs.declared.outcome.Tas.TheVariants.{Set}
use Rattle.pair_store.specs.declared.store.Blocks.{Ghosts}
use Rattle.script_text.specs.ScriptValue.{ScriptValue}
use Rattle.script_text.specs.declared.reply.LineReply.{LineReply}
use Rattle.script_text.specs.declared.reply.LineReply.TheVariants as reply
use Rattle.script_text.specs.declared.script.Line.{Line}
use Rattle.service_model.specs.Entries.{after_entries, made_by}
use Rattle.service_model.specs.Sound.{is_starting}
use Rattle.service_model.specs.Replies.{serial_by, serials_by}
use Rattle.service_model.specs.Standing.{Scripts, Standing, Client, Update, Upkeep, Work, client_of, has_locked, need, newcomer, serial_of as last_serial, start}
use Rattle.service_model.specs.declared.journal.Entry.{Entry}
use Rattle.service_model.specs.declared.journal.What.TheVariants.{Answered, Committed}
use Rattle.service_model.specs.declared.named.Named.{Named}
use Rattle.service_model.proofs.Journals.{after_append}
use Rattle.store_model.proofs.Edits.{some_is}
use Rattle.super_files.specs.Locks.{Holds}
use Rattle.super_files.specs.declared.locks.Lock.{Lock}
use Rattle.tree_model.specs.States.{State}
use Rattle.version_chain.specs.Flush.{Plan}
use Rattle.ground_model.specs.Commits.{HeadsGoOn, commit_entry, head_after}
use Rattle.ground_model.specs.Fronts.{AreOfTurn, is_change}
use Rattle.ground_model.specs.Lines.{answering, in_line}
use Rattle.ground_model.specs.Own.{IsClient}
use Rattle.ground_model.specs.Runs.{Stands}
use Rattle.ground_model.specs.Scenes.{AreHeads, Scene}
use Rattle.ground_model.specs.Tables.{HasSeals}
use Rattle.ground_model.specs.Tests.{IsSetBy}
use Rattle.ground_model.specs.Turns.{IsAnsweredLink, IsLinkTurn}
use Rattle.ground_model.proofs.HeadsTold.{heads_tell}
use Rattle.ground_model.proofs.SealsStay.{table_goes_on}
use Rattle.ground_model.proofs.Testing.{standing_sound}
use Rattle.session.specs.Blocks.{IsFinished, head_with, made_at, made_of}
use Rattle.session.specs.Calls.{AnswersLine, IsIn, TurnCall}
use Rattle.session.specs.Ends.{GoesTo, TurnGoes}
use Rattle.session.specs.Links.{TriesToLink}
use Rattle.session.specs.Own.{IsAtRest, IsMergedIn, IsOwn, IsSeated, IsWritingBy, OwnsStage, OwnsUpdate}
use Rattle.session.specs.Safe.{object_of, root_of, serial_of, view_of}
use Rattle.session.specs.Shared.{RunStands, entries_of}
use Rattle.session.specs.declared.common.Common.{Common}
use Rattle.session.specs.declared.course.Course.{Course}
use Rattle.session.specs.declared.stage.Stage.{Stage}
use Rattle.session.specs.declared.turned.Fault.TheVariants as fault
use Rattle.session.specs.declared.turned.Turned.{Turned}
use Rattle.session.specs.declared.turned.Turned.TheVariants as turned
use Rattle.session.proofs.Appended.{appended_count, appended_line, appended_numbers, appended_room, appended_safe, appended_store, told_or, doubt_is, entries_are, heads_told, kept_is, locks_are, noted, store_is, table_is}
use Rattle.session.proofs.BlockLaws.{BlockLaws}
use Rattle.session.proofs.Choosing.{none_told}
use Rattle.session.proofs.Giving.{plain_locks}
use Rattle.session.proofs.Going.{turn_goes}
use Rattle.session.proofs.KeptBlocks.{kept_low}
use Rattle.session.proofs.Linked.{came_there, held_need, made_is, may_commit, unlocked_there, written_is}

-- the last answer of a client is there
last_there : (xs : List LineReply) (r : LineReply) → xs ++ r ∷ [] ≡ [] → ⊥
last_there [] r e = cc
last_there (x ∷ xs) r e = cc

-- a client that was answered is one of the run
answered_client : (s : Standing) (k : ℕ) (xs : List LineReply) (r : LineReply) → 1 ≤ k → (client_of s k).answers ≡ xs ++ r ∷ [] → IsClient s k
answered_client s k xs r low answers = record { low = low; high = by (le_or_more k (length s.clients)) }
  where
    le_or_more : (n m : ℕ) → (n ≤ m) ⊎ (m < n)
    le_or_more zero m = inl (omega arith)
    le_or_more (suc n) zero = inr (omega arith)
    le_or_more (suc n) (suc m) = elim (le_or_more n m) [ inl h ↦ inl (omega (arith, h)) | inr h ↦ inr (omega (arith, h)) ]

    past : (cs : List Client) (n : ℕ) → length cs ≤ n → get_or cs n newcomer ≡ newcomer
    past [] n h = refl
    past (c ∷ cs) zero h = absurd (omega (arith, h))
    past (c ∷ cs) (suc n) h = past cs n (omega (arith, h))

    by : (k ≤ length s.clients) ⊎ (length s.clients < k) → k ≤ length s.clients
    by (inl h) = h
    by (inr h) = absurd (last_there xs r (sym answers ∙ ap (λ (c : Client). c.answers) (past s.clients (k - 1) (omega (arith, h)))))

-- the serial of the one file whose version was made
serial_made : (u : Update) (w : Work) (made : Named) → u.works ≡ w ∷ [] → made.object ≡ w.object → serials_by (made ∷ []) (Some u) ≡ made.serial ∷ []
serial_made u w made works same =
    ap (map (serial_by (made ∷ []))) works
    ∙ ap (λ b. option_map_or (λ (n : Named). n.serial) (cond b (Some made) None) w.serial ∷ []) (eq-eqb made.object w.object same)

-- the entries of a commit in one turn
pub commit_moments : (now k : ℕ) (line : Line) (made : List Named) → AreOfTurn now (in_line k line (Committed made now) ∷ in_line k line Answered ∷ [])
commit_moments now k line made = record {
  moments = ap (λ b. b && (true && true)) (eq-eqb now now refl);
  one = (let n : count_by is_change (in_line k line (Committed made now) ∷ in_line k line Answered ∷ []) ≡ 1 = refl in omega (arith, n));
}

module _ {D : Type 0} (b : Ghosts D) (laws : b.tells → BlockLaws b) (script : ScriptValue) (c c1 c' : Common D) (s s' : Course) (flush : Plan) (top : ℕ) (result : Turned)
    (t : TriesToLink b script c c1 s flush top (Ok Set)) (f : IsFinished b script top c1 c' s s' result)
    (opening : State) (scripts : Scripts) (first : ℕ) (scene : Scene) (told : b.tells) (is : IsIn b (IsWritingBy flush) script c s opening scripts first scene) where
  abbrev m : IsMergedIn flush.written scripts scene script s
  m = is.mine.merged

  abbrev es : List Entry
  es = noted b script c c1 c' s s' flush top result t f

  came : IsSetBy b scene c.store c1.store m.work.object (serial_of s) (root_of s) top
  came = came_there b laws script c c1 s flush top (Ok Set) t opening scripts first scene is told

  turn : IsLinkTurn b scripts s.client scene c.store c1.store m.committing.line m.update m.work c'.map
  turn = record {
    may = may_commit scripts scene script s flush is.mine came.last (unlocked_there b laws script c c1 s flush top (Ok Set) t opening scripts first scene is);
    root = root_of s;
    top = top;
    tree = m.tree;
    draft = view_of s;
    plan = flush;
    written = written_is scripts scene script s flush is.mine came.last t.ready.all;
    first = t.ready.first;
    bytes = came.bytes;
    put = came.put;
    rewrites = came.rewrites;
    kept = subst (λ (old : List BlockState). Replaces s.client Kept old c'.map) is.stands.map (kept_is b script c c1 c' s s' flush top result t f);
  }

  -- the entries of its commit
  abbrev commit : List Entry
  commit = commit_entry scene.standing s.client m.committing.line m.update (b.moment c1.store) ∷ in_line s.client m.committing.line Answered ∷ []

  line_is : f.line ≡ m.committing.line
  line_is = some_is (sym f.next ∙ m.committing.next)

  made : made_by scene.standing.state m.update ≡ made_of s ∷ []
  made = made_is scripts scene script s flush is.mine came.last

  es_are : es ≡ commit
  es_are =
      ap (λ (l : Line). in_line s.client l (made_at s (b.moment c1.store)) ∷ in_line s.client l Answered ∷ []) line_is
      ∙ ap (λ (ns : List Named). in_line s.client m.committing.line (Committed ns (b.moment c1.store)) ∷ in_line s.client m.committing.line Answered ∷ []) (sym made)

  linked : (new : Scene) × Stands b opening scripts first new c1.store (entries_of c ++ commit) × IsAnsweredLink s.client scene new m.update (b.content c1.store) c'.map
      × HeadsGoOn scene new m.work.object top (need m.update)
  unfolding turn
  linked = (laws told).links opening scripts first s.client scene c.store c1.store (entries_of c) m.committing.line m.update m.work c'.map is.stands.stands turn

  abbrev new : Scene
  new = linked.0

  abbrev then : IsAnsweredLink s.client scene linked.0 m.update (b.content c1.store) c'.map
  then = linked.2

  stands_then : Stands b opening scripts first new c'.store (entries_of c')
  stands_then =
      let at : Stands b opening scripts first new c1.store (entries_of c ++ commit) = linked.1 in
      subst (λ (d : D). Stands b opening scripts first new d (entries_of c')) (sym (store_is b script c c1 c' s s' flush top result t f))
      (subst (λ xs. Stands b opening scripts first new c1.store xs)
      (ap (λ xs. entries_of c ++ xs) (sym es_are) ∙ sym (entries_are b script c c1 c' s s' flush top result t f)) at)

  -- what is told of the file
  heads_then : AreHeads new c'.heads.items
  heads_then = by (told_or c.heads.items (object_of s - 1))
    where
      object : object_of s ≡ m.work.object
      object = m.committing.plain.object

      low : 1 ≤ object_of s
      low = subst (λ n. 1 ≤ n) (sym object) m.merged.base.is.counts

      by : ((head : Head) × (slice_get c.heads.items (object_of s - 1) ≡ Some (Some head))) ⊎ ((head : Head) → slice_get c.heads.items (object_of s - 1) ≡ Some (Some head) → ⊥)
          → AreHeads new c'.heads.items
      by (inr none) = absurd (none_told b script c s (λ head has. none head has.1) opening scripts first scene (record { stands = is.stands; mine = m }))
      by (inl (head, at)) =
          let own = held_need scripts scene script s flush is.mine in
          let serial : head.serial ≡ serial_of s =
          (heads_tell scene c.heads.items (object_of s) head is.stands.stands.shared is.stands.heads low at).serial ∙ ap (last_serial scene.standing.state) object ∙ sym came.last in
          let few = kept_low scene c.heads.items (object_of s - 1) s.client head is.stands.stands.shared is.stands.heads m.committing.seated.client at in
          let holds = m.committing.held in
          let kept : min (head.kept + s.held) (2 ^ 32 - 1) ≡ head.kept + need m.update = omega (arith, few, holds, own) in
          let same : head_with (made_of s) top s.held head ≡ head_after head top (need m.update) =
          ap (λ n. (let x : Head = record { block = top; first = head.first; serial = n + 1; kept = min (head.kept + s.held) (2 ^ 32 - 1) } in x)) (sym serial)
          ∙ ap (λ n. (let x : Head = record { block = top; first = head.first; serial = head.serial + 1; kept = n } in x)) kept in
          let there : slice_get c.heads.items (m.work.object - 1) ≡ Some (Some head) = ap (λ n. slice_get c.heads.items (n - 1)) (sym object) ∙ at in
          subst (λ hs. AreHeads new hs)
          (ap (λ n. slice_set c.heads.items (n - 1) (Some (head_after head top (need m.update)))) (sym object)
          ∙ ap (λ h. slice_set c.heads.items (object_of s - 1) (Some h)) (sym same) ∙ sym (heads_told b script c c1 c' s s' flush top result t f head at))
          (linked.3 c.heads.items head is.stands.heads there)

  -- the seals, and the locks
  seals_then : HasSeals c'.table new.standing.state
  seals_then =
      subst (λ (x : TableValue). HasSeals x new.standing.state) (sym (table_is b script c c1 c' s s' flush top result t f))
      (table_goes_on opening scripts (entries_of c) commit scene.standing new.standing c.table is.stands.stands.reaches linked.1.reaches refl is.stands.seals)

  own_then : client_of new.standing s.client ≡ answering (record (client_of scene.standing s.client) { held = 0 }) (reply.Committed (serials_by (made_by scene.standing.state m.update) (Some m.update))) None
  own_then = then.own

  locked_then : (k object : ℕ) → 1 ≤ k → has_locked object (client_of new.standing k) ≡ has_locked object (client_of scene.standing k)
  locked_then k object low = by (cases_eq k s.client)
    where
      by : (k ≡ s.client) ⊎ (k ≢ s.client) → has_locked object (client_of new.standing k) ≡ has_locked object (client_of scene.standing k)
      by (inl e) =
          ap (λ n. has_locked object (client_of new.standing n)) e ∙ ap (has_locked object) own_then
          ∙ sym (plain_locks (client_of scene.standing s.client) m.update m.committing.is_open m.committing.plain.plain object) ∙ ap (λ n. has_locked object (client_of scene.standing n)) (sym e)
      by (inr ne) = ap (has_locked object) (then.leads.leaves k low ne).client

  run_then : RunStands b opening scripts first new c'
  run_then = record {
    stands = stands_then;
    sure = doubt_is b script c c1 c' s s' flush top result t f ∙ is.stands.sure;
    map = sym then.states_is;
    heads = heads_then;
    seals = seals_then;
    locks = λ k object low.
        let same = locks_are b script c c1 c' s s' flush top result t f in (
          λ holds. locked_then k object low ∙ (is.stands.locks k object low).0 (subst (λ (ls : List Lock). Holds k object ls) same holds),
          λ has. subst (λ (ls : List Lock). Holds k object ls) (sym same) ((is.stands.locks k object low).1 (sym (locked_then k object low) ∙ has)),
        );
  }

  -- ---- the turn

  leads_then : new.standing ≡ after_entries scripts scene.standing es
  leads_then =
      sym stands_then.reaches.leads
      ∙ ap (λ xs. after_entries scripts (start opening scripts) xs) (entries_are b script c c1 c' s s' flush top result t f)
      ∙ after_append scripts (start opening scripts) (entries_of c) es ∙ ap (λ (x : Standing). after_entries scripts x es) is.stands.stands.reaches.leads

  goes_then : GoesTo b opening scripts first scene new c c' s.client es
  goes_then = record {
    entries = entries_are b script c c1 c' s s' flush top result t f;
    of_client = record { own = own; due = (tt, (tt, tt)) };
    leads = leads_then;
    stands = run_then;
    others = then.leads.leaves;
  }
    where
      own : (n : ℕ) (e : Entry) → slice_get es n ≡ Some e → e.client ≡ s.client
      own zero e at = (let same : in_line s.client f.line (made_at s (b.moment c1.store)) ≡ e = cc in ap (λ (x : Entry). x.client) (sym same))
      own (suc zero) e at = (let same : in_line s.client f.line Answered ≡ e = cc in ap (λ (x : Entry). x.client) (sym same))
      own (suc (suc n)) e at = (let none : None ≡ Some e = at in absurd (cc none))

  -- the client rests, with its commit answered
  answers_then : (client_of new.standing s.client).answers ≡ s.replies.items ++ reply.Committed ((serial_of s + 1) ∷ []) ∷ []
  answers_then =
      ap (λ (x : Client). x.answers) own_then
      ∙ ap (λ ns. (client_of scene.standing s.client).answers ++ reply.Committed ns ∷ [])
      (ap (λ ns. serials_by ns (Some m.update)) made ∙ serial_made m.update m.work (made_of s) m.committing.plain.works m.committing.plain.object)
      ∙ ap (λ xs. xs ++ reply.Committed ((serial_of s + 1) ∷ []) ∷ []) m.committing.seated.answers

  same_client : s'.client ≡ s.client
  same_client = ap (λ (x : Course). x.client) f.course

  seated_then : IsSeated scripts new script s'
  seated_then = record {
    client = subst (λ k. IsClient new.standing k) (sym same_client) (answered_client new.standing s.client s.replies.items _ m.committing.seated.client.low answers_then);
    its_script = ap (λ k. slice_get scripts (k - 1)) same_client ∙ m.committing.seated.its_script;
    answers = ap (λ k. (client_of new.standing k).answers) same_client ∙ answers_then ∙ sym (ap (λ (x : Course). x.replies.items) f.course);
    idle = idle;
  }
    where
      idle : (up : Upkeep) → new.standing.upkeep ≡ Some up → up.client ≢ s'.client
      idle up at e =
          let starts = ((standing_sound b opening scripts first new c'.store (entries_of c') stands_then).upkeep up at).1 in
          let none : list_any is_starting (client_of new.standing up.client).noted ≡ false =
          ap (λ k. list_any is_starting (client_of new.standing k).noted) (e ∙ same_client) ∙ ap (λ (x : Client). list_any is_starting x.noted) own_then in
          true≢false (sym starts ∙ none)

  rest_then : IsAtRest scripts new script s'
  rest_then = record {
    seated = seated_then;
    fresh = ap (λ k. (client_of new.standing k).noted) same_client ∙ ap (λ (x : Client). x.noted) own_then;
    held = ap (λ k. (client_of new.standing k).held) same_client ∙ ap (λ (x : Client). x.held) own_then;
    none = ap (λ (x : Course). x.held) f.course;
    update =
        subst (λ (o : Option Update). OwnsUpdate new script s' o) (sym (ap (λ k. (client_of new.standing k).update) same_client ∙ ap (λ (x : Client). x.update) own_then)) f.drafts.none;
    closed = λ last. f.drafts.none;
    turns = (let none : s'.turns ≡ 0 = ap (λ (x : Course). x.turns) f.course in omega (arith, none));
  }

  mine_then : IsOwn scripts new script s'
  mine_then =
      subst (λ (x : Stage). OwnsStage scripts new script s' x) (sym (ap (λ (x : Course). x.stage) f.course ∙ t.ready.ready.stage)) rest_then

  pub committed_goes : TurnGoes b opening scripts first scene c c' script s'
  committed_goes =
      turn_goes b opening scripts first scene new c c' script s' s.client es same_client goes_then
      (subst (λ (d : D). AreOfTurn (b.moment d) es) (sym (store_is b script c c1 c' s s' flush top result t f)) (commit_moments (b.moment c1.store) s.client f.line (made_of s ∷ [])))
      mine_then

-- the turn of a commit whose link was set
pub committed_call : {D : Type 0} (b : Ghosts D) → (b.tells → BlockLaws b) → (script : ScriptValue) (c c1 c' : Common D) (s s' : Course) (flush : Plan) (top : ℕ) (result : Turned)
    → TriesToLink b script c c1 s flush top (Ok Set) → IsFinished b script top c1 c' s s' result → TurnCall b (IsWritingBy flush) script c c' s s' result
committed_call b laws script c c1 c' s s' flush top result t f =
    subst (λ (r : Turned). TurnCall b (IsWritingBy flush) script c c' s s' r) (sym f.answer) (record {
      store = appended_store b script c c1 c' s s' flush top result t f;
      safe = appended_safe b script c c1 c' s s' flush top result t f;
      numbers = appended_numbers b script c c1 c' s s' flush top result t f;
      client = ap (λ (x : Course). x.client) f.course;
      entries = appended_room b script c c1 c' s s' flush top result t f;
      lines = subst (AnswersLine script s s') f.answer (appended_line b script c c1 c' s s' flush top result t f);
      counts = (ap (λ (x : Course). x.turns) f.course, ap (λ (x : Course). x.stage) f.course ∙ t.ready.ready.stage);
      rest = λ told was. subst (λ (d : _). b.rest d) (sym (store_is b script c c1 c' s s' flush top result t f)) (t.tried.rest told was);
      counted = inr (appended_count b script c c1 c' s s' flush top result t f);
      stopped = λ h is. (let wrong : turned.Line f.line.number ≡ turned.Stopped (fault.Drive h) = is in absurd cc);
      turns = λ told opening scripts first scene is. committed_goes b laws script c c1 c' s s' flush top result t f opening scripts first scene told is;
    })

pub committed_by : {D : Type 0} (b : Ghosts D) → (b.tells → BlockLaws b) → (script : ScriptValue) (c c1 c' : Common D) (s s' : Course) (flush : Plan) (top : ℕ) (result : Turned)
    (tested : Result Tas PairFault) → TriesToLink b script c c1 s flush top tested → (outcome : Tas) → tested ≡ Ok outcome → outcome ≡ Set
    → IsFinished b script top c1 c' s s' result → TurnCall b (IsWritingBy flush) script c c' s s' result
committed_by b laws script c c1 c' s s' flush top result tested t outcome is set f =
    committed_call b laws script c c1 c' s s' flush top result (subst (λ x. TriesToLink b script c c1 s flush top x) (is ∙ ap (λ (x : Tas). Ok x) set) t) f
