-- A commit's line that ends its update: by its refusal, or as nothing was written.
use Rattle.std.proofs.Common.{◌≡◌, ◌≢◌, inl, ℕ, zero, suc, ◌+◌, ◌<◌, ◌≤◌, Bool, false, List, [], ◌∷◌, ◌++◌, length, length-append, Option, Some, None, refl, sym, ap, ◌∙◌, subst, arith, slice_get, append_assoc, ◌&&◌}
use Rattle.std.specs.Prelude.{IfSome}
use Rattle.std.specs.Option.{option_map_or}
use Rattle.block_map.specs.States.{held_count}
use Rattle.block_map.specs.declared.states.BlockState.{BlockState}
use Rattle.pair_store.specs.declared.store.Blocks.{Ghosts}
use Rattle.pool_draft.specs.Sets.{roots_of}
use Rattle.script_text.specs.ScriptValue.{ScriptValue}
use Rattle.script_text.specs.declared.reply.LineReply.{LineReply}
use Rattle.script_text.specs.declared.script.Line.{Line}
use Rattle.service_model.specs.declared.journal.Entry.{Entry}
use Rattle.service_model.specs.declared.journal.What.{What}
use Rattle.service_model.specs.declared.journal.What.TheVariants.{Answered}
use Rattle.service_model.specs.Entries.{after_entries}
use Rattle.service_model.specs.Order.{IsDue}
use Rattle.service_model.specs.Standing.{Scripts, Standing, Client, Update, client_of, has_file, has_locked}
use Rattle.store_model.proofs.Edits.{some_is}
use Rattle.tree_model.specs.States.{State}
use Rattle.ground_model.specs.Fronts.{AreOfTurn}
use Rattle.ground_model.specs.LineTurns.{IsMapStep}
use Rattle.ground_model.specs.Lines.{Notes, in_line}
use Rattle.ground_model.specs.Runs.{IsRead}
use Rattle.ground_model.specs.Scenes.{Scene, IsLinking}
use Rattle.ground_model.specs.Steps.{moved_to}
use Rattle.ground_model.proofs.Lines.{became}
use Rattle.session.specs.Answers.{AreLeft, EndsAlone, IsAnswered, IsCleared, NotesAlone, ending, gives_up, locks_left}
use Rattle.session.specs.Calls.{IsIn, IsReady, KeepsNumbers, KeepsRoom, Own, TurnCall}
use Rattle.session.specs.Ends.{AreOf, GoesTo, TurnGoes}
use Rattle.session.specs.Own.{IsAtRest, IsSeated, OwnsStage, OwnsUpdate}
use Rattle.session.specs.Safe.{AreSafeDrafts, IsSafe, IsSafeStage, drafts_of, line_of, noted_for}
use Rattle.session.specs.Shared.{AreLocksIn, RunStands, entries_of}
use Rattle.session.specs.Values.{IsNoted, entries_in}
use Rattle.session.specs.declared.common.Common.{Common}
use Rattle.session.specs.declared.course.Course.{Course}
use Rattle.session.specs.declared.log.Log.{Log}
use Rattle.session.specs.declared.stage.Stage.TheVariants as stage
use Rattle.session.specs.declared.turned.Turned.{Turned}
use Rattle.session.specs.declared.turned.Turned.TheVariants as turned
use Rattle.session.proofs.BlockLaws.{BlockLaws}
use Rattle.session.proofs.Counting.{same_rest}
use Rattle.session.proofs.Going.{SharesOn, goes_line, locks_kept, seated_on, turn_goes}

-- ---- what the code did

-- The line under way noted this, and was answered so; the update is over, and the client holds n blocks of this map.
pub record IsOver {D : Type 0} (script : ScriptValue) (line : Line) (said : What) (reply : LineReply) (states : List BlockState) (n : ℕ) (c c' : Common D) (s s' : Course) : Type 0 where
  pub next : line_of script s ≡ Some line
  pub only : c' ≡ record c { map = states; log = c'.log }
  pub noted : IsNoted c.log c'.log (in_line s.client line said ∷ in_line s.client line Answered ∷ [])
  pub drafts : IsCleared s'.drafts
  pub course : s' ≡ record s { replies = record s.replies { items = s.replies.items ++ reply ∷ [] }; drafts = s'.drafts; held = n; turns = 0 }

noted_twice : (old mid new : Log) (es fs : List Entry) → IsNoted old mid es → IsNoted mid new fs → IsNoted old new (es ++ fs)
noted_twice old mid new es fs one two = record {
  entries = two.entries ∙ ap (λ xs. xs ++ fs) one.entries ∙ append_assoc (entries_in old) es fs;
  room = two.room ∙ one.room;
  doubt = two.doubt ∙ one.doubt;
}

pub some_here : {A : Type 0} (P : A → Type 0) (o : Option A) (x : A) → IfSome o P → o ≡ Some x → P x
some_here P o x holds is = subst (λ (q : Option _). IfSome q P) is holds

-- where the locks are the same, entries were noted and nothing else
pub ends_notes : {D : Type 0} (c c' : Common D) (es : List Entry) → EndsAlone c c' es c.locks → NotesAlone c c' es
ends_notes c c' es n = record { only = n.only; noted = n.noted }

-- a line that notes something, lets the drafts go and is answered
pub over_by : {D : Type 0} (script : ScriptValue) (line : Line) (said : What) (reply : LineReply) (states : List BlockState) (n : ℕ) (c d e c' : Common D) (s t u s' : Course)
    → line_of script s ≡ Some line → d ≡ record c { map = states } → t ≡ record s { held = n }
    → IfSome (line_of script t) (λ x. NotesAlone d e (in_line t.client x said ∷ []))
    → u ≡ record t { drafts = u.drafts } → IsCleared u.drafts
    → IfSome (line_of script u) (λ x. IsAnswered script x reply e c' u s') → IsOver script line said reply states n c c' s s'
over_by {D} script line said reply states n c d e c' s t u s' next d_is t_is note u_is cleared answer =
    over (some_here _ _ line note (ap (λ (x : Course). line_of script x) t_is ∙ next))
    (some_here _ _ line answer (ap (λ (x : Course). line_of script x) u_is ∙ ap (λ (x : Course). line_of script x) t_is ∙ next))
  where
    none : gives_up script u (roots_of u.drafts) ≡ false
    none = ap (gives_up script u) cleared.none

    client : u.client ≡ s.client
    client = ap (λ (x : Course). x.client) u_is ∙ ap (λ (x : Course). x.client) t_is

    over : NotesAlone d e (in_line t.client line said ∷ []) → IsAnswered script line reply e c' u s' → IsOver script line said reply states n c c' s s'
    over one two =
        let left : s'.drafts ≡ u.drafts = subst (AreLeft u.drafts s'.drafts) none two.drafts in
        let ends : NotesAlone e c' (in_line s.client line Answered ∷ []) =
        subst (λ (k : ℕ). NotesAlone e c' (in_line k line Answered ∷ [])) client (ends_notes e c' (ending u.client line false) (subst (λ (b : Bool). EndsAlone e c' (ending u.client line b) (locks_left u.client e.locks b)) none two.noted)) in
        let first : NotesAlone d e (in_line s.client line said ∷ []) = subst (λ (k : ℕ). NotesAlone d e (in_line k line said ∷ [])) (ap (λ (x : Course). x.client) t_is) one in
        record {
          next = next;
          only = ends.only ∙ ap (λ (x : Common D). record x { log = c'.log }) first.only ∙ ap (λ (x : Common D). record x { log = c'.log }) d_is;
          noted = noted_twice c.log e.log c'.log _ _ (subst (λ (l : Log). IsNoted l e.log (in_line s.client line said ∷ [])) (ap (λ (x : Common D). x.log) d_is) first.noted) ends.noted;
          drafts = subst IsCleared (sym left) cleared;
          course =
              two.only
              ∙ ap (λ (x : Course). record x { replies = record x.replies { items = x.replies.items ++ reply ∷ [] }; drafts = s'.drafts; turns = 0 }) (u_is ∙ ap (λ (x : Course). record x { drafts = u.drafts }) t_is);
        }

-- ---- what it is as a turn

-- The map has as many blocks, each other client holds as many of them, and this one n.
pub record KeepsHeld (k n : ℕ) (old new : List BlockState) : Type 0 where
  pub size : length new ≡ length old
  pub others : (j : ℕ) → j ≢ k → held_count j new ≡ held_count j old
  pub own : held_count k new ≡ n

module _ {D : Type 0} (b : Ghosts D) (script : ScriptValue) (line : Line) (said : What) (reply : LineReply) (states : List BlockState) (n : ℕ) (c c' : Common D) (s s' : Course)
    (ready : IsReady b script c s) (over : IsOver script line said reply states n c c' s s') (keeps : KeepsHeld s.client n c.map states) where
  items : s'.replies.items ≡ s.replies.items ++ reply ∷ []
  items = ap (λ (x : Course). x.replies.items) over.course

  client_same : s'.client ≡ s.client
  client_same = ap (λ (x : Course). x.client) over.course

  many : length s'.replies.items ≡ length s.replies.items + 1
  many = ap length items ∙ length-append s.replies.items (reply ∷ [])

  same_store : c'.store ≡ c.store
  same_store = ap (λ (x : Common D). x.store) over.only

  map_now : c'.map ≡ states
  map_now = ap (λ (x : Common D). x.map) over.only

  resting : s'.stage ≡ stage.Resting
  resting = ap (λ (x : Course). x.stage) over.course ∙ ready.stage

  no_drafts : (size : ℕ) → AreSafeDrafts size s'.drafts (drafts_of s')
  no_drafts size = subst (AreSafeDrafts size s'.drafts) (sym over.drafts.none) (over.drafts.count, over.drafts.fed)

  safe_then : IsSafe (b.size c'.store) c'.map script s'
  safe_then = record {
    lines = (let low = ready.line in let e = many in omega (arith, low, e));
    room = (let fits = ready.safe.room in let e : s'.replies.room ≡ s.replies.room = ap (λ (x : Course). x.replies.room) over.course in omega (arith, fits, e));
    held = ap (λ (xs : List BlockState). held_count s'.client xs) map_now ∙ ap (λ (k : ℕ). held_count k states) client_same ∙ keeps.own ∙ sym (ap (λ (x : Course). x.held) over.course);
    drafts = no_drafts (b.size c'.store);
    stage = subst (IsSafeStage (length c'.map) s') (sym resting) tt;
  }

  numbers_then : KeepsNumbers b c c' s.client
  numbers_then = record {
    size = ap b.size same_store;
    blocks = ap length map_now ∙ keeps.size;
    others = λ j ne. ap (held_count j) map_now ∙ keeps.others j ne;
    room = over.noted.room;
    faults = λ h. (let e : b.faults c'.store h ≡ b.faults c.store h = ap (λ (d : D). b.faults d h) same_store in omega (arith, e));
    last = λ h. (let e : b.last_fault c'.store h ≡ b.last_fault c.store h = ap (λ (d : D). b.last_fault d h) same_store in omega (arith, e));
  }

  few : (m : ℕ) → noted_for m ≤ 1
  few zero = omega arith
  few (suc m) = omega arith

  room_then : KeepsRoom script c c' s s'
  room_then =
      let more : length (entries_of c') ≡ length (entries_of c) + 2 =
      ap length over.noted.entries ∙ length-append (entries_of c) (in_line s.client line said ∷ in_line s.client line Answered ∷ []) in
      let low = ready.line in
      let e = many in
      let one = few s.held in
      omega (arith, more, low, e, one)

  pub over_call : (own : Own) (result : Turned) → result ≡ turned.Line line.number
      → (b.tells → (opening : State) (scripts : Scripts) (first : ℕ) (scene : Scene) → IsIn b own script c s opening scripts first scene → TurnGoes b opening scripts first scene c c' script s')
      → TurnCall b own script c c' s s' result
  over_call own result is goes =
      subst (λ (r : Turned). TurnCall b own script c c' s s' r) (sym is) (record {
        store = record {
          heads = λ k head at. subst (λ (x : Common D). head.block < b.size x.store) (sym over.only)
              (ready.store.heads k head (subst (λ (x : Common D). slice_get x.heads.items k ≡ Some (Some head)) over.only at));
          named = λ k head at. ready.store.named k head (subst (λ (x : Common D). slice_get x.heads.items k ≡ Some (Some head)) over.only at);
          map = (let fits = ready.store.map in let e : length c'.map ≡ length c.map = ap length map_now ∙ keeps.size in let f : b.size c'.store ≡ b.size c.store = ap b.size same_store in omega (arith, fits, e, f));
        };
        safe = safe_then;
        numbers = numbers_then;
        client = client_same;
        entries = room_then;
        lines = (line, reply, over.next, refl, ap (λ (x : Course). x.replies) over.course);
        counts = (ap (λ (x : Course). x.turns) over.course, resting);
        rest = same_rest b c.store c'.store same_store;
        counted = inl (ap b.count same_store);
        stopped = λ h e. absurd (cc e);
        turns = goes;
      })

  -- ---- where contents are told

  shares : SharesOn c c' (in_line s.client line said ∷ in_line s.client line Answered ∷ []) states
  shares = record {
    entries = over.noted.entries;
    doubt = over.noted.doubt;
    map = map_now;
    heads = ap (λ (x : Common D). x.heads.items) over.only;
    table = ap (λ (x : Common D). x.table) over.only;
  }

  -- What is known of the entries and of the client in a scene.
  pub record EndsIn (scripts : Scripts) (scene : Scene) (client : Client) : Type 0 where
    pub seated : IsSeated scripts scene script s
    pub plain : (object : ℕ) → has_locked object (client_of scene.standing s.client) ≡ false
    pub notes : Notes scripts scene.standing s.client (in_line s.client line said ∷ in_line s.client line Answered ∷ []) client
    pub answers : client.answers ≡ (client_of scene.standing s.client).answers ++ reply ∷ []
    pub no_update : client.update ≡ None
    pub fresh : client.noted ≡ []
    pub none : client.held ≡ 0
    pub held : n ≡ 0
    pub links : (object : ℕ) (l : IsLinking scene.standing object) → l.client ≢ s.client
    pub map : IsMapStep s.client scene states (after_entries scripts scene.standing (in_line s.client line said ∷ in_line s.client line Answered ∷ []))
    pub moments : AreOfTurn (b.moment c'.store) (in_line s.client line said ∷ in_line s.client line Answered ∷ [])
    pub due : IsDue scene.standing s.client said

  module _ (laws : BlockLaws b) (opening : State) (scripts : Scripts) (first : ℕ) (scene : Scene) (client : Client) (st : RunStands b opening scripts first scene c) (ends : EndsIn scripts scene client) where
    abbrev es : List Entry
    es = in_line s.client line said ∷ in_line s.client line Answered ∷ []

    abbrev standing : Standing
    standing = after_entries scripts scene.standing es

    own_now : client_of standing s'.client ≡ client
    own_now = ap (client_of standing) client_same ∙ became scene.standing standing s.client client ends.seated.client ends.notes.becomes

    at_rest : IsAtRest scripts (moved_to scene (b.content c'.store) states standing) script s'
    at_rest = record {
      seated = seated_on scripts scene script s s' (b.content c'.store) states es client ends.seated ends.notes client_same (ends.answers ∙ ap (λ xs. xs ++ reply ∷ []) ends.seated.answers ∙ sym items);
      fresh = ap (λ (x : Client). x.noted) own_now ∙ ends.fresh;
      held = ap (λ (x : Client). x.held) own_now ∙ ends.none;
      none = ap (λ (x : Course). x.held) over.course ∙ ends.held;
      update = subst (OwnsUpdate (moved_to scene (b.content c'.store) states standing) script s') (sym (ap (λ (x : Client). x.update) own_now ∙ ends.no_update)) over.drafts.none;
      closed = λ last. over.drafts.none;
      turns = (let none : s'.turns ≡ 0 = ap (λ (x : Course). x.turns) over.course in omega (arith, none));
    }

    of_client : AreOf scripts scene.standing s.client es
    of_client = record { own = whose; due = (ends.due, (tt, tt)) }
      where
        whose : (m : ℕ) (e : Entry) → slice_get es m ≡ Some e → e.client ≡ s.client
        whose zero e at = ap (λ (x : Entry). x.client) (sym (some_is at))
        whose (suc zero) e at = ap (λ (x : Entry). x.client) (sym (some_is at))
        whose (suc (suc m)) e at = absurd (cc at)

    unlocked : (object : ℕ) → has_locked object client ≡ has_locked object (client_of scene.standing s.client)
    unlocked object = ap (λ (o : Option Update). option_map_or (λ u. u.is_super && has_file object u) o false) ends.no_update ∙ sym (ends.plain object)

    locks_then : AreLocksIn standing c'.locks
    locks_then =
        locks_kept scripts s.client scene es client ends.seated.client.low ends.notes.becomes ends.seated.client c.locks c'.locks st.locks
        (ap (λ (x : Common D). x.locks) over.only) unlocked

    goes_over : GoesTo b opening scripts first scene (moved_to scene (b.content c'.store) states standing) c c' s.client es
    goes_over =
        goes_line b laws.lines opening scripts first s.client scene c c' es client states st
        (record {
          client = ends.seated.client;
          notes = ends.notes;
          links = ends.links;
          map = ends.map;
          read = subst (λ (d : D). IsRead b c.store d) (sym same_store) (laws.calm c.store);
          moments = ends.moments;
        }) shares locks_then of_client

    pub over_goes : TurnGoes b opening scripts first scene c c' script s'
    over_goes =
        turn_goes b opening scripts first scene (moved_to scene (b.content c'.store) states standing) c c' script s' s.client es client_same goes_over ends.moments
        (subst (OwnsStage scripts (moved_to scene (b.content c'.store) states standing) script s') (sym resting) at_rest)
