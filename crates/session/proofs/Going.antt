-- How a turn of a line that writes nothing goes on to another scene.
use Rattle.std.proofs.Common.{◌≡◌, ◌≢◌, ◌⊎◌, ◌↔◌, inl, inr, ℕ, ◌-◌, ◌≤◌, Bool, true, false, true≢false, List, [], ◌∷◌, ◌++◌, refl, sym, ap, ◌∙◌, subst, arith, slice_get, append-nil, append_assoc}
use Rattle.std.specs.Prelude.{slice_index_or}
use Rattle.std.specs.List.{list_all, list_any}
use Rattle.std.specs.Cmp.{first_so, second_so}
use Rattle.std.proofs.lemmas.Bool.{cases_eq}
use Rattle.block_map.specs.declared.states.BlockState.{BlockState}
use Rattle.caps.specs.Tables.{seal_of}
use Rattle.page_codec.specs.Values.{TableValue}
use Rattle.pair_store.specs.declared.store.Blocks.{Ghosts}
use Rattle.script_text.specs.ScriptValue.{ScriptValue}
use Rattle.service_model.specs.declared.journal.Entry.{Entry}
use Rattle.service_model.specs.declared.journal.What.{What}
use Rattle.service_model.specs.declared.journal.What.TheVariants as what
use Rattle.service_model.specs.Entries.{after_entries, after_entry}
use Rattle.service_model.specs.Order.{IsDue}
use Rattle.service_model.specs.Standing.{Scripts, Standing, Client, client_of, has_locked, newcomer, seal_in}
use Rattle.service_model.proofs.Journals.{apart, set_other}
use Rattle.super_files.specs.Locks.{Holds, without}
use Rattle.super_files.specs.declared.locks.Lock.{Lock}
use Rattle.store_changes.specs.Writes.{Content}
use Rattle.tree_model.specs.States.{State}
use Rattle.ground_model.specs.Fronts.{AreOfTurn}
use Rattle.ground_model.specs.LineTurns.{IsLineTurn, LineTurnStands}
use Rattle.ground_model.specs.Lines.{Becomes, Notes}
use Rattle.ground_model.specs.Own.{IsClient}
use Rattle.ground_model.specs.Quiet.{IsQuietTurn}
use Rattle.ground_model.specs.Runs.{IsRead, Stands}
use Rattle.ground_model.specs.Scenes.{Scene, IsLinking, IsMapped}
use Rattle.ground_model.specs.Steps.{ChangesOnly, moved_to}
use Rattle.ground_model.proofs.Lines.{became, changes_only, still_client}
use Rattle.ground_model.proofs.Noted.{nothing_is_noted}
use Rattle.ground_model.proofs.QuietTurns.{same_held}
use Rattle.session.specs.Answers.{NotesAlone}
use Rattle.play_order.specs.Orders.{AreDue}
use Rattle.session.specs.Ends.{AreOf, GoesTo, TurnGoes}
use Rattle.session.specs.Own.{IsOwn, IsSeated}
use Rattle.session.specs.Reads.{StoreAlone}
use Rattle.session.specs.Shared.{AreLocksIn, RunStands, doubt_of, entries_of}
use Rattle.session.specs.declared.common.Common.{Common}
use Rattle.session.specs.declared.course.Course.{Course}
use Rattle.session.proofs.Calling.{of_none}
use Rattle.session.proofs.Released.{is_his, none_without, others_without}

-- ---- entries that are due

-- What an entry says is due wherever it comes: all but the blocks of a commit that are held, and its refusal.
abbrev pub is_always_due : What → Bool
is_always_due (what.Held blocks) = false
is_always_due (what.Refused why) = false
is_always_due _ = true

one_due : (s : Standing) (k : ℕ) (said : What) → is_always_due said ≡ true → IsDue s k said
one_due s k (what.Began bases) h = tt
one_due s k (what.Held blocks) h = (let wrong : false ≡ true = h in absurd (cc wrong))
one_due s k (what.Committed made at) h = tt
one_due s k (what.Refused why) h = (let wrong : false ≡ true = h in absurd (cc wrong))
one_due s k what.GivenUp h = tt
one_due s k what.Started h = tt
one_due s k (what.Created object at) h = tt
one_due s k (what.Destroyed object blocks at) h = tt
one_due s k (what.Pruned object first blocks at) h = tt
one_due s k what.Answered h = tt

pub always_due : (scripts : Scripts) (s : Standing) (es : List Entry) → list_all (λ (e : Entry). is_always_due e.what) es ≡ true → AreDue scripts s es
always_due scripts s [] h = tt
always_due scripts s (e ∷ es) h = (
  one_due s e.client e.what (first_so (is_always_due e.what) (list_all (λ (x : Entry). is_always_due x.what) es) h),
  always_due scripts (after_entry scripts s e) es (second_so (is_always_due e.what) (list_all (λ (x : Entry). is_always_due x.what) es) h),
)

-- ---- what is shared

-- These entries were noted, the map is this one now, and nothing else of what is shared changed but the store and the locks.
pub record SharesOn {D : Type 0} (c c' : Common D) (es : List Entry) (states : List BlockState) : Type 0 where
  pub entries : entries_of c' ≡ entries_of c ++ es
  pub doubt : doubt_of c' ≡ doubt_of c
  pub map : c'.map ≡ states
  pub heads : c'.heads.items ≡ c.heads.items
  pub table : c'.table ≡ c.table

pub shares_same : {D : Type 0} (c : Common D) → SharesOn c c [] c.map
shares_same c = record { entries = sym (append-nil (entries_of c)); doubt = refl; map = refl; heads = refl; table = refl }

pub shares_noted : {D : Type 0} (c c' : Common D) (es : List Entry) → NotesAlone c c' es → SharesOn c c' es c.map
shares_noted {D} c c' es n = record {
  entries = n.noted.entries;
  doubt = n.noted.doubt;
  map = ap (λ (x : Common D). x.map) n.only;
  heads = ap (λ (x : Common D). x.heads.items) n.only;
  table = ap (λ (x : Common D). x.table) n.only;
}

pub shares_read : {D : Type 0} (b : Ghosts D) (c c' : Common D) → StoreAlone b c c' → SharesOn c c' [] c.map
shares_read {D} b c c' alone = record {
  entries = ap (λ (x : Common D). entries_of x) alone.only ∙ sym (append-nil (entries_of c));
  doubt = ap (λ (x : Common D). doubt_of x) alone.only;
  map = ap (λ (x : Common D). x.map) alone.only;
  heads = ap (λ (x : Common D). x.heads.items) alone.only;
  table = ap (λ (x : Common D). x.table) alone.only;
}

-- one part after the other, where the second leaves the map
pub shares_trans : {D : Type 0} (c mid c' : Common D) (es fs : List Entry) (states : List BlockState) → SharesOn c mid es states → SharesOn mid c' fs mid.map → SharesOn c c' (es ++ fs) states
shares_trans c mid c' es fs states one two = record {
  entries = two.entries ∙ ap (λ xs. xs ++ fs) one.entries ∙ append_assoc (entries_of c) es fs;
  doubt = two.doubt ∙ one.doubt;
  map = two.map ∙ one.map;
  heads = two.heads ∙ one.heads;
  table = two.table ∙ one.table;
}

-- ---- locks

-- Each object that client k has locked then it has locked now, and the other way round.
abbrev pub LocksAlike : Client → Client → Type 0
LocksAlike old new = (object : ℕ) → has_locked object new ≡ has_locked object old

-- What is said of the locks after the entries of a line of client k, which is that client then.
module _ (scripts : Scripts) (k : ℕ) (scene : Scene) (fs : List Entry) (client : Client) (low : 1 ≤ k) (becomes : Becomes k client scene.standing (after_entries scripts scene.standing fs)) (is : IsClient scene.standing k)
    (old new : List Lock) (locks : AreLocksIn scene.standing old) where
  abbrev then : Standing
  then = after_entries scripts scene.standing fs

  own_then : client_of then k ≡ client
  own_then = became scene.standing then k client is becomes

  other_then : (j : ℕ) → 1 ≤ j → j ≢ k → client_of then j ≡ client_of scene.standing j
  other_then j low_j ne =
      ap (λ cs. slice_index_or cs (j - 1) newcomer) becomes.clients
      ∙ set_other scene.standing.clients (k - 1) (j - 1) client newcomer (apart k j low low_j ne)

  -- the same locks stand where the client has the same files locked
  pub locks_kept : new ≡ old → LocksAlike (client_of scene.standing k) client → AreLocksIn then new
  locks_kept same alike j object low_j = (
    λ holds. locked j low_j (cases_eq j k) ∙ (locks j object low_j).0 (subst (λ (ls : List Lock). Holds j object ls) same holds),
    λ has. subst (λ (ls : List Lock). Holds j object ls) (sym same) ((locks j object low_j).1 (sym (locked j low_j (cases_eq j k)) ∙ has)),
  )
    where
      locked : (j : ℕ) → 1 ≤ j → (j ≡ k) ⊎ (j ≢ k) → has_locked object (client_of then j) ≡ has_locked object (client_of scene.standing j)
      locked j low_j (inl e) =
          ap (λ n. has_locked object (client_of then n)) e ∙ ap (has_locked object) own_then ∙ alike object
          ∙ ap (λ n. has_locked object (client_of scene.standing n)) (sym e)
      locked j low_j (inr ne) = ap (has_locked object) (other_then j low_j ne)

  -- and those of the others stand where it has none locked
  pub locks_go : new ≡ without k old → ((object : ℕ) → has_locked object client ≡ false) → AreLocksIn then new
  locks_go same none j object low_j = by (cases_eq j k)
    where
      by : (j ≡ k) ⊎ (j ≢ k) → Holds j object new ↔ (has_locked object (client_of then j) ≡ true)
      by (inl e) =
          let off : has_locked object (client_of then j) ≡ false = ap (λ n. has_locked object (client_of then n)) e ∙ ap (has_locked object) own_then ∙ none object in (
            λ holds. absurd (true≢false (sym holds ∙ ap (list_any (is_his j object)) same ∙ ap (λ n. list_any (is_his n object) (without k old)) e ∙ none_without k object old)),
            λ has. absurd (true≢false (sym has ∙ off)),
          )
      by (inr ne) =
          let there : list_any (is_his j object) new ≡ list_any (is_his j object) old = ap (list_any (is_his j object)) same ∙ others_without k j object old ne in (
            λ holds. ap (has_locked object) (other_then j low_j ne) ∙ (locks j object low_j).0 (sym there ∙ holds),
            λ has. there ∙ (locks j object low_j).1 (sym (ap (has_locked object) (other_then j low_j ne)) ∙ has),
          )

-- ---- scenes

-- The scene after a turn of client k that wrote nothing.
abbrev pub scene_after : {D : Type 0} → Ghosts D → Scripts → Scene → Common D → List BlockState → List Entry → Scene
scene_after b scripts scene c' states es = moved_to scene (b.content c'.store) states (after_entries scripts scene.standing es)

module _ {D : Type 0} (b : Ghosts D) (law : LineTurnStands b) (opening : State) (scripts : Scripts) (first k : ℕ) (scene : Scene) (c c' : Common D) (fs : List Entry) (client : Client) (states : List BlockState)
    (st : RunStands b opening scripts first scene c) (turn : IsLineTurn b scripts k scene c.store c'.store fs client states) (shares : SharesOn c c' fs states)
    (locks : AreLocksIn (after_entries scripts scene.standing fs) c'.locks) where
  abbrev after : Scene
  after = moved_to scene (b.content c'.store) states (after_entries scripts scene.standing fs)

  goes_on : RunStands b opening scripts first after c'
  goes_on = record {
    stands = subst (λ xs. Stands b opening scripts first after c'.store xs) (sym shares.entries)
        (law opening scripts first k scene c.store c'.store (entries_of c) fs client states st.stands turn).0;
    sure = shares.doubt ∙ st.sure;
    map = shares.map;
    heads = shares.heads ∙ st.heads;
    seals = λ object. ap (λ (t : TableValue). seal_of t object) shares.table ∙ st.seals object ∙ ap (λ (x : State). seal_in x object) (sym turn.notes.becomes.state);
    locks = locks;
  }

  -- the run goes on in the scene with that map and those entries noted
  pub goes_line : AreOf scripts scene.standing k fs → GoesTo b opening scripts first scene (moved_to scene (b.content c'.store) states (after_entries scripts scene.standing fs)) c c' k fs
  goes_line of_client = record {
    entries = shares.entries;
    of_client = of_client;
    leads = refl;
    stands = goes_on;
    others = (law opening scripts first k scene c.store c'.store (entries_of c) fs client states st.stands turn).1.leaves;
  }

-- ---- where no block is taken or given back

-- a quiet turn leaves the map as it was
pub quiet_is_line : {D : Type 0} (b : Ghosts D) (scripts : Scripts) (k : ℕ) (scene : Scene) (before later : D) (es : List Entry) (client : Client) → IsMapped scene
    → IsQuietTurn b scripts k scene before later es client → IsLineTurn b scripts k scene before later es client scene.states
quiet_is_line b scripts k scene before later es client mapped turn = record {
  client = turn.client;
  notes = turn.notes;
  links = turn.links;
  map = record {
    size = refl;
    fixed = λ n s is. (λ e. e, λ e. e);
    held = λ j. mapped.held j ∙ same_held scene.standing (after_entries scripts scene.standing es) k only.others (ap (λ (x : Client). x.held) own ∙ turn.held) j;
  };
  read = turn.read;
  moments = turn.moments;
}
  where
    only : ChangesOnly k scene.standing (after_entries scripts scene.standing es)
    only = changes_only scene.standing (after_entries scripts scene.standing es) k client turn.client turn.notes.becomes turn.links

    own : client_of (after_entries scripts scene.standing es) k ≡ client
    own = became scene.standing (after_entries scripts scene.standing es) k client turn.client turn.notes.becomes

module _ {D : Type 0} (b : Ghosts D) (law : LineTurnStands b) (opening : State) (scripts : Scripts) (first k : ℕ) (scene : Scene) (c c' : Common D) where
  pub goes_quiet : (fs : List Entry) (client : Client) → RunStands b opening scripts first scene c → IsQuietTurn b scripts k scene c.store c'.store fs client → SharesOn c c' fs c.map
      → AreLocksIn (after_entries scripts scene.standing fs) c'.locks → AreOf scripts scene.standing k fs
      → GoesTo b opening scripts first scene (moved_to scene (b.content c'.store) scene.states (after_entries scripts scene.standing fs)) c c' k fs
  goes_quiet fs client st turn shares locks of_client =
      goes_line b law opening scripts first k scene c c' fs client scene.states st
      (quiet_is_line b scripts k scene c.store c'.store fs client st.stands.shared.map turn)
      (subst (λ (states : List BlockState). SharesOn c c' fs states) st.map shares) locks of_client

  -- where nothing was noted, and at most a block was read
  pub goes_read : RunStands b opening scripts first scene c → IsClient scene.standing k → ((object : ℕ) (l : IsLinking scene.standing object) → l.client ≢ k)
      → IsRead b c.store c'.store → SharesOn c c' [] c.map → c'.locks ≡ c.locks
      → GoesTo b opening scripts first scene (moved_to scene (b.content c'.store) scene.states scene.standing) c c' k []
  goes_read st client links read shares same =
      goes_quiet [] (client_of scene.standing k) st
      (record { client = client; notes = nothing_is_noted scripts scene.standing k; held = refl; links = links; read = read; moments = record { moments = refl; one = omega arith } })
      shares (subst (λ (ls : List Lock). AreLocksIn scene.standing ls) (sym same) st.locks) (of_none scripts scene.standing k)

-- ---- the turn

pub turn_goes : {D : Type 0} (b : Ghosts D) (opening : State) (scripts : Scripts) (first : ℕ) (scene after : Scene) (c c' : Common D) (script : ScriptValue) (s' : Course) (k : ℕ) (es : List Entry)
    → s'.client ≡ k → GoesTo b opening scripts first scene after c c' k es → AreOfTurn (b.moment c'.store) es → IsOwn scripts after script s' → TurnGoes b opening scripts first scene c c' script s'
turn_goes b opening scripts first scene after c c' script s' k es client goes moments mine = record {
  es = es;
  after = after;
  goes = subst (λ (n : ℕ). GoesTo b opening scripts first scene after c c' n es) (sym client) goes;
  moments = moments;
  mine = mine;
}

-- ---- the client's place

-- a client of whose line entries were noted keeps its place, with the answers that it has then
pub seated_on : (scripts : Scripts) (scene : Scene) (script : ScriptValue) (s s' : Course) (content : Content) (states : List BlockState) (es : List Entry) (client : Client)
    → IsSeated scripts scene script s → Notes scripts scene.standing s.client es client → s'.client ≡ s.client → client.answers ≡ s'.replies.items
    → IsSeated scripts (moved_to scene content states (after_entries scripts scene.standing es)) script s'
seated_on scripts scene script s s' content states es client seated notes same answers =
    let standing : Standing = after_entries scripts scene.standing es in
    record {
      client = subst (λ (n : ℕ). IsClient standing n) (sym same) (still_client scene.standing standing s.client client seated.client notes.becomes);
      its_script = ap (λ (n : ℕ). slice_get scripts (n - 1)) same ∙ seated.its_script;
      answers = ap (λ (n : ℕ). (client_of standing n).answers) same ∙ ap (λ (x : Client). x.answers) (became scene.standing standing s.client client seated.client notes.becomes) ∙ answers;
      idle = λ up is e. seated.idle up (sym notes.becomes.upkeep ∙ is) (e ∙ same);
    }
