-- A line that opens an update on the last version of a file.
use Rattle.std.proofs.Common.{◌≡◌, inl, ℕ, zero, suc, ◌-◌, ◌<◌, false, ◌&&◌, List, [], ◌∷◌, ◌++◌, map, slice_get, Option, Some, None, Result, Ok, refl, sym, ap, ◌∙◌, subst, arith}
use Rattle.std.specs.Prelude.{IfSome, nat_lt}
use Rattle.std.specs.Option.{option_map_or}
use Rattle.draft_model.specs.Stands.{Begins}
use Rattle.draft_model.specs.Views.{View}
use Rattle.page_codec.specs.Values.{VersionValue}
use Rattle.page_codec.specs.declared.why.Why.{Why}
use Rattle.pair_store.specs.declared.store.Blocks.{Ghosts}
use Rattle.pool_draft.specs.Roots.{object_in, root_in, serial_in}
use Rattle.pool_draft.specs.Sets.{IsBegun, base_at, picked_of, roots_of, view_at}
use Rattle.pool_draft.specs.declared.pool_set.PoolSet.{PoolSet}
use Rattle.script_text.specs.ScriptValue.{ScriptValue}
use Rattle.script_text.specs.declared.command.Command.{Command}
use Rattle.script_text.specs.declared.command.Command.TheVariants.{Begin}
use Rattle.script_text.specs.declared.command.FileName.{FileName}
use Rattle.script_text.specs.declared.reply.LineReply.{LineReply}
use Rattle.script_text.specs.declared.reply.LineReply.TheVariants as reply
use Rattle.script_text.specs.declared.script.Line.{Line}
use Rattle.service_model.specs.declared.journal.What.TheVariants.{Answered, Began}
use Rattle.service_model.specs.declared.named.Named.{Named}
use Rattle.service_model.specs.Causes.{cause_of, object_of}
use Rattle.service_model.specs.Entries.{bases_of, opened, work_on}
use Rattle.service_model.specs.Standing.{Scripts, Update, Work, client_of, has_file, serial_of}
use Rattle.tree_model.specs.States.{State}
use Rattle.ground_model.specs.Heads.{IsHeadOf}
use Rattle.ground_model.specs.Lines.{Notes, answering, in_line}
use Rattle.ground_model.specs.LineTurns.{LineTurnStands}
use Rattle.ground_model.specs.Own.{HasDraft}
use Rattle.ground_model.specs.Runs.{IsRead}
use Rattle.ground_model.specs.Scenes.{Scene}
use Rattle.ground_model.specs.Shows.{ShowsVersion}
use Rattle.ground_model.proofs.Drafting.{begins_draft}
use Rattle.ground_model.proofs.HeadsTold.{heads_tell}
use Rattle.ground_model.proofs.LineKinds.{begin_is_noted}
use Rattle.ground_model.proofs.Noted.{untimed_are_of_turn}
use Rattle.ground_model.proofs.Shows.{base_shows}
use Rattle.session.specs.Answers.{IsAnswered, IsAtCommand, NotesAlone}
use Rattle.session.specs.Calls.{IsIn, IsReady, TurnCall}
use Rattle.session.specs.Names.{IsGranted}
use Rattle.arrayvec.specs.ArrayVec.{ArrayVec}
use Rattle.session.specs.Own.{IsAtRest, IsDraftOf, OwnsUpdate}
use Rattle.session.specs.Reads.{IsVersionOf, ReadCall}
use Rattle.session.specs.Safe.{AreSafeDrafts, drafts_of, line_of}
use Rattle.session.specs.Shared.{RunStands}
use Rattle.session.specs.declared.common.Common.{Common}
use Rattle.session.specs.declared.common.Granted.{Granted}
use Rattle.session.specs.declared.course.Course.{Course}
use Rattle.session.specs.declared.turned.Turned.{Turned}
use Rattle.session.specs.declared.turned.Turned.TheVariants as turned
use Rattle.session.proofs.Abandoning.{one_of}
use Rattle.session.proofs.EndedLines.{EndsIn, line_ended}
use Rattle.session.proofs.LineEnds.{HasCome, MayCome, at_line, come_noted, come_read, for_line, own_is_none, own_stays}
use Rattle.session.proofs.NameCauses.{allowed_has_no_cause, begin_cause}
use Rattle.session.proofs.ReadTurns.{IsKnown, held_now, settled_here}

-- ---- what is told of the file

module _ {D : Type 0} (b : Ghosts D) (opening : State) (scripts : Scripts) (first : ℕ) (scene : Scene) (c : Common D) (st : RunStands b opening scripts first scene c)
    (file : FileName) (g : Granted) (granted : IsGranted c.table c.heads.items file g) where
  pub head_is : IsHeadOf scene (object_of file) g.head
  head_is = heads_tell scene c.heads.items (object_of file) g.head st.stands.shared st.heads granted.head.0 granted.head.1

  pub head_shows : ShowsVersion scene (object_of file) g.head.serial g.head.block
  head_shows = base_shows scene (object_of file) g.head.serial g.head.block _ st.stands.shared head_is.base

  -- its block holds the version page of the file's last version
  pub head_is_known : IsKnown IsVersionOf scene g.head.block
  head_is_known = record { low = head_shows.lies.high; bytes = head_shows.body; holds = head_shows.holds; value = head_shows.page; gives = head_shows.reads }

  -- the page that was read is the one that the block shows
  module _ (c' : Common D) (version : VersionValue) (read : ReadCall b IsVersionOf c c' g.head.block (Ok version)) (told : b.tells) where
    pub version_is : head_shows.page ≡ version
    version_is =
        let gives = read.gives told (settled_here b opening scripts first scene c st g.head.block head_shows.lies.high) head_shows.body
        (held_now b opening scripts first scene c st g.head.block head_shows.body head_shows.holds) in
        let both : (let r : Result VersionValue Why = Ok head_shows.page in r) ≡ Ok version = sym head_shows.reads ∙ gives in
        cc

    pub object_is : version.object ≡ object_of file
    object_is = ap (λ (v : VersionValue). v.object) (sym version_is) ∙ head_shows.object_is

    pub serial_is : version.serial ≡ serial_of scene.standing.state (object_of file)
    serial_is = ap (λ (v : VersionValue). v.serial) (sym version_is) ∙ head_shows.serial_is ∙ head_is.serial

    -- a draft that begins on it is one of the work that begins there
    pub draft_begins : (d : View) → Begins d g.head.block version.page → HasDraft scene (work_on scene.standing.state file) g.head.block d
    draft_begins d begins =
        begins_draft scene c.heads.items file g.head version.page d st.stands.shared st.heads granted.head.1 granted.head.0
        (head_shows.shows ∙ ap (λ (v : VersionValue). Some v.page) version_is) begins

-- ---- what is noted

-- the version that an update began from, and its update
abbrev pub base_of : VersionValue → Named
base_of version = record { object = version.object; serial = version.serial }

module _ (scripts : Scripts) (scene : Scene) (script : ScriptValue) (s : Course) (rest : IsAtRest scripts scene script s) (line : Line) (next : line_of script s ≡ Some line) (file : FileName)
    (command : line.command ≡ Begin file) (none : cause_of scene.standing s.client (Begin file) ≡ None) where
  abbrev new_update : Update
  new_update = opened scene.standing.state (Begin file)

  abbrev noted_with : Named → Type 0
  noted_with n =
      Notes scripts scene.standing s.client (in_line s.client line (Began (n ∷ [])) ∷ in_line s.client line Answered ∷ [])
      (answering (client_of scene.standing s.client) (reply.Base (n.serial ∷ [])) (Some new_update))

  begun_here : noted_with (record { object = object_of file; serial = serial_of scene.standing.state (object_of file) })
  begun_here =
      subst (λ (x : Command). Notes scripts scene.standing s.client (in_line s.client line (Began (bases_of (opened scene.standing.state x))) ∷ in_line s.client line Answered ∷ [])
      (answering (client_of scene.standing s.client) (reply.Base (map (λ (n : Named). n.serial) (bases_of (opened scene.standing.state x)))) (Some (opened scene.standing.state x)))) command
      (begin_is_noted scripts scene.standing s.client line file (at_line scripts scene script s line rest next) command (ap (cause_of scene.standing s.client) command ∙ none))

  pub begun_notes : (version : VersionValue) → version.object ≡ object_of file → version.serial ≡ serial_of scene.standing.state (object_of file) → noted_with (base_of version)
  begun_notes version object serial =
      subst (λ n. noted_with (record { object = n; serial = version.serial })) (sym object)
      (subst (λ n. noted_with (record { object = object_of file; serial = n })) (sym serial) begun_here)

-- ---- the turn

-- The draft that begins on a version is the first one of its set.
pub record BeginsAt (new : PoolSet) (at : ℕ) (version : VersionValue) : Type 0 where
  pub roots : roots_of new ≡ 1
  pub picked : picked_of new ≡ 0
  pub begins : Begins (view_at new 0) at version.page
  pub block : root_in (base_at new 0) ≡ at
  pub object : object_in (base_at new 0) ≡ version.object
  pub serial : serial_in (base_at new 0) ≡ version.serial
  pub count : new.count ≡ 0
  pub fed : new.fed ≡ 0

-- The client knows these rights to its one file.
abbrev pub KnowsRights : ArrayVec ℕ → ℕ → Type 0
KnowsRights rights n = rights.items ≡ n ∷ []

pub begins_at : (new : PoolSet) (at : ℕ) (version : VersionValue) → IsBegun new at version → BeginsAt new at version
begins_at new at version is = record {
  roots = is.roots;
  picked = is.picked;
  begins = subst (λ k. Begins (view_at new k) at version.page) is.picked is.begins;
  block = subst (λ k. root_in (base_at new k) ≡ at) is.picked is.block;
  object = subst (λ k. object_in (base_at new k) ≡ version.object) is.picked is.object;
  serial = subst (λ k. serial_in (base_at new k) ≡ version.serial) is.picked is.serial;
  count = is.count;
  fed = is.fed;
}

module _ {D : Type 0} (b : Ghosts D) (script : ScriptValue) (c mid noted c' : Common D) (s s' : Course) (line : Line) (next : line_of script s ≡ Some line) (file : FileName)
    (command : line.command ≡ Begin file) (none : drafts_of s ≡ 0) (g : Granted) (granted : IsGranted c.table c.heads.items file g) (version : VersionValue)
    (read : ReadCall b IsVersionOf c mid g.head.block (Ok version)) (new : PoolSet) (begun : BeginsAt new g.head.block version) (rights : ArrayVec ℕ) (knows : KnowsRights rights g.rights) where
  -- the course before the answer
  abbrev then : Course
  then = record s { drafts = new; rights = rights }

  abbrev answer : LineReply
  answer = reply.Base (version.serial ∷ [])

  module _ (is : IsAnswered script line answer noted c' then s') where
    module _ (told : b.tells) (opening : State) (scripts : Scripts) (first_moment : ℕ) (scene : Scene)
        (at : IsIn b IsAtRest script c s opening scripts first_moment scene) where
      abbrev opens : Update
      opens = opened scene.standing.state (Begin file)

      of_object : version.object ≡ object_of file
      of_object = object_is b opening scripts first_moment scene c at.stands file g granted mid version read told

      of_serial : version.serial ≡ serial_of scene.standing.state (object_of file)
      of_serial = serial_is b opening scripts first_moment scene c at.stands file g granted mid version read told

      update_none : (client_of scene.standing s.client).update ≡ None
      update_none = own_is_none scene script s (client_of scene.standing s.client).update at.mine.update none

      no_cause : cause_of scene.standing s.client (Begin file) ≡ None
      no_cause =
          begin_cause scene.standing s.client file update_none
          ∙ allowed_has_no_cause c.table scene.standing.state file at.stands.seals granted.allowed (head_is b opening scripts first_moment scene c at.stands file g granted).live

      own_opened : OwnsUpdate scene script then (Some opens)
      own_opened = record {
        number = sym begun.roots;
        several = ap (nat_lt 1) (sym begun.roots);
        picked = sym begun.picked;
        within = (let one = begun.roots in let picked = begun.picked in omega (arith, one, picked));
        count = sym begun.count;
        each = each;
        fed = inl begun.fed;
      }
        where
          first : IsDraftOf scene then 0 (work_on scene.standing.state file)
          first = record {
            rights = ap (λ (rs : List ℕ). slice_get rs 0) knows ∙ ap Some granted.rights;
            object = begun.object ∙ of_object;
            serial = begun.serial ∙ of_serial;
            draft = subst (λ n. HasDraft scene (work_on scene.standing.state file) n (view_at new 0)) (sym begun.block)
                (draft_begins b opening scripts first_moment scene c at.stands file g granted mid version read told (view_at new 0) begun.begins);
          }

          each : (i : ℕ) (w : Work) → slice_get opens.works i ≡ Some w → IsDraftOf scene then i w
          each zero w is = (let same : work_on scene.standing.state file ≡ w = cc in subst (IsDraftOf scene then 0) same first)
          each (suc i) w is = absurd (let wrong : None ≡ Some w = is in cc wrong)

      begin_ends : (moment : ℕ) → EndsIn scripts scene script s then s' line moment (in_line s.client line (Began (base_of version ∷ [])) ∷ []) false answer
      begin_ends moment = record {
        client = answering (client_of scene.standing s.client) answer (Some opens);
        notes = begun_notes scripts scene script s at.mine line next file command no_cause version of_object of_serial;
        answering = record {
          answers = ap (λ (rs : List LineReply). rs ++ answer ∷ []) at.mine.seated.answers;
          noted = refl;
          held = at.mine.held;
        };
        open_is = λ some. (opens, refl);
        locks = λ object. sym (ap (λ (o : Option Update). option_map_or (λ (x : Update). x.is_super && has_file object x) o false) update_none);
        of_client = one_of scripts scene.standing s.client line (Began (base_of version ∷ [])) refl;
        moments = untimed_are_of_turn moment (in_line s.client line (Began (base_of version ∷ [])) ∷ []) refl;
        update = λ after keeps same. own_stays scene after script then s' (Some opens) keeps same (ap (λ (x : Course). x.rights) is.only)
            (λ some fed. inl (ap (λ (d : PoolSet). d.fed) same ∙ begun.fed)) own_opened;
      }

    module _ (ready : IsReady b script c s) (note : NotesAlone mid noted (in_line s.client line (Began (base_of version ∷ [])) ∷ [])) where
      low : g.head.block < b.size c.store
      low = ready.store.heads (object_of file - 1) g.head granted.head.1

      may : MayCome b c s then
      may = record {
        client = refl;
        replies = refl;
        held = refl;
        stage = ready.stage;
        drafts = subst (λ n. AreSafeDrafts (b.size c.store) new n) (sym begun.roots) (record {
          picked = (let picked = begun.picked in omega (arith, picked));
          bases = λ i below. subst (λ k. root_in (base_at new k) < b.size c.store) {x = 0} {y = i} (omega (arith, below)) (subst (λ n. n < b.size c.store) (sym begun.block) low);
        });
      }

      come : HasCome b (in_line s.client line (Began (base_of version ∷ [])) ∷ []) false c noted s then
      come = come_noted b (in_line s.client line (Began (base_of version ∷ []))) c mid noted s then (come_read b c mid s then read.alone read.one read.rest may) note

      same_store : c'.store ≡ mid.store
      same_store = ap (λ (x : Common D). x.store) is.noted.only ∙ ap (λ (x : Common D). x.store) note.only

      pub begin_call : (b.tells → LineTurnStands b) → (result : Turned) → result ≡ turned.Line line.number
          → TurnCall b IsAtRest script c c' s s' result
      begin_call laws result said =
          line_ended b laws script c noted c' s then s' line next ready (in_line s.client line (Began (base_of version ∷ [])) ∷ []) false answer come is result said
          (λ told. subst (λ (d : D). IsRead b c.store d) (sym same_store) (read.read told))
          (λ told opening scripts first scene at. begin_ends told opening scripts first scene at (b.moment c'.store))

-- a set without drafts
pub no_drafts : (size : ℕ) (set : PoolSet) (n : ℕ) → n ≡ 0 → AreSafeDrafts size set n → (set.count ≡ 0) × (set.fed ≡ 0)
no_drafts size set n none safe = subst (λ m. AreSafeDrafts size set m) none safe

-- What the code notes and answers: lists of one version and of its serial.
pub record IsOfVersion (version : VersionValue) (bases : List Named) (serials : List ℕ) : Type 0 where
  pub its_bases : bases ≡ base_of version ∷ []
  pub its_serials : serials ≡ version.serial ∷ []

module _ {D : Type 0} (b : Ghosts D) (script : ScriptValue) (c mid noted c' : Common D) (s s' : Course) (file : FileName) (g : Granted) (version : VersionValue) (new : PoolSet) (rights : ArrayVec ℕ)
    (bases : List Named) (serials : List ℕ) (of : IsOfVersion version bases serials) where
  pub begin_turn : (b.tells → LineTurnStands b) → IsReady b script c s → IsAtCommand script s (Begin file)
      → drafts_of s ≡ 0 → IsGranted c.table c.heads.items file g → ReadCall b IsVersionOf c mid g.head.block (Ok version) → BeginsAt new g.head.block version → KnowsRights rights g.rights
      → IfSome (line_of script s) (λ line. NotesAlone mid noted (in_line s.client line (Began bases) ∷ []))
      → IfSome (line_of script s) (λ line. IsAnswered script line (reply.Base serials) noted c' (record s { drafts = new; rights = rights }) s')
      → (result : Turned) → IfSome (line_of script s) (λ line. result ≡ turned.Line line.number) → TurnCall b IsAtRest script c c' s s' result
  begin_turn laws ready command none granted read begun knows notes answered result said =
      let t : Course = record s { drafts = new; rights = rights } in
      let line : Line = command.line in
      begin_call b script c mid noted c' s s' line command.next file command.is none g granted version read new begun rights knows
      (subst (λ (ns : List ℕ). IsAnswered script line (reply.Base ns) noted c' t s') of.its_serials
      (for_line (line_of script s) (λ l. IsAnswered script l (reply.Base serials) noted c' t s') line command.next answered))
      ready
      (subst (λ (ns : List Named). NotesAlone mid noted (in_line s.client line (Began ns) ∷ [])) of.its_bases
      (for_line (line_of script s) (λ l. NotesAlone mid noted (in_line s.client l (Began bases) ∷ [])) line command.next notes))
      laws result (for_line (line_of script s) (λ l. result ≡ turned.Line l.number) line command.next said)
