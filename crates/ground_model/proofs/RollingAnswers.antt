-- The commit of an update of several files is answered, as its links are all set and no member is named.
use Rattle.std.proofs.Common.{◌≡◌, ◌≢◌, inl, inr, ℕ, suc, ◌+◌, ◌-◌, ◌≤◌, ◌&&◌, ◌||◌, Bool, true, false, cond, List, [], ◌∷◌, ◌++◌, length, Option, Some, None, Contains, refl, sym, ap, ◌∙◌, subst, arith, slice_get, true≢false}
use Rattle.std.specs.Prelude.{count_by, slice_index_or}
use Rattle.std.specs.List.{list_all}
use Rattle.std.proofs.lemmas.List.Sums.{sum_by-cons}
use Rattle.std.specs.Option.{option_map_or}
use Rattle.std.proofs.lemmas.Bool.{cases_eq}
use Rattle.page_codec.specs.Values.{MemberValue}
use Rattle.pair_store.specs.Blocks.{SameContents}
use Rattle.pair_store.specs.declared.store.Blocks.{Ghosts}
use Rattle.script_text.specs.declared.reply.LineReply.TheVariants as reply
use Rattle.script_text.specs.declared.script.Line.{Line}
use Rattle.service_model.specs.declared.journal.Entry.{Entry}
use Rattle.service_model.specs.declared.journal.What.TheVariants.{Answered}
use Rattle.service_model.specs.declared.named.Named.{Named}
use Rattle.service_model.specs.Entries.{after_entries}
use Rattle.service_model.specs.Legal.{IsLegalFrom, Reaches}
use Rattle.service_model.specs.Replies.{serials_by}
use Rattle.service_model.specs.Sound.{IsOpenAt, IsSound, is_holding}
use Rattle.service_model.specs.Standing.{Scripts, Standing, Client, Made, Update, Upkeep, client_of, has_file, need, newcomer}
use Rattle.service_model.proofs.Journals.{after_append, apart, legal_append, reaches_more, set_other}
use Rattle.service_model.proofs.Keeps.{journal_sound}
use Rattle.store_changes.specs.Writes.{Content}
use Rattle.store_model.specs.Changes.{IsTop, without_members}
use Rattle.store_model.specs.Laid.{LaidVersion}
use Rattle.store_model.proofs.Edits.{some_is}
use Rattle.store_model.proofs.Locality.{laid_alike}
use Rattle.tree_model.specs.States.{State}
use Rattle.ground_model.specs.CommitLines.{IsCommitting}
use Rattle.ground_model.specs.Fronts.{AreOfTurn, is_at, is_change}
use Rattle.ground_model.specs.Laws.{Leads}
use Rattle.ground_model.specs.Leaves.{IsThereAgain, LeavesOthers}
use Rattle.ground_model.specs.Lines.{Notes, answering, in_line}
use Rattle.ground_model.specs.Linking.{IsSettingLinks}
use Rattle.ground_model.specs.Own.{IsResting}
use Rattle.ground_model.specs.Rolling.{AnswerJoins, AnswerTurnStands, AnsweredClearingStands, IsAnsweredCommit, IsMarkedBy, IsMarkedTo, IsRolledFor}
use Rattle.ground_model.specs.Runs.{IsTurn, Stands}
use Rattle.ground_model.specs.Scenes.{AreLinksOf, HasVersion, IsLinking, IsMapped, IsShared, Scene}
use Rattle.ground_model.proofs.CommitLines.{commit_is_answered}
use Rattle.ground_model.proofs.Known.{known_same}
use Rattle.ground_model.proofs.Lines.{became, set_length}
use Rattle.ground_model.proofs.LineSteps.{linking_stays, same_pages}
use Rattle.ground_model.proofs.MadeOf.{made_of_stays, same_top}
use Rattle.ground_model.proofs.Noted.{notes_rest, untimed_are_of_turn}
use Rattle.ground_model.proofs.QuietTurns.{same_held}
use Rattle.ground_model.proofs.RollingClears.{top_is_cleared}
use Rattle.ground_model.proofs.RollingLinks.{nothing_is_left}
use Rattle.ground_model.proofs.Testing.{standing_sound}
use Rattle.ground_model.proofs.Turning.{turn_stands}
use Rattle.ground_model.proofs.Writing.{leads_on}

-- ---- the scene

module _ (scripts : Scripts) (k : ℕ) (old : Scene) (content : Content) (line : Line) (u : Update) (made : List Named) (moment object block : ℕ)
    (shared : IsShared old) (committing : IsCommitting scripts old.standing k line) (setting : IsSettingLinks old k u made moment object block [] [])
    (same : SameContents old.content content) where
  abbrev told : Client
  told = answering (client_of old.standing k) (reply.Committed (serials_by made (Some u))) None

  abbrev over : Standing
  over = after_entries scripts old.standing (in_line k line Answered ∷ [])

  pub notes : Notes scripts old.standing k (in_line k line Answered ∷ []) (answering (client_of old.standing k) (reply.Committed (serials_by made (Some u))) None)
  notes =
      commit_is_answered scripts old.standing k line u (need u) moment made committing setting.committed.is_open setting.committed.noted

  own_now : client_of over k ≡ told
  own_now = became old.standing over k told committing.client notes.becomes

  other_now : (j : ℕ) → 1 ≤ j → j ≢ k → client_of over j ≡ client_of old.standing j
  other_now j low ne =
      ap (λ cs. slice_index_or cs (j - 1) newcomer) notes.becomes.clients
      ∙ set_other old.standing.clients (k - 1) (j - 1) told newcomer (apart k j committing.client.low low ne)

  pub rolled : IsRolledFor old.store u
  rolled = nothing_is_left old k u made moment object block setting

  -- an update whose links this client sets is the one that is answered
  has_mine : (o : ℕ) (x : IsLinking old.standing o) → x.client ≡ k → has_file o u ≡ true
  has_mine o x e =
      let mine : IsOpenAt old.standing k x.update = subst (λ n. IsOpenAt old.standing n x.update) e x.is_open in
      let both : Some x.update ≡ Some u = sym mine ∙ setting.committed.is_open in
      ap (λ (v : Update). has_file o v) (sym (some_is both)) ∙ x.has

  still : (o : ℕ) (x : IsLinking old.standing o) → x.client ≢ k → IsLinking over o
  still o x ne = linking_stays k old.standing over other_now o x ne

  never_top : (v : LaidVersion) (t : IsTop old.store v) → has_file (suc t.object) u ≡ true → ⊥
  never_top v t has = true≢false (sym ((rolled t.object t.file has t.listed).1 v t.last) ∙ t.names)

  links_then : AreLinksOf old.store over
  links_then = record {
    links = λ o file listed. elim (shared.links.links o file listed) [
      | inl set ↦ inl set
      | inr x ↦ elim (cases_eq x.client k) [
        | inl e ↦ inl (rolled o file (has_mine (suc o) x e) listed).0
        | inr ne ↦ inr (still (suc o) x ne)
      ]
    ];
    tops = λ v t.
        let x : IsLinking old.standing (suc t.object) = shared.links.tops v t in
        elim (cases_eq x.client k) [
          | inl e ↦ absurd (never_top v t (has_mine (suc t.object) x e))
          | inr ne ↦ still (suc t.object) x ne
        ];
    members = λ v t i m here.
        let x : IsLinking old.standing m.object = shared.links.members v t i m here in
        elim (cases_eq x.client k) [
          | inl e ↦
              let top : suc t.object ≡ object = setting.links.others v t i m here (has_mine m.object x e) in
              absurd (never_top v t (subst (λ o. has_file o u ≡ true) (sym top) setting.links.mine))
          | inr ne ↦ still m.object x ne
        ];
  }

  mapped : IsMapped (record old { content = content; standing = over })
  mapped = record {
    size = shared.map.size;
    kept = shared.map.kept;
    held = λ j. shared.map.held j ∙ same_held old.standing over k other_now (ap (λ (c : Client). c.held) own_now) j;
    freed = shared.map.freed;
    once = shared.map.once;
    frees = shared.map.frees ∙ ap (λ (o : Option Upkeep). option_map_or (λ (up : Upkeep). up.frees) o 0) (sym notes.becomes.upkeep);
  }

  answered_shared : IsShared (record old { content = content; standing = over })
  answered_shared = record {
    some = shared.some;
    laid = laid_alike old.content content old.most old.store old.places shared.laid (sym (same 0)) (λ n is. sym (same n));
    state = shared.state ∙ sym notes.becomes.state;
    map = mapped;
    made = λ i m version here has serial later. shared.made i m version (ap (λ (ms : List Made). slice_get ms i) (sym notes.becomes.made) ∙ here) has serial later;
    made_of = λ i place m file before version here low listed first second serial.
        made_of_stays old.content content m before.block version.block (λ p n is. same_pages old.content content same n) (λ p n is. same_pages old.content content same n)
        (same_top old.content content version.block (same version.block))
        (shared.made_of i place m file before version (ap (λ (ms : List Made). slice_get ms i) (sym notes.becomes.made) ∙ here) low listed first second serial);
    links = links_then;
  }

  there_again : (o : ℕ) (version : LaidVersion) → HasVersion old.store o version → IsThereAgain old (record old { content = content; standing = over }) o version
  there_again o version has = record {
    again = version;
    is = has;
    serial = refl;
    block = refl;
    tree = refl;
    pages = λ p n is. same_pages old.content content same n;
  }

  answered_leaves : LeavesOthers k old (record old { content = content; standing = over })
  answered_leaves j low ne = record {
    client = other_now j low ne;
    clients = ap length notes.becomes.clients ∙ set_length old.standing.clients (k - 1) told;
    upkeep = λ up mine. (λ is. notes.becomes.upkeep ∙ is, λ is. sym notes.becomes.upkeep ∙ is);
    held = λ n is. (is, same n);
    versions = λ w version mine. there_again w.object version mine.is;
    made = λ w version mine m is of_object serial. (let F : List Made → Type 0 = λ ms. Contains ms m in subst F notes.becomes.made is);
    known = λ w on. known_same w.object old.standing.made over.made notes.becomes.made;
  }

  pub answered_leads : Leads k old (record old { content = content; standing = after_entries scripts old.standing (in_line k line Answered ∷ []) })
  answered_leads = record { shared = answered_shared; versions = there_again; leaves = answered_leaves }

  pub answered_own : client_of (after_entries scripts old.standing (in_line k line Answered ∷ [])) k
      ≡ answering (client_of old.standing k) (reply.Committed (serials_by made (Some u))) None
  answered_own = own_now

  -- the client rests: it held no block as its links were set
  pub answered_rests : (client_of old.standing k).held ≡ 0 → IsResting (after_entries scripts old.standing (in_line k line Answered ∷ [])) k
  answered_rests none = notes_rest scripts old.standing k (in_line k line Answered ∷ []) told committing.client notes refl none committing.idle

-- ---- turns

-- a client that committed holds no block
held_none : (scripts : Scripts) (scene : Scene) (k : ℕ) (u : Update) (made : List Named) (moment object block : ℕ) (members : List MemberValue)
    → IsSound scripts scene.standing → IsSettingLinks scene k u made moment object block members [] → (client_of scene.standing k).held ≡ 0
held_none scripts scene k u made moment object block members sound setting =
    sound.held k setting.committed.client.low (ap is_holding setting.committed.noted)

-- entries of a turn, and one that carries no moment
all_joined : (p : Entry → Bool) (es fs : List Entry) → list_all p es ≡ true → list_all p fs ≡ true → list_all p (es ++ fs) ≡ true
all_joined p [] fs one two = two
all_joined p (e ∷ es) fs one two =
    let parts : (p e ≡ true) × (list_all p es ≡ true) = both (p e) (list_all p es) one in
    ap (λ x. x && list_all p (es ++ fs)) parts.0 ∙ all_joined p es fs parts.1 two
  where
    both : (x y : Bool) → (x && y) ≡ true → (x ≡ true) × (y ≡ true)
    both true y h = (refl, h)
    both false y h = absurd (true≢false (sym h))

count_joined : (p : Entry → Bool) (es fs : List Entry) → count_by p (es ++ fs) ≡ count_by p es + count_by p fs
count_joined p [] fs = (let none : 0 + count_by p fs ≡ count_by p fs = omega arith in sym none)
count_joined p (e ∷ es) fs =
    let one = sum_by-cons (λ x. cond (p x) 1 0) e (es ++ fs) in
    let two = sum_by-cons (λ x. cond (p x) 1 0) e es in
    let rest = count_joined p es fs in
    omega (arith, one, two, rest)

with_answer : (now : ℕ) (fs : List Entry) (e : Entry) → is_change e ≡ false → AreOfTurn now fs → AreOfTurn now (fs ++ e ∷ [])
with_answer now fs e none are =
    let alone : AreOfTurn now (e ∷ []) = untimed_are_of_turn now (e ∷ []) (ap (λ t. t || false) none) in
    record {
      moments = all_joined (is_at now) fs (e ∷ []) are.moments alone.moments;
      one =
          let count : count_by is_change (fs ++ e ∷ []) ≡ count_by is_change fs + count_by is_change (e ∷ []) = count_joined is_change fs (e ∷ []) in
          let last : count_by is_change (e ∷ []) ≡ 0 = sum_by-cons (λ x. cond (is_change x) 1 0) e [] ∙ ap (λ t. cond t 1 0 + 0) none in
          let few = are.one in
          omega (arith, count, last, few);
    }

module _ {D : Type 0} (b : Ghosts D) (settled_left : (s : D) (n : ℕ) (f : Content) → b.settled_always s n → b.may_leave s (b.moment s) f → f n ≡ b.content s n) where
  pub answer_turn_stands : AnswerTurnStands b
  answer_turn_stands opening scripts first k scene before after es line u made moment object block st committing setting read =
      let same : SameContents scene.content (b.content after) = λ n. read.same n ∙ ap (λ (f : Content). f n) (sym st.content) in
      let leads = answered_leads scripts k scene (b.content after) line u made moment object block st.shared committing setting same in
      let none = held_none scripts scene k u made moment object block [] (standing_sound b opening scripts first scene before es st) setting in (
        turn_stands b settled_left opening scripts first scene
            (record scene { content = b.content after; states = scene.states; standing = after_entries scripts scene.standing (in_line k line Answered ∷ []) }) before after es
            (in_line k line Answered ∷ []) st (record {
              operation = inl read;
              content = refl;
              most = refl;
              blocks = refl;
              legal = (notes scripts k scene (b.content after) line u made moment object block st.shared committing setting same).legal;
              leads = refl;
              moments = untimed_are_of_turn (b.moment after) (in_line k line Answered ∷ []) refl;
            }) leads.shared,
        record {
          leads = leads;
          own = answered_own scripts k scene (b.content after) line u made moment object block st.shared committing setting same;
          resting = answered_rests scripts k scene (b.content after) line u made moment object block st.shared committing setting same none;
          rolled = nothing_is_left scene k u made moment object block setting;
          heads = λ told are. are;
          links = λ j low ne. (λ o x is counts. refl, λ v t i m here x is. (t, refl));
        },
      )

  module _ (opening : State) (scripts : Scripts) (first k : ℕ) (scene : Scene) (before after : D) (es : List Entry) (line : Line) (u : Update) (made : List Named) (moment object block : ℕ)
      (members : List MemberValue) (st : Stands b opening scripts first scene before es) (committing : IsCommitting scripts scene.standing k line) (some : members ≢ [])
      (setting : IsSettingLinks scene k u made moment object block members []) (by : IsMarkedBy b scene before after block without_members) where
    pub then_clear : (mid : Scene) × IsMarkedTo k scene mid (b.content after) × IsSettingLinks mid k u made moment object block [] []
    then_clear =
        top_is_cleared scripts k scene (b.content after) u made moment object block members st.shared (standing_sound b opening scripts first scene before es st) some setting by.rewrites

    abbrev mid : Scene
    mid = then_clear.0

    to : IsMarkedTo k scene mid (b.content after)
    to = then_clear.1

    abbrev answer : List Entry
    answer = in_line k line Answered ∷ []

    goes_on : IsCommitting scripts mid.standing k line
    goes_on = subst (λ s. IsCommitting scripts s k line) (sym to.standing_is) committing

    alike : SameContents mid.content (b.content after)
    alike n = ap (λ (f : Content). f n) (sym to.content_is)

    abbrev new : Scene
    new = record mid { content = b.content after; standing = after_entries scripts mid.standing (in_line k line Answered ∷ []) }

    onward : Leads k mid new
    onward = answered_leads scripts k mid (b.content after) line u made moment object block to.leads.shared goes_on then_clear.2 alike

    leads : Leads k scene new
    leads = leads_on k scene mid new to.leads onward

    pub stands_then : Stands b opening scripts first new after (es ++ in_line k line Answered ∷ [])
    stands_then =
        turn_stands b settled_left opening scripts first scene new before after es answer st (record {
          operation = inr (block, by.bytes, by.within, by.put);
          content = refl;
          most = to.most;
          blocks = to.blocks;
          legal =
              subst (λ s. IsLegalFrom scripts s answer) to.standing_is
              (notes scripts k mid (b.content after) line u made moment object block to.leads.shared goes_on then_clear.2 alike).legal;
          leads = ap (λ (s : Standing). after_entries scripts s answer) to.standing_is;
          moments = untimed_are_of_turn (b.moment after) answer refl;
        }) onward.shared

    pub answered_then : IsAnsweredCommit k u made scene new
    answered_then = record {
      leads = leads;
      own =
          answered_own scripts k mid (b.content after) line u made moment object block to.leads.shared goes_on then_clear.2 alike
          ∙ ap (λ (s : Standing). answering (client_of s k) (reply.Committed (serials_by made (Some u))) None) to.standing_is;
      resting =
          answered_rests scripts k mid (b.content after) line u made moment object block to.leads.shared goes_on then_clear.2 alike
          (ap (λ (s : Standing). (client_of s k).held) to.standing_is
          ∙ held_none scripts scene k u made moment object block members (standing_sound b opening scripts first scene before es st) setting);
      rolled = nothing_is_left mid k u made moment object block then_clear.2;
      heads = to.heads;
      links = to.links;
    }

    pub same_then : (new.content ≡ b.content after) × (new.states ≡ scene.states) × (new.standing ≡ after_entries scripts scene.standing (in_line k line Answered ∷ []))
    same_then = (refl, to.states_is, ap (λ (s : Standing). after_entries scripts s answer) to.standing_is)

  pub answered_clearing_stands : AnsweredClearingStands b
  answered_clearing_stands opening scripts first k scene before after es line u made moment object block members st committing some setting by = (
    _,
    stands_then opening scripts first k scene before after es line u made moment object block members st committing some setting by,
    same_then opening scripts first k scene before after es line u made moment object block members st committing some setting by,
    answered_then opening scripts first k scene before after es line u made moment object block members st committing some setting by,
  )

  -- ---- any turn

  module _ (opening : State) (scripts : Scripts) (first k : ℕ) (scene came : Scene) (before after : D) (es fs : List Entry) (line : Line) (u : Update) (made : List Named) (moment object block : ℕ)
      (st : Stands b opening scripts first scene before es) (turn : IsTurn b scripts scene came before after fs) (shared : IsShared came) (committing : IsCommitting scripts came.standing k line)
      (setting : IsSettingLinks came k u made moment object block [] []) where
    abbrev last : List Entry
    last = in_line k line Answered ∷ []

    abbrev joined : Scene
    joined = record came { content = came.content; states = came.states; standing = after_entries scripts came.standing (in_line k line Answered ∷ []) }

    same_content : SameContents came.content came.content
    same_content n = refl

    reaches : Reaches opening scripts (es ++ fs) came.standing
    reaches = subst (λ (s : Standing). Reaches opening scripts (es ++ fs) s) (sym turn.leads) (reaches_more opening scripts es fs scene.standing st.reaches turn.legal)

    sound : IsSound scripts came.standing
    sound = journal_sound opening scripts (es ++ fs) came.standing st.fitting.fit st.sayable reaches

    its_notes : Notes scripts came.standing k last (answering (client_of came.standing k) (reply.Committed (serials_by made (Some u))) None)
    its_notes = notes scripts k came came.content line u made moment object block shared committing setting same_content

    its_leads : Leads k came joined
    its_leads = answered_leads scripts k came came.content line u made moment object block shared committing setting same_content

    legal : IsLegalFrom scripts scene.standing (fs ++ last)
    legal = legal_append scripts scene.standing fs last turn.legal (subst (λ s. IsLegalFrom scripts s last) turn.leads its_notes.legal)

    leads_to : joined.standing ≡ after_entries scripts scene.standing (fs ++ last)
    leads_to = ap (λ (s : Standing). after_entries scripts s last) turn.leads ∙ sym (after_append scripts scene.standing fs last)

    pub joined_stands : Stands b opening scripts first joined after (es ++ (fs ++ in_line k line Answered ∷ []))
    joined_stands =
        turn_stands b settled_left opening scripts first scene joined before after es (fs ++ last) st (record {
          operation = turn.operation;
          content = turn.content;
          most = turn.most;
          blocks = turn.blocks;
          legal = legal;
          leads = leads_to;
          moments = with_answer (b.moment after) fs (in_line k line Answered) refl turn.moments;
        }) its_leads.shared

    pub joined_answered : IsAnsweredCommit k u made came joined
    joined_answered = record {
      leads = its_leads;
      own = answered_own scripts k came came.content line u made moment object block shared committing setting same_content;
      resting = answered_rests scripts k came came.content line u made moment object block shared committing setting same_content (held_none scripts came k u made moment object block [] sound setting);
      rolled = nothing_is_left came k u made moment object block setting;
      heads = λ told are. are;
      links = λ j low ne. (λ o x is counts. refl, λ v t i m here x is. (t, refl));
    }

  pub answer_joins : AnswerJoins b
  answer_joins opening scripts first k scene came before after es fs line u made moment object block st turn shared committing setting = (
    joined_stands opening scripts first k scene came before after es fs line u made moment object block st turn shared committing setting,
    joined_answered opening scripts first k scene came before after es fs line u made moment object block st turn shared committing setting,
  )
