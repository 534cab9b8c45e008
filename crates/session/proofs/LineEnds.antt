-- A turn that did something for its line and then answered it.
use Rattle.std.proofs.Common.{◌≡◌, ◌≢◌, ◌⊎◌, inl, inr, ℕ, zero, suc, ◌+◌, ◌^◌, ◌<◌, ◌≤◌, ◌==◌, Bool, true, false, ◌||◌, List, [], ◌∷◌, ◌++◌, length, length-append, Option, Some, None, refl, sym, ap, ◌∙◌, subst, arith, slice_get, get_or, eq-eqb}
use Rattle.std.specs.Prelude.{IfSome}
use Rattle.std.proofs.lemmas.Option.{slice_get-get_or}
use Rattle.drives.specs.declared.device.Half.{Half}
use Rattle.drives.proofs.Composing.{stays}
use Rattle.pair_store.specs.Blocks.{CountsOne, SameContents}
use Rattle.pair_store.specs.declared.store.Blocks.{Ghosts}
use Rattle.pool_draft.specs.Sets.{picked_of, roots_of}
use Rattle.pool_draft.specs.declared.pool_set.PoolSet.{PoolSet}
use Rattle.script_text.specs.ScriptValue.{ScriptValue}
use Rattle.script_text.specs.declared.reply.LineReply.{LineReply}
use Rattle.script_text.specs.declared.script.Line.{Line}
use Rattle.service_model.specs.declared.journal.Entry.{Entry}
use Rattle.service_model.specs.Standing.{Scripts, Client, Update}
use Rattle.ground_model.specs.Leaves.{KeepsVersions}
use Rattle.ground_model.specs.Lines.{IsAt}
use Rattle.ground_model.specs.Runs.{IsRead}
use Rattle.ground_model.specs.Scenes.{Scene}
use Rattle.super_files.specs.Locks.{without}
use Rattle.super_files.specs.declared.locks.Lock.{Lock}
use Rattle.session.specs.Answers.{AreLeft, EndsAlone, IsAnswered, IsCleared, LetsGo, NotesAlone, ending, gives_up, locks_left}
use Rattle.session.specs.Reads.{StoreAlone}
use Rattle.session.specs.Calls.{IsReady}
use Rattle.session.specs.Own.{HasFed, IsAtRest, OwnsUpdate}
use Rattle.session.specs.Safe.{AreSafeDrafts, drafts_of, line_of}
use Rattle.session.specs.Shared.{doubt_of, entries_of, room_of}
use Rattle.session.specs.Values.{RepliesValue}
use Rattle.session.specs.declared.common.Common.{Common}
use Rattle.session.specs.declared.course.Course.{Course}
use Rattle.session.specs.declared.stage.Stage.TheVariants.{Resting}
use Rattle.session.proofs.Answering.{HasAnswered, IsAfter}
use Rattle.session.proofs.Counting.{same_rest}
use Rattle.session.proofs.Ending.{its_next, left_with}
use Rattle.session.proofs.Released.{left_twice}
use Rattle.session.proofs.Drafting.{drafting_stays, some_picked}
use Rattle.session.proofs.Going.{SharesOn, shares_noted, shares_read, shares_same, shares_trans}

-- ---- the line

pub line_is : (script : ScriptValue) (s : Course) → length s.replies.items < length script.lines → (line : Line) × (line_of script s ≡ Some line)
line_is script s low = by script.lines low
  where
    by : (lines : List Line) → length s.replies.items < length lines → (line : Line) × (slice_get lines (length s.replies.items) ≡ Some line)
    by [] below = absurd (omega (arith, below))
    by (x ∷ lines) below = (get_or (x ∷ lines) (length s.replies.items) x, slice_get-get_or (x ∷ lines) (length s.replies.items) x below)

-- where there is no line at a place, all are before it
pub none_within : {A : Type 0} (xs : List A) (n : ℕ) → slice_get xs n ≡ None → length xs ≤ n
none_within [] n none = omega arith
none_within (x ∷ xs) zero none = absurd (cc none)
none_within (x ∷ xs) (suc n) none = (let rest = none_within xs n none in omega (arith, rest))

-- what is said of the line that there is
pub for_line : (o : Option Line) (P : Line → Type 0) (line : Line) → o ≡ Some line → IfSome o P → P line
for_line o P line is said = subst (λ (x : Option Line). IfSome x P) is said

pub same_line : (script : ScriptValue) (s : Course) (a b : Line) → line_of script s ≡ Some a → line_of script s ≡ Some b → a ≡ b
same_line script s a b one two = (let both : Some a ≡ Some b = sym one ∙ two in cc)

pub at_line : (scripts : Scripts) (scene : Scene) (script : ScriptValue) (s : Course) (line : Line) → IsAtRest scripts scene script s → line_of script s ≡ Some line
    → IsAt scripts scene.standing s.client line
at_line scripts scene script s line rest next = record {
  resting = record { client = rest.seated.client; fresh = rest.fresh; held = rest.held; idle = rest.seated.idle };
  next = its_next scripts script scene s rest.seated ∙ next;
}

-- a store that was not touched
pub untouched : {D : Type 0} (b : Ghosts D) → ((d : D) → b.moment d < 2 ^ 64) → (old new : D) → new ≡ old → IsRead b old new
untouched {D} b clock old new same =
    subst (λ (d : D). IsRead b old d) (sym same)
    (record { size = refl; same = λ n. refl; settled = λ n is. is; settled_always = λ n is. is; images = stays b.moment b.may_leave old SameContents (clock old) (λ f n. refl) })

-- ---- numbers

-- Before its answer the turn noted these entries; at most one block was read. The client holds what it held, and rests; its
-- locks may have gone with its update.
pub record HasCome {D : Type 0} (b : Ghosts D) (es : List Entry) (gone : Bool) (c mid : Common D) (s t : Course) : Type 0 where
  pub shares : SharesOn c mid es c.map
  pub locks : mid.locks ≡ locks_left s.client c.locks gone
  pub size : b.size mid.store ≡ b.size c.store
  pub room : room_of mid ≡ room_of c
  pub faults : (h : Half) → b.faults c.store h ≤ b.faults mid.store h
  pub last : (h : Half) → b.last_fault c.store h ≤ b.last_fault mid.store h
  pub count : (b.count mid.store ≡ b.count c.store) ⊎ CountsOne (b.count c.store) (b.count mid.store)
  pub rest : b.tells → b.rest c.store → b.rest mid.store
  pub few : length es ≤ 1
  pub client : t.client ≡ s.client
  pub replies : t.replies ≡ s.replies
  pub held : t.held ≡ s.held
  pub stage : t.stage ≡ Resting
  pub drafts : AreSafeDrafts (b.size c.store) t.drafts (drafts_of t)

-- The client may come to this course before its answer.
pub record MayCome {D : Type 0} (b : Ghosts D) (c : Common D) (s t : Course) : Type 0 where
  pub client : t.client ≡ s.client
  pub replies : t.replies ≡ s.replies
  pub held : t.held ≡ s.held
  pub stage : t.stage ≡ Resting
  pub drafts : AreSafeDrafts (b.size c.store) t.drafts (drafts_of t)

pub may_stay : {D : Type 0} (b : Ghosts D) (script : ScriptValue) (c : Common D) (s : Course) → IsReady b script c s → MayCome b c s s
may_stay b script c s ready = record { client = refl; replies = refl; held = refl; stage = ready.stage; drafts = ready.safe.drafts }

-- nothing that is shared changed before the answer
pub come_to : {D : Type 0} (b : Ghosts D) (c : Common D) (s t : Course) → MayCome b c s t → HasCome b [] false c c s t
come_to b c s t may = record {
  shares = shares_same c;
  locks = refl;
  size = refl;
  room = refl;
  faults = λ h. omega arith;
  last = λ h. omega arith;
  count = inl refl;
  rest = λ told rest. rest;
  few = omega arith;
  client = may.client;
  replies = may.replies;
  held = may.held;
  stage = may.stage;
  drafts = may.drafts;
}

-- a block was read before it
pub come_read : {D : Type 0} (b : Ghosts D) (c mid : Common D) (s t : Course) → StoreAlone b c mid → CountsOne (b.count c.store) (b.count mid.store) → (b.tells → b.rest c.store → b.rest mid.store) → MayCome b c s t
    → HasCome b [] false c mid s t
come_read {D} b c mid s t alone one rest may = record {
  shares = shares_read b c mid alone;
  locks = ap (λ (x : Common D). x.locks) alone.only;
  size = alone.size;
  room = ap (λ (x : Common D). room_of x) alone.only;
  faults = alone.faults;
  last = alone.last;
  count = inr one;
  rest = rest;
  few = omega arith;
  client = may.client;
  replies = may.replies;
  held = may.held;
  stage = may.stage;
  drafts = may.drafts;
}

-- an entry was noted before it
pub come_noted : {D : Type 0} (b : Ghosts D) (e : Entry) (c mid new : Common D) (s t : Course) → HasCome b [] false c mid s t → NotesAlone mid new (e ∷ []) → HasCome b (e ∷ []) false c new s t
come_noted {D} b e c mid new s t come is = record {
  shares = shares_trans c mid new [] (e ∷ []) c.map come.shares (shares_noted mid new (e ∷ []) is);
  locks = ap (λ (x : Common D). x.locks) is.only ∙ come.locks;
  size = ap (λ (x : Common D). b.size x.store) is.only ∙ come.size;
  room = is.noted.room ∙ come.room;
  faults = λ h. subst (λ n. b.faults c.store h ≤ n) (sym (ap (λ (x : Common D). b.faults x.store h) is.only)) (come.faults h);
  last = λ h. subst (λ n. b.last_fault c.store h ≤ n) (sym (ap (λ (x : Common D). b.last_fault x.store h) is.only)) (come.last h);
  count = subst (λ n. (n ≡ b.count c.store) ⊎ CountsOne (b.count c.store) n) (sym (ap (λ (x : Common D). b.count x.store) is.only)) come.count;
  rest = λ told rest. same_rest b mid.store new.store (ap (λ (x : Common D). x.store) is.only) told (come.rest told rest);
  few = omega arith;
  client = come.client;
  replies = come.replies;
  held = come.held;
  stage = come.stage;
  drafts = come.drafts;
}

-- a set without drafts is safe
pub cleared_safe : (size : ℕ) (set : PoolSet) → IsCleared set → AreSafeDrafts size set (roots_of set)
cleared_safe size set cleared = subst (λ n. AreSafeDrafts size set n) (sym cleared.none) (cleared.count, cleared.fed)

-- the update was let go of before it
pub come_free : {D : Type 0} (b : Ghosts D) (es : List Entry) (c mid new : Common D) (s t u : Course) → HasCome b es false c mid s t → LetsGo mid new t u → HasCome b es true c new s u
come_free {D} b es c mid new s t u come is = record {
  shares = record {
    entries = ap (λ (x : Common D). entries_of x) is.locks ∙ come.shares.entries;
    doubt = ap (λ (x : Common D). doubt_of x) is.locks ∙ come.shares.doubt;
    map = ap (λ (x : Common D). x.map) is.locks ∙ come.shares.map;
    heads = ap (λ (x : Common D). x.heads.items) is.locks ∙ come.shares.heads;
    table = ap (λ (x : Common D). x.table) is.locks ∙ come.shares.table;
  };
  locks = ap (λ (x : Common D). x.locks) is.locks ∙ ap (λ k. without k mid.locks) come.client ∙ ap (without s.client) come.locks;
  size = ap (λ (x : Common D). b.size x.store) is.locks ∙ come.size;
  room = ap (λ (x : Common D). room_of x) is.locks ∙ come.room;
  faults = λ h. subst (λ n. b.faults c.store h ≤ n) (sym (ap (λ (x : Common D). b.faults x.store h) is.locks)) (come.faults h);
  last = λ h. subst (λ n. b.last_fault c.store h ≤ n) (sym (ap (λ (x : Common D). b.last_fault x.store h) is.locks)) (come.last h);
  count = subst (λ n. (n ≡ b.count c.store) ⊎ CountsOne (b.count c.store) n) (sym (ap (λ (x : Common D). b.count x.store) is.locks)) come.count;
  rest = λ told rest. same_rest b mid.store new.store (ap (λ (x : Common D). x.store) is.locks) told (come.rest told rest);
  few = come.few;
  client = ap (λ (x : Course). x.client) is.only ∙ come.client;
  replies = ap (λ (x : Course). x.replies) is.only ∙ come.replies;
  held = ap (λ (x : Course). x.held) is.only ∙ come.held;
  stage = ap (λ (x : Course). x.stage) is.only ∙ come.stage;
  drafts = cleared_safe (b.size c.store) u.drafts is.cleared;
}

ending_short : (k : ℕ) (line : Line) (b : Bool) → length (ending k line b) ≤ 2
ending_short k line false = omega arith
ending_short k line true = omega arith

-- whether an update is given up depends on the answers alone
same_end : (script : ScriptValue) (s t : Course) (n : ℕ) → t.replies ≡ s.replies → gives_up script t n ≡ gives_up script s n
same_end script s t zero same = refl
same_end script s t (suc n) same = ap (λ (r : RepliesValue). length r.items + 1 == length script.lines) same

safe_left : (size : ℕ) (old new : PoolSet) (b : Bool) → AreLeft old new b → AreSafeDrafts size old (roots_of old) → AreSafeDrafts size new (roots_of new)
safe_left size old new false same safe = subst (λ (x : PoolSet). AreSafeDrafts size x (roots_of x)) (sym same) safe
safe_left size old new true cleared safe = cleared_safe size new cleared

-- what is shared with these entries noted, and perhaps the locks given up
shares_ended : {D : Type 0} (c c' : Common D) (es : List Entry) (locks : List Lock) → EndsAlone c c' es locks → SharesOn c c' es c.map
shares_ended {D} c c' es locks n = record {
  entries = n.noted.entries;
  doubt = n.noted.doubt;
  map = ap (λ (x : Common D). x.map) n.only;
  heads = ap (λ (x : Common D). x.heads.items) n.only;
  table = ap (λ (x : Common D). x.table) n.only;
}

module _ {D : Type 0} (b : Ghosts D) (script : ScriptValue) (line : Line) (reply : LineReply) (es : List Entry) (gone : Bool) (c mid c' : Common D) (s t s' : Course)
    (come : HasCome b es gone c mid s t) (is : IsAnswered script line reply mid c' t s') where
  ends : (k : Bool) → k ≡ gives_up script t (roots_of t.drafts) → ending t.client line (gives_up script t (roots_of t.drafts)) ≡ ending s.client line k
  ends k same = ap (λ n. ending n line (gives_up script t (roots_of t.drafts))) come.client ∙ ap (ending s.client line) (sym same)

  -- what is noted with the answer
  abbrev pub at_end : Bool
  at_end = gives_up script s (roots_of t.drafts)

  end_same : gives_up script t (roots_of t.drafts) ≡ at_end
  end_same = same_end script s t (roots_of t.drafts) come.replies

  pub drafts_left : AreLeft t.drafts s'.drafts at_end
  drafts_left = subst (AreLeft t.drafts s'.drafts) end_same is.drafts

  shared : SharesOn c c' (es ++ ending s.client line at_end) c.map
  shared =
      subst (λ xs. SharesOn c c' (es ++ xs) c.map) (ends at_end (sym end_same))
      (shares_trans c mid c' es (ending t.client line (gives_up script t (roots_of t.drafts))) c.map come.shares
      (shares_ended mid c' (ending t.client line (gives_up script t (roots_of t.drafts))) _ is.noted))

  -- the locks that stand then
  pub ended_locks : c'.locks ≡ locks_left s.client c.locks (gone || at_end)
  ended_locks =
      ap (λ (x : Common D). x.locks) is.noted.only
      ∙ ap (λ k. locks_left k mid.locks (gives_up script t (roots_of t.drafts))) come.client
      ∙ ap (locks_left s.client mid.locks) end_same ∙ ap (λ ls. locks_left s.client ls at_end) come.locks ∙ left_twice s.client c.locks gone at_end

  -- so the line was answered
  pub come_answered : HasAnswered b reply (es ++ ending s.client line at_end) c c' s s'
  come_answered = record {
    shares = shared;
    size = ap (λ (x : Common D). b.size x.store) is.noted.only ∙ come.size;
    room = is.noted.noted.room ∙ come.room;
    faults = λ h. subst (λ n. b.faults c.store h ≤ n) (sym (ap (λ (x : Common D). b.faults x.store h) is.noted.only)) (come.faults h);
    last = λ h. subst (λ n. b.last_fault c.store h ≤ n) (sym (ap (λ (x : Common D). b.last_fault x.store h) is.noted.only)) (come.last h);
    count = subst (λ n. (n ≡ b.count c.store) ⊎ CountsOne (b.count c.store) n) (sym (ap (λ (x : Common D). b.count x.store) is.noted.only)) come.count;
    rest = λ told rest. same_rest b mid.store c'.store (ap (λ (x : Common D). x.store) is.noted.only) told (come.rest told rest);
    few = (let both = length-append es (ending s.client line at_end) in let two = come.few in let short = ending_short s.client line at_end in omega (arith, both, two, short));
    client = ap (λ (x : Course). x.client) is.only ∙ come.client;
    replies = ap (λ (x : Course). x.replies) is.only ∙ ap (λ (r : RepliesValue). record r { items = r.items ++ reply ∷ [] }) come.replies;
    held = ap (λ (x : Course). x.held) is.only ∙ come.held;
    stage = ap (λ (x : Course). x.stage) is.only ∙ come.stage;
    turns = ap (λ (x : Course). x.turns) is.only;
    drafts = safe_left (b.size c.store) t.drafts s'.drafts at_end drafts_left come.drafts;
  }

-- an update that is open as the last line is answered is given up
closed_by : (script : ScriptValue) (s s' : Course) (old : PoolSet) (n : ℕ) → roots_of old ≡ n → AreLeft old s'.drafts (gives_up script s n) → length s'.replies.items ≡ length s.replies.items + 1
    → length s.replies.items < length script.lines → line_of script s' ≡ None → drafts_of s' ≡ 0
closed_by script s s' old zero none left more low last = ap roots_of left ∙ none
closed_by script s s' old (suc n) some left more low last =
    let high : length script.lines ≤ length s'.replies.items = none_within script.lines (length s'.replies.items) last in
    let all : (length s.replies.items + 1 == length script.lines) ≡ true = eq-eqb (length s.replies.items + 1) (length script.lines) (omega (arith, high, low, more)) in
    (subst (AreLeft old s'.drafts) all left).none

pub after_answer : {D : Type 0} (b : Ghosts D) (script : ScriptValue) (reply : LineReply) (es : List Entry) (c c' : Common D) (s s' : Course) → HasAnswered b reply es c c' s s' → s.held ≡ 0
    → length s.replies.items < length script.lines → (old : PoolSet) → AreLeft old s'.drafts (gives_up script s (roots_of old)) → IsAfter script reply s s'
after_answer b script reply es c c' s s' is none low old left = record {
  client = is.client;
  replies = ap (λ (r : RepliesValue). r.items) is.replies;
  held = is.held ∙ none;
  stage = is.stage;
  turns = is.turns;
  closed = closed_by script s s' old (roots_of old) refl left (ap (λ (r : RepliesValue). length r.items) is.replies ∙ length-append s.replies.items (reply ∷ [])) low;
}

-- ---- updates

-- a client with drafts has an update
pub own_is_open : (scene : Scene) (script : ScriptValue) (s : Course) (o : Option Update) → OwnsUpdate scene script s o → drafts_of s ≢ 0 → (u : Update) × (o ≡ Some u)
own_is_open scene script s None own some = absurd (some own)
own_is_open scene script s (Some u) own some = (u, refl)

-- and one without has none
pub own_is_none : (scene : Scene) (script : ScriptValue) (s : Course) (o : Option Update) → OwnsUpdate scene script s o → drafts_of s ≡ 0 → o ≡ None
own_is_none scene script s None own none = refl
own_is_none scene script s (Some u) own none = (let some = own.within in absurd (omega (arith, some, none)))

-- what a client drafts stays so where its drafts do, and every version is there again
pub own_stays : (scene after : Scene) (script : ScriptValue) (s s' : Course) (o : Option Update) → KeepsVersions scene after → s'.drafts ≡ s.drafts → s'.rights ≡ s.rights → (drafts_of s ≢ 0 → HasFed script s → HasFed script s')
    → OwnsUpdate scene script s o → OwnsUpdate after script s' o
own_stays scene after script s s' None keeps same rights fed own = ap roots_of same ∙ own
own_stays scene after script s s' (Some u) keeps same rights fed own =
    drafting_stays scene after script s s' u keeps same rights (fed (some_picked (picked_of s.drafts) (drafts_of s) own.within)) own

-- as a line ends the client drafts what it drafted, or nothing
pub own_left : (after : Scene) (script : ScriptValue) (old : PoolSet) (s' : Course) (c : Client) (b : Bool) → AreLeft old s'.drafts b → (s'.drafts ≡ old → OwnsUpdate after script s' c.update)
    → OwnsUpdate after script s' (left_with c b).update
own_left after script old s' c false left own = own left
own_left after script old s' c true left own = left.none
