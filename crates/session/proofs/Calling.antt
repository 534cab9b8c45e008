-- How the parts of a turn are put together: parts that make no operation, and then a turn.
use Rattle.std.proofs.Common.{◌≡◌, ◌⊎◌, inl, inr, ℕ, zero, suc, ◌+◌, ◌<◌, Bool, true, false, ◌&&◌, cond, not, nat_eq, List, [], ◌∷◌, ◌++◌, length, Option, Some, None, refl, sym, ap, ◌∙◌, subst, arith, slice_get, append-nil, append_assoc}
use Rattle.std.specs.Prelude.{◌-◌, ◌^◌, count_by, is_some, min}
use Rattle.std.specs.List.{list_all}
use Rattle.std.specs.Option.{option_map_or}
use Rattle.std.proofs.lemmas.List.Folds.{list_all-append}
use Rattle.std.proofs.lemmas.List.Sums.{sum_by-append, sum_by-cons}
use Rattle.pair_store.specs.declared.store.Blocks.{Ghosts}
use Rattle.recovery.specs.Opening.{IsFailed}
use Rattle.script_text.specs.ScriptValue.{ScriptValue}
use Rattle.service_model.specs.declared.journal.Entry.{Entry}
use Rattle.service_model.specs.Entries.{after_entries, after_entry, is_answer}
use Rattle.service_model.specs.Legal.{moment_of}
use Rattle.service_model.specs.Standing.{Scripts, Standing}
use Rattle.service_model.proofs.Journals.{after_append}
use Rattle.tree_model.specs.States.{State}
use Rattle.ground_model.specs.Fronts.{AreOfTurn, is_at, is_change}
use Rattle.ground_model.specs.Leaves.{Leaves}
use Rattle.ground_model.specs.Scenes.{Scene}
use Rattle.ground_model.specs.Stops.{HasStopped}
use Rattle.ground_model.proofs.Known.{known_same}
use Rattle.ground_model.proofs.Steps.{leaves_go_on}
use Rattle.session.specs.Calls.{AnswersLine, CountsTurn, IsCounted, IsIn, IsLost, IsReady, KeepsNumbers, KeepsRest, KeepsRoom, MoveCall, Own, StopsBecause, TurnCall}
use Rattle.play_order.specs.Orders.{AreDue}
use Rattle.session.specs.Ends.{AreOf, AreUnmoved, GoesTo, StopsBy, StopsWith, TurnEnds, TurnGoes, is_unmoving}
use Rattle.session.specs.Safe.{IsSafe, noted_for}
use Rattle.session.specs.Shared.{RunStands, entries_of}
use Rattle.session.specs.Values.{RepliesValue, one_more}
use Rattle.session.specs.declared.common.Common.{Common}
use Rattle.session.specs.declared.course.Course.{Course}
use Rattle.session.specs.declared.turned.Fault.{Fault}
use Rattle.session.specs.declared.turned.Fault.TheVariants as fault
use Rattle.session.specs.declared.turned.Turned.{Turned}
use Rattle.session.specs.declared.turned.Turned.TheVariants as turned

-- ---- numbers

pub keeps_refl : {D : Type 0} (b : Ghosts D) (c : Common D) (k : ℕ) → KeepsNumbers b c c k
keeps_refl b c k = record {
  size = refl;
  blocks = refl;
  others = λ j ne. refl;
  room = refl;
  faults = λ h. omega arith;
  last = λ h. omega arith;
}

pub keeps_trans : {D : Type 0} (b : Ghosts D) (c mid c' : Common D) (k : ℕ) → KeepsNumbers b c mid k → KeepsNumbers b mid c' k → KeepsNumbers b c c' k
keeps_trans b c mid c' k one two = record {
  size = two.size ∙ one.size;
  blocks = two.blocks ∙ one.blocks;
  others = λ j ne. two.others j ne ∙ one.others j ne;
  room = two.room ∙ one.room;
  faults = λ h. (let x = one.faults h in let y = two.faults h in omega (arith, x, y));
  last = λ h. (let x = one.last h in let y = two.last h in omega (arith, x, y));
}

-- ---- entries

pub due_append : (scripts : Scripts) (s : Standing) (es fs : List Entry) → AreDue scripts s es → AreDue scripts (after_entries scripts s es) fs → AreDue scripts s (es ++ fs)
due_append scripts s [] fs one two = two
due_append scripts s (e ∷ es) fs one two = (one.0, due_append scripts (after_entry scripts s e) es fs one.1 two)

own_append : (k : ℕ) (es fs : List Entry) → ((n : ℕ) (e : Entry) → slice_get es n ≡ Some e → e.client ≡ k) → ((n : ℕ) (e : Entry) → slice_get fs n ≡ Some e → e.client ≡ k)
    → (n : ℕ) (e : Entry) → slice_get (es ++ fs) n ≡ Some e → e.client ≡ k
own_append k [] fs one two n e at = two n e at
own_append k (x ∷ es) fs one two zero e at = one 0 e at
own_append k (x ∷ es) fs one two (suc n) e at = own_append k es fs (λ m. one (suc m)) two n e at

pub of_append : (scripts : Scripts) (s : Standing) (k : ℕ) (es fs : List Entry) → AreOf scripts s k es → AreOf scripts (after_entries scripts s es) k fs → AreOf scripts s k (es ++ fs)
of_append scripts s k es fs one two = record {
  own = own_append k es fs one.own two.own;
  due = due_append scripts s es fs one.due two.due;
}

pub of_none : (scripts : Scripts) (s : Standing) (k : ℕ) → AreOf scripts s k []
of_none scripts s k = record { own = λ n e at. (let no : None ≡ Some e = at in absurd (cc no)); due = tt }

unmoved_at : (now : ℕ) (e : Entry) → not (is_change e) ≡ true → is_at now e ≡ true
unmoved_at now e h = by (moment_of e.what) h
  where
    by : (o : Option ℕ) → not (is_some o) ≡ true → option_map_or (λ at. nat_eq at now) o true ≡ true
    by None _ = refl
    by (Some at) h = (let wrong : false ≡ true = h in absurd (cc wrong))

and_parts : (a b : Bool) → (a && b) ≡ true → (a ≡ true) × (b ≡ true)
and_parts true b h = (refl, h)
and_parts false b h = (let wrong : false ≡ true = h in absurd (cc wrong))

unmoved_all : (now : ℕ) (es : List Entry) → AreUnmoved es → list_all (is_at now) es ≡ true
unmoved_all now [] h = refl
unmoved_all now (e ∷ es) h =
    let both = and_parts (is_unmoving e) (list_all is_unmoving es) h in
    ap (λ a. a && list_all (is_at now) es) (unmoved_at now e (and_parts (not (is_change e)) (not (is_answer e.what)) both.0).0) ∙ unmoved_all now es both.1

abbrev one_where : Bool → ℕ
one_where a = cond a 1 0

not_true : (a : Bool) → not a ≡ true → one_where a ≡ 0
not_true true h = (let wrong : false ≡ true = h in absurd (cc wrong))
not_true false h = refl

unmoved_count : (es : List Entry) → AreUnmoved es → count_by is_change es ≡ 0
unmoved_count [] h = refl
unmoved_count (e ∷ es) h =
    let both = and_parts (is_unmoving e) (list_all is_unmoving es) h in
    let here = not_true (is_change e) (and_parts (not (is_change e)) (not (is_answer e.what)) both.0).0 in
    let rest = unmoved_count es both.1 in
    sum_by-cons (λ x. cond (is_change x) 1 0) e es ∙ omega (arith, here, rest)

-- entries without moments may come before those of any turn
pub moved_moments : (now : ℕ) (es fs : List Entry) → AreUnmoved es → AreOfTurn now fs → AreOfTurn now (es ++ fs)
moved_moments now es fs unmoved of_turn = record {
  moments = list_all-append (is_at now) es fs ∙ ap (λ a. a && list_all (is_at now) fs) (unmoved_all now es unmoved) ∙ of_turn.moments;
  one = (let all = sum_by-append (λ x. cond (is_change x) 1 0) es fs in let none = unmoved_count es unmoved in let one = of_turn.one in omega (arith, all, none, one));
}

-- a turn that stopped the run noted what was noted before the stop, and with it
module _ {D : Type 0} (b : Ghosts D) (opening : State) (scripts : Scripts) (first : ℕ) where
  -- nothing was noted
  pub stops_here : (scene : Scene) (c c' : Common D) (k : ℕ) → entries_of c' ≡ entries_of c → HasStopped b opening scripts first c'.store c'.log.journal
      → StopsWith b opening scripts first scene c c' k
  stops_here scene c c' k same h = record {
    es = [];
    entries = same ∙ sym (append-nil (entries_of c));
    of_client = of_none scripts scene.standing k;
    unmoved = refl;
    stopped = h;
  }

  -- these entries were noted before
  pub stops_after : (scene mid : Scene) (c m c' : Common D) (k : ℕ) (es : List Entry) (f : Fault) → GoesTo b opening scripts first scene mid c m k es → AreUnmoved es
      → StopsBy b opening scripts first mid m c' k f → StopsBy b opening scripts first scene c c' k f
  stops_after scene mid c m c' k es (fault.Drive half) goes unmoved on = record {
    es = es ++ on.es;
    entries = on.entries ∙ ap (λ xs. xs ++ on.es) goes.entries ∙ append_assoc (entries_of c) es on.es;
    of_client = of_append scripts scene.standing k es on.es goes.of_client (subst (λ (s : Standing). AreOf scripts s k on.es) goes.leads on.of_client);
    unmoved = list_all-append is_unmoving es on.es ∙ ap (λ a. a && list_all is_unmoving on.es) unmoved ∙ on.unmoved;
    stopped = on.stopped;
  }
  stops_after scene mid c m c' k es (fault.Bad block why) goes unmoved on = on

-- ---- scenes

pub leaves_same : (k : ℕ) (scene : Scene) → Leaves k scene scene
leaves_same k scene = record {
  client = refl;
  clients = refl;
  upkeep = λ up mine. (λ is. is, λ is. is);
  held = λ n is. (is, refl);
  versions = λ w version relied. record { again = version; is = relied.is; serial = refl; block = refl; tree = refl; pages = λ p n at. refl };
  made = λ w version relied m is object serial. is;
  known = λ w on. known_same w.object scene.standing.made scene.standing.made refl;
}

pub goes_trans : {D : Type 0} (b : Ghosts D) (opening : State) (scripts : Scripts) (first : ℕ) (old mid new : Scene) (c d e : Common D) (k : ℕ) (es fs : List Entry)
    → GoesTo b opening scripts first old mid c d k es → GoesTo b opening scripts first mid new d e k fs → GoesTo b opening scripts first old new c e k (es ++ fs)
goes_trans b opening scripts first old mid new c d e k es fs one two = record {
  entries = two.entries ∙ ap (λ xs. xs ++ fs) one.entries ∙ append_assoc (entries_of c) es fs;
  of_client = of_append scripts old.standing k es fs one.of_client (subst (λ (s : Standing). AreOf scripts s k fs) one.leads two.of_client);
  leads = two.leads ∙ ap (λ (s : Standing). after_entries scripts s fs) one.leads ∙ sym (after_append scripts old.standing es fs);
  stands = two.stands;
  others = λ j low ne. leaves_go_on j old mid new (one.others j low ne) (two.others j low ne);
}

pub goes_same : {D : Type 0} (b : Ghosts D) (opening : State) (scripts : Scripts) (first : ℕ) (scene : Scene) (c : Common D) (k : ℕ)
    → RunStands b opening scripts first scene c → GoesTo b opening scripts first scene scene c c k []
goes_same b opening scripts first scene c k st = record {
  entries = sym (append-nil (entries_of c));
  of_client = of_none scripts scene.standing k;
  leads = refl;
  stands = st;
  others = λ j low ne. leaves_same j scene;
}

-- ---- moves

-- a part that changes nothing shared, and the course only in its drafts and in what it counts, is a move
-- wherever what the client has of its own is another thing by it
pub drafts_move : {D : Type 0} (b : Ghosts D) (own own' : Own) (script : ScriptValue) (c : Common D) (s s' : Course)
    → IsReady b script c s → IsSafe (b.size c.store) c.map script s'
    → s'.client ≡ s.client → s'.replies ≡ s.replies → s'.held ≡ s.held
    → (b.tells → (opening : State) (scripts : Scripts) (first : ℕ) (scene : Scene) → IsIn b own script c s opening scripts first scene → own' scripts scene script s')
    → MoveCall b own own' script c c s s'
drafts_move b own own' script c s s' ready safe client replies held mine = record {
  same = refl;
  store = ready.store;
  safe = safe;
  numbers = keeps_refl b c s.client;
  client = client;
  replies = replies;
  entries = left (ap (λ (x : RepliesValue). length x.items) replies) (ap noted_for held);
  moves = λ told opening scripts first scene is. (scene, [], goes_same b opening scripts first scene c s.client is.stands, refl, mine told opening scripts first scene is);
}
  where
    left : length s'.replies.items ≡ length s.replies.items → noted_for s'.held ≡ noted_for s.held → KeepsRoom script c c s s'
    left lines more = omega (arith, lines, more)

-- ---- a move, and then a turn

module _ {D : Type 0} (b : Ghosts D) (own own' : Own) (script : ScriptValue) (c mid c' : Common D) (s t s' : Course) (result : Turned)
    (line : length s.replies.items < length script.lines) (one : MoveCall b own own' script c mid s t) (two : TurnCall b own' script mid c' t s' result) where
  moved_lines : (r : Turned) → AnswersLine script t s' r → AnswersLine script s s' r
  moved_lines (turned.Line n) (at, reply, is, number, more) = (at, reply, ap (λ (x : RepliesValue). slice_get script.lines (length x.items)) (sym one.replies) ∙ is, number, more ∙ ap (λ (x : RepliesValue). record x { items = x.items ++ reply ∷ [] }) one.replies)
  moved_lines turned.Again same = same ∙ one.replies
  moved_lines (turned.Work job) (same, work) = (same ∙ one.replies, work)
  moved_lines turned.Finished (all, same) = absurd (let e = ap (λ (x : RepliesValue). length x.items) one.replies in omega (arith, e, all, line))
  moved_lines (turned.Stopped fault) same = same ∙ one.replies

  -- the part counted no turn
  moved_counts : t.turns ≡ s.turns → (r : Turned) → CountsTurn t s' r → CountsTurn s s' r
  moved_counts turns (turned.Line n) counts = counts
  moved_counts turns turned.Again counts = counts ∙ ap one_more turns
  moved_counts turns (turned.Work job) counts = counts ∙ ap one_more turns
  moved_counts turns turned.Finished counts = counts ∙ turns
  moved_counts turns (turned.Stopped fault) counts = tt

  moved_lost : b.tells → IsLost b own' script mid t → IsLost b own script c s
  moved_lost told none opening scripts first scene is =
      let there = one.moves told opening scripts first scene is in
      none opening scripts first there.0 (record { stands = there.2.stands; mine = there.4 })

  moved_stop : StopsBecause b own script c c' s result
  moved_stop h is =
      let stop = two.stopped h is in
      let was : IsFailed (b.faults c.store) (b.faults c'.store) (b.last_fault c'.store) (b.moment c'.store) (b.tells → IsLost b own' script mid t) h =
      subst (λ (d : D). IsFailed (b.faults d) (b.faults c'.store) (b.last_fault c'.store) (b.moment c'.store) (b.tells → IsLost b own' script mid t) h) one.same stop in
      record { failed = was.failed; last = by was.last }
    where
      by : (b.last_fault c'.store h ≡ b.moment c'.store) ⊎ ((b.moment c'.store ≡ min (b.last_fault c'.store h + 1) (2 ^ 64 - 1)) × (b.tells → IsLost b own' script mid t))
          → (b.last_fault c'.store h ≡ b.moment c'.store) ⊎ ((b.moment c'.store ≡ min (b.last_fault c'.store h + 1) (2 ^ 64 - 1)) × (b.tells → IsLost b own script c s))
      by (inl e) = inl e
      by (inr (e, none)) = inr (e, λ told. moved_lost told (none told))

  moved_goes : (opening : State) (scripts : Scripts) (first : ℕ) (scene after : Scene) (es : List Entry) → GoesTo b opening scripts first scene after c mid s.client es → AreUnmoved es
      → TurnGoes b opening scripts first after mid c' script s' → TurnGoes b opening scripts first scene c c' script s'
  moved_goes opening scripts first scene after es goes unmoved on = record {
    es = es ++ on.es;
    after = on.after;
    goes = goes_trans b opening scripts first scene after on.after c mid c' s'.client es on.es
        (subst (λ (k : ℕ). GoesTo b opening scripts first scene after c mid k es) (sym (two.client ∙ one.client)) goes) on.goes;
    moments = moved_moments (b.moment c'.store) es on.es unmoved on.moments;
    mine = on.mine;
  }

  moved_ends : (opening : State) (scripts : Scripts) (first : ℕ) (scene after : Scene) (es : List Entry) → GoesTo b opening scripts first scene after c mid s.client es → AreUnmoved es
      → (r : Turned) → AnswersLine script t s' r → TurnEnds b opening scripts first after mid c' script t s' r → TurnEnds b opening scripts first scene c c' script s s' r
  moved_ends opening scripts first scene after es goes unmoved (turned.Line n) answers ends = moved_goes opening scripts first scene after es goes unmoved ends
  moved_ends opening scripts first scene after es goes unmoved turned.Again answers ends = moved_goes opening scripts first scene after es goes unmoved ends
  moved_ends opening scripts first scene after es goes unmoved (turned.Work job) answers ends = moved_goes opening scripts first scene after es goes unmoved ends
  moved_ends opening scripts first scene after es goes unmoved turned.Finished (all, same) ends = absurd (let e = ap (λ (x : RepliesValue). length x.items) one.replies in omega (arith, e, all, line))
  moved_ends opening scripts first scene after es goes unmoved (turned.Stopped fault) answers ends =
      stops_after b opening scripts first scene after c mid c' s'.client es fault (subst (λ (k : ℕ). GoesTo b opening scripts first scene after c mid k es) (sym (two.client ∙ one.client)) goes) unmoved ends

  pub moved_call : t.turns ≡ s.turns → TurnCall b own script c c' s s' result
  moved_call turns = record {
    store = two.store;
    safe = two.safe;
    numbers = keeps_trans b c mid c' s.client one.numbers (subst (λ (k : ℕ). KeepsNumbers b mid c' k) one.client two.numbers);
    client = two.client ∙ one.client;
    entries = (let x = one.entries in let y = two.entries in omega (arith, x, y));
    lines = moved_lines result two.lines;
    counts = moved_counts turns result two.counts;
    rest = subst (λ (d : D). KeepsRest b d c'.store result) one.same two.rest;
    counted = subst (λ (d : D). IsCounted (b.count d) (b.count c'.store) result) one.same two.counted;
    stopped = moved_stop;
    turns = λ told opening scripts first scene is.
        let there = one.moves told opening scripts first scene is in
        moved_ends opening scripts first scene there.0 there.1 there.2 there.3 result two.lines
        (two.turns told opening scripts first there.0 (record { stands = there.2.stands; mine = there.4 }));
  }
