-- How a run goes from word to word, and then from client to client.
use Rattle.std.proofs.Common.{◌≡◌, ℕ, zero, suc, ◌+◌, ◌-◌, ◌<◌, ◌≤◌, List, [], ◌∷◌, All, drop, length, Option, Some, None, Result, Ok, Err, refl, sym, ap, ◌∙◌, subst, arith, slice_get, slice_index_or}
use Rattle.std.specs.Option.{option_map_or}
use Rattle.std.proofs.lemmas.List.{length-map}
use Rattle.std.proofs.lemmas.List.Elements.{All-head, All-tail}
use Rattle.pair_store.specs.declared.store.Blocks.{Ghosts}
use Rattle.play_order.specs.Orders.{AnswersOne, AreFinishedBelow, PlayInvariant, answer_count}
use Rattle.play_order.proofs.PlayEnds.{finishing_begins, finishing_goes_on, play_is_done}
use Rattle.play_order.proofs.Plays.{play_begins, play_passes_word, play_takes_end, play_takes_word}
use Rattle.script_text.specs.ScriptValue.{ScriptValue}
use Rattle.script_text.specs.declared.script.Line.{Line}
use Rattle.service_model.specs.declared.journal.Entry.{Entry}
use Rattle.service_model.specs.Entries.{standing_after}
use Rattle.service_model.specs.Standing.{Scripts, Standing, lines_of, next_line}
use Rattle.session.specs.declared.session.Session.{Session}
use Rattle.session.specs.declared.turned.Fault.{Fault}
use Rattle.tree_model.specs.States.{State}
use Rattle.ground.specs.Promises.{IsPromised}
use Rattle.ground.specs.Runs.{GroundValue, entries_in, scripts_in}
use Rattle.ground.specs.Turning.{AreLater, IsRunOf, IsSameRun, replies_of, standing_of}
use Rattle.playing.specs.Lines.{Finishes, Follows, GoesOn, LineCall, PartCall, PlaysLine, StopsOn}
use Rattle.playing.specs.Runs.{IsWholeRun}
use Rattle.playing.specs.declared.line.LineEnd.TheVariants.{Answered, Finished, Stopped}
use Rattle.playing.proofs.LinePlay.{as_many, count_is, failed_earlier, later_none, later_twice, run_goes, same_run, same_twice}

-- ---- lists of words

pub drop_at : (words : List ℕ) (i : ℕ) → i < length words → drop i words ≡ slice_index_or words i 0 ∷ drop (i + 1) words
drop_at [] i low = absurd (omega (arith, low))
drop_at (k ∷ words) zero low = refl
drop_at (k ∷ words) (suc i) low =
    let next : suc i + 1 ≡ suc (i + 1) = omega arith in
    drop_at words i (omega (arith, low)) ∙ ap (λ n. slice_index_or words i 0 ∷ drop n (k ∷ words)) (sym next)

pub drop_all : (words : List ℕ) (i : ℕ) → length words ≤ i → drop i words ≡ []
drop_all [] zero low = refl
drop_all [] (suc i) low = refl
drop_all (k ∷ words) zero low = absurd (omega (arith, low))
drop_all (k ∷ words) (suc i) low = drop_all words i (omega (arith, low))

pub all_at : (P : ℕ → Type 0) (words : List ℕ) (i : ℕ) → All P words → i < length words → P (slice_index_or words i 0)
all_at P [] i all low = absurd (omega (arith, low))
all_at P (k ∷ words) zero all low = All-head P k words all
all_at P (k ∷ words) (suc i) all low = all_at P words i (All-tail P k words all) (omega (arith, low))

none_beyond : (lines : List Line) (n : ℕ) → length lines ≤ n → slice_get lines n ≡ None
none_beyond [] n low = refl
none_beyond (line ∷ lines) zero low = absurd (omega (arith, low))
none_beyond (line ∷ lines) (suc n) low = none_beyond lines n (omega (arith, low))

module _ {D : Type 0} (b : Ghosts D) where
  -- ---- parts of a run

  pub part_begins : (g : GroundValue D) (Does : State → Type 0) → g.fault ≡ None → ((o : State) → Does o) → PartCall b g g Does (Ok tt)
  part_begins g Does none does = record { same = same_run b g; later = later_none b g; ends = (record { fault = none; rest = λ tells r. r }, λ o is. does o) }

  pub part_on : (g0 g h : GroundValue D) (Does More : State → Type 0) → PartCall b g0 g Does (Ok tt) → IsSameRun b g h → AreLater b g h → GoesOn b g h
      → ((o : State) → IsRunOf b g0 o → Does o → More o) → PartCall b g0 h More (Ok tt)
  part_on g0 g h Does More one same later goes then = record {
    same = same_twice b g0 g h one.same same;
    later = later_twice b g0 g h one.later later;
    ends = (record { fault = goes.fault; rest = λ tells r. goes.rest tells (one.ends.0.rest tells r) }, λ o is. then o is (one.ends.1 o is));
  }

  pub part_stops : (g0 g h : GroundValue D) (Does More : State → Type 0) (fault : Fault) → PartCall b g0 g Does (Ok tt) → IsSameRun b g h → AreLater b g h → StopsOn b g h fault
      → PartCall b g0 h More (Err fault)
  part_stops g0 g h Does More fault one same later stops = record {
    same = same_twice b g0 g h one.same same;
    later = later_twice b g0 g h one.later later;
    ends = record {
      failed = λ half drive. failed_earlier b g0 g _ _ _ half _ _ one.later (λ lost o is. lost o (run_goes b g0 g o one.same is)) (stops.failed half drive);
      told = λ o is. stops.told o (run_goes b g0 g o one.same is);
    };
  }

  -- ---- words

  one_here : (o : State) (g0 g h : GroundValue D) (k : ℕ) → IsSameRun b g0 g → (p : PlaysLine o g h k)
      → AnswersOne (scripts_in g0) (standing_after o (scripts_in g0) (entries_in g)) k p.es
  one_here o g0 g h k same p = subst (λ (sc : Scripts). AnswersOne sc (standing_after o sc (entries_in g)) k p.es) same.scripts p.one

  pub follows_line : (o : State) (g0 g h : GroundValue D) (words rest : List ℕ) (k : ℕ) → IsSameRun b g0 g → PlaysLine o g h k → Follows o words (k ∷ rest) g0 g → Follows o words rest g0 h
  follows_line o g0 g h words rest k same p follows all first =
      subst (λ (es : List Entry). PlayInvariant o (scripts_in g0) all rest es) (sym p.entries)
      (play_takes_word o (scripts_in g0) all rest k (entries_in g) p.es (follows all first) (one_here o g0 g h k same p))

  pub follows_none : (o : State) (g0 g : GroundValue D) (words rest : List ℕ) (k : ℕ) → 1 ≤ k → IsSameRun b g0 g → next_line (scripts_in g) (standing_of o g) k ≡ None
      → Follows o words (k ∷ rest) g0 g → Follows o words rest g0 g
  follows_none o g0 g words rest k low same none follows all first =
      play_passes_word o (scripts_in g0) all rest k (entries_in g) (follows all first) low
      (subst (λ (sc : Scripts). next_line sc (standing_after o sc (entries_in g)) k ≡ None) same.scripts none)

  -- the words from this one on are left
  abbrev pub IsAlong : List ℕ → ℕ → GroundValue D → GroundValue D → Type 0
  IsAlong words i g0 g = PartCall b g0 g (λ o. Follows o words (drop i words) g0 g) (Ok tt)

  pub along_begins : (words : List ℕ) (g : GroundValue D) → g.fault ≡ None → IsAlong words 0 g g
  along_begins words g none = part_begins g (λ o. Follows o words (drop 0 words) g g) none (λ o all first. first)

  module _ (words : List ℕ) (i k : ℕ) (g0 g h : GroundValue D) (low : i < length words) (is : k ≡ slice_index_or words i 0) (along : IsAlong words i g0 g) where
    next_word : drop i words ≡ k ∷ drop (i + 1) words
    next_word = drop_at words i low ∙ ap (λ n. n ∷ drop (i + 1) words) (sym is)

    pub word_answered : LineCall b g h k Answered → IsAlong words (i + 1) g0 h
    word_answered call =
        part_on g0 g h (λ o. Follows o words (drop i words) g0 g) (λ o. Follows o words (drop (i + 1) words) g0 h) along call.same call.later call.ends.0
        (λ o run follows. follows_line o g0 g h words (drop (i + 1) words) k along.same (call.ends.2 o (run_goes b g0 g o along.same run))
        (subst (λ left. Follows o words left g0 g) next_word follows))

    pub word_passed : 1 ≤ k → LineCall b g h k Finished → IsAlong words (i + 1) g0 h
    word_passed some call =
        let F : GroundValue D → Type 0 = λ x. IsAlong words (i + 1) g0 x in
        subst F (sym call.ends.0)
        (part_on g0 g g (λ o. Follows o words (drop i words) g0 g) (λ o. Follows o words (drop (i + 1) words) g0 g) along (same_run b g) (later_none b g)
        (record { fault = along.ends.0.fault; rest = λ tells r. r })
        (λ o run follows. follows_none o g0 g words (drop (i + 1) words) k some along.same (call.ends.2 o (run_goes b g0 g o along.same run))
        (subst (λ left. Follows o words left g0 g) next_word follows)))

    pub word_stops : (fault : Fault) (More : State → Type 0) → LineCall b g h k (Stopped fault) → PartCall b g0 h More (Err fault)
    word_stops fault More call = part_stops g0 g h (λ o. Follows o words (drop i words) g0 g) More fault along call.same call.later call.ends

  pub words_end : (words : List ℕ) (i : ℕ) (g0 g : GroundValue D) → length words ≤ i → IsAlong words i g0 g → PartCall b g0 g (λ o. Follows o words [] g0 g) (Ok tt)
  words_end words i g0 g high along =
      subst (λ left. PartCall b g0 g (λ o. Follows o words left g0 g) (Ok tt)) (drop_all words i high) along

  -- ---- one client

  -- so many lines of client k were answered
  pub record IsClimbing (k i : ℕ) (g0 g : GroundValue D) : Type 0 where
    pub part : PartCall b g0 g (λ o. Finishes o k k g0 g) (Ok tt)
    pub count : length (replies_of g0 k) + i ≤ length (replies_of g k)

  pub climb_begins : (k : ℕ) (g : GroundValue D) → g.fault ≡ None → IsClimbing k 0 g g
  climb_begins k g none = record { part = part_begins g (λ o. Finishes o k k g g) none (λ o all first below. (first, below)); count = omega arith }

  module _ (k i : ℕ) (g0 g h : GroundValue D) (climbing : IsClimbing k i g0 g) where
    abbrev climbed : State → Type 0
    climbed o = Finishes o k k g0 g

    module _ (same : IsSameRun b g h) where
      stand_was : (o : State) → standing_of o g ≡ standing_after o (scripts_in g0) (entries_in g)
      stand_was o = ap (λ (sc : Scripts). standing_after o sc (entries_in g)) climbing.part.same.scripts

      stand_now : (o : State) → standing_of o h ≡ standing_after o (scripts_in g0) (entries_in h)
      stand_now o = ap (λ (sc : Scripts). standing_after o sc (entries_in h)) (same.scripts ∙ climbing.part.same.scripts)

      line_more : (o : State) → PlaysLine o g h k → Finishes o k k g0 g → Finishes o k k g0 h
      line_more o p finishes all first below =
          let was = finishes all first below in
          let now =
          play_takes_end o (scripts_in g0) all k (entries_in g) p.es was.0
          (subst (λ (s : Standing). AreFinishedBelow (scripts_in g0) s k) (stand_was o) was.1) (one_here o g0 g h k climbing.part.same p) in
          let there : AreFinishedBelow (scripts_in g0) (standing_after o (scripts_in g0) (entries_in h)) k =
          subst (λ (es : List Entry). AreFinishedBelow (scripts_in g0) (standing_after o (scripts_in g0) es) k) (sym p.entries) now.1 in (
            subst (λ (es : List Entry). PlayInvariant o (scripts_in g0) all [] es) (sym p.entries) now.0,
            subst (λ (s : Standing). AreFinishedBelow (scripts_in g0) s k) (sym (stand_now o)) there,
          )

    none_more : (o : State) → next_line (scripts_in g0) (standing_of o g) k ≡ None → Finishes o k k g0 g → Finishes o k (k + 1) g0 g
    none_more o none finishes all first below =
        let was = finishes all first below in
        (was.0, finishing_goes_on (scripts_in g0) (standing_of o g) k was.1 none)

    pub climbs : LineCall b g h k Answered → IsClimbing k (i + 1) g0 h
    climbs call = record {
      part =
          part_on g0 g h climbed (λ o. Finishes o k k g0 h) climbing.part call.same call.later call.ends.0
          (λ o run finishes. line_more call.same o (call.ends.2 o (run_goes b g0 g o climbing.part.same run)) finishes);
      count = (let low = climbing.count in let more = call.ends.1 in omega (arith, low, more));
    }

    pub climb_stops : (fault : Fault) (More : State → Type 0) → LineCall b g h k (Stopped fault) → PartCall b g0 h More (Err fault)
    climb_stops fault More call = part_stops g0 g h climbed More fault climbing.part call.same call.later call.ends

    none_here : (o : State) → next_line (scripts_in g) (standing_of o g) k ≡ None → next_line (scripts_in g0) (standing_of o g) k ≡ None
    none_here o none = subst (λ (sc : Scripts). next_line sc (standing_of o g) k ≡ None) climbing.part.same.scripts none

    top : ((o : State) → IsRunOf b g o → next_line (scripts_in g) (standing_of o g) k ≡ None) → PartCall b g0 g (λ o. Finishes o k (k + 1) g0 g) (Ok tt)
    top none =
        part_on g0 g g climbed (λ o. Finishes o k (k + 1) g0 g) climbing.part (same_run b g) (later_none b g)
        (record { fault = climbing.part.ends.0.fault; rest = λ tells r. r })
        (λ o run finishes. none_more o (none_here o (none o (run_goes b g0 g o climbing.part.same run))) finishes)

    pub climb_done : LineCall b g h k Finished → PartCall b g0 h (λ o. Finishes o k (k + 1) g0 h) (Ok tt)
    climb_done call =
        let F : GroundValue D → Type 0 = λ x. PartCall b g0 x (λ o. Finishes o k (k + 1) g0 x) (Ok tt) in
        subst F (sym call.ends.0) (top call.ends.2)

    -- after as many lines as the script has
    pub climb_ends : (script : ScriptValue) → slice_get (scripts_in g0) (k - 1) ≡ Some script → length script.lines ≤ i → 1 ≤ k → k ≤ length g0.sessions
        → ((o : State) (run : IsRunOf b g o) → IsPromised b o run.first g) → PartCall b g0 g (λ o. Finishes o k (k + 1) g0 g) (Ok tt)
    climb_ends script at high low within promised = top (λ o run. none_left o run)
      where
        lines : lines_of (scripts_in g) k ≡ script.lines
        lines =
            ap (λ (sc : Scripts). lines_of sc k) climbing.part.same.scripts
            ∙ ap (λ (x : Option ScriptValue). option_map_or (λ (y : ScriptValue). y.lines) x []) at

        none_left : (o : State) → IsRunOf b g o → next_line (scripts_in g) (standing_of o g) k ≡ None
        none_left o run =
            let many = as_many b g0 g climbing.part.same in
            let count = count_is b g o run.first k low (omega (arith, many, within)) (promised o run) in
            let all = climbing.count in
            ap (λ (ls : List Line). slice_get ls (answer_count (standing_of o g) k)) lines
            ∙ none_beyond script.lines (answer_count (standing_of o g) k) (omega (arith, count, all, high))

  -- ---- all clients

  pub ends_begin : (g : GroundValue D) → g.fault ≡ None → PartCall b g g (λ o. Finishes o 1 1 g g) (Ok tt)
  ends_begin g none = part_begins g (λ o. Finishes o 1 1 g g) none (λ o all first below. (first, below))

  pub ends_on : (k : ℕ) (g0 g h : GroundValue D) → PartCall b g0 g (λ o. Finishes o 1 k g0 g) (Ok tt) → PartCall b g h (λ o. Finishes o k (k + 1) g h) (Ok tt)
      → PartCall b g0 h (λ o. Finishes o 1 (k + 1) g0 h) (Ok tt)
  ends_on k g0 g h one two =
      part_on g0 g h (λ o. Finishes o 1 k g0 g) (λ o. Finishes o 1 (k + 1) g0 h) one two.same two.later two.ends.0
      (λ o run finishes all first below.
      let F : Scripts → Type 0 = λ sc. PlayInvariant o sc all [] (entries_in g) → AreFinishedBelow sc (standing_of o g) k
      → PlayInvariant o sc all [] (entries_in h) × AreFinishedBelow sc (standing_of o h) (k + 1) in
      let was = finishes all first below in
      subst F one.same.scripts (two.ends.1 o (run_goes b g0 g o one.same run) all) was.0 was.1)

  -- ---- the whole

  pub whole : (words : List ℕ) (g0 g h : GroundValue D) (r : Result (Unit {0}) Fault) → entries_in g0 ≡ [] → PartCall b g0 g (λ o. Follows o words [] g0 g) (Ok tt)
      → PartCall b g h (λ o. Finishes o 1 (length g.sessions + 1) g h) r → PartCall b g0 h (λ o. IsWholeRun words o h) r
  whole words g0 g h (Ok u) fresh one two =
      part_on g0 g h (λ o. Follows o words [] g0 g) (λ o. IsWholeRun words o h) one two.same two.later two.ends.0
      (λ o run follows. played o run follows)
    where
      scripts_now : scripts_in h ≡ scripts_in g0
      scripts_now = two.same.scripts ∙ one.same.scripts

      clients : length g.sessions + 1 ≡ length (scripts_in h) + 1
      clients = (let size = length-map g.sessions (λ (s : Session). s.script) in let same = ap length two.same.scripts in omega (arith, size, same))

      played : (o : State) → IsRunOf b g0 o → Follows o words [] g0 g → IsWholeRun words o h
      played o run follows =
          let begun : PlayInvariant o (scripts_in g0) words words (entries_in g0) =
          subst (λ (es : List Entry). PlayInvariant o (scripts_in g0) words words es) (sym fresh) (play_begins o (scripts_in g0) words) in
          let behind : PlayInvariant o (scripts_in g) words [] (entries_in g) =
          subst (λ (sc : Scripts). PlayInvariant o sc words [] (entries_in g)) (sym one.same.scripts) (follows words begun) in
          let ends = two.ends.1 o (run_goes b g0 g o one.same run) words behind (finishing_begins (scripts_in g) (standing_of o g)) in
          let inv : PlayInvariant o (scripts_in h) words [] (entries_in h) = subst (λ (sc : Scripts). PlayInvariant o sc words [] (entries_in h)) (sym two.same.scripts) ends.0 in
          let below : AreFinishedBelow (scripts_in h) (standing_of o h) (length (scripts_in h) + 1) =
          subst (λ n. AreFinishedBelow (scripts_in h) (standing_of o h) n) clients
          (subst (λ (sc : Scripts). AreFinishedBelow sc (standing_of o h) (length g.sessions + 1)) (sym two.same.scripts) ends.1) in
          let done = play_is_done o (scripts_in h) words (entries_in h) inv below in
          record { fault = two.ends.0.fault; ordered = done.0; complete = done.1 }
  whole words g0 g h (Err fault) fresh one two = part_stops g0 g h (λ o. Follows o words [] g0 g) (λ o. IsWholeRun words o h) fault one two.same two.later two.ends

  -- ---- by what calls answered

  pub ends_stop : (g0 g h : GroundValue D) (Does More Else : State → Type 0) (fault : Fault) (r : Result (Unit {0}) Fault) → PartCall b g0 g Does (Ok tt) → r ≡ Err fault
      → PartCall b g h More r → PartCall b g0 h Else (Err fault)
  ends_stop g0 g h Does More Else fault r one is two =
      let stopped : PartCall b g h More (Err fault) = subst (PartCall b g h More) is two in
      part_stops g0 g h Does Else fault one stopped.same stopped.later stopped.ends

  pub client_ends : (place k : ℕ) (g0 g h : GroundValue D) (r : Result (Unit {0}) Fault) → PartCall b g0 g (λ o. Finishes o 1 (place + 1) g0 g) (Ok tt) → k ≡ place + 1 → r ≡ Ok tt
      → PartCall b g h (λ o. Finishes o k (k + 1) g h) r → PartCall b g0 h (λ o. Finishes o 1 (place + 1 + 1) g0 h) (Ok tt)
  client_ends place k g0 g h r one number is two =
      let F : ℕ → Type 0 = λ n. PartCall b g h (λ o. Finishes o n (n + 1) g h) (Ok tt) in
      ends_on (place + 1) g0 g h one (subst F number (subst (PartCall b g h (λ o. Finishes o k (k + 1) g h)) is two))

  pub ends_there : (place n : ℕ) (g0 g : GroundValue D) → place ≡ n → PartCall b g0 g (λ o. Finishes o 1 (place + 1) g0 g) (Ok tt) → PartCall b g0 g (λ o. Finishes o 1 (n + 1) g0 g) (Ok tt)
  ends_there place n g0 g is one = (let F : ℕ → Type 0 = λ m. PartCall b g0 g (λ o. Finishes o 1 (m + 1) g0 g) (Ok tt) in subst F is one)

  pub whole_after : (words : List ℕ) (g0 g h : GroundValue D) (w r : Result (Unit {0}) Fault) → entries_in g0 ≡ [] → w ≡ Ok tt → PartCall b g0 g (λ o. Follows o words [] g0 g) w
      → PartCall b g h (λ o. Finishes o 1 (length g.sessions + 1) g h) r → PartCall b g0 h (λ o. IsWholeRun words o h) r
  whole_after words g0 g h w r fresh is one two = whole words g0 g h r fresh (subst (PartCall b g0 g (λ o. Follows o words [] g0 g)) is one) two

  pub whole_stops : (g0 g : GroundValue D) (Does More : State → Type 0) (fault : Fault) (w : Result (Unit {0}) Fault) → w ≡ Err fault → PartCall b g0 g Does w → PartCall b g0 g More (Err fault)
  whole_stops g0 g Does More fault w is one =
      let stopped : PartCall b g0 g Does (Err fault) = subst (PartCall b g0 g Does) is one in
      record { same = stopped.same; later = stopped.later; ends = stopped.ends }
