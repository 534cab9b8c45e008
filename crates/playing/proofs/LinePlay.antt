-- How a client goes on to its next answer, turn by turn.
use Rattle.std.proofs.Common.{◌≡◌, inl, inr, ℕ, zero, suc, ◌+◌, ◌-◌, ◌^◌, ◌<◌, ◌≤◌, List, [], ◌∷◌, ◌++◌, length, Some, None, refl, sym, ap, ◌∙◌, subst, arith, append-nil, append_assoc, length-append}
use Rattle.std.proofs.lemmas.List.{length-map}
use Rattle.drives.specs.declared.device.Half.{Half}
use Rattle.pair_store.specs.declared.store.Blocks.{Ghosts}
use Rattle.play_order.specs.Orders.{AnswersOne, AreOfClient, IsBetween, IsWithin, answer_count}
use Rattle.play_order.proofs.PlayEnds.{full_is_finished}
use Rattle.play_order.proofs.WholeLines.{within_begins, within_ends, within_goes_on}
use Rattle.recovery.specs.Opening.{IsFailed}
use Rattle.ground_model.specs.Opened.{IsOpenedFrom}
use Rattle.recovery.specs.declared.opened.OpenedOver.{OpenedOver}
use Rattle.service_model.specs.declared.journal.Entry.{Entry}
use Rattle.service_model.specs.Entries.{after_entries, standing_after}
use Rattle.service_model.specs.Legal.{IsLegalFrom}
use Rattle.service_model.specs.Standing.{Scripts, Standing, client_of, lines_of, next_line, start}
use Rattle.service_model.proofs.Journals.{after_append}
use Rattle.session.specs.Calls.{KeepsRest}
use Rattle.session.specs.Ends.{AreOf}
use Rattle.session.specs.Values.{one_more}
use Rattle.session.specs.declared.session.Session.{Session}
use Rattle.session.specs.declared.turned.Fault.{Fault}
use Rattle.session.specs.declared.turned.Fault.TheVariants.{Drive, Bad}
use Rattle.session.specs.declared.turned.Turned.{Turned}
use Rattle.session.specs.declared.turned.Turned.TheVariants as turned
use Rattle.store_model.specs.Found.{found}
use Rattle.tree_model.specs.States.{State}
use Rattle.ground.specs.Promises.{IsPromised}
use Rattle.ground.specs.Runs.{GroundValue, entries_in, scripts_in, store_in}
use Rattle.ground.specs.Turning.{AnswersTurn, AreLater, CountsTurns, HasNoted, IsNeverBad, IsRunOf, IsSameRun, IsStoppedBy, IsThrough, IsTimely, IsWhole, fault_of, replies_of, standing_of, turns_of}
use Rattle.playing.specs.Lines.{GoesOn, LineCall, PlaysLine}
use Rattle.playing.specs.declared.line.LineEnd.TheVariants.{Answered, Finished, Stopped}

-- a turn more is counted
one_more_low : (n i : ℕ) → i ≤ n → i < 2 ^ 64 - 1 → i + 1 ≤ one_more n
one_more_low n i low few = omega (arith, low, few)

-- what a run promises wherever its contents are told
abbrev pub Promises : {D : Type 0} → Ghosts D → GroundValue D → Type 0
Promises b g = (opening : State) (run : IsRunOf b g opening) → IsPromised b opening run.first g

-- What a turn of client k came to, as far as its line asks for it.
pub record Took {D : Type 0} (b : Ghosts D) (g g' : GroundValue D) (k : ℕ) (r : Turned) : Type 0 where
  pub run : IsSameRun b g g'
  pub fault : g'.fault ≡ fault_of r
  pub answers : AnswersTurn g g' k r
  pub turns : CountsTurns g g' k r
  pub finished : IsThrough g k → g.fault ≡ None → r ≡ turned.Finished
  pub later : AreLater b g g'
  pub rest : KeepsRest b (store_in g) (store_in g') r
  pub stopped : IsStoppedBy b g g' r
  pub notes : (opening : State) → IsRunOf b g opening → HasNoted b opening g g' k
  pub timely : (opening : State) → IsRunOf b g opening → g'.fault ≡ None → IsTimely opening g' k
  pub whole : (opening : State) → IsRunOf b g opening → IsWhole opening g' k r
  pub good : (opening : State) → IsRunOf b g opening → IsNeverBad r
  pub promised : Promises b g'

-- Where contents are told: the line noted these entries so far, none of which answers it, and the client's answers are those of what stands.
pub record HasGone {D : Type 0} (opening : State) (g0 g : GroundValue D) (k i : ℕ) : Type 0 where
  pub es : List Entry
  pub entries : entries_in g ≡ entries_in g0 ++ es
  pub within : IsWithin (scripts_in g0) (standing_of opening g0) k es
  pub count : length (replies_of g k) ≡ answer_count (standing_of opening g) k
  pub small : 1 ≤ i → turns_of g k < 2 ^ 48

-- After so many turns of the line it still goes on.
pub record Going {D : Type 0} (b : Ghosts D) (g0 g : GroundValue D) (k i : ℕ) : Type 0 where
  pub same : IsSameRun b g0 g
  pub clients : length g.sessions ≡ length g0.sessions
  pub later : AreLater b g0 g
  pub fault : g.fault ≡ None
  pub rest : b.tells → b.rest (store_in g0) → b.rest (store_in g)
  pub replies : replies_of g k ≡ replies_of g0 k
  pub first : i ≡ 0 → g ≡ g0
  pub more : 1 ≤ i → IsThrough g k → ⊥
  pub turns : i ≤ turns_of g k
  pub told : (opening : State) → IsRunOf b g0 opening → HasGone opening g0 g k i

module _ {D : Type 0} (b : Ghosts D) where
  -- the run is over the same store as it was opened
  pub run_goes : (g g' : GroundValue D) (o : State) → IsSameRun b g g' → IsRunOf b g o → IsRunOf b g' o
  run_goes g g' o same is =
      let F : OpenedOver D → Type 0 = λ o. IsOpenedFrom b o is.first in
      record {
        tells = is.tells;
        first = is.first;
        opened = subst F (sym same.opened) is.opened;
        found = ap (λ (x : OpenedOver D). found (b.content x.store) (b.size x.store)) same.opened ∙ is.found;
      }

  pub same_twice : (g h k : GroundValue D) → IsSameRun b g h → IsSameRun b h k → IsSameRun b g k
  same_twice g h k one two = record { opened = two.opened ∙ one.opened; scripts = two.scripts ∙ one.scripts; size = two.size ∙ one.size }

  pub same_run : (g : GroundValue D) → IsSameRun b g g
  same_run g = record { opened = refl; scripts = refl; size = refl }

  -- it has as many clients
  pub as_many : (g g' : GroundValue D) → IsSameRun b g g' → length g'.sessions ≡ length g.sessions
  as_many g g' same =
      let one = length-map g.sessions (λ (s : Session). s.script) in
      let two = length-map g'.sessions (λ (s : Session). s.script) in
      let three = ap length same.scripts in
      omega (arith, one, two, three)

  pub later_twice : (g h k : GroundValue D) → AreLater b g h → AreLater b h k → AreLater b g k
  later_twice g h k one two = record {
    faults = λ x. (let f = one.faults x in let s = two.faults x in omega (arith, f, s));
    last = λ x. (let f = one.last x in let s = two.last x in omega (arith, f, s));
  }

  pub later_none : (g : GroundValue D) → AreLater b g g
  later_none g = record { faults = λ x. omega arith; last = λ x. omega arith }

  -- a fault seen from an earlier beginning
  pub failed_earlier : (g h : GroundValue D) (faults last : Half → ℕ) (moment : ℕ) (half : Half) (Lost Lost' : Type 0) → AreLater b g h → (Lost → Lost')
      → IsFailed (b.faults (store_in h)) faults last moment Lost half → IsFailed (b.faults (store_in g)) faults last moment Lost' half
  failed_earlier g h faults last moment half Lost Lost' later lost f =
      let less = later.faults half in
      record {
        failed = elim f.failed [ inl rose ↦ inl (omega (arith, less, rose)) | inr ended ↦ inr ended ];
        last = elim f.last [ inl x ↦ inl x | inr x ↦ inr (x.0, lost x.1) ];
      }

  pub count_is : (g : GroundValue D) (o : State) (first k : ℕ) → 1 ≤ k → k ≤ length g.sessions → IsPromised b o first g → length (replies_of g k) ≡ answer_count (standing_of o g) k
  count_is g o first k low high p = ap length (p.answers k low high) ∙ ap (λ (s : Standing). length (client_of s k).answers) (sym p.legal.leads)

  -- where a run stands after more entries
  pub stands_after : (g g' : GroundValue D) (o : State) (es : List Entry) → IsSameRun b g g' → entries_in g' ≡ entries_in g ++ es
      → standing_of o g' ≡ after_entries (scripts_in g) (standing_of o g) es
  stands_after g g' o es same entries =
      ap (λ (sc : Scripts). standing_after o sc (entries_in g')) same.scripts ∙ ap (standing_after o (scripts_in g)) entries
      ∙ after_append (scripts_in g) (start o (scripts_in g)) (entries_in g) es

  module _ (k : ℕ) (low : 1 ≤ k) where
    pub begins : (g : GroundValue D) → k ≤ length g.sessions → g.fault ≡ None → Promises b g → Going b g g k 0
    begins g high none promises = record {
      same = same_run g;
      clients = refl;
      later = later_none g;
      fault = none;
      rest = λ tells r. r;
      replies = refl;
      first = λ z. refl;
      more = λ one. absurd (omega (arith, one));
      turns = omega arith;
      told = λ o is. record {
        es = [];
        entries = sym (append-nil (entries_in g));
        within = within_begins (scripts_in g) (standing_of o g) k;
        count = count_is g o is.first k low high (promises o is);
        small = λ one. absurd (omega (arith, one));
      };
    }

    -- ---- one turn more

    module _ (g0 g g' : GroundValue D) (i : ℕ) (r : Turned) (high : k ≤ length g0.sessions) (was : Going b g0 g k i) (clients : length g'.sessions ≡ length g.sessions)
        (t : Took b g g' k r) where
      now : (o : State) → IsRunOf b g0 o → IsRunOf b g o
      now o is = run_goes g0 g o was.same is

      then : (o : State) → IsRunOf b g0 o → IsRunOf b g' o
      then o is = run_goes g g' o t.run (now o is)

      all_same : IsSameRun b g0 g'
      all_same = same_twice g0 g g' was.same t.run

      all_later : AreLater b g0 g'
      all_later = later_twice g0 g g' was.later t.later

      count_now : (o : State) → IsRunOf b g0 o → length (replies_of g' k) ≡ answer_count (standing_of o g') k
      count_now o is =
          count_is g' o (then o is).first k low (let one = was.clients in omega (arith, one, clients, high)) (t.promised o (then o is))

      module _ (o : State) (is : IsRunOf b g0 o) where
        gone : HasGone o g0 g k i
        gone = was.told o is

        noted : HasNoted b o g g' k
        noted = t.notes o (now o is)

        abbrev sc : Scripts
        sc = scripts_in g0

        abbrev s0 : Standing
        s0 = standing_of o g0

        abbrev s1 : Standing
        s1 = after_entries sc s0 gone.es

        stood : standing_of o g ≡ s1
        stood = stands_after g0 g o gone.es was.same gone.entries

        stands : standing_of o g' ≡ after_entries sc s1 noted.es
        stands =
            stands_after g g' o noted.es t.run noted.entries ∙ ap (λ (x : Scripts). after_entries x (standing_of o g) noted.es) was.same.scripts
            ∙ ap (λ (s : Standing). after_entries (scripts_in g0) s noted.es) stood

        of_client : AreOfClient sc s1 k noted.es
        of_client =
            let there : standing_after o (scripts_in g) (entries_in g) ≡ after_entries (scripts_in g0) (standing_of o g0) gone.es = stood in
            let due : AreOf (scripts_in g0) (after_entries (scripts_in g0) (standing_of o g0) gone.es) k noted.es =
            subst (λ (x : Scripts). AreOf x (after_entries (scripts_in g0) (standing_of o g0) gone.es) k noted.es) was.same.scripts
            (subst (λ (s : Standing). AreOf (scripts_in g) s k noted.es) there noted.of_client) in
            let legal : IsLegalFrom (scripts_in g0) (after_entries (scripts_in g0) (standing_of o g0) gone.es) noted.es =
            subst (λ (x : Scripts). IsLegalFrom x (after_entries (scripts_in g0) (standing_of o g0) gone.es) noted.es) was.same.scripts
            (subst (λ (s : Standing). IsLegalFrom (scripts_in g) s noted.es) there noted.legal) in
            record { own = due.own; legal = legal; due = due.due }

        count_was : length (replies_of g k) ≡ answer_count s1 k
        count_was = gone.count ∙ ap (λ (s : Standing). answer_count s k) stood

        count_is_now : length (replies_of g' k) ≡ answer_count (after_entries sc s1 noted.es) k
        count_is_now = count_now o is ∙ ap (λ (s : Standing). answer_count s k) stands

        all_entries : entries_in g' ≡ entries_in g0 ++ (gone.es ++ noted.es)
        all_entries = noted.entries ∙ ap (λ xs. xs ++ noted.es) gone.entries ∙ append_assoc (entries_in g0) gone.es noted.es

      -- the line goes on
      module _ (replies : replies_of g' k ≡ replies_of g k) (turns : turns_of g' k ≡ one_more (turns_of g k)) (kept : b.tells → b.rest (store_in g) → b.rest (store_in g'))
          (going : g'.fault ≡ None) (on : r ≡ turned.Finished → ⊥) (few : i < 2 ^ 64 - 1) where
        gone_on : (o : State) → IsRunOf b g0 o → HasGone o g0 g' k (i + 1)
        gone_on o is = record {
          es = (gone o is).es ++ (noted o is).es;
          entries = all_entries o is;
          within = within_goes_on (scripts_in g0) (standing_of o g0) k (gone o is).es (noted o is).es (gone o is).within (record {
            entries = of_client o is;
            same = sym (count_is_now o is) ∙ ap length replies ∙ count_was o is;
          });
          count = count_now o is;
          small = λ one. (t.timely o (now o is) going).small;
        }

        through_back : IsThrough g' k → IsThrough g k
        through_back through = sym (ap length replies) ∙ through ∙ ap (λ (x : Scripts). length (lines_of x k)) t.run.scripts

        pub goes_on : Going b g0 g' k (i + 1)
        goes_on = record {
          same = all_same;
          clients = clients ∙ was.clients;
          later = all_later;
          fault = going;
          rest = λ tells r. kept tells (was.rest tells r);
          replies = replies ∙ was.replies;
          first = λ z. absurd (omega (arith, z));
          more = λ one through. on (t.finished (through_back through) was.fault);
          turns = (let one = was.turns in let two = turns in let three = one_more_low (turns_of g k) i one few in omega (arith, two, three));
          told = gone_on;
        }

      -- it is answered
      pub line_ends : (n : ℕ) → r ≡ turned.Line n → LineCall b g0 g' k Answered
      line_ends n is = record { same = all_same; later = all_later; ends = (goes, count, plays) }
        where
          answering : AnswersTurn g g' k (turned.Line n)
          answering = subst (AnswersTurn g g' k) is t.answers

          kept : KeepsRest b (store_in g) (store_in g') (turned.Line n)
          kept = subst (KeepsRest b (store_in g) (store_in g')) is t.rest

          goes : GoesOn b g0 g'
          goes = record { fault = t.fault ∙ ap fault_of is; rest = λ tells r. kept tells (was.rest tells r) }

          one_reply : length (replies_of g' k) ≡ length (replies_of g k) + 1
          one_reply =
              let more = ap length answering.more in
              let size = length-append (replies_of g k) (answering.reply ∷ []) in
              omega (arith, more, size)

          count : length (replies_of g' k) ≡ length (replies_of g0 k) + 1
          count = (let one = one_reply in let same = ap length was.replies in omega (arith, one, same))

          plays : (o : State) → IsRunOf b g0 o → PlaysLine o g0 g' k
          plays o told = record {
            es = (gone o told).es ++ (noted o told).es;
            entries = all_entries o told;
            one = within_ends (scripts_in g0) (standing_of o g0) k (gone o told).es (noted o told).es (gone o told).within (answers_one o told);
          }
            where
              between : (o : State) → IsRunOf b g0 o → IsBetween (scripts_in g') (standing_of o g') k
              between o told = subst (IsWhole o g' k) is (t.whole o (now o told))

              answers_one : (o : State) (told : IsRunOf b g0 o) → AnswersOne (scripts_in g0) (after_entries (scripts_in g0) (standing_of o g0) (gone o told).es) k (noted o told).es
              answers_one o told = record {
                entries = of_client o told;
                more = (let one = one_reply in let was_count = count_was o told in let is_count = count_is_now o told in omega (arith, one, was_count, is_count));
                between =
                    let there : IsBetween (scripts_in g0) (standing_of o g') k = subst (λ (x : Scripts). IsBetween x (standing_of o g') k) all_same.scripts (between o told) in
                    subst (λ (s : Standing). IsBetween (scripts_in g0) s k) (stands o told) there;
              }

      -- a fault stops the run
      pub stop_ends : (fault : Fault) → r ≡ turned.Stopped fault → LineCall b g0 g' k (Stopped fault)
      stop_ends fault is = record {
        same = all_same;
        later = all_later;
        ends = record {
          failed = λ h drive.
              failed_earlier g0 g _ _ _ h _ _ was.later (λ lost o told. lost o (now o told)) (t.stopped h was.fault (is ∙ ap turned.Stopped drive));
          told = λ o told. by_fault o told fault is;
        };
      }
        where
          by_fault : (o : State) → IsRunOf b g0 o → (f : Fault) → r ≡ turned.Stopped f → (half : Half) × (f ≡ Drive half) × (g'.fault ≡ Some f)
          by_fault o told (Drive half) e = (half, refl, t.fault ∙ ap fault_of e)
          by_fault o told (Bad block why) e = absurd (t.good o (now o told) block why e)

      -- the client had no line left
      pub finished_ends : r ≡ turned.Finished → LineCall b g0 g' k Finished
      finished_ends is = record { same = all_same; later = all_later; ends = (nothing ∙ back, through0, none_left) }
        where
          finishing : AnswersTurn g g' k turned.Finished
          finishing = subst (AnswersTurn g g' k) is t.answers

          nothing : g' ≡ g
          nothing = finishing.1

          at_first : (n : ℕ) → i ≡ n → i ≡ 0
          at_first zero e = e
          at_first (suc n) e = absurd (was.more (omega (arith, e)) finishing.0)

          back : g ≡ g0
          back = was.first (at_first i refl)

          through0 : IsThrough g0 k
          through0 = subst (λ (x : GroundValue D). IsThrough x k) back finishing.0

          none_left : (o : State) → IsRunOf b g0 o → next_line (scripts_in g0) (standing_of o g0) k ≡ None
          none_left o told =
              let count : length (replies_of g0 k) ≡ answer_count (standing_of o g0) k =
              subst (λ (x : GroundValue D). length (replies_of x k) ≡ answer_count (standing_of o x) k) back (gone o told).count in
              full_is_finished (scripts_in g0) (standing_of o g0) k (sym count ∙ through0)

    -- ---- a line that does not end

    pub never_ends : (g0 g : GroundValue D) (i : ℕ) (fault : Fault) → Going b g0 g k i → 2 ^ 64 - 1 ≤ i → ((h : Half) → fault ≡ Drive h → ⊥) → LineCall b g0 g k (Stopped fault)
    never_ends g0 g i fault was many other = record {
      same = was.same;
      later = was.later;
      ends = record {
        failed = λ h drive. absurd (other h drive);
        told = λ o told. absurd (let small = (was.told o told).small (omega (arith, many)) in let low = was.turns in omega (arith, small, low, many));
      };
    }
