-- A try to set a link that a half failed in stops the run: where the write failed, with the commit in doubt.
use Rattle.std.proofs.Common.{◌≡◌, inr, ℕ, ◌<◌, ◌≤◌, List, length, Some, Err, refl, sym, ap, ◌∙◌, subst}
use Rattle.std.specs.Prelude.{IfSome}
use Rattle.drives.specs.declared.device.Half.{Half}
use Rattle.pair_store.specs.Blocks.{CountsOne}
use Rattle.pair_store.specs.declared.fault.PairFault.{PairFault}
use Rattle.pair_store.specs.declared.fault.PairFault.TheVariants as pair
use Rattle.pair_store.specs.declared.store.Blocks.{Ghosts}
use Rattle.script_text.specs.ScriptValue.{ScriptValue}
use Rattle.script_text.specs.declared.script.Line.{Line}
use Rattle.service_model.specs.Standing.{Scripts}
use Rattle.service_model.specs.declared.journal.Entry.{Entry}
use Rattle.service_model.specs.declared.journal.What.TheVariants.{Committed}
use Rattle.service_model.specs.declared.named.Named.{Named}
use Rattle.store_model.proofs.Edits.{some_is}
use Rattle.tree_model.specs.States.{State}
use Rattle.version_chain.specs.Flush.{Plan}
use Rattle.ground_model.specs.Commits.{commit_entry}
use Rattle.ground_model.specs.Lines.{in_line}
use Rattle.ground_model.specs.Runs.{Stands}
use Rattle.ground_model.specs.Scenes.{Scene}
use Rattle.ground_model.specs.Stops.{HasStopped}
use Rattle.ground_model.specs.Tests.{LinkCame}
use Rattle.session.specs.Blocks.{DoubtsAlone, made_at}
use Rattle.session.specs.Calls.{IsIn, IsReady, StopsBecause, TurnCall}
use Rattle.session.specs.Ends.{StopsBy}
use Rattle.session.specs.Links.{TriesToLink}
use Rattle.session.specs.Own.{IsWritingBy}
use Rattle.session.specs.Reads.{stopped_by}
use Rattle.session.specs.Safe.{line_of, root_of, serial_of, view_of}
use Rattle.session.specs.Shared.{entries_of}
use Rattle.session.specs.declared.common.Common.{Common}
use Rattle.session.specs.declared.course.Course.{Course}
use Rattle.session.specs.declared.log.Log.{Log}
use Rattle.session.specs.declared.turned.Fault.TheVariants as fault
use Rattle.session.specs.declared.turned.Turned.TheVariants as turned
use Rattle.session.proofs.BlockLaws.{BlockLaws}
use Rattle.session.proofs.Deciding.{line_here, of_line}
use Rattle.session.proofs.Linked.{came_there, made_is, may_commit, tried_because, unlocked_there, written_is}
use Rattle.session.proofs.Numbers.{SameShared, alone_entries, alone_log, alone_same, same_numbers, same_room, same_store, still_safe}
use Rattle.session.proofs.Calling.{stops_here}

-- a turn that stops the run, and leaves all numbers
pub stopped_call : {D : Type 0} (b : Ghosts D) (script : ScriptValue) (c c' : Common D) (s : Course) (flush : Plan) (e : PairFault) → SameShared b c c'
    → IsReady b script c s → CountsOne (b.count c.store) (b.count c'.store) → StopsBecause b (IsWritingBy flush) script c c' s (turned.Stopped (stopped_by e))
    → (b.tells → (opening : State) (scripts : Scripts) (first : ℕ) (scene : Scene) → IsIn b (IsWritingBy flush) script c s opening scripts first scene
    → StopsBy b opening scripts first scene c c' s.client (stopped_by e))
    → TurnCall b (IsWritingBy flush) script c c' s s (turned.Stopped (stopped_by e))
stopped_call b script c c' s flush e same ready one because stops = record {
  store = same_store b script c c' s same ready.store;
  safe = still_safe b script c c' s same ready.safe;
  numbers = same_numbers b script c c' s same;
  client = refl;
  entries = same_room b script c c' s same;
  lines = refl;
  counts = tt;
  rest = tt;
  counted = inr one;
  stopped = because;
  turns = stops;
}

module _ {D : Type 0} (b : Ghosts D) (laws : b.tells → BlockLaws b) (script : ScriptValue) (c c1 : Common D) (s : Course) (flush : Plan) (top : ℕ) where
  -- ---- nothing was written

  module _ (e : PairFault) (t : TriesToLink b script c c1 s flush top (Err e)) where
    stands_still : (opening : State) (scripts : Scripts) (first : ℕ) (scene : Scene) → Stands b opening scripts first scene c.store (entries_of c)
        → Stands b opening scripts first scene c.store c1.log.journal.entries.items
    stands_still opening scripts first scene st =
        subst (λ (es : List Entry). Stands b opening scripts first scene c.store es) (sym (alone_entries b c c1 t.tried.alone)) st

    no_write : ((h : Half) → e ≡ pair.WriteFault h → ⊥) → b.tells → (opening : State) (scripts : Scripts) (first : ℕ) (scene : Scene)
        → IsIn b (IsWritingBy flush) script c s opening scripts first scene → StopsBy b opening scripts first scene c c1 s.client (stopped_by e)
    no_write never told opening scripts first scene is =
        by e (λ h is. never h is) (came_there b laws script c c1 s flush top (Err e) t opening scripts first scene is told)
      where
        object : ℕ
        object = is.mine.merged.work.object

        by : (x : PairFault) → ((h : Half) → x ≡ pair.WriteFault h → ⊥)
            → LinkCame b scene c.store c1.store is.mine.merged.work.object (serial_of s) (root_of s) top (Err x)
            → StopsBy b opening scripts first scene c c1 s.client (stopped_by x)
        by (pair.ReadFault h) off read =
            stops_here b opening scripts first scene c c1 s.client (alone_entries b c c1 t.tried.alone) ((laws told).reads opening scripts first scene c.store c1.store c1.log.journal (stands_still opening scripts first scene is.stands.stands)
            (ap (λ (l : Log). l.journal.doubt) (alone_log b c c1 t.tried.alone) ∙ is.stands.sure) read)
        by (pair.WriteFault h) off torn = absurd (off h refl)
        by (pair.BothClosed n) off none = none
        by (pair.BadPage n why) off none = none

    pub unwritten_call : ((h : Half) → e ≡ pair.WriteFault h → ⊥) → TurnCall b (IsWritingBy flush) script c c1 s s (turned.Stopped (stopped_by e))
    unwritten_call never =
        stopped_call b script c c1 s flush e (alone_same b c c1 t.tried.alone) t.ready.ready t.tried.one (tried_because b laws script c c1 s flush top (Err e) t e refl) (no_write never)

  -- ---- the write failed

  module _ (h : Half) (t : TriesToLink b script c c1 s flush top (Err (pair.WriteFault h))) (c' : Common D) (line : Line) (at : line_of script s ≡ Some line)
      (doubts : DoubtsAlone c1 c' (in_line s.client line (made_at s (b.moment c1.store)))) where
    store_is : c'.store ≡ c1.store
    store_is = ap (λ (x : Common D). x.store) doubts.only

    entries_are : entries_of c' ≡ entries_of c
    entries_are = doubts.entries ∙ alone_entries b c c1 t.tried.alone

    same : SameShared b c c'
    same =
        let one = alone_same b c c1 t.tried.alone in
        record {
          size = ap b.size store_is ∙ one.size;
          faults = λ k. subst (λ (d : D). b.faults c.store k ≤ b.faults d k) (sym store_is) (one.faults k);
          last = λ k. subst (λ (d : D). b.last_fault c.store k ≤ b.last_fault d k) (sym store_is) (one.last k);
          map = ap (λ (x : Common D). x.map) doubts.only ∙ one.map;
          heads = ap (λ (x : Common D). x.heads.items) doubts.only ∙ one.heads;
          entries = entries_are;
          room = doubts.room ∙ one.room;
        }

    torn_stops : b.tells → (opening : State) (scripts : Scripts) (first : ℕ) (scene : Scene) → IsIn b (IsWritingBy flush) script c s opening scripts first scene
        → HasStopped b opening scripts first c'.store c'.log.journal
    torn_stops told opening scripts first scene is =
        let torn = came_there b laws script c c1 s flush top (Err (pair.WriteFault h)) t opening scripts first scene is told in
        let m = is.mine.merged in
        let may = may_commit scripts scene script s flush is.mine torn.last (unlocked_there b laws script c c1 s flush top (Err (pair.WriteFault h)) t opening scripts first scene is) in
        let written = written_is scripts scene script s flush is.mine torn.last t.ready.all in
        let here : line ≡ m.committing.line = some_is (sym at ∙ m.committing.next) in
        let made = made_is scripts scene script s flush is.mine torn.last in
        let entry : in_line s.client line (made_at s (b.moment c1.store)) ≡ commit_entry scene.standing s.client m.committing.line m.update (b.moment c1.store) =
        ap (λ (l : Line). in_line s.client l (made_at s (b.moment c1.store))) here ∙ ap (λ (ns : List Named). in_line s.client m.committing.line (Committed ns (b.moment c1.store))) (sym made) in
        subst (λ (d : D). HasStopped b opening scripts first d c'.log.journal) (sym store_is)
        ((laws told).link_faults opening scripts first s.client scene c.store c1.store c'.log.journal m.committing.line m.update m.work (serial_of s) (root_of s) top m.tree (view_of s) flush
        (subst (λ (es : List Entry). Stands b opening scripts first scene c.store es) (sym entries_are) is.stands.stands) may written t.ready.first torn (doubts.doubt ∙ ap Some entry))

    pub torn_call : TurnCall b (IsWritingBy flush) script c c' s s (turned.Stopped (fault.Drive h))
    torn_call =
        stopped_call b script c c' s flush (pair.WriteFault h) same t.ready.ready (subst (λ (d : D). CountsOne (b.count c.store) (b.count d)) (sym store_is) t.tried.one)
        (subst (λ (d : D). StopsBecause b (IsWritingBy flush) script c (record c1 { store = d }) s (turned.Stopped (fault.Drive h))) (sym store_is)
        (tried_because b laws script c c1 s flush top (Err (pair.WriteFault h)) t (pair.WriteFault h) refl))
        (λ told opening scripts first scene is. stops_here b opening scripts first scene c c' s.client entries_are (torn_stops told opening scripts first scene is))

pub torn_by : {D : Type 0} (b : Ghosts D) → (b.tells → BlockLaws b) → (script : ScriptValue) (c c1 : Common D) (s : Course) (flush : Plan) (top : ℕ) (e : PairFault)
    → TriesToLink b script c c1 s flush top (Err e) → (h : Half) → e ≡ pair.WriteFault h → (c' : Common D) → length s.replies.items < length script.lines
    → IfSome (line_of script s) (λ line. DoubtsAlone c1 c' (in_line s.client line (made_at s (b.moment c1.store))))
    → TurnCall b (IsWritingBy flush) script c c' s s (turned.Stopped (fault.Drive h))
torn_by b laws script c c1 s flush top e t h is c' low doubts =
    let l = line_here script s low in
    torn_call b laws script c c1 s flush top h (subst (λ x. TriesToLink b script c c1 s flush top (Err x)) is t) c' l.0 l.1
    (of_line script s l.0 (λ line. DoubtsAlone c1 c' (in_line s.client line (made_at s (b.moment c1.store)))) l.1 doubts)
