-- A commit that finds its link taken goes on with the version that was linked there.
use Rattle.std.proofs.Common.{◌≡◌, ℕ, ◌+◌, ◌≤◌, [], Result, Ok, refl, sym, ap, ◌∙◌, subst, arith}
use Rattle.pair_store.specs.declared.fault.PairFault.{PairFault}
use Rattle.pair_store.specs.declared.outcome.Tas.{Tas}
use Rattle.pair_store.specs.declared.outcome.Tas.TheVariants.{Taken}
use Rattle.pair_store.specs.declared.store.Blocks.{Ghosts}
use Rattle.script_text.specs.ScriptValue.{ScriptValue}
use Rattle.service_model.specs.Standing.{Scripts, Client, client_of}
use Rattle.tree_model.specs.States.{State}
use Rattle.version_chain.specs.Flush.{Plan}
use Rattle.ground_model.specs.Bounds.{turns_to}
use Rattle.ground_model.specs.Laws.{Leads}
use Rattle.ground_model.specs.LineTurns.{IsLineTurn}
use Rattle.ground_model.specs.Names.{IsNext}
use Rattle.ground_model.specs.Runs.{IsRead}
use Rattle.ground_model.specs.Scenes.{Scene}
use Rattle.ground_model.specs.Steps.{moved_to}
use Rattle.ground_model.proofs.Ahead.{base_stays}
use Rattle.ground_model.proofs.Noted.{nothing_is_noted}
use Rattle.session.specs.Calls.{IsIn, TurnCall}
use Rattle.session.specs.Ends.{GoesTo}
use Rattle.session.specs.Links.{TriesToLink}
use Rattle.session.specs.Own.{IsMergedIn, IsNaming, IsWritingBy}
use Rattle.session.specs.Safe.{serial_of}
use Rattle.session.specs.Shared.{entries_of}
use Rattle.session.specs.Values.{one_more}
use Rattle.session.specs.declared.common.Common.{Common}
use Rattle.session.specs.declared.course.Course.{Course}
use Rattle.session.specs.declared.stage.Stage.TheVariants as stage
use Rattle.session.specs.declared.turned.Fault.TheVariants as fault
use Rattle.session.specs.declared.turned.Turned.{Turned}
use Rattle.session.specs.declared.turned.Turned.TheVariants as turned
use Rattle.session.proofs.BlockLaws.{BlockLaws}
use Rattle.session.proofs.Courses.{course_with}
use Rattle.session.proofs.Deciding.{sets_none}
use Rattle.session.proofs.Going.{goes_read, shares_read, turn_goes}
use Rattle.session.proofs.Linked.{came_there}
use Rattle.session.proofs.Numbers.{SameShared, alone_same, same_numbers, same_room, same_safe, same_store}
use Rattle.session.proofs.Staying.{still_merged}

module _ {D : Type 0} (b : Ghosts D) (laws : b.tells → BlockLaws b) (script : ScriptValue) (c c1 : Common D) (s : Course) (flush : Plan) (top by : ℕ)
    (t : TriesToLink b script c c1 s flush top (Ok (Taken by))) where
  module _ (opening : State) (scripts : Scripts) (first : ℕ) (scene : Scene) (told : b.tells) (is : IsIn b (IsWritingBy flush) script c s opening scripts first scene) where
    abbrev m : IsMergedIn flush.written scripts scene script s
    m = is.mine.merged

    abbrev own : Client
    own = client_of scene.standing s.client

    next : IsNext scene m.work.object (serial_of s) by
    next = (came_there b laws script c c1 s flush top (Ok (Taken by)) t opening scripts first scene is told).next

    read : IsRead b c.store c1.store
    read = (came_there b laws script c c1 s flush top (Ok (Taken by)) t opening scripts first scene is told).read

    abbrev after : Scene
    after = moved_to scene (b.content c1.store) scene.states scene.standing

    turn : IsLineTurn b scripts s.client scene c.store c1.store [] own scene.states
    turn = record {
      client = m.committing.seated.client;
      notes = nothing_is_noted scripts scene.standing s.client;
      links = sets_none scripts scene script s m.update m.work m.committing;
      map = record { size = refl; fixed = λ n x fixed. (λ e. e, λ e. e); held = is.stands.stands.shared.map.held };
      read = read;
      moments = record { moments = refl; one = omega arith };
    }

    leads : Leads s.client scene after
    leads = ((laws told).lines opening scripts first s.client scene c.store c1.store (entries_of c) [] own scene.states is.stands.stands turn).1

    goes : GoesTo b opening scripts first scene after c c1 s.client []
    goes =
        goes_read b (laws told).lines opening scripts first s.client scene c c1 is.stands m.committing.seated.client (sets_none scripts scene script s m.update m.work m.committing) read
        (shares_read b c c1 t.tried.alone) (ap (λ (x : Common D). x.locks) t.tried.alone.only)

    -- a turn for each page that was written, as many as it holds blocks, and this one
    fits : one_more s.turns ≤ turns_to scene.standing.made s.held m.work (serial_of s) + (1 + s.held)
    fits = (let was = m.turns in let all = t.ready.all in let number = is.mine.number in omega (arith, was, all, number))

    mine : IsNaming scripts after script (course_with s s.held (stage.Naming by) (one_more s.turns)) by
    unfolding still_merged
    mine = record {
      merged =
          still_merged scripts scene script s (b.content c1.store) scene.states [] own s.held (stage.Naming by) (one_more s.turns) flush.written (1 + s.held) m turn.notes leads
          m.committing.is_open m.committing.seated.answers m.committing.taken m.committing.held fits;
      later = next.less;
      tree = next.tree;
      base = base_stays scene after m.work.object (serial_of s + 1) by next.tree leads.versions next.base;
    }

  pub overtaken_call : TurnCall b (IsWritingBy flush) script c c1 s (course_with s s.held (stage.Naming by) (one_more s.turns)) turned.Again
  overtaken_call =
      let same : SameShared b c c1 = alone_same b c c1 t.tried.alone in
      record {
        store = same_store b script c c1 s same t.ready.ready.store;
        safe = same_safe b script c c1 s same (stage.Naming by) (one_more s.turns) t.ready.ready.safe t.ready.draft.one;
        numbers = same_numbers b script c c1 s same;
        client = refl;
        entries = same_room b script c c1 s same;
        lines = refl;
        counts = refl;
        rest = t.tried.rest;
        counted = t.tried.one;
        stopped = λ h is. (let wrong : turned.Again ≡ turned.Stopped (fault.Drive h) = is in absurd cc);
        turns = λ told opening scripts first scene is.
            turn_goes b opening scripts first scene (after opening scripts first scene told is) c c1 script (course_with s s.held (stage.Naming by) (one_more s.turns)) s.client [] refl
            (goes opening scripts first scene told is) (record { moments = refl; one = omega arith }) (mine opening scripts first scene told is);
      }

-- so it does by the outcome of the test
pub overtaken_by : {D : Type 0} (b : Ghosts D) → (b.tells → BlockLaws b) → (script : ScriptValue) (c c1 : Common D) (s s' : Course) (flush : Plan) (top by : ℕ) (result : Turned)
    (tested : Result Tas PairFault) → TriesToLink b script c c1 s flush top tested → (outcome : Tas) → tested ≡ Ok outcome → outcome ≡ Taken by
    → s' ≡ course_with s s.held (stage.Naming by) (one_more s.turns) → result ≡ turned.Again → TurnCall b (IsWritingBy flush) script c c1 s s' result
overtaken_by b laws script c c1 s s' flush top by result tested t outcome is taken named again =
    let there = subst (λ x. TriesToLink b script c c1 s flush top x) (is ∙ ap (λ (x : Tas). Ok x) taken) t in
    subst (λ (r : Turned). TurnCall b (IsWritingBy flush) script c c1 s s' r) (sym again)
    (subst (λ x. TurnCall b (IsWritingBy flush) script c c1 s x turned.Again) (sym named) (overtaken_call b laws script c c1 s flush top by there))
