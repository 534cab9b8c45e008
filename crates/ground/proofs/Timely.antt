-- The turns of a line are within its bound, and a client whose line was answered is between two lines.
use Rattle.std.proofs.Common.{◌≡◌, ℕ, ◌-◌, ◌^◌, ◌<◌, ◌≤◌, List, [], length, Option, Some, None, IfSome, refl, sym, ap, ◌∙◌, subst, arith, slice_get}
use Rattle.std.specs.Prelude.{option_map}
use Rattle.std.specs.Option.{option_map_or}
use Rattle.std.proofs.lemmas.Option.{slice_get-map}
use Rattle.pair_store.specs.declared.store.Blocks.{Ghosts}
use Rattle.play_order.specs.Orders.{IsBetween}
use Rattle.script_text.specs.ScriptValue.{ScriptValue}
use Rattle.script_text.specs.declared.command.Command.{Command}
use Rattle.script_text.specs.declared.command.Command.TheVariants.{Begin, Super, Pick, Do, Commit, Abandon, Create, Destroy, Prune, Restrict}
use Rattle.script_text.specs.declared.script.Line.{Line}
use Rattle.service_model.specs.Entries.{names_of}
use Rattle.service_model.specs.Sound.{IsSound}
use Rattle.service_model.specs.Standing.{Standing, lines_of}
use Rattle.service_model.proofs.Keeps.{journal_sound}
use Rattle.tree_model.specs.States.{State}
use Rattle.ground_model.specs.Bounds.{NameFew, line_bound}
use Rattle.ground_model.proofs.FewMade.{few_are_made}
use Rattle.ground_model.proofs.SmallBounds.{bounds_are_small}
use Rattle.session.specs.Built.{IsBuilt}
use Rattle.session.specs.declared.session.Session.{Session}
use Rattle.session.specs.declared.stage.Stage.TheVariants.{Resting}
use Rattle.session.proofs.LineBounds.{rest_is_between, turns_are_within, update_is_small}
use Rattle.session.proofs.Stages.{line_is_built}
use Rattle.ground.specs.Grounds.{AllStand, HasRun, IsGround, StandsOr}
use Rattle.ground.specs.Runs.{GroundValue, entries_in, scripts_in, scripts_of}
use Rattle.ground.specs.Turning.{IsRunOf, IsTimely, standing_of, turns_of}
use Rattle.ground.proofs.Clients.{lines_at}

-- ---- lines name few files

built_few : (command : Command) → IsBuilt command → length (names_of command) ≤ 17
built_few (Begin file) is = omega arith
built_few (Super files) is = absurd (cc is)
built_few (Pick place) is = omega arith
built_few (Do step) is = omega arith
built_few Commit is = omega arith
built_few Abandon is = omega arith
built_few Create is = omega arith
built_few (Destroy file) is = absurd (cc is)
built_few (Prune file keep) is = absurd (cc is)
built_few (Restrict file mask) is = omega arith

few_if : (o : Option Line) (line : Line) → IfSome o (λ (l : Line). IsBuilt l.command) → o ≡ Some line → length (names_of line.command) ≤ 17
few_if None line is at = absurd (let no : None ≡ Some line = at in cc)
few_if (Some l) line is at = (let same : l ≡ line = cc in subst (λ (x : Line). length (names_of x.command) ≤ 17) same (built_few l.command is))

names_few : (sessions : List Session) → NameFew (scripts_of sessions)
names_few sessions k n line at = by (slice_get sessions (k - 1)) refl
  where
    by : (o : Option Session) → slice_get sessions (k - 1) ≡ o → length (names_of line.command) ≤ 17
    by None none =
        let empty : lines_of (scripts_of sessions) k ≡ [] =
        ap (λ (x : Option ScriptValue). option_map_or (λ (script : ScriptValue). script.lines) x []) (slice_get-map (λ (s : Session). s.script) sessions (k - 1)
        ∙ ap (λ (x : Option Session). option_map (λ (s : Session). s.script) x) none) in
        let no : None ≡ Some line = sym (ap (λ (ls : List Line). slice_get ls n) empty) ∙ at in
        absurd cc
    by (Some s) is =
        let lines : lines_of (scripts_of sessions) k ≡ s.script.lines =
        ap (λ (x : Option ScriptValue). option_map_or (λ (script : ScriptValue). script.lines) x []) (lines_at sessions (k - 1) s is) in
        few_if (slice_get s.script.lines n) line (line_is_built s.script n s.built) (sym (ap (λ (ls : List Line). slice_get ls n) lines) ∙ at)

-- ---- a run that stands

module _ {D : Type 0} (b : Ghosts D) (g : GroundValue D) (ground : IsGround b g) (opening : State) (is : IsRunOf b g opening) (none : g.fault ≡ None) where
  run : HasRun b is.first g
  run = ground.told is.tells is.first is.opened

  over : run.opening ≡ opening
  over = (let one = run.found in let two = is.found in cc (one, two))

  stand : AllStand b opening is.first g.common g.sessions
  stand =
      let here : AllStand b run.opening is.first g.common g.sessions = subst (StandsOr b run.opening is.first g.common g.sessions) none run.stands in
      let F : State → Type 0 = λ o. AllStand b o is.first g.common g.sessions in
      subst F over here

  stands_now : standing_of opening g ≡ stand.scene.standing
  stands_now = stand.stands.stands.reaches.leads

  sound : IsSound (scripts_in g) stand.scene.standing
  sound = journal_sound opening (scripts_in g) (entries_in g) stand.scene.standing stand.stands.stands.fitting.fit stand.stands.stands.sayable stand.stands.stands.reaches

  module _ (k : ℕ) (low : 1 ≤ k) (s : Session) (at : slice_get g.sessions (k - 1) ≡ Some s) where
    number : s.course.client ≡ k
    number = (let n = ground.safe.clients.numbers (k - 1) s at in omega (arith, n, low))

    turns_are : turns_of g k ≡ s.course.turns
    turns_are = ap (λ (o : Option Session). option_map_or (λ (t : Session). t.course.turns) o 0) at

    within : s.course.turns ≤ line_bound (scripts_in g) (standing_of opening g) k
    within =
        let here = turns_are_within _ _ (scripts_in g) stand.scene s.script s.course stand.stands.stands.sayable sound (ground.safe.safe (k - 1) s at) (stand.own (k - 1) s at) in
        subst (λ n. s.course.turns ≤ line_bound (scripts_in g) (standing_of opening g) n) number
        (subst (λ (x : Standing). s.course.turns ≤ line_bound (scripts_in g) x s.course.client) (sym stands_now) here)

    small : s.course.turns < 2 ^ 48
    small =
        let most = bounds_are_small (scripts_in g) stand.scene.standing s.course.client sound (let n = number in omega (arith, n, low))
        (λ u was. update_is_small _ _ (scripts_in g) stand.scene s.script s.course (ground.safe.safe (k - 1) s at) (stand.own (k - 1) s at) u was) in
        let bound : line_bound (scripts_in g) (standing_of opening g) k ≡ line_bound (scripts_in g) stand.scene.standing s.course.client =
        ap (λ (x : Standing). line_bound (scripts_in g) x k) stands_now ∙ ap (λ n. line_bound (scripts_in g) stand.scene.standing n) (sym number) in
        let made = few_are_made opening (scripts_in g) (entries_in g) (names_few g.sessions) in
        let same : length (standing_of opening g).made ≡ length stand.scene.standing.made = ap (λ (x : Standing). length x.made) stands_now in
        let few = ground.safe.few in
        let here = within in
        omega (arith, most, bound, made, same, few, here)

    pub timely_here : IsTimely opening g k
    timely_here = (let are = turns_are in let one = within in let two = small in record {
      within = omega (arith, are, one);
      small = omega (arith, are, two);
    })

    pub between_here : s.course.stage ≡ Resting → IsBetween (scripts_in g) (standing_of opening g) k
    between_here resting =
        subst (λ n. IsBetween (scripts_in g) (standing_of opening g) n) number
        (subst (λ (x : Standing). IsBetween (scripts_in g) x s.course.client) (sym stands_now)
        (rest_is_between (scripts_in g) stand.scene s.script s.course resting (stand.own (k - 1) s at)))
