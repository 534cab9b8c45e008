-- The commit of an update that wrote nothing.
use Rattle.std.proofs.Common.{◌≡◌, ℕ, ◌≤◌, false, List, [], ◌∷◌, map, Option, Some, None, refl, sym, ap, ◌∙◌, subst, arith}
use Rattle.std.specs.Prelude.{IfSome}
use Rattle.block_map.specs.declared.states.BlockState.{BlockState}
use Rattle.draft_model.specs.Told.{TellsWrites}
use Rattle.pair_store.specs.declared.store.Blocks.{Ghosts}
use Rattle.pool_draft.specs.Roots.{serial_in}
use Rattle.pool_draft.specs.Sets.{base_at, picked_of}
use Rattle.pool_draft.specs.declared.pool_set.PoolSet.{PoolSet}
use Rattle.script_text.specs.ScriptValue.{ScriptValue}
use Rattle.script_text.specs.declared.command.Command.TheVariants.{Commit}
use Rattle.script_text.specs.declared.reply.LineReply.{LineReply}
use Rattle.script_text.specs.declared.reply.LineReply.TheVariants as reply
use Rattle.script_text.specs.declared.script.Line.{Line}
use Rattle.service_model.specs.declared.journal.What.{What}
use Rattle.service_model.specs.declared.journal.What.TheVariants.{Committed}
use Rattle.service_model.specs.declared.named.Named.{Named}
use Rattle.service_model.specs.Entries.{after_entries}
use Rattle.service_model.specs.Replies.{serial_by, serials_by}
use Rattle.service_model.specs.Standing.{Scripts, Update, Work, client_of}
use Rattle.store_model.proofs.Edits.{some_is}
use Rattle.tree_model.specs.States.{State}
use Rattle.ground_model.specs.CommitFacts.{empty_commit}
use Rattle.ground_model.specs.Fronts.{AreOfTurn}
use Rattle.ground_model.specs.LineTurns.{IsMapStep}
use Rattle.ground_model.specs.Lines.{IsAt, Notes, answering, in_line}
use Rattle.ground_model.specs.Scenes.{Scene}
use Rattle.ground_model.proofs.CommitFacts.{empty_commit_is_noted, moment_is_past, writes_are_told}
use Rattle.ground_model.proofs.LineTurns.{plain_sets_none}
use Rattle.session.specs.Answers.{IsAnswered, IsAtCommand, IsCleared, NotesAlone}
use Rattle.session.specs.Calls.{IsIn, IsReady, TurnCall}
use Rattle.session.specs.Ends.{TurnGoes}
use Rattle.session.specs.Own.{IsAtRest, OwnsUpdate}
use Rattle.session.proofs.Drafting.{Alone, alone_in}
use Rattle.session.specs.Safe.{drafts_of, line_of, root_of, serial_of, view_of}
use Rattle.session.specs.Shared.{entries_of}
use Rattle.session.specs.declared.common.Common.{Common}
use Rattle.session.specs.declared.course.Course.{Course}
use Rattle.session.specs.declared.turned.Turned.{Turned}
use Rattle.session.specs.declared.turned.Turned.TheVariants as turned
use Rattle.session.proofs.BlockLaws.{BlockLaws}
use Rattle.session.proofs.Deciding.{line_here, next_is}
use Rattle.session.proofs.Drafts.{has_draft}
use Rattle.session.proofs.Giving.{map_stays, plain_locks}
use Rattle.session.proofs.Over.{IsOver, KeepsHeld, over_by, over_call, over_goes, some_here}

-- ---- the update

-- A client with a draft has an update open.
pub record HasOpen (scene : Scene) (script : ScriptValue) (s : Course) : Type 0 where
  pub update : Update
  pub is_open : (client_of scene.standing s.client).update ≡ Some update
  pub drafting : Alone scene script s update

pub has_open : (scripts : Scripts) (scene : Scene) (script : ScriptValue) (s : Course) → IsAtRest scripts scene script s → drafts_of s ≡ 1 → HasOpen scene script s
has_open scripts scene script s rest one = by (client_of scene.standing s.client).update refl
  where
    by : (o : Option Update) → (client_of scene.standing s.client).update ≡ o → HasOpen scene script s
    by None e =
        let none : drafts_of s ≡ 0 = subst (OwnsUpdate scene script s) e rest.update in
        absurd (omega (arith, none, one))
    by (Some u) e = record { update = u; is_open = e; drafting = alone_in scene script s u one (subst (OwnsUpdate scene script s) e rest.update) }

-- the serials of an update of one file that made no version
serials_are : (u : Update) (w : Work) → u.works ≡ w ∷ [] → serials_by [] (Some u) ≡ w.serial ∷ []
serials_are u w works = ap (λ (ws : List Work). map (serial_by []) ws) works

module _ {D : Type 0} (b : Ghosts D) (script : ScriptValue) (line : Line) (c c' : Common D) (s s' : Course)
    (ready : IsReady b script c s) (at_commit : IsAtCommand script s Commit) (one : drafts_of s ≡ 1) (nothing : TellsWrites (view_of s) false)
    (over : IsOver script line (Committed [] (b.moment c.store)) (reply.Committed (serial_of s ∷ [])) c.map s.held c c' s s') where
  same_held : KeepsHeld s.client s.held c.map c.map
  same_held = record { size = refl; others = λ j ne. refl; own = ready.safe.held }

  module _ (scripts : Scripts) (scene : Scene) (rest : IsAtRest scripts scene script s) (late : scene.standing.moment ≤ b.moment c.store) where
    mine : HasOpen scene script s
    mine = has_open scripts scene script s rest one

    text : reply.Committed (serials_by [] (Some mine.update)) ≡ reply.Committed (serial_of s ∷ [])
    text = ap reply.Committed (serials_are mine.update mine.drafting.work mine.drafting.plain.works ∙ ap (λ n. n ∷ []) (sym mine.drafting.serial))

    at : IsAt scripts scene.standing s.client line
    at = record {
      resting = record { client = rest.seated.client; fresh = rest.fresh; held = rest.held; idle = rest.seated.idle };
      next = next_is scripts scene script s rest.seated ∙ over.next;
    }

    command : line.command ≡ Commit
    command = (let same : at_commit.line ≡ line = some_is (sym at_commit.next ∙ over.next) in ap (λ (x : Line). x.command) (sym same) ∙ at_commit.is)

    noted : Notes scripts scene.standing s.client (empty_commit s.client line (b.moment c.store)) (answering (client_of scene.standing s.client) (reply.Committed (serial_of s ∷ [])) None)
        × AreOfTurn (b.moment c.store) (empty_commit s.client line (b.moment c.store))
    noted =
        let both =
        empty_commit_is_noted scripts scene.standing s.client line mine.update (b.moment c.store) at command mine.is_open
        (writes_are_told scene mine.update mine.drafting.work (root_of s) (view_of s) false mine.drafting.plain.works mine.drafting.draft nothing) late in
        (subst (λ (x : LineReply). Notes scripts scene.standing s.client (empty_commit s.client line (b.moment c.store)) (answering (client_of scene.standing s.client) x None)) text both.0, both.1)

  nothing_goes : (laws : BlockLaws b) (opening : State) (scripts : Scripts) (first : ℕ) (scene : Scene) → IsIn b IsAtRest script c s opening scripts first scene
      → TurnGoes b opening scripts first scene c c' script s'
  nothing_goes laws opening scripts first scene is =
      over_goes b script line (Committed [] (b.moment c.store)) (reply.Committed (serial_of s ∷ [])) c.map s.held c c' s s' ready over same_held
      laws opening scripts first scene (answering (client_of scene.standing s.client) (reply.Committed (serial_of s ∷ [])) None) is.stands (record {
        seated = is.mine.seated;
        plain = plain_locks (client_of scene.standing s.client) open_is.update open_is.is_open open_is.drafting.plain.plain;
        notes = both.0;
        answers = refl;
        no_update = refl;
        fresh = refl;
        none = is.mine.held;
        held = is.mine.none;
        links = plain_sets_none scene.standing s.client plain_is;
        map = subst (λ (xs : List BlockState). IsMapStep s.client scene xs (after_entries scripts scene.standing (empty_commit s.client line (b.moment c.store)))) (sym is.stands.map)
            (map_stays scripts s.client scene _ _ is.stands.stands.shared is.mine.seated.client both.0 is.mine.held is.mine.held);
        moments = subst (λ (d : D). AreOfTurn (b.moment d) (empty_commit s.client line (b.moment c.store))) (sym (ap (λ (x : Common D). x.store) over.only)) both.1;
        due = tt;
      })
    where
      open_is : HasOpen scene script s
      open_is = has_open scripts scene script s is.mine one

      both : Notes scripts scene.standing s.client (empty_commit s.client line (b.moment c.store)) (answering (client_of scene.standing s.client) (reply.Committed (serial_of s ∷ [])) None)
          × AreOfTurn (b.moment c.store) (empty_commit s.client line (b.moment c.store))
      both = noted scripts scene is.mine (moment_is_past b opening scripts first scene c.store (entries_of c) is.stands.stands)

      plain_is : (u : Update) → (client_of scene.standing s.client).update ≡ Some u → u.is_super ≡ false
      plain_is u e = (let same : open_is.update ≡ u = some_is (sym open_is.is_open ∙ e) in ap (λ (x : Update). x.is_super) (sym same) ∙ open_is.drafting.plain.plain)

  pub nothing_call : (b.tells → BlockLaws b) → (result : Turned) → result ≡ turned.Line line.number → TurnCall b IsAtRest script c c' s s' result
  nothing_call laws result answers =
      over_call b script line (Committed [] (b.moment c.store)) (reply.Committed (serial_of s ∷ [])) c.map s.held c c' s s' ready over same_held
      IsAtRest result answers (λ told opening scripts first scene is. nothing_goes (laws told) opening scripts first scene is)

pub nothing_by : {D : Type 0} (b : Ghosts D) (script : ScriptValue) (c e c' : Common D) (s s' : Course) (cleared : PoolSet) (made : List Named) (at : ℕ) (serials : List ℕ) (result : Turned)
    → (b.tells → BlockLaws b) → IsReady b script c s → IsAtCommand script s Commit → drafts_of s ≡ 1 → TellsWrites (view_of s) false
    → made ≡ [] → at ≡ b.moment c.store → serials ≡ serial_in (base_at s.drafts (picked_of s.drafts)) ∷ []
    → IfSome (line_of script s) (λ x. NotesAlone c e (in_line s.client x (Committed made at) ∷ [])) → IsCleared cleared
    → IfSome (line_of script s) (λ x. IsAnswered script x (reply.Committed serials) e c' (record s { drafts = cleared }) s')
    → IfSome (line_of script s) (λ x. result ≡ turned.Line x.number) → TurnCall b IsAtRest script c c' s s' result
nothing_by b script c e c' s s' cleared made at serials result laws ready at_commit one nothing made_is at_is serials_are note none answered number =
    let line = line_here script s ready.line in
    let draft = has_draft b script c s ready one in
    let said : Committed made at ≡ Committed [] (b.moment c.store) = cc in
    let text : reply.Committed serials ≡ reply.Committed (serial_of s ∷ []) = ap reply.Committed (serials_are ∙ ap (λ n. serial_in (base_at s.drafts n) ∷ []) draft.picked) in
    let over : IsOver script line.0 (Committed made at) (reply.Committed serials) c.map s.held c c' s s' =
    over_by script line.0 (Committed made at) (reply.Committed serials) c.map s.held c c e c' s s (record s { drafts = cleared }) s' line.1 refl refl note refl none answered in
    nothing_call b script line.0 c c' s s' ready at_commit one nothing
    (subst (λ (x : LineReply). IsOver script line.0 (Committed [] (b.moment c.store)) x c.map s.held c c' s s') text
    (subst (λ (x : What). IsOver script line.0 x (reply.Committed serials) c.map s.held c c' s s') said over))
    laws result (some_here (λ (x : Line). result ≡ turned.Line x.number) (line_of script s) line.0 number line.1)
