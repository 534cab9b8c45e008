-- What is so of a client that commits its update of one file.
use Rattle.std.proofs.Common.{◌≡◌, inl, inr, ℕ, zero, suc, ◌<◌, ◌≤◌, List, [], ◌∷◌, length, Option, Some, None, refl, sym, ap, ◌∙◌, subst, arith, slice_get}
use Rattle.std.specs.Prelude.{All, Contains, IfSome}
use Rattle.std.specs.Option.{option_map_or}
use Rattle.std.proofs.lemmas.Option.{slice_get_cases}
use Rattle.std.proofs.lemmas.List.Elements.{All-contains_itself, All-weaker}
use Rattle.draft_model.specs.Views.{View}
use Rattle.pair_store.specs.declared.store.Blocks.{Ghosts}
use Rattle.script_text.specs.ScriptValue.{ScriptValue}
use Rattle.script_text.specs.declared.reply.LineReply.{LineReply}
use Rattle.script_text.specs.declared.script.Line.{Line}
use Rattle.service_model.specs.Legal.{IsLater, IsUnclashed, IsUndecided, IsUnopposed, IsUnreadOf}
use Rattle.service_model.specs.Sound.{IsOn, IsSound}
use Rattle.service_model.specs.Standing.{Made, Scripts, Update, Work, client_of, locked_by, next_line, serial_of as last_serial}
use Rattle.service_model.specs.declared.journal.What.{What}
use Rattle.tree_model.specs.States.{State}
use Rattle.tree_model.specs.Trees.{Tree}
use Rattle.ground_model.specs.CommitFacts.{IsOneWritten, IsUndecidedOne}
use Rattle.ground_model.specs.CommitLines.{IsCommitting}
use Rattle.ground_model.specs.Own.{HasMerged}
use Rattle.ground_model.specs.Scenes.{Scene, IsLinking}
use Rattle.ground_model.proofs.LineTurns.{plain_sets_none}
use Rattle.ground_model.proofs.Testing.{standing_sound}
use Rattle.store_model.proofs.Edits.{some_is}
use Rattle.session.specs.Own.{IsCommittingOf, IsSeated, IsTaken}
use Rattle.session.specs.Safe.{line_of}
use Rattle.session.specs.Shared.{RunStands, entries_of}
use Rattle.session.specs.declared.common.Common.{Common}
use Rattle.session.specs.declared.course.Course.{Course}

-- what stands is sound
pub run_sound : {D : Type 0} (b : Ghosts D) (opening : State) (scripts : Scripts) (first : ℕ) (scene : Scene) (c : Common D) → RunStands b opening scripts first scene c
    → IsSound scripts scene.standing
run_sound b opening scripts first scene c st = standing_sound b opening scripts first scene c.store (entries_of c) st.stands

-- there is a next line
pub line_here : (script : ScriptValue) (s : Course) → length s.replies.items < length script.lines → (line : Line) × (line_of script s ≡ Some line)
line_here script s low = elim (slice_get_cases script.lines (length s.replies.items)).1 [
  | inl (line, less, is, same) ↦ (line, is)
  | inr (past, none) ↦ absurd (omega (arith, low, past))
]

-- what is so of the next line, where there is one
pub of_line : (script : ScriptValue) (s : Course) (line : Line) (P : Line → Type 0) → line_of script s ≡ Some line → IfSome (line_of script s) P → P line
of_line script s line P at is = subst (λ (o : Option Line). IfSome o P) at is

-- the client's next line is that of its script
pub next_is : (scripts : Scripts) (scene : Scene) (script : ScriptValue) (s : Course) → IsSeated scripts scene script s → next_line scripts scene.standing s.client ≡ line_of script s
next_is scripts scene script s seated =
    ap (λ (o : Option ScriptValue). slice_get (option_map_or (λ (x : ScriptValue). x.lines) o []) (length (client_of scene.standing s.client).answers)) seated.its_script
    ∙ ap (λ (xs : List LineReply). slice_get script.lines (length xs)) seated.answers

-- an update of one file has it
pub one_listed : (u : Update) (w : Work) → u.works ≡ w ∷ [] → Contains u.works w
one_listed u w works = subst (λ (ws : List Work). Contains ws w) (sym works) (0, omega arith, refl)

-- a commit that took blocks or took none is not decided
pub taken_undecided : (held : ℕ) (u : Update) (noted : List What) → IsTaken held u noted → IsUndecided noted
taken_undecided zero u noted none = inl none
taken_undecided (suc n) u noted (is, need) = inr (suc n, is)

module _ (scripts : Scripts) (scene : Scene) (script : ScriptValue) (s : Course) (u : Update) (w : Work) (co : IsCommittingOf scripts scene script s u w) where
  pub at_commit : IsCommitting scripts scene.standing s.client co.line
  at_commit = record {
    client = co.seated.client;
    next = next_is scripts scene script s co.seated ∙ co.next;
    command = co.command;
    idle = co.seated.idle;
  }

  pub one_written : IsOneWritten u w
  one_written = record { plain = co.plain.plain; works = co.plain.works; writes = co.writes }

  pub undecided_one : IsUndecidedOne scene.standing s.client u w
  undecided_one = record {
    is_open = co.is_open;
    one = one_written;
    undecided = taken_undecided s.held u (client_of scene.standing s.client).noted co.taken;
  }

  pub is_on : IsOn scene.standing s.client w
  is_on = record { update = u; number = co.seated.client.low; is_open = co.is_open; listed = one_listed u w co.plain.works }

  -- it sets no links
  pub sets_none : (object : ℕ) (l : IsLinking scene.standing object) → l.client ≡ s.client → ⊥
  sets_none = plain_sets_none scene.standing s.client (λ v is. (let same : u ≡ v = some_is (sym co.is_open ∙ is) in ap (λ (x : Update). x.is_super) (sym same) ∙ co.plain.plain))

  -- merged with every version, it clashes with none
  pub unclashed : (root : ℕ) (tree : Tree) (d : View) (upto : ℕ) → IsSound scripts scene.standing → HasMerged scene w upto root tree d
      → upto ≡ last_serial scene.standing.state w.object → IsUnclashed scene.standing.made w
  unclashed root tree d upto sound h last =
      All-weaker (Contains scene.standing.made) (λ (m : Made). IsLater w m → IsUnreadOf w m)
      (λ m is later. h.unread m is later (low m is later))
      scene.standing.made (All-contains_itself scene.standing.made)
    where
      low : (m : Made) → Contains scene.standing.made m → IsLater w m → m.serial ≤ upto
      low m is later =
          let most = sound.low m is in
          let same : last_serial scene.standing.state m.object ≡ last_serial scene.standing.state w.object = ap (last_serial scene.standing.state) later.0 in
          omega (arith, most, same, last)

  -- and where no other client has its file locked, nothing opposes it
  pub unopposed : IsUnclashed scene.standing.made w → locked_by scene.standing s.client w.object ≡ None → IsUnopposed scene.standing s.client u
  unopposed free unlocked plain =
      subst (λ (ws : List Work). All (λ (x : Work). (locked_by scene.standing s.client x.object ≡ None) × IsUnclashed scene.standing.made x) ws) (sym co.plain.works) one
    where
      one : All (λ (x : Work). (locked_by scene.standing s.client x.object ≡ None) × IsUnclashed scene.standing.made x) (w ∷ [])
      one zero d low = (unlocked, free)
      one (suc k) d low = absurd (omega (arith, low))
