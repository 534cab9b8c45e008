-- What the promise of a run says of that which is printed of it.
use Rattle.std.proofs.Common.{◌≡◌, ℕ, suc, ◌-◌, ◌≤◌, List, [], ◌∷◌, length, map, Option, None, Some, refl, sym, ap, subst, ◌∙◌, arith}
use Rattle.std.specs.List.{slice_get}
use Rattle.std.specs.Option.{option_map, option_map_or}
use Rattle.std.specs.Prelude.{slice_index_or}
use Rattle.std.proofs.lemmas.List.{length-map}
use Rattle.ground.specs.Promises.{IsPromised, IsStanding, StandsNow, first_of, kept_of}
use Rattle.ground.specs.Runs.{GroundValue, entries_in, scripts_in, store_in, told_in}
use Rattle.ground.specs.Turning.{standing_of}
use Rattle.pair_store.specs.declared.store.Blocks.{Ghosts}
use Rattle.play_order.proofs.ClientEntries.{entries_length}
use Rattle.script_text.specs.declared.reply.LineReply.{LineReply}
use Rattle.script_text.specs.ScriptValue.{ScriptValue}
use Rattle.service_model.specs.Standing.{Client, Standing, newcomer, start}
use Rattle.session.specs.declared.session.Session.{Session}
use Rattle.session.specs.declared.turned.Fault.{Fault}
use Rattle.store_model.proofs.FoundStates.{found_is_state}
use Rattle.tree_model.specs.States.{File, IsFile, IsRising, IsState, State, Version, last_of}
use Rattle.playing.specs.Files.{AreToldOf, IsToldOf}
use Rattle.playing.specs.Running.{AreAnswered, IsShown}
use Rattle.playing.specs.Runs.{answers_in}
use Rattle.playing.proofs.Telling.{told_ends}

-- ---- answers

-- what the lines of the client at a place were answered
abbrev replies_at : List Session → ℕ → List LineReply
replies_at sessions i =
    option_map_or (λ (s : Session). s.course.replies.items) (slice_get sessions i) []

same_answers : (sessions : List Session) (clients : List Client)
    → length clients ≡ length sessions
    → ((i : ℕ) → suc i ≤ length sessions
    → replies_at sessions i ≡ (slice_index_or clients i newcomer).answers)
    → map (λ (c : Client). c.answers) clients
    ≡ map (λ (s : Session). s.course.replies.items) sessions
same_answers [] [] many same = refl
same_answers [] (c ∷ clients) many same = absurd (omega (arith, many))
same_answers (s ∷ sessions) [] many same = absurd (omega (arith, many))
same_answers (s ∷ sessions) (c ∷ clients) many same =
    let here : c.answers ≡ s.course.replies.items = sym (same 0 (omega arith)) in
    let rest : map (λ (d : Client). d.answers) clients
    ≡ map (λ (t : Session). t.course.replies.items) sessions
    = same_answers sessions clients (omega (arith, many))
    (λ i low. same (suc i) (omega (arith, low))) in
    λ j. here j ∷ rest j

-- ---- files

some_at : (v : Version) (vs : List Version)
    → (w : Version) × (slice_get (v ∷ vs) (length vs) ≡ Some w)
some_at v [] = (v, refl)
some_at v (next ∷ others) = some_at next others

some_last : (v : Version) (vs : List Version) → (w : Version) × (last_of (v ∷ vs) ≡ Some w)
some_last v vs =
    let w = some_at v vs in
    let place : length (v ∷ vs) - 1 ≡ length vs = omega arith in
    (w.0, ap (slice_get (v ∷ vs)) place ∙ w.1)

told_versions : (generation : ℕ) (secret : List ℕ) (versions : List Version)
    → IsRising (map (λ (v : Version). v.serial) versions)
    → IsToldOf (option_map (λ (v : Version). (first_of versions, v.serial)) (last_of versions))
    (record { generation = generation; secret = secret; versions = versions })
told_versions generation secret [] rising = refl
told_versions generation secret (v ∷ vs) rising =
    let file : File =
    record { generation = generation; secret = secret; versions = v ∷ vs } in
    let w = some_last v vs in
    let F : Option Version → Type 0 = λ o.
    IsToldOf (option_map (λ (x : Version). (v.serial, x.serial)) o) file in
    subst F (sym w.1)
    (told_ends file v.serial w.0.serial rising refl (ap (option_map (λ (x : Version). x.serial)) w.1))

told_files : (files : List File)
    → ((i : ℕ) (file : File) → slice_get files i ≡ Some file → IsFile file)
    → AreToldOf (map kept_of files) files
told_files [] each = tt
told_files (file ∷ files) each = (
  told_versions file.generation file.secret file.versions (each 0 file refl).rising,
  told_files files (λ i other is. each (suc i) other is),
)

-- ---- a run

module _ {D : Type 0} (b : Ghosts D) (opening : State) (first : ℕ) (g : GroundValue D)
    (p : IsPromised b opening first g) where
  pub answered_in : AreAnswered (answers_in g) (standing_of opening g).clients
  answered_in =
      let scripts = scripts_in g in
      let at : (i : ℕ) → suc i ≤ length g.sessions
      → replies_at g.sessions i ≡ (slice_index_or p.standing.clients i newcomer).answers
      = λ i low.
      let F : ℕ → Type 0 = λ n.
      replies_at g.sessions n ≡ (slice_index_or p.standing.clients n newcomer).answers in
      let place : suc i - 1 ≡ i = omega arith in
      subst F place (p.answers (suc i) (omega arith) low) in
      let G : Standing → Type 0 = λ s. AreAnswered (answers_in g) s.clients in
      let many : Standing → Type 0 = λ s. length s.clients ≡ length g.sessions in
      subst G (sym p.legal.leads)
      (same_answers g.sessions p.standing.clients
      (subst many p.legal.leads
      (entries_length scripts (start opening scripts) (entries_in g) p.legal.legal
      ∙ length-map scripts (λ (_ : ScriptValue). newcomer)
      ∙ length-map g.sessions (λ (s : Session). s.script)))
      at)

  pub shown_in : g.fault ≡ None
      → IsShown (answers_in g) (told_in g) (standing_of opening g)
  shown_in none =
      let S : Option Fault → Type 0 = λ f. StandsNow b first g p.standing f in
      let now : IsStanding b first g p.standing = subst S none p.stands in
      let state : IsState p.standing.state =
      found_is_state (b.content (store_in g)) (b.size (store_in g)) p.standing.state now.state in
      let T : List (Option (ℕ × ℕ)) → Type 0 = λ told. AreToldOf told p.standing.state.files in
      let F : Standing → Type 0 = λ s. AreToldOf (told_in g) s.state.files in
      record {
        answered = answered_in;
        files = subst F (sym p.legal.leads)
            (subst T (sym now.told) (told_files p.standing.state.files state.each));
      }
