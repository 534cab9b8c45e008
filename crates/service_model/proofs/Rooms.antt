-- No more blocks are in use than there are, after an entry of client k, if some facts of that entry are so.
use Rattle.std.proofs.Common.{◌≡◌, ◌≢◌, ◌⊎◌, inl, inr, ℕ, ◌+◌, ◌-◌, ◌≤◌, Bool, true, false, List, [], ◌∷◌, ◌++◌, length, sum_by, Option, Some, None, refl, sym, ap, ◌∙◌, subst, arith}
use Rattle.std.specs.Prelude.{slice_get, slice_index_or, slice_set}
use Rattle.std.specs.List.{list_any}
use Rattle.std.specs.Option.{option_map_or}
use Rattle.std.proofs.lemmas.Bool.{cases_eq}
use Rattle.std.proofs.lemmas.List.{same_from_push}
use Rattle.std.proofs.lemmas.List.Sums.{sum_by-set}
use Rattle.script_text.specs.declared.command.Command.{Command}
use Rattle.script_text.specs.declared.script.Line.{Line}
use Rattle.service_model.specs.declared.journal.What.{What}
use Rattle.service_model.specs.declared.journal.What.TheVariants.{Held, Started}
use Rattle.tree_model.specs.States.{State, File, Version, file_of}
use Rattle.service_model.specs.Entries.{on_file, with_file}
use Rattle.service_model.specs.Room.{AreSharing, FilesShare, HasRoom, IsRoomyLine, held_blocks, used}
use Rattle.service_model.specs.Sound.{HasNoted, is_starting}
use Rattle.service_model.specs.Standing.{Scripts, Standing, Client, Upkeep, newcomer, client_of, lines_of, next_line, versions_of, free}
use Rattle.service_model.specs.Upkeep.{new_blocks, new_object}
use Rattle.service_model.proofs.Alike.{other_versions}
use Rattle.service_model.proofs.Files.{here_file}
use Rattle.service_model.proofs.Journals.{set_other, apart}
use Rattle.service_model.proofs.Versions.{versions_here}

-- ---- an entry

-- what is asked of an entry by which s became t and client k became c
pub record IsRoomStep (scripts : Scripts) (s t : Standing) (k : ℕ) (c : Client) : Type 0 where
  pub clients : t.clients ≡ slice_set s.clients (k - 1) c
  pub latest : t.latest ≡ k
  pub within : used t ≤ t.state.blocks
  pub sharing : FilesShare t.state
  pub new : (j object : ℕ) → 1 ≤ j → j ≢ k → HasNoted s j is_starting → new_object t.state ≡ Some object
      → (new_object s.state ≡ Some object) × (new_blocks t.state object ≡ new_blocks s.state object)
  pub line : (own : Line) → next_line scripts t k ≡ Some own → IsRoomyLine t k own.command

module _ (scripts : Scripts) (s t : Standing) (k : ℕ) (c : Client) (a : 1 ≤ k) (room : HasRoom scripts s) (step : IsRoomStep scripts s t k c) where
  other_client : (j : ℕ) → 1 ≤ j → j ≢ k → client_of t j ≡ client_of s j
  other_client j d ne =
      ap (λ l. slice_index_or l (j - 1) newcomer) step.clients
      ∙ set_other s.clients (k - 1) (j - 1) c newcomer (apart k j a d ne)

  other_line : (j : ℕ) (line : Line) → 1 ≤ j → j ≢ k → next_line scripts t j ≡ Some line → IsRoomyLine t j line.command
  other_line j line d ne next =
      let same = other_client j d ne in
      let before : next_line scripts s j ≡ Some line
      = ap (λ (x : Client). slice_get (lines_of scripts j) (length x.answers)) (sym same) ∙ next in
      let old = room.lines j line d before in
      let held : (client_of t j).held ≡ (client_of s j).held = ap (λ (x : Client). x.held) same in
      let noted : (client_of s j).noted ≡ (client_of t j).noted = ap (λ (x : Client). x.noted) (sym same) in
      record {
        committing = λ blocks only. held ∙ old.committing blocks (noted ∙ only);
        beginning = λ object is only latest found. absurd (ne (sym latest ∙ step.latest));
        making = λ object blocks only found.
            let was = step.new j object d ne (ap (list_any is_starting) (noted ∙ only)) found in
            held ∙ old.making object blocks (noted ∙ only) was.0 ∙ sym was.1;
      }

  room_line : (j : ℕ) (line : Line) → 1 ≤ j → next_line scripts t j ≡ Some line → (j ≡ k) ⊎ (j ≢ k) → IsRoomyLine t j line.command
  room_line j line d next (inr ne) = other_line j line d ne next
  room_line j line d next (inl e) =
      let F : ℕ → Type 0 = λ n. next_line scripts t n ≡ Some line → IsRoomyLine t n line.command in
      subst F (sym e) (step.line line) next

  -- no more blocks are in use after the entry than there are
  pub room_step : HasRoom scripts t
  room_step = record {
    within = step.within;
    sharing = step.sharing;
    lines = λ j line d next. room_line j line d next (cases_eq j k);
  }

-- ---- the blocks of one client

abbrev held_by : Client → ℕ
held_by c = c.held

-- what clients hold where one became another one
pub held_set : (s t : Standing) (k : ℕ) (c : Client) → t.clients ≡ slice_set s.clients (k - 1) c → 1 ≤ k → k ≤ length s.clients
    → held_blocks t + (client_of s k).held ≡ held_blocks s + c.held
held_set s t k c e a b =
    let sum = sum_by-set held_by s.clients (k - 1) c newcomer (omega (arith, a, b)) in
    let is : held_blocks t ≡ sum_by held_by (slice_set s.clients (k - 1) c) = ap (sum_by held_by) e in
    omega (arith, sum, is)

-- ---- the line of the client

-- the entry takes no blocks and begins no maintenance
abbrev pub is_other : What → Bool
is_other (Held blocks) = false
is_other Started = false
is_other _ = true

abbrev pub blocks_in : What → ℕ
blocks_in (Held blocks) = blocks
blocks_in _ = 0

-- the last entry of a line
pub last_is : (noted front : List What) (what last : What) → noted ≡ front ++ what ∷ [] → (others : List What) → noted ≡ others ++ last ∷ []
    → (front ≡ others) × (what ≡ last)
last_is noted front what last e others f = same_from_push front others what last (sym e ∙ f)

-- nothing is asked of a line whose last entry is another one
pub other_noted : (t : Standing) (k : ℕ) (front : List What) (what : What) (command : Command) → (client_of t k).noted ≡ front ++ what ∷ []
    → is_other what ≡ true → IsRoomyLine t k command
other_noted t k front what command noted other = record {
  committing = λ blocks only.
      never (Held blocks) (last_is (client_of t k).noted front what (Held blocks) noted [] only).1 refl;
  beginning = λ object is only latest found. never Started (last_is (client_of t k).noted front what Started noted [] only).1 refl;
  making = λ object blocks only found.
      never (Held blocks) (last_is (client_of t k).noted front what (Held blocks) noted (Started ∷ []) only).1 refl;
}
  where
    never : {A : Type 0} (last : What) → what ≡ last → is_other last ≡ false → A
    never last e plain = (let no : true ≡ false = sym other ∙ ap is_other e ∙ plain in absurd (cc no))

-- nothing is asked of a line of which nothing was noted
pub none_noted : (t : Standing) (k : ℕ) (command : Command) → (client_of t k).noted ≡ [] → IsRoomyLine t k command
none_noted t k command noted = record {
  committing = λ blocks only. (let no : [] ≡ Held blocks ∷ [] = sym noted ∙ only in absurd (cc no));
  beginning = λ object is only latest found. (let no : [] ≡ Started ∷ [] = sym noted ∙ only in absurd (cc no));
  making = λ object blocks only found. (let no : [] ≡ Started ∷ Held blocks ∷ [] = sym noted ∙ only in absurd (cc no));
}

-- ---- entries that change no file

module _ (scripts : Scripts) (s : Standing) (k : ℕ) (c : Client) (a : 1 ≤ k) (b : k ≤ length s.clients) (room : HasRoom scripts s) where
  -- where a client holds no more than it did, and maintenance frees no more
  pub quiet_room : (l : List Client) (m : Option Upkeep) → l ≡ slice_set s.clients (k - 1) c → c.held ≤ (client_of s k).held
      → option_map_or (λ (up : Upkeep). up.frees) m 0 ≤ option_map_or (λ (up : Upkeep). up.frees) s.upkeep 0
      → ((line : Line) → next_line scripts (record s { clients = l; upkeep = m; latest = k }) k ≡ Some line
      → IsRoomyLine (record s { clients = l; upkeep = m; latest = k }) k line.command)
      → HasRoom scripts (record s { clients = l; upkeep = m; latest = k })
  quiet_room l m e held frees line =
      let t : Standing = record s { clients = l; upkeep = m; latest = k } in
      let sum = held_set s t k c e a b in
      let within = room.within in
      room_step scripts s t k c a room (record {
        clients = e;
        latest = refl;
        within = omega (arith, sum, within, held, frees);
        sharing = room.sharing;
        new = λ j object d ne h found. (found, refl);
        line = line;
      })

-- ---- files

-- the versions of all files share where those of the file that changed do
pub share_on : (state : State) (object : ℕ) (change : File → File) → FilesShare state
    → ((file : File) → file_of state object ≡ Some file → AreSharing file.versions → AreSharing (change file).versions)
    → FilesShare (on_file state object change)
share_on state object change all each = λ p. by p (cases_eq p object)
  where
    by : (p : ℕ) → (p ≡ object) ⊎ (p ≢ object) → AreSharing (versions_of (on_file state object change) p)
    by p (inr ne) = (let F : List Version → Type 0 = λ l. AreSharing l in subst F (sym (other_versions state object change p ne)) (all p))
    by p (inl same) =
        let F : ℕ → Type 0 = λ o. AreSharing (versions_of (on_file state object change) o) in
        subst F (sym same) (here (file_of state object) refl)
      where
        here : (o : Option File) → file_of state object ≡ o → AreSharing (versions_of (on_file state object change) object)
        here None e =
            let is : on_file state object change ≡ state = ap (λ o. option_map_or (λ file. with_file state object (change file)) o state) e in
            let F : State → Type 0 = λ x. AreSharing (versions_of x object) in
            subst F (sym is) (all object)
        here (Some file) e =
            let now : versions_of (on_file state object change) object ≡ (change file).versions
            = versions_here (on_file state object change) object (change file) (here_file state object change file e) in
            let F : List Version → Type 0 = λ l. AreSharing l in
            subst F (sym now) (each file e (subst F (versions_here state object file e) (all object)))

-- ---- the free count

-- what is free and what is in use is all that there is
pub free_rest : (scripts : Scripts) (s : Standing) → HasRoom scripts s → used s + free s ≡ s.state.blocks
free_rest scripts s room = (let within = room.within in omega (arith, within))
