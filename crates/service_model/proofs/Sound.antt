-- What stands stays sound by an entry of client k, if some facts of that entry are so.
use Rattle.std.proofs.Common.{◌≡◌, ◌≢◌, ◌⊎◌, inl, inr, ℕ, zero, suc, ◌-◌, ◌<◌, ◌≤◌, true, false, List, [], ◌∷◌, length, Option, Some, Contains, refl, sym, ap, ◌∙◌, subst, arith}
use Rattle.std.specs.Prelude.{slice_get, slice_index_or, slice_set, IsSomeAnd}
use Rattle.std.specs.List.{list_any}
use Rattle.std.proofs.lemmas.Bool.{cases_eq}
use Rattle.script_text.specs.declared.script.Line.{Line}
use Rattle.service_model.specs.declared.journal.What.TheVariants.{Started}
use Rattle.service_model.specs.Causes.{object_of}
use Rattle.tree_model.specs.States.{Version, IsState}
use Rattle.service_model.specs.Standing.{Scripts, Standing, Client, Update, Work, Made, Upkeep, newcomer, client_of, lines_of, next_line, versions_of, serial_of}
use Rattle.service_model.specs.Sound.{IsSound, IsSoundUpdate, IsSoundLine, IsOpenAt, IsOn, IsPrunable, AreApart, AreLast, HasNoted, is_holding, is_committing, is_starting}
use Rattle.service_model.proofs.Journals.{set_other, apart}

-- ---- an entry

-- a file of an update of client k has a base that a file of its update had before, or the last version
abbrev pub HasBase : Standing → ℕ → Work → Type 0
HasBase s k w =
    ((x : Work) × IsOn s k x × (x.object ≡ w.object) × (x.serial ≡ w.serial))
    ⊎ (w.serial ≡ serial_of s.state w.object)

-- what is asked of the maintenance that is under way after an entry by which client k became c
pub record IsUpkeepStep (s : Standing) (upkeep : Option Upkeep) (k : ℕ) (c : Client) : Type 0 where
  pub within : (up : Upkeep) → upkeep ≡ Some up
      → ((up.client ≡ k) × (list_any is_starting c.noted ≡ true)) ⊎ ((up.client ≢ k) × (s.upkeep ≡ Some up))
  pub started : list_any is_starting c.noted ≡ true → IsSomeAnd upkeep (λ (up : Upkeep). up.client ≡ k)
  pub others : (j : ℕ) → 1 ≤ j → j ≢ k → HasNoted s j is_starting → upkeep ≡ s.upkeep

-- what is asked of an entry by which s became t and client k became c
pub record IsSoundStep (scripts : Scripts) (s t : Standing) (k : ℕ) (c : Client) : Type 0 where
  pub clients : t.clients ≡ slice_set s.clients (k - 1) c
  pub latest : t.latest ≡ k
  pub state : IsState t.state
  pub counted : (object : ℕ) (v : Version) → Contains (versions_of t.state object) v → 1 ≤ v.serial
  pub low : (m : Made) → Contains t.made m → m.serial ≤ serial_of t.state m.object
  pub others : (j : ℕ) (u : Update) → 1 ≤ j → j ≢ k → IsOpenAt s j u → IsSoundUpdate t.state t.made u
  pub others_last : (j : ℕ) (u : Update) → 1 ≤ j → j ≢ k → IsOpenAt s j u → u.is_super ≡ true → AreLast s.state u → AreLast t.state u
  pub own : (u : Update) → c.update ≡ Some u → IsSoundUpdate t.state t.made u
  pub own_last : (u : Update) → c.update ≡ Some u → u.is_super ≡ true → list_any is_committing c.noted ≡ false → AreLast t.state u
  pub own_alone : (j : ℕ) (u v : Update) → 1 ≤ j → j ≢ k → c.update ≡ Some u → IsOpenAt s j v → AreApart u v
  pub own_held : is_holding c.noted ≡ false → c.held ≡ 0
  pub upkeep : IsUpkeepStep s t.upkeep k c
  pub grows : (j : ℕ) → 1 ≤ j → j ≢ k → HasNoted s j is_starting → (object : ℕ) → serial_of s.state object ≤ serial_of t.state object
  pub bases : (u : Update) (w : Work) → c.update ≡ Some u → Contains u.works w → HasBase s k w
  pub line : (own : Line) → next_line scripts t k ≡ Some own → IsSoundLine t k own.command

-- ---- another client in the place of one

pub set_same : {X : Type 0} (xs : List X) (i : ℕ) (x d : X) → i < length xs → slice_index_or (slice_set xs i x) i d ≡ x
set_same [] i x d lt = absurd (omega (arith, lt))
set_same (y ∷ ys) zero x d lt = refl
set_same (y ∷ ys) (suc i) x d lt = set_same ys i x d (omega (arith, lt))

apart_turned : (u v : Update) → AreApart u v → AreApart v u
apart_turned u v h = λ object a b c d. h object b a d c

module _ (scripts : Scripts) (s t : Standing) (k : ℕ) (c : Client) (a : 1 ≤ k) (b : k ≤ length s.clients) (sound : IsSound scripts s) (step : IsSoundStep scripts s t k c) where
  own_client : client_of t k ≡ c
  own_client =
      ap (λ l. slice_index_or l (k - 1) newcomer) step.clients
      ∙ set_same s.clients (k - 1) c newcomer (omega (arith, a, b))

  other_client : (j : ℕ) → 1 ≤ j → j ≢ k → client_of t j ≡ client_of s j
  other_client j d ne =
      ap (λ l. slice_index_or l (j - 1) newcomer) step.clients
      ∙ set_other s.clients (k - 1) (j - 1) c newcomer (apart k j a d ne)

  -- what is so of client k's is so of client j's, where j is k
  moved : (P : Client → Type 0) (j : ℕ) → j ≡ k → P (client_of t j) → P c
  moved P j e h =
      let F : ℕ → Type 0 = λ n. P (client_of t n) in
      subst P own_client (subst F e h)

  moved_back : (P : Client → Type 0) (j : ℕ) → j ≡ k → P c → P (client_of t j)
  moved_back P j e h =
      let F : ℕ → Type 0 = λ n. P (client_of t n) in
      subst F (sym e) (subst P (sym own_client) h)

  kept : (P : Client → Type 0) (j : ℕ) → 1 ≤ j → j ≢ k → P (client_of t j) → P (client_of s j)
  kept P j d ne h = subst P (other_client j d ne) h

  kept_back : (P : Client → Type 0) (j : ℕ) → 1 ≤ j → j ≢ k → P (client_of s j) → P (client_of t j)
  kept_back P j d ne h = subst P (sym (other_client j d ne)) h

  open_own : (j : ℕ) (u : Update) → j ≡ k → IsOpenAt t j u → c.update ≡ Some u
  open_own j u e h = moved (λ x. x.update ≡ Some u) j e h

  open_other : (j : ℕ) (u : Update) → 1 ≤ j → j ≢ k → IsOpenAt t j u → IsOpenAt s j u
  open_other j u d ne h = kept (λ x. x.update ≡ Some u) j d ne h

  update_sound : (j : ℕ) (u : Update) → 1 ≤ j → IsOpenAt t j u → (j ≡ k) ⊎ (j ≢ k) → IsSoundUpdate t.state t.made u
  update_sound j u d h (inl e) = step.own u (open_own j u e h)
  update_sound j u d h (inr ne) = step.others j u d ne (open_other j u d ne h)

  update_last : (j : ℕ) (u : Update) → 1 ≤ j → IsOpenAt t j u → u.is_super ≡ true
      → list_any is_committing (client_of t j).noted ≡ false → (j ≡ k) ⊎ (j ≢ k) → AreLast t.state u
  update_last j u d h super none (inl e) =
      step.own_last u (open_own j u e h) super (moved (λ x. list_any is_committing x.noted ≡ false) j e none)
  update_last j u d h super none (inr ne) =
      step.others_last j u d ne (open_other j u d ne h) super
      (sound.locked j u d (open_other j u d ne h) super (kept (λ x. list_any is_committing x.noted ≡ false) j d ne none))

  both_apart : (i j : ℕ) (u v : Update) → 1 ≤ i → 1 ≤ j → i ≢ j → IsOpenAt t i u → IsOpenAt t j v
      → (i ≡ k) ⊎ (i ≢ k) → (j ≡ k) ⊎ (j ≢ k) → AreApart u v
  both_apart i j u v d f ne mine other (inl e) (inl g) = absurd (ne (e ∙ sym g))
  both_apart i j u v d f ne mine other (inl e) (inr g) =
      step.own_alone j u v f g (open_own i u e mine) (open_other j v f g other)
  both_apart i j u v d f ne mine other (inr e) (inl g) =
      apart_turned v u (step.own_alone i v u d e (open_own j v g other) (open_other i u d e mine))
  both_apart i j u v d f ne mine other (inr e) (inr g) =
      sound.alone i j u v d f ne (open_other i u d e mine) (open_other j v f g other)

  all_held : (j : ℕ) → 1 ≤ j → (j ≡ k) ⊎ (j ≢ k) → is_holding (client_of t j).noted ≡ false → (client_of t j).held ≡ 0
  all_held j d (inl e) = moved_back (λ x. is_holding x.noted ≡ false → x.held ≡ 0) j e step.own_held
  all_held j d (inr ne) = kept_back (λ x. is_holding x.noted ≡ false → x.held ≡ 0) j d ne (sound.held j d)

  in_line : (up : Upkeep) → t.upkeep ≡ Some up → (1 ≤ up.client) × HasNoted t up.client is_starting
  in_line up h = by (step.upkeep.within up h)
    where
      by : ((up.client ≡ k) × (list_any is_starting c.noted ≡ true)) ⊎ ((up.client ≢ k) × (s.upkeep ≡ Some up))
          → (1 ≤ up.client) × HasNoted t up.client is_starting
      by (inl (same, noted)) = (omega (arith, a, same), moved_back (λ x. list_any is_starting x.noted ≡ true) up.client same noted)
      by (inr (ne, was)) =
          let own = sound.upkeep up was in
          (own.0, kept_back (λ x. list_any is_starting x.noted ≡ true) up.client own.0 ne own.1)

  all_started : (j : ℕ) → 1 ≤ j → (j ≡ k) ⊎ (j ≢ k) → HasNoted t j is_starting → IsSomeAnd t.upkeep (λ (up : Upkeep). up.client ≡ j)
  all_started j d (inl e) h =
      let F : ℕ → Type 0 = λ n. IsSomeAnd t.upkeep (λ (up : Upkeep). up.client ≡ n) in
      subst F (sym e) (step.upkeep.started (moved (λ x. list_any is_starting x.noted ≡ true) j e h))
  all_started j d (inr ne) h =
      let was : HasNoted s j is_starting = kept (λ x. list_any is_starting x.noted ≡ true) j d ne h in
      let F : Option Upkeep → Type 0 = λ o. IsSomeAnd o (λ (up : Upkeep). up.client ≡ j) in
      subst F (sym (step.upkeep.others j d ne was)) (sound.started j d was)

  -- a base of an open update of the object is not taken away by a pruning that takes away no base of before
  base_stays : (object first : ℕ) → IsPrunable s object first → (i : ℕ) (w : Work) → IsOn t i w → w.object ≡ object
      → (i ≡ k) ⊎ (i ≢ k) → first ≤ w.serial
  base_stays object first p i w on same (inr ne) =
      p.bases i w (record {
        update = on.update;
        number = on.number;
        is_open = open_other i on.update on.number ne on.is_open;
        listed = on.listed;
      }) same
  base_stays object first p i w on same (inl e) = by (step.bases on.update w (open_own i on.update e on.is_open) on.listed)
    where
      by : HasBase s k w → first ≤ w.serial
      by (inl (x, mine, of_object, serial)) =
          let low : first ≤ x.serial = p.bases k x mine (of_object ∙ same) in
          omega (arith, low, serial)
      by (inr last) =
          let is : serial_of s.state w.object ≡ serial_of s.state object = ap (serial_of s.state) same in
          let low = p.last in
          omega (arith, low, is, last)

  prunable_stays : (object first : ℕ) → serial_of s.state object ≤ serial_of t.state object → IsPrunable s object first → IsPrunable t object first
  prunable_stays object first grows p = record {
    last = (let low = p.last in omega (arith, low, grows));
    bases = λ i w on same. base_stays object first p i w on same (cases_eq i k);
  }

  other_line : (j : ℕ) (line : Line) → 1 ≤ j → j ≢ k → next_line scripts t j ≡ Some line → IsSoundLine t j line.command
  other_line j line d ne next =
      let before : next_line scripts s j ≡ Some line
      = kept (λ x. slice_get (lines_of scripts j) (length x.answers) ≡ Some line) j d ne next in
      let old = sound.lines j line d before in
      record {
        committing = λ h. old.committing (kept (λ x. list_any is_committing x.noted ≡ true) j d ne h);
        removing = λ file is noted latest. absurd (ne (sym latest ∙ step.latest));
        pruning = λ file keep up is noted h.
            let was : (client_of s j).noted ≡ Started ∷ [] = kept (λ x. x.noted ≡ Started ∷ []) j d ne noted in
            let began : HasNoted s j is_starting = ap (list_any is_starting) was in
            prunable_stays (object_of file) up.first (step.grows j d ne began (object_of file))
            (old.pruning file keep up is was (sym (step.upkeep.others j d ne began) ∙ h));
      }

  all_lines : (j : ℕ) (line : Line) → 1 ≤ j → next_line scripts t j ≡ Some line → (j ≡ k) ⊎ (j ≢ k) → IsSoundLine t j line.command
  all_lines j line d next (inr ne) = other_line j line d ne next
  all_lines j line d next (inl e) =
      let F : ℕ → Type 0 = λ n. next_line scripts t n ≡ Some line → IsSoundLine t n line.command in
      subst F (sym e) (step.line line) next

  -- what stands after the entry is sound
  pub step_sound : IsSound scripts t
  step_sound = record {
    state = step.state;
    counted = step.counted;
    updates = λ j u d h. update_sound j u d h (cases_eq j k);
    locked = λ j u d h super none. update_last j u d h super none (cases_eq j k);
    low = step.low;
    alone = λ i j u v d f ne mine other. both_apart i j u v d f ne mine other (cases_eq i k) (cases_eq j k);
    held = λ j d none. all_held j d (cases_eq j k) none;
    upkeep = in_line;
    started = λ j d h. all_started j d (cases_eq j k) h;
    lines = λ j line d next. all_lines j line d next (cases_eq j k);
  }
