-- What every entry of a line leaves: the client with one entry more, its line, and the maintenance.
use Rattle.std.proofs.Common.{◌≡◌, ◌≢◌, ◌⊎◌, inl, inr, ℕ, zero, suc, ◌-◌, ◌≤◌, Bool, true, false, ◌||◌, List, [], ◌∷◌, ◌++◌, length, Option, Some, None, Contains, refl, sym, ap, ◌∙◌, subst, arith}
use Rattle.std.specs.Prelude.{slice_get, slice_index_or, slice_set, IsSomeAnd}
use Rattle.std.specs.List.{list_any}
use Rattle.std.proofs.lemmas.Bool.{cases_eq, or_cases, or_parts}
use Rattle.std.proofs.lemmas.List.{same_from_push}
use Rattle.script_text.specs.declared.command.Command.{Command}
use Rattle.script_text.specs.declared.command.Command.TheVariants.{Commit}
use Rattle.script_text.specs.declared.script.Line.{Line}
use Rattle.service_model.specs.declared.journal.What.{What}
use Rattle.service_model.specs.declared.journal.What.TheVariants.{Started}
use Rattle.service_model.specs.Standing.{Scripts, Standing, Client, Update, Work, Upkeep, newcomer, client_of, with_client, lines_of, next_line, serial_of, has_file}
use Rattle.service_model.specs.Entries.{noting}
use Rattle.service_model.specs.Sound.{IsSound, IsSoundUpdate, IsSoundLine, IsOpenAt, AreLast, HasNoted, is_holding, is_committing, is_starting}
use Rattle.service_model.proofs.Sound.{IsUpkeepStep, HasBase, set_same, step_sound}

-- ---- the client

pub client_in : (s t : Standing) (k : ℕ) (c : Client) → t.clients ≡ slice_set s.clients (k - 1) c → 1 ≤ k → k ≤ length s.clients → client_of t k ≡ c
client_in s t k c e a b =
    ap (λ l. slice_index_or l (k - 1) newcomer) e ∙ set_same s.clients (k - 1) c newcomer (omega (arith, a, b))

set_twice : {X : Type 0} (xs : List X) (i : ℕ) (x y : X) → slice_set (slice_set xs i x) i y ≡ slice_set xs i y
set_twice [] zero x y = refl
set_twice [] (suc i) x y = refl
set_twice (z ∷ zs) zero x y = refl
set_twice (z ∷ zs) (suc i) x y = ap (λ l. z ∷ l) (set_twice zs i x y)

-- the clients where client k became c and its line has one entry more
pub noted_clients : (s : Standing) (k : ℕ) (c : Client) (what : What) → 1 ≤ k → k ≤ length s.clients
    → slice_set (slice_set s.clients (k - 1) c) (k - 1) (noting what (client_of (with_client s k c) k)) ≡ slice_set s.clients (k - 1) (noting what c)
noted_clients s k c what a b =
    ap (λ x. slice_set (slice_set s.clients (k - 1) c) (k - 1) (noting what x)) (client_in s (with_client s k c) k c refl a b)
    ∙ set_twice s.clients (k - 1) c (noting what c)

-- ---- one entry more

pub any_push : {X : Type 0} (p : X → Bool) (xs : List X) (x : X) → list_any p (xs ++ x ∷ []) ≡ (list_any p xs || p x)
any_push p [] x = or_false (p x)
  where
    or_false : (b : Bool) → (b || false) ≡ b
    or_false true = refl
    or_false false = refl
any_push p (y ∷ xs) x = ap (λ b. p y || b) (any_push p xs x) ∙ or_assoc (p y) (list_any p xs) (p x)
  where
    or_assoc : (a b c : Bool) → (a || (b || c)) ≡ ((a || b) || c)
    or_assoc true b c = refl
    or_assoc false b c = refl

pub other_more : (p : What → Bool) (noted : List What) (what : What) → p what ≡ false → list_any p (noted ++ what ∷ []) ≡ list_any p noted
other_more p noted what e = any_push p noted what ∙ ap (λ b. list_any p noted || b) e ∙ or_false (list_any p noted)
  where
    or_false : (b : Bool) → (b || false) ≡ b
    or_false true = refl
    or_false false = refl

pub none_before : (p : What → Bool) (noted : List What) (what : What) → list_any p (noted ++ what ∷ []) ≡ false → list_any p noted ≡ false
none_before p noted what e = (or_parts (list_any p noted) (p what) (sym (any_push p noted what) ∙ e)).0

-- a line goes on where its answers are as they were
pub same_line : (scripts : Scripts) (s t : Standing) (k : ℕ) (c : Client) (own line : Line) → next_line scripts s k ≡ Some own
    → client_of t k ≡ c → c.answers ≡ (client_of s k).answers → next_line scripts t k ≡ Some line → own ≡ line
same_line scripts s t k c own line next is answers after =
    let still : next_line scripts t k ≡ Some own
    = ap (λ (x : Client). slice_get (lines_of scripts k) (length x.answers)) is
    ∙ ap (λ l. slice_get (lines_of scripts k) (length l)) answers ∙ next in
    cc (still, after)

-- the line of a client that has one entry more, which begins no maintenance
pub noted_line : (scripts : Scripts) (s t : Standing) (k : ℕ) (c : Client) (what : What) (own : Line) → next_line scripts s k ≡ Some own
    → client_of t k ≡ c → c.noted ≡ (client_of s k).noted ++ what ∷ [] → c.answers ≡ (client_of s k).answers
    → is_starting what ≡ false → (is_committing what ≡ true → own.command ≡ Commit) → IsSoundLine s k own.command
    → (line : Line) → next_line scripts t k ≡ Some line → IsSoundLine t k line.command
noted_line scripts s t k c what own next is noted answers plain commits old line after =
    let F : Command → Type 0 = λ x. IsSoundLine t k x in
    subst F (ap (λ (l : Line). l.command) (same_line scripts s t k c own line next is answers after)) mine
  where
    noted_in_t : (client_of t k).noted ≡ (client_of s k).noted ++ what ∷ []
    noted_in_t = ap (λ (x : Client). x.noted) is ∙ noted

    never : {A : Type 0} → (client_of t k).noted ≡ Started ∷ [] → A
    never e =
        let only : what ≡ Started = (same_from_push (client_of s k).noted [] what Started (sym noted_in_t ∙ e)).1 in
        let no : true ≡ false = ap is_starting (sym only) ∙ plain in
        absurd (cc no)

    committed : HasNoted t k is_committing → own.command ≡ Commit
    committed h =
        elim (or_cases (list_any is_committing (client_of s k).noted) (is_committing what)
        (sym (any_push is_committing (client_of s k).noted what) ∙ ap (list_any is_committing) (sym noted_in_t) ∙ h)) [
          | inl e ↦ old.committing e
          | inr e ↦ commits e
        ]

    mine : IsSoundLine t k own.command
    mine = record {
      committing = committed;
      removing = λ file is_it only latest. never only;
      pruning = λ file keep up is_it only h. never only;
    }

-- ---- maintenance

module _ (scripts : Scripts) (s : Standing) (k : ℕ) (c : Client) (a : 1 ≤ k) (b : k ≤ length s.clients) (sound : IsSound scripts s) where
  -- maintenance is as it was where the line began none
  pub same_upkeep : list_any is_starting c.noted ≡ list_any is_starting (client_of s k).noted → IsUpkeepStep s s.upkeep k c
  same_upkeep e = record {
    within = λ up h. by up h (cases_eq up.client k);
    started = λ h. sound.started k a (sym e ∙ h);
    others = λ j d ne h. refl;
  }
    where
      by : (up : Upkeep) → s.upkeep ≡ Some up → (up.client ≡ k) ⊎ (up.client ≢ k)
          → ((up.client ≡ k) × (list_any is_starting c.noted ≡ true)) ⊎ ((up.client ≢ k) × (s.upkeep ≡ Some up))
      by up h (inr ne) = inr (ne, h)
      by up h (inl same) =
          let F : ℕ → Type 0 = λ n. list_any is_starting (client_of s n).noted ≡ true in
          inl (same, e ∙ subst F same (sound.upkeep up h).1)

  -- no other client is in maintenance where this one is
  pub one_keeper : {A : Type 0} → HasNoted s k is_starting → (j : ℕ) → 1 ≤ j → j ≢ k → HasNoted s j is_starting → A
  one_keeper mine j d ne other = by s.upkeep (sound.started k a mine) (sound.started j d other)
    where
      by : {A : Type 0} → (o : Option Upkeep) → IsSomeAnd o (λ (up : Upkeep). up.client ≡ k) → IsSomeAnd o (λ (up : Upkeep). up.client ≡ j) → A
      by None f g = absurd f
      by (Some up) f g = absurd (ne (sym g ∙ f))

-- ---- entries that change no file

-- an update that came from one that was open, with the same files and bases
pub record CameFrom (s : Standing) (k : ℕ) (u : Update) : Type 0 where
  pub old : Update
  pub was : IsOpenAt s k old
  pub super : u.is_super ≡ old.is_super
  pub files : (object : ℕ) → has_file object u ≡ has_file object old
  pub bases : (w : Work) → Contains u.works w → (x : Work) × Contains old.works x × (x.object ≡ w.object) × (x.serial ≡ w.serial)
  pub keeps : IsSoundUpdate s.state s.made old → IsSoundUpdate s.state s.made u

pub same_update : (s : Standing) (k : ℕ) (u : Update) → IsOpenAt s k u → CameFrom s k u
same_update s k u e = record {
  old = u;
  was = e;
  super = refl;
  files = λ object. refl;
  bases = λ w h. (w, h, refl, refl);
  keeps = λ h. h;
}

pub last_still : (s : Standing) (k : ℕ) (u : Update) (from : CameFrom s k u) → AreLast s.state from.old → AreLast s.state u
last_still s k u from last = λ w h.
    let x = from.bases w h in
    sym x.3 ∙ last x.0 x.1 ∙ ap (serial_of s.state) x.2

-- what is asked of a client whose entry changes no file
pub record IsQuietClient (s : Standing) (k : ℕ) (c : Client) : Type 0 where
  pub update : (u : Update) → c.update ≡ Some u → CameFrom s k u
  pub uncommitted : (u : Update) → c.update ≡ Some u → list_any is_committing c.noted ≡ false → list_any is_committing (client_of s k).noted ≡ false
  pub held : is_holding c.noted ≡ false → c.held ≡ 0

module _ (scripts : Scripts) (s : Standing) (k : ℕ) (c : Client) (a : 1 ≤ k) (b : k ≤ length s.clients) (sound : IsSound scripts s) (quiet : IsQuietClient s k c) where
  quiet_base : (u : Update) (w : Work) → c.update ≡ Some u → Contains u.works w → HasBase s k w
  quiet_base u w e h =
      let from = quiet.update u e in
      let x = from.bases w h in
      inl (x.0, record { update = from.old; number = a; is_open = from.was; listed = x.1 }, x.2, x.3)

  pub quiet_step : (l : List Client) (m : Option Upkeep) → l ≡ slice_set s.clients (k - 1) c → IsUpkeepStep s m k c
      → ((line : Line) → next_line scripts (record s { clients = l; upkeep = m; latest = k }) k ≡ Some line
      → IsSoundLine (record s { clients = l; upkeep = m; latest = k }) k line.command)
      → IsSound scripts (record s { clients = l; upkeep = m; latest = k })
  quiet_step l m e upkeep line =
      step_sound scripts s (record s { clients = l; upkeep = m; latest = k }) k c a b sound (record {
        clients = e;
        latest = refl;
        state = sound.state;
        counted = sound.counted;
        low = sound.low;
        others = λ j u d ne h. sound.updates j u d h;
        others_last = λ j u d ne h super last. last;
        own = λ u h. (let from = quiet.update u h in from.keeps (sound.updates k from.old a from.was));
        own_last = λ u h super none. (let from = quiet.update u h in
            last_still s k u from (sound.locked k from.old a from.was (sym from.super ∙ super) (quiet.uncommitted u h none)));
        own_alone = λ j u v d ne h other. (let from = quiet.update u h in λ object su sv hu hv.
            sound.alone k j from.old v a d (λ same. ne (sym same)) from.was other object
            (sym from.super ∙ su) sv (sym (from.files object) ∙ hu) hv);
        own_held = quiet.held;
        upkeep = upkeep;
        grows = λ j d ne h object. omega arith;
        bases = quiet_base;
        line = line;
      })
