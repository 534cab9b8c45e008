-- What stands stays sound where a file is removed, or made.
use Rattle.std.proofs.Common.{◌≡◌, ◌≢◌, ◌⊎◌, inl, inr, ℕ, ◌≤◌, ◌==◌, true, false, not, List, [], ◌∷◌, ◌++◌, filter, length, Option, Some, None, IsSomeAnd, Contains, refl, sym, ap, ◌∙◌, subst, arith}
use Rattle.std.specs.List.{list_any}
use Rattle.std.specs.Option.{option_map_or}
use Rattle.std.proofs.lemmas.Bool.{cases_eq, ne_eqb, not-true, eq-eqb, or_left}
use Rattle.script_text.specs.declared.script.Line.{Line}
use Rattle.script_text.specs.declared.script.Mode.{Mode}
use Rattle.service_model.specs.declared.journal.What.{What}
use Rattle.service_model.specs.declared.journal.What.TheVariants.{Destroyed}
use Rattle.tree_model.specs.States.{State, File, Version, IsFile, file_of}
use Rattle.service_model.specs.Standing.{Scripts, Standing, Update, Work, Made, Upkeep, client_of, next_line, versions_of, serial_of}
use Rattle.service_model.specs.Entries.{after_what, freeing, noting, on_file, with_file}
use Rattle.service_model.specs.Legal.{IsLawfulWhat}
use Rattle.service_model.specs.Upkeep.{no_file}
use Rattle.service_model.specs.Sound.{IsSound, IsSoundUpdate, IsOpenAt, IsLetAlone, AreLast, HasNoted, is_holding, is_committing, is_starting}
use Rattle.service_model.proofs.Alike.{AreSameOf, alike_update, other_alike, other_serial, other_versions}
use Rattle.service_model.proofs.Entering.{any_push, client_in, none_before, noted_line, one_keeper}
use Rattle.service_model.proofs.Files.{here_file, state_on, no_some}
use Rattle.service_model.proofs.Members.{none_in, in_filtered, from_filtered}
use Rattle.service_model.proofs.Sound.{IsUpkeepStep, step_sound}

-- ---- maintenance that will free blocks

-- the client's maintenance goes on, and so many blocks will be free
pub freed_upkeep : (scripts : Scripts) (s : Standing) (k blocks : ℕ) (what : What) → 1 ≤ k → k ≤ length s.clients → IsSound scripts s
    → HasNoted s k is_starting → IsUpkeepStep s (freeing blocks s.upkeep) k (noting what (client_of s k))
freed_upkeep scripts s k blocks what a b sound mine = record {
  within = λ up h. inl (freed up h s.upkeep refl (sound.started k a mine), begun);
  started = λ h. still s.upkeep (sound.started k a mine);
  others = λ j d ne h. one_keeper scripts s k (client_of s k) a b sound mine j d ne h;
}
  where
    begun : list_any is_starting ((client_of s k).noted ++ what ∷ []) ≡ true
    begun =
        any_push is_starting (client_of s k).noted what
        ∙ or_left (list_any is_starting (client_of s k).noted) (is_starting what) mine

    still : (o : Option Upkeep) → IsSomeAnd o (λ (up : Upkeep). up.client ≡ k) → IsSomeAnd (freeing blocks o) (λ (up : Upkeep). up.client ≡ k)
    still None h = h
    still (Some up) h = h

    freed : (up : Upkeep) → freeing blocks s.upkeep ≡ Some up → (o : Option Upkeep) → s.upkeep ≡ o
        → IsSomeAnd o (λ (x : Upkeep). x.client ≡ k) → up.client ≡ k
    freed up h None e f = absurd f
    freed up h (Some x) e f =
        let is : freeing blocks (Some x) ≡ Some up = ap (freeing blocks) (sym e) ∙ h in
        ap (λ o. option_map_or (λ (y : Upkeep). y.client) o k) (sym is) ∙ f

-- ---- a file that is removed

module _ (state : State) (object : ℕ) where
  gone_versions : (v : Version) → Contains (versions_of (on_file state object no_file) object) v → ⊥
  gone_versions v h = by (file_of state object) refl
    where
      by : (o : Option File) → file_of state object ≡ o → ⊥
      by (Some file) e =
          let now : versions_of (on_file state object no_file) object ≡ []
          = ap (λ o. option_map_or (λ (f : File). f.versions) o []) (here_file state object no_file file e) in
          let F : List Version → Type 0 = λ l. Contains l v in
          none_in v (subst F now h)
      by None e =
          let same : on_file state object no_file ≡ state = ap (λ o. option_map_or (λ f. with_file state object (no_file f)) o state) e in
          let now : versions_of (on_file state object no_file) object ≡ []
          = ap (λ x. versions_of x object) same ∙ ap (λ o. option_map_or (λ (f : File). f.versions) o []) e in
          let F : List Version → Type 0 = λ l. Contains l v in
          none_in v (subst F now h)

  no_file_sound : (file : File) → IsFile (no_file file)
  no_file_sound file = record {
    rising = λ k m n here next. no_some m here;
    trees = λ k v at. no_some v at;
    first = λ v at. no_some v at;
  }

-- of the versions that were made those of other objects stay
filtered_same : (list : List Made) (object p : ℕ) → p ≢ object → AreSameOf list (filter (λ (m : Made). not (m.object == object)) list) p
filtered_same list object p ne = record {
  forth = λ m h of_object. in_filtered (λ (x : Made). not (x.object == object)) list m h
      (ap not (ne_eqb m.object object (λ e. ne (sym of_object ∙ e))));
  back = λ m h. (from_filtered (λ (x : Made). not (x.object == object)) list m h).0;
}

module _ (mode : Mode) (scripts : Scripts) (s : Standing) (k : ℕ) (own : Line) (object blocks at : ℕ) (a : 1 ≤ k) (b : k ≤ length s.clients)
    (sound : IsSound scripts s) (next : next_line scripts s k ≡ Some own)
    (lawful : IsLawfulWhat mode s k own.command (Destroyed object blocks at)) where
  abbrev entry : What
  entry = Destroyed object blocks at

  abbrev removed : Standing
  removed = after_what mode s k own.command (Destroyed object blocks at)

  alone : IsLetAlone s object
  alone = λ j w on same.
      (sound.lines k own a next).removing lawful.0.0 lawful.0.1 lawful.1 lawful.2 j w on (same ∙ lawful.0.2)

  mine : HasNoted s k is_starting
  mine = ap (list_any is_starting) lawful.1

  update_stays : (j : ℕ) (u : Update) → 1 ≤ j → IsOpenAt s j u → IsSoundUpdate removed.state removed.made u
  update_stays j u d h =
      let off : (w : Work) → Contains u.works w → w.object ≢ object
      = λ w listed. alone j w (record { update = u; number = d; is_open = h; listed = listed }) in
      alike_update s.state removed.state s.made removed.made u
      (λ w listed. other_alike s.state object no_file w.object w.serial (off w listed))
      (λ w listed. filtered_same s.made object w.object (off w listed))
      (sound.updates j u d h)

  last_stays : (j : ℕ) (u : Update) → 1 ≤ j → IsOpenAt s j u → AreLast s.state u → AreLast removed.state u
  last_stays j u d h last = λ w listed.
      last w listed ∙ sym (other_serial s.state object no_file w.object
      (alone j w (record { update = u; number = d; is_open = h; listed = listed })))

  counted : (p : ℕ) (v : Version) → Contains (versions_of removed.state p) v → (p ≡ object) ⊎ (p ≢ object) → 1 ≤ v.serial
  counted p v h (inl same) =
      let F : ℕ → Type 0 = λ o. Contains (versions_of removed.state o) v in
      absurd (gone_versions s.state object v (subst F same h))
  counted p v h (inr ne) =
      let F : List Version → Type 0 = λ l. Contains l v in
      sound.counted p v (subst F (other_versions s.state object no_file p ne) h)

  low : (m : Made) → Contains removed.made m → m.serial ≤ serial_of removed.state m.object
  low m h =
      let from = from_filtered (λ (x : Made). not (x.object == object)) s.made m h in
      let off : m.object ≢ object = λ e.
      let no : true ≡ false = sym (eq-eqb m.object object e) ∙ not-true (m.object == object) from.1 in
      cc no
      in
      let was = sound.low m from.0 in
      let same = other_serial s.state object no_file m.object off in
      omega (arith, was, same)

  -- what stands stays sound where a file is removed
  pub destroyed_keeps : IsSound scripts removed
  destroyed_keeps =
      step_sound scripts s removed k (noting entry (client_of s k)) a b sound (record {
        clients = refl;
        latest = refl;
        state = state_on s.state object no_file sound.state (λ file e is. no_file_sound s.state object file);
        counted = λ p v h. counted p v h (cases_eq p object);
        low = low;
        others = λ j u d ne h. update_stays j u d h;
        others_last = λ j u d ne h super last. last_stays j u d h last;
        own = λ u e. update_stays k u a e;
        own_last = λ u e super none. last_stays k u a e
            (sound.locked k u a e super (none_before is_committing (client_of s k).noted entry none));
        own_alone = λ j u v d ne e other. sound.alone k j u v a d (λ same. ne (sym same)) e other;
        own_held = λ e. sound.held k a (ap is_holding lawful.1);
        upkeep = freed_upkeep scripts s k blocks entry a b sound mine;
        grows = λ j d ne h p. one_keeper scripts s k (client_of s k) a b sound mine j d ne h;
        bases = λ u w e h. inl (w, record { update = u; number = a; is_open = e; listed = h }, refl, refl);
        line = noted_line scripts s removed k (noting entry (client_of s k)) entry own next
            (client_in s removed k (noting entry (client_of s k)) refl a b) refl refl refl
            (λ e. (let no : true ≡ false = sym e in absurd (cc no))) (sound.lines k own a next);
      })
