-- What stands stays sound where an update is committed.
use Rattle.std.proofs.Common.{◌≡◌, ◌≢◌, ◌⊎◌, inl, inr, ℕ, ◌+◌, ◌-◌, ◌≤◌, ◌==◌, Bool, true, false, ◌&&◌, List, [], ◌∷◌, ◌++◌, map, filter, length, Option, Some, None, MatchBool, Contains, refl, sym, ap, ◌∙◌, subst, arith, append_assoc, append-nil}
use Rattle.std.specs.Prelude.{slice_set, if◌then◌else◌}
use Rattle.std.specs.List.{list_any}
use Rattle.std.specs.Option.{option_map_or}
use Rattle.std.proofs.lemmas.Bool.{cases_Bool, eq-eqb, or_parts, or_from, or_right, false_from_ne_true}
use Rattle.std.proofs.lemmas.List.Elements.{All-contains}
use Rattle.script_text.specs.declared.command.Command.TheVariants.{Commit}
use Rattle.script_text.specs.declared.script.Line.{Line}
use Rattle.script_text.specs.declared.script.Mode.{Mode}
use Rattle.service_model.specs.declared.journal.What.{What}
use Rattle.service_model.specs.declared.journal.What.TheVariants.{Committed}
use Rattle.service_model.specs.declared.named.Named.{Named}
use Rattle.tree_model.specs.States.{State, Version, IsState}
use Rattle.tree_model.specs.Trees.{Tree}
use Rattle.service_model.specs.Standing.{Scripts, Standing, Client, Update, Work, Made, client_of, with_client, next_line, versions_of, serial_of, last_tree, has_writes, is_written, renewed_works, top_and_written, locked_by}
use Rattle.service_model.specs.Causes.{has_twice}
use Rattle.service_model.specs.Entries.{after_what, committed_in, news_by, news_of, noting, on_file, with_next}
use Rattle.service_model.specs.Legal.{IsCommitOf, IsCommittable, IsUnclashed}
use Rattle.service_model.specs.Sound.{IsSound, IsSoundUpdate, IsBased, IsOpenAt, AreLast, is_committing, is_starting}
use Rattle.service_model.proofs.Alike.{other_serial, same_serial, same_tree}
use Rattle.service_model.proofs.Causes.{file_had, lock_held}
use Rattle.service_model.proofs.Entering.{any_push, client_in, noted_clients, noted_line, other_more, same_upkeep}
use Rattle.service_model.proofs.Files.{other_file}
use Rattle.service_model.proofs.Growing.{based_still, counted_grows, grown_state, low_grows, serial_grows, update_grows}
use Rattle.service_model.proofs.Members.{front_or_rest, from_any, from_filtered, from_mapped, in_any, in_front, in_mapped, in_rest, none_in, same_member}
use Rattle.service_model.proofs.Sound.{step_sound}
use Rattle.service_model.proofs.Versions.{IsLiveAt, live_at, live_tree}

-- ---- the files of a commit

abbrev objects : List Work → List ℕ
objects ws = map (λ (w : Work). w.object) ws

-- of files no two of which are one, no two of those that pass a test are one
twice_less : (p : Work → Bool) (ws : List Work) → has_twice (objects ws) ≡ false → has_twice (objects (filter p ws)) ≡ false
twice_less p [] differ = refl
twice_less p (w ∷ ws) differ = by (twice_less p ws) (p w)
  where
    parts : (list_any (λ m. m == w.object) (objects ws) ≡ false) × (has_twice (objects ws) ≡ false)
    parts = or_parts (list_any (λ m. m == w.object) (objects ws)) (has_twice (objects ws)) differ

    no_more : list_any (λ m. m == w.object) (objects (filter p ws)) ≡ false
    no_more = false_from_ne_true (list_any (λ m. m == w.object) (objects (filter p ws))) (λ h.
        let found = from_any (λ m. m == w.object) (objects (filter p ws)) h in
        let from = from_mapped (λ (x : Work). x.object) (filter p ws) found.0 found.1 in
        let old = from_filtered p ws from.0 from.1 in
        let listed : Contains (objects ws) found.0
        = same_member (objects ws) from.0.object found.0 from.2 (in_mapped (λ (x : Work). x.object) ws from.0 old.0) in
        let no : true ≡ false = sym (in_any (λ m. m == w.object) (objects ws) found.0 listed found.2) ∙ parts.0 in
        cc no)

    by : (has_twice (objects ws) ≡ false → has_twice (objects (filter p ws)) ≡ false) → (b : Bool)
        → has_twice (objects (if b then w ∷ filter p ws else filter p ws)) ≡ false
    by later true =
        or_from (list_any (λ m. m == w.object) (objects (filter p ws))) (has_twice (objects (filter p ws))) no_more (later parts.1)
    by later false = later parts.1

twice_top : (ws : List Work) → has_twice (objects ws) ≡ false → has_twice (objects (top_and_written ws)) ≡ false
twice_top [] differ = refl
twice_top (w ∷ ws) differ = no_twice
  where
    parts : (list_any (λ m. m == w.object) (objects ws) ≡ false) × (has_twice (objects ws) ≡ false)
    parts = or_parts (list_any (λ m. m == w.object) (objects ws)) (has_twice (objects ws)) differ

    no_more : list_any (λ m. m == w.object) (objects (filter is_written ws)) ≡ false
    no_more = false_from_ne_true (list_any (λ m. m == w.object) (objects (filter is_written ws))) (λ h.
        let found = from_any (λ m. m == w.object) (objects (filter is_written ws)) h in
        let from = from_mapped (λ (x : Work). x.object) (filter is_written ws) found.0 found.1 in
        let old = from_filtered is_written ws from.0 from.1 in
        let listed : Contains (objects ws) found.0
        = same_member (objects ws) from.0.object found.0 from.2 (in_mapped (λ (x : Work). x.object) ws from.0 old.0) in
        let no : true ≡ false = sym (in_any (λ m. m == w.object) (objects ws) found.0 listed found.2) ∙ parts.0 in
        cc no)

    no_twice : has_twice (objects (w ∷ filter is_written ws)) ≡ false
    no_twice =
        or_from (list_any (λ m. m == w.object) (objects (filter is_written ws))) (has_twice (objects (filter is_written ws))) no_more
        (twice_less is_written ws parts.1)

-- no two files that get a new version are one
pub renewed_differ : (u : Update) → has_twice (objects u.works) ≡ false → has_twice (objects (renewed_works u)) ≡ false
renewed_differ u differ = by (u.is_super && has_writes u)
  where
    by : (b : Bool) → has_twice (objects (if b then top_and_written u.works else filter is_written u.works)) ≡ false
    by true = twice_top u.works differ
    by false = twice_less is_written u.works differ

in_top : (ws : List Work) (w : Work) → Contains (top_and_written ws) w → Contains ws w
in_top [] w h = h
in_top (x ∷ ws) w h = by (front_or_rest x (filter is_written ws) w h)
  where
    by : (x ≡ w) ⊎ Contains (filter is_written ws) w → Contains (x ∷ ws) w
    by (inl same) = same_member (x ∷ ws) x w same (in_front x ws)
    by (inr rest) = in_rest x ws w (from_filtered is_written ws w rest).0

-- a file that gets a new version is one of the update's
pub renewed_in : (u : Update) (w : Work) → Contains (renewed_works u) w → Contains u.works w
renewed_in u w = by (u.is_super && has_writes u)
  where
    by : (b : Bool) → Contains (if b then top_and_written u.works else filter is_written u.works) w → Contains u.works w
    by true h = in_top u.works w h
    by false h = (from_filtered is_written u.works w h).0

none_pass : (p : Work → Bool) (ws : List Work) → list_any p ws ≡ false → filter p ws ≡ []
none_pass p [] h = refl
none_pass p (w ∷ ws) h =
    let parts = or_parts (p w) (list_any p ws) h in
    ap (λ b. if b then w ∷ filter p ws else filter p ws) parts.0 ∙ none_pass p ws parts.1

-- where nothing was written no file gets a new version
pub none_renewed : (u : Update) → has_writes u ≡ false → renewed_works u ≡ []
none_renewed u h =
    ap (λ b. if u.is_super && b then top_and_written u.works else filter is_written u.works) h
    ∙ ap (λ b. if b then top_and_written u.works else filter is_written u.works) (and_false u.is_super)
    ∙ none_pass is_written u.works h
  where
    and_false : (b : Bool) → (b && false) ≡ false
    and_false true = refl
    and_false false = refl

-- ---- one version after the other

-- what is asked of a state and of what is kept of the versions that were made
pub record AreFiles (stored : State) (list : List Made) : Type 0 where
  pub state : IsState stored
  pub counted : (object : ℕ) (v : Version) → Contains (versions_of stored object) v → 1 ≤ v.serial
  pub low : (m : Made) → Contains list m → m.serial ≤ serial_of stored m.object

-- a state and what is kept of versions went on by more versions
pub record HaveGrown (state : State) (list : List Made) (after : State) (more : List Made) : Type 0 where
  pub files : AreFiles after more
  pub based : (w : Work) → IsBased state w → IsBased after w
  pub updates : (u : Update) → IsSoundUpdate state list u → IsSoundUpdate after more u
  pub grows : (p : ℕ) → serial_of state p ≤ serial_of after p

module _ (state : State) (list : List Made) (w : Work) (files : AreFiles state list) (based : IsBased state w) where
  base_live : IsLiveAt state w.object
  base_live = live_at state w.object based.version files.state based.kept

  pub one_more : HaveGrown state list (on_file state w.object (with_next w.steps)) (list ++ news_by state w ∷ [])
  one_more =
      let before : last_tree state w.object ≡ base_live.last.tree = live_tree state w.object base_live in
      record {
        files = record {
          state = grown_state state w.object w.steps files.state base_live based.steps;
          counted = counted_grows state w.object w.steps files.state base_live based.steps files.counted;
          low = low_grows state w.object w.steps files.state base_live based.steps list (last_tree state w.object) before files.low;
        };
        based = λ x h. based_still state w.object w.steps files.state base_live based.steps list (last_tree state w.object) before files.low x h;
        updates = λ u h. update_grows state w.object w.steps files.state base_live based.steps list (last_tree state w.object) before files.low u h;
        grows = serial_grows state w.object w.steps files.state base_live based.steps;
      }

abbrev news : Work → ℕ → Tree → Made
news w n t = record { object = w.object; serial = n + 1; before = t; steps = w.steps }

-- what is kept of the versions of other files is the same
news_same : (state : State) (w : Work) (ws : List Work) → list_any (λ m. m == w.object) (objects ws) ≡ false
    → map (news_by (on_file state w.object (with_next w.steps))) ws ≡ map (news_by state) ws
news_same state w [] none = refl
news_same state w (x ∷ ws) none =
    let parts = or_parts (x.object == w.object) (list_any (λ m. m == w.object) (objects ws)) none in
    let ne : x.object ≢ w.object = λ e. (let no : true ≡ false = sym (eq-eqb x.object w.object e) ∙ parts.0 in cc no) in
    let file = other_file state w.object (with_next w.steps) x.object ne in
    let serial = same_serial (on_file state w.object (with_next w.steps)) state x.object file in
    let tree = same_tree (on_file state w.object (with_next w.steps)) state x.object file in
    ap (λ n. news x n (last_tree (on_file state w.object (with_next w.steps)) x.object) ∷ map (news_by (on_file state w.object (with_next w.steps))) ws) serial
    ∙ ap (λ t. news x (serial_of state x.object) t ∷ map (news_by (on_file state w.object (with_next w.steps))) ws) tree
    ∙ ap (λ l. news_by state x ∷ l) (news_same state w ws parts.1)

-- all files of a commit
pub all_more : (ws : List Work) (state : State) (list : List Made) → AreFiles state list → ((w : Work) → Contains ws w → IsBased state w)
    → has_twice (objects ws) ≡ false → HaveGrown state list (committed_in state ws) (list ++ map (news_by state) ws)
all_more [] state list files based differ =
    let F : List Made → Type 0 = λ l. HaveGrown state list state l in
    subst F (sym (append-nil list)) (record { files = files; based = λ w h. h; updates = λ u h. h; grows = λ p. omega arith })
all_more (w ∷ ws) state list files based differ =
    let parts = or_parts (list_any (λ m. m == w.object) (objects ws)) (has_twice (objects ws)) differ in
    let one = one_more state list w files (based w (in_front w ws)) in
    let rest = all_more ws (on_file state w.object (with_next w.steps)) (list ++ news_by state w ∷ []) one.files
    (λ x h. one.based x (based x (in_rest w ws x h))) parts.1 in
    let same : (list ++ news_by state w ∷ []) ++ map (news_by (on_file state w.object (with_next w.steps))) ws ≡ list ++ map (news_by state) (w ∷ ws)
    = append_assoc list (news_by state w ∷ []) (map (news_by (on_file state w.object (with_next w.steps))) ws)
    ∙ ap (λ l. list ++ news_by state w ∷ l) (news_same state w ws parts.0) in
    let F : List Made → Type 0 = λ l. HaveGrown state list (committed_in (on_file state w.object (with_next w.steps)) ws) l in
    subst F same (record {
      files = rest.files;
      based = λ x h. rest.based x (one.based x h);
      updates = λ u h. rest.updates u (one.updates u h);
      grows = λ p. (let first = one.grows p in let second = rest.grows p in omega (arith, first, second));
    })

-- the serial of a file that is none of these stays
pub unchanged : (ws : List Work) (state : State) (p : ℕ) → ((w : Work) → Contains ws w → w.object ≢ p) → serial_of (committed_in state ws) p ≡ serial_of state p
unchanged [] state p off = refl
unchanged (w ∷ ws) state p off =
    unchanged ws (on_file state w.object (with_next w.steps)) p (λ x h. off x (in_rest w ws x h))
    ∙ other_serial state w.object (with_next w.steps) p (λ e. off w (in_front w ws) (sym e))

-- ---- the entry

module _ (mode : Mode) (scripts : Scripts) (s : Standing) (k : ℕ) (own : Line) (made : List Named) (at : ℕ) (a : 1 ≤ k) (b : k ≤ length s.clients)
    (sound : IsSound scripts s) (next : next_line scripts s k ≡ Some own) (is_commit : own.command ≡ Commit)
    (u : Update) (open_is : IsOpenAt s k u) (lawful : IsCommitOf s k u made) where
  abbrev entry : What
  entry = Committed made at

  abbrev committer : Client
  committer = record (client_of s k) { held = 0 }

  -- what stands where these are the files that get a new version, and this is kept of the new versions
  abbrev standing_with : List Work → List Made → Standing
  standing_with ws news = record s {
    state = committed_in s.state ws;
    clients = slice_set (slice_set s.clients (k - 1) committer) (k - 1) (noting entry (client_of (with_client s k committer) k));
    made = s.made ++ news;
    moment = at;
    latest = k;
  }

  abbrev committed : Standing
  committed = standing_with (renewed_works u) (news_of s.state u)

  clients : committed.clients ≡ slice_set s.clients (k - 1) (noting entry committer)
  clients = noted_clients s k committer entry a b

  own_sound : IsSoundUpdate s.state s.made u
  own_sound = sound.updates k u a open_is

  grown_by : HaveGrown s.state s.made committed.state committed.made
  grown_by =
      all_more (renewed_works u) s.state s.made (record { state = sound.state; counted = sound.counted; low = sound.low })
      (λ w h. own_sound.based w (renewed_in u w h)) (renewed_differ u own_sound.differ)

  -- no file that gets a new version is in another client's update of several files
  off : (j : ℕ) (v : Update) → 1 ≤ j → j ≢ k → IsOpenAt s j v → v.is_super ≡ true → (x : Work) → Contains v.works x
      → (w : Work) → Contains (renewed_works u) w → w.object ≡ x.object → ⊥
  off j v d ne other super x hx w hw same = by (cases_Bool (has_writes u)) (cases_Bool u.is_super)
    where
      mine : Contains u.works w
      mine = renewed_in u w hw

      by : (has_writes u ≡ true) ⊎ (has_writes u ≡ false) → (u.is_super ≡ true) ⊎ (u.is_super ≡ false) → ⊥
      by (inr none) which =
          let F : List Work → Type 0 = λ l. Contains l w in
          none_in w (subst F (none_renewed u none) hw)
      by (inl some) (inl both) =
          sound.alone k j u v a d (λ e. ne (sym e)) open_is other x.object both super
          (file_had x.object u w mine same) (file_had x.object v x hx refl)
      by (inl some) (inr plain) =
          let G : Bool → Type 0 = λ t. MatchBool t (IsCommittable s k u made) (((client_of s k).noted ≡ []) × (made ≡ [])) in
          let committable : IsCommittable s k u made = subst G some lawful in
          let free = All-contains (λ (y : Work). (locked_by s k y.object ≡ None) × IsUnclashed s.made y) u.works w
          (committable.unopposed plain) mine in
          lock_held s k w.object free.0 j v d ne other super (file_had w.object v x hx (sym same))

  last_stays : (j : ℕ) (v : Update) → 1 ≤ j → j ≢ k → IsOpenAt s j v → v.is_super ≡ true → AreLast s.state v → AreLast committed.state v
  last_stays j v d ne other super last = λ x hx.
      last x hx ∙ sym (unchanged (renewed_works u) s.state x.object (off j v d ne other super x hx))

  begun : list_any is_committing ((client_of s k).noted ++ entry ∷ []) ≡ true
  begun = any_push is_committing (client_of s k).noted entry ∙ or_right (list_any is_committing (client_of s k).noted) true refl

  committed_sound : IsSound scripts committed
  committed_sound =
      step_sound scripts s committed k (noting entry committer) a b sound (record {
        clients = clients;
        latest = refl;
        state = grown_by.files.state;
        counted = grown_by.files.counted;
        low = grown_by.files.low;
        others = λ j v d ne h. grown_by.updates v (sound.updates j v d h);
        others_last = last_stays;
        own = λ v e. grown_by.updates v (sound.updates k v a e);
        own_last = λ v e super none. (let no : true ≡ false = sym begun ∙ none in absurd (cc no));
        own_alone = λ j v x d ne e other. sound.alone k j v x a d (λ same. ne (sym same)) e other;
        own_held = λ e. refl;
        upkeep = same_upkeep scripts s k (noting entry committer) a b sound (other_more is_starting (client_of s k).noted entry refl);
        grows = λ j d ne h p. grown_by.grows p;
        bases = λ v w e h. inl (w, record { update = v; number = a; is_open = e; listed = h }, refl, refl);
        line = noted_line scripts s committed k (noting entry committer) entry own next
            (client_in s committed k (noting entry committer) clients a b) refl refl refl (λ e. is_commit) (sound.lines k own a next);
      })

  -- what stands stays sound where an update is committed
  pub committed_keeps : IsSound scripts (after_what mode s k own.command (Committed made at))
  committed_keeps =
      let F : Option Update → Type 0
      = λ o. IsSound scripts (standing_with (option_map_or renewed_works o []) (option_map_or (news_of s.state) o [])) in
      subst F (sym open_is) committed_sound
