-- What stands stays sound where an update is opened.
use Rattle.std.proofs.Common.{◌≡◌, ◌≢◌, ◌⊎◌, inl, inr, ℕ, ◌-◌, ◌<◌, ◌≤◌, ◌==◌, true, false, List, [], ◌∷◌, map, length, Some, None, Contains, sum_by, refl, sym, ap, ◌∙◌, subst, arith}
use Rattle.std.specs.Prelude.{slice_set}
use Rattle.std.proofs.lemmas.Bool.{eqb-true}
use Rattle.std.proofs.lemmas.List.{length-map}
use Rattle.std.proofs.lemmas.List.Elements.{All-nil}
use Rattle.std.proofs.lemmas.List.Sums.{sum_by-cons}
use Rattle.script_text.specs.declared.command.Command.{Command}
use Rattle.script_text.specs.declared.command.Command.TheVariants.{Begin, Super, Pick, Do, Commit, Abandon, Create, Destroy, Prune, Restrict}
use Rattle.script_text.specs.declared.command.FileName.{FileName}
use Rattle.script_text.specs.declared.reply.LineRefusal.TheVariants.{DeniedTwice}
use Rattle.script_text.specs.declared.script.Line.{Line}
use Rattle.script_text.specs.declared.script.Mode.{Mode}
use Rattle.service_model.specs.declared.journal.What.TheVariants.{Began}
use Rattle.service_model.specs.declared.named.Named.{Named}
use Rattle.tree_model.specs.States.{State, Version}
use Rattle.service_model.specs.Standing.{Scripts, Standing, Client, Update, Work, client_of, next_line, versions_of, serial_of, locked_by}
use Rattle.service_model.specs.Causes.{cause_of, object_of, first_cause, has_twice, open_cause, denied_cause, locked_cause, reading, when}
use Rattle.service_model.specs.Entries.{after_what, noting, opened, work_on, names_of}
use Rattle.service_model.specs.Legal.{IsLawfulWhat, IsOpening}
use Rattle.service_model.specs.Sound.{IsSound, IsSoundUpdate, IsBased, IsKnown, IsOpenAt, IsSayable, IsTreeStep, AreApart, AreLast, is_holding, is_starting}
use Rattle.service_model.proofs.Causes.{first_none, not_when, none_of_all, live_by_name, not_locked, lock_held}
use Rattle.service_model.proofs.Entering.{client_in, noted_clients, noted_line, other_more, same_upkeep}
use Rattle.service_model.proofs.Members.{front_or_rest, none_in, from_mapped, in_mapped, same_member, from_any}
use Rattle.service_model.proofs.Sound.{step_sound}
use Rattle.service_model.proofs.Versions.{IsLiveAt, live_at, live_serial, live_tree, last_kept, not_later}

-- ---- what the causes tell

-- each file that is named is granted
names_granted : (s : Standing) (k : ℕ) (command : Command) (name : FileName) → IsOpening command → cause_of s k command ≡ None
    → Contains (names_of command) name → denied_cause s.state reading name ≡ None
names_granted s k (Begin file) name is none h = by (front_or_rest file [] name h)
  where
    by : (file ≡ name) ⊎ Contains [] name → denied_cause s.state reading name ≡ None
    by (inl same) =
        ap (denied_cause s.state reading) (sym same)
        ∙ (first_none (denied_cause s.state reading file) []
        (first_none (open_cause (client_of s k)) (denied_cause s.state reading file ∷ []) none).1).0
    by (inr rest) = absurd (none_in name rest)
names_granted s k (Super files) name is none h =
    let denied = first_cause (map (denied_cause s.state reading) files) in
    let twice = when (has_twice (map object_of files)) DeniedTwice in
    let locked = locked_cause s k (map object_of files) in
    let first = first_none (open_cause (client_of s k)) (denied ∷ twice ∷ locked ∷ []) none in
    let second = first_none denied (twice ∷ locked ∷ []) first.1 in
    none_of_all (denied_cause s.state reading) files name second.0 h
names_granted s k (Pick place) name is none h = absurd is
names_granted s k (Do step) name is none h = absurd is
names_granted s k Commit name is none h = absurd is
names_granted s k Abandon name is none h = absurd is
names_granted s k Create name is none h = absurd is
names_granted s k (Destroy file) name is none h = absurd is
names_granted s k (Prune file keep) name is none h = absurd is
names_granted s k (Restrict file mask) name is none h = absurd is

objects_of : (state : State) (names : List FileName) → map (λ (w : Work). w.object) (map (work_on state) names) ≡ map object_of names
objects_of state [] = refl
objects_of state (name ∷ names) = ap (λ l. object_of name ∷ l) (objects_of state names)

-- no two files that are named are one, some file is named, and none of several is locked by another client
record Names (s : Standing) (k : ℕ) (command : Command) : Type 0 where
  differ : has_twice (map object_of (names_of command)) ≡ false
  some : 0 < length (names_of command)
  free : (opened s.state command).is_super ≡ true → (object : ℕ) → Contains (map object_of (names_of command)) object → locked_by s k object ≡ None

some_named : (files : List FileName) → files ≢ [] → 0 < length files
some_named [] ne = absurd (ne refl)
some_named (file ∷ files) ne = omega arith

names_are : (s : Standing) (k : ℕ) (command : Command) → IsOpening command → IsSayable command → cause_of s k command ≡ None → Names s k command
names_are s k (Begin file) is says none = record {
  differ = refl;
  some = omega arith;
  free = λ super object h. (let no : true ≡ false = sym super in absurd (cc no));
}
names_are s k (Super files) is says none =
    let denied = first_cause (map (denied_cause s.state reading) files) in
    let twice = when (has_twice (map object_of files)) DeniedTwice in
    let locked = locked_cause s k (map object_of files) in
    let first = first_none (open_cause (client_of s k)) (denied ∷ twice ∷ locked ∷ []) none in
    let second = first_none denied (twice ∷ locked ∷ []) first.1 in
    let third = first_none twice (locked ∷ []) second.1 in
    let fourth = first_none locked [] third.1 in
    record {
      differ = not_when (has_twice (map object_of files)) DeniedTwice third.0;
      some = some_named files says;
      free = λ super object h. not_locked s k (map object_of files) object fourth.0 h;
    }
names_are s k (Pick place) is says none = absurd is
names_are s k (Do step) is says none = absurd is
names_are s k Commit is says none = absurd is
names_are s k Abandon is says none = absurd is
names_are s k Create is says none = absurd is
names_are s k (Destroy file) is says none = absurd is
names_are s k (Prune file keep) is says none = absurd is
names_are s k (Restrict file mask) is says none = absurd is

no_steps : (state : State) (names : List FileName) → sum_by (λ (w : Work). length w.steps) (map (work_on state) names) ≡ 0
no_steps state [] = refl
no_steps state (name ∷ names) =
    let rest = no_steps state names in
    let all = sum_by-cons (λ (w : Work). length w.steps) (work_on state name) (map (work_on state) names) in
    let none : length (work_on state name).steps ≡ 0 = refl in
    omega (arith, rest, all, none)

-- ---- the update

module _ (scripts : Scripts) (s : Standing) (k : ℕ) (command : Command) (sound : IsSound scripts s) (is : IsOpening command)
    (says : IsSayable command) (none : cause_of s k command ≡ None) where
  live : (name : FileName) → Contains (names_of command) name → IsLiveAt s.state (object_of name)
  live name h =
      let kept = live_by_name s.state reading name (names_granted s k command name is none h) in
      live_at s.state (object_of name) kept.0 sound.state kept.1

  -- what is so of each file that is named is so of each file of the update
  each : (P : Work → Type 0) → ((name : FileName) → Contains (names_of command) name → P (work_on s.state name))
      → (w : Work) → Contains (opened s.state command).works w → P w
  each P named w h =
      let from = from_mapped (work_on s.state) (names_of command) w h in
      subst P from.2 (named from.0 from.1)

  based : (w : Work) → Contains (opened s.state command).works w → IsBased s.state w
  based = each (λ w. IsBased s.state w) (λ name h. (let l = live name h in record {
    version = l.last;
    kept = last_kept s.state (object_of name) l;
    serial = sym (live_serial s.state (object_of name) l);
    tree = sym (live_tree s.state (object_of name) l);
    steps = All-nil IsTreeStep;
  }))

  none_later : (w : Work) → Contains (opened s.state command).works w → (v : Version) → Contains (versions_of s.state w.object) v
      → w.serial < v.serial → IsKnown s.state s.made w.object v
  none_later = each (λ w. (v : Version) → Contains (versions_of s.state w.object) v → w.serial < v.serial → IsKnown s.state s.made w.object v)
      (λ name h v kept later. absurd (
      let low : v.serial ≤ serial_of s.state (object_of name) = not_later s.state (object_of name) (live name h) v kept in
      let after : serial_of s.state (object_of name) < v.serial = later in
      omega (arith, low, after)))

  pub opened_sound : IsSoundUpdate s.state s.made (opened s.state command)
  opened_sound = record {
    based = based;
    later = none_later;
    few = (let zero_steps = no_steps s.state (names_of command) in omega (arith, zero_steps));
    picked = (let many = length-map (names_of command) (work_on s.state) in let some = (names_are s k command is says none).some in
        omega (arith, many, some));
    differ = ap has_twice (objects_of s.state (names_of command)) ∙ (names_are s k command is says none).differ;
  }

  opened_last : AreLast s.state (opened s.state command)
  opened_last = each (λ w. w.serial ≡ serial_of s.state w.object) (λ name h. refl)

  opened_apart : (j : ℕ) (v : Update) → 1 ≤ j → j ≢ k → IsOpenAt s j v → AreApart (opened s.state command) v
  opened_apart j v d ne other = λ object su sv hu hv.
      let found = from_any (λ (w : Work). w.object == object) (opened s.state command).works hu in
      let same : found.0.object ≡ object = eqb-true found.0.object object found.2 in
      let listed : Contains (map (λ (w : Work). w.object) (opened s.state command).works) object
      = same_member (map (λ (w : Work). w.object) (opened s.state command).works) found.0.object object same
      (in_mapped (λ (w : Work). w.object) (opened s.state command).works found.0 found.1) in
      let F : List ℕ → Type 0 = λ l. Contains l object in
      let named : Contains (map object_of (names_of command)) object = subst F (objects_of s.state (names_of command)) listed in
      lock_held s k object ((names_are s k command is says none).free su object named) j v d ne other sv hv

-- ---- the entry

module _ (mode : Mode) (scripts : Scripts) (s : Standing) (k : ℕ) (own : Line) (bases : List Named) (a : 1 ≤ k) (b : k ≤ length s.clients)
    (sound : IsSound scripts s) (next : next_line scripts s k ≡ Some own) (says : IsSayable own.command)
    (lawful : IsLawfulWhat mode s k own.command (Began bases)) where
  abbrev opener : Client
  opener = record (client_of s k) { update = Some (opened s.state own.command) }

  abbrev beginner : Client
  beginner = noting (Began bases) opener

  abbrev begun : Standing
  begun = after_what mode s k own.command (Began bases)

  clients : begun.clients ≡ slice_set s.clients (k - 1) beginner
  clients = noted_clients s k opener (Began bases) a b

  of_opened : (P : Update → Type 0) (u : Update) → Some (opened s.state own.command) ≡ Some u → P (opened s.state own.command) → P u
  of_opened P u e h = (let same : opened s.state own.command ≡ u = cc e in subst P same h)

  -- what stands stays sound where an update is opened
  pub began_keeps : IsSound scripts begun
  began_keeps =
      step_sound scripts s begun k beginner a b sound (record {
        clients = clients;
        latest = refl;
        state = sound.state;
        counted = sound.counted;
        low = sound.low;
        others = λ j u d ne h. sound.updates j u d h;
        others_last = λ j u d ne h super last. last;
        own = λ u e. of_opened (λ x. IsSoundUpdate s.state s.made x) u e (opened_sound scripts s k own.command sound lawful.0 says lawful.2);
        own_last = λ u e super none. of_opened (λ x. AreLast s.state x) u e (opened_last scripts s k own.command sound lawful.0 says lawful.2);
        own_alone = λ j u v d ne e other. of_opened (λ x. AreApart x v) u e
            (opened_apart scripts s k own.command sound lawful.0 says lawful.2 j v d ne other);
        own_held = λ e. sound.held k a (ap is_holding lawful.1);
        upkeep = same_upkeep scripts s k beginner a b sound (other_more is_starting (client_of s k).noted (Began bases) refl);
        grows = λ j d ne h object. omega arith;
        bases = λ u w e h. inr (of_opened (λ x. AreLast s.state x) u e (opened_last scripts s k own.command sound lawful.0 says lawful.2) w h);
        line = noted_line scripts s begun k beginner (Began bases) own next (client_in s begun k beginner clients a b) refl refl refl
            (λ e. (let no : true ≡ false = sym e in absurd (cc no))) (sound.lines k own a next);
      })
