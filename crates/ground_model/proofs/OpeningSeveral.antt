-- The line that opens an update of several files.
use Rattle.std.proofs.Common.{◌≡◌, ◌≢◌, ℕ, zero, suc, ◌≤◌, Bool, true, false, ◌||◌, ◌==◌, cond, List, [], ◌∷◌, ◌++◌, map, length, Option, Some, None, Ok, Err, is_some, refl, sym, ap, ◌∙◌, subst, arith, slice_get}
use Rattle.std.specs.List.{list_any}
use Rattle.std.proofs.lemmas.List.{length-map}
use Rattle.caps.specs.declared.denied.DeniedWhy.TheVariants.{NoObject}
use Rattle.pair_store.specs.declared.store.Blocks.{Ghosts}
use Rattle.script_text.specs.declared.command.Command.{Command}
use Rattle.script_text.specs.declared.command.Command.TheVariants.{Super}
use Rattle.script_text.specs.declared.command.FileName.{FileName}
use Rattle.script_text.specs.declared.command.FileName.TheVariants.{Cap, Number}
use Rattle.script_text.specs.declared.reply.LineRefusal.{LineRefusal}
use Rattle.script_text.specs.declared.reply.LineRefusal.TheVariants.{Denied, DeniedTwice, Open}
use Rattle.script_text.specs.declared.reply.LineReply.TheVariants as reply
use Rattle.script_text.specs.declared.script.Line.{Line}
use Rattle.service_model.specs.declared.journal.Entry.{Entry}
use Rattle.service_model.specs.declared.journal.What.{What}
use Rattle.service_model.specs.declared.journal.What.TheVariants.{Answered, Began}
use Rattle.service_model.specs.declared.named.Named.{Named}
use Rattle.service_model.specs.Causes.{cause_of, denial, denied_cause, first_cause, has_twice, locked_cause, object_of, reading, when}
use Rattle.service_model.specs.Entries.{after_entries, bases_of, mode_of, opened, work_on}
use Rattle.service_model.specs.Legal.{IsOpening}
use Rattle.service_model.specs.Replies.{reply_after, reply_at}
use Rattle.service_model.specs.Sound.{is_committing}
use Rattle.service_model.specs.Standing.{Scripts, Standing, Client, Update, Work, client_of, lines_of, seal_in}
use Rattle.service_model.proofs.Members.{from_place}
use Rattle.store_changes.specs.Writes.{Content}
use Rattle.store_model.specs.Found.{version_in}
use Rattle.store_model.specs.Laws.{pages_of}
use Rattle.store_model.proofs.Edits.{none_some, some_is}
use Rattle.store_model.proofs.Held.{versions_are_held}
use Rattle.page_places.specs.Places.{Holds}
use Rattle.draft_model.specs.Stands.{StandsFor}
use Rattle.tree_model.specs.States.{State}
use Rattle.tree_model.specs.Trees.{Tree}
use Rattle.tree_model.specs.declared.step.Step.{Step}
use Rattle.ground_model.specs.Causes.{name_cause}
use Rattle.ground_model.specs.Lines.{Becomes, IsAt, Notes, answering, in_line}
use Rattle.ground_model.specs.OpeningSeveral.{BaseBeginsDraft, BasesAreLeft, BasesBegin, BasesStay, CauseOfSuper, IsOpeningSeveral, IsToldAt, OpeningIsLeft, SuperAnswers, SuperBegins, SuperHasFiles, SuperIsAnswered, SuperIsNoted, SuperReads, WorkBegins, began, names_cause, super_entry}
use Rattle.ground_model.specs.Own.{IsBase}
use Rattle.ground_model.specs.Scenes.{IsLinking}
use Rattle.ground_model.specs.Noted.{IsNow}
use Rattle.ground_model.proofs.Ahead.{base_is_left, base_stays}
use Rattle.ground_model.proofs.HeadsTold.{heads_tell}
use Rattle.ground_model.proofs.HeldWrites.{version_of}
use Rattle.ground_model.proofs.Lines.{answer_notes, began_becomes, noted_after, noted_lawful}
use Rattle.ground_model.proofs.LineKinds.{same_update}
use Rattle.ground_model.proofs.LineTurns.{read_turn_stands, uncommitted_sets_none}
use Rattle.ground_model.proofs.Noted.{notes_rest, notes_show, untimed_are_of_turn}
use Rattle.ground_model.proofs.QuietTurns.{quiet_turn_stands}

-- ---- causes

-- why one name is refused
name_is : (state : State) (file : FileName) → denied_cause state reading file ≡ name_cause (seal_in state (object_of file)) file
name_is state (Number object) = by (is_some (seal_in state object))
  where
    by : (b : Bool) → denial (cond b (Ok object) (Err NoObject)) ≡ cond b None (Some (Denied (record { why = NoObject })))
    by true = refl
    by false = refl
name_is state (Cap cap) = refl

names_are : (state : State) (files : List FileName) → map (denied_cause state reading) files ≡ map (λ file. name_cause (seal_in state (object_of file)) file) files
names_are state [] = refl
names_are state (file ∷ files) =
    ap (λ c. c ∷ map (denied_cause state reading) files) (name_is state file)
    ∙ ap (λ cs. name_cause (seal_in state (object_of file)) file ∷ cs) (names_are state files)

pub cause_of_super : CauseOfSuper
cause_of_super s k files =
    ap (λ cs. first_cause (when (is_some (client_of s k).update) Open ∷ first_cause cs ∷ when (has_twice (map object_of files)) DeniedTwice ∷ locked_cause s k (map object_of files) ∷ []))
    (names_are s.state files)
    ∙ by (is_some (client_of s k).update)
    (first_cause (map (λ file. name_cause (seal_in s.state (object_of file)) file) files) ∷ when (has_twice (map object_of files)) DeniedTwice ∷ locked_cause s k (map object_of files) ∷ [])
  where
    by : (b : Bool) (others : List (Option LineRefusal)) → first_cause (when b Open ∷ others) ≡ cond b (Some Open) (first_cause others)
    by true others = refl
    by false others = refl

-- ---- its files

has_named : (state : State) (files : List FileName) (object : ℕ) → list_any (λ (w : Work). w.object == object) (map (work_on state) files) ≡ list_any (λ file. object_of file == object) files
has_named state [] object = refl
has_named state (file ∷ files) object = ap (λ b. (object_of file == object) || b) (has_named state files object)

pub super_has_files : SuperHasFiles
super_has_files state files object = (refl, refl, has_named state files object)

-- ---- entries

module _ (scripts : Scripts) (s : Standing) (k : ℕ) (line : Line) (files : List FileName) (at : IsAt scripts s k line) (is : line.command ≡ Super files) (none : cause_of s k line.command ≡ None) where
  abbrev bases : List Named
  bases = bases_of (opened s.state line.command)

  pub super_notes : Notes scripts s k (in_line k line (Began bases) ∷ []) (began (client_of s k) (opened s.state line.command))
  super_notes = record {
    legal = (
      noted_lawful scripts s k line (Began bases) (record {
        client = at.resting.client;
        next = at.next;
        lawful = ((let F : Command → Type 0 = λ x. IsOpening x in subst F (sym is) tt), at.resting.fresh, none, refl);
      }),
      tt,
    );
    becomes =
        let F : Standing → Type 0 = λ t. Becomes k (began (client_of s k) (opened s.state line.command)) s t in
        subst F (sym (noted_after scripts s k line (Began bases) at.next)) (began_becomes (mode_of scripts k) s k line.command at.resting.client bases);
  }

pub super_is_noted : SuperIsNoted
super_is_noted scripts s k line files at is none = super_notes scripts s k line files at is none

pub super_is_answered : SuperIsAnswered
super_is_answered scripts s k line u o =
    same_update scripts s k (in_line k line Answered ∷ []) (reply.Base (map (λ (n : Named). n.serial) (bases_of u))) (client_of s k).update (Some u) o.is_open
    (answer_notes scripts s k line o.client o.next o.idle (Some Open) (reply.Base (map (λ (n : Named). n.serial) (bases_of u))) why told)
  where
    why : cause_of s k line.command ≡ Some Open
    why =
        ap (cause_of s k) o.command ∙ cause_of_super s k o.files
        ∙ ap
        (λ (v : Option Update).
        cond (is_some v) (Some Open)
        (first_cause (names_cause s.state o.files ∷ when (has_twice (map object_of o.files)) DeniedTwice ∷ locked_cause s k (map object_of o.files) ∷ [])))
        o.is_open

    told : reply_at (mode_of scripts k) s k line.command ≡ Some (reply.Base (map (λ (n : Named). n.serial) (bases_of u)))
    told = ap (λ (ns : List What). reply_after (mode_of scripts k) s k line.command ns) o.noted

-- ---- version pages

pub work_begins : WorkBegins
work_begins scene heads file head w shared are low told is =
    let h = heads_tell scene heads (object_of file) head shared are low told in
    let F : Work → Type 0 = λ x. IsBase scene x.object x.serial head.block x.base in
    subst F (sym is) (subst (λ n. IsBase scene (object_of file) n head.block (work_on scene.standing.state file).base) h.serial h.base)

pub base_begins_draft : BaseBeginsDraft
base_begins_draft scene w root page d shared base none here begins = record {
  base = base;
  stands =
      let F : List Step → Type 0 = λ steps. StandsFor (pages_of scene.content) root w.base steps d in
      subst F (sym none) (begins (pages_of scene.content) w.base holds here);
}
  where
    holds : Holds (pages_of scene.content) root w.base
    holds =
        let F : ℕ → Tree → Type 0 = λ n t. Holds (pages_of scene.content) n t in
        subst (λ t. F root t) base.tree_is (subst (λ n. F n (version_in base.version).tree) base.block_is
        (versions_are_held scene.content scene.most scene.store scene.places shared.laid base.version (version_of scene.store w.object base.version base.is)))

-- the file of a work that is begun
work_of : (state : State) (files : List FileName) (i : ℕ) (w : Work) → slice_get (map (work_on state) files) i ≡ Some w → (file : FileName) × (slice_get files i ≡ Some file) × (w ≡ work_on state file)
work_of state [] i w e = none_some e
work_of state (file ∷ files) zero w e = (file, refl, sym (some_is e))
work_of state (file ∷ files) (suc i) w e = work_of state files i w e

pub bases_begin : BasesBegin
bases_begin scene heads files roots shared are count told = record {
  count = count ∙ sym (length-map files (work_on scene.standing.state));
  each = λ i w root here at.
      let f = work_of scene.standing.state files i w here in
      let t : IsToldAt heads f.0 root = told i f.0 root f.1 at in
      subst (λ n. IsBase scene w.object w.serial n w.base) t.block (work_begins scene heads f.0 t.head w shared are t.counts t.told f.2);
}

pub bases_stay : BasesStay
bases_stay old new u roots keeps h = record {
  count = h.count;
  each = λ i w root here at. base_stays old new w.object w.serial root w.base keeps (h.each i w root here at);
}

pub bases_are_left : BasesAreLeft
bases_are_left k old new u roots low leaves is_open h = record {
  count = h.count;
  each = λ i w root here at.
      base_is_left k old new w w.serial root w.base leaves
      (record { update = u; number = low; is_open = is_open; listed = from_place u.works w i here }) (omega arith) (h.each i w root here at);
}

pub opening_is_left : OpeningIsLeft
opening_is_left scripts k old new line u leaves o = record {
  client = record { low = o.client.low; high = subst (λ n. k ≤ n) (sym leaves.clients) o.client.high };
  next = ap (λ (c : Client). slice_get (lines_of scripts k) (length c.answers)) leaves.client ∙ o.next;
  files = o.files;
  command = o.command;
  is_open = ap (λ (c : Client). c.update) leaves.client ∙ o.is_open;
  several = o.several;
  noted = ap (λ (c : Client). c.noted) leaves.client ∙ o.noted;
  held = ap (λ (c : Client). c.held) leaves.client ∙ o.held;
  idle = λ up is mine. o.idle up ((leaves.upkeep up mine).1 is) mine;
}

-- ---- turns

module _ (scripts : Scripts) (s : Standing) (k : ℕ) (line : Line) (files : List FileName) (at : IsAt scripts s k line) (is : line.command ≡ Super files) (none : cause_of s k line.command ≡ None) where
  abbrev u : Update
  u = opened s.state line.command

  abbrev begins : Entry
  begins = in_line k line (Began (bases_of u))

  now : IsNow scripts (after_entries scripts s (begins ∷ [])) k (began (client_of s k) u)
  now = notes_show scripts s k (begins ∷ []) (began (client_of s k) u) at.resting.client (super_notes scripts s k line files at is none)

  -- the line is under way
  pub opening_now : IsOpeningSeveral scripts (after_entries scripts s (begins ∷ [])) k line u
  opening_now = record {
    client = now.client;
    next = now.next ∙ at.next;
    files = files;
    command = is;
    is_open = ap (λ (c : Client). c.update) now.own;
    several = ap (λ (c : Command). (opened s.state c).is_super) is;
    noted = ap (λ (c : Client). c.noted) now.own ∙ ap (λ (ns : List What). ns ++ Began (bases_of u) ∷ []) at.resting.fresh;
    held = ap (λ (c : Client). c.held) now.own ∙ at.resting.held;
    idle = λ up e. at.resting.idle up (sym (super_notes scripts s k line files at is none).becomes.upkeep ∙ e);
  }

  -- nothing is committed before
  pub none_set : (object : ℕ) (l : IsLinking s object) → l.client ≢ k
  none_set = uncommitted_sets_none s k (ap (list_any is_committing) at.resting.fresh)

opening_sets_none : (scripts : Scripts) (s : Standing) (k : ℕ) (line : Line) (u : Update) → IsOpeningSeveral scripts s k line u → (object : ℕ) (l : IsLinking s object) → l.client ≢ k
opening_sets_none scripts s k line u o = uncommitted_sets_none s k (ap (list_any is_committing) o.noted)

module _ {D : Type 0} (b : Ghosts D) (settled_left : (s : D) (n : ℕ) (f : Content) → b.settled_always s n → b.may_leave s (b.moment s) f → f n ≡ b.content s n) where
  pub super_begins : SuperBegins b
  super_begins opening scripts first k scene before after es line files st at is none read =
      let both =
      quiet_turn_stands b settled_left opening scripts first k scene before after es (super_entry scene.standing k line ∷ []) (began (client_of scene.standing k) (opened scene.standing.state line.command)) st (record {
        client = at.resting.client;
        notes = super_notes scripts scene.standing k line files at is none;
        held = refl;
        links = none_set scripts scene.standing k line files at is none;
        read = read;
        moments = untimed_are_of_turn (b.moment after) (super_entry scene.standing k line ∷ []) refl;
      }) in (
        both.0,
        record {
          leads = both.1;
          own = (now scripts scene.standing k line files at is none).own;
          opening = opening_now scripts scene.standing k line files at is none;
        },
      )

  pub super_reads : SuperReads b
  super_reads opening scripts first k scene before after es line u st o read =
      read_turn_stands b settled_left opening scripts first k scene before after es st o.client (opening_sets_none scripts scene.standing k line u o) read

  pub super_answers : SuperAnswers b
  super_answers opening scripts first k scene before after es line u st o read =
      let told : Client = answering (client_of scene.standing k) (reply.Base (map (λ (n : Named). n.serial) (bases_of u))) (Some u) in
      let notes : Notes scripts scene.standing k (in_line k line Answered ∷ []) told = super_is_answered scripts scene.standing k line u o in
      let both =
      quiet_turn_stands b settled_left opening scripts first k scene before after es (in_line k line Answered ∷ []) told st (record {
        client = o.client;
        notes = notes;
        held = refl;
        links = opening_sets_none scripts scene.standing k line u o;
        read = read;
        moments = untimed_are_of_turn (b.moment after) (in_line k line Answered ∷ []) refl;
      }) in (
        both.0,
        record {
          leads = both.1;
          own = (notes_show scripts scene.standing k (in_line k line Answered ∷ []) told o.client notes).own;
          resting = notes_rest scripts scene.standing k (in_line k line Answered ∷ []) told o.client notes refl o.held o.idle;
        },
      )
