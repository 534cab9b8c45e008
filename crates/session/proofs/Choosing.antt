-- How a commit goes on: it is refused, it is behind, or it is decided; and how it begins.
use Rattle.std.proofs.Common.{◌≡◌, ◌≢◌, ◌⊎◌, inl, inr, ℕ, zero, suc, ◌-◌, ◌<◌, ◌≤◌, Bool, true, List, [], ◌∷◌, length, Option, Some, None, option_map, refl, sym, ap, ◌∙◌, subst, arith, slice_get, get_or}
use Rattle.std.specs.Prelude.{All, if◌then◌else◌, is_none}
use Rattle.std.proofs.lemmas.Option.{slice_get-map, slice_get_cases, slice_get_within}
use Rattle.afs_base.specs.declared.head.Head.{Head}
use Rattle.afs_base.specs.declared.kind.Kind.{Kind}
use Rattle.draft_model.specs.Told.{TellsWrites}
use Rattle.pair_store.specs.declared.store.Blocks.{Ghosts}
use Rattle.pool_draft.specs.Sets.{picked_of, view_at}
use Rattle.recovery.specs.Opening.{head_of}
use Rattle.script_text.specs.ScriptValue.{ScriptValue}
use Rattle.script_text.specs.declared.command.Command.TheVariants.{Commit, Do}
use Rattle.script_text.specs.declared.reply.LineRefusal.TheVariants.{Idle}
use Rattle.script_text.specs.declared.script.Line.{Line}
use Rattle.service_model.specs.Causes.{cause_of}
use Rattle.service_model.specs.Legal.{IsFirstClash}
use Rattle.service_model.specs.Standing.{Scripts, Update, Work, client_of, locked_by, serial_of as last_serial}
use Rattle.service_model.specs.declared.journal.Refusal.TheVariants.{Conflict, Locked}
use Rattle.store_check.specs.Files.{first_serial, kept_by}
use Rattle.store_model.specs.Laid.{LaidFile, LaidVersion}
use Rattle.store_model.proofs.Edits.{some_is}
use Rattle.tree_model.specs.Accesses.{Place}
use Rattle.tree_model.specs.States.{State}
use Rattle.ground_model.specs.Own.{HasMerged, IsBase}
use Rattle.ground_model.specs.Scenes.{Scene}
use Rattle.ground_model.proofs.Ahead.{base_low}
use Rattle.ground_model.proofs.Causes.{cause_of_commit}
use Rattle.ground_model.proofs.CommitFacts.{writes_are_told}
use Rattle.ground_model.proofs.Drafting.{merge_begins}
use Rattle.ground_model.proofs.HeadsTold.{heads_tell}
use Rattle.session.specs.Answers.{IsAtCommand, IsCaused, IsRefusing}
use Rattle.session.specs.Calls.{IsIn, IsLost, IsReady}
use Rattle.session.specs.Names.{HasNoHead, IsHead}
use Rattle.session.specs.Own.{HasFed, IsAtRest, IsBehind, IsClashing, IsCommitting, IsDeciding, IsMerged, IsMergedIn, IsTaken, IsUnlocked, OwnsUpdate}
use Rattle.session.specs.Safe.{AreSafeDrafts, drafts_of, object_of, root_of, serial_of, view_of}
use Rattle.session.specs.declared.common.Common.{Common}
use Rattle.session.specs.declared.course.Course.{Course}
use Rattle.session.proofs.Deciding.{run_sound}
use Rattle.session.proofs.Emptying.{has_open}
use Rattle.session.proofs.Locking.{locked_by_holder}
use Rattle.session.proofs.Owned.{Owns}
use Rattle.session.proofs.Refusing.{may_refuse}
use Rattle.session.proofs.Staying.{unlocked_is}
use Rattle.super_files.specs.Locks.{Holds, IsOpenTo}

-- ---- locks

-- another client holds a lock of the draft's file
pub holder_refuses : {D : Type 0} (b : Ghosts D) (script : ScriptValue) (c : Common D) (s : Course) (by : ℕ) → 1 ≤ by → by ≢ s.client → Holds by (object_of s) c.locks
    → Owns b IsCommitting (IsRefusing (Locked by)) script c s
holder_refuses b script c s by low ne holds opening scripts first scene is =
    let co = is.mine.committing in
    may_refuse scripts scene script s is.mine.update is.mine.work co (Locked by)
    (locked_by_holder scripts scene.standing s.client by is.mine.work.object c.locks (run_sound b opening scripts first scene c is.stands) is.stands.locks low ne
    (subst (λ n. Holds by n c.locks) co.plain.object holds)) tt

merged_commits : (scripts : Scripts) (scene : Scene) (script : ScriptValue) (s : Course) → IsMerged scripts scene script s → IsCommitting scripts scene script s
merged_commits scripts scene script s m = record { update = m.update; work = m.work; committing = m.committing }

clashing_commits : (x : Place) (scripts : Scripts) (scene : Scene) (script : ScriptValue) (s : Course) → IsClashing x scripts scene script s → IsCommitting scripts scene script s
clashing_commits x scripts scene script s h = record { update = h.update; work = h.work; committing = h.committing }

pub merged_owns : {D : Type 0} (b : Ghosts D) (script : ScriptValue) (c : Common D) (s : Course) → Owns b IsMerged IsCommitting script c s
merged_owns b script c s opening scripts first scene is = merged_commits scripts scene script s is.mine

pub clashing_owns : {D : Type 0} (b : Ghosts D) (x : Place) (script : ScriptValue) (c : Common D) (s : Course) → Owns b (IsClashing x) IsCommitting script c s
clashing_owns b x script c s opening scripts first scene is = clashing_commits x scripts scene script s is.mine

-- ---- what is told of the file

abbrev told_by : List LaidVersion → LaidVersion → Head
told_by versions last = record { block = last.block; first = first_serial versions; serial = last.serial; kept = kept_by versions }

-- a file with a version has a last one
some_head : (versions : List LaidVersion) (place : ℕ) (v : LaidVersion) → slice_get versions place ≡ Some v → (head : Head) × (head_of versions ≡ Some head)
some_head versions place v at = by (slice_get_cases versions (length versions - 1)).1
  where
    by : ((x : LaidVersion) × (length versions - 1 < length versions) × (slice_get versions (length versions - 1) ≡ Some x) × (get_or versions (length versions - 1) x ≡ x))
        ⊎ ((length versions ≤ length versions - 1) × (slice_get versions (length versions - 1) ≡ None)) → (head : Head) × (head_of versions ≡ Some head)
    by (inl (x, low, is, same)) = (told_by versions x, ap (option_map (told_by versions)) is)
    by (inr (high, none)) = absurd (let within = slice_get_within versions place v at in omega (arith, within, high))

module _ {D : Type 0} (b : Ghosts D) (script : ScriptValue) (c : Common D) (s : Course) where
  open_to : IsOpenTo s.client (object_of s) c.locks → (opening : State) (scripts : Scripts) (first : ℕ) (scene : Scene) → IsIn b IsMerged script c s opening scripts first scene
      → IsUnlocked scripts scene script s
  open_to free opening scripts first scene is = record {
    merged = is.mine;
    unlocked =
        unlocked_is scene.standing s.client is.mine.work.object c.locks is.stands.locks
        (subst (λ n. IsOpenTo s.client n c.locks) is.mine.committing.plain.object free);
  }

  head_is : (head : Head) → IsHead c.heads.items (object_of s) head → (opening : State) (scripts : Scripts) (first : ℕ) (scene : Scene) (is : IsIn b IsMerged script c s opening scripts first scene)
      → head.serial ≡ last_serial scene.standing.state is.mine.work.object
  head_is head told opening scripts first scene is =
      (heads_tell scene c.heads.items (object_of s) head is.stands.stands.shared is.stands.heads told.0 told.1).serial
      ∙ ap (last_serial scene.standing.state) is.mine.committing.plain.object

  -- there is a later version
  pub behind_owns : IsOpenTo s.client (object_of s) c.locks → (head : Head) → IsHead c.heads.items (object_of s) head → serial_of s < head.serial → Owns b IsMerged IsBehind script c s
  unfolding open_to
  behind_owns free head told less opening scripts first scene is = record {
    open_to = open_to free opening scripts first scene is;
    later = subst (λ n. serial_of s < n) (head_is head told opening scripts first scene is) less;
  }

  -- there is none
  pub deciding_owns : IsOpenTo s.client (object_of s) c.locks → (head : Head) → IsHead c.heads.items (object_of s) head → head.serial ≤ serial_of s → Owns b IsMerged IsDeciding script c s
  unfolding open_to
  deciding_owns free head told most opening scripts first scene is = record {
    open_to = open_to free opening scripts first scene is;
    last =
        let e = head_is head told opening scripts first scene is in
        let low = base_low scene is.mine.work.object (serial_of s) (root_of s) is.mine.tree is.stands.stands.shared is.mine.merged.base in
        omega (arith, e, low, most);
  }

  -- something is told of a file that has versions
  pub none_told : {more : ℕ} → HasNoHead c.heads.items (object_of s) → IsLost b (IsMergedIn more) script c s
  none_told none opening scripts first scene is =
      let base : IsBase scene is.mine.work.object (serial_of s) (root_of s) is.mine.tree = is.mine.merged.base in
      let object_is : object_of s ≡ is.mine.work.object = is.mine.committing.plain.object in
      let head = some_head base.is.file.versions base.is.place base.version base.is.kept in
      let low = base.is.counts in
      none head.0 (
        omega (arith, low, object_is),
        ap (λ n. slice_get c.heads.items (n - 1)) object_is
            ∙ ap (λ (hs : List (Option Head)). slice_get hs (is.mine.work.object - 1)) is.stands.heads
            ∙ slice_get-map (λ (f : LaidFile). head_of f.versions) scene.store.files (is.mine.work.object - 1)
            ∙ ap (option_map (λ (f : LaidFile). head_of f.versions)) base.is.listed ∙ ap Some head.1,
      )

-- ---- a clash

-- a clash refuses the commit, where no other client has the file locked
pub conflict_refuses : {D : Type 0} (b : Ghosts D) (script : ScriptValue) (c : Common D) (s : Course) (path : List ℕ) (kind : Kind) (serial : ℕ) → serial ≡ serial_of s
    → IsOpenTo s.client (object_of s) c.locks → Owns b (IsClashing (path, kind)) (IsRefusing (Conflict serial path kind)) script c s
conflict_refuses b script c s path kind serial serial_is free opening scripts first scene is =
    may_refuse scripts scene script s is.mine.update is.mine.work is.mine.committing (Conflict serial path kind)
    (subst (λ n. IsFirstClash scene.standing.made is.mine.work n (path, kind)) (sym serial_is) is.mine.clash)
    (λ plain. subst (λ (ws : List Work). All (λ (x : Work). locked_by scene.standing s.client x.object ≡ None) ws) (sym is.mine.committing.plain.works) one)
  where
    one : All (λ (x : Work). locked_by scene.standing s.client x.object ≡ None) (is.mine.work ∷ [])
    one zero d low =
        unlocked_is scene.standing s.client is.mine.work.object c.locks is.stands.locks
        (subst (λ n. IsOpenTo s.client n c.locks) is.mine.committing.plain.object free)
    one (suc k) d low = absurd (omega (arith, low))

-- ---- the beginning

-- no update is open where there is no draft
pub idle_cause : {D : Type 0} (b : Ghosts D) (script : ScriptValue) (c : Common D) (s : Course) → IsAtCommand script s Commit → drafts_of s ≡ 0 → IsCaused b script c s Idle
idle_cause b script c s at none opening scripts first scene is line next =
    let same : at.line ≡ line = some_is (sym at.next ∙ next) in
    ap (λ (x : Line). cause_of scene.standing s.client x.command) (sym same)
    ∙ ap (cause_of scene.standing s.client) at.is ∙ cause_of_commit scene.standing s.client
    ∙ ap (λ (o : Option Update). if is_none o then Some Idle else None) (closed (client_of scene.standing s.client).update is.mine.update)
  where
    closed : (o : Option Update) → OwnsUpdate scene script s o → o ≡ None
    closed None own = refl
    closed (Some u) own = absurd (let some = own.within in omega (arith, some, none))

-- no page is fed for a line that commits
fed_none : (script : ScriptValue) (s : Course) → IsAtCommand script s Commit → HasFed script s → s.drafts.fed ≡ 0
fed_none script s at (inl none) = none
fed_none script s at (inr feeding) =
    let same : at.line ≡ feeding.line = some_is (sym at.next ∙ feeding.next) in
    let both : Commit ≡ Do feeding.step = sym at.is ∙ ap (λ (x : Line). x.command) same ∙ feeding.command in
    absurd (cc both)

-- an update in which something was written is merged with nothing, at its base
pub begins_merged : {D : Type 0} (b : Ghosts D) (script : ScriptValue) (c : Common D) (s : Course) → IsAtCommand script s Commit → drafts_of s ≡ 1 → TellsWrites (view_of s) true
    → Owns b IsAtRest IsMerged script c s
begins_merged b script c s at one wrote opening scripts first scene is =
    let mine = has_open scripts scene script s is.mine one in
    let d = mine.drafting in
    record {
      update = mine.update;
      work = d.work;
      tree = d.work.base;
      committing = record {
        seated = is.mine.seated;
        is_open = mine.is_open;
        plain = d.plain;
        line = at.line;
        next = at.next;
        command = at.is;
        writes = writes_are_told scene mine.update d.work (root_of s) (view_of s) true d.plain.works d.draft wrote;
        taken = subst (λ n. IsTaken n mine.update (client_of scene.standing s.client).noted) (sym is.mine.none) is.mine.fresh;
        held = is.mine.held ∙ sym is.mine.none;
      };
      merged = subst (λ n. HasMerged scene d.work n (root_of s) d.work.base (view_of s)) (sym d.serial) (merge_begins scene d.work (root_of s) (view_of s) d.draft);
      turns =
          let low = is.mine.turns in
          let none = fed_none script s at d.fed in
          omega (arith, low, none);
    }

-- the draft that is picked is the client's
pub writes_here : (s : Course) (told : Bool) → picked_of s.drafts ≡ 0 → (said : Bool) → said ≡ told → TellsWrites (view_at s.drafts (picked_of s.drafts)) said → TellsWrites (view_of s) told
writes_here s told picked said is tells = subst (λ n. TellsWrites (view_at s.drafts n) told) picked (subst (TellsWrites (view_at s.drafts (picked_of s.drafts))) is tells)

-- a client that is ready has one draft, or none
pub one_draft : {D : Type 0} (b : Ghosts D) (script : ScriptValue) (c : Common D) (s : Course) → IsReady b script c s → (drafts_of s ≡ 0 → ⊥) → drafts_of s ≡ 1
one_draft b script c s ready some = by (drafts_of s) ready.safe.drafts some
  where
    by : (n : ℕ) → AreSafeDrafts (b.size c.store) s.drafts n → (n ≡ 0 → ⊥) → n ≡ 1
    by zero safe not = absurd (not refl)
    by (suc zero) safe not = refl
    by (suc (suc n)) safe not = absurd safe
