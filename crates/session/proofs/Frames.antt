-- A turn of one client leaves every other one what it has of its own, and its numbers.
use Rattle.std.proofs.Common.{◌≡◌, ℕ, ◌+◌, ◌≤◌, List, [], ◌∷◌, Option, Some, None, refl, sym, ap, ◌∙◌, subst, arith}
use Rattle.std.specs.Prelude.{Contains}
use Rattle.service_model.specs.declared.journal.What.{What}
use Rattle.service_model.specs.Sound.{IsOn, IsSound}
use Rattle.service_model.specs.Standing.{Scripts, Client, Update, Work, client_of, serial_of as last_serial}
use Rattle.service_model.proofs.Keeps.{journal_sound}
use Rattle.pair_store.specs.declared.store.Blocks.{Ghosts}
use Rattle.script_text.specs.ScriptValue.{ScriptValue}
use Rattle.joint_walk.specs.Walks.{WalkValue}
use Rattle.version_chain.specs.Flush.{Plan}
use Rattle.ground_model.specs.Bounds.{turns_to}
use Rattle.ground_model.specs.Laws.{Keeps}
use Rattle.ground_model.specs.Leaves.{Leaves}
use Rattle.ground_model.specs.Own.{IsBase}
use Rattle.ground_model.specs.Scenes.{Scene, IsShared}
use Rattle.ground_model.proofs.Bounded.{turns_are_left}
use Rattle.ground_model.proofs.Ahead.{base_is_left, base_low, walk_is_left}
use Rattle.ground_model.proofs.Steps.{left_is_kept}
use Rattle.session.specs.Laws.{OwnIsLeft, SafeIsLeft}
use Rattle.session.proofs.Drafting.{slice_contains}
use Rattle.session.specs.Own.{IsAtRest, IsCommittingOf, IsDrafting, IsMergedIn, IsNaming, IsSeated, IsTaken, IsWalkingOn, IsWritingOut, OwnsStage, OwnsUpdate}
use Rattle.session.specs.Safe.{AreSafeDrafts, IsSafeStage, drafts_of, serial_of}
use Rattle.session.specs.declared.course.Course.{Course}
use Rattle.session.specs.declared.stage.Stage.{Stage}
use Rattle.session.specs.declared.stage.Stage.TheVariants.{Resting, Naming, Walking, Writing}

-- an update of one file is on it
alone_listed : (u : Update) (w : Work) → u.works ≡ w ∷ [] → Contains u.works w
alone_listed u w works = let F : List Work → Type 0 = λ ws. Contains ws w in subst F (sym works) (0, omega arith, refl)

module _ (scripts : Scripts) (old new : Scene) (script : ScriptValue) (s : Course) (leaves : Leaves s.client old new) where
  kept : Keeps s.client old new
  kept = left_is_kept s.client old new leaves

  seated_stays : IsSeated scripts old script s → IsSeated scripts new script s
  seated_stays h = record {
    client = record { low = h.client.low; high = subst (λ n. s.client ≤ n) (sym leaves.clients) h.client.high };
    its_script = h.its_script;
    answers = ap (λ (c : Client). c.answers) leaves.client ∙ h.answers;
    idle = λ up is mine. h.idle up ((leaves.upkeep up mine).1 is) mine;
  }

  -- ---- between two lines

  drafting_stays : (u : Update) → 1 ≤ s.client → (client_of old.standing s.client).update ≡ Some u → IsDrafting old script s u → IsDrafting new script s u
  drafting_stays u low is h = record {
    number = h.number;
    several = h.several;
    picked = h.picked;
    within = h.within;
    count = h.count;
    each = λ i w there.
        let own = h.each i w there in
        record {
          rights = own.rights;
          object = own.object;
          serial = own.serial;
          draft = kept.draft w (record { update = u; number = low; is_open = is; listed = slice_contains u.works i w there }) _ _ own.draft;
        };
    fed = h.fed;
  }

  update_stays : (u : Option Update) → 1 ≤ s.client → (client_of old.standing s.client).update ≡ u → OwnsUpdate old script s u → OwnsUpdate new script s u
  update_stays None low is h = h
  update_stays (Some u) low is h = drafting_stays u low is h

  rest_stays : IsAtRest scripts old script s → IsAtRest scripts new script s
  rest_stays h = record {
    seated = seated_stays h.seated;
    fresh = ap (λ (c : Client). c.noted) leaves.client ∙ h.fresh;
    held = ap (λ (c : Client). c.held) leaves.client ∙ h.held;
    none = h.none;
    update =
        let F : Option Update → Type 0 = OwnsUpdate new script s in
        subst F (sym (ap (λ (c : Client). c.update) leaves.client)) (update_stays (client_of old.standing s.client).update h.seated.client.low refl h.update);
    closed = h.closed;
    turns = h.turns;
  }

  -- ---- within a commit

  committing_stays : (u : Update) (w : Work) → IsCommittingOf scripts old script s u w → IsCommittingOf scripts new script s u w
  committing_stays u w h = record {
    seated = seated_stays h.seated;
    is_open = ap (λ (c : Client). c.update) leaves.client ∙ h.is_open;
    plain = h.plain;
    line = h.line;
    next = h.next;
    command = h.command;
    writes = h.writes;
    taken = let F : List What → Type 0 = IsTaken s.held u in subst F (sym (ap (λ (c : Client). c.noted) leaves.client)) h.taken;
    held = ap (λ (c : Client). c.held) leaves.client ∙ h.held;
  }

  on_file : (u : Update) (w : Work) → IsCommittingOf scripts old script s u w → IsOn old.standing s.client w
  on_file u w h = record { update = u; number = h.seated.client.low; is_open = h.is_open; listed = alone_listed u w h.plain.works }

  -- as many turns are left it as it may have had
  turns_stay : (u : Update) (w : Work) (upto more : ℕ) → IsCommittingOf scripts old script s u w → s.turns ≤ turns_to old.standing.made s.held w upto + more
      → s.turns ≤ turns_to new.standing.made s.held w upto + more
  turns_stay u w upto more h low = (let left = turns_are_left s.client old new s.held w upto leaves (on_file u w h) in omega (arith, low, left))

  abbrev merging_stays : (more : ℕ) → IsMergedIn more scripts old script s → IsMergedIn more scripts new script s
  merging_stays more h = record {
    update = h.update;
    work = h.work;
    tree = h.tree;
    committing = committing_stays h.update h.work h.committing;
    merged = kept.merged h.work (on_file h.update h.work h.committing) _ _ h.tree _ h.merged;
    turns = turns_stay h.update h.work (serial_of s) more h.committing h.turns;
  }

  naming_stays : (next : ℕ) → IsShared new → IsNaming scripts old script s next → IsNaming scripts new script s next
  naming_stays next shared h =
      let from = h.merged.merged.from in
      let base : IsBase new h.merged.work.object (serial_of s + 1) next h.tree = base_is_left s.client old new h.merged.work (serial_of s + 1) next h.tree leaves
      (on_file h.merged.update h.merged.work h.merged.committing) (omega (arith, from)) h.base in
      let low : serial_of s + 1 ≤ last_serial new.standing.state h.merged.work.object = base_low new h.merged.work.object (serial_of s + 1) next h.tree shared base in
      record { merged = merging_stays (1 + s.held) h.merged; later = omega (arith, low); tree = h.tree; base = base }

  walking_stays : (walk : WalkValue) → IsShared new → IsSound scripts new.standing → IsWalkingOn scripts old script s walk → IsWalkingOn scripts new script s walk
  walking_stays walk shared sound h = record {
    update = h.update;
    work = h.work;
    committing = committing_stays h.update h.work h.committing;
    upto = h.upto;
    root = h.root;
    tree = h.tree;
    before = h.before;
    made = h.made;
    fed = h.fed;
    walking = walk_is_left scripts s.client old new h.work h.upto h.root h.tree h.before _ _ h.made h.fed walk leaves shared sound (on_file h.update h.work h.committing) h.walking;
    serial = h.serial;
    turns = (let low = h.turns in let left = turns_are_left s.client old new s.held h.work h.upto leaves (on_file h.update h.work h.committing) in omega (arith, low, left));
  }

  writing_stays : (flush : Plan) → IsWritingOut scripts old script s flush → IsWritingOut scripts new script s flush
  writing_stays flush h = record {
    merged = merging_stays flush.written h.merged;
    flushing = kept.flush _ _ flush h.flushing;
    top = h.top;
    alone = h.alone;
    number = h.number;
    within = h.within;
    unworn = h.unworn;
  }

  -- ---- by stage

  stage_stays : (stage : Stage) → IsShared new → IsSound scripts new.standing → OwnsStage scripts old script s stage → OwnsStage scripts new script s stage
  stage_stays Resting shared sound h = rest_stays h
  stage_stays (Naming next) shared sound h = naming_stays next shared h
  stage_stays (Walking walk) shared sound h = walking_stays walk shared sound h
  stage_stays (Writing flush) shared sound h = writing_stays flush h

pub seat_of : (scripts : Scripts) (scene : Scene) (script : ScriptValue) (s : Course) (stage : Stage) → OwnsStage scripts scene script s stage → IsSeated scripts scene script s
seat_of scripts scene script s Resting h = h.seated
seat_of scripts scene script s (Naming next) h = h.merged.committing.seated
seat_of scripts scene script s (Walking walk) h = h.committing.seated
seat_of scripts scene script s (Writing flush) h = h.merged.committing.seated

pub own_is_left : {D : Type 0} (b : Ghosts D) → OwnIsLeft b
own_is_left b opening scripts first old new c c' k es script s goes other own =
    let low = (seat_of scripts old script s s.stage own).client.low in
    let stands = goes.stands.stands in
    stage_stays scripts old new script s (goes.others s.client low other) s.stage stands.shared
    (journal_sound opening scripts _ new.standing stands.fitting.fit stands.sayable stands.reaches) own

-- ---- numbers

pub safe_is_left : {D : Type 0} (b : Ghosts D) → SafeIsLeft b
safe_is_left b c c' k script s keeps other h = record {
  lines = h.lines;
  room = h.room;
  held = keeps.others s.client other ∙ h.held;
  drafts = subst (λ n. AreSafeDrafts n s.drafts (drafts_of s)) (sym keeps.size) h.drafts;
  stage = subst (λ n. IsSafeStage n s s.stage) (sym keeps.blocks) h.stage;
}
