-- How the draft of a client comes, and what becomes of it in the client's own turns.
use Rattle.std.proofs.Common.{◌≡◌, ◌⊎◌, inl, inr, ℕ, ◌+◌, ◌-◌, ◌≤◌, Bool, false, List, [], ◌∷◌, ◌++◌, length, Option, Some, None, Contains, refl, sym, ap, ◌∙◌, subst, arith, slice_get}
use Rattle.std.specs.Prelude.{option_map}
use Rattle.std.specs.Option.{option_map_or, option_and_then}
use Rattle.std.specs.FinSet as set
use Rattle.std.proofs.lemmas.Option.{slice_get-map}
use Rattle.afs_base.specs.declared.head.Head.{Head}
use Rattle.draft_model.specs.Stands.{SlotStands}
use Rattle.draft_model.specs.Views.{copies, live}
use Rattle.page_places.specs.Places.{Holds, block_at, has_bit, slot_block}
use Rattle.recovery.specs.Opening.{head_of, heads_of}
use Rattle.service_model.specs.Causes.{object_of}
use Rattle.service_model.specs.Legal.{IsLater, IsUnreadOf}
use Rattle.service_model.specs.Standing.{Made, serial_of, last_tree}
use Rattle.store_changes.proofs.InPlaces.{pages_are_places}
use Rattle.store_check.specs.Files.{first_serial, kept_by}
use Rattle.store_model.specs.Found.{LaidStore, version_in}
use Rattle.store_model.specs.Laid.{LaidFile, LaidVersion, last_laid}
use Rattle.store_model.specs.Laws.{pages_of}
use Rattle.store_model.proofs.Held.{versions_are_held}
use Rattle.tree_model.specs.Accesses.{Place, IsClash, all_writes, place_cmp, reads_of, visible_of}
use Rattle.tree_model.specs.States.{State, Version, last_serial}
use Rattle.tree_model.specs.Trees.{Tree, tree_after}
use Rattle.ground_model.specs.Drafting.{BeginsDraft, DraftStays, FedDraft, MergeBegins, MergeGoesOn, SteppedDraft, WantedLies}
use Rattle.ground_model.specs.Own.{IsBase}
use Rattle.ground_model.specs.Scenes.{Scene, HasVersion, IsShared}
use Rattle.ground_model.proofs.Again.{draft_again}
use Rattle.ground_model.proofs.HeldWrites.{version_of}
use Rattle.ground_model.proofs.Latest.{last_tree_is, entry_is, last_version_is}

-- ---- a draft begins

-- the last version of a file of which something is told
record LastOf (store : LaidStore) (object : ℕ) (head : Head) : Type 0 where
  pub file : LaidFile
  pub last : LaidVersion
  pub listed : slice_get store.files object ≡ Some file
  pub is : last_laid file.versions ≡ Some last
  pub block : last.block ≡ head.block

told_last : (versions : List LaidVersion) (o : Option LaidVersion) → last_laid versions ≡ o → (head : Head)
    → option_map (λ (l : LaidVersion). (let h : Head = record { block = l.block; first = first_serial versions; serial = l.serial; kept = kept_by versions } in h)) o ≡ Some head
    → (last : LaidVersion) × (last_laid versions ≡ Some last) × (last.block ≡ head.block)
told_last versions None is head e = absurd cc
told_last versions (Some last) is head e =
    let same : (let h : Head = record { block = last.block; first = first_serial versions; serial = last.serial; kept = kept_by versions } in h) ≡ head = cc in
    (last, is, ap (λ (h : Head). h.block) same)

last_of : (store : LaidStore) (object : ℕ) (head : Head) → slice_get (heads_of store.files) object ≡ Some (Some head) → LastOf store object head
last_of store object head e = by (slice_get store.files object) refl
  where
    by : (o : Option LaidFile) → slice_get store.files object ≡ o → LastOf store object head
    by None h = absurd (let no : None ≡ Some (Some head) = sym (slice_get-map (λ (f : LaidFile). head_of f.versions) store.files object ∙ ap (option_map (λ (f : LaidFile). head_of f.versions)) h) ∙ e in cc)
    by (Some file) h =
        let told : Some (head_of file.versions) ≡ Some (Some head) = sym (slice_get-map (λ (f : LaidFile). head_of f.versions) store.files object ∙ ap (option_map (λ (f : LaidFile). head_of f.versions)) h) ∙ e in
        let here : head_of file.versions ≡ Some head = cc in
        let x = told_last file.versions (last_laid file.versions) refl head here in
        record { file = file; last = x.0; listed = h; is = x.1; block = x.2 }

module _ (scene : Scene) (shared : IsShared scene) (object : ℕ) (head : Head) (l : LastOf scene.store (object - 1) head) (low : 1 ≤ object) where
  has : HasVersion scene.store object l.last
  has = record { file = l.file; place = length l.file.versions - 1; counts = low; listed = l.listed; kept = l.is }

  tree_here : (version_in l.last).tree ≡ last_tree scene.standing.state object
  unfolding has
  tree_here =
      sym (last_tree_is scene.store object l.last has l.is) ∙ ap (λ (s : State). last_tree s object) shared.state

  serial_here : l.last.serial ≡ serial_of scene.standing.state object
  unfolding has
  serial_here =
      sym (ap (λ o. option_map_or (λ (n : ℕ). n) (option_and_then last_serial o) 0) (entry_is scene.store object l.last has)
      ∙ ap (λ o. option_map_or (λ (n : ℕ). n) (option_map (λ (v : Version). v.serial) o) 0) (last_version_is scene.store object l.last has l.is))
      ∙ ap (λ (s : State). serial_of s object) shared.state

  base_here : IsBase scene object (serial_of scene.standing.state object) head.block (last_tree scene.standing.state object)
  base_here = record { version = l.last; is = has; serial_is = serial_here; block_is = l.block; tree_is = tree_here }

  holds_here : Holds (pages_of scene.content) head.block (last_tree scene.standing.state object)
  holds_here =
      let F : ℕ → Tree → Type 0 = λ n t. Holds (pages_of scene.content) n t in
      subst (λ t. F head.block t) tree_here (subst (λ n. F n (version_in l.last).tree) l.block
      (versions_are_held scene.content scene.most scene.store scene.places shared.laid l.last (version_of scene.store object l.last has)))

pub begins_draft : BeginsDraft
begins_draft scene heads file head page d shared are told low here begins =
    let l : LastOf scene.store (object_of file - 1) head = last_of scene.store (object_of file - 1) head (ap (λ hs. slice_get hs (object_of file - 1)) (sym are) ∙ told) in
    record {
      base = base_here scene shared (object_of file) head l low;
      stands = begins (pages_of scene.content) (last_tree scene.standing.state (object_of file)) (holds_here scene shared (object_of file) head l low) here;
    }

-- ---- pages and steps

pub wanted_lies : WantedLies
wanted_lies scene w root d end q block shared h wants =
    let slot = h.stands.stands.shape.slot wants.above wants.last wants.copy wants.at in
    let F : Bool → Option ℕ → Type 0 = λ x y. SlotStands (pages_of scene.content) root w.base (tree_after w.base w.steps) (all_writes w.base w.steps) (copies d) (wants.above ++ wants.last ∷ []) (has_bit wants.copy.page.modified wants.last) x y in
    let g : F false (Some block) = subst (F false) wants.block (subst (λ x. F x (slot_block wants.copy.page wants.last)) (ap (λ p. live (copies d) p) (sym wants.is) ∙ wants.not_yet) slot) in
    let at : block_at (pages_of scene.content) h.base.version.block (wants.above ++ wants.last ∷ []) ≡ Some block =
    ap (λ n. block_at (pages_of scene.content) n (wants.above ++ wants.last ∷ [])) h.base.block_is ∙ g.0.block in
    pages_are_places scene.content scene.most scene.store scene.places shared.laid h.base.version (version_of scene.store w.object h.base.version h.base.is)
    (wants.above ++ wants.last ∷ []) block at

pub fed_draft : FedDraft
fed_draft scene w root d e end q block page h wants here feeds =
    record { base = h.base; stands = feeds (pages_of scene.content) root w.base w.steps end block h.stands wants here }

pub stepped_draft : SteppedDraft
stepped_draft scene w root d e step answer h runs =
    let r = runs (pages_of scene.content) root w.base w.steps h.stands in
    (r.0, record { base = record { version = h.base.version; is = h.base.is; serial_is = h.base.serial_is; block_is = h.base.block_is; tree_is = h.base.tree_is }; stands = r.1 })

pub draft_stays_own : DraftStays
draft_stays_own old new w root d keeps h = draft_again old new w root d h (keeps w.object h.base.version h.base.is)

-- ---- merging

pub merge_begins : MergeBegins
merge_begins scene w root d h = record {
  from = omega arith;
  base = h.base;
  stands = h.stands;
  alike = record { replies = refl; reads = refl; writes = refl; visible = refl; fresh = refl };
  unread = λ m is later low. absurd (let above = later.1 in omega (arith, above, low));
}

pub merge_goes_on : MergeGoesOn
merge_goes_on scene w upto root next tree d e m h c = record {
  from = (let from = h.from in omega (arith, from));
  base = c.base;
  stands = c.stands;
  alike = record {
    replies = c.alike.replies ∙ h.alike.replies;
    reads = c.alike.reads ∙ h.alike.reads;
    writes = c.alike.writes ∙ h.alike.writes;
    visible = c.alike.visible ∙ h.alike.visible;
    fresh = c.alike.fresh ∙ h.alike.fresh;
  };
  unread = λ n is later low. by n is later (less_or_same n.serial upto low);
}
  where
    less_or_same : (a b : ℕ) → a ≤ b + 1 → (a ≤ b) ⊎ (a ≡ b + 1)
    less_or_same a b low = grind arith

    here : IsUnreadOf w m
    here =
        let F : set.FinSet place_cmp → Type 0 = λ r. IsClash r (visible_of m.before m.steps) None in
        let G : Tree → Type 0 = λ t. IsClash (reads_of tree w.steps) (visible_of t m.steps) None in
        subst F (ap (λ (xs : List Place). set.from_list {R = place_cmp} xs) h.alike.reads) (subst G (sym c.before) c.none)

    by : (n : Made) → Contains scene.standing.made n → IsLater w n → (n.serial ≤ upto) ⊎ (n.serial ≡ upto + 1) → IsUnreadOf w n
    by n is later (inl less) = h.unread n is later less
    by n is later (inr same) = (let F : Made → Type 0 = λ x. IsUnreadOf w x in subst F (sym (c.only n is later.0 same)) here)
