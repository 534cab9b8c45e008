-- The state after a commit of any number of files: what is found is what the journal leads to.
use Rattle.std.proofs.Common.{◌≡◌, ◌⊎◌, inl, inr, ℕ, zero, suc, ◌-◌, ◌≤◌, List, [], ◌∷◌, length, map, Some, refl, sym, ap, ◌∙◌, arith, slice_get}
use Rattle.std.specs.Prelude.{option_map}
use Rattle.std.proofs.lemmas.List.{length-map}
use Rattle.std.proofs.lemmas.Option.{slice_get-map}
use Rattle.recovery.proofs.Heads.{same_items}
use Rattle.service_model.specs.Entries.{committed_in, next_version}
use Rattle.service_model.specs.Standing.{Work}
use Rattle.store_model.specs.Changes.{changed_at, with_version}
use Rattle.store_model.specs.Found.{LaidStore, file_in, state_in, version_in}
use Rattle.store_model.specs.Laid.{LaidFile}
use Rattle.store_model.proofs.Edits.{changed_other, changed_same, changed_length, some_is, none_some}
use Rattle.tree_model.specs.States.{State, File, last_version}
use Rattle.ground_model.specs.Scenes.{Scene, HasVersion}
use Rattle.ground_model.proofs.FilesGrown.{Item, IsItem, IsBesides, IsOf, Grows, find_item}
use Rattle.ground_model.proofs.Grown.{with_next}
use Rattle.ground_model.proofs.Latest.{appended, last_version_is}
use Rattle.ground_model.proofs.Laying.{entry_at}

-- the parts of the update that these are
abbrev pub works_in : List Item → List Work
works_in items = map (λ (it : Item). it.work) items

-- the state with the new version of each of these
all_with : List Item → State → State
all_with [] s = s
all_with (it ∷ items) s = all_with items (with_version (it.work.object - 1) (version_in it.next) s)

-- objects count from 1
AreCounted : List Item → Type 0
AreCounted items = (i : ℕ) (it : Item) → slice_get items i ≡ Some it → 1 ≤ it.work.object

-- no two are of one object
AreTwos : List Item → Type 0
AreTwos items = (i j : ℕ) (x y : Item) → slice_get items i ≡ Some x → slice_get items j ≡ Some y → x.work.object ≡ y.work.object → i ≡ j

module _ (x : Item) (items : List Item) where
  counted_rest : AreCounted (x ∷ items) → AreCounted items
  unfolding AreCounted
  counted_rest counted i it at = counted (suc i) it at

  twos_rest : AreTwos (x ∷ items) → AreTwos items
  unfolding AreTwos
  twos_rest twos i j a b at to e = (let same : suc i ≡ suc j = twos (suc i) (suc j) a b at to e in omega (arith, same))

  first_besides : AreTwos (x ∷ items) → IsBesides items x.work.object
  unfolding AreTwos
  first_besides twos i it at e = (let same : suc i ≡ zero = twos (suc i) zero it x at refl e in omega (arith, same))

  besides_rest : (object : ℕ) → IsBesides (x ∷ items) object → IsBesides items object
  besides_rest object none i it at = none (suc i) it at

-- ---- one file after the other

with_other : (items : List Item) (s : State) (o : ℕ) → AreCounted items → IsBesides items (suc o) → slice_get (all_with items s).files o ≡ slice_get s.files o
unfolding all_with AreCounted
with_other [] s o counted none = refl
with_other (x ∷ items) s o counted none =
    let low : 1 ≤ x.work.object = counted zero x refl in
    with_other items (with_version (x.work.object - 1) (version_in x.next) s) o (counted_rest x items counted) (besides_rest x items (suc o) none)
    ∙ changed_other (with_next (version_in x.next)) (x.work.object - 1) o s.files (λ e. none zero x refl (omega (arith, e, low)))

with_item : (items : List Item) (s : State) (i : ℕ) (it : Item) (f : File) → AreCounted items → AreTwos items → slice_get items i ≡ Some it
    → slice_get s.files (it.work.object - 1) ≡ Some f → slice_get (all_with items s).files (it.work.object - 1) ≡ Some (with_next (version_in it.next) f)
unfolding all_with AreCounted AreTwos
with_item [] s i it f counted twos at here = none_some at
with_item (x ∷ items) s zero it f counted twos at here =
    let same : it ≡ x = some_is (sym at) in
    let low : 1 ≤ x.work.object = counted zero x refl in
    let object : it.work.object ≡ x.work.object = ap (λ (y : Item). y.work.object) same in
    let back : suc (it.work.object - 1) ≡ x.work.object = omega (arith, object, low) in
    let place : it.work.object - 1 ≡ x.work.object - 1 = omega (arith, object) in
    with_other items (with_version (x.work.object - 1) (version_in x.next) s) (it.work.object - 1) (counted_rest x items counted)
    (λ j y to e. first_besides x items twos j y to (e ∙ back))
    ∙ ap (λ n. slice_get (changed_at (with_next (version_in x.next)) (x.work.object - 1) s.files) n) place
    ∙ changed_same (with_next (version_in x.next)) (x.work.object - 1) s.files f (ap (slice_get s.files) (sym place) ∙ here)
    ∙ ap (λ (y : Item). Some (with_next (version_in y.next) f)) (sym same)
with_item (x ∷ items) s (suc i) it f counted twos at here =
    let low : 1 ≤ x.work.object = counted zero x refl in
    let one : 1 ≤ it.work.object = counted (suc i) it at in
    with_item items (with_version (x.work.object - 1) (version_in x.next) s) i it f (counted_rest x items counted) (twos_rest x items twos) at
    (changed_other (with_next (version_in x.next)) (x.work.object - 1) (it.work.object - 1) s.files
    (λ e. first_besides x items twos i it at (omega (arith, e, low, one))) ∙ here)

-- the file of each with the version that it begins from as its last one
record StandsAs (s : State) (it : Item) : Type 0 where
  file : File
  listed : slice_get s.files (it.work.object - 1) ≡ Some file
  last : last_version file ≡ Some (version_in it.last)

committed_with : (items : List Item) (s : State) → AreCounted items → AreTwos items
    → ((i : ℕ) (it : Item) → slice_get items i ≡ Some it → StandsAs s it × (version_in it.next ≡ next_version it.work.steps (version_in it.last)))
    → committed_in s (works_in items) ≡ all_with items s
unfolding all_with AreCounted AreTwos
committed_with [] s counted twos each = refl
committed_with (x ∷ items) s counted twos each =
    let low : 1 ≤ x.work.object = counted zero x refl in
    let here = each zero x refl in
    ap (λ y. committed_in y (works_in items))
    (appended s x.work here.0.file (version_in x.last) (entry_at s x.work.object here.0.file low here.0.listed) low here.0.listed here.0.last
    ∙ ap (λ v. with_version (x.work.object - 1) v s) (sym here.1))
    ∙ committed_with items (with_version (x.work.object - 1) (version_in x.next) s) (counted_rest x items counted) (twos_rest x items twos) still
  where
    still : (i : ℕ) (it : Item) → slice_get items i ≡ Some it
        → StandsAs (with_version (x.work.object - 1) (version_in x.next) s) it × (version_in it.next ≡ next_version it.work.steps (version_in it.last))
    still i it at =
        let was = each (suc i) it at in
        let low : 1 ≤ x.work.object = counted zero x refl in
        let one : 1 ≤ it.work.object = counted (suc i) it at in (
          record {
            file = was.0.file;
            listed =
                changed_other (with_next (version_in x.next)) (x.work.object - 1) (it.work.object - 1) s.files
                (λ e. first_besides x items twos i it at (omega (arith, e, low, one))) ∙ was.0.listed;
            last = was.0.last;
          },
          was.1,
        )

-- what all these versions leave of a state
pub record IsLike (s t : State) : Type 0 where
  pub format : t.format ≡ s.format
  pub blocks : t.blocks ≡ s.blocks
  pub key : t.key ≡ s.key
  pub long : length t.files ≡ length s.files

all_like : (items : List Item) (s : State) → IsLike s (all_with items s)
unfolding all_with
all_like [] s = record { format = refl; blocks = refl; key = refl; long = refl }
all_like (x ∷ items) s =
    let rest = all_like items (with_version (x.work.object - 1) (version_in x.next) s) in
    record {
      format = rest.format;
      blocks = rest.blocks;
      key = rest.key;
      long = rest.long ∙ changed_length (with_next (version_in x.next)) (x.work.object - 1) s.files;
    }

same_state : (s t : State) → t.format ≡ s.format → t.blocks ≡ s.blocks → t.key ≡ s.key → t.files ≡ s.files → t ≡ s
same_state s t format blocks key files =
    ap (λ n. (let x : State = record t { format = n } in x)) format
    ∙ ap (λ n. (let x : State = record { format = s.format; blocks = n; key = t.key; files = t.files } in x)) blocks
    ∙ ap (λ n. (let x : State = record { format = s.format; blocks = s.blocks; key = n; files = t.files } in x)) key
    ∙ ap (λ fs. (let x : State = record { format = s.format; blocks = s.blocks; key = s.key; files = fs } in x)) files

-- ---- the whole

-- The store has the same table but for the files, and as many files.
pub record IsTableLike (old new : LaidStore) : Type 0 where
  pub format : new.root.format ≡ old.root.format
  pub blocks : new.root.blocks ≡ old.root.blocks
  pub key : new.root.key ≡ old.root.key
  pub long : length new.files ≡ length old.files

module _ (old new : Scene) (items : List Item) (g : Grows old new items) (like : IsTableLike old.store new.store) where
  counted : AreCounted items
  unfolding AreCounted
  counted i it at = (g.each i it at).counts

  twos : AreTwos items
  unfolding AreTwos
  twos = g.differ

  at_old : (o : ℕ) (f : LaidFile) → slice_get old.store.files o ≡ Some f → slice_get (state_in old.store).files o ≡ Some (file_in f)
  at_old o f listed = slice_get-map file_in old.store.files o ∙ ap (option_map file_in) listed

  at_new : (o : ℕ) (f : LaidFile) → slice_get new.store.files o ≡ Some f → slice_get (state_in new.store).files o ≡ Some (file_in f)
  at_new o f listed = slice_get-map file_in new.store.files o ∙ ap (option_map file_in) listed

  each_stands : (i : ℕ) (it : Item) → slice_get items i ≡ Some it → StandsAs (state_in old.store) it × (version_in it.next ≡ next_version it.work.steps (version_in it.last))
  each_stands i it at =
      let x : IsItem old new it = g.each i it at in
      let has : HasVersion old.store it.work.object it.last =
      record { file = x.file; place = length x.file.versions - 1; counts = x.counts; listed = x.listed; kept = x.grown.last_is } in (
        record { file = file_in x.file; listed = at_old (it.work.object - 1) x.file x.listed; last = last_version_is old.store it.work.object it.last has x.grown.last_is },
        x.version_is,
      )

  file_at : (o : ℕ) → slice_get (state_in new.store).files o ≡ slice_get (all_with items (state_in old.store)).files o
  file_at o = by (find_item items (suc o))
    where
      by : IsOf items (suc o) ⊎ IsBesides items (suc o) → slice_get (state_in new.store).files o ≡ slice_get (all_with items (state_in old.store)).files o
      by (inl f) =
          let x : IsItem old new f.item = g.each f.place f.item f.at in
          let object = f.object_is in
          let place : o ≡ f.item.work.object - 1 = omega (arith, object) in
          ap (slice_get (state_in new.store).files) place
          ∙ at_new (f.item.work.object - 1) x.now x.now_listed
          ∙ ap Some x.grown.stated
          ∙ sym (with_item items (state_in old.store) f.place f.item (file_in x.file) counted twos f.at (at_old (f.item.work.object - 1) x.file x.listed))
          ∙ ap (slice_get (all_with items (state_in old.store)).files) (sym place)
      by (inr none) =
          slice_get-map file_in new.store.files o ∙ ap (option_map file_in) (g.beside o none) ∙ sym (slice_get-map file_in old.store.files o)
          ∙ sym (with_other items (state_in old.store) o counted none)

  pub state_then : state_in old.store ≡ old.standing.state → state_in new.store ≡ committed_in old.standing.state (works_in items)
  state_then state =
      let l : IsLike (state_in old.store) (all_with items (state_in old.store)) = all_like items (state_in old.store) in
      let one : length (state_in new.store).files ≡ length new.store.files = length-map new.store.files file_in in
      let two : length (state_in old.store).files ≡ length old.store.files = length-map old.store.files file_in in
      let long = like.long in
      let grown = l.long in
      same_state (all_with items (state_in old.store)) (state_in new.store) (like.format ∙ sym l.format) (like.blocks ∙ sym l.blocks) (like.key ∙ sym l.key)
      (same_items (state_in new.store).files (all_with items (state_in old.store)).files (omega (arith, one, two, long, grown)) (λ o low. file_at o))
      ∙ sym (committed_with items (state_in old.store) counted twos each_stands)
      ∙ ap (λ s. committed_in s (works_in items)) state
