-- What is told of the files after a commit of several of them.
use Rattle.std.proofs.Common.{◌≡◌, ◌≢◌, ◌⊎◌, inl, inr, ℕ, zero, suc, ◌-◌, length, List, [], ◌∷◌, Option, Some, None, refl, sym, ap, ◌∙◌, arith, slice_get}
use Rattle.std.specs.Prelude.{option_map, slice_set}
use Rattle.std.specs.Option.{option_and_then, option_map_or}
use Rattle.std.proofs.lemmas.List.{length-map}
use Rattle.std.proofs.lemmas.Option.{slice_get-map}
use Rattle.afs_base.specs.declared.head.Head.{Head}
use Rattle.draft_model.specs.Flush.{block_of}
use Rattle.recovery.specs.Opening.{head_of, heads_of}
use Rattle.recovery.proofs.Heads.{same_items}
use Rattle.service_model.proofs.Members.{set_elsewhere, set_here}
use Rattle.store_check.specs.Files.{own_pages}
use Rattle.store_model.specs.Laid.{LaidFile}
use Rattle.store_model.proofs.Edits.{some_is, none_some}
use Rattle.ground_model.specs.Commits.{head_after}
use Rattle.ground_model.specs.Scenes.{Scene, AreHeads}
use Rattle.ground_model.specs.Several.{Renewal, heads_after, told_anew}
use Rattle.ground_model.proofs.FilesGrown.{Item, IsItem, IsBesides, IsOf, Grows, find_item}
use Rattle.ground_model.proofs.Grown.{last_then}
use Rattle.ground_model.proofs.Heads.{same_head, told, told_of}
use Rattle.ground_model.proofs.Lines.{set_length}

-- ---- one file

told_length : (heads : List (Option Head)) (object own : ℕ) (o : Option ℕ) → length (told_anew heads object own o) ≡ length heads
told_length heads object own None = refl
told_length heads object own (Some block) = by (option_and_then (λ (x : Option Head). x) (slice_get heads (object - 1)))
  where
    by : (h : Option Head) → length (option_map_or (λ (head : Head). slice_set heads (object - 1) (Some (head_after head block own))) h heads) ≡ length heads
    by None = refl
    by (Some head) = set_length heads (object - 1) (Some (head_after head block own))

told_other : (heads : List (Option Head)) (object own : ℕ) (o : Option ℕ) (j : ℕ) → object - 1 ≢ j → slice_get (told_anew heads object own o) j ≡ slice_get heads j
told_other heads object own None j ne = refl
told_other heads object own (Some block) j ne = by (option_and_then (λ (x : Option Head). x) (slice_get heads (object - 1)))
  where
    by : (h : Option Head) → slice_get (option_map_or (λ (head : Head). slice_set heads (object - 1) (Some (head_after head block own))) h heads) j ≡ slice_get heads j
    by None = refl
    by (Some head) = set_elsewhere heads (object - 1) j (Some (head_after head block own)) ne

told_here : (heads : List (Option Head)) (object own block : ℕ) (head : Head) → slice_get heads (object - 1) ≡ Some (Some head)
    → slice_get (told_anew heads object own (Some block)) (object - 1) ≡ Some (Some (head_after head block own))
told_here heads object own block head here =
    ap (λ (h : Option (Option Head)). slice_get (option_map_or (λ (x : Head). slice_set heads (object - 1) (Some (head_after x block own))) (option_and_then (λ (x : Option Head). x) h) heads) (object - 1)) here
    ∙ set_here heads (object - 1) (Some head) (Some (head_after head block own)) here

-- ---- all files

after_length : (rs : List Renewal) (heads : List (Option Head)) → length (heads_after rs heads) ≡ length heads
after_length [] heads = refl
after_length (r ∷ rs) heads =
    after_length rs (told_anew heads r.work.object (length r.plan.placed) (block_of r.plan.placed []))
    ∙ told_length heads r.work.object (length r.plan.placed) (block_of r.plan.placed [])

-- none of these files is at this place
abbrev pub AreApartFrom : List Renewal → ℕ → Type 0
AreApartFrom rs j = (i : ℕ) (r : Renewal) → slice_get rs i ≡ Some r → r.work.object - 1 ≢ j

after_other : (rs : List Renewal) (heads : List (Option Head)) (j : ℕ) → AreApartFrom rs j → slice_get (heads_after rs heads) j ≡ slice_get heads j
after_other [] heads j off = refl
after_other (r ∷ rs) heads j off =
    after_other rs (told_anew heads r.work.object (length r.plan.placed) (block_of r.plan.placed [])) j (λ i q at. off (suc i) q at)
    ∙ told_other heads r.work.object (length r.plan.placed) (block_of r.plan.placed []) j (off zero r refl)

-- no two of these files are at one place
abbrev pub AreAtTwo : List Renewal → Type 0
AreAtTwo rs = (i j : ℕ) (q r : Renewal) → slice_get rs i ≡ Some q → slice_get rs j ≡ Some r → q.work.object - 1 ≡ r.work.object - 1 → i ≡ j

after_here : (rs : List Renewal) (heads : List (Option Head)) (i : ℕ) (r : Renewal) (block : ℕ) (head : Head) → AreAtTwo rs → slice_get rs i ≡ Some r
    → block_of r.plan.placed [] ≡ Some block → slice_get heads (r.work.object - 1) ≡ Some (Some head)
    → slice_get (heads_after rs heads) (r.work.object - 1) ≡ Some (Some (head_after head block (length r.plan.placed)))
after_here [] heads i r block head two at top here = none_some at
after_here (q ∷ rs) heads zero r block head two at top here =
    let same : q ≡ r = some_is at in
    ap (λ (x : Renewal). slice_get (heads_after rs (told_anew heads x.work.object (length x.plan.placed) (block_of x.plan.placed []))) (r.work.object - 1)) same
    ∙ after_other rs (told_anew heads r.work.object (length r.plan.placed) (block_of r.plan.placed [])) (r.work.object - 1)
    (λ j x to e. (let no : suc j ≡ zero = two (suc j) zero x r to at e in omega (arith, no)))
    ∙ ap (λ (o : Option ℕ). slice_get (told_anew heads r.work.object (length r.plan.placed) o) (r.work.object - 1)) top
    ∙ told_here heads r.work.object (length r.plan.placed) block head here
after_here (q ∷ rs) heads (suc i) r block head two at top here =
    after_here rs (told_anew heads q.work.object (length q.plan.placed) (block_of q.plan.placed [])) i r block head
    (λ j l x y to on e. (let s : suc j ≡ suc l = two (suc j) (suc l) x y to on e in omega (arith, s))) at top
    (told_other heads q.work.object (length q.plan.placed) (block_of q.plan.placed []) (r.work.object - 1)
    (λ e. (let no : zero ≡ suc i = two zero (suc i) q r refl at e in omega (arith, no))) ∙ here)

-- ---- the whole

-- the flush of an item: its new version lies in the block of `/`, and has as many pages of its own as there are places
pub record IsFlushOf (rs : List Renewal) (place : ℕ) (it : Item) : Type 0 where
  pub renewal : Renewal
  pub at : slice_get rs place ≡ Some renewal
  pub work_is : renewal.work ≡ it.work
  pub block : block_of renewal.plan.placed [] ≡ Some it.next.block
  pub pages : own_pages it.next ≡ length renewal.plan.placed

module _ (old new : Scene) (items : List Item) (g : Grows old new items) (rs : List Renewal) (long : length new.store.files ≡ length old.store.files)
    (flush_of : (i : ℕ) (it : Item) → slice_get items i ≡ Some it → IsFlushOf rs i it)
    (item_of : (i : ℕ) (r : Renewal) → slice_get rs i ≡ Some r → (it : Item) × (slice_get items i ≡ Some it) × (r.work ≡ it.work)) where
  two : AreAtTwo rs
  two i j q r at to e =
      let a = item_of i q at in
      let b = item_of j r to in
      let one = (g.each i a.0 a.1).counts in
      let other = (g.each j b.0 b.1).counts in
      let first : q.work.object ≡ a.0.work.object = ap (λ w. w.object) a.2 in
      let second : r.work.object ≡ b.0.work.object = ap (λ w. w.object) b.2 in
      g.differ i j a.0 b.0 a.1 b.1 (omega (arith, e, one, other, first, second))

  apart_from : (o : ℕ) → IsBesides items (suc o) → AreApartFrom rs o
  apart_from o none i r at e =
      let a = item_of i r at in
      let one = (g.each i a.0 a.1).counts in
      let first : r.work.object ≡ a.0.work.object = ap (λ w. w.object) a.2 in
      none i a.0 a.1 (omega (arith, e, one, first))

  pub heads_then : (heads : List (Option Head)) → AreHeads old heads → AreHeads new (heads_after rs heads)
  heads_then heads are = same_items (heads_after rs heads) (heads_of new.store.files) lengths (λ o low. at_place o (find_item items (suc o)))
    where
      lengths : length (heads_after rs heads) ≡ length (heads_of new.store.files)
      lengths =
          after_length rs heads ∙ ap (λ (hs : List (Option Head)). length hs) are
          ∙ length-map old.store.files (λ (f : LaidFile). head_of f.versions) ∙ sym long ∙ sym (length-map new.store.files (λ (f : LaidFile). head_of f.versions))

      at_old : (o : ℕ) → slice_get heads o ≡ option_map (λ (f : LaidFile). head_of f.versions) (slice_get old.store.files o)
      at_old o = ap (λ (hs : List (Option Head)). slice_get hs o) are ∙ slice_get-map (λ (f : LaidFile). head_of f.versions) old.store.files o

      at_new : (o : ℕ) → slice_get (heads_of new.store.files) o ≡ option_map (λ (f : LaidFile). head_of f.versions) (slice_get new.store.files o)
      at_new o = slice_get-map (λ (f : LaidFile). head_of f.versions) new.store.files o

      anew : (it : Item) (x : IsItem old new it) → own_pages it.next ≡ own_pages it.next
          → told_of x.now.versions it.next ≡ head_after (told_of x.file.versions it.last) it.next.block (own_pages it.next)
      anew it x e =
          same_head (told_of x.now.versions it.next) (head_after (told_of x.file.versions it.last) it.next.block (own_pages it.next)) refl x.grown.first
          (ap (λ v. v.serial) x.version_is) x.grown.kept

      at_place : (o : ℕ) → IsOf items (suc o) ⊎ IsBesides items (suc o) → slice_get (heads_after rs heads) o ≡ slice_get (heads_of new.store.files) o
      at_place o (inr none) =
          after_other rs heads o (apart_from o none) ∙ at_old o ∙ ap (option_map (λ (f : LaidFile). head_of f.versions)) (sym (g.beside o none)) ∙ sym (at_new o)
      at_place o (inl f) =
          let x : IsItem old new f.item = g.each f.place f.item f.at in
          let r : IsFlushOf rs f.place f.item = flush_of f.place f.item f.at in
          let object = f.object_is in
          let same : r.renewal.work.object ≡ f.item.work.object = ap (λ w. w.object) r.work_is in
          let place : o ≡ r.renewal.work.object - 1 = omega (arith, object, same) in
          let here : o ≡ f.item.work.object - 1 = omega (arith, object) in
          let was : slice_get heads (r.renewal.work.object - 1) ≡ Some (Some (told_of x.file.versions f.item.last)) =
          ap (slice_get heads) (sym place) ∙ at_old o ∙ ap (λ n. option_map (λ (y : LaidFile). head_of y.versions) (slice_get old.store.files n)) here
          ∙ ap (option_map (λ (y : LaidFile). head_of y.versions)) x.listed ∙ ap Some (told x.file.versions f.item.last x.grown.last_is) in
          let now : slice_get (heads_of new.store.files) o ≡ Some (Some (told_of x.now.versions f.item.next)) =
          at_new o ∙ ap (λ n. option_map (λ (y : LaidFile). head_of y.versions) (slice_get new.store.files n)) here
          ∙ ap (option_map (λ (y : LaidFile). head_of y.versions)) x.now_listed
          ∙ ap Some (told x.now.versions f.item.next (last_then x.file x.now f.item.last f.item.next x.grown)) in
          ap (slice_get (heads_after rs heads)) place
          ∙ after_here rs heads f.place r.renewal f.item.next.block (told_of x.file.versions f.item.last) two r.at r.block was
          ∙ ap (λ n. Some (Some (head_after (told_of x.file.versions f.item.last) f.item.next.block n))) (sym r.pages)
          ∙ ap (λ (h : Head). Some (Some h)) (sym (anew f.item x refl)) ∙ sym now
