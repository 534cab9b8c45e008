-- Writing the blocks of a new store: one more block, and at last the table.
use Rattle.std.proofs.Common.{◌≡◌, ◌≢◌, ◌⊎◌, inl, inr, ℕ, ◌+◌, ◌^◌, ◌<◌, ◌≤◌, List, Option, Some, refl, sym, ◌∙◌, subst, arith}
use Rattle.drives.specs.Changes.{Changes, LeavesNow}
use Rattle.drives.proofs.Composing.{goes_on, leaves_now, stays, weaker}
use Rattle.pair_store.specs.Blocks.{OldOrNew, SameOthers}
use Rattle.new_store.specs.declared.store.NewStore.{NewStore}
use Rattle.new_store.specs.Formatting.{AreWritten, IsFilled, IsFilling, IsOuter, SameBeyond}
use Rattle.new_store.specs.Layout.{HasNewStore, new_block}
use Rattle.new_store.specs.Sizes.{used_blocks}

-- an outer block is none of those that are written before the table
pub outer_other : (files n k : ℕ) → 0 < n → n < used_blocks files → IsOuter files k → k ≢ n
outer_other files n k some low (inl first) = λ e. omega (arith, some, first, e)
outer_other files n k some low (inr beyond) = λ e. omega (arith, low, beyond, e)

beyond_other : (files k : ℕ) → used_blocks files ≤ k → k ≢ 0
beyond_other files k beyond = λ e. omega (arith, beyond, e)

one_more : (m n : ℕ) → m < n + 1 → (m ≡ n) ⊎ ((m < n) × (m ≢ n))
one_more m n low = grind arith

-- what holds of each block up to one, and of that one
up_to : (P Q : ℕ → Type 0) (n : ℕ) → Q n → ((m : ℕ) → m ≢ n → P m → Q m) → ((m : ℕ) → 0 < m → m < n → P m) → (m : ℕ) → 0 < m → m < n + 1 → Q m
up_to P Q n here kept before m some low =
    elim (one_more m n low) [
      | inl same ↦ subst Q (sym same) here
      | inr other ↦ kept m other.1 (before m some other.0)
    ]

-- what a write of a block says
pub record WroteBlock {D : Type 0} (moment : D → ℕ) (left : D → ℕ → (ℕ → Option (List ℕ)) → Type 0) (content : D → ℕ → Option (List ℕ)) (settled settled_always : D → ℕ → Type 0) (mid new : D) (n : ℕ) (body : List ℕ) : Type 0 where
  pub written : content new n ≡ Some body
  pub others : SameOthers n (content mid) (content new)
  pub settles : settled new n
  pub settles_always : settled_always new n
  pub kept : (k : ℕ) → k ≢ n → settled mid k → settled new k
  pub kept_always : (k : ℕ) → k ≢ n → settled_always mid k → settled_always new k
  pub images_others : Changes moment left mid new (SameOthers n)
  pub images_done : (f : ℕ → Option (List ℕ)) → left new (moment new) f → f n ≡ Some body

module _ {D : Type 0} (moment : D → ℕ) (left : D → ℕ → (ℕ → Option (List ℕ)) → Type 0) (s : NewStore) where
  -- no block is written yet
  pub filling_none : (d : D) → moment d < 2 ^ 64 → Changes moment left d d (IsFilling s.files)
  filling_none d clock = stays moment left d (IsFilling s.files) clock (λ f k _. refl)

  -- one more block
  pub filling_more : (n : ℕ) (old mid new : D) → 0 < n → n < used_blocks s.files → Changes moment left old mid (IsFilling s.files) → Changes moment left mid new (SameOthers n) → Changes moment left old new (IsFilling s.files)
  filling_more n old mid new some low first second =
      goes_on moment left old mid new (IsFilling s.files) (IsFilling s.files) (SameOthers n) (IsFilling s.files)
      first
      (leaves_now moment left old mid (IsFilling s.files) first)
      second
      (λ f g _ r. r)
      (λ f g h _ r t k outer. t k (outer_other s.files n k some low outer) ∙ r k outer)

  module _ (content : D → ℕ → Option (List ℕ)) (settled settled_always : D → ℕ → Type 0) where
    pub written_more : (mid new : D) (n : ℕ) → AreWritten s n (content mid) (settled mid) (settled_always mid) (left mid (moment mid)) → WroteBlock moment left content settled settled_always mid new n (new_block s n) → AreWritten s (n + 1) (content new) (settled new) (settled_always new) (left new (moment new))
    written_more mid new n before wrote = record {
      contents = up_to (λ (m : ℕ). content mid m ≡ Some (new_block s m)) (λ (m : ℕ). content new m ≡ Some (new_block s m)) n wrote.written (λ m ne has. wrote.others m ne ∙ has) before.contents;
      settled_each = up_to (settled mid) (settled new) n wrote.settles wrote.kept before.settled_each;
      always_each = up_to (settled_always mid) (settled_always new) n wrote.settles_always wrote.kept_always before.always_each;
      images = λ f image.
          let from = leaves_now moment left mid new (SameOthers n) wrote.images_others f image in
          up_to (λ (m : ℕ). from.0 m ≡ Some (new_block s m)) (λ (m : ℕ). f m ≡ Some (new_block s m)) n (wrote.images_done f image) (λ m ne has. from.2 m ne ∙ has) (before.images from.0 from.1);
    }

  -- until the table is written, block 0 has its content
  pub filling_filled : (old new : D) → Changes moment left old new (IsFilling s.files) → Changes moment left old new (IsFilled s)
  filling_filled old new changes = weaker moment left old new (IsFilling s.files) (IsFilled s) changes
      (λ f g _ r. record { beyond = λ k beyond. r k (inr beyond); table = inl (r 0 (inl refl)) })

  pub filling_beyond : (old new : D) → Changes moment left old new (IsFilling s.files) → Changes moment left old new (SameBeyond s.files)
  filling_beyond old new changes = weaker moment left old new (IsFilling s.files) (SameBeyond s.files) changes (λ f g _ r k beyond. r k (inr beyond))

  some_or_none : (n : ℕ) → (n ≡ 0) ⊎ (0 < n)
  some_or_none n = grind arith

  first_other : (n : ℕ) → 0 < n → n ≢ 0
  first_other n some = λ e. omega (arith, some, e)

  -- block 0 and all the others
  pub new_store : (f : ℕ → Option (List ℕ)) → f 0 ≡ Some (new_block s 0) → ((n : ℕ) → 0 < n → n < used_blocks s.files → f n ≡ Some (new_block s n)) → HasNewStore s f
  new_store f table pages n low =
      elim (some_or_none n) [
        | inl none ↦ subst (λ (m : ℕ). f m ≡ Some (new_block s m)) (sym none) table
        | inr some ↦ pages n some low
      ]

  module _ (old mid new : D) (pages : Changes moment left old mid (IsFilling s.files)) where
    module _ (done : (f : ℕ → Option (List ℕ)) → left mid (moment mid) f → (n : ℕ) → 0 < n → n < used_blocks s.files → f n ≡ Some (new_block s n)) where
      abbrev IsReady : (ℕ → Option (List ℕ)) → (ℕ → Option (List ℕ)) → Type 0
      IsReady f g = IsFilling s.files f g × ((n : ℕ) → 0 < n → n < used_blocks s.files → g n ≡ Some (new_block s n))

      ready_now : LeavesNow moment left old mid IsReady
      ready_now g image =
          let from = leaves_now moment left old mid (IsFilling s.files) pages g image in
          (from.0, from.1, (from.2, done g image))

      table_filled : (f g h : ℕ → Option (List ℕ)) → IsReady f g → OldOrNew 0 (new_block s 0) g h → IsFilled s f h
      table_filled f g h r t = record {
        beyond = λ k beyond. t.others k (beyond_other s.files k beyond) ∙ r.0 k (inr beyond);
        table = elim t.here [
          | inl e ↦ inl (e ∙ r.0 0 (inl refl))
          | inr e ↦ inr (new_store h e (λ n some low. t.others n (first_other n some) ∙ r.1 n some low))
        ];
      }

      -- the table comes last
      pub filled : Changes moment left mid new (OldOrNew 0 (new_block s 0)) → Changes moment left old new (IsFilled s)
      filled table =
          goes_on moment left old mid new (IsFilling s.files) IsReady (OldOrNew 0 (new_block s 0)) (IsFilled s)
          pages
          ready_now
          table
          (λ f g _ r. record { beyond = λ k beyond. r k (inr beyond); table = inl (r 0 (inl refl)) })
          (λ f g h _ r t. table_filled f g h r t)

      -- and then each image is the new store
      pub filled_done : Changes moment left mid new (SameOthers 0) → (f : ℕ → Option (List ℕ)) → left new (moment new) f → f 0 ≡ Some (new_block s 0) → HasNewStore s f
      filled_done table f image first =
          let from = leaves_now moment left mid new (SameOthers 0) table f image in
          new_store f first (λ n some low. from.2 n (first_other n some) ∙ done from.0 from.1 n some low)

    -- all blocks that are not used have their contents
    pub filled_beyond : Changes moment left mid new (SameOthers 0) → Changes moment left old new (SameBeyond s.files)
    filled_beyond table =
        goes_on moment left old mid new (IsFilling s.files) (IsFilling s.files) (SameOthers 0) (SameBeyond s.files)
        pages
        (leaves_now moment left old mid (IsFilling s.files) pages)
        table
        (λ f g _ r k beyond. r k (inr beyond))
        (λ f g h _ r t k beyond. t k (beyond_other s.files k beyond) ∙ r k (inr beyond))
