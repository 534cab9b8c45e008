-- What one block operation of a turn leaves of the files that are found.
use Rattle.std.proofs.Common.{◌≡◌, ◌≢◌, ◌⊎◌, inl, inr, ℕ, ◌≤◌, ◌<◌, List, [], Some, Ok, sym, ap, ◌∙◌, subst, arith}
use Rattle.drives.specs.Changes.{Changes}
use Rattle.pair_store.specs.Blocks.{OldOrNew, SameContents, SameOthers}
use Rattle.pair_store.specs.declared.store.Blocks.{Ghosts}
use Rattle.store_changes.specs.Writes.{Content}
use Rattle.store_model.specs.Found.{LaidStore, laid, found, state_in, state_of}
use Rattle.recovery.proofs.Places.{laid_again}
use Rattle.ground_model.specs.Fronts.{TurnLeaves, TurnStops}
use Rattle.ground_model.specs.Runs.{images_of}

-- two contents agree on the blocks below a number
abbrev pub SameBelow : ℕ → Content → Content → Type 0
SameBelow count c d = (n : ℕ) → n < count → d n ≡ c n

-- contents that agree below the number of blocks stand for the same files
pub below_found : (c d : Content) (most : ℕ) (store : LaidStore) (places : List ℕ) → 0 < store.root.blocks → laid c most [] ≡ Ok (store, places)
    → SameBelow store.root.blocks c d → found d most ≡ Ok (state_in store)
below_found c d most store places some is same = ap state_of (laid_again c d most store places is (same 0 some) same)

-- contents as they were but for one block, which has its old content or the new one
pub one_of_two : (blocks : ℕ) (c d : Content) (n : ℕ) (body : List ℕ) → SameOthers n c d → d n ≡ Some body → (y x : Content) → SameBelow blocks c y → OldOrNew n body y x
    → SameBelow blocks c x ⊎ SameBelow blocks d x
one_of_two blocks c d n body others here y x same change = by change.here
  where
    same_or_not : (k : ℕ) → (k ≡ n) ⊎ (k ≢ n)
    same_or_not k = grind arith

    by : (x n ≡ y n) ⊎ (x n ≡ Some body) → SameBelow blocks c x ⊎ SameBelow blocks d x
    by (inl e) = inl (λ k small. elim (same_or_not k) [
      | inl at ↦ ap x at ∙ e ∙ ap y (sym at) ∙ same k small
      | inr ne ↦ change.others k ne ∙ same k small
    ])
    by (inr e) = inr (λ k small. elim (same_or_not k) [
      | inl at ↦ ap x at ∙ e ∙ sym here ∙ ap d (sym at)
      | inr ne ↦ change.others k ne ∙ same k small ∙ sym (others k ne)
    ])

module _ {D : Type 0} (b : Ghosts D) (most : ℕ) (old new : D) (c : Content) (store : LaidStore) (places : List ℕ) (some : 0 < store.root.blocks) (is : laid c most [] ≡ Ok (store, places))
    (known : (f : Content) → b.may_leave old (b.moment old) f → SameBelow store.root.blocks c f) where
  -- a turn that wrote nothing
  pub read_leaves : Changes b.moment b.may_leave old new SameContents → TurnLeaves (images_of b most) old new (state_in store) (state_in store)
  read_leaves changes = record {
    later = changes.later;
    past = λ t x low may. (changes.past t x (omega (arith, low)) (let l = changes.later in omega (arith, low, l))).0 may;
    within = λ t x low high may. inl (of t x low (omega (arith, high)) may);
    last = λ x may. of (b.moment new) x changes.later (omega arith) may;
  }
    where
      of : (t : ℕ) (x : Content) → b.moment old ≤ t → t ≤ b.moment new → b.may_leave new t x → found x most ≡ Ok (state_in store)
      of t x low high may =
          let from = changes.own t x low high may in
          below_found c x most store places some is (λ n small. from.2 n ∙ known from.0 from.1 n small)

  module _ (d : Content) (n : ℕ) (body : List ℕ) (others : SameOthers n c d) (here : d n ≡ Some body) (after : LaidStore) (order : List ℕ) (lies : laid d most [] ≡ Ok (after, order))
      (count : after.root.blocks ≡ store.root.blocks) (changes : Changes b.moment b.may_leave old new (OldOrNew n body)) where
    some_after : 0 < after.root.blocks
    some_after = subst (λ m. 0 < m) (sym count) some

    found_after : (x : Content) → SameBelow store.root.blocks d x → found x most ≡ Ok (state_in after)
    found_after x same = below_found d x most after order some_after lies (subst (λ (m : ℕ). SameBelow m d x) (sym count) same)

    either : (t : ℕ) (x : Content) → b.moment old ≤ t → t ≤ b.moment new → b.may_leave new t x → (found x most ≡ Ok (state_in store)) ⊎ (found x most ≡ Ok (state_in after))
    either t x low high may =
        let from = changes.own t x low high may in
        elim (one_of_two store.root.blocks c d n body others here from.0 x (known from.0 from.1) from.2) [
          | inl same ↦ inl (below_found c x most store places some is same)
          | inr same ↦ inr (found_after x same)
        ]

    -- a turn that wrote one block
    pub write_leaves : ((f : Content) → b.may_leave new (b.moment new) f → SameBelow store.root.blocks d f) → TurnLeaves (images_of b most) old new (state_in store) (state_in after)
    write_leaves settled = record {
      later = changes.later;
      past = λ t x low may. (changes.past t x (omega (arith, low)) (let l = changes.later in omega (arith, low, l))).0 may;
      within = λ t x low high may. either t x low (omega (arith, high)) may;
      last = λ x may. found_after x (settled x may);
    }

    -- a turn whose write failed
    pub write_stops : TurnStops (images_of b most) old new (state_in store) (state_in after)
    write_stops = record {
      later = changes.later;
      past = λ t x low may. (changes.past t x (omega (arith, low)) (let l = changes.later in omega (arith, low, l))).0 may;
      within = either;
    }
