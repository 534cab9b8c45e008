-- What one read makes of the mark of a block.
use Rattle.std.proofs.Common.{◌≡◌, ◌≢◌, ◌⊎◌, inl, inr, ℕ, zero, suc, Bool, true, false, not, ◌||◌, cond, List, [], ◌∷◌, ◌++◌, Option, Some, None, refl, sym, ap, subst, ◌∙◌, slice_get, nat_eq, eqb-true, eq-eqb, true≢false}
use Rattle.std.specs.List.{list_any, filter_map, cons_option}
use Rattle.std.specs.Option.{option_map_or}
use Rattle.std.specs.Prelude.{option_to_list}
use Rattle.std.proofs.lemmas.Bool.{cases_eq, ne_eqb, not-false}
use Rattle.tree_model.proofs.Paths.{told}
use Rattle.store_model.proofs.PlaceLists.{IsIn, in_head, in_tail, in_cons, in_left, in_right, none_in}
use Rattle.page_codec.specs.Values.{ReferenceValue}
use Rattle.prune_sweep.specs.declared.mark.Mark.{Mark}
use Rattle.prune_sweep.specs.declared.mark.Mark.TheVariants.{Unseen, Next, Wanted}
use Rattle.prune_sweep.specs.declared.slots.Following.{Following}
use Rattle.prune_sweep.specs.Marks.{mark_at, is_unseen, as_shared}
use Rattle.prune_sweep.specs.Slots.{new_block, shared_block, new_blocks, shared_blocks}
use Rattle.prune_sweep.specs.Causes.{is_among, has_seen}
use Rattle.prune_sweep.specs.Reading.{shared_at, slots_at, Turned}
use Rattle.prune_sweep.proofs.SlotSteps.{is_unseen-true, or_parts}

-- a slot that names this block so
pub record SlotOf (block_of : ReferenceValue → Option ℕ) (refs : List ReferenceValue) (n : ℕ) : Type 0 where
  pub slot : ℕ
  pub reference : ReferenceValue
  pub at : slice_get refs slot ≡ Some reference
  pub names : block_of reference ≡ Some n

pub slot_of : (block_of : ReferenceValue → Option ℕ) (refs : List ReferenceValue) (n : ℕ) → IsIn (filter_map block_of refs) n → SlotOf block_of refs n
slot_of block_of [] n h = absurd (none_in n h)
slot_of block_of (r ∷ refs) n h = by (block_of r) refl (slot_of block_of refs n) h
  where
    later : SlotOf block_of refs n → SlotOf block_of (r ∷ refs) n
    later x = record { slot = suc x.slot; reference = x.reference; at = x.at; names = x.names }

    by : (o : Option ℕ) → block_of r ≡ o → (IsIn (filter_map block_of refs) n → SlotOf block_of refs n) → IsIn (cons_option o (filter_map block_of refs)) n
        → SlotOf block_of (r ∷ refs) n
    by None e on k = later (on k)
    by (Some x) e on k = elim (in_cons x n (filter_map block_of refs) k) [
      | inl is ↦ record { slot = 0; reference = r; at = refl; names = e ∙ ap Some (sym is) }
      | inr rest ↦ later (on rest)
    ]

pub of_slot : (block_of : ReferenceValue → Option ℕ) (refs : List ReferenceValue) (s : ℕ) (r : ReferenceValue) (n : ℕ)
    → slice_get refs s ≡ Some r → block_of r ≡ Some n → IsIn (filter_map block_of refs) n
of_slot block_of [] s r n at names = absurd cc
of_slot block_of (x ∷ refs) zero r n at names =
    let same : x ≡ r = cc in
    ap (λ o. list_any (nat_eq n) (cons_option o (filter_map block_of refs))) (ap block_of same ∙ names) ∙ in_head n (filter_map block_of refs)
of_slot block_of (x ∷ refs) (suc s) r n at names = by (block_of x) (of_slot block_of refs s r n at names)
  where
    by : (o : Option ℕ) → IsIn (filter_map block_of refs) n → IsIn (cons_option o (filter_map block_of refs)) n
    by None h = h
    by (Some y) h = in_tail y n (filter_map block_of refs) h

-- what was not seen: each block of the list, and none of it is there twice
pub fresh_in : (marks : List Mark) (blocks : List ℕ) (n : ℕ) → has_seen marks blocks ≡ false → IsIn blocks n → mark_at marks n ≡ Unseen
fresh_in marks [] n h i = absurd (none_in n i)
fresh_in marks (x ∷ blocks) n h i =
    let parts = or_parts (not (is_unseen (mark_at marks x))) (is_among x blocks || has_seen marks blocks) h in
    elim (in_cons x n blocks i) [
      | inl e ↦ ap (mark_at marks) e ∙ is_unseen-true (mark_at marks x) (not-false _ parts.0)
      | inr rest ↦ fresh_in marks blocks n (or_parts (is_among x blocks) (has_seen marks blocks) parts.1).1 rest
    ]

pub once : (marks : List Mark) (blocks : List ℕ) (n : ℕ) → has_seen marks (blocks ++ n ∷ []) ≡ false → IsIn blocks n → ⊥
once marks [] n h i = none_in n i
once marks (x ∷ blocks) n h i =
    let parts = or_parts (not (is_unseen (mark_at marks x))) (is_among x (blocks ++ n ∷ []) || has_seen marks (blocks ++ n ∷ [])) h in
    let rest = or_parts (is_among x (blocks ++ n ∷ [])) (has_seen marks (blocks ++ n ∷ [])) parts.1 in
    elim (in_cons x n blocks i) [
      | inl e ↦ true≢false (sym (in_right blocks (n ∷ []) x (subst (λ k. IsIn (k ∷ []) x) (sym e) (in_head x []))) ∙ rest.0)
      | inr in_rest ↦ once marks blocks n rest.1 in_rest
    ]

-- What a read made of the mark of block n: it is the block that was read, the next version, a new place, a page of the version before, or as it was.
pub data TurnedTo (block : ℕ) (to : Mark) (following : Following) (level : ℕ) (refs : List ReferenceValue) (next : Option ℕ) (old : Mark) (n : ℕ) (new : Mark) : Type 0 where
  is_read : n ≡ block → new ≡ to → TurnedTo block to following level refs next old n new
  is_next : n ≢ block → next ≡ Some n → old ≡ Unseen → new ≡ Next → TurnedTo block to following level refs next old n new
  is_new : n ≢ block → SlotOf (new_block following) refs n → old ≡ Unseen → new ≡ Wanted level → TurnedTo block to following level refs next old n new
  is_shared : n ≢ block → SlotOf (shared_block following) refs n → new ≡ as_shared level old → TurnedTo block to following level refs next old n new
  is_same : n ≢ block → new ≡ old → TurnedTo block to following level refs next old n new

shared_wanted : (level : ℕ) (b : Bool) → cond b (as_shared level (Wanted level)) (Wanted level) ≡ Wanted level
shared_wanted level true = refl
shared_wanted level false = refl

pub turned_to : (block : ℕ) (to : Mark) (following : Following) (level : ℕ) (refs : List ReferenceValue) (next : Option ℕ) (old new : List Mark)
    → Turned block to following level refs next old new → (n : ℕ) → TurnedTo block to following level refs next (mark_at old n) n (mark_at new n)
turned_to block to following level refs next old new t n = by_block (cases_eq n block)
  where
    news : List ℕ
    news = new_blocks following refs

    shares : List ℕ
    shares = shared_blocks following refs

    rest : Mark
    rest = slots_at following level refs (mark_at old) n

    slots : n ≢ block → mark_at new n ≡ rest → TurnedTo block to following level refs next (mark_at old n) n (mark_at new n)
    slots ne e = elim (told (is_among n news)) [
      | inl among ↦ is_new ne (slot_of (new_block following) refs n among)
          (fresh_in old (news ++ option_to_list next) n t.fresh (in_left news (option_to_list next) n among))
          (e ∙ ap (λ b. cond (is_among n shares) (as_shared level (cond b (Wanted level) (mark_at old n))) (cond b (Wanted level) (mark_at old n))) among
          ∙ shared_wanted level (is_among n shares))
      | inr not_new ↦
          let plain : mark_at new n ≡ shared_at level shares (mark_at old) n =
          e ∙ ap (λ b. cond (is_among n shares) (as_shared level (cond b (Wanted level) (mark_at old n))) (cond b (Wanted level) (mark_at old n))) not_new in
          elim (told (is_among n shares)) [
            | inl shared ↦ is_shared ne (slot_of (shared_block following) refs n shared)
                (plain ∙ ap (λ b. cond b (as_shared level (mark_at old n)) (mark_at old n)) shared)
            | inr not_shared ↦ is_same ne (plain ∙ ap (λ b. cond b (as_shared level (mark_at old n)) (mark_at old n)) not_shared)
          ]
    ]

    is_of : (o : Option ℕ) → option_map_or (nat_eq n) o false ≡ true → o ≡ Some n
    is_of None h = absurd (true≢false (sym h))
    is_of (Some x) h = ap Some (sym (eqb-true n x h))

    by_block : (n ≡ block) ⊎ (n ≢ block) → TurnedTo block to following level refs next (mark_at old n) n (mark_at new n)
    by_block (inl e) = is_read e (t.marks n ∙ ap (λ b. cond b to (cond (option_map_or (nat_eq n) next false) Next rest)) (eq-eqb n block e))
    by_block (inr ne) =
        let off : mark_at new n ≡ cond (option_map_or (nat_eq n) next false) Next rest =
        t.marks n ∙ ap (λ b. cond b to (cond (option_map_or (nat_eq n) next false) Next rest)) (ne_eqb n block ne) in
        elim (told (option_map_or (nat_eq n) next false)) [
          | inl is ↦
              let same : next ≡ Some n = is_of next is in
              is_next ne same
              (fresh_in old (news ++ option_to_list next) n t.fresh
              (in_right news (option_to_list next) n (ap (λ o. list_any (nat_eq n) (option_to_list o)) same ∙ in_head n [])))
              (off ∙ ap (λ b. cond b Next rest) is)
          | inr not_next ↦ slots ne (off ∙ ap (λ b. cond b Next rest) not_next)
        ]

-- what a slot names as a new place
pub turned_new : (block : ℕ) (to : Mark) (following : Following) (level : ℕ) (refs : List ReferenceValue) (next : Option ℕ) (old new : List Mark)
    → Turned block to following level refs next old new → mark_at old block ≢ Unseen
    → (s : ℕ) (r : ReferenceValue) (x : ℕ) → slice_get refs s ≡ Some r → new_block following r ≡ Some x → mark_at new x ≡ Wanted level
turned_new block to following level refs next old new t seen s r x at names =
    t.marks x
    ∙ ap (λ b. cond b to (cond (option_map_or (nat_eq x) next false) Next (slots_at following level refs (mark_at old) x))) (ne_eqb x block off)
    ∙ ap (λ b. cond b Next (slots_at following level refs (mark_at old) x)) (not_next next refl)
    ∙ ap (λ b. cond (is_among x (shared_blocks following refs)) (as_shared level (cond b (Wanted level) (mark_at old x))) (cond b (Wanted level) (mark_at old x))) among
    ∙ shared_wanted level (is_among x (shared_blocks following refs))
  where
    among : IsIn (new_blocks following refs) x
    among = of_slot (new_block following) refs s r x at names

    was : mark_at old x ≡ Unseen
    was = fresh_in old (new_blocks following refs ++ option_to_list next) x t.fresh (in_left (new_blocks following refs) (option_to_list next) x among)

    off : x ≢ block
    off e = seen (ap (mark_at old) (sym e) ∙ was)

    not_next : (o : Option ℕ) → next ≡ o → option_map_or (nat_eq x) o false ≡ false
    not_next None e = refl
    not_next (Some y) e = ne_eqb x y (λ is. once old (new_blocks following refs) x
        (ap (λ o. has_seen old (new_blocks following refs ++ option_to_list o)) (ap Some is ∙ sym e) ∙ t.fresh) among)

-- and as a page of the version before
pub data SharedTo (block : ℕ) (to : Mark) (level : ℕ) (next : Option ℕ) (old : Mark) (x : ℕ) (new : Mark) : Type 0 where
  share_read : x ≡ block → new ≡ to → SharedTo block to level next old x new
  share_next : next ≡ Some x → SharedTo block to level next old x new
  share_wanted : new ≡ Wanted level → SharedTo block to level next old x new
  share_so : new ≡ as_shared level old → SharedTo block to level next old x new

pub turned_shared : (block : ℕ) (to : Mark) (following : Following) (level : ℕ) (refs : List ReferenceValue) (next : Option ℕ) (old new : List Mark)
    → Turned block to following level refs next old new
    → (s : ℕ) (r : ReferenceValue) (x : ℕ) → slice_get refs s ≡ Some r → shared_block following r ≡ Some x
    → SharedTo block to level next (mark_at old x) x (mark_at new x)
turned_shared block to following level refs next old new t s r x at names = by (cases_eq x block)
  where
    among : IsIn (shared_blocks following refs) x
    among = of_slot (shared_block following) refs s r x at names

    named : Bool → Mark
    named b = cond b (Wanted level) (mark_at old x)

    rest : Mark
    rest = slots_at following level refs (mark_at old) x

    slots : mark_at new x ≡ rest → SharedTo block to level next (mark_at old x) x (mark_at new x)
    slots e = elim (told (is_among x (new_blocks following refs))) [
      | inl new_too ↦ share_wanted (e ∙ ap (λ b. cond (is_among x (shared_blocks following refs)) (as_shared level (named b)) (named b)) new_too
          ∙ shared_wanted level (is_among x (shared_blocks following refs)))
      | inr not_new ↦ share_so (e ∙ ap (λ b. cond (is_among x (shared_blocks following refs)) (as_shared level (named b)) (named b)) not_new
          ∙ ap (λ b. cond b (as_shared level (mark_at old x)) (mark_at old x)) among)
    ]

    is_of : (o : Option ℕ) → option_map_or (nat_eq x) o false ≡ true → o ≡ Some x
    is_of None h = absurd (true≢false (sym h))
    is_of (Some y) h = ap Some (sym (eqb-true x y h))

    by : (x ≡ block) ⊎ (x ≢ block) → SharedTo block to level next (mark_at old x) x (mark_at new x)
    by (inl e) = share_read e (t.marks x ∙ ap (λ b. cond b to (cond (option_map_or (nat_eq x) next false) Next rest)) (eq-eqb x block e))
    by (inr ne) =
        let off : mark_at new x ≡ cond (option_map_or (nat_eq x) next false) Next rest =
        t.marks x ∙ ap (λ b. cond b to (cond (option_map_or (nat_eq x) next false) Next rest)) (ne_eqb x block ne) in
        elim (told (option_map_or (nat_eq x) next false)) [
          | inl is ↦ share_next (is_of next is)
          | inr not_next ↦ slots (off ∙ ap (λ b. cond b Next rest) not_next)
        ]
