-- The same steps on two trees, of which the second is what another update made of the first: while they read nothing that
-- the other is seen to have written, each step does the same on both.
use Rattle.std.proofs.Common.{◌≡◌, ℕ, zero, suc, ◌+◌, ◌<◌, ◌^◌, Bool, true, false, not, ◌&&◌, cond, List, [], ◌∷◌, ◌++◌, ◌⊎◌, inl, inr, refl, sym, ap, subst, ◌∙◌, map, Option, Some, is_some, append_assoc, append-nil, arith}
use Rattle.std.specs.Option.{option_map_or}
use Rattle.std.specs.Cmp.{first_so, second_so}
use Rattle.std.specs.FinMap as finite
use Rattle.afs_base.specs.Path.{is_prefix}
use Rattle.afs_base.specs.declared.kind.Kind.{Kind}
use Rattle.afs_base.specs.declared.kind.Kind.TheVariants.{Data, Slot}
use Rattle.tree_model.specs.declared.step.Step.{Step}
use Rattle.tree_model.specs.declared.step.Step.TheVariants.{ReadAt, ListAt, WriteAt, MakeAt, DropAt}
use Rattle.tree_model.specs.declared.step.Reply.TheVariants.{Bytes, Slots, Done, Absent, Present}
use Rattle.tree_model.specs.Trees.{Tree, has, IsTree, path_of, can_make, after, reply_of, tree_after, child_bits, numbers_below, every_slot}
use Rattle.tree_model.specs.Accesses.{Place, is_among, slot_of, slots_at, on_the_way, own_reads, step_reads, step_writes, all_writes}
use Rattle.tree_model.specs.Merge.{AgreeAt, MovesAlike, Alike}
use Rattle.tree_model.proofs.Paths.{told, both_true, same_self, prefix_above, prefix_append, prefix_trans, not_true}
use Rattle.tree_model.proofs.TreeFacts.{get_insert, absent, tree_step}
use Rattle.tree_model.proofs.Bits.{bits_none, bits_more}
use Rattle.tree_model.proofs.Effects.{Effect, Keep, Put, Cut, effect_of, applied, after_is, settled, agree_still, there_still}
use Rattle.tree_model.proofs.PlaceFacts.{Way, among_left, among_right, among_either, among_first, among_told, not_among, among_if, if_among, way_told, on_way, way_filter, slots_told, slots_among}
use Rattle.tree_model.proofs.Theirs.{way_child, seen, spared, not_there}

-- ---- the same effect on two trees

agree_at_still : (e : Effect) (t u : Tree) (p : List ℕ) (k : Kind) → AgreeAt t u p k → AgreeAt (applied e t) (applied e u) p k
agree_at_still e t u p Data is = agree_still e t u p is
agree_at_still e t u p (Slot k) is = there_still e t u (p ++ k ∷ []) is

moves_still : (a b : Tree) (e : Effect) (t u : Tree) (x : Place) → MovesAlike a b t u x → MovesAlike a b (applied e t) (applied e u) x
moves_still a b e t u x m = record {
  same = agree_at_still e t u x.0 x.1 m.same;
  above = λ q h. there_still e t u q (m.above q h);
  base = m.base;
}

at_still : (a b : Tree) (e : Effect) (t u : Tree) (q : List ℕ)
    → (finite.get t q ≡ finite.get u q) ⊎ ((finite.get t q ≡ finite.get a q) × (finite.get u q ≡ finite.get b q))
    → (finite.get (applied e t) q ≡ finite.get (applied e u) q) ⊎ ((finite.get (applied e t) q ≡ finite.get a q) × (finite.get (applied e u) q ≡ finite.get b q))
at_still a b e t u q was = by (settled e q) was
  where
    by : ((t : Tree) → finite.get (applied e t) q ≡ finite.get t q) ⊎ ((t u : Tree) → finite.get (applied e t) q ≡ finite.get (applied e u) q)
        → (finite.get t q ≡ finite.get u q) ⊎ ((finite.get t q ≡ finite.get a q) × (finite.get u q ≡ finite.get b q))
        → (finite.get (applied e t) q ≡ finite.get (applied e u) q) ⊎ ((finite.get (applied e t) q ≡ finite.get a q) × (finite.get (applied e u) q ≡ finite.get b q))
    by (inl left) (inl is) = inl (left t ∙ is ∙ sym (left u))
    by (inl left) (inr each) = inr (left t ∙ each.0, left u ∙ each.1)
    by (inr sets) was = inl (sets t u)

-- the bits of the slots agree where the pages below them do
bits_same : (t u : Tree) (p : List ℕ) (n : ℕ) → ((k : ℕ) → k < n → has u (p ++ k ∷ []) ≡ has t (p ++ k ∷ [])) → child_bits u p (numbers_below n) ≡ child_bits t p (numbers_below n)
bits_same t u p zero is = bits_none u p ∙ sym (bits_none t p)
bits_same t u p (suc n) is =
    let rest = bits_same t u p n (λ k h. is k (omega arith)) in
    bits_more u p n ∙ (λ i. rest i + cond (is n (omega arith) i) (2 ^ n) 0) ∙ sym (bits_more t p n)

put_there : (p bytes : List ℕ) (t : Tree) → finite.get (finite.insert t p bytes) p ≡ Some bytes
put_there p bytes t = get_insert t p bytes p ∙ ap (λ b. cond b (Some bytes) (finite.get t p)) (same_self p)

-- what one step does on both trees
pub record StepsAlike (a b t u : Tree) (done : List Place) (step : Step) : Type 0 where
  pub reply : reply_of u step ≡ reply_of t step
  pub reads : step_reads u done step ≡ step_reads t done step
  pub writes : step_writes u step ≡ step_writes t step
  pub effect : effect_of u step ≡ effect_of t step
  pub read : (x : Place) → is_among (step_reads t done step) x ≡ true → MovesAlike a b t u x
  pub written : (x : Place) → is_among (step_writes t step) x ≡ true → MovesAlike a b (applied (effect_of t step) t) (applied (effect_of t step) u) x

-- both trees go on alike
pub go_on : (a b t u : Tree) (met done : List Place) (step : Step) → Alike a b t u met done → StepsAlike a b t u done step
    → Alike a b (after t step) (after u step) (met ++ step_reads t done step) (done ++ step_writes t step)
go_on a b t u met done step al s =
    let e = effect_of t step in
    let F : Tree → Type 0 = λ v. Alike a b v (after u step) (met ++ step_reads t done step) (done ++ step_writes t step) in
    let G : Tree → Type 0 = λ v. Alike a b (applied e t) v (met ++ step_reads t done step) (done ++ step_writes t step) in
    let T : Tree → Type 0 = IsTree in
    let mine = after_is t step in
    let other : after u step ≡ applied e u = after_is u step ∙ ap (λ (x : Effect). applied x u) s.effect in
    subst F (sym mine) (subst G (sym other) (record {
      tree_of_a = subst T mine (tree_step t step al.tree_of_a);
      tree_of_b = subst T other (tree_step u step al.tree_of_b);
      at = λ q. at_still a b e t u q (al.at q);
      read = λ x h. elim (among_either met (step_reads t done step) x h) [
        | inl g ↦ moves_still a b e t u x (al.read x g)
        | inr g ↦ moves_still a b e t u x (s.read x g)
      ];
      written = λ x h. elim (among_either done (step_writes t step) x h) [
        | inl g ↦ moves_still a b e t u x (al.written x g)
        | inr g ↦ s.written x g
      ];
    }))

-- the pages above a path are all there
abbrev pub IsReached : Tree → List ℕ → Type 0
IsReached t p = (c : Way) → is_prefix (path_of c) p ≡ true → has t c.0 ≡ true

reached_there : (t : Tree) (p : List ℕ) → IsTree t → has t p ≡ true → IsReached t p
reached_there t p tree there c h = tree.closed p c.0 (prefix_trans c.0 (path_of c) p (prefix_above c.0 c.1) h) there

reached_child : (t : Tree) (d : Way) → IsTree t → has t d.0 ≡ true → IsReached t (path_of d)
reached_child t d tree there c h = elim (way_child c d.0 d.1 h) [
  | inl is ↦ ap (has t) is.0 ∙ there
  | inr above ↦ reached_there t d.0 tree there c above
]

module _ (a : Tree) (theirs : List Step) (tree : IsTree a) where
  abbrev other : Tree
  other = tree_after a theirs

  abbrev shown : Place → Bool
  shown x = seen other (all_writes a theirs) x

  module _ (t u : Tree) (met done : List Place) (al : Alike a other t u met done) where
    -- no slot that leads to a path, of a page that is there, was seen written
    abbrev IsFree : List ℕ → Type 0
    IsFree p = (c : Way) → is_prefix (path_of c) p ≡ true → has t c.0 ≡ true → shown (slot_of c) ≡ false

    free_above : (p q : List ℕ) → is_prefix q p ≡ true → IsFree p → IsFree q
    free_above p q h free c g there = free c (prefix_trans (path_of c) q p g h) there

    -- both trees have a page below a slot, or neither
    agree_child : (q : List ℕ) (k : ℕ) → has t q ≡ has u q → IsFree (q ++ k ∷ []) → has t (q ++ k ∷ []) ≡ has u (q ++ k ∷ [])
    agree_child q k here free = elim (told (has t q)) [
      | inl e ↦
          let kept = spared a theirs (q ++ k ∷ []) tree (λ c h. free c h (reached_child t (q, k) al.tree_of_a e c h)) in
          elim (al.at (q ++ k ∷ [])) [
            | inl is ↦ ap is_some is
            | inr each ↦ ap is_some each.0 ∙ sym kept.there ∙ sym (ap is_some each.1)
          ]
      | inr e ↦ not_there t q k al.tree_of_a e ∙ sym (not_there u q k al.tree_of_b (sym here ∙ e))
    ]

    agree_down : (q r : List ℕ) → has t q ≡ has u q → IsFree (q ++ r) → has t (q ++ r) ≡ has u (q ++ r)
    agree_down q [] here free = ap (has t) (append-nil q) ∙ here ∙ ap (has u) (sym (append-nil q))
    agree_down q (k ∷ r) here free =
        let way = append_assoc q (k ∷ []) r in
        let G : List ℕ → Type 0 = IsFree in
        let free' : IsFree ((q ++ k ∷ []) ++ r) = subst G (sym way) free in
        ap (has t) (sym way)
        ∙ agree_down (q ++ k ∷ []) r (agree_child q k here (free_above ((q ++ k ∷ []) ++ r) (q ++ k ∷ []) (prefix_append (q ++ k ∷ []) r) free')) free'
        ∙ ap (has u) way

    -- both trees have a page at a path, or neither
    agree : (p : List ℕ) → IsFree p → has t p ≡ has u p
    agree p free = agree_down [] p (al.tree_of_a.root ∙ sym al.tree_of_b.root) free

    -- and so had both bases, where the pages above are there
    bases : (p : List ℕ) → IsReached t p → IsFree p → has a p ≡ has other p
    bases p reached free = sym (spared a theirs p tree (λ c h. free c h (reached c h))).there

    -- the data agree where they were not seen written
    agree_bytes : (p : List ℕ) → has t p ≡ true → IsFree p → shown (p, Data) ≡ false → finite.get t p ≡ finite.get u p
    agree_bytes p there free hidden =
        let kept = spared a theirs p tree (λ c h. free c h (reached_there t p al.tree_of_a there c h)) in
        elim (al.at p) [ inl is ↦ is | inr each ↦ each.0 ∙ sym (kept.bytes hidden) ∙ sym each.1 ]

    moves : (x : Place) → IsReached t x.0 → IsFree x.0 → AgreeAt t u x.0 x.1 → MovesAlike a other t u x
    moves x reached free is = record {
      same = is;
      above = λ q h. agree q (free_above x.0 q h free);
      base = λ q h. bases q (λ c g. reached c (prefix_trans (path_of c) q x.0 g h)) (free_above x.0 q h free);
    }

    way_same : (p : List ℕ) → IsFree p → on_the_way u p ≡ on_the_way t p
    way_same p free = ap (map slot_of) (way_filter (λ (c : Way). has u c.0) (λ (c : Way). has t c.0) p
        (λ c h. sym (agree c.0 (free_above p c.0 (prefix_trans c.0 (path_of c) p (prefix_above c.0 c.1) h) free))))

    way_moves : (p : List ℕ) → IsFree p → (x : Place) → is_among (on_the_way t p) x ≡ true → MovesAlike a other t u x
    way_moves p free x h =
        let found = way_told t p x h in
        let c = found.0 in
        let M : Place → Type 0 = MovesAlike a other t u in
        subst M (sym found.1) (moves (slot_of c)
        (reached_there t c.0 al.tree_of_a found.2)
        (free_above p c.0 (prefix_trans c.0 (path_of c) p (prefix_above c.0 c.1) found.3) free)
        (agree (path_of c) (free_above p (path_of c) found.3 free)))

    -- ---- each step

    own_moves : (p : List ℕ) → has t p ≡ true → IsFree p → (k : Kind) → AgreeAt t u p k → MovesAlike a other t u (p, k)
    own_moves p there free k is = moves (p, k) (reached_there t p al.tree_of_a there) free is

    pub same_step : (step : Step) → ((x : Place) → is_among (step_reads t done step) x ≡ true → shown x ≡ false) → StepsAlike a other t u done step
    same_step (ReadAt p) hidden =
        let free : IsFree p = λ c h there. hidden (slot_of c) (among_left (on_the_way t p) (own_reads t done (ReadAt p)) (slot_of c) (on_way t p c there h)) in
        let there = agree p free in
        let bytes : finite.get t p ≡ finite.get u p = read_same p free hidden in
        record {
          reply = ap (λ (o : Option (List ℕ)). option_map_or Bytes o Absent) (sym bytes);
          reads = λ i. way_same p free i ++ cond (sym there i && not (is_among done (p, Data))) ((p, Data) ∷ []) [];
          writes = refl;
          effect = refl;
          read = λ x h. elim (among_either (on_the_way t p) (own_reads t done (ReadAt p)) x h) [
            | inl g ↦ way_moves p free x g
            | inr g ↦
                let own = among_if (has t p && not (is_among done (p, Data))) ((p, Data) ∷ []) x g in
                let M : Place → Type 0 = MovesAlike a other t u in
                elim (among_told (p, Data) [] x own.1) [
                  | inl is ↦ subst M (sym is) (own_moves p (first_so _ _ own.0) free Data bytes)
                  | inr none ↦ not_among x none
                ]
          ];
          written = λ x h. not_among x h;
        }
      where
        read_same : (p : List ℕ) → IsFree p → ((x : Place) → is_among (step_reads t done (ReadAt p)) x ≡ true → shown x ≡ false) → finite.get t p ≡ finite.get u p
        read_same p free hidden = elim (told (has t p)) [
          | inl e ↦ elim (told (is_among done (p, Data))) [
            | inl wrote ↦ (al.written (p, Data) wrote).same
            | inr fresh ↦ agree_bytes p e free (hidden (p, Data)
                (among_right (on_the_way t p) (own_reads t done (ReadAt p)) (p, Data)
                (if_among _ ((p, Data) ∷ []) (p, Data) (both_true _ _ e (ap not fresh)) (among_first (p, Data) []))))
          ]
          | inr e ↦ absent t p e ∙ sym (absent u p (sym (agree p free) ∙ e))
        ]
    same_step (ListAt p) hidden =
        let free : IsFree p = λ c h there. hidden (slot_of c) (among_left (on_the_way t p) (own_reads t done (ListAt p)) (slot_of c) (on_way t p c there h)) in
        let there = agree p free in
        record {
          reply = elim (told (has t p)) [
            | inl e ↦ (λ i. cond (sym there i) (Slots (bits_same t u p 16 (λ k h. sym (slot_same p free hidden e k h)) i)) Absent)
            | inr e ↦ ap (λ b. cond b (Slots (child_bits u p every_slot)) Absent) (sym there ∙ e) ∙ ap (λ b. cond b (Slots (child_bits t p every_slot)) Absent) (sym e)
          ];
          reads = λ i. way_same p free i ++ cond (sym there i) (slots_at p) [];
          writes = refl;
          effect = refl;
          read = λ x h. elim (among_either (on_the_way t p) (own_reads t done (ListAt p)) x h) [
            | inl g ↦ way_moves p free x g
            | inr g ↦
                let own = among_if (has t p) (slots_at p) x g in
                let slot = slots_told p x own.1 in
                let M : Place → Type 0 = MovesAlike a other t u in
                subst M (sym slot.2) (own_moves p own.0 free (Slot slot.0) (slot_same p free hidden own.0 slot.0 slot.1))
          ];
          written = λ x h. not_among x h;
        }
      where
        slot_same : (p : List ℕ) → IsFree p → ((x : Place) → is_among (step_reads t done (ListAt p)) x ≡ true → shown x ≡ false) → has t p ≡ true
            → (k : ℕ) → k < 16 → has t (p ++ k ∷ []) ≡ has u (p ++ k ∷ [])
        slot_same p free hidden e k h =
            let own : shown (p, Slot k) ≡ false = hidden (p, Slot k)
            (among_right (on_the_way t p) (own_reads t done (ListAt p)) (p, Slot k) (if_among _ (slots_at p) (p, Slot k) e (slots_among p k h))) in
            agree (p ++ k ∷ []) (λ c g there. elim (way_child c p k g) [
              | inl is ↦ ap shown (let same : slot_of c ≡ (p, Slot k) = λ i. (is.0 i, Slot (is.1 i)) in same) ∙ own
              | inr above ↦ free c above there
            ])
    same_step (WriteAt p bytes) hidden =
        let free : IsFree p = λ c h there. hidden (slot_of c) (among_left (on_the_way t p) [] (slot_of c) (on_way t p c there h)) in
        let there = sym (agree p free) in
        record {
          reply = λ i. cond (there i) Done Absent;
          reads = λ i. way_same p free i ++ [];
          writes = λ i. cond (there i) ((p, Data) ∷ []) [];
          effect = λ i. cond (there i) (Put p bytes) Keep;
          read = λ x h. elim (among_either (on_the_way t p) [] x h) [ inl g ↦ way_moves p free x g | inr none ↦ not_among x none ];
          written = λ x h.
              let own = among_if (has t p) ((p, Data) ∷ []) x h in
              let M : Place → Type 0 = MovesAlike a other (applied (effect_of t (WriteAt p bytes)) t) (applied (effect_of t (WriteAt p bytes)) u) in
              elim (among_told (p, Data) [] x own.1) [
                | inl is ↦ subst M (sym is) (put_moves p bytes own.0 free)
                | inr none ↦ not_among x none
              ];
        }
      where
        put_moves : (p bytes : List ℕ) → has t p ≡ true → IsFree p → MovesAlike a other (applied (effect_of t (WriteAt p bytes)) t) (applied (effect_of t (WriteAt p bytes)) u) (p, Data)
        put_moves p bytes e free =
            let F : Bool → Type 0 = λ b. MovesAlike a other (applied (cond b (Put p bytes) Keep) t) (applied (cond b (Put p bytes) Keep) u) (p, Data) in
            subst F (sym e) (record {
              same = put_there p bytes t ∙ sym (put_there p bytes u);
              above = λ q h. there_still (Put p bytes) t u q (agree q (free_above p q h free));
              base = λ q h. bases q (λ c g. reached_there t p al.tree_of_a e c (prefix_trans (path_of c) q p g h)) (free_above p q h free);
            })
    same_step (MakeAt c) hidden =
        let free : IsFree (path_of c) = λ d h there. hidden (slot_of d) (among_left (on_the_way t (path_of c)) (own_reads t done (MakeAt c)) (slot_of d) (on_way t (path_of c) d there h)) in
        let up = sym (agree c.0 (free_above (path_of c) c.0 (prefix_above c.0 c.1) free)) in
        let there = sym (agree (path_of c) free) in
        record {
          reply = λ i. cond (up i) (cond (there i) Present Done) Absent;
          reads = λ i. way_same (path_of c) free i ++ cond (up i && not (there i)) (slots_at (path_of c)) [];
          writes = λ i. cond (up i && not (there i)) (slot_of c ∷ (path_of c, Data) ∷ slots_at (path_of c)) [];
          effect = λ i. cond (up i && not (there i)) (Put (path_of c) []) Keep;
          read = λ x h. elim (among_either (on_the_way t (path_of c)) (own_reads t done (MakeAt c)) x h) [
            | inl g ↦ way_moves (path_of c) free x g
            | inr g ↦ let own = among_if (can_make t c) (slots_at (path_of c)) x g in new_slots c free own.0 x own.1
          ];
          written = λ x h.
              let own = among_if (can_make t c) (slot_of c ∷ (path_of c, Data) ∷ slots_at (path_of c)) x h in
              let F : Bool → Type 0 = λ b. MovesAlike a other (applied (cond b (Put (path_of c) []) Keep) t) (applied (cond b (Put (path_of c) []) Keep) u) x in
              subst F (sym own.0) (made c free own.0 x own.1);
        }
      where
        gone : (c : Way) → can_make t c ≡ true → has t (path_of c) ≡ false
        gone c can = not_true (has t (path_of c)) (second_so (has t c.0) (not (has t (path_of c))) can)

        new_slots : (c : Way) → IsFree (path_of c) → can_make t c ≡ true → (x : Place) → is_among (slots_at (path_of c)) x ≡ true → MovesAlike a other t u x
        new_slots c free can x h =
            let slot = slots_told (path_of c) x h in
            let M : Place → Type 0 = MovesAlike a other t u in
            subst M (sym slot.2) (moves (path_of c, Slot slot.0) (reached_child t c al.tree_of_a (first_so (has t c.0) (not (has t (path_of c))) can)) free
            (not_there t (path_of c) slot.0 al.tree_of_a (gone c can)
            ∙ sym (not_there u (path_of c) slot.0 al.tree_of_b (sym (agree (path_of c) free) ∙ gone c can))))

        made : (c : Way) → IsFree (path_of c) → can_make t c ≡ true → (x : Place) → is_among (slot_of c ∷ (path_of c, Data) ∷ slots_at (path_of c)) x ≡ true
            → MovesAlike a other (applied (Put (path_of c) []) t) (applied (Put (path_of c) []) u) x
        made c free can x h =
            let M : Place → Type 0 = MovesAlike a other (applied (Put (path_of c) []) t) (applied (Put (path_of c) []) u) in
            elim (among_told (slot_of c) ((path_of c, Data) ∷ slots_at (path_of c)) x h) [
              | inl is ↦ subst M (sym is) (moves_still a other (Put (path_of c) []) t u (slot_of c)
                  (own_moves c.0 (first_so (has t c.0) (not (has t (path_of c))) can) (free_above (path_of c) c.0 (prefix_above c.0 c.1) free) (Slot c.1) (agree (path_of c) free)))
              | inr rest ↦ elim (among_told (path_of c, Data) (slots_at (path_of c)) x rest) [
                | inl is ↦ subst M (sym is) (record {
                  same = put_there (path_of c) [] t ∙ sym (put_there (path_of c) [] u);
                  above = λ q g. there_still (Put (path_of c) []) t u q (agree q (free_above (path_of c) q g free));
                  base = λ q g. bases q (λ d k. reached_child t c al.tree_of_a (first_so (has t c.0) (not (has t (path_of c))) can) d (prefix_trans (path_of d) q (path_of c) k g)) (free_above (path_of c) q g free);
                })
                | inr slots ↦ moves_still a other (Put (path_of c) []) t u x (new_slots c free can x slots)
              ]
            ]
    same_step (DropAt c) hidden =
        let free : IsFree (path_of c) = λ d h there. hidden (slot_of d) (among_left (on_the_way t (path_of c)) [] (slot_of d) (on_way t (path_of c) d there h)) in
        let there = sym (agree (path_of c) free) in
        record {
          reply = λ i. cond (there i) Done Absent;
          reads = λ i. way_same (path_of c) free i ++ [];
          writes = λ i. cond (there i) (slot_of c ∷ []) [];
          effect = λ i. cond (there i) (Cut (path_of c)) Keep;
          read = λ x h. elim (among_either (on_the_way t (path_of c)) [] x h) [ inl g ↦ way_moves (path_of c) free x g | inr none ↦ not_among x none ];
          written = λ x h.
              let own = among_if (has t (path_of c)) (slot_of c ∷ []) x h in
              let M : Place → Type 0 = MovesAlike a other (applied (effect_of t (DropAt c)) t) (applied (effect_of t (DropAt c)) u) in
              elim (among_told (slot_of c) [] x own.1) [
                | inl is ↦ subst M (sym is) (moves_still a other (effect_of t (DropAt c)) t u (slot_of c)
                    (own_moves c.0 (al.tree_of_a.closed (path_of c) c.0 (prefix_above c.0 c.1) own.0)
                    (free_above (path_of c) c.0 (prefix_above c.0 c.1) free) (Slot c.1) (agree (path_of c) free)))
                | inr none ↦ not_among x none
              ];
        }
