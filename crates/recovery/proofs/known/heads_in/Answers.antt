use Rattle.std.proofs.Common.{◌≡◌, ◌⊎◌, ◌<◌, inl, inr, ℕ, ◌+◌, [], ◌∷◌, ◌++◌, Some, List, Option, length, sym, ap, ◌∙◌, arith, slice_get, option_map}
use Rattle.afs_base.specs.declared.head.Head.{Head}
use Rattle.store_model.proofs.Edits.{some_is, none_some, get_past, get_more}
use Rattle.pair_store.specs.ContentLaws.{decide}
use Rattle.recovery.specs.Known.{head_from, heads_from}
use Rattle.recovery.proofs.Heads.{map_long, get_within, length_more, same_items}
use Rattle.recovery.proofs.known.heads_in.Goals as goal

pub objects-init : goal.objects-init
objects-init c = record {
  value = λ j low high. absurd (Prim.omega (arith, low));
  even = ap (λ (l : List (Option Head)). length l) c.new-heads.ensures.items;
  within = λ k head is. none_some (ap (λ (l : List (Option Head)). slice_get l k) (sym c.new-heads.ensures.items) ∙ is);
}

before_or_at : (j i : ℕ) → j < i + 1 → (j < i) ⊎ (j ≡ i)
before_or_at j i low = Prim.grind arith

pub objects-preserved : goal.objects-preserved
objects-preserved c =
    let had : List (Option Head) = c.objects.heads.items in
    let head : Option Head = c.in_ok-head.head in
    let now : c.push.new.self.items ≡ had ++ head ∷ [] = c.in_ok-push.ensures.items in
    let even : length had ≡ c.objects.i = c.objects.invariant.even in
    let here : slice_get (had ++ head ∷ []) c.objects.i ≡ Some head = ap (slice_get (had ++ head ∷ [])) (sym even) ∙ get_past had head in
    record {
      value = λ j low high. ap (λ (l : List (Option Head)). slice_get l j) now ∙ elim (before_or_at j c.objects.i low) [
        | inl less ↦ get_within had (head ∷ []) j (Prim.omega (arith, less, even)) ∙ c.objects.invariant.value j less high
        | inr at ↦
            let in_range : c.objects.i < length c.args.chains.now = Prim.omega (arith, at, high) in
            ap (slice_get (had ++ head ∷ [])) at ∙ here ∙ sym (c.in_ok-head.ensures.value in_range) ∙ ap (slice_get (heads_from c.args.chains.now)) (sym at)
      ];
      even = ap (λ (l : List (Option Head)). length l) now ∙ length_more had head ∙ ap (λ n. n + 1) even;
      within = λ k told is.
          let listed : slice_get (had ++ head ∷ []) k ≡ Some (Some told) = ap (λ (l : List (Option Head)). slice_get l k) (sym now) ∙ is in
          elim (decide k (length had)) [
            | inl at ↦ c.in_ok-head.ensures.within told (some_is (sym (get_past had head) ∙ ap (slice_get (had ++ head ∷ [])) (sym at) ∙ listed))
            | inr off ↦ c.objects.invariant.within k told (get_more had head k (Some told) listed off)
          ];
    }

pub returns-clause-value : goal.returns-clause-value
returns-clause-value c = λ count.
    let past = c.objects-test.false in
    let within = c.objects.auto.i-end in
    let even = c.objects.invariant.even in
    let long : length (heads_from c.args.chains.now) ≡ length c.args.chains.now = map_long (option_map head_from) c.args.chains.now in
    same_items c.objects.heads.items (heads_from c.args.chains.now) (Prim.omega (arith, past, within, even, long, count))
    (λ j low. c.objects.invariant.value j (Prim.omega (arith, low, even)) (Prim.omega (arith, low, even, past, within, count)))

pub returns-clause-even : goal.returns-clause-even
returns-clause-even c =
    let past = c.objects-test.false in
    let within = c.objects.auto.i-end in
    let even = c.objects.invariant.even in
    Prim.omega (arith, past, within, even)

pub returns-clause-within : goal.returns-clause-within
returns-clause-within c = c.objects.invariant.within
