-- A torn half comes from one that was not torn there.
use Rattle.std.proofs.Common.{◌≡◌, ◌⊎◌, inl, inr, ℕ, ◌+◌, ◌<◌, ◌≤◌, cond, nat_lt, List, ◌∷◌, length, map, slice_index, refl, sym, ◌∙◌, subst, arith}
use Rattle.std.specs.List.{range_with_len}
use Rattle.std.proofs.lemmas.List.FromFn.{get_or-map-range_with_len, length-map-range_with_len}
use Rattle.std.proofs.lemmas.Bool.Decides.{nat_tests}
use Rattle.std.proofs.lemmas.Grind.{common_steps}
use Rattle.drives.specs.declared.history.Span.{Span}
use Rattle.drives.specs.Bytes.{IsBytes}
use Rattle.drives.specs.Crash.{IsOutside, LeavesEachTorn, LeavesTorn, Torn}
use Rattle.drives.specs.Images.{IsUntouched, IsImage}

-- the inner byte within n bytes from this one on, and the outer one elsewhere
abbrev pick : ℕ → ℕ → List ℕ → List ℕ → ℕ → ℕ
pick at n inner outer i = cond (nat_lt i at) (slice_index outer i) (cond (nat_lt i (at + n)) (slice_index inner i) (slice_index outer i))

abbrev pub spliced : ℕ → ℕ → List ℕ → List ℕ → List ℕ
spliced at n inner outer = map (pick at n inner outer) (range_with_len 0 (length outer))

pub length-spliced : (at n : ℕ) (inner outer : List ℕ) → length (spliced at n inner outer) ≡ length outer
length-spliced at n inner outer = length-map-range_with_len (pick at n inner outer) 0 (length outer)

-- what a place of it holds
spliced_at : (at n : ℕ) (inner outer : List ℕ) (i : ℕ) → i < length outer → slice_index (spliced at n inner outer) i ≡ pick at n inner outer i
spliced_at at n inner outer i h = get_or-map-range_with_len (pick at n inner outer) 0 (length outer) i i 0 h (omega arith)

picked_outside : (at n : ℕ) (inner outer : List ℕ) (i : ℕ) → IsOutside at n i → pick at n inner outer i ≡ slice_index outer i
picked_outside at n inner outer i (inl low) = grind (arith, nat_tests)
picked_outside at n inner outer i (inr high) = grind (arith, nat_tests)

picked_inside : (at n : ℕ) (inner outer : List ℕ) (i : ℕ) → at ≤ i → i < at + n → pick at n inner outer i ≡ slice_index inner i
picked_inside at n inner outer i low high = grind (arith, nat_tests)

past_end : (xs : List ℕ) (i : ℕ) → length xs ≤ i → slice_index xs i ≡ 0
past_end xs i h = grind (arith, common_steps)

order : (i n : ℕ) → (i < n) ⊎ (n ≤ i)
order i n = grind arith

pub spliced_outside : (at n : ℕ) (inner outer : List ℕ) (i : ℕ) → IsOutside at n i → slice_index (spliced at n inner outer) i ≡ slice_index outer i
spliced_outside at n inner outer i h =
    elim (order i (length outer)) [
      | inl low ↦ spliced_at at n inner outer i low ∙ picked_outside at n inner outer i h
      | inr high ↦ past_end (spliced at n inner outer) i (omega (arith, length-spliced at n inner outer)) ∙ sym (past_end outer i high)
    ]

pub spliced_inside : (at n : ℕ) (inner outer : List ℕ) (i : ℕ) → length inner ≡ length outer → at ≤ i → i < at + n → slice_index (spliced at n inner outer) i ≡ slice_index inner i
spliced_inside at n inner outer i e low high =
    elim (order i (length outer)) [
      | inl short ↦ spliced_at at n inner outer i short ∙ picked_inside at n inner outer i low high
      | inr long ↦ past_end (spliced at n inner outer) i (omega (arith, length-spliced at n inner outer)) ∙ sym (past_end inner i (omega arith))
    ]

-- an offset is before the range, behind it, or within it
place : (at n i : ℕ) → IsOutside at n i ⊎ ((at ≤ i) × (i < at + n))
place at n i =
    elim (order i at) [
      | inl low ↦ inl (inl low)
      | inr high ↦ elim (order i (at + n)) [ inl within ↦ inr (high, within) | inr behind ↦ inl (inr behind) ]
    ]

-- bytes within bytes are bytes
spliced_fits : (at n : ℕ) (inner outer : List ℕ) → length inner ≡ length outer → IsBytes inner → IsBytes outer → IsBytes (spliced at n inner outer)
spliced_fits at n inner outer e fits fits' i =
    elim (place at n i) [
      | inl outside ↦ omega (arith, spliced_outside at n inner outer i outside, fits' i)
      | inr inside ↦ omega (arith, spliced_inside at n inner outer i e inside.0 inside.1, fits i)
    ]

-- whichever bytes a torn half has, they came from an image that had its old bytes there
pub torn_from : (spans : List Span) (s : Span) (at n : ℕ) (before after c : List ℕ) → IsBytes before → Torn at n before after → s.at ≡ at → s.len ≡ n → IsImage (s ∷ spans) after c → (d : List ℕ) × IsImage spans before d × Torn at n d c
torn_from spans s at n before after c fits torn here long image =
    let d = spliced at n before c in
    let lengths : length before ≡ length c = omega (arith, torn.size, image.size) in
    let untouched : (i : ℕ) → IsUntouched spans i → slice_index d i ≡ slice_index before i =
    λ i free. elim (place at n i) [
      | inl outside ↦ spliced_outside at n before c i outside
          ∙ image.untouched i (subst (λ (x : ℕ). IsOutside x s.len i) (sym here) (subst (λ (y : ℕ). IsOutside at y i) (sym long) outside), free)
          ∙ torn.outside i outside
      | inr inside ↦ spliced_inside at n before c i lengths inside.0 inside.1
    ] in (
      d,
      record {
        size = length-spliced at n before c ∙ sym lengths;
        untouched = untouched;
        fits = spliced_fits at n before c lengths fits image.fits;
      },
      record { size = sym (length-spliced at n before c); outside = λ i outside. sym (spliced_outside at n before c i outside) },
    )

-- after a write, or a failed one, a crash leaves what it might have left before, torn in the range
pub torn_image : (spans spans' : List Span) (s : Span) (at n : ℕ) (before after : List ℕ) → IsBytes before → Torn at n before after → spans' ≡ s ∷ spans → s.at ≡ at → s.len ≡ n → LeavesTorn at n (IsImage spans before) (IsImage spans' after)
torn_image spans spans' s at n before after fits torn is here long c image =
    torn_from spans s at n before after c fits torn here long (subst (λ (x : List Span). IsImage x after c) is image)

-- bytes are themselves, torn anywhere
pub untorn : (at n : ℕ) (bytes : List ℕ) → Torn at n bytes bytes
untorn at n bytes = record { size = refl; outside = λ i outside. refl }

-- and it may leave each of them that holds bytes
pub torn_each : (spans spans' : List Span) (s : Span) (at n : ℕ) (before after : List ℕ) → Torn at n before after → spans' ≡ s ∷ spans → s.at ≡ at → s.len ≡ n → LeavesEachTorn at n (IsImage spans before) (IsImage spans' after)
torn_each spans spans' s at n before after torn is here long d c image torn' fits =
    subst (λ (x : List Span). IsImage x after c) (sym is) (record {
      size = omega (arith, torn.size, torn'.size, image.size);
      untouched = λ i free.
          let outside = subst (λ (x : ℕ). IsOutside x n i) here (subst (λ (y : ℕ). IsOutside s.at y i) long free.0) in
          torn'.outside i outside ∙ image.untouched i free.1 ∙ sym (torn.outside i outside);
      fits = fits;
    })
