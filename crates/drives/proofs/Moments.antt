-- A memory half at its last moment, at the next one and at those that have passed.
use Rattle.std.proofs.Common.{◌≡◌, inl, inr, ℕ, ◌+◌, ◌<◌, ◌≤◌, Bool, false, List, [], ◌∷◌, length, refl, sym, ◌∙◌, ap, subst, arith, ◌↔◌, slice_index}
use Rattle.std.specs.Prelude.{nat_le, if◌then◌else◌}
use Rattle.std.proofs.lemmas.Bool.Decides.{nat_tests}
use Rattle.std.proofs.lemmas.Grind.{common_steps}
use Rattle.std.proofs.lemmas.List.{same_lists, get_or_default}
use Rattle.drives.specs.declared.history.Span.{Span}
use Rattle.drives.specs.declared.call.What.{What}
use Rattle.drives.specs.declared.call.What.TheVariants.{Write, Tear, Sync}
use Rattle.drives.specs.declared.call.Event.{Event}
use Rattle.drives.specs.Bytes.{IsBytes}
use Rattle.drives.specs.Crash.{IsOutside, Torn, LeavesTorn, LeavesEachTorn, LeavesSame, LeavesNoMore, LeavesOnly}
use Rattle.drives.specs.Images.{IsImage}
use Rattle.drives.specs.Replay.{State, happened, done, overwritten, state, state_at, next_call, IsWriteOf}
use Rattle.drives.specs.Left.{IsLeftBy, moment_after}
use Rattle.drives.specs.LeftLaws.{state_now}
use Rattle.drives.proofs.Tearing.{torn_image, torn_each}

told_gt : (a b : ℕ) → b < a → nat_le a b ≡ false
told_gt a b h = grind (arith, nat_tests)

-- one more call has happened at its own moment
pub state_next : (first : List ℕ) (e : Event) (events : List Event) → state_at first (next_call (length events)) (e ∷ events) ≡ happened e (state first events)
state_next first e events = state_now first (next_call (length events)) (e ∷ events) (omega arith)

-- and not before
pub state_past : (first : List ℕ) (t : ℕ) (e : Event) (events : List Event) → t < next_call (length events) → state_at first t (e ∷ events) ≡ state_at first t events
state_past first t e events h =
    ap (λ (b : Bool). if b then happened e (state_at first t events) else state_at first t events) (told_gt _ _ h)

-- lists of numbers that agree at each place are one
same_list : (xs ys : List ℕ) → length xs ≡ length ys → ((i : ℕ) → slice_index xs i ≡ slice_index ys i) → xs ≡ ys
same_list xs ys e h = same_lists xs ys e (λ k d low. get_or_default xs k d 0 low ∙ h k ∙ sym (get_or_default ys k d 0 (omega arith)))

abbrev image_of : State → List ℕ → Type 0
image_of s c = IsImage s.spans s.bytes c

module _ (first : List ℕ) (e : Event) (events : List Event) where
  -- to and from the last moment's images
  from_now : (c : List ℕ) → image_of (state first events) c → IsLeftBy first events (moment_after events) c
  from_now c image = subst (λ (s : State). image_of s c) (sym (state_now first (moment_after events) events (omega arith))) image

  to_now : (c : List ℕ) → IsLeftBy first events (moment_after events) c → image_of (state first events) c
  to_now c image = subst (λ (s : State). image_of s c) (state_now first (moment_after events) events (omega arith)) image

  from_next : (c : List ℕ) → image_of (happened e (state first events)) c → IsLeftBy first (e ∷ events) (next_call (length events)) c
  from_next c image = subst (λ (s : State). image_of s c) (sym (state_next first e events)) image

  to_next : (c : List ℕ) → IsLeftBy first (e ∷ events) (next_call (length events)) c → image_of (happened e (state first events)) c
  to_next c image = subst (λ (s : State). image_of s c) (state_next first e events) image

  -- a call does not change what a crash at an earlier moment may leave
  pub left_past : (t : ℕ) (c : List ℕ) → t < next_call (length events) → IsLeftBy first (e ∷ events) t c ↔ IsLeftBy first events t c
  left_past t c h = (
    λ image. subst (λ (s : State). image_of s c) (state_past first t e events h) image,
    λ image. subst (λ (s : State). image_of s c) (sym (state_past first t e events h)) image,
  )

  -- what a write, or a failed one, leaves
  module _ (at n : ℕ) (torn : Torn at n (state first events).bytes (happened e (state first events)).bytes) (s : Span) (spans : (happened e (state first events)).spans ≡ s ∷ (state first events).spans) (here : s.at ≡ at) (long : s.len ≡ n) where
    pub left_torn : IsBytes (state first events).bytes → LeavesTorn at n (IsLeftBy first events (moment_after events)) (IsLeftBy first (e ∷ events) (next_call (length events)))
    left_torn fits c image =
        let from = torn_image (state first events).spans (happened e (state first events)).spans s at n (state first events).bytes (happened e (state first events)).bytes fits torn spans here long c (to_next c image) in
        (from.0, from_now from.0 from.1, from.2)

    pub left_each : LeavesEachTorn at n (IsLeftBy first events (moment_after events)) (IsLeftBy first (e ∷ events) (next_call (length events)))
    left_each d c image torn' fits =
        from_next c (torn_each (state first events).spans (happened e (state first events)).spans s at n (state first events).bytes (happened e (state first events)).bytes torn spans here long d c (to_now d image) torn' fits)

  -- what a call that did nothing to the half leaves
  pub left_same : happened e (state first events) ≡ state first events → LeavesSame (IsLeftBy first events (moment_after events)) (IsLeftBy first (e ∷ events) (next_call (length events)))
  left_same is c = (
    λ image. from_now c (subst (λ (s : State). image_of s c) is (to_next c image)),
    λ image. from_next c (subst (λ (s : State). image_of s c) (sym is) (to_now c image)),
  )

-- the moment after one more call
moment_next : (e : Event) (events : List Event) → moment_after (e ∷ events) ≡ next_call (length events)
moment_next e events = omega arith

-- the same facts of a half whose list of calls grew by one
module _ (first : List ℕ) (e : Event) (events grown : List Event) (is : grown ≡ e ∷ events) where
  moved : (P : ℕ → List Event → Type 0) → P (next_call (length events)) (e ∷ events) → P (moment_after grown) grown
  moved P h = subst (λ (es : List Event). P (moment_after es) es) (sym is) (subst (λ (t : ℕ). P t (e ∷ events)) (sym (moment_next e events)) h)

  pub grown_past : (t : ℕ) (c : List ℕ) → t < moment_after grown → IsLeftBy first grown t c ↔ IsLeftBy first events t c
  grown_past = moved (λ t' es. (t : ℕ) (c : List ℕ) → t < t' → IsLeftBy first es t c ↔ IsLeftBy first events t c) (left_past first e events)

  pub grown_same : happened e (state first events) ≡ state first events → LeavesSame (IsLeftBy first events (moment_after events)) (IsLeftBy first grown (moment_after grown))
  grown_same same = moved (λ t es. LeavesSame (IsLeftBy first events (moment_after events)) (IsLeftBy first es t)) (left_same first e events same)

  module _ (at n : ℕ) (torn : Torn at n (state first events).bytes (happened e (state first events)).bytes) (s : Span) (spans : (happened e (state first events)).spans ≡ s ∷ (state first events).spans) (here : s.at ≡ at) (long : s.len ≡ n) where
    pub grown_torn : IsBytes (state first events).bytes → LeavesTorn at n (IsLeftBy first events (moment_after events)) (IsLeftBy first grown (moment_after grown))
    grown_torn fits = moved (λ t es. LeavesTorn at n (IsLeftBy first events (moment_after events)) (IsLeftBy first es t)) (left_torn first e events at n torn s spans here long fits)

    pub grown_each : LeavesEachTorn at n (IsLeftBy first events (moment_after events)) (IsLeftBy first grown (moment_after grown))
    grown_each = moved (λ t es. LeavesEachTorn at n (IsLeftBy first events (moment_after events)) (IsLeftBy first es t)) (left_each first e events at n torn s spans here long)

  -- after a sync a crash leaves the bytes alone, which it might have left before
  module _ (bytes : (happened e (state first events)).bytes ≡ (state first events).bytes) (spans : (happened e (state first events)).spans ≡ []) where
    only_bytes : (c : List ℕ) → IsLeftBy first grown (moment_after grown) c → IsImage [] (state first events).bytes c
    only_bytes c image =
        let image' : image_of (happened e (state first events)) c = to_next first e events c (moved (λ t es. IsLeftBy first es t c → IsLeftBy first (e ∷ events) (next_call (length events)) c) (λ x. x) image) in
        subst (λ (b : List ℕ). IsImage [] b c) bytes (subst (λ (ss : List Span). IsImage ss (happened e (state first events)).bytes c) spans image')

    pub grown_only : LeavesOnly (state first events).bytes (IsLeftBy first grown (moment_after grown))
    grown_only c image = same_list c (state first events).bytes (only_bytes c image).size (λ i. (only_bytes c image).untouched i tt)

    pub grown_no_more : LeavesNoMore (IsLeftBy first events (moment_after events)) (IsLeftBy first grown (moment_after grown))
    grown_no_more c image = from_now first e events c (record {
      size = (only_bytes c image).size;
      untouched = λ i free. (only_bytes c image).untouched i tt;
      fits = (only_bytes c image).fits;
    })

overwritten_outside : (at : ℕ) (bytes half : List ℕ) (i : ℕ) → at + length bytes ≤ length half → IsOutside at (length bytes) i → slice_index (overwritten at bytes half) i ≡ slice_index half i
overwritten_outside at bytes half i h (inl low) = grind (arith, common_steps)
overwritten_outside at bytes half i h (inr high) = grind (arith, common_steps)

-- a range overwritten is a range torn
pub overwritten_torn : (at : ℕ) (bytes half : List ℕ) → at + length bytes ≤ length half → Torn at (length bytes) half (overwritten at bytes half)
overwritten_torn at bytes half h = record {
  size = grind (arith, common_steps);
  outside = λ i outside. overwritten_outside at bytes half i h outside;
}

-- what a recorded write does
pub done_write : (at : ℕ) (bytes : List ℕ) (what : What) (s : State) → IsWriteOf at bytes what → done what s ≡ record { bytes = overwritten at bytes s.bytes; synced = s.synced; spans = record { at = at; len = length bytes } ∷ s.spans }
done_write at bytes (Write at' bytes') s (same_at, same_bytes) = rw (same_at, same_bytes)
done_write at bytes (Tear at' len) s h = absurd h
done_write at bytes Sync s h = absurd h

-- a call that tears its range, and nothing else
module _ (first : List ℕ) (e : Event) (events grown : List Event) (is : grown ≡ e ∷ events) (at n : ℕ) (after : State) (happens : happened e (state first events) ≡ after) (spans : after.spans ≡ record { at = at; len = n } ∷ (state first events).spans) (torn : Torn at n (state first events).bytes after.bytes) where
  torn' : Torn at n (state first events).bytes (happened e (state first events)).bytes
  torn' = subst (λ (s : State). Torn at n (state first events).bytes s.bytes) (sym happens) torn

  spans' : (happened e (state first events)).spans ≡ record { at = at; len = n } ∷ (state first events).spans
  spans' = ap (λ (s : State). s.spans) happens ∙ spans

  pub tearing_torn : IsBytes (state first events).bytes → LeavesTorn at n (IsLeftBy first events (moment_after events)) (IsLeftBy first grown (moment_after grown))
  tearing_torn fits = grown_torn first e events grown is at n torn' (record { at = at; len = n }) spans' refl refl fits

  pub tearing_each : LeavesEachTorn at n (IsLeftBy first events (moment_after events)) (IsLeftBy first grown (moment_after grown))
  tearing_each = grown_each first e events grown is at n torn' (record { at = at; len = n }) spans' refl refl

  pub tearing_bytes : (state first grown).bytes ≡ after.bytes
  tearing_bytes = ap (λ (es : List Event). (state first es).bytes) is ∙ ap (λ (s : State). s.bytes) happens
