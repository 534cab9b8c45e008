-- What a failed read says of the halves.
use Rattle.std.proofs.Common.{◌≡◌, ◌≢◌, ◌⊎◌, inl, inr, ℕ, ◌+◌, ◌-◌, ◌^◌, min, Bool, Err, refl, subst}
use Rattle.std.specs.Result.{IsErrOf}
use Rattle.drives.specs.declared.device.Half.{Half}
use Rattle.drives.specs.declared.device.Half.TheVariants.{A, B}
use Rattle.drives.specs.Half.{other}
use Rattle.drives.specs.Changes.{Halves, bytes_of}
use Rattle.drives.specs.Faults.{HasFailed}
use Rattle.pair_store.specs.declared.fault.PairFault.TheVariants.{ReadFault}
use Rattle.pair_store.specs.Content.{gate}
use Rattle.pair_store.specs.Faults.{IsUnread}

module _ (f f' l' : Half → ℕ) (now : ℕ) where
  module _ (Empty : Type 0) where
    unread_half : (half : Half) → HasFailed (f half) (f' half) (l' half) → (IsErrOf {T = Bool} (Err half) A → l' A ≡ now) → (IsErrOf {T = Bool} (Err half) B → now ≡ min (l' B + 1) (2 ^ 64 - 1)) → (IsErrOf {T = Bool} (Err half) B → Empty) → IsUnread f f' l' now Empty half
    unread_half A failed last past empty = record { failed = failed; last = inl (last refl) }
    unread_half B failed last past empty = record { failed = failed; last = inr (refl, past refl, empty refl) }

    -- the half that is named is the one that failed
    pub unread : (half : Half) → HasFailed (f half) (f' half) (l' half) → (IsErrOf {T = Bool} (Err half) A → l' A ≡ now) → (IsErrOf {T = Bool} (Err half) B → now ≡ min (l' B + 1) (2 ^ 64 - 1)) → (IsErrOf {T = Bool} (Err half) B → Empty) → (h : Half) → IsErrOf {T = Unit {0}} (Err (ReadFault half)) (ReadFault h) → IsUnread f f' l' now Empty h
    unread half failed last past empty h is =
        let same : half ≡ h = cc is in
        subst (λ (w : Half). IsUnread f f' l' now Empty w) same (unread_half half failed last past empty)

  module _ (n : ℕ) (x : Halves) where
    instead_half : (half : Half) → (IsErrOf {T = Bool} (Err half) A → HasFailed (f B) (f' B) (l' B) ⊎ (gate x.b n ≢ 165)) → (IsErrOf {T = Bool} (Err half) B → gate x.a n ≢ 165) → HasFailed (f (other half)) (f' (other half)) (l' (other half)) ⊎ (gate (bytes_of x (other half)) n ≢ 165)
    instead_half A of_a of_b = of_a refl
    instead_half B of_a of_b = inr (of_b refl)

    -- the other half failed too, or is closed
    pub instead : (half : Half) → (IsErrOf {T = Bool} (Err half) A → HasFailed (f B) (f' B) (l' B) ⊎ (gate x.b n ≢ 165)) → (IsErrOf {T = Bool} (Err half) B → gate x.a n ≢ 165) → (h : Half) → IsErrOf {T = Unit {0}} (Err (ReadFault half)) (ReadFault h) → HasFailed (f (other h)) (f' (other h)) (l' (other h)) ⊎ (gate (bytes_of x (other h)) n ≢ 165)
    instead half of_a of_b h is =
        let same : half ≡ h = cc is in
        subst (λ (w : Half). HasFailed (f (other w)) (f' (other w)) (l' (other w)) ⊎ (gate (bytes_of x (other w)) n ≢ 165)) same (instead_half half of_a of_b)
