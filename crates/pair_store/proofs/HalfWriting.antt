-- A block write on one half: closed, body, opened.
use Rattle.std.proofs.Common.{◌≡◌, ◌≢◌, ◌⊎◌, inl, inr, ℕ, ◌+◌, ◌*◌, List, length, slice_index}
use Rattle.drives.specs.declared.device.Half.{Half}
use Rattle.drives.specs.Crash.{HasAt, Torn}
use Rattle.drives.specs.Changes.{Changes, Halves, HalvesLeft, LeavesNow, OnHalves, bytes_of}
use Rattle.drives.proofs.Composing.{goes_on, leaves_now}
use Rattle.pair_store.specs.Content.{gate}
use Rattle.pair_store.specs.Stages.{At, IsStage, SameBlock, SameElsewhere}
use Rattle.pair_store.proofs.Relations.{At-then, At-weaker, image_of_half, torn_again}
use Rattle.pair_store.proofs.GateLemmas.{closed_kept, gate_elsewhere, rest_elsewhere, torn_open}

-- the relations of the three steps
abbrev pub Gate : ℕ → List ℕ → List ℕ → Type 0
Gate n x y = Torn (1024 * n) 1 x y

abbrev Rest : ℕ → List ℕ → List ℕ → List ℕ → Type 0
Rest n rest x y = Torn (1024 * n + 1) (length rest) x y

abbrev pub Closing : ℕ → List ℕ → List ℕ → Type 0
Closing n x y = Gate n x y × ((gate y n ≢ 165) ⊎ SameBlock n x y)

abbrev Closed : ℕ → List ℕ → List ℕ → Type 0
Closed n x y = SameElsewhere n x y × (gate y n ≢ 165)

abbrev Ready : ℕ → List ℕ → List ℕ → List ℕ → Type 0
Ready n rest x y = SameElsewhere n x y × HasAt (1024 * n + 1) rest y

abbrev pub Staged : ℕ → List ℕ → List ℕ → List ℕ → Type 0
Staged n body x y = SameElsewhere n x y × IsStage n body x y

module _ {D : Type 0} (moment : D → ℕ) (left : D → Half → ℕ → List ℕ → Type 0) (half : Half) (n : ℕ) (body rest : List ℕ) (opened : slice_index body 0 ≡ 165) (long : length rest + 1 ≡ 1024) (bytes : (i : ℕ) → slice_index rest i ≡ slice_index body (i + 1)) where
  module _ (old closed written : D) (closing : Changes moment (HalvesLeft left) old closed (OnHalves (At half (Gate n)))) (writing : Changes moment (HalvesLeft left) closed written (OnHalves (At half (Rest n rest)))) where
    -- until the body is written, all other blocks are as they were
    pub body_changes : Changes moment (HalvesLeft left) old written (OnHalves (At half (SameElsewhere n)))
    body_changes =
        goes_on moment (HalvesLeft left) old closed written (OnHalves (At half (Gate n))) (OnHalves (At half (Gate n))) (OnHalves (At half (Rest n rest))) (OnHalves (At half (SameElsewhere n)))
        closing
        (leaves_now moment (HalvesLeft left) old closed (OnHalves (At half (Gate n))) closing)
        writing
        (λ x y _ r. At-weaker half (Gate n) (SameElsewhere n) x y (gate_elsewhere n (bytes_of x half) (bytes_of y half)) r)
        (λ x y z _ r s. At-then half (Gate n) (Rest n rest) (SameElsewhere n) x y z
        (λ a b. torn_again (1024 * n) 1024 _ _ _ (gate_elsewhere n (bytes_of x half) (bytes_of y half) a) (rest_elsewhere n body rest opened long bytes (bytes_of y half) (bytes_of z half) b)) r s)

    -- and where the gate was closed in each image, the block stays closed
    module _ (stages : Changes moment (HalvesLeft left) old closed (OnHalves (At half (Closing n)))) (shut : (c : List ℕ) → left closed half (moment closed) c → gate c n ≢ 165) where
      shut_now : LeavesNow moment (HalvesLeft left) old closed (OnHalves (At half (Closed n)))
      shut_now y images =
          let from = leaves_now moment (HalvesLeft left) old closed (OnHalves (At half (Gate n))) closing y images in
          let is_shut = shut (bytes_of y half) (image_of_half (λ h. left closed h (moment closed)) y images half) in
          (from.0, from.1, At-weaker half (Gate n) (Closed n) from.0 y (λ a. (gate_elsewhere n (bytes_of from.0 half) (bytes_of y half) a, is_shut)) from.2)

      still_shut : (x y z : Halves) → OnHalves (At half (Closed n)) x y → OnHalves (At half (Rest n rest)) y z → OnHalves (At half (Closed n)) x z
      still_shut x y z r s = At-then half (Closed n) (Rest n rest) (Closed n) x y z
          (λ a b. (
            torn_again (1024 * n) 1024 _ _ _ a.0 (rest_elsewhere n body rest opened long bytes (bytes_of y half) (bytes_of z half) b),
            closed_kept n body rest opened long bytes (bytes_of y half) (bytes_of z half) a.1 b,
          )) r s

      pub body_stages : Changes moment (HalvesLeft left) old written (OnHalves (At half (Staged n body)))
      body_stages =
          goes_on moment (HalvesLeft left) old closed written (OnHalves (At half (Closing n))) (OnHalves (At half (Closed n))) (OnHalves (At half (Rest n rest))) (OnHalves (At half (Staged n body)))
          stages
          shut_now
          writing
          (λ x y _ r. At-weaker half (Closing n) (Staged n body) x y (λ a. (gate_elsewhere n (bytes_of x half) (bytes_of y half) a.0, elim a.1 as (λ _. IsStage n body (bytes_of x half) (bytes_of y half)) [ inl not ↦ inl not | inr same ↦ inr (inl same) ])) r)
          (λ x y z _ r s. At-weaker half (Closed n) (Staged n body) x z (λ a. (a.0, inl a.1)) (still_shut x y z r s))

      body_now : LeavesNow moment (HalvesLeft left) old written (OnHalves (At half (Closed n)))
      body_now z images =
          let then = leaves_now moment (HalvesLeft left) closed written (OnHalves (At half (Rest n rest))) writing z images in
          let from = shut_now then.0 then.1 in
          (from.0, from.1, still_shut from.0 then.0 z from.2 then.2)

      -- the gate opens over a body that is on the disk
      module _ (new : D) (opening : Changes moment (HalvesLeft left) written new (OnHalves (At half (Gate n)))) (on_disk : (c : List ℕ) → left written half (moment written) c → HasAt (1024 * n + 1) rest c) where
        ready_now : LeavesNow moment (HalvesLeft left) old written (OnHalves (At half (Ready n rest)))
        ready_now z images =
            let from = body_now z images in
            let has = on_disk (bytes_of z half) (image_of_half (λ h. left written h (moment written)) z images half) in
            (from.0, from.1, At-weaker half (Closed n) (Ready n rest) from.0 z (λ a. (a.0, has)) from.2)

        pub open_stages : Changes moment (HalvesLeft left) old new (OnHalves (At half (Staged n body)))
        open_stages =
            goes_on moment (HalvesLeft left) old written new (OnHalves (At half (Staged n body))) (OnHalves (At half (Ready n rest))) (OnHalves (At half (Gate n))) (OnHalves (At half (Staged n body)))
            body_stages
            ready_now
            opening
            (λ x y _ r. r)
            (λ x y z _ r s. At-then half (Ready n rest) (Gate n) (Staged n body) x y z
            (λ a b. (
              torn_again (1024 * n) 1024 _ _ _ a.0 (gate_elsewhere n (bytes_of y half) (bytes_of z half) b),
              torn_open n body rest opened long bytes (bytes_of x half) (bytes_of y half) (bytes_of z half) a.1 b,
            )) r s)

    -- until the gate is open, all other blocks are as they were
    module _ (new : D) (opening : Changes moment (HalvesLeft left) written new (OnHalves (At half (Gate n)))) where
      pub open_changes : Changes moment (HalvesLeft left) old new (OnHalves (At half (SameElsewhere n)))
      open_changes =
          goes_on moment (HalvesLeft left) old written new (OnHalves (At half (SameElsewhere n))) (OnHalves (At half (SameElsewhere n))) (OnHalves (At half (Gate n))) (OnHalves (At half (SameElsewhere n)))
          body_changes
          (leaves_now moment (HalvesLeft left) old written (OnHalves (At half (SameElsewhere n))) body_changes)
          opening
          (λ x y _ r. r)
          (λ x y z _ r s. At-then half (SameElsewhere n) (Gate n) (SameElsewhere n) x y z
          (λ a b. torn_again (1024 * n) 1024 _ _ _ a (gate_elsewhere n (bytes_of y half) (bytes_of z half) b)) r s)
