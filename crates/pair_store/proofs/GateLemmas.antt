-- A gate that is torn is closed, or the block is as it was.
use Rattle.std.proofs.Common.{◌≡◌, ◌≢◌, ◌⊎◌, inl, inr, ℕ, ◌+◌, ◌*◌, ◌<◌, zero, suc, List, [], ◌∷◌, length, slice_index, sym, ◌∙◌, ap, arith}
use Rattle.drives.specs.Crash.{HasAt, IsOutside, Torn}
use Rattle.pair_store.specs.Content.{gate, IsOpen}
use Rattle.pair_store.specs.ContentLaws.{decide}
use Rattle.pair_store.specs.Stages.{HasBody, IsStage, SameBlock, SameElsewhere}

-- another spelling of an offset is the same place
place_is : (xs : List ℕ) (i j : ℕ) → i ≡ j → slice_index xs i ≡ slice_index xs j
place_is xs i j e = ap (λ (k : ℕ). slice_index xs k) e

same_byte : (n : ℕ) (x y : List ℕ) → gate y n ≡ 165 → IsOpen x n → Torn (1024 * n) 1 x y → (i : ℕ) → slice_index y (1024 * n + i) ≡ slice_index x (1024 * n + i)
same_byte n x y is opened torn zero = place_is y (1024 * n + zero) (1024 * n) (omega arith) ∙ is ∙ sym opened ∙ place_is x (1024 * n) (1024 * n + zero) (omega arith)
same_byte n x y is opened torn (suc i) = torn.outside (1024 * n + suc i) (inr (omega arith))

-- what a write of a gate leaves where the gate was open
pub torn_gate : (n : ℕ) (x y : List ℕ) → IsOpen x n → Torn (1024 * n) 1 x y → Torn (1024 * n) 1 x y × ((gate y n ≢ 165) ⊎ SameBlock n x y)
torn_gate n x y opened torn =
    elim (decide (gate y n) 165) [
      | inl is ↦ (torn, inr (λ i low. same_byte n x y is opened torn i))
      | inr not ↦ (torn, inl not)
    ]

-- a gate that was written closed is closed
pub written_gate : (n : ℕ) (y : List ℕ) → HasAt (1024 * n) (0 ∷ []) y → gate y n ≢ 165
written_gate n y has e =
    let at : slice_index y (1024 * n + 0) ≡ 0 = has 0 (omega arith) in
    let zero_is : slice_index y (1024 * n) ≡ 0 = place_is y (1024 * n) (1024 * n + 0) (omega arith) ∙ at in
    omega (arith, zero_is, e)

-- a gate that was written open is open
pub has_gate : (n : ℕ) (y : List ℕ) → HasAt (1024 * n) (165 ∷ []) y → gate y n ≡ 165
has_gate n y has = place_is y (1024 * n) (1024 * n + 0) (omega arith) ∙ has 0 (omega arith)

-- within the gate is within the block
pub gate_elsewhere : (n : ℕ) (x y : List ℕ) → Torn (1024 * n) 1 x y → SameElsewhere n x y
gate_elsewhere n x y torn = record {
  size = torn.size;
  outside = λ i out. torn.outside i (elim out as (λ _. IsOutside (1024 * n) 1 i) [ inl low ↦ inl low | inr high ↦ inr (omega (arith, high)) ]);
}

-- the bytes of a block behind its gate
module _ (n : ℕ) (body rest : List ℕ) (opened : slice_index body 0 ≡ 165) (long : length rest + 1 ≡ 1024) (bytes : (i : ℕ) → slice_index rest i ≡ slice_index body (i + 1)) where
  pub rest_elsewhere : (x y : List ℕ) → Torn (1024 * n + 1) (length rest) x y → SameElsewhere n x y
  rest_elsewhere x y torn = record {
    size = torn.size;
    outside = λ i out. torn.outside i (elim out as (λ _. IsOutside (1024 * n + 1) (length rest) i) [ inl low ↦ inl (omega (arith, low)) | inr high ↦ inr (omega (arith, high, long)) ]);
  }

  pub closed_kept : (y z : List ℕ) → gate y n ≢ 165 → Torn (1024 * n + 1) (length rest) y z → gate z n ≢ 165
  closed_kept y z closed torn e = closed (sym (torn.outside (1024 * n) (inl (omega arith))) ∙ e)

  body_byte : (y z : List ℕ) → HasAt (1024 * n + 1) rest y → Torn (1024 * n) 1 y z → gate z n ≡ 165 → (i : ℕ) → i < 1024 → slice_index z (1024 * n + i) ≡ slice_index body i
  body_byte y z has torn is zero low = place_is z (1024 * n + zero) (1024 * n) (omega arith) ∙ is ∙ sym opened
  body_byte y z has torn is (suc i) low =
      torn.outside (1024 * n + suc i) (inr (omega arith))
      ∙ place_is y (1024 * n + suc i) (1024 * n + 1 + i) (omega arith)
      ∙ has i (omega (arith, low, long))
      ∙ bytes i
      ∙ place_is body (i + 1) (suc i) (omega arith)

  -- a torn gate over a written body is closed, or the block has its new bytes
  pub opened_body : (y z : List ℕ) → HasAt (1024 * n + 1) rest y → Torn (1024 * n) 1 y z → gate z n ≡ 165 → HasBody n body z
  opened_body y z has torn is i low = body_byte y z has torn is i low

  pub torn_open : (x y z : List ℕ) → HasAt (1024 * n + 1) rest y → Torn (1024 * n) 1 y z → IsStage n body x z
  torn_open x y z has torn =
      elim (decide (gate z n) 165) [
        | inl is ↦ inr (inr (opened_body y z has torn is))
        | inr not ↦ inl not
      ]
