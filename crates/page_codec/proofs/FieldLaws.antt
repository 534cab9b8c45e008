-- Runs of bytes within runs of bytes.
use Rattle.std.proofs.Common.{◌≡◌, ℕ, ◌+◌, ◌-◌, ◌≤◌, List, length, take, drop, ap, ◌∙◌, subst, arith}
use Rattle.std.specs.Int.{Width, byte_len, from_be_bytes}
use Rattle.std.proofs.lemmas.List.{drop-take, take-take, drop-drop, length-take, length-drop}
use Rattle.page_codec.specs.Numbers.{field, number_at}

within : (k n m from at : ℕ) (bytes : List ℕ) → from + k ≡ at → n ≤ m → field k n (field from (k + m) bytes) ≡ field at n bytes
within k n m from at bytes e h =
    ap (take n) (drop-take k m (drop from bytes)) ∙ take-take n m (drop k (drop from bytes)) h
    ∙ ap (take n) (drop-drop k from bytes ∙ ap (λ (i : ℕ). drop i bytes) e)

-- a field of a field
pub field-field : (k n from len at : ℕ) (bytes : List ℕ) → from + k ≡ at → k + n ≤ len → field k n (field from len bytes) ≡ field at n bytes
field-field k n from len at bytes e h =
    let split : k + (len - k) ≡ len = omega arith in
    subst (λ (l : ℕ). field k n (field from l bytes) ≡ field at n bytes) split (within k n (len - k) from at bytes e (omega arith))

-- a number in a field
pub number_at-field : (w : Width) (k from len at : ℕ) (bytes : List ℕ) → from + k ≡ at → k + byte_len w ≤ len → number_at w k (field from len bytes) ≡ number_at w at bytes
unfolding number_at
number_at-field w k from len at bytes e h = ap (from_be_bytes w) (field-field k (byte_len w) from len at bytes e h)

-- a field that lies within the bytes has its length
pub length-field : (at len : ℕ) (bytes : List ℕ) → at + len ≤ length bytes → length (field at len bytes) ≡ len
length-field at len bytes h = omega (arith, length-take len (drop at bytes), length-drop at bytes)
