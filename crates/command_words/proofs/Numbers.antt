-- What is read of a word is the number that it is.
use Rattle.std.proofs.Common.{◌≡◌, ℕ, ◌<◌, ◌≤◌, ◌^◌, List, arith}
use Rattle.script_text.specs.Says.{IsNumber, IsNumberIn}
use Rattle.script_text.proofs.NumberWords.{same_number}

-- a word that was not read is no number of the range
pub not_read : (low high : ℕ) (word : List ℕ) (n : ℕ) → ((k : ℕ) → IsNumberIn low high word k → ⊥)
    → IsNumber word n → low ≤ n → n ≤ high → ⊥
not_read low high word n none is least most =
    none n (record { number = is; least = least; most = most })

-- a word that was read is no other number
pub only_read : (low high : ℕ) (word : List ℕ) (k n : ℕ) → high < 2 ^ 64
    → IsNumberIn low high word k → IsNumber word n → n < 2 ^ 64 → k ≡ n
only_read low high word k n fits read is small =
    let most = read.most in
    same_number word k n (omega arith) small read.number is
