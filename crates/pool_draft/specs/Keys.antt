-- The keys of rows: a root and a path, and the number that stands for them.
use Rattle.std.specs.Prelude.{◌≡◌, ℕ, zero, suc, ◌+◌, ◌*◌, ◌^◌, ◌/◌, ◌%◌, ◌<◌, ◌≤◌, true, List, [], ◌∷◌, length}
use Rattle.afs_base.specs.Path.{are_slots}

pub record Key : Type 0 where
  pub root : ℕ
  pub path : List ℕ

-- a key as a list: its root, and then its path
abbrev pub key_list : Key → List ℕ
key_list k = k.root ∷ k.path

-- the root is a number of one byte, and the path that of a page
pub record IsKey (k : Key) : Type 0 where
  pub root : k.root < 256
  pub slots : are_slots k.path ≡ true
  pub short : length k.path ≤ 7

-- A path as so many digits to the base 32: one more than each slot, and 0 behind the path's end.
unfoldable pub digits : ℕ → List ℕ → ℕ
digits zero p = 0
digits (suc n) [] = 0
digits (suc n) (s ∷ p) = suc s * 32 ^ n + digits n p

-- how many numbers of so many digits are those of a path and what is below it
unfoldable pub room : ℕ → List ℕ → ℕ
room n [] = 32 ^ n
room zero (s ∷ p) = 1
room (suc n) (s ∷ p) = room n p

-- a slot, if the digit is one, before a path
unfoldable pub slot_before : ℕ → List ℕ → List ℕ
slot_before zero p = []
slot_before (suc s) p = s ∷ p

-- the path of so many digits
unfoldable pub path_in : ℕ → ℕ → List ℕ
path_in zero c = []
path_in (suc n) c = slot_before (c / 32 ^ n) (path_in n (c % 32 ^ n))

-- the number of a key: its root, and seven digits
unfoldable pub number_of : Key → ℕ
number_of k = k.root * 32 ^ 7 + digits 7 k.path

-- the key of a number
unfoldable pub key_in : ℕ → Key
key_in c = record { root = c / 32 ^ 7; path = path_in 7 (c % 32 ^ 7) }

-- the number is that of its key
pub record IsNumber (c : ℕ) : Type 0 where
  pub is : number_of (key_in c) ≡ c
  pub key : IsKey (key_in c)
