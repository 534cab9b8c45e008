-- A bounded list of blocks with their bytes, the latest first.
use Rattle.std.specs.Prelude.{ℕ, Bool, List, [], ◌∷◌, take, nat_eq, is_some, if◌then◌else◌, refl}
use Rattle.std.specs.Map.{keys_of, lookup}
use Rattle.std.specs.Coded.{Coded, code_by, coded×, coded_list, coded_ℕ}

-- of a store with so many blocks at most so many, each with its bytes, the latest first
pub record Listing : Type 0 where
  pub blocks : ℕ
  pub pages : ℕ
  pub entries : List (ℕ × List ℕ)

abbrev pub listing : ℕ → ℕ → List (ℕ × List ℕ) → Listing
listing blocks pages entries = record { blocks = blocks; pages = pages; entries = entries }

abbrev pub listing_code : Coded Listing
listing_code = code_by (ℕ × (ℕ × List (ℕ × List ℕ))) (coded× coded_ℕ (coded× coded_ℕ (coded_list (coded× coded_ℕ (coded_list coded_ℕ))))) (λ l. (l.blocks, (l.pages, l.entries))) (λ p. listing p.0 p.1.0 p.1.1) (λ _. refl)

-- the numbers of the listed blocks, the latest first
abbrev pub numbers : Listing → List ℕ
numbers l = keys_of l.entries

abbrev pub is_listed : ℕ → Listing → Bool
is_listed n l = is_some (lookup (nat_eq n) l.entries)

-- the entries of all blocks but n
abbrev pub others : ℕ → List (ℕ × List ℕ) → List (ℕ × List ℕ)
others n [] = []
others n (e ∷ es) = if nat_eq n e.0 then others n es else e ∷ others n es

-- block n goes to the front with these bytes; where it is new and the list is full, the last goes
abbrev pub put_front : ℕ → List ℕ → Listing → Listing
put_front n body l = listing l.blocks l.pages (take l.pages ((n, body) ∷ others n l.entries))

-- block n is taken out
abbrev pub take_out : ℕ → Listing → Listing
take_out n l = listing l.blocks l.pages (others n l.entries)
