-- What a capability is sealed with, and what it grants.
use Rattle.std.specs.Prelude.{ℕ, ◌==◌, Bool, not, if◌then◌else◌, List, [], ◌∷◌, ◌++◌, take, drop, slice_index, slice_range, codes, bit_and, Option, Some, None, Result, Ok, Err}
use Rattle.std.specs.Int.{to_be_bytes, from_be_bytes, w32}
use Rattle.std.specs.Str.{bytes_eq}
use Rattle.sha2.specs.Sha256.{sha256}
use Rattle.caps.specs.declared.denied.DeniedWhy.{DeniedWhy}
use Rattle.caps.specs.declared.denied.DeniedWhy.TheVariants.{NoObject, Check, Rights}

-- the port of the file service
abbrev pub port : List ℕ
port = codes "amoeba"

-- a live object's secret and generation, which its entry in the table has
pub record SealValue : Type 0 where
  pub secret : List ℕ
  pub generation : ℕ

-- an object's number as three bytes
abbrev pub object_bytes : ℕ → List ℕ
object_bytes object = drop 1 (to_be_bytes w32 object)

-- the bytes that a check is the digest of: secret, generation, object and rights
abbrev pub sealed_bytes : SealValue → ℕ → ℕ → List ℕ
sealed_bytes seal object rights =
    ((seal.secret ++ to_be_bytes w32 seal.generation) ++ object_bytes object) ++ rights ∷ []

-- the check of an object with these rights: the first six bytes of the digest
unfoldable pub check_of : SealValue → ℕ → ℕ → List ℕ
check_of seal object rights = take 6 (sha256 (sealed_bytes seal object rights))

-- the capability of an object with these rights
abbrev pub capability_of : SealValue → ℕ → ℕ → List ℕ
capability_of seal object rights = port ++ (object_bytes object ++ (rights ∷ check_of seal object rights))

-- the object that a capability names
abbrev pub object_of : List ℕ → ℕ
object_of cap = from_be_bytes w32 (0 ∷ slice_range cap 6 9)

-- the rights that it has
abbrev pub rights_of : List ℕ → ℕ
rights_of cap = slice_index cap 9

-- whether its check is the one that the store makes
abbrev pub is_genuine : SealValue → List ℕ → Bool
is_genuine seal cap = bytes_eq (drop 10 cap) (check_of seal (object_of cap) (rights_of cap))

-- whether every bit of the need is among the rights
abbrev pub has_rights : ℕ → ℕ → Bool
has_rights rights need = bit_and rights need == need

-- what stands in the way of a capability, before rights are asked for: the port or the object, then the check. The seal is
-- that of the object that the capability names, where that is live
abbrev pub doubt_of : Option SealValue → List ℕ → Option DeniedWhy
doubt_of None cap = Some NoObject
doubt_of (Some seal) cap =
    if not (bytes_eq (take 6 cap) port) then Some NoObject
    else if not (is_genuine seal cap) then Some Check
    else None

-- the object that a capability grants for a need, or why it does not
abbrev pub granted_when : Option DeniedWhy → List ℕ → ℕ → Result ℕ DeniedWhy
granted_when (Some why) cap need = Err why
granted_when None cap need = if has_rights (rights_of cap) need then Ok (object_of cap) else Err Rights

abbrev pub granted : Option SealValue → List ℕ → ℕ → Result ℕ DeniedWhy
granted seal cap need = granted_when (doubt_of seal cap) cap need

-- the capability with the rights that both it and a mask have, or why there is none
abbrev pub restricted_when : Option DeniedWhy → SealValue → List ℕ → ℕ → Result (List ℕ) DeniedWhy
restricted_when (Some why) seal cap mask = Err why
restricted_when None seal cap mask = Ok (capability_of seal (object_of cap) (bit_and (rights_of cap) mask))

abbrev pub restricted : Option SealValue → List ℕ → ℕ → Result (List ℕ) DeniedWhy
restricted None cap mask = Err NoObject
restricted (Some seal) cap mask = restricted_when (doubt_of (Some seal) cap) seal cap mask
