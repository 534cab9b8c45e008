-- Walking over the blocks of a store: what is found on the way, and the first cause that stops it.
use Rattle.std.specs.Prelude.{ℕ, Bool, ◌&&◌, nat_eq, nat_le, nat_lt, true, List, [], ◌∷◌, Option, Some, None, Result, Ok, Err, if◌then◌else◌}
use Rattle.std.specs.List.{list_any}
use Rattle.page_codec.specs.declared.why.Why.{Why}
use Rattle.page_codec.specs.declared.why.Why.TheVariants.{Closed, Reference, Seen}

-- what each block holds, or none where both gates are closed, and how many blocks there are
pub record Blocks : Type 0 where
  pub content : ℕ → Option (List ℕ)
  pub count : ℕ

-- a block of a store that is not lawful, and why
pub record Refused : Type 0 where
  pub block : ℕ
  pub why : Why

-- A walk starts with the places found so far. It ends with what it found and all places, or with the first cause.
abbrev pub Walk : Type 0 → Type 0
Walk X = List ℕ → Result (X × List ℕ) Refused

-- go on with what was found
abbrev pub and_then : {X Y : Type 0} → Result (X × List ℕ) Refused → (X → Walk Y) → Result (Y × List ℕ) Refused
and_then (Ok x) next = next x.0 x.1
and_then (Err e) next = Err e

-- one walk after the other
unfoldable pub bind : {X Y : Type 0} → Walk X → (X → Walk Y) → Walk Y
bind walk next seen = and_then (walk seen) next

infixl 10 ◌>>=◌
abbrev pub ◌>>=◌ : {X Y : Type 0} → Walk X → (X → Walk Y) → Walk Y
walk >>= next = bind walk next

infixl 10 ◌>>◌
abbrev pub ◌>>◌ : {X Y : Type 0} → Walk X → Walk Y → Walk Y
walk >> next = walk >>= λ _. next

-- find this, and no further place
unfoldable pub done : {X : Type 0} → X → Walk X
done x seen = Ok (x, seen)

-- stop
unfoldable pub refuse : {X : Type 0} → ℕ → Why → Walk X
refuse block why seen = Err (record { block = block; why = why })

-- go on where the test holds, else stop
unfoldable pub check : Bool → ℕ → Why → Walk Bool
check test block why = if test then done test else refuse block why

-- what a block was read as, or its cause
unfoldable pub decoded : {X : Type 0} → ℕ → Result X Why → Walk X
decoded block (Ok x) = done x
decoded block (Err why) = refuse block why

-- what a block holds; it is closed where it holds nothing
unfoldable pub content_at : ℕ → Option (List ℕ) → Walk (List ℕ)
content_at block None = refuse block Closed
content_at block (Some bytes) = done bytes

-- a walk for the value, where there is one
unfoldable pub if_some : {X Y : Type 0} → Option X → (X → Walk (List Y)) → Walk (List Y)
if_some None walk = done []
if_some (Some x) walk = walk x

-- the block was not found before
unfoldable pub is_new : ℕ → Walk Bool
is_new block seen = if list_any (nat_eq block) seen then refuse block Seen seen else done true seen

-- one more place
unfoldable pub add : ℕ → Walk Bool
add block seen = Ok (true, block ∷ seen)

-- A block that another one names is a new place: its number is in range, no other place has it, and it holds something.
unfoldable pub place : Blocks → ℕ → ℕ → Walk (List ℕ)
place blocks namer block = do
  check (nat_le 1 block && nat_lt block blocks.count) namer Reference
  is_new block
  add block
  content_at block (blocks.content block)
