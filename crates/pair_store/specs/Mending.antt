-- What mending finds of a block on two halves, what it does with it, and what it answers.
use Rattle.std.specs.Prelude.{◌≡◌, ◌≢◌, ℕ, List, Result, Ok, Err, slice_index}
use Rattle.drives.specs.declared.device.Half.{Half}
use Rattle.drives.specs.declared.device.Half.TheVariants.{A, B}
use Rattle.drives.specs.Half.{other}
use Rattle.drives.specs.Changes.{Halves}
use Rattle.pair_store.specs.declared.fault.PairFault.{PairFault}
use Rattle.pair_store.specs.declared.fault.PairFault.TheVariants.{ReadFault, WriteFault, BothClosed, BadPage}
use Rattle.pair_store.specs.declared.outcome.Mended.{Mended}
use Rattle.pair_store.specs.declared.outcome.Mended.TheVariants.{Same, Copied, Nothing}
use Rattle.pair_store.specs.Content.{IsOpen, block_on, gate}

-- this half of a block has to become equal to the other: half A where half B is open and they
-- differ, half B where it is closed and half A is open
abbrev pub IsStale : ℕ → Halves → Half → Type 0
IsStale n x A = IsOpen x.b n × (block_on x.a n ≢ block_on x.b n)
IsStale n x B = (gate x.b n ≢ 165) × IsOpen x.a n

-- a mending of block n on two halves
abbrev pub IsMended : ℕ → Halves → Result Mended PairFault → Type 0
IsMended n x (Ok Same) = IsOpen x.a n × IsOpen x.b n × (block_on x.a n ≡ block_on x.b n)
IsMended n x (Ok (Copied from)) = IsStale n x (other from)
IsMended n x (Ok Nothing) = (gate x.a n ≢ 165) × (gate x.b n ≢ 165)
IsMended n x (Err (ReadFault h)) = Unit {0}
IsMended n x (Err (WriteFault h)) = IsStale n x h
IsMended n x (Err (BothClosed m)) = ⊥
IsMended n x (Err (BadPage m why)) = ⊥

-- one of the halves failed in a read or in a write
abbrev pub IsHalfFault : PairFault → Type 0
IsHalfFault (ReadFault h) = Unit {0}
IsHalfFault (WriteFault h) = Unit {0}
IsHalfFault (BothClosed m) = ⊥
IsHalfFault (BadPage m why) = ⊥

-- and it was this half
abbrev pub IsFaultOf : Half → Result Mended PairFault → Type 0
IsFaultOf h (Ok m) = ⊥
IsFaultOf h (Err (ReadFault half)) = half ≡ h
IsFaultOf h (Err (WriteFault half)) = half ≡ h
IsFaultOf h (Err (BothClosed m)) = ⊥
IsFaultOf h (Err (BadPage m why)) = ⊥

-- nothing was written: the halves are equal, or closed, or one of them failed in a read
abbrev pub WroteNothing : Result Mended PairFault → Type 0
WroteNothing (Ok Same) = Unit {0}
WroteNothing (Ok (Copied from)) = ⊥
WroteNothing (Ok Nothing) = Unit {0}
WroteNothing (Err (ReadFault h)) = Unit {0}
WroteNothing (Err (WriteFault h)) = ⊥
WroteNothing (Err (BothClosed m)) = Unit {0}
WroteNothing (Err (BadPage m why)) = Unit {0}

-- the block was copied from this half, or its copying began
abbrev pub IsCopy : Half → Result Mended PairFault → Type 0
IsCopy from (Ok Same) = ⊥
IsCopy from (Ok (Copied half)) = half ≡ from
IsCopy from (Ok Nothing) = ⊥
IsCopy from (Err (ReadFault h)) = ⊥
IsCopy from (Err (WriteFault h)) = h ≡ other from
IsCopy from (Err (BothClosed m)) = ⊥
IsCopy from (Err (BadPage m why)) = ⊥

-- what mending does with these bytes of a block on half A and on half B, and the bytes that it
-- copies
abbrev pub IsPlan : List ℕ → List ℕ → List ℕ → Mended → Type 0
IsPlan a b body Same = (slice_index b 0 ≡ 165) × (a ≡ b)
IsPlan a b body (Copied A) = (slice_index b 0 ≢ 165) × (slice_index a 0 ≡ 165) × (body ≡ a)
IsPlan a b body (Copied B) = (slice_index b 0 ≡ 165) × (a ≢ b) × (body ≡ b)
IsPlan a b body Nothing = (slice_index a 0 ≢ 165) × (slice_index b 0 ≢ 165)

-- a half is copied
abbrev pub Copies : Mended → Type 0
Copies Same = ⊥
Copies (Copied from) = Unit {0}
Copies Nothing = ⊥
