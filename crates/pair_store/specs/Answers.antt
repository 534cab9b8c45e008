-- What the calls on a block answer, by its content.
use Rattle.std.specs.Prelude.{◌≡◌, ℕ, Option, Some, None, List, Result, Ok, Err}
use Rattle.page_codec.specs.declared.why.Why.{Why}
use Rattle.page_codec.specs.Values.{VersionValue}
use Rattle.page_codec.specs.Causes.{version_of}
use Rattle.pair_store.specs.declared.fault.PairFault.{PairFault}
use Rattle.pair_store.specs.declared.fault.PairFault.TheVariants.{ReadFault, WriteFault, BothClosed, BadPage}
use Rattle.pair_store.specs.declared.outcome.Tas.{Tas}
use Rattle.pair_store.specs.declared.outcome.Tas.TheVariants.{Set, Taken}

-- a read refuses for want of both halves, or since neither has content
abbrev pub IsReadFault : ℕ → PairFault → Type 0
IsReadFault n (ReadFault h) = Unit {0}
IsReadFault n (WriteFault h) = ⊥
IsReadFault n (BothClosed m) = m ≡ n
IsReadFault n (BadPage m why) = ⊥

-- a half failed while the block was written
abbrev pub IsWriteFault : PairFault → Type 0
IsWriteFault (ReadFault h) = ⊥
IsWriteFault (WriteFault h) = Unit {0}
IsWriteFault (BothClosed m) = ⊥
IsWriteFault (BadPage m why) = ⊥

-- a fault that names a block names this one
abbrev pub IsFaultAt : ℕ → PairFault → Type 0
IsFaultAt n (ReadFault h) = Unit {0}
IsFaultAt n (WriteFault h) = Unit {0}
IsFaultAt n (BothClosed m) = m ≡ n
IsFaultAt n (BadPage m why) = m ≡ n

-- the content is a version page with this commit reference
abbrev pub HasCommit : Option (List ℕ) → Option ℕ → Type 0
HasCommit c commit = (body : List ℕ) × (v : VersionValue) × (c ≡ Some body) × (version_of body ≡ Ok v) × (v.commit ≡ commit)

-- the content is a version page
abbrev pub HasVersion : Option (List ℕ) → Type 0
HasVersion c = (body : List ℕ) × (v : VersionValue) × (c ≡ Some body) × (version_of body ≡ Ok v)

-- the content is no version page, for this cause first
abbrev pub HasNoVersion : Option (List ℕ) → Why → Type 0
HasNoVersion c why = (body : List ℕ) × (c ≡ Some body) × (version_of body ≡ Err why)

-- a test-and-set on block n with this content
abbrev pub IsTested : ℕ → Option (List ℕ) → Result Tas PairFault → Type 0
IsTested n c (Ok Set) = HasCommit c None
IsTested n c (Ok (Taken by)) = HasCommit c (Some by)
IsTested n c (Err (ReadFault h)) = Unit {0}
IsTested n c (Err (WriteFault h)) = HasCommit c None
IsTested n c (Err (BothClosed m)) = (m ≡ n) × (c ≡ None)
IsTested n c (Err (BadPage m why)) = (m ≡ n) × HasNoVersion c why

-- a clearing of the members of block n with this content
abbrev pub IsCleared : {T : Type 0} → ℕ → Option (List ℕ) → Result T PairFault → Type 0
IsCleared n c (Ok _) = HasVersion c
IsCleared n c (Err (ReadFault h)) = Unit {0}
IsCleared n c (Err (WriteFault h)) = HasVersion c
IsCleared n c (Err (BothClosed m)) = (m ≡ n) × (c ≡ None)
IsCleared n c (Err (BadPage m why)) = (m ≡ n) × HasNoVersion c why

-- the reference was set
abbrev pub IsSet : Result Tas PairFault → Type 0
IsSet (Ok Set) = Unit {0}
IsSet (Ok (Taken by)) = ⊥
IsSet (Err e) = ⊥

-- nothing was written: the reference was taken, or the call was refused before its write
abbrev pub LeftAlone : Result Tas PairFault → Type 0
LeftAlone (Ok Set) = ⊥
LeftAlone (Ok (Taken by)) = Unit {0}
LeftAlone (Err (ReadFault h)) = Unit {0}
LeftAlone (Err (WriteFault h)) = ⊥
LeftAlone (Err (BothClosed m)) = Unit {0}
LeftAlone (Err (BadPage m why)) = Unit {0}

-- nothing was written: the call was refused before its write
abbrev pub IsRefused : {T : Type 0} → Result T PairFault → Type 0
IsRefused (Ok _) = ⊥
IsRefused (Err (ReadFault h)) = Unit {0}
IsRefused (Err (WriteFault h)) = ⊥
IsRefused (Err (BothClosed m)) = Unit {0}
IsRefused (Err (BadPage m why)) = Unit {0}

-- no write failed
abbrev pub IsUntorn : {T : Type 0} → Result T PairFault → Type 0
IsUntorn (Ok x) = Unit {0}
IsUntorn (Err (ReadFault h)) = Unit {0}
IsUntorn (Err (WriteFault h)) = ⊥
IsUntorn (Err (BothClosed m)) = Unit {0}
IsUntorn (Err (BadPage m why)) = Unit {0}
