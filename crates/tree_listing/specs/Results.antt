-- What a listing in code gives, against what the blocks say.
use Rattle.std.specs.Prelude.{◌≡◌, ℕ, List, ◌++◌, Result, Ok, Err}
use Rattle.tree_model.specs.Trees.{Tree}
use Rattle.store_model.specs.Walk.{Refused}
use Rattle.store_check.specs.declared.refused.WalkRefused.{WalkRefused}
use Rattle.store_check.specs.declared.refused.WalkRefused.TheVariants.{ReadFault, BadStore, Memory}
use Rattle.tree_listing.specs.TreeText.{tree_text}

-- it stops at the same cause; a fault and want of memory say nothing
abbrev pub Stops : {X : Type 0} → WalkRefused → Result X Refused → Type 0
Stops (BadStore block why) outcome = outcome ≡ Err (record { block = block; why = why })
Stops (ReadFault half) outcome = Unit {0}
Stops Memory outcome = Unit {0}

-- it finds what is there, or stops at the cause that is there
abbrev pub Finds : {X : Type 0} → Result X WalkRefused → Result X Refused → Type 0
Finds (Ok x) outcome = outcome ≡ Ok x
Finds (Err e) outcome = Stops e outcome

-- the lines of some tree are appended
abbrev pub AppendsTree : List ℕ → List ℕ → Type 0
AppendsTree old new = (tree : Tree) × (new ≡ old ++ tree_text tree)

-- more bytes stand behind the old ones
abbrev pub Grows : List ℕ → List ℕ → Type 0
Grows old new = (more : List ℕ) × (new ≡ old ++ more)

-- a fault, or want of memory
abbrev pub IsNoCause : WalkRefused → Type 0
IsNoCause (BadStore block why) = ⊥
IsNoCause (ReadFault half) = Unit {0}
IsNoCause Memory = Unit {0}

-- this holds at Ok, and no cause of the store's is answered
abbrev pub Gives : {T : Type 0} → Type 0 → Result T WalkRefused → Type 0
Gives P (Ok x) = P
Gives P (Err e) = IsNoCause e
