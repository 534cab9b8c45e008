-- A read, and then a write of what became of it, as changes of contents.
use Rattle.std.proofs.Common.{inl, inr, ℕ, Option, None, List, Result, Ok, Err, IfErr, ◌∙◌}
use Rattle.drives.specs.Changes.{Changes}
use Rattle.drives.proofs.Composing.{goes_on, leaves_now, weaker}
use Rattle.pair_store.specs.declared.fault.PairFault.{PairFault}
use Rattle.pair_store.specs.declared.fault.PairFault.TheVariants.{ReadFault, WriteFault, BothClosed, BadPage}
use Rattle.pair_store.specs.Answers.{HasCommit, HasVersion, IsCleared, IsRefused, IsTested, IsWriteFault, LeftAlone}
use Rattle.pair_store.specs.Blocks.{OldOrNew, SameContents, SameOthers}

-- contents of a store that holds another
pub lifted : {P D X : Type 0} (f : P → D) (moment : D → ℕ) (left : D → ℕ → X → Type 0) (p q : P) (R : X → X → Type 0) → Changes moment left (f p) (f q) R → Changes (λ s. moment (f s)) (λ s. left (f s)) p q R
lifted f moment left p q R changes = record { later = changes.later; last = changes.last; stuck = changes.stuck; past = changes.past; own = changes.own }

module _ {D : Type 0} (moment : D → ℕ) (left : D → ℕ → (ℕ → Option (List ℕ)) → Type 0) (n : ℕ) where
  -- what keeps all contents keeps all others, and may be a write that did not begin
  pub read_others : (old new : D) → Changes moment left old new SameContents → Changes moment left old new (SameOthers n)
  read_others old new changes = weaker moment left old new SameContents (SameOthers n) changes (λ f g _ same k ne. same k)

  pub read_either : (body : List ℕ) (old new : D) → Changes moment left old new SameContents → Changes moment left old new (OldOrNew n body)
  read_either body old new changes = weaker moment left old new SameContents (OldOrNew n body) changes (λ f g _ same. record { others = λ k ne. same k; here = inl (same n) })

  -- a read, and then a write
  module _ (old mid new : D) (first : Changes moment left old mid SameContents) where
    pub write_others : Changes moment left mid new (SameOthers n) → Changes moment left old new (SameOthers n)
    write_others second = goes_on moment left old mid new SameContents SameContents (SameOthers n) (SameOthers n)
        first (leaves_now moment left old mid SameContents first) second
        (λ f g _ same k ne. same k)
        (λ f g h _ same others k ne. others k ne ∙ same k)

    pub write_either : (body : List ℕ) → Changes moment left mid new (OldOrNew n body) → Changes moment left old new (OldOrNew n body)
    write_either body second = goes_on moment left old mid new SameContents SameContents (OldOrNew n body) (OldOrNew n body)
        first (leaves_now moment left old mid SameContents first) second
        (λ f g _ same. record { others = λ k ne. same k; here = inl (same n) })
        (λ f g h _ same either. record {
          others = λ k ne. either.others k ne ∙ same k;
          here = elim either.here [ inl e ↦ inl (e ∙ same n) | inr e ↦ inr e ];
        })

    pub write_nothing : Changes moment left mid new SameContents → Changes moment left old new SameContents
    write_nothing second = goes_on moment left old mid new SameContents SameContents SameContents SameContents
        first (leaves_now moment left old mid SameContents first) second
        (λ f g _ same. same)
        (λ f g h _ same then k. then k ∙ same k)

-- a write that failed followed a reference that was nil
pub tested_fault : (n : ℕ) (c : Option (List ℕ)) (e : PairFault) → IsWriteFault e → HasCommit c None → IsTested n c (Err e)
tested_fault n c (ReadFault h) is has = absurd is
tested_fault n c (WriteFault h) is has = has
tested_fault n c (BothClosed m) is has = absurd is
tested_fault n c (BadPage m why) is has = absurd is

-- and one of a page without members a version page
pub cleared : {T : Type 0} (n : ℕ) (c : Option (List ℕ)) (r : Result T PairFault) → IfErr r IsWriteFault → HasVersion c → IsCleared n c r
cleared n c (Ok x) only has = has
cleared n c (Err (ReadFault h)) only has = absurd only
cleared n c (Err (WriteFault h)) only has = has
cleared n c (Err (BothClosed m)) only has = absurd only
cleared n c (Err (BadPage m why)) only has = absurd only

-- a write is not refused before it begins
pub unrefused : {T : Type 0} (r : Result T PairFault) → IfErr r IsWriteFault → IsRefused r → ⊥
unrefused (Ok x) only refused = refused
unrefused (Err (ReadFault h)) only refused = only
unrefused (Err (WriteFault h)) only refused = refused
unrefused (Err (BothClosed m)) only refused = only
unrefused (Err (BadPage m why)) only refused = only

-- a write that failed was one
pub fault_alone : (e : PairFault) → IsWriteFault e → LeftAlone (Err e) → ⊥
fault_alone (ReadFault h) is alone = is
fault_alone (WriteFault h) is alone = alone
fault_alone (BothClosed m) is alone = is
fault_alone (BadPage m why) is alone = is
