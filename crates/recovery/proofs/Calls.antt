-- The two calls that change a version page, as an edit of it.
use Rattle.std.proofs.Common.{◌≡◌, ◌≢◌, ◌⊎◌, inl, inr, ℕ, List, Option, Some, None, Result, Ok, Err, OnOk, IfErr, sym, ap, subst, ◌∙◌}
use Rattle.drives.specs.declared.device.Half.{Half}
use Rattle.page_codec.specs.declared.why.Why.{Why}
use Rattle.page_codec.specs.Values.{VersionValue}
use Rattle.page_codec.specs.Causes.{version_of}
use Rattle.pair_store.specs.Answers.{IsCleared, IsRefused, IsSet, IsTested, IsUntorn, LeftAlone}
use Rattle.pair_store.specs.ContentLaws.{decide}
use Rattle.pair_store.specs.declared.fault.PairFault.{PairFault}
use Rattle.pair_store.specs.declared.fault.PairFault.TheVariants.{ReadFault as Unread, WriteFault as Unwritten, BothClosed, BadPage}
use Rattle.pair_store.specs.declared.outcome.Tas.{Tas}
use Rattle.pair_store.specs.declared.outcome.Tas.TheVariants.{Set, Taken}
use Rattle.store_model.proofs.Edits.{some_is, none_some}
use Rattle.recovery.specs.declared.refused.OpenRefused.TheVariants.{ReadFault, WriteFault}
use Rattle.recovery.specs.Opening.{called, refused_call}
use Rattle.recovery.specs.Rolling.{IsHalfFailed, IsUnwritten}
use Rattle.recovery.proofs.Rolls.{fault_read, fault_write}

err_is : {T E : Type 0} (e f : E) → (let r : Result T E = Err e in r) ≡ Err f → e ≡ f
err_is e f is = cc

-- which fault of a call it came to
pub called_read : {T : Type 0} (r : Result T PairFault) (h : Half) → called r ≡ Err (ReadFault h) → r ≡ Err (Unread h)
called_read (Ok x) h is = absurd cc
called_read (Err fault) h is = ap Err (fault_read fault h (err_is {T = Unit {0}} (refused_call fault) (ReadFault h) is))

pub called_write : {T : Type 0} (r : Result T PairFault) (h : Half) → called r ≡ Err (WriteFault h) → r ≡ Err (Unwritten h)
called_write (Ok x) h is = absurd cc
called_write (Err fault) h is = ap Err (fault_write fault h (err_is {T = Unit {0}} (refused_call fault) (WriteFault h) is))

-- all blocks stay settled where the one that is written is, and the others do
pub settles_all : (s t : ℕ → Type 0) (n : ℕ) → t n → ((k : ℕ) → k ≢ n → s k → t k) → (k : ℕ) → s k → t k
settles_all s t n here others k h = elim (decide k n) [ inl at ↦ subst t (sym at) here | inr off ↦ others k off h ]

never_page : {A : Type 0} (why : Why) (page : VersionValue) → Err why ≡ Ok page → A
never_page why page e = absurd cc

page_is : (v w : VersionValue) → (let r : Result VersionValue Why = Ok v in r) ≡ Ok w → v ≡ w
page_is v w e = cc

-- ---- a test-and-set

-- where the reference is nil it is set, or a half fails
abbrev SetOrFailed : Result Tas PairFault → Type 0
SetOrFailed (Ok Set) = Unit {0}
SetOrFailed (Ok (Taken by)) = ⊥
SetOrFailed (Err fault) = IsHalfFailed (refused_call fault)

set_or_failed : (c : Option (List ℕ)) (n : ℕ) (body : List ℕ) (page : VersionValue) (r : Result Tas PairFault) → c ≡ Some body → version_of body ≡ Ok page
    → page.commit ≡ None → IsTested n c r → SetOrFailed r
set_or_failed c n body page (Ok Set) holds reads nil is = tt
set_or_failed c n body page (Ok (Taken by)) holds reads nil (b, v, here, read, commit) =
    let same : b ≡ body = some_is (sym here ∙ holds) in
    none_some (sym nil ∙ ap (λ (p : VersionValue). p.commit) (sym (page_is v page (sym read ∙ ap version_of same ∙ reads))) ∙ commit)
set_or_failed c n body page (Err (Unread h)) holds reads nil is = tt
set_or_failed c n body page (Err (Unwritten h)) holds reads nil is = tt
set_or_failed c n body page (Err (BothClosed m)) holds reads nil is = none_some (sym is.1 ∙ holds)
set_or_failed c n body page (Err (BadPage m why)) holds reads nil (at, (b, here, read)) =
    let same : b ≡ body = some_is (sym here ∙ holds) in
    never_page why page (sym read ∙ ap version_of same ∙ reads)

pub set_written : (c : Option (List ℕ)) (n : ℕ) (body : List ℕ) (page : VersionValue) (r : Result Tas PairFault) (P : Type 0) → c ≡ Some body
    → version_of body ≡ Ok page → page.commit ≡ None → IsTested n c r → (IsSet r → P) → OnOk (called r) P
set_written c n body page r P holds reads nil is written = of r (set_or_failed c n body page r holds reads nil is) written
  where
    of : (q : Result Tas PairFault) → SetOrFailed q → (IsSet q → P) → OnOk (called q) P
    of (Ok Set) set w = w tt
    of (Ok (Taken by)) set w = absurd set
    of (Err fault) set w = tt

pub set_only : (c : Option (List ℕ)) (n : ℕ) (body : List ℕ) (page : VersionValue) (r : Result Tas PairFault) → c ≡ Some body
    → version_of body ≡ Ok page → page.commit ≡ None → IsTested n c r → IfErr (called r) IsHalfFailed
set_only c n body page r holds reads nil is = of r (set_or_failed c n body page r holds reads nil is)
  where
    of : (q : Result Tas PairFault) → SetOrFailed q → IfErr (called q) IsHalfFailed
    of (Ok t) set = tt
    of (Err fault) set = set

-- blocks stay settled
pub set_kept : (r : Result Tas PairFault) (s u : ℕ → Type 0) (n : ℕ) → (IsSet r → u n)
    → (IsUntorn r → (k : ℕ) → (k ≢ n) ⊎ LeftAlone r → s k → u k) → OnOk (called r) ((k : ℕ) → s k → u k)
set_kept (Ok Set) s u n here kept = settles_all s u n (here tt) (λ k off. kept tt k (inl off))
set_kept (Ok (Taken by)) s u n here kept = λ k h. kept tt k (inr tt) h
set_kept (Err fault) s u n here kept = tt

-- nothing becomes pending where no write failed
pub set_rest : (r : Result Tas PairFault) (P Q : Type 0) → (IsSet r → Q) → (LeftAlone r → P → Q) → P → IsUnwritten (called r) → Q
set_rest (Ok Set) P Q done alone p un = done tt
set_rest (Ok (Taken by)) P Q done alone p un = alone tt p
set_rest (Err (Unread h)) P Q done alone p un = alone tt p
set_rest (Err (Unwritten h)) P Q done alone p un = absurd un
set_rest (Err (BothClosed m)) P Q done alone p un = alone tt p
set_rest (Err (BadPage m why)) P Q done alone p un = alone tt p

-- ---- members cleared

pub clear_written : {T : Type 0} (r : Result T PairFault) (P : Type 0) → OnOk r P → OnOk (called r) P
clear_written (Ok x) P p = p
clear_written (Err fault) P p = tt

pub clear_only : {T : Type 0} (c : Option (List ℕ)) (n : ℕ) (body : List ℕ) (page : VersionValue) (r : Result T PairFault) → c ≡ Some body → version_of body ≡ Ok page
    → IsCleared n c r → IfErr (called r) IsHalfFailed
clear_only c n body page (Ok x) holds reads is = tt
clear_only c n body page (Err (Unread h)) holds reads is = tt
clear_only c n body page (Err (Unwritten h)) holds reads is = tt
clear_only c n body page (Err (BothClosed m)) holds reads is = none_some (sym is.1 ∙ holds)
clear_only c n body page (Err (BadPage m why)) holds reads (at, (b, here, read)) =
    let same : b ≡ body = some_is (sym here ∙ holds) in
    never_page why page (sym read ∙ ap version_of same ∙ reads)

pub clear_kept : {T : Type 0} (r : Result T PairFault) (s u : ℕ → Type 0) (n : ℕ) → OnOk r (u n)
    → (IsUntorn r → (k : ℕ) → (k ≢ n) ⊎ IsRefused r → s k → u k) → OnOk (called r) ((k : ℕ) → s k → u k)
clear_kept (Ok x) s u n here kept = settles_all s u n here (λ k off. kept tt k (inl off))
clear_kept (Err fault) s u n here kept = tt

pub clear_rest : {T : Type 0} (r : Result T PairFault) (P Q : Type 0) → OnOk r Q → (IsRefused r → P → Q) → P → IsUnwritten (called r) → Q
clear_rest (Ok x) P Q done alone p un = done
clear_rest (Err (Unread h)) P Q done alone p un = alone tt p
clear_rest (Err (Unwritten h)) P Q done alone p un = absurd un
clear_rest (Err (BothClosed m)) P Q done alone p un = alone tt p
clear_rest (Err (BadPage m why)) P Q done alone p un = alone tt p
