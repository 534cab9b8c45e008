-- What is told of the cause of a call that was refused.
use Rattle.std.proofs.Common.{◌≡◌, Result, Err, IfErr, MatchResult, sym, subst}

-- what holds of the cause that a call hands on
pub of_cause : {T E : Type 0} (r : Result T E) (e : E) (P : E → Type 0) → r ≡ Err e → P e
    → IfErr r P
of_cause {T} {E} r e P is holds = subst (λ (q : Result T E). IfErr q P) (sym is) holds

-- the same of a call that says something of its value too
pub of_refusal : {T E : Type 0} (r : Result T E) (e : E) (P : T → Type 0) (Q : E → Type 0)
    → r ≡ Err e → Q e → MatchResult r P Q
of_refusal {T} {E} r e P Q is holds =
    subst (λ (q : Result T E). MatchResult q P Q) (sym is) holds
