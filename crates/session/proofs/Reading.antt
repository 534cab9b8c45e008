-- A block that was not read gives nothing, whatever was to be made of it.
use Rattle.std.proofs.Common.{◌≡◌, ℕ, List, Result, Err, sym, subst}
use Rattle.pair_store.specs.declared.store.Blocks.{Ghosts}
use Rattle.session.specs.Reads.{IsAnything, ReadCall}
use Rattle.session.specs.declared.common.Common.{Common}
use Rattle.session.specs.declared.turned.Fault.{Fault}
use Rattle.session.specs.declared.turned.Fault.TheVariants.{Drive}

unread : {D T : Type 0} (b : Ghosts D) (Gives : List ℕ → T → Type 0) (c c' : Common D) (n : ℕ) (e : Fault) → ReadCall b IsAnything c c' n (Err e) → ReadCall b Gives c c' n (Err e)
unread b Gives c c' n e read = record {
  alone = read.alone;
  within = tt;
  one = tt;
  most = read.most;
  read = read.read;
  rest = read.rest;
  gives = λ told settled bytes is. tt;
  good = λ told settled low bytes x is gives. read.good told settled low bytes tt is tt;
  failed = λ h is. read.failed h (let same : e ≡ Drive h = cc in cc);
}

pub read_failed : {D T : Type 0} (b : Ghosts D) (Gives : List ℕ → T → Type 0) (c c' : Common D) (n : ℕ) (result : Result (Unit {0}) Fault) (e : Fault) (out : Result T Fault)
    → ReadCall b IsAnything c c' n result → result ≡ Err e → out ≡ Err e → ReadCall b Gives c c' n out
read_failed {D} {T} b Gives c c' n result e out read was is =
    subst (λ (r : Result T Fault). ReadCall b Gives c c' n r) (sym is)
    (unread b Gives c c' n e (subst (λ (r : Result (Unit {0}) Fault). ReadCall b IsAnything c c' n r) was read))
