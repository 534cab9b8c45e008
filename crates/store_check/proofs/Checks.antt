-- Tests on the way of a walk.
use Rattle.std.proofs.Common.{◌≡◌, ℕ, Bool, true, false, List, Ok, Err, refl}
use Rattle.page_codec.specs.declared.why.Why.{Why}
use Rattle.store_model.specs.Walk.{Walk, bind, check, done, refuse}

-- a test that holds lets the walk go on
pub passes : {X : Type 0} (test : Bool) (block : ℕ) (why : Why) (next : Bool → Walk X) (places : List ℕ) → test ≡ true → bind (check test block why) next places ≡ next true places
unfolding bind check done
passes true block why next places e = refl
passes false block why next places e = absurd cc

-- one that does not stops it
pub fails : {X : Type 0} (test : Bool) (block : ℕ) (why : Why) (next : Bool → Walk X) (places : List ℕ) → test ≡ false → bind (check test block why) next places ≡ Err (record { block = block; why = why })
unfolding bind check refuse
fails true block why next places e = absurd cc
fails false block why next places e = refl

pub passes_last : (test : Bool) (block : ℕ) (why : Why) (places : List ℕ) → test ≡ true → check test block why places ≡ Ok (true, places)
unfolding check done
passes_last true block why places e = refl
passes_last false block why places e = absurd cc

pub fails_last : (test : Bool) (block : ℕ) (why : Why) (places : List ℕ) → test ≡ false → check test block why places ≡ Err (record { block = block; why = why })
unfolding check refuse
fails_last true block why places e = absurd cc
fails_last false block why places e = refl
