-- The codes of lawful flags, both ways.
use Rattle.std.proofs.Common.{◌≡◌, ℕ, zero, suc, ◌≤◌, Bool, true, false, refl, arith}
use Rattle.std.specs.Prelude.{IsTrue, Some, slice_get}
use Rattle.ref_flags.specs.Flagged.{Flagged, is_lawful}
use Rattle.ref_flags.specs.Codes.{code_of, flags_of}
use Rattle.ref_flags.specs.Table.{rows}

abbrev flagged : Bool → Bool → Bool → Bool → Bool → Flagged
flagged c r w s m = record { copied = c; read = r; written = w; searched = s; modified = m }

back : (c r w s m : Bool) → IsTrue (is_lawful (flagged c r w s m)) → flags_of (code_of (flagged c r w s m)) ≡ flagged c r w s m
back false false false false false h = refl
back true false false false false h = refl
back true false false true false h = refl
back true false false true true h = refl
back true true false false false h = refl
back true true false true false h = refl
back true true false true true h = refl
back true false true false false h = refl
back true false true true false h = refl
back true false true true true h = refl
back true true true false false h = refl
back true true true true false h = refl
back true true true true true h = refl
back c r w s m h = absurd cc

-- the code of lawful flags stands for them
pub flags_of-code_of : (f : Flagged) → IsTrue (is_lawful f) → flags_of (code_of f) ≡ f
flags_of-code_of f h = back f.copied f.read f.written f.searched f.modified h

small : (c r w s m : Bool) → IsTrue (is_lawful (flagged c r w s m)) → code_of (flagged c r w s m) ≤ 12
small false false false false false h = omega arith
small true false false false false h = omega arith
small true false false true false h = omega arith
small true false false true true h = omega arith
small true true false false false h = omega arith
small true true false true false h = omega arith
small true true false true true h = omega arith
small true false true false false h = omega arith
small true false true true false h = omega arith
small true false true true true h = omega arith
small true true true false false h = omega arith
small true true true true false h = omega arith
small true true true true true h = omega arith
small c r w s m h = absurd cc

-- no code of lawful flags is above 12
pub code_of-le : (f : Flagged) → IsTrue (is_lawful f) → code_of f ≤ 12
code_of-le f h = small f.copied f.read f.written f.searched f.modified h

-- a code from 0 to 12 is that of the flags that it stands for
pub code_of-flags_of : (n : ℕ) → n ≤ 12 → code_of (flags_of n) ≡ n
code_of-flags_of zero h = refl
code_of-flags_of (suc zero) h = refl
code_of-flags_of (suc (suc zero)) h = refl
code_of-flags_of (suc (suc (suc zero))) h = refl
code_of-flags_of (suc (suc (suc (suc zero)))) h = refl
code_of-flags_of (suc (suc (suc (suc (suc zero))))) h = refl
code_of-flags_of (suc (suc (suc (suc (suc (suc zero)))))) h = refl
code_of-flags_of (suc (suc (suc (suc (suc (suc (suc zero))))))) h = refl
code_of-flags_of (suc (suc (suc (suc (suc (suc (suc (suc zero)))))))) h = refl
code_of-flags_of (suc (suc (suc (suc (suc (suc (suc (suc (suc zero))))))))) h = refl
code_of-flags_of (suc (suc (suc (suc (suc (suc (suc (suc (suc (suc zero)))))))))) h = refl
code_of-flags_of (suc (suc (suc (suc (suc (suc (suc (suc (suc (suc (suc zero))))))))))) h = refl
code_of-flags_of (suc (suc (suc (suc (suc (suc (suc (suc (suc (suc (suc (suc zero)))))))))))) h = refl
code_of-flags_of (suc (suc (suc (suc (suc (suc (suc (suc (suc (suc (suc (suc (suc n))))))))))))) h = absurd (omega arith)

-- what a code from 0 to 12 stands for is lawful
pub is_lawful-flags_of : (n : ℕ) → n ≤ 12 → IsTrue (is_lawful (flags_of n))
is_lawful-flags_of zero h = refl
is_lawful-flags_of (suc zero) h = refl
is_lawful-flags_of (suc (suc zero)) h = refl
is_lawful-flags_of (suc (suc (suc zero))) h = refl
is_lawful-flags_of (suc (suc (suc (suc zero)))) h = refl
is_lawful-flags_of (suc (suc (suc (suc (suc zero))))) h = refl
is_lawful-flags_of (suc (suc (suc (suc (suc (suc zero)))))) h = refl
is_lawful-flags_of (suc (suc (suc (suc (suc (suc (suc zero))))))) h = refl
is_lawful-flags_of (suc (suc (suc (suc (suc (suc (suc (suc zero)))))))) h = refl
is_lawful-flags_of (suc (suc (suc (suc (suc (suc (suc (suc (suc zero))))))))) h = refl
is_lawful-flags_of (suc (suc (suc (suc (suc (suc (suc (suc (suc (suc zero)))))))))) h = refl
is_lawful-flags_of (suc (suc (suc (suc (suc (suc (suc (suc (suc (suc (suc zero))))))))))) h = refl
is_lawful-flags_of (suc (suc (suc (suc (suc (suc (suc (suc (suc (suc (suc (suc zero)))))))))))) h = refl
is_lawful-flags_of (suc (suc (suc (suc (suc (suc (suc (suc (suc (suc (suc (suc (suc n))))))))))))) h = absurd (omega arith)

row : (c r w s m : Bool) → IsTrue (is_lawful (flagged c r w s m)) → slice_get rows (code_of (flagged c r w s m)) ≡ Some (flagged c r w s m)
row false false false false false h = refl
row true false false false false h = refl
row true false false true false h = refl
row true false false true true h = refl
row true true false false false h = refl
row true true false true false h = refl
row true true false true true h = refl
row true false true false false h = refl
row true false true true false h = refl
row true false true true true h = refl
row true true true false false h = refl
row true true true true false h = refl
row true true true true true h = refl
row c r w s m h = absurd cc

-- lawful flags are the row of the table that has their code as its number
pub slice_get-rows : (f : Flagged) → IsTrue (is_lawful f) → slice_get rows (code_of f) ≡ Some f
slice_get-rows f h = row f.copied f.read f.written f.searched f.modified h

-- a code from 0 to 12 stands for the row that has it as its number
pub slice_get-rows-flags_of : (n : ℕ) → n ≤ 12 → slice_get rows n ≡ Some (flags_of n)
slice_get-rows-flags_of zero h = refl
slice_get-rows-flags_of (suc zero) h = refl
slice_get-rows-flags_of (suc (suc zero)) h = refl
slice_get-rows-flags_of (suc (suc (suc zero))) h = refl
slice_get-rows-flags_of (suc (suc (suc (suc zero)))) h = refl
slice_get-rows-flags_of (suc (suc (suc (suc (suc zero))))) h = refl
slice_get-rows-flags_of (suc (suc (suc (suc (suc (suc zero)))))) h = refl
slice_get-rows-flags_of (suc (suc (suc (suc (suc (suc (suc zero))))))) h = refl
slice_get-rows-flags_of (suc (suc (suc (suc (suc (suc (suc (suc zero)))))))) h = refl
slice_get-rows-flags_of (suc (suc (suc (suc (suc (suc (suc (suc (suc zero))))))))) h = refl
slice_get-rows-flags_of (suc (suc (suc (suc (suc (suc (suc (suc (suc (suc zero)))))))))) h = refl
slice_get-rows-flags_of (suc (suc (suc (suc (suc (suc (suc (suc (suc (suc (suc zero))))))))))) h = refl
slice_get-rows-flags_of (suc (suc (suc (suc (suc (suc (suc (suc (suc (suc (suc (suc zero)))))))))))) h = refl
slice_get-rows-flags_of (suc (suc (suc (suc (suc (suc (suc (suc (suc (suc (suc (suc (suc n))))))))))))) h = absurd (omega arith)
