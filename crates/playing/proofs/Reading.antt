-- What pieces that were taken from a source are together.
use Rattle.std.proofs.Common.{◌≡◌, ℕ, ◌<◌, Bool, true, false, List, ◌++◌, Option, None, Some, inl, inr, refl, sym, ap, subst, ◌∙◌, append-nil, length}
use Rattle.std.specs.Io.KnownBytes.{Consumes, IsAtEnd}
use Rattle.std.proofs.KnownBytes.{Consumes-trans}
use Rattle.playing.specs.Sources.{IsHeld, IsReadOf, IsTaken}
use Rattle.playing.specs.Taking.{TakesPiece}

-- more bytes were taken
pub taken_more : (a b c : Option (List ℕ)) (text : List ℕ) → Consumes a b text → IsTaken b c
    → IsTaken a c
taken_more a b c text first more = (text ++ more.0, Consumes-trans a b c text more.0 first more.1)

-- what was read to the end is all that was left
pub held_end : (a b : Option (List ℕ)) (read : List ℕ) → Consumes a b read → IsAtEnd b
    → (text : List ℕ) × IsHeld a text × IsReadOf text read
held_end None b read taken ended = (read, tt, inl refl)
held_end (Some xs) None read taken ended = absurd taken
held_end (Some xs) (Some ys) read taken ended =
    (xs, refl, inl (sym (taken ∙ ap (λ zs. read ++ zs) ended ∙ append-nil read)))

-- the last piece is empty
pub held_last : (a b c : Option (List ℕ)) (read read' : List ℕ) (more : Bool) → Consumes a b read
    → TakesPiece b c read read' more → more ≡ false
    → (text : List ℕ) × IsHeld a text × IsReadOf text read'
held_last a b c read read' true first piece is = cc
held_last a b c read read' false first piece is =
    let all : Consumes a c (read ++ piece.bytes)
    = Consumes-trans a b c read piece.bytes first piece.taken in
    held_end a c read' (subst (Consumes a c) (sym piece.longer) all) piece.ended.1

-- what is too long is a front of all
pub held_long : (a b : Option (List ℕ)) (read : List ℕ) → Consumes a b read → 65536 < length read
    → (text : List ℕ) × IsHeld a text × IsReadOf text read
held_long None b read taken long = (read, tt, inl refl)
held_long (Some xs) None read taken long = absurd taken
held_long (Some xs) (Some ys) read taken long = (xs, refl, inr (long, ys, sym taken))
