-- What stays while slots are followed.
use Rattle.std.specs.Prelude.{◌≡◌, ℕ, ◌≤◌, true, List, length}
use Rattle.prune_sweep.specs.declared.mark.Mark.{Mark}
use Rattle.prune_sweep.specs.declared.mark.Mark.TheVariants.{Next}
use Rattle.prune_sweep.specs.declared.progress.Progress.{Progress}
use Rattle.prune_sweep.specs.Marks.{mark_at, is_open, left_of}

-- as many blocks; the page of the next version is still marked; what is open stays open; and there are no more reads than before
pub record Stays (old new : List Mark) : Type 0 where
  pub size : length new ≡ length old
  pub next : (n : ℕ) → mark_at old n ≡ Next → mark_at new n ≡ Next
  pub opened : (n : ℕ) → is_open (mark_at old n) ≡ true → mark_at new n ≡ mark_at old n
  pub left : left_of new ≤ left_of old

-- nothing but marks changed, and so much stays
pub record StaysBut (old new : Progress) : Type 0 where
  pub marks : Stays old.marks new.marks
  pub rest : new ≡ record old { marks = new.marks }
