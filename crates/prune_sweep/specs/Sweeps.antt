-- How far a sweep is.
use Rattle.std.specs.Prelude.{◌≡◌, ℕ, List, drop, replicate, slice_set, Option, Some, None, IfSome, Result, MatchResult}
use Rattle.std.specs.Option.{option_and_then}
use Rattle.page_codec.specs.declared.why.BadPage.{BadPage}
use Rattle.page_codec.specs.declared.why.Why.{Why}
use Rattle.prune_sweep.specs.declared.mark.Mark.TheVariants.{Unseen, Next}
use Rattle.prune_sweep.specs.declared.stage.Stage.TheVariants.{New}
use Rattle.prune_sweep.specs.declared.progress.Progress.{Progress}
use Rattle.prune_sweep.specs.Marks.{mark_at, found_from}
use Rattle.prune_sweep.specs.Searching.{IsNext}
use Rattle.prune_sweep.specs.Causes.{cause_of}

-- what is known, what is to be read next, and from which block on found ones are still to be given out
pub record SweepState : Type 0 where
  pub known : Progress
  pub next : Option ℕ
  pub given : ℕ

-- a sweep of a store of so many blocks, of which nothing was read
abbrev pub started : ℕ → ℕ → Option ℕ → SweepState
started blocks first upto =
    record {
      known = record { marks = slice_set (replicate blocks Unseen) first Next; upto = upto; stage = New; after = Some first; reached = None };
      next = Some first;
      given = 0;
    }

-- what a sweep keeps: the least open block is read next, and where none is open the page of the next version, which is marked as such
pub record IsSound (s : SweepState) : Type 0 where
  pub next : IsNext s.known.marks s.known.after s.next
  pub after : IfSome s.known.after (λ n. mark_at s.known.marks n ≡ Next)

-- the first cause for which the block that is needed is refused, where it holds this
abbrev pub cause_for : SweepState → List ℕ → Option Why
cause_for s bytes = option_and_then (λ n. cause_of s.known n bytes) s.next

-- it is refused exactly where there is a cause, and for the first one
abbrev pub IsRefusedFor : SweepState → List ℕ → Result (Unit {0}) BadPage → Type 0
IsRefusedFor s bytes result = MatchResult result (λ _. cause_for s bytes ≡ None) (λ e. cause_for s bytes ≡ Some e.why)

-- the blocks that were found, ascending, and those that are still to be given out
abbrev pub found_blocks : SweepState → List ℕ
found_blocks s = found_from 0 s.known.marks

abbrev pub to_give : SweepState → List ℕ
to_give s = found_from s.given (drop s.given s.known.marks)
