-- Sources and sinks in memory whose calls fail at given numbers.
use Rattle.std.specs.Prelude.{◌≡◌, ℕ, ◌+◌, ◌-◌, ◌^◌, min, Bool, if◌then◌else◌, List, Contains}

-- one more, in a count that stands still at the end of a u64
abbrev pub next_count : ℕ → ℕ
next_count n = min (n + 1) (2 ^ 64 - 1)

-- a source in memory: the bytes that are left, the numbers of the calls that fail, and how many calls were made and failed
pub record SourceState : Type 0 where
  pub left : List ℕ
  pub fails : List ℕ
  pub calls : ℕ
  pub faults : ℕ

-- a sink in memory: the bytes that were written, and the rest as for a source
pub record SinkState : Type 0 where
  pub written : List ℕ
  pub fails : List ℕ
  pub calls : ℕ
  pub faults : ℕ

-- the next call has a number that is listed
abbrev pub IsListed : List ℕ → ℕ → Type 0
IsListed fails calls = Contains fails (next_count calls)

-- one call more was made, the list stays, and one fault more is counted exactly where it failed
pub record CountsCall (failed : Bool) (fails fails' : List ℕ) (calls calls' faults faults' : ℕ) : Type 0 where
  pub list : fails' ≡ fails
  pub made : calls' ≡ next_count calls
  pub fault : faults' ≡ (if failed then next_count faults else faults)
