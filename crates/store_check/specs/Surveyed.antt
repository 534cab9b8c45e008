-- A walk over a store: the store as the walk began, as it is, how many blocks it has, and the places that were found, the newest first.
use Rattle.std.specs.Prelude.{ℕ, ◌<◌, Option, List}
use Rattle.pair_store.specs.declared.store.Blocks.{Ghosts}
use Rattle.store_model.specs.Walk.{Blocks}

pub record SurveyValue (D : Type 0) : Type 0 where
  pub began : D
  pub store : D
  pub count : ℕ
  pub list : List ℕ

-- the blocks that the walk goes over
abbrev pub blocks_in : {D : Type 0} → (D → ℕ → Option (List ℕ)) → SurveyValue D → Blocks
blocks_in content survey = record { content = content survey.began; count = survey.count }

-- the contents are told, and each block of the store is settled
pub record IsTold {D : Type 0} (b : Ghosts D) (survey : SurveyValue D) : Type 0 where
  pub told : b.tells
  pub each : (n : ℕ) → n < survey.count → b.settled survey.began n
