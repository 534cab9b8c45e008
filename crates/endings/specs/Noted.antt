-- What a call that changes no file notes.
use Rattle.std.specs.Prelude.{◌≡◌, [], None}
use Rattle.service_model.specs.declared.journal.Journal.{Journal}

-- nothing was done to the store, and nothing is in doubt
pub record IsNothingNoted (journal : Journal) : Type 0 where
  pub entries : journal.entries.items ≡ []
  pub doubt : journal.doubt ≡ None
