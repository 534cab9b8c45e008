-- Words that name the clients of `play`.
use Rattle.std.specs.Prelude.{ℕ, ◌≤◌, List}
use Rattle.std.specs.List.{AllZip}
use Rattle.afs_base.specs.declared.limits.TheConstants.{MAX_CLIENTS}
use Rattle.script_text.specs.Says.{IsNumberIn}

-- each word is the number of a client, from 1 to the number of scripts
abbrev pub AreClients : ℕ → List (List ℕ) → List ℕ → Type 0
AreClients scripts words clients = AllZip (IsNumberIn 1 scripts) words clients

-- with 1 to 16 scripts these words name these clients
pub record IsOrder (scripts : ℕ) (words : List (List ℕ)) (clients : List ℕ) : Type 0 where
  pub some : 1 ≤ scripts
  pub most : scripts ≤ MAX_CLIENTS
  pub named : AreClients scripts words clients
