-- What is known of a store once it was checked, and before a link is set.
use Rattle.std.specs.Prelude.{◌≡◌, ◌+◌, ℕ, List, map, length, Option, option_map, Result, Ok, Err}
use Rattle.block_map.specs.States.{free_count}
use Rattle.afs_base.specs.declared.head.Head.{Head}
use Rattle.store_model.specs.Found.{LaidStore}
use Rattle.store_check.specs.declared.chain.FoundFile.{FoundFile}
use Rattle.store_check.specs.Checked.{LikeTable}
use Rattle.store_check.specs.Counts.{parts_in, kept_in}
use Rattle.store_check.specs.Files.{chains_of}
use Rattle.store_check.specs.Marks.{Marks}
use Rattle.store_check.specs.Results.{Outcome}
use Rattle.recovery.specs.declared.refused.OpenRefused.{OpenRefused}
use Rattle.recovery.specs.declared.refused.OpenRefused.TheVariants.{ReadFault, WriteFault, BadStore, Memory}
use Rattle.recovery.specs.declared.opened.OpenedOver.{OpenedOver}
use Rattle.recovery.specs.declared.opened.UnopenedOver.{UnopenedOver}
use Rattle.recovery.specs.declared.known.Known.{Known}
use Rattle.recovery.specs.Opening.{heads_of}

-- what a head tells of a chain
abbrev pub head_from : FoundFile → Head
head_from chain =
    record { block = chain.last.block; first = chain.first; serial = chain.last.serial; kept = chain.kept }

abbrev pub heads_from : List (Option FoundFile) → List (Option Head)
heads_from chains = map (option_map head_from) chains

-- its table, the map of its blocks, and what is kept of its files
pub record IsKnown (known : Known) (store : LaidStore) (places : List ℕ) : Type 0 where
  pub table : LikeTable known.table store
  pub size : length known.map ≡ store.root.blocks
  pub marks : Marks places known.map
  pub chains : known.chains.items ≡ chains_of store.files
  pub heads : known.heads.items ≡ heads_of store.files
  pub free : free_count known.map + 1 + parts_in store.root + kept_in store.files
      ≡ store.root.blocks

-- the answer is the store that is found, or the first cause; a fault and want of memory say nothing
abbrev pub Knows : Result Known OpenRefused → Outcome LaidStore → Type 0
Knows (Ok known) outcome = (store : LaidStore) × (places : List ℕ) × (outcome ≡ Ok (store, places))
    × IsKnown known store places
Knows (Err (ReadFault half)) outcome = Unit {0}
Knows (Err (WriteFault half)) outcome = Unit {0}
Knows (Err (BadStore block why)) outcome = outcome ≡ Err (record { block = block; why = why })
Knows (Err Memory) outcome = Unit {0}

-- no half failed
abbrev pub IsNoFault : OpenRefused → Type 0
IsNoFault (ReadFault half) = ⊥
IsNoFault (WriteFault half) = ⊥
IsNoFault (BadStore block why) = Unit {0}
IsNoFault Memory = Unit {0}

-- whether the store came back opened, and why not
abbrev pub why_of : {B : Type 0} → Result (OpenedOver B) (UnopenedOver B)
    → Result (Unit {0}) OpenRefused
why_of (Ok o) = Ok tt
why_of (Err e) = Err e.why

-- what was opened tells what was known
pub record Tells {B : Type 0} (known : Known) (o : OpenedOver B) : Type 0 where
  pub table : o.table ≡ known.table
  pub map : o.map ≡ known.map
  pub heads : o.heads ≡ known.heads
