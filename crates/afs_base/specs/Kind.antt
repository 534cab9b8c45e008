use Rattle.std.specs.Prelude.{ℕ, ◌+◌}
use Rattle.afs_base.specs.declared.kind.Kind.{Kind}
use Rattle.afs_base.specs.declared.kind.Kind.TheVariants.{Data, Slot}

-- the place of a kind among the kinds of one page: its data first, then its slots ascending
abbrev pub kind_place : Kind → ℕ
kind_place Data = 0
kind_place (Slot k) = k + 1
