-- A live entry has a generation, and one that is not live no secret.
use Rattle.std.proofs.Common.{rules, ◌≡◌, ℕ, length, subst, sym}
use Rattle.std.specs.Prelude.{Option}
use Rattle.page_codec.specs.declared.raw_entry.RawEntry.{RawEntry}
use Rattle.page_codec.specs.Bounds.{IsSoundEntry}
use Rattle.page_codec.proofs.EntryLaws.{IsSoundEntry-entry_value}
use Rattle.page_codec.proofs.raw_entry.entry_of.Goals as goal

pub invariant_of-result : goal.invariant_of-result
invariant_of-result c =
    let raw : RawEntry = c.args.raw.now in
    let eight : length raw.secret ≡ 8 = search rules in
    subst (λ (first : Option ℕ). IsSoundEntry (record { first = first; generation = raw.generation; secret = raw.secret })) (sym c.block_or_none.ensures)
    (IsSoundEntry-entry_value raw eight c.requires.counted c.requires.stray)
