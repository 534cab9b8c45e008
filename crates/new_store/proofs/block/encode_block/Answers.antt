use Rattle.std.proofs.Common.{◌∙◌, ◌+◌, ◌-◌, ap, List, ℕ}
use Rattle.std.specs.List.{list_any}
use Rattle.std.specs.Prelude.{slice_index}
use Rattle.page_codec.specs.Bounds.{has_generation}
use Rattle.page_codec.proofs.VersionBytes.{first-version_bytes}
use Rattle.new_store.proofs.BlockBytes.{first-part_bytes, first-root_bytes}
use Rattle.new_store.proofs.NewBlocks.{part_is_used, part_lawful}
use Rattle.new_store.proofs.block.encode_block.Goals as goal

-- a block in use behind the version pages is a part of which a file is there
pub encode_entries-requires-clause-used : goal.encode_entries-requires-clause-used
encode_entries-requires-clause-used c =
    let s = c.args.store.now in
    let small = part_is_used s.files c.args.n c.if-n-store.false c.requires in
    ap (list_any has_generation) c.part_entries.ensures ∙ (part_lawful s (c.args.n - (s.files + 1)) small).used

pub returns-then-n-eq0-clause-open : goal.returns-then-n-eq0-clause-open
returns-then-n-eq0-clause-open c = ap (λ (b : List ℕ). slice_index b 0) c.encode_root.ensures.bytes ∙ first-root_bytes c.table_of.result

pub returns-then-n-store-clause-open : goal.returns-then-n-store-clause-open
returns-then-n-store-clause-open c = ap (λ (b : List ℕ). slice_index b 0) c.encode_version.ensures.bytes ∙ first-version_bytes c.new_version.result

pub returns-else-n-store-clause-open : goal.returns-else-n-store-clause-open
returns-else-n-store-clause-open c = ap (λ (b : List ℕ). slice_index b 0) c.encode_entries.ensures.bytes ∙ first-part_bytes _ c.part_entries.result
