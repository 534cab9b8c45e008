use Rattle.std.proofs.Common.{ℕ, List, ap, ◌∙◌, slice_index}
use Rattle.pair_store.proofs.VersionLaws.{bytes_cleared, read_value, version_gate}
use Rattle.pair_store.proofs.version_edit.drop_members.Goals as goal

pub returns : goal.returns
returns c =
    let value = c.in_ok-page.ensures.exact in
    let view = c.page.view_is in
    let none = c.none-page-inside.ensures in (
      c.in_ok-page.page,
      value,
      record {
        is = c.encode_version.ensures.bytes ∙ bytes_cleared _ _ _ (view ∙ read_value c.args.block.now c.in_ok-page.page value) none;
        opened = ap (λ (b : List ℕ). slice_index b 0) c.encode_version.ensures.bytes ∙ version_gate _;
      },
    )
