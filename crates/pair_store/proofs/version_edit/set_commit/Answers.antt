use Rattle.std.proofs.Common.{ℕ, Some, List, ap, sym, ◌∙◌, slice_index}
use Rattle.page_codec.specs.Values.{VersionValue}
use Rattle.page_codec.specs.Spelling.{version_bytes}
use Rattle.pair_store.proofs.VersionLaws.{read_value, version_gate}
use Rattle.pair_store.proofs.version_edit.set_commit.Goals as goal

pub returns-in-None : goal.returns-in-None
returns-in-None c =
    let value = c.in_ok-page.ensures.exact in
    let view = c.page.view_is in (
      c.in_ok-page.page,
      value,
      ap (λ (v : VersionValue). v.commit) (sym view) ∙ c.in-None.is,
      record {
        is = c.encode_version.ensures.bytes ∙ ap (λ (v : VersionValue). version_bytes (record v { commit = Some c.args.next })) (view ∙ read_value c.args.block.now c.in_ok-page.page value);
        opened = ap (λ (b : List ℕ). slice_index b 0) c.encode_version.ensures.bytes ∙ version_gate _;
      },
    )
