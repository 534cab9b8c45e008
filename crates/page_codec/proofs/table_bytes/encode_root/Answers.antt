-- The two parts fill the block, and what the type keeps makes it a block with a spelling.
use Rattle.std.proofs.Common.{◌≡◌, ℕ, length, List, ◌++◌, ap, arith, subst, sym, ◌∙◌}
use Rattle.std.proofs.lemmas.List.{take_all}
use Rattle.page_codec.specs.Values.{RootValue}
use Rattle.page_codec.specs.Bounds.{IsRoot}
use Rattle.page_codec.specs.TableSpelling.{rest_bytes, root_bytes}
use Rattle.page_codec.proofs.TableLaws.{IsRoot-of-sound}
use Rattle.page_codec.proofs.table_bytes.encode_root.Goals as goal

pub returns-clause-bytes : goal.returns-clause-bytes
unfolding root_bytes
returns-clause-bytes c =
    let r : RootValue = record { format = c.root.inside.format; blocks = c.root.inside.blocks; key = c.root.inside.key; parts = c.root.inside.parts; first = c.root.inside.first } in
    sym (take_all 1024 c.put_rest.new.block (omega arith)) ∙ c.put_rest.ensures.whole
    ∙ ap (λ (x : List ℕ). x ++ rest_bytes r.format r.parts r.first) c.put_head-next.ensures.front
    ∙ ap root_bytes c.root.view_is

pub returns-clause-spelled : goal.returns-clause-spelled
returns-clause-spelled c =
    let r : RootValue = record { format = c.root.inside.format; blocks = c.root.inside.blocks; key = c.root.inside.key; parts = c.root.inside.parts; first = c.root.inside.first } in
    let parts : length c.root.inside.parts ≡ 64 = omega arith in
    let first : length c.root.inside.first ≡ 60 = omega arith in
    subst (λ (v : RootValue). IsRoot v) c.root.view_is (IsRoot-of-sound r c.root.invariant c.put_head-next.ensures.key parts first c.put_rest.ensures.each)
