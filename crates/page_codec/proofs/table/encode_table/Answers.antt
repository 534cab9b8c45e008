-- The two parts fill the block; in format 2 the entries are not in it.
use Rattle.std.proofs.Common.{ℕ, length, List, [], ◌∷◌, ◌++◌, ap, arith, subst, sym, ◌≡◌, ◌∙◌}
use Rattle.std.specs.Int.{w32, w64}
use Rattle.std.specs.List.{AllByRecursion}
use Rattle.std.proofs.lemmas.List.{take_all}
use Rattle.page_codec.specs.Numbers.{big_endian}
use Rattle.page_codec.specs.Values.{EntryValue, TableValue}
use Rattle.page_codec.specs.Blank.{no_entries}
use Rattle.page_codec.specs.TableSpelling.{rest_bytes, root_bytes, root_in}
use Rattle.page_codec.specs.Bounds.{IsEntry, IsRoot}
use Rattle.page_codec.proofs.TableLaws.{IsRoot-of-table, rest_of_either}
use Rattle.page_codec.proofs.table.encode_table.Goals as goal

pub returns-clause-bytes : goal.returns-clause-bytes
unfolding root_bytes
returns-clause-bytes c =
    let t : TableValue = record { format = c.table.inside.format; blocks = c.table.inside.blocks; key = c.table.inside.key; parts = c.table.inside.parts; entries = c.table.inside.entries.items } in
    let head : List ℕ = (165 ∷ 84 ∷ t.format ∷ 0 ∷ []) ++ big_endian w32 t.blocks ++ big_endian w64 t.key in
    sym (take_all 1024 c.put_rest.new.block (omega arith)) ∙ c.put_rest.ensures.whole
    ∙ ap (λ (x : List ℕ). x ++ rest_bytes t.format t.parts c.as_slice.result.now) c.put_head-next.ensures.front
    ∙ ap (λ (es : List EntryValue). head ++ rest_bytes t.format t.parts es) c.as_slice.ensures.value
    ∙ ap (λ (x : List ℕ). head ++ x) (rest_of_either t.format t.parts t.entries (no_entries 60))
    ∙ ap (λ (x : TableValue). root_bytes (root_in x)) c.table.view_is

pub returns-clause-spelled : goal.returns-clause-spelled
returns-clause-spelled c =
    let t : TableValue = record { format = c.table.inside.format; blocks = c.table.inside.blocks; key = c.table.inside.key; parts = c.table.inside.parts; entries = c.table.inside.entries.items } in
    let each = subst (λ (es : List EntryValue). t.format ≡ 1 → AllByRecursion IsEntry es) c.as_slice.ensures.value c.put_rest.ensures.each in
    let parts : length c.table.inside.parts ≡ 64 = omega arith in
    subst (λ (v : TableValue). IsRoot (root_in v)) c.table.view_is (IsRoot-of-table t c.table.invariant c.put_head-next.ensures.key parts each)
