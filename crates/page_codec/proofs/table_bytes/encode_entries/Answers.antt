-- The parts, written one behind the other, fill the block.
use Rattle.std.proofs.Common.{◌≡◌, ℕ, List, [], ◌∷◌, ◌++◌, take, ap, arith, sym, ◌∙◌}
use Rattle.std.specs.List.{flat_map}
use Rattle.std.proofs.lemmas.List.{take_all}
use Rattle.page_codec.specs.Numbers.{zeros}
use Rattle.page_codec.specs.TableSpelling.{entry_bytes, part_bytes}
use Rattle.page_codec.proofs.table_bytes.encode_entries.Goals as goal

joined : (a b c head x y : List ℕ) → a ≡ head → b ≡ a ++ x → c ≡ b ++ y → c ≡ head ++ x ++ y
joined a b c head x y e f g = cc

pub returns-clause-bytes : goal.returns-clause-bytes
unfolding part_bytes
returns-clause-bytes c =
    let whole : c.put_entries.result ≡ 1024 = omega arith in
    sym (take_all 1024 c.put_entries.new.block (omega arith)) ∙ ap (λ (n : ℕ). take n c.put_entries.new.block) (sym whole)
    ∙ joined (take c.put-next.result c.put-next.new.block) (take c.put_zeros-next.result c.put_zeros-next.new.block) (take c.put_entries.result c.put_entries.new.block)
    (165 ∷ 69 ∷ c.args.j ∷ []) (zeros 13) (flat_map entry_bytes c.args.entries.now) c.put-next.ensures.front c.put_zeros-next.ensures.front c.put_entries.ensures.front
