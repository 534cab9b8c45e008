-- The parts, written one behind the other.
use Rattle.std.proofs.Common.{◌≡◌, ℕ, List, [], ◌∷◌, ◌++◌, take}
use Rattle.std.specs.Int.{w32, w64}
use Rattle.page_codec.specs.Numbers.{big_endian}
use Rattle.page_codec.proofs.table_bytes.put_head.Goals as goal

joined : (a b c head x y : List ℕ) → a ≡ head → b ≡ a ++ x → c ≡ b ++ y → c ≡ head ++ x ++ y
joined a b c head x y e f g = cc

pub returns-clause-front : goal.returns-clause-front
returns-clause-front c =
    joined (take c.put-next.result c.put-next.new.block) (take c.put_u32-next.result c.put_u32-next.new.block) (take c.put_u64.result c.put_u64.new.block)
    (165 ∷ 84 ∷ c.args.format ∷ 0 ∷ []) (big_endian w32 c.args.blocks) (big_endian w64 c.args.key) c.put-next.ensures.front c.put_u32-next.ensures.front c.put_u64.ensures.front
