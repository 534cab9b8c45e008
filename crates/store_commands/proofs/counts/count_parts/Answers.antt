use Rattle.std.proofs.Common.{◌≡◌, ◌+◌, ◌≤◌, ℕ, Bool, true, false, cond, refl, sym, ◌∙◌, arith}
use mir.Val.{bool_byte}
use Rattle.std.specs.List.{list_any}
use Rattle.page_codec.specs.Bounds.{has_generation}
use Rattle.page_codec.specs.TableSpelling.{part_entries}
use Rattle.store_commands.proofs.Loops.{count_more, count_none}
use Rattle.store_commands.proofs.counts.count_parts.Goals as goal

-- a test as a number
byte_is : (b : Bool) → bool_byte b ≡ cond b 1 0
byte_is true = refl
byte_is false = refl

byte_most : (b : Bool) → cond b 1 0 ≤ 1
byte_most true = omega arith
byte_most false = omega arith

pub loop-j-init : goal.loop-j-init
loop-j-init c = record {
  count = sym (count_none (λ j. list_any has_generation (part_entries j c.entries-entries.result.now)));
  most = omega arith;
}

pub loop-j-preserved : goal.loop-j-preserved
loop-j-preserved c =
    let used : ℕ → Bool = λ j. list_any has_generation (part_entries j c.entries-entries.result.now) in
    let one : c.from-parts.result ≡ cond (used c.loop-j.j) 1 0 = c.from-parts.ensures ∙ byte_is c.is_used_part.result ∙ (λ i. cond (c.is_used_part.ensures i) 1 0) in
    record {
      count = (λ i. c.loop-j.invariant.count i + one i) ∙ sym (count_more used c.loop-j.j);
      most = omega (arith, one, byte_most (used c.loop-j.j), c.loop-j.invariant.most);
    }
