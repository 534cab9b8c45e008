use Rattle.std.proofs.Common.{◌++◌, sym, ◌∙◌}
use Rattle.store_commands.proofs.Loops.{lines_more}
use Rattle.store_commands.proofs.formatting.new_files_text.Goals as goal

pub loop-i-preserved : goal.loop-i-preserved
loop-i-preserved c =
    c.in_ok-extend_from_slice.ensures.items
    ∙ (λ i. c.loop-i.invariant i ++ (c.as_bytes.ensures.value ∙ c.in_ok-line.ensures.ok) i)
    ∙ sym (lines_more c.loop-i.i)
