use Rattle.std.proofs.Common.{◌<◌, length, sym, ap, ◌∙◌, arith}
use Rattle.std.proofs.lemmas.List.{get_or_read}
use Rattle.block_map.specs.declared.states.BlockState.TheVariants.{Kept}
use Rattle.block_map.specs.States.{is_held}
use Rattle.block_map.proofs.Replacing.{ReplacesBelow-held, ReplacesBelow-other}
use Rattle.block_map.proofs.states.replace_held.Goals as goal
use Rattle.block_map.proofs.states.replace_held.Goals.{then-is_held, else-is_held}

pub places-preserved : goal.places-preserved
places-preserved c =
    let h : c.places.at < length c.places.states.items = omega (arith, c.places.invariant.size) in
    let same = ap (is_held c.args.client) (sym (get_or_read c.places.states.items c.places.at c.index.result.now h c.index.ensures Kept)) in
    elim c.if-is_held.branch [
      | then-is_held w ↦ rw (w.states-is, w.count-is)
          (ReplacesBelow-held _ _ _ _ _ _ c.places.invariant h (same ∙ sym w.if-is_held.ensures))
      | else-is_held w ↦ rw (w.states-is, w.count-is)
          (ReplacesBelow-other _ _ _ _ _ _ c.places.invariant h (same ∙ sym w.if-is_held.ensures))
    ]
