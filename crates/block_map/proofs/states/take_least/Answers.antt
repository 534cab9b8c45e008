use Rattle.std.proofs.Common.{◌<◌, inl, length, sym, ap, ◌∙◌, arith}
use Rattle.std.proofs.lemmas.List.{get_or_read}
use Rattle.block_map.specs.declared.states.BlockState.TheVariants.{Kept}
use Rattle.block_map.specs.States.{is_free}
use Rattle.block_map.proofs.Taking.{TakesBelow-give, TakesBelow-pass, TakesBelow-end}
use Rattle.block_map.proofs.states.take_least.Goals as goal
use Rattle.block_map.proofs.states.take_least.Goals.{then-is_free, else-is_free}

pub search-preserved : goal.search-preserved
search-preserved c =
    let h : c.search.at < length c.search.states.items = omega arith in
    let same = ap is_free (sym (get_or_read c.search.states.items c.search.at c.index.result.now h c.index.ensures Kept)) in
    elim c.if-is_free.branch [
      | then-is_free w ↦ rw (w.states-is, w.left-is)
          (TakesBelow-give _ _ _ _ _ _ c.search.invariant h (omega arith) (same ∙ sym w.if-is_free.ensures))
      | else-is_free w ↦ rw (w.states-is, w.left-is)
          (TakesBelow-pass _ _ _ _ _ _ c.search.invariant h (same ∙ sym w.if-is_free.ensures))
    ]

pub returns-after-search-clause-taken : goal.returns-after-search-clause-taken
returns-after-search-clause-taken c =
    (TakesBelow-end _ _ _ _ _ _ c.search.invariant c.requires.room (inl (omega arith))).takes
