use Rattle.std.proofs.Common.{◌≡◌, ℕ, None, Err, ap, sym, subst, ◌∙◌}
use Rattle.drives.specs.Changes.{halves_seen}
use Rattle.pair_store.specs.Content.{IsSettled, content_of}
use Rattle.pair_store.specs.Faults.{IsUnread}
use Rattle.pair_store.specs.declared.fault.PairFault.TheVariants.{ReadFault}
use Rattle.recovery.proofs.Mends.{err_is}
use Rattle.recovery.proofs.mending.blocks_told.Goals as goal

pub returns-in-Err-ReadFault-clause-unread : goal.returns-in-Err-ReadFault-clause-unread
returns-in-Err-ReadFault-clause-unread g c = λ h is.
    let v = g.V.Drives in
    let old = c.args.pair.now.drives in
    let new = c.look.new.self.drives in
    subst
    (λ (n : ℕ). IsUnread (v.faults old) (v.faults new) (v.last_fault new) (v.moment new)
    (v.tells → IsSettled n (halves_seen v.seen old) → content_of (halves_seen v.seen old) n ≡ None) h)
    c.root_block.ensures
    (c.look.ensures.unread h (c.in-Err-ReadFault.is ∙ ap Err (c.in-Err-ReadFault.field-0-is ∙ ap ReadFault (sym c.in-Err-ReadFault.half-is) ∙ err_is _ _ is)))
