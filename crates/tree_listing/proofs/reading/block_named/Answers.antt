use Rattle.std.proofs.Common.{◌≡◌, ℕ, Err, Result, sym, ◌∙◌}
use Rattle.drives.specs.declared.device.Half.{Half}
use Rattle.pair_store.specs.declared.fault.PairFault.{PairFault}
use Rattle.pair_store.specs.declared.fault.PairFault.TheVariants.{ReadFault as Unread, WriteFault, BothClosed, BadPage}
use Rattle.store_check.proofs.ReadOnly.{none_read}
use Rattle.store_check.specs.declared.refused.WalkRefused.{WalkRefused}
use Rattle.store_check.specs.declared.refused.WalkRefused.TheVariants.{ReadFault}
use Rattle.store_check.specs.Results.{refused_read}
use Rattle.tree_listing.proofs.reading.block_named.Goals as goal

pub returns-then-get-blocks-clause-only : goal.returns-then-get-blocks-clause-only
returns-then-get-blocks-clause-only g c =
    let b = g.B.Blocks in
    none_read b c.args.store.now (g.met.B.Blocks.clock c.args.store.now)

-- a half's fault is one of the read
unread_is : (n : ℕ) (fault : PairFault) (h : Half) → refused_read n fault ≡ ReadFault h → fault ≡ Unread h
unread_is n (Unread k) h e = cc
unread_is n (WriteFault k) h e = absurd cc
unread_is n (BothClosed m) h e = absurd cc
unread_is n (BadPage m why) h e = absurd cc

err_is : {X : Type 0} {x y : WalkRefused} → (let r : Result X WalkRefused = Err x in r) ≡ Err y → x ≡ y
err_is h = cc

pub returns-in-Err-clause-unread : goal.returns-in-Err-clause-unread
returns-in-Err-clause-unread g c = λ h is.
    let one : c.in-Err.fault ≡ Unread h = unread_is c.args.n c.in-Err.fault h (sym c.refused_read.ensures ∙ err_is is) in
    (c.args.n, c.in-Err.ensures.unread h (λ i. Err (one i)))
