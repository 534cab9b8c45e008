use Rattle.std.proofs.Common.{ℕ, List, inl, refl, subst}
use Rattle.drives.specs.Changes.{Changes}
use Rattle.pair_store.specs.Blocks.{OldOrNew, SameOthers}
use Rattle.new_store.proofs.WriteLaws.{filled, filled_beyond}
use Rattle.new_store.proofs.write.write_store.Goals as goal

pub returns-clause-images : goal.returns-clause-images
returns-clause-images g c = λ tells settled.
    let now = g.B.Blocks.moment in
    let left = g.B.Blocks.may_leave in
    let s = c.args.store.now in
    let mid = c.write_pages.new.blocks in
    let new = c.write.new.self in
    let pages = c.in_ok-write_pages.ensures.written tells in
    let still = c.in_ok-write_pages.ensures.kept_always 0 (inl refl) settled in
    let write = subst (λ (m : ℕ). g.B.Blocks.settled_always mid m → Changes now left mid new (OldOrNew m c.encode_block.new.into)) c.at.ensures (c.write.ensures.images tells) in
    let table = subst (λ (b : List ℕ). Changes now left mid new (OldOrNew 0 b)) c.encode_block.ensures.bytes (write still) in
    filled now left s c.args.blocks.now mid new c.write_pages.ensures.images pages.images table

pub returns-clause-images_beyond : goal.returns-clause-images_beyond
returns-clause-images_beyond g c =
    filled_beyond g.B.Blocks.moment g.B.Blocks.may_leave c.args.store.now c.args.blocks.now c.write_pages.new.blocks c.write.new.self c.write_pages.ensures.images
    (subst (λ (m : ℕ). Changes g.B.Blocks.moment g.B.Blocks.may_leave c.write_pages.new.blocks c.write.new.self (SameOthers m)) c.at.ensures c.write.ensures.images_others)
