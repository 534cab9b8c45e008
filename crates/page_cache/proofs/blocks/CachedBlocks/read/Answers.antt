use Rattle.std.proofs.Common.{refl, sym, subst, ◌∙◌, nat_eq}
use Rattle.std.specs.List.{IsDistinct}
use Rattle.page_cache.specs.Listing.{Listing, numbers}
use Rattle.page_cache.specs.Backing.{IsBacked}
use Rattle.drives.proofs.Composing.{stays}
use Rattle.page_cache.proofs.Listed.{front_different, front_bounded}
use Rattle.page_cache.proofs.Backed.{front_backed}
use Rattle.page_cache.proofs.blocks.CachedBlocks.read.Goals as goal

pub invariant_of-self-clause-backed : goal.invariant_of-self-clause-backed
invariant_of-self-clause-backed g c = let f = c.find.ensures.found c.if-find.true in let was = c.args.self.now.backed in
    front_backed g.B.Blocks.tells _ _ (g.B.Blocks.settled c.args.self.now.inner) _ (g.B.Blocks.content c.args.self.now.inner) _ c.args.n c.args.self.now.frames _
    refl (λ tells k ne s. s) (λ tells k ne. refl) was c.find.new.into f.1 (was c.args.n c.find.new.into f.0).0 (was c.args.n c.find.new.into f.0).1

pub returns-then-find-clause-images : goal.returns-then-find-clause-images
returns-then-find-clause-images g c = stays g.B.Blocks.moment g.B.Blocks.may_leave c.args.self.now.inner _ (g.met.B.Blocks.clock c.args.self.now.inner) (λ f k. refl)

pub invariant_of-self-2-clause-backed : goal.invariant_of-self-2-clause-backed
invariant_of-self-2-clause-backed g c = let e = c.read.ensures in let m = c.find.ensures.missed c.if-find.false in let inner = c.args.self.now.inner in
    front_backed g.B.Blocks.tells _ _ (g.B.Blocks.settled inner) _ (g.B.Blocks.content inner) _ c.args.n c.find.new.self _
    e.size (λ tells k ne s. (e.kept tells k).0 s) (λ tells k ne. e.same tells k)
    (subst (λ (l : Listing). IsBacked g.B.Blocks.tells (g.B.Blocks.size inner) (g.B.Blocks.settled inner) (g.B.Blocks.content inner) l.entries) (sym m.1) c.args.self.now.backed)
    c.read.new.into c.put.ensures c.requires (λ tells s. e.same tells c.args.n ∙ c.in_ok-read.ensures.given tells ((e.kept tells c.args.n).0 s))

pub invariant_of-self-clause-different : goal.invariant_of-self-clause-different
invariant_of-self-clause-different g c = front_different c.args.n c.args.self.now.frames _ c.find.new.into (c.find.ensures.found c.if-find.true).1 c.args.self.now.different

pub invariant_of-self-clause-bounded : goal.invariant_of-self-clause-bounded
invariant_of-self-clause-bounded g c = front_bounded c.args.n c.args.self.now.frames _ c.find.new.into (c.find.ensures.found c.if-find.true).1

pub invariant_of-self-2-clause-different : goal.invariant_of-self-2-clause-different
invariant_of-self-2-clause-different g c = let m = c.find.ensures.missed c.if-find.false in
    front_different c.args.n c.find.new.self _ c.read.new.into c.put.ensures (subst (λ (l : Listing). IsDistinct nat_eq (numbers l)) (sym m.1) c.args.self.now.different)

pub invariant_of-self-2-clause-bounded : goal.invariant_of-self-2-clause-bounded
invariant_of-self-2-clause-bounded g c = front_bounded c.args.n c.find.new.self _ c.read.new.into c.put.ensures
