use Rattle.std.proofs.Common.{List, ℕ, sym, subst}
use Rattle.std.proofs.lemmas.Result.{IfOk-weaker}
use Rattle.drives.specs.Left.{IsMemLeft}
use Rattle.drives.proofs.Halves.{each_half}
use Rattle.drives.proofs.memory.MemDrives.image.Goals as goal

pub returns-clause-left : goal.returns-clause-left
returns-clause-left c =
    let self = c.args.self.now in
    IfOk-weaker c.of_halves.result _ _ (λ d new. each_half _
    (subst (λ (x : List ℕ). IsMemLeft self.a c.args.moment x) (sym new.half_a) c.in_ok-image.ensures.left)
    (subst (λ (x : List ℕ). IsMemLeft self.b c.args.moment x) (sym new.half_b) c.in_ok-image-2.ensures.left)) c.of_halves.ensures.fresh
