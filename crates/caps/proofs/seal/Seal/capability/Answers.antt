use Rattle.std.proofs.Common.{ℕ, List, ◌∷◌, length, get_or, ap, ◌∙◌}
use Rattle.caps.specs.Grant.{check_of}
use Rattle.caps.proofs.SealLemmas.{length-check_of, six_again}
use Rattle.caps.proofs.seal.Seal.capability.Goals as goal

pub returns : goal.returns
returns c =
    let len = ap length c.check-c.ensures ∙ length-check_of c.args.self.now c.args.object c.args.rights in
    let o = c.to_be_bytes-o.result in
    c.of_bytes.ensures
    ∙ ap (λ xs. 97 ∷ 109 ∷ 111 ∷ 101 ∷ 98 ∷ 97 ∷ get_or o 1 0 ∷ get_or o 2 0 ∷ get_or o 3 0 ∷ c.args.rights ∷ xs) (six_again c.check-c.result len ∙ c.check-c.ensures)
    ∙ ap (λ (bs : List ℕ). 97 ∷ 109 ∷ 111 ∷ 101 ∷ 98 ∷ 97 ∷ get_or bs 1 0 ∷ get_or bs 2 0 ∷ get_or bs 3 0 ∷ c.args.rights ∷ check_of c.args.self.now c.args.object c.args.rights) c.to_be_bytes-o.ensures
