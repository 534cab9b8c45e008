use Rattle.std.proofs.Common.{◌≡◌, ℕ, ◌+◌, ◌<◌, inl, inr, List, sym, subst, ◌∙◌, arith, rules}
use Rattle.std.specs.Prelude.{IsTrue}
use Rattle.pair_store.specs.Content.{IsSettled, block_on}
use Rattle.pair_store.specs.ContentLaws.{decide}
use Rattle.pair_store.specs.Runs.{AreSettling}
use Rattle.pair_store.proofs.RunLaws.{is_settling, settling_is}
use Rattle.pair_store.proofs.runs.count_in.Goals as goal

pub returns-then-not-is_settled : goal.returns-then-not-is_settled
returns-then-not-is_settled c =
    let n = c.blocks-2.n in
    let end = c.blocks-2-test.true in
    let a = c.args.a.now in
    let b = c.args.b.now in
    record {
      most = omega (arith, end);
      settled = λ k low high. c.blocks-2.invariant.settled k (omega (arith, high));
      ends = λ less is.
          let at : 0 + n ≡ n = omega arith in
          let by_b = subst (λ (w : List ℕ). AreSettling (block_on a n) w) (sym c.block_in-in-blocks-2.ensures.block) (is_settling n a b (subst (λ (m : ℕ). IsSettled m (record { a = a; b = b })) at is)) in
          let by_a = subst (λ (w : List ℕ). AreSettling w c.block_in-in-blocks-2.result.now) (sym c.block_in.ensures.block) by_b in
          let yes : IsTrue c.is_settled.result = c.is_settled.ensures.1 by_a in
          let no = c.if-not-is_settled.true in
          absurd (search (yes, no, rules));
    }

pub blocks-2-preserved : goal.blocks-2-preserved
blocks-2-preserved c =
    let n = c.blocks-2.n in
    let a = c.args.a.now in
    let b = c.args.b.now in
    let yes : IsTrue c.is_settled.result = (let is = c.if-not-is_settled.false in search (is, rules)) in
    let by_a = subst (λ (w : List ℕ). AreSettling w c.block_in-in-blocks-2.result.now) c.block_in.ensures.block (c.is_settled.ensures.0 yes) in
    let by_b = subst (λ (w : List ℕ). AreSettling (block_on a n) w) c.block_in-in-blocks-2.ensures.block by_a in
    record {
      settled = λ k low. elim (decide k n) [
        | inl is ↦ subst (λ (m : ℕ). IsSettled m (record { a = a; b = b })) (sym is) (settling_is n a b by_b)
        | inr ne ↦ c.blocks-2.invariant.settled k (omega (arith, low, ne))
      ];
    }
