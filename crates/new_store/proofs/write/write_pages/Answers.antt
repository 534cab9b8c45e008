use Rattle.std.proofs.Common.{◌≢◌, ◌<◌, ℕ, List, subst, ◌∙◌, arith, rules}
use Rattle.drives.specs.Changes.{Changes}
use Rattle.pair_store.specs.Blocks.{SameOthers}
use Rattle.new_store.specs.Sizes.{used_blocks}
use Rattle.new_store.proofs.WriteLaws.{WroteBlock, filling_more, filling_none, outer_other, written_more}
use Rattle.new_store.proofs.write.write_pages.Goals as goal

pub loop-n-init : goal.loop-n-init
loop-n-init g c = record {
  written = λ tells. record {
    contents = λ n some low. absurd (omega arith);
    settled_each = λ n some low. absurd (omega arith);
    always_each = λ n some low. absurd (omega arith);
    images = λ f image n some low. absurd (omega arith);
  };
  outer = λ tells k outer. search rules;
  kept_always = λ k outer settled. settled;
  images = filling_none g.B.Blocks.moment g.B.Blocks.may_leave c.args.store.now c.args.blocks.now (g.met.B.Blocks.clock c.args.blocks.now);
  size = search rules;
  later = λ h. search rules;
}

pub returns-in_err-write-clause-images : goal.returns-in_err-write-clause-images
returns-in_err-write-clause-images g c =
    let now = g.B.Blocks.moment in
    let left = g.B.Blocks.may_leave in
    let n = c.loop-n.n in
    let some : 0 < n = omega arith in
    let low : n < used_blocks c.args.store.now.files = subst (λ (m : ℕ). n < m) c.used_blocks-n-end.ensures c.loop-n-test.true in
    let others = subst (λ (m : ℕ). Changes now left c.loop-n.blocks c.write.new.self (SameOthers m)) c.at.ensures c.write.ensures.images_others in
    filling_more now left c.args.store.now n c.args.blocks.now c.loop-n.blocks c.write.new.self some low c.loop-n.invariant.images others

pub loop-n-preserved : goal.loop-n-preserved
loop-n-preserved g c =
    let now = g.B.Blocks.moment in
    let left = g.B.Blocks.may_leave in
    let content = g.B.Blocks.content in
    let n = c.loop-n.n in
    let s = c.args.store.now in
    let mid = c.loop-n.blocks in
    let new = c.write.new.self in
    let some : 0 < n = omega arith in
    let low : n < used_blocks s.files = subst (λ (m : ℕ). n < m) c.used_blocks-n-end.ensures c.loop-n-test.true in
    let ne = outer_other s.files n in
    let same = c.at.ensures in
    let others = subst (λ (m : ℕ). Changes now left mid new (SameOthers m)) same c.write.ensures.images_others in
    record {
      written = λ tells. written_more now left s (λ b. content b) (λ b. g.B.Blocks.settled b) (λ b. g.B.Blocks.settled_always b) mid new n (c.loop-n.invariant.written tells)
          (subst (λ (b : List ℕ). WroteBlock now left (λ b. content b) (λ b. g.B.Blocks.settled b) (λ b. g.B.Blocks.settled_always b) mid new n b) c.encode_block.ensures.bytes
          (subst (λ (m : ℕ). WroteBlock now left (λ b. content b) (λ b. g.B.Blocks.settled b) (λ b. g.B.Blocks.settled_always b) mid new m c.encode_block.new.into) same
          (record {
            written = c.in_ok-write.ensures.written tells;
            others = c.write.ensures.others tells;
            settles = c.in_ok-write.ensures.settles tells;
            settles_always = c.in_ok-write.ensures.settles_always tells;
            kept = c.in_ok-write.ensures.kept tells;
            kept_always = c.in_ok-write.ensures.kept_always;
            images_others = c.write.ensures.images_others;
            images_done = c.in_ok-write.ensures.images_done tells;
          })));
      outer = λ tells k outer. subst (λ (m : ℕ). SameOthers m (content mid) (content new)) same (c.write.ensures.others tells) k (ne k some low outer) ∙ c.loop-n.invariant.outer tells k outer;
      kept_always = λ k outer settled.
          subst (λ (m : ℕ). (k : ℕ) → k ≢ m → g.B.Blocks.settled_always mid k → g.B.Blocks.settled_always new k) same c.in_ok-write.ensures.kept_always k (ne k some low outer) (c.loop-n.invariant.kept_always k outer settled);
      images = filling_more now left s n c.args.blocks.now mid new some low c.loop-n.invariant.images others;
      size = c.write.ensures.size ∙ c.loop-n.invariant.size;
      later = λ h. let a = c.loop-n.invariant.later h in let b = c.write.ensures.later h in (omega (arith, a, b), omega (arith, a, b));
    }
