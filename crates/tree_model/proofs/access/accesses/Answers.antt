use Rattle.std.proofs.Common.{◌≡◌, ◌+◌, List, [], ◌∷◌, ◌++◌, take, take_all, ap, subst, sym, ◌∙◌, arith}
use Rattle.std.specs.FinSet as set
use Rattle.std.proofs.lemmas.List.{take_more}
use Rattle.tree_model.specs.declared.step.Step.{Step}
use Rattle.tree_model.specs.Accesses.{Place, place_cmp, all_reads, all_writes, reads_of, writes_of, step_reads}
use Rattle.tree_model.specs.Gathered.{are_distinct, with_places}
use Rattle.tree_model.proofs.Gathering.{Gathers, gathers_more, gathered_distinct, gathered_set}
use Rattle.tree_model.proofs.access.accesses.Goals as goal

pub invariant_of-result : goal.invariant_of-result
invariant_of-result c = (
  ap are_distinct c.loop-step.invariant.reads ∙ gathered_distinct (all_reads c.args.base.now [] (take c.loop-step.step-index c.args.steps.now)),
  ap are_distinct c.loop-step.invariant.writes ∙ gathered_distinct (all_writes c.args.base.now (take c.loop-step.step-index c.args.steps.now)),
)

pub returns-clause-reads : goal.returns-clause-reads
returns-clause-reads c =
    ap (λ (xs : List Place). set.from_list {R = place_cmp} xs) c.loop-step.invariant.reads
    ∙ gathered_set (all_reads c.args.base.now [] (take c.loop-step.step-index c.args.steps.now))
    ∙ ap (λ (steps : List Step). reads_of c.args.base.now steps) (take_all c.loop-step.step-index c.args.steps.now (omega arith))

pub returns-clause-writes : goal.returns-clause-writes
returns-clause-writes c =
    ap (λ (xs : List Place). set.from_list {R = place_cmp} xs) c.loop-step.invariant.writes
    ∙ gathered_set (all_writes c.args.base.now (take c.loop-step.step-index c.args.steps.now))
    ∙ ap (λ (steps : List Step). writes_of c.args.base.now steps) (take_all c.loop-step.step-index c.args.steps.now (omega arith))

pub loop-step-preserved : goal.loop-step-preserved
loop-step-preserved c =
    let base = c.args.base.now in
    let i = c.loop-step.step-index in
    let step = c.step-item.result in
    let front : take (i + 1) c.args.steps.now ≡ take i c.args.steps.now ++ step ∷ [] =
    take_more c.args.steps.now i step c.loop-step-test.true ∙ ap (λ (s : Step). take i c.args.steps.now ++ s ∷ []) (sym c.step-item.is) in
    let more = gathers_more base (take i c.args.steps.now) step c.loop-step.tree c.loop-step.reads.items c.loop-step.writes.items c.loop-step.invariant in
    let reads : c.add_reads.new.reads.items ≡ with_places c.loop-step.reads.items (step_reads c.loop-step.tree c.loop-step.writes.items step) =
    c.in_ok-add_reads.ensures ∙ ap (λ (ws : List Place). with_places c.loop-step.reads.items (step_reads c.loop-step.tree ws step)) c.deref.ensures.value in
    let F : List Step → Type 0 = λ steps. Gathers base steps c.step.new.self c.add_reads.new.reads.items c.add_writes.new.writes.items in
    subst F (sym front) (record {
      tree = c.in_ok-step.ensures.after ∙ more.tree;
      reads = reads ∙ more.reads;
      writes = c.in_ok-add_writes.ensures ∙ more.writes;
    })
