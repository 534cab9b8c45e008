use Rattle.std.proofs.Common.{◌≡◌, List, Some, Ok, Err, Result, ◌∙◌, sym, ap, arith, [], slice_get}
use Rattle.std.specs.Option.{option_and_then}
use Rattle.std.proofs.lemmas.Result.{err_from_is_err_and}
use Rattle.page_codec.specs.declared.why.Why.{Why}
use Rattle.page_codec.specs.Values.{ReferenceValue, VersionValue}
use Rattle.page_codec.specs.Causes.{version_of}
use Rattle.store_model.specs.Laws.{pages_of}
use Rattle.store_check.specs.declared.before.Before.TheVariants.{Page}
use Rattle.store_check.specs.Before.{page_before, AreBefore}
use Rattle.store_check.proofs.Passing.{stopped_at, gets_exit}
use Rattle.store_check.proofs.BeforeLaws.{page_before_is, root_before, content_of_page, version_read, content_was, no_cause}
use Rattle.store_check.proofs.version.version_befores.Goals as goal

pub returns-then-get-count-clause-befores : goal.returns-then-get-count-clause-befores
returns-then-get-count-clause-befores g c = λ told laid lies block.
    let S = pages_of (g.B.Blocks.content c.args.survey.now.began) in
    let is = page_before_is S c.args.survey.now.count (Some laid.nodes) [] c.args.n (laid.block, lies) (root_before S c.args.survey.now.count laid.block laid.nodes lies ∙ ap Page (sym block)) in
    Prim.omega (arith, is.low, c.if-get-count.true, c.get.ensures.value, c.count.ensures)

pub returns-in_err-block-clause-befores : goal.returns-in_err-block-clause-befores
returns-in_err-block-clause-befores g c = λ told laid lies block.
    let content = g.B.Blocks.content c.args.survey.now.began in
    let S = pages_of content in
    let is = page_before_is S c.args.survey.now.count (Some laid.nodes) [] c.args.n (laid.block, lies) (root_before S c.args.survey.now.count laid.block laid.nodes lies ∙ ap Page (sym block)) in
    let held = content_of_page content c.args.n is.page is.is in
    let p = err_from_is_err_and c.from_residual.result c.from_residual.ensures.1 in
    gets_exit (AreBefore (Some laid.nodes) []) c.from_residual.result (stopped_at g.B.Blocks c.read.new.self.store c.in_err-block.field-0.0) (p.1 ∙ ap Err p.2)
    (no_cause c.args.n (content c.args.n) held.0 [] (stopped_at g.B.Blocks c.read.new.self.store c.in_err-block.field-0.0) held.1 (c.in_err-block.ensures.walk told []))

pub returns-in-Ok-clause-befores : goal.returns-in-Ok-clause-befores
returns-in-Ok-clause-befores g c = λ told laid lies block k low.
    let content = g.B.Blocks.content c.args.survey.now.began in
    let S = pages_of content in
    let is = page_before_is S c.args.survey.now.count (Some laid.nodes) [] c.args.n (laid.block, lies) (root_before S c.args.survey.now.count laid.block laid.nodes lies ∙ ap Page (sym block)) in
    let here = content_was c.args.n (content c.args.n) c.in_ok-block.block [] [] (c.in_ok-block.ensures.walk told []) in
    let read = version_read content c.args.n is.page c.in_ok-block.block is.is is.level here in
    let exact : version_of c.in_ok-block.block ≡ Ok c.in-Ok.version = c.in-Ok.ensures.exact in
    let same : c.in-Ok.version ≡ read.0 = ok_is (sym exact ∙ read.1) in
    c.slots_of.ensures k low
    ∙ ap (λ (refs : List ReferenceValue). Some (page_before (option_and_then (λ r. r.block) (slice_get refs k)))) (ap (λ v. v.page.refs) same ∙ ap (λ p. p.refs) read.2)
    ∙ ap Some (sym (is.slots k))
  where
    ok_is : {x y : VersionValue} → (let r : Result VersionValue Why = Ok x in r) ≡ Ok y → x ≡ y
    ok_is e = cc

pub returns-in-Err-clause-befores : goal.returns-in-Err-clause-befores
returns-in-Err-clause-befores g c = λ told laid lies block.
    let content = g.B.Blocks.content c.args.survey.now.began in
    let S = pages_of content in
    let is = page_before_is S c.args.survey.now.count (Some laid.nodes) [] c.args.n (laid.block, lies) (root_before S c.args.survey.now.count laid.block laid.nodes lies ∙ ap Page (sym block)) in
    let here = content_was c.args.n (content c.args.n) c.in_ok-block.block [] [] (c.in_ok-block.ensures.walk told []) in
    let read = version_read content c.args.n is.page c.in_ok-block.block is.is is.level here in
    let exact : version_of c.in_ok-block.block ≡ Err c.in-Err.bad.why = c.in-Err.ensures.exact in
    apart (sym exact ∙ read.1)
  where
    apart : {w : Why} {y : VersionValue} → (let r : Result VersionValue Why = Err w in r) ≡ Ok y → ⊥
    apart e = cc
