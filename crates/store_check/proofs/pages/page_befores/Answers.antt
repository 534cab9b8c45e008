use Rattle.std.proofs.Common.{◌≡◌, ◌≤◌, List, Some, Ok, Err, ◌∙◌, sym, ap, arith, [], Result, slice_get}
use Rattle.std.proofs.lemmas.Result.{err_from_is_err_and}
use Rattle.std.specs.Option.{option_and_then}
use Rattle.page_codec.specs.declared.why.Why.{Why}
use Rattle.page_codec.specs.Values.{PageValue, ReferenceValue}
use Rattle.page_codec.specs.Causes.{page_of}
use Rattle.store_model.specs.Laws.{pages_of}
use Rattle.store_check.specs.Before.{page_before, AreBefore}
use Rattle.store_check.proofs.Passing.{stopped_at, gets_exit}
use Rattle.store_check.proofs.BeforeLaws.{page_before_is, content_of_page, page_read, content_was, no_cause}
use Rattle.store_check.proofs.pages.page_befores.Goals as goal

pub returns-then-get-count-clause-befores : goal.returns-then-get-count-clause-befores
returns-then-get-count-clause-befores g c = λ told nodes path lies long at.
    let is = page_before_is (pages_of (g.B.Blocks.content c.args.survey.now.began)) c.args.survey.now.count nodes path c.args.n lies at in
    Prim.omega (arith, is.low, c.if-get-count.true, c.get.ensures.value, c.count.ensures)

pub returns-in_err-block-clause-befores : goal.returns-in_err-block-clause-befores
returns-in_err-block-clause-befores g c = λ told nodes path lies long at.
    let content = g.B.Blocks.content c.args.survey.now.began in
    let is = page_before_is (pages_of content) c.args.survey.now.count nodes path c.args.n lies at in
    let held = content_of_page content c.args.n is.page is.is in
    let p = err_from_is_err_and c.from_residual.result c.from_residual.ensures.1 in
    gets_exit (AreBefore nodes path) c.from_residual.result (stopped_at g.B.Blocks c.read.new.self.store c.in_err-block.field-0.0) (p.1 ∙ ap Err p.2)
    (no_cause c.args.n (content c.args.n) held.0 [] (stopped_at g.B.Blocks c.read.new.self.store c.in_err-block.field-0.0) held.1 (c.in_err-block.ensures.walk told []))

pub returns-in-Ok-clause-befores : goal.returns-in-Ok-clause-befores
returns-in-Ok-clause-befores g c = λ told nodes path lies long at k low.
    let content = g.B.Blocks.content c.args.survey.now.began in
    let is = page_before_is (pages_of content) c.args.survey.now.count nodes path c.args.n lies at in
    let here = content_was c.args.n (content c.args.n) c.in_ok-block.block [] [] (c.in_ok-block.ensures.walk told []) in
    let level : 1 ≤ is.page.level = Prim.omega (arith, is.level, long) in
    let read = page_read content c.args.n is.page c.in_ok-block.block is.is level here in
    let exact : page_of c.in_ok-block.block ≡ Ok c.in-Ok.page = c.in-Ok.ensures.exact in
    let same : c.in-Ok.page ≡ is.page = ok_is (sym exact ∙ read) in
    c.befores_of.ensures k low
    ∙ ap (λ (refs : List ReferenceValue). Some (page_before (option_and_then (λ r. r.block) (slice_get refs k)))) (ap (λ p. p.refs) c.page.view_is ∙ ap (λ p. p.refs) same)
    ∙ ap Some (sym (is.slots k))
  where
    ok_is : {x y : PageValue} → (let r : Result PageValue Why = Ok x in r) ≡ Ok y → x ≡ y
    ok_is e = cc

pub returns-in-Err-clause-befores : goal.returns-in-Err-clause-befores
returns-in-Err-clause-befores g c = λ told nodes path lies long at.
    let content = g.B.Blocks.content c.args.survey.now.began in
    let is = page_before_is (pages_of content) c.args.survey.now.count nodes path c.args.n lies at in
    let here = content_was c.args.n (content c.args.n) c.in_ok-block.block [] [] (c.in_ok-block.ensures.walk told []) in
    let level : 1 ≤ is.page.level = Prim.omega (arith, is.level, long) in
    let read = page_read content c.args.n is.page c.in_ok-block.block is.is level here in
    let exact : page_of c.in_ok-block.block ≡ Err c.in-Err.bad.why = c.in-Err.ensures.exact in
    apart (sym exact ∙ read)
  where
    apart : {w : Why} {y : PageValue} → (let r : Result PageValue Why = Err w in r) ≡ Ok y → ⊥
    apart e = cc
