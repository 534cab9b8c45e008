use Rattle.std.proofs.Common.{◌∙◌, sym, List, Option, []}
use Rattle.store_model.specs.Laid.{Node}
use Rattle.store_model.specs.Laws.{pages_of}
use Rattle.store_check.specs.Since.{is_past}
use Rattle.store_check.specs.Before.{AreBefore}
use Rattle.store_check.specs.Results.{Gets}
use Rattle.store_check.proofs.BeforeLaws.{by_prior}
use Rattle.store_check.proofs.version.root_befores.Goals as goal

pub returns-in-Some-clause-befores : goal.returns-in-Some-clause-befores
returns-in-Some-clause-befores g c = λ told laid lies before.
    by_prior (pages_of (g.B.Blocks.content c.args.survey.now.began)) c.args.survey.now.count (λ (nodes : Option (List Node)). Gets (is_past g.B.Blocks c.version_befores.new.survey.store) (AreBefore nodes []) c.version_befores.result) c.in-Some.prior laid lies
    (sym c.in-Some.is ∙ before) (λ v v_lies block. c.version_befores.ensures.befores told v v_lies block)
