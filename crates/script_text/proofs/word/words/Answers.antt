use Rattle.std.proofs.Common.{rules, tests, eqb, refl}
use Rattle.std.proofs.lemmas.Iterator.Consumers.{map_from_collect, YieldsList-from_filter}
use Rattle.std.proofs.lemmas.Iterator.Splits.{YieldsList-from_slice_split}
use Rattle.script_text.specs.Words.{is_word}
use Rattle.script_text.proofs.word.words.Goals as goal

pub returns : goal.returns
returns c =
    map_from_collect _ c.collect.ensures.ran
    (YieldsList-from_filter _ is_word
    (YieldsList-from_slice_split _ (λ b. eqb b 32) c.args.line.now
    (rw c.filter.ensures.source c.split.ensures.rest)
    (rw c.filter.ensures.source c.split.ensures.done)
    refl
    (λ x r q k. search (rules, tests)))
    c.filter.ensures.closure
    (λ x b q k. search (rules, tests)))
