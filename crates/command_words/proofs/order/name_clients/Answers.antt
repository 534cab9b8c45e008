use Rattle.std.proofs.Common.{◌++◌, ◌∷◌, [], sym, subst}
use Rattle.script_text.specs.Says.{IsNumberIn}
use Rattle.command_words.proofs.Orders.{client_at, clients_more}
use Rattle.command_words.proofs.order.name_clients.Goals as goal

pub returns-in-None : goal.returns-in-None
returns-in-None c = λ clients are.
    let one = client_at c.args.scripts c.args.words.now c.loop-word.word-index c.word-item.result
    clients c.loop-word-test.true c.word-item.is are in
    c.in-None.ensures one.0 (subst (λ w. IsNumberIn 1 c.args.scripts w one.0)
    (sym c.as_bytes.ensures.value) one.1)

pub loop-word-preserved : goal.loop-word-preserved
loop-word-preserved c = (
  c.loop-word.invariant.0 ++ c.in-Some._client ∷ [],
  clients_more c.args.scripts c.args.words.now c.loop-word.word-index c.word-item.result
      c.loop-word.invariant.0 c.in-Some._client c.loop-word-test.true c.word-item.is
      c.loop-word.invariant.1 (subst (λ w. IsNumberIn 1 c.args.scripts w c.in-Some._client)
      c.as_bytes.ensures.value c.in-Some.ensures),
)
