use Rattle.std.proofs.Common.{◌+◌, take, sym, subst}
use Rattle.script_text.specs.Says.{IsNumberIn}
use Rattle.command_words.specs.Orders.{AreClients}
use Rattle.command_words.specs.Words.{bytes_of}
use Rattle.command_words.proofs.Orders.{client_at, clients_more}
use Rattle.command_words.proofs.order.clients_of.Goals as goal

pub unreachable-requires : goal.unreachable-requires
unreachable-requires c =
    let one = client_at c.args.scripts c.args.words.now c.loop-word.word-index c.word-item.result
    c.requires.0 c.loop-word-test.true c.word-item.is c.requires.1 in
    c.in-None.ensures one.0 (subst (λ w. IsNumberIn 1 c.args.scripts w one.0)
    (sym c.as_bytes.ensures.value) one.1)

pub loop-word-preserved : goal.loop-word-preserved
loop-word-preserved c =
    subst (AreClients c.args.scripts
    (bytes_of (take (c.loop-word.word-index + 1) c.args.words.now)))
    (sym c.in_ok-push-in-Some.ensures.items)
    (clients_more c.args.scripts c.args.words.now c.loop-word.word-index c.word-item.result
    c.loop-word.clients.items c.in-Some.client c.loop-word-test.true c.word-item.is
    c.loop-word.invariant (subst (λ w. IsNumberIn 1 c.args.scripts w c.in-Some.client)
    c.as_bytes.ensures.value c.in-Some.ensures))
