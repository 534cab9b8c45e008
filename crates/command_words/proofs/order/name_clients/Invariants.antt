use Rattle.std.proofs.Common.{ℕ, List, take}
use Rattle.command_words.specs.Orders.{AreClients}
use Rattle.command_words.specs.Words.{bytes_of}
use Rattle.command_words.proofs.order.name_clients.Given as goal

abbrev pub invariant-loop-word : goal.invariant-loop-word
invariant-loop-word l = (clients : List ℕ) × AreClients l.scripts
    (bytes_of (take l.word-index l.words)) clients
