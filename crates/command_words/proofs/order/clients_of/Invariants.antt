use Rattle.std.proofs.Common.{take}
use Rattle.command_words.specs.Orders.{AreClients}
use Rattle.command_words.specs.Words.{bytes_of}
use Rattle.command_words.proofs.order.clients_of.Given as goal

abbrev pub invariant-loop-word : goal.invariant-loop-word
invariant-loop-word l = AreClients l.scripts (bytes_of (take l.word-index l.words)) l.clients.items
