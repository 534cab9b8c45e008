use Rattle.script_text.proofs.SaysLemmas.{read-from_remark, read-from_said, remark-from_read, said-from_read, said_once}
use Rattle.script_text.proofs.grammar.grammar_law.Goals as goal

pub returns-clause-said : goal.returns-clause-said
returns-clause-said c mode words command = (said-from_read mode words command, read-from_said mode words command)

pub returns-clause-remark : goal.returns-clause-remark
returns-clause-remark c mode words = (remark-from_read mode words, read-from_remark mode words)

pub returns-clause-once : goal.returns-clause-once
returns-clause-once c = said_once
