use Rattle.std.proofs.Common.{arith}
use Rattle.script_text.proofs.NumberWords.{number_says}
use Rattle.script_text.proofs.number.number_in.Goals as goal

pub returns-clause-says : goal.returns-clause-says
returns-clause-says c = number_says c.args.low c.args.high c.args.word.now c.read_number.result (omega arith) c.read_number.ensures
