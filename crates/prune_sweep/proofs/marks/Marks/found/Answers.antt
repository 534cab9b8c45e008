use Rattle.std.proofs.Common.{rules, sym}
use Rattle.prune_sweep.proofs.MarkLists.{found_from-count}
use Rattle.prune_sweep.proofs.marks.Marks.found.Goals as goal

pub returns : goal.returns
returns c = search (rules, sym (found_from-count 0 c.args.self.now))
