use Rattle.std.proofs.Common.{arith}
use Rattle.draft_model.proofs.Entries.{length_keys}
use Rattle.draft_tree.proofs.steps.step.Goals as goal

pub returns-in-ReadAt-clause-len : goal.returns-in-ReadAt-clause-len
returns-in-ReadAt-clause-len g c = omega (arith, length_keys (g.P.PageList.entries c.read_step.new.pages) (g.P.PageList.entries c.args.pages.now) c.read_step.ensures.keys)

pub returns-in-ReadAt-clause-no_more : goal.returns-in-ReadAt-clause-no_more
returns-in-ReadAt-clause-no_more g c _ = length_keys (g.P.PageList.entries c.read_step.new.pages) (g.P.PageList.entries c.args.pages.now) c.read_step.ensures.keys

pub returns-in-ListAt-clause-len : goal.returns-in-ListAt-clause-len
returns-in-ListAt-clause-len g c = omega (arith, length_keys (g.P.PageList.entries c.list_step.new.pages) (g.P.PageList.entries c.args.pages.now) c.list_step.ensures.keys)

pub returns-in-ListAt-clause-no_more : goal.returns-in-ListAt-clause-no_more
returns-in-ListAt-clause-no_more g c _ = length_keys (g.P.PageList.entries c.list_step.new.pages) (g.P.PageList.entries c.args.pages.now) c.list_step.ensures.keys

pub returns-in-WriteAt-clause-len : goal.returns-in-WriteAt-clause-len
returns-in-WriteAt-clause-len g c = omega (arith, length_keys (g.P.PageList.entries c.write_step.new.pages) (g.P.PageList.entries c.args.pages.now) c.write_step.ensures.keys)

pub returns-in-WriteAt-clause-no_more : goal.returns-in-WriteAt-clause-no_more
returns-in-WriteAt-clause-no_more g c _ = length_keys (g.P.PageList.entries c.write_step.new.pages) (g.P.PageList.entries c.args.pages.now) c.write_step.ensures.keys

pub returns-in-DropAt-clause-len : goal.returns-in-DropAt-clause-len
returns-in-DropAt-clause-len g c = omega (arith, length_keys (g.P.PageList.entries c.drop_step.new.pages) (g.P.PageList.entries c.args.pages.now) c.drop_step.ensures.keys)

pub returns-in-DropAt-clause-no_more : goal.returns-in-DropAt-clause-no_more
returns-in-DropAt-clause-no_more g c _ = length_keys (g.P.PageList.entries c.drop_step.new.pages) (g.P.PageList.entries c.args.pages.now) c.drop_step.ensures.keys
