use Rattle.store_check.proofs.ReadOnly.{none_read}
use Rattle.store_commands.proofs.Listed.{lines_live, lines_none}
use Rattle.store_commands.proofs.showing.append_object.Goals as goal

pub returns-in_err-append_file_line-in-Some-clause-only : goal.returns-in_err-append_file_line-in-Some-clause-only
returns-in_err-append_file_line-in-Some-clause-only g c =
    let b = g.B.Blocks in
    none_read b c.args.store.now (g.met.B.Blocks.clock c.args.store.now)

pub returns-in-None-clause-only : goal.returns-in-None-clause-only
returns-in-None-clause-only g c =
    let b = g.B.Blocks in
    none_read b c.args.store.now (g.met.B.Blocks.clock c.args.store.now)

pub returns-in-None-clause-lines : goal.returns-in-None-clause-lines
returns-in-None-clause-lines g c = lines_none c.args.object c.args.text.now.items

pub returns-in_ok-append_file_line-in-Some-clause-lines : goal.returns-in_ok-append_file_line-in-Some-clause-lines
returns-in_ok-append_file_line-in-Some-clause-lines g c =
    lines_live c.args.object c.in-Some.head c.args.text.now.items c.append_file_line.new.text.items c.list_tree.new.out.items c.list_tree.result
    c.in_ok-append_file_line-in-Some.ensures.line c.list_tree.ensures.lines
