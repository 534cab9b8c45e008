-- The causes of the format follow those that both formats have.
use Rattle.std.proofs.Common.{sym, ◌∙◌}
use Rattle.std.specs.Prelude.{slice_index, ◌==◌, if◌then◌else◌}
use Rattle.page_codec.specs.TableReading.{head_causes, one_causes, two_causes}
use Rattle.page_codec.proofs.CauseLaws.{first_cause-append-some, first_cause-append-none}
use Rattle.page_codec.proofs.table_reading.root_cause.Goals as goal

pub returns-in-Some : goal.returns-in-Some
returns-in-Some c = let b = c.args.block.now in sym (first_cause-append-some (head_causes b) (if slice_index b 2 == 1 then one_causes b else two_causes b) c.in-Some.why (sym c.in-Some.ensures))

pub returns-in-None : goal.returns-in-None
returns-in-None c = let b = c.args.block.now in c.format_cause.ensures ∙ sym (first_cause-append-none (head_causes b) (if slice_index b 2 == 1 then one_causes b else two_causes b) (sym c.in-None.ensures))
