use Rattle.ground_model.proofs.LinksLeft.{answer_leaves_all, answered_top_leaves_all, commit_leaves_all, leaves_all_go_on, left_links_stay, link_leaves_all, mark_leaves_all, moved_leaves_all}
use Rattle.ground_model.proofs.rolling_laws.all_are_left.Goals as goal

pub returns-clause-on : goal.returns-clause-on
returns-clause-on g c = leaves_all_go_on

pub returns-clause-stay : goal.returns-clause-stay
returns-clause-stay g c = left_links_stay

pub returns-clause-moved : goal.returns-clause-moved
returns-clause-moved g c = moved_leaves_all

pub returns-clause-link : goal.returns-clause-link
returns-clause-link g c = link_leaves_all g.B.Blocks

pub returns-clause-commit : goal.returns-clause-commit
returns-clause-commit g c = commit_leaves_all

pub returns-clause-top : goal.returns-clause-top
returns-clause-top g c = answered_top_leaves_all

pub returns-clause-mark : goal.returns-clause-mark
returns-clause-mark g c = mark_leaves_all

pub returns-clause-answer : goal.returns-clause-answer
returns-clause-answer g c = answer_leaves_all
