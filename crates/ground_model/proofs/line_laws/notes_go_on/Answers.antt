use Rattle.ground_model.proofs.Noted.{last_is_latest, notes_go_on, notes_rest, notes_show, nothing_is_noted, untimed_are_of_turn}
use Rattle.ground_model.proofs.line_laws.notes_go_on.Goals as goal

pub returns-clause-nothing : goal.returns-clause-nothing
returns-clause-nothing c = nothing_is_noted

pub returns-clause-on : goal.returns-clause-on
returns-clause-on c = notes_go_on

pub returns-clause-shows : goal.returns-clause-shows
returns-clause-shows c = notes_show

pub returns-clause-rests : goal.returns-clause-rests
returns-clause-rests c = notes_rest

pub returns-clause-latest : goal.returns-clause-latest
returns-clause-latest c = last_is_latest

pub returns-clause-untimed : goal.returns-clause-untimed
returns-clause-untimed c = untimed_are_of_turn
