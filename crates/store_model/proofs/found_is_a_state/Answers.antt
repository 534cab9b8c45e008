use Rattle.store_model.proofs.FoundStates.{found_is_state}
use Rattle.store_model.proofs.found_is_a_state.Goals as goal

pub returns : goal.returns
returns c = λ content most state e. found_is_state content most state e
