use Rattle.ground_model.proofs.SeveralLinks.{links_stay}
use Rattle.ground_model.proofs.several_laws.links_stay.Goals as goal

pub returns : goal.returns
returns c = links_stay
