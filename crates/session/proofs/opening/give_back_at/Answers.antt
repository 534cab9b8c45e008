use Rattle.std.proofs.Common.{◌+◌}
use Rattle.session.proofs.Beginning.{is_given_back}
use Rattle.session.proofs.opening.give_back_at.Goals as goal

pub returns : goal.returns
returns c = is_given_back c.in-Ok.client (c.args.place + 1) _ _ c.in-Ok.ensures.2 c.give_back.ensures.freed c.give_back.ensures.held c.give_back.ensures.others
