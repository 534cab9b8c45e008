use Rattle.ground_model.proofs.Ahead.{walk_begins, walk_clashes, walk_feeds, walk_merges, walk_settles, writes_have_steps}
use Rattle.ground_model.proofs.walk_laws.walks_take_turns.Goals as goal

pub returns-clause-some : goal.returns-clause-some
returns-clause-some c = writes_have_steps

pub returns-clause-begins : goal.returns-clause-begins
returns-clause-begins c = walk_begins

pub returns-clause-settles : goal.returns-clause-settles
returns-clause-settles c = walk_settles

pub returns-clause-feeds : goal.returns-clause-feeds
returns-clause-feeds c = walk_feeds

pub returns-clause-merges : goal.returns-clause-merges
returns-clause-merges c = walk_merges

pub returns-clause-clashes : goal.returns-clause-clashes
returns-clause-clashes c = walk_clashes
