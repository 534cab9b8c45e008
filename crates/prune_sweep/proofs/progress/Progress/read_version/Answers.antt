use Rattle.prune_sweep.proofs.ReadSteps.{version_read_of, version_causes_of}
use Rattle.prune_sweep.proofs.progress.Progress.read_version.Goals as goal

pub returns-clause-causes : goal.returns-clause-causes
returns-clause-causes c =
    version_causes_of c.args.self.now c.args.block.now c.in_ok-version.version c.take_version.result c.in_ok-version.ensures.exact c.take_version.ensures.causes

pub returns-clause-reads : goal.returns-clause-reads
returns-clause-reads c =
    version_read_of c.args.at c.args.block.now c.args.self.now c.take_version.new.self c.in_ok-version.version c.take_version.result c.in_ok-version.ensures.exact
    c.take_version.ensures.takes
