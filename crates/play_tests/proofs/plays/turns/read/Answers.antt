use Rattle.std.proofs.Common.{◌≤◌, ℕ, arith}
use Rattle.playing.proofs.ReadScripts.{all_built, read_length}
use Rattle.script_text.specs.contracts.mem_source.MemSourceSource.TheImpl.{ghosts}
use Rattle.play_tests.proofs.plays.turns.read.Goals as goal

pub returns-in-Ok-clause-some : goal.returns-in-Ok-clause-some
returns-in-Ok-clause-some c =
    let same = read_length ghosts c.args.sources.now c.read_scripts.new.sources c.in-Ok.scripts.items c.in-Ok.ensures.read in
    let some = c.requires.some in
    omega (arith, same, some)

pub returns-in-Ok-clause-most : goal.returns-in-Ok-clause-most
returns-in-Ok-clause-most c =
    let same = read_length ghosts c.args.sources.now c.read_scripts.new.sources c.in-Ok.scripts.items c.in-Ok.ensures.read in
    let most = c.requires.most in
    omega (arith, same, most)

pub returns-in-Ok-clause-built : goal.returns-in-Ok-clause-built
returns-in-Ok-clause-built c = all_built c.in-Ok.scripts.items c.in-Ok.ensures.read.built
