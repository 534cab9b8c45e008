use Rattle.std.proofs.Common.{ℕ, List, sym, subst}
use Rattle.command_words.specs.declared.call.Call.{Call}
use Rattle.pair_store.specs.contracts.on_halves.PairBlocks.TheImpl.{ghosts}
use Rattle.playing.specs.Calls.{PlayCall}
use Rattle.store_commands.specs.Calls.{FormatCall, TextCall}
use Rattle.afs_top.specs.Serving.{Serves}
use Rattle.afs_top.proofs.Calls.{formats_store}
use Rattle.afs_top.proofs.words.serve_call.Goals as goal

pub returns-in-Format-clause-call : goal.returns-in-Format-clause-call
returns-in-Format-clause-call g c =
    let V = g.V.Drives in
    let K = g.K.Sink in
    let drives = c.args.drives in
    let out = c.args.out.now in
    let ended = c.afs_format.result in
    let after = c.afs_format.new.out in
    let p = ghosts g.row.V g.V.Drives g.V.Drives-dict in
    let S : Call → Type 0 = λ x. Serves x (λ (order : List ℕ). PlayCall V p g.S.Source K order drives c.args.scripts.now out ended c.args.scripts.now after)
    (λ store. FormatCall V K store drives out ended after) (λ text. TextCall V K text drives out ended after) in
    subst S (sym c.in-Format.is) (formats_store V K c.in-Format.store drives out ended after c.afs_format.ensures)

pub returns-in-Play-clause-call : goal.returns-in-Play-clause-call
returns-in-Play-clause-call g c =
    let V = g.V.Drives in
    let K = g.K.Sink in
    let drives = c.args.drives in
    let out = c.args.out.now in
    let ended = c.afs_play.result in
    let after = c.afs_play.new.out in
    let p = ghosts g.row.V g.V.Drives g.V.Drives-dict in
    let P : List ℕ → Type 0 = λ order. PlayCall V p g.S.Source K order drives c.args.scripts.now out ended c.afs_play.new.scripts after in
    let S : Call → Type 0 = λ x. Serves x P (λ store. FormatCall V K store drives out ended after) (λ text. TextCall V K text drives out ended after) in
    subst S (sym c.in-Play.is) (subst P c.as_slice.ensures c.afs_play.ensures)
