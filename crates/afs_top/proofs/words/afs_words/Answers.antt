use Rattle.std.proofs.Common.{◌≡◌, ℕ, List, length, sym, subst, ◌∙◌}
use Rattle.command_words.specs.declared.call.Call.{Call}
use Rattle.command_words.specs.declared.call.Call.TheVariants.{Play}
use Rattle.command_words.specs.Words.{IsCall}
use Rattle.command_words.proofs.Played.{call_order}
use Rattle.pair_store.specs.contracts.on_halves.PairBlocks.TheImpl.{ghosts}
use Rattle.playing.specs.Calls.{PlayCall}
use Rattle.store_commands.specs.Calls.{FormatCall, TextCall}
use Rattle.afs_top.specs.Serving.{Serves}
use Rattle.afs_top.proofs.Played.{play_unread}
use Rattle.afs_top.proofs.words.afs_words.Goals as goal

pub returns-in-Err-clause-command : goal.returns-in-Err-clause-command
returns-in-Err-clause-command g c = λ none.
    let asked = c.in-Err.ensures.memory in
    let F : ℕ → Type 0 = λ n. IsCall c.args.words.now (length c.args.scripts.now) n (Play asked.0) in
    absurd (none (Play asked.0) (subst F c.blocks-2.ensures asked.1))

pub returns-in-Err-clause-call : goal.returns-in-Err-clause-call
returns-in-Err-clause-call g c = λ x is.
    let V = g.V.Drives in
    let K = g.K.Sink in
    let drives = c.args.drives in
    let out = c.args.out.now in
    let ended = c.without_journal-in-Err.result in
    let after = c.end_memory-status.new.out in
    let p = ghosts g.row.V g.V.Drives g.V.Drives-dict in
    let asked = c.in-Err.ensures.memory in
    let form = asked.1.named in
    let found = call_order c.args.words.now (length c.args.scripts.now) (V.size drives) form.0 x form.1 is in
    let S : Call → Type 0 = λ y. Serves y (λ (order : List ℕ). PlayCall V p g.S.Source K order drives c.args.scripts.now out ended c.args.scripts.now after)
    (λ store. FormatCall V K store drives out ended after) (λ text. TextCall V K text drives out ended after) in
    subst S (sym found.2)
    (play_unread V p g.S.Source K found.0 drives c.args.scripts.now out ended after (c.without_journal-in-Err.ensures.status ∙ c.end_memory-status.ensures.status) c.without_journal-in-Err.ensures.drives
    c.without_journal-in-Err.ensures.noted c.end_memory-status.ensures.prints c.end_memory-status.ensures.later)
