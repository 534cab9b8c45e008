use Rattle.std.proofs.Common.{◌≡◌, ◌≤◌, ℕ, length, inl, inr, ap, subst, ◌∙◌, arith}
use Rattle.std.specs.List.{All}
use Rattle.std.proofs.lemmas.List.{length-map}
use Rattle.session.specs.declared.session.Session.{Session}
use Rattle.service_model.specs.Standing.{Scripts}
use Rattle.playing.proofs.play.play_opened.Goals as goal

pub play_run-requires-clause-clients : goal.play_run-requires-clause-clients
play_run-requires-clause-clients g c =
    let size = length-map c.in-Ok.run'.sessions (λ (s : Session). s.script) in
    let same = ap (λ (ss : Scripts). length ss) c.in-Ok.ensures.begun.scripts_are in
    let F : ℕ → Type 0 = λ n. All (λ k. (1 ≤ k) × (k ≤ n)) c.args.words.now in
    let many : length c.args.scripts.items ≡ length c.in-Ok.run'.sessions = omega (arith, size, same) in
    subst F many c.requires.clients

pub play_run-requires-clause-few : goal.play_run-requires-clause-few
play_run-requires-clause-few g c =
    let size = length-map c.in-Ok.run'.sessions (λ (s : Session). s.script) in
    let same = ap (λ (ss : Scripts). length ss) c.in-Ok.ensures.begun.scripts_are in
    let most = c.requires.most in
    omega (arith, size, same, most)

pub play_run-requires-clause-going : goal.play_run-requires-clause-going
play_run-requires-clause-going g c = c.in-Ok.ensures.begun.fault

pub play_run-requires-clause-fresh : goal.play_run-requires-clause-fresh
play_run-requires-clause-fresh g c = c.in-Ok.ensures.begun.entries

pub returns-in-Ok : goal.returns-in-Ok
returns-in-Ok g c = inr (c.in-Ok.run', c.in-Ok.ensures.begun, c.play_run.ensures)

pub returns-in-Err : goal.returns-in-Err
returns-in-Err g c = inl (record {
  status = c.without_journal.ensures.status ∙ c.end_memory-status.ensures.status;
  drives = c.without_journal.ensures.drives ∙ c.in-Err.ensures.back;
  noted = c.without_journal.ensures.noted;
  printed = c.end_memory-status.ensures.prints;
  later = c.end_memory-status.ensures.later;
})
