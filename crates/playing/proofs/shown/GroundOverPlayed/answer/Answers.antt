use Rattle.std.proofs.Common.{◌+◌, ◌-◌, [], length, ap, ◌∙◌, arith}
use Rattle.std.specs.Option.{option_map_or}
use Rattle.std.proofs.lemmas.List.{length-map}
use Rattle.std.specs.Prelude.{slice_get}
use Rattle.session.specs.declared.session.Session.{Session}
use Rattle.ground.specs.Turning.{replies_of}
use Rattle.playing.proofs.ShownRuns.{told_at}
use Rattle.playing.proofs.shown.GroundOverPlayed.answer.Goals as goal

pub client_in-requires : goal.client_in-requires
client_in-requires g c =
    let many = length-map c.args.self.now.sessions (λ (s : Session). s.script) in
    let low = c.requires in
    omega (arith, many, low)

pub returns : goal.returns
returns g c =
    c.answer.ensures
    ∙ ap (λ k. slice_get (replies_of c.args.self.now k) c.args.line) c.client_in.ensures
    ∙ ap (λ n. slice_get (option_map_or (λ (s : Session). s.course.replies.items) (slice_get c.args.self.now.sessions n) []) c.args.line) {x = c.args.place + 1 - 1} {y = c.args.place} (omega arith)
    ∙ ap (λ xs. slice_get xs c.args.line) (told_at (λ (s : Session). s.course.replies.items) c.args.self.now.sessions c.args.place)
