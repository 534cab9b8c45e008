use Rattle.std.proofs.Common.{length, arith}
use Rattle.std.proofs.lemmas.List.{length-map}
use Rattle.session.specs.declared.session.Session.{Session}
use Rattle.playing.proofs.shown.GroundOverPlayed.script.Goals as goal

pub client_in-requires : goal.client_in-requires
client_in-requires g c =
    let many = length-map c.args.self.now.sessions (λ (s : Session). s.script) in
    let low = c.requires in
    omega (arith, many, low)
