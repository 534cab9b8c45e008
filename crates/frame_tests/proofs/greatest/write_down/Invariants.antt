use Rattle.std.proofs.Common.{◌≡◌, ◌<◌}
use Rattle.frame_tests.proofs.greatest.write_down.Given as goal

abbrev pub invariant-loop-level : goal.invariant-loop-level
invariant-loop-level g l =
    (g.D.Draft.fed_of l.draft ≡ l._level) × (g.D.Draft.count_of l.draft < 128) × g.D.Draft.is_ready l.draft
    × (g.D.Draft.rest_of l.draft ≡ g.D.Draft.rest_of l.initial.draft)
