use Rattle.std.proofs.Common.{◌≡◌, Some, [], refl, sym, ap, ◌∙◌}
use Rattle.std.specs.List.{slice_get}
use Rattle.draft_model.specs.Views.{copies, live}
use Rattle.draft_model.specs.Told.{are_rising}
use Rattle.draft_model.specs.Flush.{Placed, in_turn}
use Rattle.version_chain.proofs.Written.{rising_written}
use Rattle.version_chain.proofs.Writing.{live_in_turn, starts}
use Rattle.version_chain.proofs.flush.Flush.next.Goals as goal

pub write-requires-clause-live : goal.write-requires-clause-live
write-requires-clause-live g c =
    let placed = c.args.self.now.placed in
    let turn : slice_get (in_turn placed) c.args.self.now.written ≡ Some c.place-place.result = c.in_ok-own.ensures.3 ∙ c.place-place.ensures in
    ap (λ (x : Placed). live (copies (g.D.Draft.view c.args.draft.now)) x.path) c.place.view_is
    ∙ live_in_turn (g.D.Draft.view c.args.draft.now) placed c.args.self.now.written c.place-place.result (g.met.D.Draft.top c.args.draft.now c.requires.ready) c.requires.placed turn

pub write-requires-clause-rising : goal.write-requires-clause-rising
write-requires-clause-rising g c = ap are_rising c.requires.placed.paths ∙ rising_written c.requires.placed.fresh c.requires.placed.are.rising

pub write-requires-clause-top : goal.write-requires-clause-top
write-requires-clause-top g c =
    let first = starts (g.D.Draft.view c.args.draft.now) c.requires.placed.fresh c.args.self.now.placed (g.met.D.Draft.top c.args.draft.now c.requires.ready) c.requires.placed.are c.requires.placed.paths in
    (record { path = []; block = first.0 }, first.1, refl)

pub write-requires-clause-own : goal.write-requires-clause-own
write-requires-clause-own g c = (c.place-place.result, c.place-place.ensures, ap (λ (x : Placed). x.path) (sym c.place.view_is))
