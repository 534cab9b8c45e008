use Rattle.std.proofs.Common.{ℕ, List, [], ◌∷◌, ◌++◌, ap, ◌∙◌}
use Rattle.page_codec.specs.Values.{VersionValue}
use Rattle.pool_draft.specs.Sets.{roots_of}
use Rattle.pool_draft.proofs.Begun.{begun_alone, one_added}
use Rattle.ground_model.proofs.LineTurns.{line_turn_stands}
use Rattle.ground_model.proofs.Stopping.{read_stops}
use Rattle.session.specs.Own.{IsAtRest}
use Rattle.session.specs.Reads.{IsVersionOf}
use Rattle.session.proofs.OpenedLines.{base_of, begin_turn, begins_at, head_is_known, no_drafts}
use Rattle.session.proofs.ReadTurns.{read_stopped}
use Rattle.session.proofs.course.Course.open.Goals as goal

pub returns-in-Ok : goal.returns-in-Ok
returns-in-Ok g c =
    let s = c.args.self.now in
    let safe = no_drafts (g.B.Blocks.size c.args.common.now.store) s.drafts (roots_of s.drafts) c.requires.none c.requires.ready.safe.drafts in
    let added = one_added c.add-added.result s.drafts c.add-added.new.self c.args.granted.now.head.block c.in-Ok.version (λ no. c.add-added.ensures.full.0 no) c.add-added.ensures.added c.requires.none in
    let begun = begun_alone s.drafts c.add-added.new.self c.pick.new.self c.args.granted.now.head.block c.in-Ok.version c.requires.none safe.0 safe.1 added c.pick.ensures.picked c.pick.ensures.same in
    begin_turn g.B.Blocks c.args.script.now c.args.common.now c.read_version.new.self c.note.new.common c.answer.new.common s c.answer.new.self c.args.file.now c.args.granted.now c.in-Ok.version c.pick.new.self c.push.new.self
    c.one-bases.result c.one_serial.result
    (record {
      its_bases = c.one-bases.ensures ∙ ap (λ (v : VersionValue). base_of v ∷ []) c.version.view_is;
      its_serials = c.one_serial.ensures ∙ ap (λ (v : VersionValue). v.serial ∷ []) c.version.view_is;
    })
    (λ told. line_turn_stands g.B.Blocks (λ d n f always left. g.met.B.Blocks.settled_left d n f told always left))
    c.requires.ready c.requires.command c.requires.none c.requires.granted c.in-Ok.ensures
    (begins_at c.pick.new.self c.args.granted.now.head.block c.in-Ok.version begun) (c.push.ensures.items ∙ ap (λ (xs : List ℕ). xs ++ c.args.granted.now.rights ∷ []) c.clear.ensures)
    c.note.ensures c.answer.ensures.answered c.answer.result c.answer.ensures.line

pub returns-in-Err : goal.returns-in-Err
returns-in-Err g c =
    read_stopped g.B.Blocks IsVersionOf c.args.common.now c.read_version.new.self c.args.granted.now.head.block c.in-Err.fault c.in-Err.ensures
    c.args.script.now c.args.self.now IsAtRest c.requires.ready
    (λ told opening scripts first scene at. head_is_known g.B.Blocks opening scripts first scene c.args.common.now at.stands c.args.file.now c.args.granted.now c.requires.granted)
    (λ told. read_stops g.B.Blocks (λ d n f always left. g.met.B.Blocks.settled_left d n f told always left))
