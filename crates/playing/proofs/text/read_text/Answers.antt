use Rattle.std.proofs.Common.{arith}
use Rattle.playing.proofs.Reading.{held_last, held_long, taken_more}
use Rattle.playing.proofs.text.read_text.Goals as goal

pub returns-in_err-take_piece-clause-taken : goal.returns-in_err-take_piece-clause-taken
returns-in_err-take_piece-clause-taken g c =
    taken_more (g.S.Source.left c.args.source.now) (g.S.Source.left c.pieces.source)
    (g.S.Source.left c.take_piece.new.source) c.pieces.text.items c.pieces.invariant.taken
    c.in_err-take_piece.ensures.taken

pub returns-then-not-branch-clause-held : goal.returns-then-not-branch-clause-held
returns-then-not-branch-clause-held g c =
    held_last (g.S.Source.left c.args.source.now) (g.S.Source.left c.pieces.source)
    (g.S.Source.left c.take_piece.new.source) c.pieces.text.items c.take_piece.new.text.items
    c.in_ok-take_piece.field-0 c.pieces.invariant.taken c.in_ok-take_piece.ensures.piece
    c.if-not-branch.true

pub returns-clause-held : goal.returns-clause-held
returns-clause-held g c =
    held_long (g.S.Source.left c.args.source.now) (g.S.Source.left c.pieces.source)
    c.pieces.text.items c.pieces.invariant.taken (omega arith)
