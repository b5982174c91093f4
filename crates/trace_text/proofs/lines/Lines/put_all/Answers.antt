use Rattle.std.proofs.Common.{◌+◌, length}
use Rattle.trace_text.specs.inner.Pieces.{room_of}
use Rattle.trace_text.proofs.PieceLemmas.{piece_put, room_left, room_next}
use Rattle.trace_text.proofs.lines.Lines.put_all.Goals as goal

pub put_piece-requires : goal.put_piece-requires
put_piece-requires c =
    room_next (length c.loop-piece.self.line.items) (length c.args.self.now.line.items + room_of c.args.pieces.now) 2048 c.args.pieces.now c.loop-piece.piece-index _
    c.loop-piece-test.true c.loop-piece.invariant.1 c.requires

pub loop-piece-preserved : goal.loop-piece-preserved
loop-piece-preserved c = (
  piece_put c.loop-piece.self.line.items c.put_piece.new.self.line.items _ c.args.pieces.now c.loop-piece.piece-index _ c.loop-piece-test.true
      c.put_piece.ensures.put c.loop-piece.invariant.0,
  room_left _ _ _ c.args.pieces.now c.loop-piece.piece-index _ c.loop-piece-test.true c.put_piece.ensures.room c.loop-piece.invariant.1,
)
