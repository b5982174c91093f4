-- The line so far and the pieces that are left make the line, and there is room for them.
use Rattle.std.proofs.Common.{◌≡◌, ◌+◌, ◌≤◌, ◌++◌, drop, length}
use Rattle.trace_text.specs.inner.Pieces.{text_of, room_of}
use Rattle.trace_text.proofs.lines.Lines.put_all.Given as goal

abbrev pub invariant-loop-piece : goal.invariant-loop-piece
invariant-loop-piece l =
    (l.self.line.items ++ text_of (drop l.piece-index l.pieces) ≡ l.initial.self.line.items ++ text_of l.pieces)
    × (length l.self.line.items + room_of (drop l.piece-index l.pieces) ≤ length l.initial.self.line.items + room_of l.pieces)
