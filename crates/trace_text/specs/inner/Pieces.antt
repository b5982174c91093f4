-- A line as its pieces, and how much room they take at most. This project's own.
use Rattle.std.specs.Prelude.{ℕ, ◌+◌, List, [], ◌∷◌, ◌++◌, length}
use Rattle.std.specs.Fmt.{decimal}
use Rattle.task_file.specs.PathText.{path_text}
use Rattle.trace_text.specs.declared.piece.Piece.{Piece}
use Rattle.trace_text.specs.declared.piece.Piece.TheVariants as piece

-- the bytes of a piece
abbrev pub piece_text : Piece → List ℕ
piece_text (piece.Text bytes) = bytes.now
piece_text (piece.Count n) = decimal n
piece_text (piece.Place path) = path_text path

-- the bytes of pieces, one after the other
abbrev pub text_of : List Piece → List ℕ
text_of [] = []
text_of (last ∷ []) = piece_text last
text_of (piece ∷ pieces) = piece_text piece ++ text_of pieces

-- the most bytes that a piece can have
abbrev pub piece_room : Piece → ℕ
piece_room (piece.Text bytes) = length bytes.now
piece_room (piece.Count n) = 20
piece_room (piece.Place path) = 80

-- the most bytes that they can have together
abbrev pub room_of : List Piece → ℕ
room_of [] = 0
room_of (piece ∷ pieces) = piece_room piece + room_of pieces
