-- A line one piece at a time.
use Rattle.std.proofs.Common.{◌≡◌, ℕ, ℤ, ◌+◌, ◌<◌, ◌≤◌, List, [], ◌∷◌, ◌++◌, length, drop, get_or, refl, sym, ap, ◌∙◌, append-nil, append_assoc, drop-cons, add-one, arith}
use Rattle.std.specs.Fmt.{signed_decimal}
use Rattle.trace_text.specs.declared.piece.Piece.{Piece}
use Rattle.trace_text.specs.inner.Pieces.{piece_text, piece_room, text_of, room_of}
use Rattle.trace_text.specs.Lines.{numbers_text}

next_text : (piece : Piece) (pieces : List Piece) → text_of (piece ∷ pieces) ≡ piece_text piece ++ text_of pieces
next_text piece [] = sym (append-nil (piece_text piece))
next_text piece (next ∷ pieces) = refl

left : {X : Type 0} (xs : List X) (k : ℕ) (d : X) → k < length xs → drop k xs ≡ get_or xs k d ∷ drop (k + 1) xs
left xs k d lt = drop-cons xs k d lt ∙ ap (λ n. get_or xs k d ∷ drop n xs) (sym (add-one k))

-- the next piece was put, and those after it are left
pub piece_put : (line new whole : List ℕ) (pieces : List Piece) (k : ℕ) (d : Piece) → k < length pieces
    → new ≡ line ++ piece_text (get_or pieces k d) → line ++ text_of (drop k pieces) ≡ whole → new ++ text_of (drop (k + 1) pieces) ≡ whole
piece_put line new whole pieces k d lt put so_far =
    let rest = text_of (drop (k + 1) pieces) in
    ap (λ l. l ++ rest) put ∙ append_assoc line (piece_text (get_or pieces k d)) rest
    ∙ ap (λ t. line ++ t) (sym (ap text_of (left pieces k d lt) ∙ next_text (get_or pieces k d) (drop (k + 1) pieces))) ∙ so_far

-- the pieces that are left have room
pub room_left : (a b limit : ℕ) (pieces : List Piece) (k : ℕ) (d : Piece) → k < length pieces
    → b ≤ a + piece_room (get_or pieces k d) → a + room_of (drop k pieces) ≤ limit → b + room_of (drop (k + 1) pieces) ≤ limit
room_left a b limit pieces k d lt more so_far =
    let next : room_of (drop k pieces) ≡ piece_room (get_or pieces k d) + room_of (drop (k + 1) pieces) = ap room_of (left pieces k d lt) in
    omega (arith, next, more, so_far)

-- the next piece has room
pub room_next : (a most limit : ℕ) (pieces : List Piece) (k : ℕ) (d : Piece) → k < length pieces
    → a + room_of (drop k pieces) ≤ most → most ≤ limit → a + piece_room (get_or pieces k d) ≤ limit
room_next a most limit pieces k d lt so_far within =
    let next : room_of (drop k pieces) ≡ piece_room (get_or pieces k d) + room_of (drop (k + 1) pieces) = ap room_of (left pieces k d lt) in
    omega (arith, next, so_far, within)

-- the next value was put after a space, and those after it are left
pub value_put : (line between new whole : List ℕ) (values : List ℤ) (k : ℕ) (d : ℤ) → k < length values → between ≡ line ++ (32 ∷ [])
    → new ≡ between ++ signed_decimal (get_or values k d) → line ++ numbers_text (drop k values) ≡ whole → new ++ numbers_text (drop (k + 1) values) ≡ whole
value_put line between new whole values k d lt space put so_far =
    let rest = numbers_text (drop (k + 1) values) in
    let digits = signed_decimal (get_or values k d) in
    ap (λ l. l ++ rest) put ∙ append_assoc between digits rest ∙ ap (λ l. l ++ (digits ++ rest)) space ∙ append_assoc line (32 ∷ []) (digits ++ rest)
    ∙ ap (λ t. line ++ t) (sym (ap numbers_text (left values k d lt))) ∙ so_far
