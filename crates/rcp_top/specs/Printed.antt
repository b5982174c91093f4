-- Bytes as lines, and the lines of one frame. This project's own.
use Rattle.std.specs.Prelude.{ℕ, zero, suc, ◌==◌, Bool, true, false, ◌&&◌, List, [], ◌∷◌, ◌++◌, codes, if◌then◌else◌}

-- the whole lines of a text, behind the bytes of one that has begun
abbrev pub lines_behind : List ℕ → List ℕ → List (List ℕ)
lines_behind begun [] = []
lines_behind begun (byte ∷ bytes) =
    if byte == 10 then (begun ++ byte ∷ []) ∷ lines_behind [] bytes
    else lines_behind (begun ++ byte ∷ []) bytes

-- the whole lines of a text, each with its line feed
abbrev pub lines_in : List ℕ → List (List ℕ)
lines_in text = lines_behind [] text

-- a line begins with this word
abbrev pub begins_with : List ℕ → List ℕ → Bool
begins_with [] line = true
begins_with (b ∷ word) [] = false
begins_with (b ∷ word) (byte ∷ line) = (b == byte) && begins_with word line

-- those lines that begin with it
abbrev pub lines_with : List ℕ → List (List ℕ) → List (List ℕ)
lines_with word [] = []
lines_with word (line ∷ lines) =
    if begins_with word line then line ∷ lines_with word lines else lines_with word lines

-- a line that begins a frame
abbrev pub is_frame_line : List ℕ → Bool
is_frame_line line = begins_with (codes "frame ") line

-- the lines that begin with a word, behind so many lines that begin a frame and before the next
abbrev pub lines_after : List ℕ → ℕ → List (List ℕ) → List (List ℕ)
lines_after word frames [] = []
lines_after word zero (line ∷ lines) =
    if is_frame_line line then []
    else if begins_with word line then line ∷ lines_after word zero lines
    else lines_after word zero lines
lines_after word (suc frames) (line ∷ lines) =
    if is_frame_line line then lines_after word frames lines
    else lines_after word (suc frames) lines

-- the lines of frame t of a text that begin with a word
abbrev pub lines_of_frame : List ℕ → ℕ → List ℕ → List (List ℕ)
lines_of_frame word t text = lines_after word (suc t) (lines_in text)

-- the lines of a text that begin its frames
abbrev pub frame_lines : List ℕ → List (List ℕ)
frame_lines text = lines_with (codes "frame ") (lines_in text)
