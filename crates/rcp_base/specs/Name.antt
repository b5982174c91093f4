-- Names: a small letter, then small letters, digits and underscores, at most 32 bytes, and no reserved word.
-- This project's own.
use Rattle.std.specs.Prelude.{ℕ, Bool, false, not, ◌&&◌, ◌||◌, ◌==◌, nat_le, List, [], ◌∷◌, length, codes, Option, Some, None, if◌then◌else◌}
use Rattle.std.specs.List.{list_all}
use Rattle.std.specs.Str.{bytes_eq}
use Rattle.std.specs.Char.{is_ascii_lowercase, is_ascii_digit}

-- a byte that a name has after its first letter
abbrev pub is_name_byte : ℕ → Bool
is_name_byte b = is_ascii_lowercase b || is_ascii_digit b || (b == 95)

-- a small letter and name bytes, of any length
abbrev pub is_word : List ℕ → Bool
is_word [] = false
is_word (b ∷ bs) = is_ascii_lowercase b && list_all is_name_byte bs

-- a word of the task language
abbrev pub is_reserved : List ℕ → Bool
is_reserved text =
    bytes_eq text (codes "let") || bytes_eq text (codes "and") || bytes_eq text (codes "or") || bytes_eq text (codes "not")
    || bytes_eq text (codes "abs") || bytes_eq text (codes "min") || bytes_eq text (codes "max")
    || bytes_eq text (codes "clamp") || bytes_eq text (codes "if")

-- the text is a name
unfoldable pub is_name : List ℕ → Bool
is_name text = is_word text && nat_le (length text) 32 && not (is_reserved text)

-- the name that a text is, if it is one
abbrev pub name_of : List ℕ → Option (List ℕ)
name_of text = if is_name text then Some text else None
