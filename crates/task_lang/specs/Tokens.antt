-- The tokens of a text. Each is as long as it can be, and blanks part tokens and mean nothing else.
-- This project's own.
use Rattle.std.specs.Prelude.{ℕ, zero, suc, ◌^◌, ◌==◌, ◌||◌, ◌&&◌, ℤ, pos, Bool, nat_eq, nat_lt, List, [], ◌∷◌, length, map, take, take_while, codes, Option, Some, None, if◌then◌else◌}
use Rattle.std.specs.List.{list_all, starts_with}
use Rattle.std.specs.Char.{is_ascii_lowercase, is_ascii_digit}
use Rattle.std.specs.Str.{bytes_eq}
use Rattle.std.specs.Str.Parse.{digits_value}
use Rattle.rcp_base.specs.Name.{is_name_byte, name_of}
use Rattle.task_lang.specs.declared.token.Token.{Token}
use Rattle.task_lang.specs.declared.token.Token.TheVariants as token

-- a space, a tab, a line feed or a carriage return
abbrev pub is_blank : ℕ → Bool
is_blank b = (b == 32) || (b == 9) || (b == 10) || (b == 13)

-- a byte that makes one operator with a `=` behind it
abbrev pub goes_with_equal : ℕ → Bool
goes_with_equal b = (b == 58) || (b == 61) || (b == 33) || (b == 60) || (b == 62)

-- the bytes behind a token's first that belong to it: as many as can
abbrev pub tail_of : ℕ → List ℕ → List ℕ
tail_of first behind =
    if is_ascii_lowercase first then take_while is_name_byte behind
    else if is_ascii_digit first then take_while is_ascii_digit behind
    else if goes_with_equal first && starts_with nat_eq behind (codes "=") then take 1 behind
    else []

-- the texts of the tokens that begin behind the first n bytes
abbrev pub lexemes_behind : ℕ → List ℕ → List (List ℕ)
lexemes_behind n [] = []
lexemes_behind (suc n) (b ∷ rest) = lexemes_behind n rest
lexemes_behind zero (b ∷ rest) =
    if is_blank b then lexemes_behind 0 rest
    else (b ∷ tail_of b rest) ∷ lexemes_behind (length (tail_of b rest)) rest

-- how many bytes are left where each token begins that begins behind the first n bytes
abbrev pub lefts_behind : ℕ → List ℕ → List ℕ
lefts_behind n [] = []
lefts_behind (suc n) (b ∷ rest) = lefts_behind n rest
lefts_behind zero (b ∷ rest) =
    if is_blank b then lefts_behind 0 rest
    else length (b ∷ rest) ∷ lefts_behind (length (tail_of b rest)) rest

-- how many bytes are left where each token of a text begins, so that its byte is the text's length without them
unfoldable pub lefts_of : List ℕ → List ℕ
lefts_of text = lefts_behind 0 text

-- the number that a text of digits writes, if it is below 2^63
abbrev pub number_in : List ℕ → Option ℤ
number_in text =
    if nat_lt 0 (length text) && list_all is_ascii_digit text && nat_lt (digits_value 10 text) (2 ^ 63)
    then Some (pos (digits_value 10 text)) else None

-- a number, or else a name
abbrev pub number_or_word : Option ℤ → Option (List ℕ) → Token
number_or_word (Some number) _ = token.Number number
number_or_word None (Some name) = token.Word name
number_or_word None None = token.Bad

-- the operators and marks
abbrev pub operators : List (List ℕ × Token)
operators =
    (codes ":=", token.Assign) ∷ (codes "==", token.EqualEqual) ∷ (codes "!=", token.NotEqual) ∷ (codes "<=", token.LessEqual)
    ∷ (codes ">=", token.GreaterEqual) ∷ (codes "<", token.Less) ∷ (codes ">", token.Greater) ∷ (codes "=", token.Equal)
    ∷ (codes "+", token.Plus) ∷ (codes "-", token.Minus) ∷ (codes "*", token.Star) ∷ (codes "/", token.Slash)
    ∷ (codes "%", token.Percent) ∷ (codes "(", token.Open) ∷ (codes ")", token.Close) ∷ (codes ",", token.Comma)
    ∷ (codes ";", token.Semicolon) ∷ []

-- the reserved words
abbrev pub reserved : List (List ℕ × Token)
reserved =
    (codes "let", token.Let) ∷ (codes "and", token.And) ∷ (codes "or", token.Or) ∷ (codes "not", token.Not)
    ∷ (codes "abs", token.Abs) ∷ (codes "min", token.Min) ∷ (codes "max", token.Max) ∷ (codes "clamp", token.Clamp)
    ∷ (codes "if", token.If) ∷ []

-- the token that a table has for a text
abbrev pub token_in : List (List ℕ × Token) → List ℕ → Option Token
token_in [] lexeme = None
token_in (row ∷ rows) lexeme = if bytes_eq lexeme row.0 then Some row.1 else token_in rows lexeme

-- the first of two, or the second, or a third
abbrev pub token_or : Option Token → Option Token → Token → Token
token_or (Some token) _ _ = token
token_or None (Some token) _ = token
token_or None None token = token

-- the token that is token_in so
unfoldable pub token_of : List ℕ → Token
token_of lexeme =
    token_or (token_in operators lexeme) (token_in reserved lexeme) (number_or_word (number_in lexeme) (name_of lexeme))

-- the tokens of a text, in its order
unfoldable pub tokens_of : List ℕ → List Token
tokens_of text = map token_of (lexemes_behind 0 text)
