-- What a text's tokens may be, and that they take no more bytes than the text.
use Rattle.std.proofs.Common.{◌≡◌, ℕ, zero, suc, ◌+◌, ◌^◌, ◌<◌, ◌≤◌, ℤ, pos, Bool, true, false, ◌&&◌, cond, Option, Some, None, List, [], ◌∷◌, ◌++◌, map, length, nat_lt, nat_le, refl, ap, ◌∙◌, subst, arith, rules}
use Rattle.std.specs.Prelude.{negsuc}
use Rattle.std.proofs.lemmas.Grind.{common_steps}
use Rattle.std.proofs.lemmas.Slice.Eq.{bytes_eq-Decides}
use Rattle.std.proofs.lemmas.Fmt.{length-decimal-le}
use Rattle.std.proofs.lemmas.Int.Digits.{digits_value-lt}
use Rattle.std.specs.List.{list_all}
use Rattle.std.specs.Char.{is_ascii_digit}
use Rattle.std.specs.Str.{bytes_eq}
use Rattle.std.specs.Str.Parse.{digits_value}
use Rattle.std.specs.Fmt.{decimal}
use Rattle.rcp_base.specs.Name.{is_name, name_of}
use Rattle.task_lang.specs.declared.token.Token.{Token}
use Rattle.task_lang.specs.declared.token.Token.TheVariants as token
use Rattle.task_lang.specs.Tokens.{is_blank, tail_of, lexemes_behind, number_in, number_or_word, operators, reserved, token_in, token_or, token_of, tokens_of}
use Rattle.task_lang.proofs.TokenLemmas.{tail_of-within}
use Rattle.task_lang.proofs.LexemeLemmas.{digits_are_numerals}

-- how many bytes the shortest text of a token has
abbrev pub size_of : Token → ℕ
size_of (token.Number (pos n)) = length (decimal n)
size_of (token.Number (negsuc n)) = 0
size_of (token.Word name) = length name
size_of token.Let = 3
size_of token.And = 3
size_of token.Or = 2
size_of token.Not = 3
size_of token.Abs = 3
size_of token.Min = 3
size_of token.Max = 3
size_of token.Clamp = 5
size_of token.If = 2
size_of token.Assign = 2
size_of token.EqualEqual = 2
size_of token.NotEqual = 2
size_of token.LessEqual = 2
size_of token.GreaterEqual = 2
size_of token.Bad = 0
size_of _ = 1

abbrev pub sizes_of : List Token → ℕ
sizes_of [] = 0
sizes_of (first ∷ others) = size_of first + sizes_of others

pub sizes_of-append : (some others : List Token) → sizes_of (some ++ others) ≡ sizes_of some + sizes_of others
sizes_of-append [] others = omega arith
sizes_of-append (first ∷ some) others = omega (arith, sizes_of-append some others)

-- numbers and words are as a text can have them
abbrev pub IsFine : Token → Type 0
IsFine (token.Number (pos n)) = n < 2 ^ 63
IsFine (token.Number (negsuc n)) = ⊥
IsFine (token.Word name) = (is_name name ≡ true) × (token_of name ≡ token.Word name)
IsFine _ = Unit {0}

abbrev pub AllFine : List Token → Type 0
AllFine [] = Unit {0}
AllFine (first ∷ others) = IsFine first × AllFine others

pub fine_front : (some others : List Token) → AllFine (some ++ others) → AllFine some
fine_front [] others fine = tt
fine_front (first ∷ some) others fine = (fine.0, fine_front some others fine.1)

pub fine_back : (some others : List Token) → AllFine (some ++ others) → AllFine others
fine_back [] others fine = fine
fine_back (first ∷ some) others fine = fine_back some others fine.1

-- a token that a text of so many bytes can have
abbrev IsHeld : ℕ → Token → Type 0
IsHeld size t = IsFine t × (size_of t ≤ size)

-- neither a number nor a word
abbrev is_sign : Token → Bool
is_sign (token.Number n) = false
is_sign (token.Word name) = false
is_sign _ = true

sign_fine : (t : Token) → is_sign t ≡ true → IsFine t
sign_fine (token.Number n) sign = absurd (search rules)
sign_fine (token.Word name) sign = absurd (search rules)
sign_fine _ sign = tt

-- each text of a table is as long as its sign
abbrev are_signs : List (List ℕ × Token) → Bool
are_signs table = list_all (λ (row : List ℕ × Token). is_sign row.1 && nat_le (size_of row.1) (length row.0)) table

sign_held : (table : List (List ℕ × Token)) (lexeme : List ℕ) (t : Token) → are_signs table ≡ true → token_in table lexeme ≡ Some t → IsHeld (length lexeme) t
sign_held [] lexeme t signs is = cc
sign_held (row ∷ rows) lexeme t signs is = by_case (bytes_eq lexeme row.0) refl (λ found. sign_held rows lexeme t others found) is
  where
    others : are_signs rows ≡ true
    others = grind arith

    sign : is_sign row.1 ≡ true
    sign = grind arith

    short : size_of row.1 ≤ length row.0
    short = grind (arith, common_steps)

    by_case : (same : Bool) → bytes_eq lexeme row.0 ≡ same → (token_in rows lexeme ≡ Some t → IsHeld (length lexeme) t) → cond same (Some row.1) (token_in rows lexeme) ≡ Some t → IsHeld (length lexeme) t
    by_case true e behind found =
        let equal : lexeme ≡ row.0 = (bytes_eq-Decides lexeme row.0).0 e in
        let this : row.1 ≡ t = cc in
        subst (IsHeld (length lexeme)) this (sign_fine row.1 sign, omega (arith, short, ap length equal))
    by_case false e behind found = behind found

-- digits are no shorter than the number that they write
digits_held : (lexeme : List ℕ) → 0 < length lexeme → list_all is_ascii_digit lexeme ≡ true → digits_value 10 lexeme < 2 ^ 63 → length (decimal (digits_value 10 lexeme)) ≤ length lexeme
digits_held lexeme some digits small =
    length-decimal-le (length lexeme) (digits_value 10 lexeme) some (digits_value-lt 10 lexeme (digits_are_numerals.to lexeme digits)) (omega arith)

number_held : (lexeme : List ℕ) (n : ℤ) → number_in lexeme ≡ Some n → IsHeld (length lexeme) (token.Number n)
number_held lexeme n is = by_case (nat_lt 0 (length lexeme)) refl (list_all is_ascii_digit lexeme) refl (nat_lt (digits_value 10 lexeme) (2 ^ 63)) refl is
  where
    by_case : (a : Bool) → nat_lt 0 (length lexeme) ≡ a → (b : Bool) → list_all is_ascii_digit lexeme ≡ b → (c : Bool) → nat_lt (digits_value 10 lexeme) (2 ^ 63) ≡ c
        → cond (a && b && c) (Some (pos (digits_value 10 lexeme))) None ≡ Some n → IsHeld (length lexeme) (token.Number n)
    by_case true some true digits true small found =
        let longer : 0 < length lexeme = grind (arith, common_steps) in
        let below : digits_value 10 lexeme < 2 ^ 63 = grind (arith, common_steps) in
        let this : pos (digits_value 10 lexeme) ≡ n = cc in
        subst (λ n. IsHeld (length lexeme) (token.Number n)) this (below, digits_held lexeme longer digits below)
    by_case false some b digits c small found = cc
    by_case true some false digits c small found = cc
    by_case true some true digits false small found = cc

word_is : (lexeme : List ℕ) → token_in operators lexeme ≡ None → token_in reserved lexeme ≡ None → number_in lexeme ≡ None → is_name lexeme ≡ true
    → token_of lexeme ≡ token.Word lexeme
unfolding token_of
word_is lexeme no_operator no_word no_number named =
    ap (λ found. token_or found (token_in reserved lexeme) (number_or_word (number_in lexeme) (name_of lexeme))) no_operator
    ∙ (ap (λ found. token_or None found (number_or_word (number_in lexeme) (name_of lexeme))) no_word
    ∙ (ap (λ found. number_or_word found (name_of lexeme)) no_number ∙ ap (λ test. number_or_word None (cond test (Some lexeme) None)) named))

token_held : (lexeme : List ℕ) → IsHeld (length lexeme) (token_of lexeme)
unfolding token_of
token_held lexeme = by_table (token_in operators lexeme) refl (token_in reserved lexeme) refl
  where
    by_name : token_in operators lexeme ≡ None → token_in reserved lexeme ≡ None → number_in lexeme ≡ None → (test : Bool) → is_name lexeme ≡ test
        → IsHeld (length lexeme) (number_or_word None (cond test (Some lexeme) None))
    by_name no_operator no_word no_number true named = ((named, word_is lexeme no_operator no_word no_number named), omega arith)
    by_name no_operator no_word no_number false named = (tt, omega arith)

    by_number : token_in operators lexeme ≡ None → token_in reserved lexeme ≡ None → (found : Option ℤ) → number_in lexeme ≡ found
        → IsHeld (length lexeme) (number_or_word found (name_of lexeme))
    by_number no_operator no_word None no_number = by_name no_operator no_word no_number (is_name lexeme) refl
    by_number no_operator no_word (Some n) is = number_held lexeme n is

    by_table : (operator : Option Token) → token_in operators lexeme ≡ operator → (word : Option Token) → token_in reserved lexeme ≡ word
        → IsHeld (length lexeme) (token_or operator word (number_or_word (number_in lexeme) (name_of lexeme)))
    by_table (Some t) is word also = sign_held operators lexeme t refl is
    by_table None no_operator (Some t) is = sign_held reserved lexeme t refl is
    by_table None no_operator None no_word = by_number no_operator no_word (number_in lexeme) refl

-- so are the tokens of a text
abbrev AreHeld : ℕ → List ℕ → List (List ℕ) → Type 0
AreHeld n text lexemes = AllFine (map token_of lexemes) × (sizes_of (map token_of lexemes) + n ≤ length text)

tokens_held : (n : ℕ) (text : List ℕ) → n ≤ length text → AreHeld n text (lexemes_behind n text)
tokens_held n [] within = (tt, omega arith)
tokens_held (suc n) (b ∷ rest) within =
    let others : AreHeld n rest (lexemes_behind n rest) = tokens_held n rest (omega arith) in
    (others.0, omega (arith, others.1))
tokens_held zero (b ∷ rest) within = by_case (is_blank b) (tokens_held 0 rest (omega arith)) (tokens_held (length (tail_of b rest)) rest (tail_of-within b rest))
  where
    by_case : (blank : Bool) → AreHeld 0 rest (lexemes_behind 0 rest) → AreHeld (length (tail_of b rest)) rest (lexemes_behind (length (tail_of b rest)) rest)
        → AreHeld 0 (b ∷ rest) (cond blank (lexemes_behind 0 rest) ((b ∷ tail_of b rest) ∷ lexemes_behind (length (tail_of b rest)) rest))
    by_case true others behind = (others.0, omega (arith, others.1))
    by_case false others behind =
        let first : IsHeld (length (b ∷ tail_of b rest)) (token_of (b ∷ tail_of b rest)) = token_held (b ∷ tail_of b rest) in
        ((first.0, behind.0), omega (arith, first.1, behind.1))

pub tokens_are_fine : (text : List ℕ) → AllFine (tokens_of text)
unfolding tokens_of
tokens_are_fine text = (tokens_held 0 text (omega arith)).0

pub tokens_are_short : (text : List ℕ) → sizes_of (tokens_of text) ≤ length text
unfolding tokens_of
tokens_are_short text = omega (arith, (tokens_held 0 text (omega arith)).1)
