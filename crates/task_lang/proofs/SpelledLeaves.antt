-- Names and numbers that are printed have their own tokens.
use Rattle.std.proofs.Common.{◌≡◌, ℕ, ◌^◌, ◌<◌, pos, Bool, true, false, not, ◌&&◌, cond, Some, None, List, [], ◌∷◌, ◌++◌, length, take, drop, codes, nat_eq, refl, sym, ap, ◌∙◌, arith}
use Rattle.std.proofs.lemmas.Grind.{common_steps}
use Rattle.std.proofs.Math.Seq.{drop-append_seam}
use Rattle.std.proofs.lemmas.List.Sums.{take_while-cons}
use Rattle.std.proofs.lemmas.Slice.Eq.{bytes_eq-Decides}
use Rattle.std.proofs.lemmas.Fmt.{digits_decimal, digits_value-decimal, decimal_nonempty}
use Rattle.std.specs.Prelude.{take_while}
use Rattle.std.specs.List.{list_all, starts_with}
use Rattle.std.specs.Char.{is_ascii_lowercase, is_ascii_digit}
use Rattle.std.specs.Str.{bytes_eq}
use Rattle.std.specs.Str.Parse.{digits_value}
use Rattle.std.specs.Fmt.{decimal}
use Rattle.rcp_base.specs.Name.{is_name_byte, is_word, is_name, name_of}
use Rattle.task_lang.specs.declared.token.Token.{Token}
use Rattle.task_lang.specs.declared.token.Token.TheVariants as token
use Rattle.task_lang.specs.Tokens.{is_blank, goes_with_equal, tail_of, number_in, number_or_word, operators, reserved, token_in, token_or, token_of, tokens_of}
use Rattle.task_lang.proofs.TokenLemmas.{tokens_of-token}
use Rattle.task_lang.proofs.LexemeLemmas.{digits_are_numerals}
use Rattle.task_lang.proofs.Spelling.{Ends, Spells}

-- a rest does not begin with such a byte
abbrev StopsAt : (ℕ → Bool) → List ℕ → Type 0
StopsAt p [] = Unit {0}
StopsAt p (b ∷ rest) = p b ≡ false

front_taken : (p : ℕ → Bool) (front rest : List ℕ) → list_all p front ≡ true → StopsAt p rest → take_while p (front ++ rest) ≡ front
front_taken p [] [] all stops = refl
front_taken p [] (b ∷ rest) all stops = take_while-cons p b rest ∙ ap (λ test. cond test (b ∷ take_while p rest) []) stops
front_taken p (b ∷ front) rest all stops =
    let here : p b ≡ true = grind arith in
    let others : list_all p front ≡ true = grind arith in
    take_while-cons p b (front ++ rest)
    ∙ (ap (λ test. cond test (b ∷ take_while p (front ++ rest)) []) here ∙ ap (λ bytes. b ∷ bytes) (front_taken p front rest others stops))

-- a text whose first byte takes the others behind it is one token
lexeme_spelled : (b : ℕ) (bytes rest : List ℕ) (t : Token) → is_blank b ≡ false → tail_of b (bytes ++ rest) ≡ bytes → token_of (b ∷ bytes) ≡ t
    → tokens_of ((b ∷ bytes) ++ rest) ≡ t ∷ tokens_of rest
lexeme_spelled b bytes rest t dark tail is =
    tokens_of-token b (bytes ++ rest) dark
    ∙ (ap (λ behind. token_of (b ∷ behind) ∷ tokens_of (drop (length behind) (bytes ++ rest))) tail
    ∙ (ap (λ left. token_of (b ∷ bytes) ∷ tokens_of left) (drop-append_seam bytes rest) ∙ ap (λ first. first ∷ tokens_of rest) is))

-- names
letter_dark : (b : ℕ) → is_ascii_lowercase b ≡ true → is_blank b ≡ false
letter_dark b letter = grind (arith, common_steps)

letter_tail : (b : ℕ) (behind : List ℕ) → is_ascii_lowercase b ≡ true → tail_of b behind ≡ take_while is_name_byte behind
letter_tail b behind letter =
    ap (λ test. cond test (take_while is_name_byte behind) (cond (is_ascii_digit b) (take_while is_ascii_digit behind)
    (cond (goes_with_equal b && starts_with nat_eq behind (codes "=")) (take 1 behind) []))) letter

name_stops : (rest : List ℕ) → Ends rest → StopsAt is_name_byte rest
name_stops [] ends = tt
name_stops (b ∷ rest) ends = ends

pub name_is_word : (name : List ℕ) → is_name name ≡ true → is_word name ≡ true
unfolding is_name
name_is_word name is = grind arith

pub name_spelled : (name : List ℕ) → is_name name ≡ true → token_of name ≡ token.Word name → Spells name (token.Word name ∷ [])
name_spelled [] named is rest ends = absurd (nothing (name_is_word [] named))
  where
    nothing : false ≡ true → ⊥
    nothing h = cc
name_spelled (b ∷ bytes) named is rest ends =
    let word : is_word (b ∷ bytes) ≡ true = name_is_word (b ∷ bytes) named in
    let letter : is_ascii_lowercase b ≡ true = grind arith in
    let others : list_all is_name_byte bytes ≡ true = grind arith in
    lexeme_spelled b bytes rest (token.Word (b ∷ bytes)) (letter_dark b letter)
    (letter_tail b (bytes ++ rest) letter ∙ front_taken is_name_byte bytes rest others (name_stops rest ends)) is

-- numbers
digit_dark : (b : ℕ) → is_ascii_digit b ≡ true → is_blank b ≡ false
digit_dark b digit = grind (arith, common_steps)

digit_no_letter : (b : ℕ) → is_ascii_digit b ≡ true → is_ascii_lowercase b ≡ false
digit_no_letter b digit = grind (arith, common_steps)

digit_tail : (b : ℕ) (behind : List ℕ) → is_ascii_digit b ≡ true → tail_of b behind ≡ take_while is_ascii_digit behind
digit_tail b behind digit =
    ap (λ test. cond test (take_while is_name_byte behind) (cond (is_ascii_digit b) (take_while is_ascii_digit behind)
    (cond (goes_with_equal b && starts_with nat_eq behind (codes "=")) (take 1 behind) []))) (digit_no_letter b digit)
    ∙ ap (λ test. cond test (take_while is_ascii_digit behind)
    (cond (goes_with_equal b && starts_with nat_eq behind (codes "=")) (take 1 behind) [])) digit

no_name_byte_no_digit : (b : ℕ) → is_name_byte b ≡ false → is_ascii_digit b ≡ false
no_name_byte_no_digit b no_byte = grind (arith, common_steps)

digit_stops : (rest : List ℕ) → Ends rest → StopsAt is_ascii_digit rest
digit_stops [] ends = tt
digit_stops (b ∷ rest) ends = no_name_byte_no_digit b ends

-- the first byte is no digit
abbrev no_digit : List ℕ → Bool
no_digit [] = true
no_digit (b ∷ bytes) = not (is_ascii_digit b)

unlike_digits : (b : ℕ) (bytes literal : List ℕ) → is_ascii_digit b ≡ true → no_digit literal ≡ true → bytes_eq (b ∷ bytes) literal ≡ false
unlike_digits b bytes literal digit literal_is = by_case (bytes_eq (b ∷ bytes) literal) refl
  where
    by_case : (same : Bool) → bytes_eq (b ∷ bytes) literal ≡ same → same ≡ false
    by_case false e = refl
    by_case true e =
        let equal : no_digit (b ∷ bytes) ≡ no_digit literal = ap no_digit ((bytes_eq-Decides (b ∷ bytes) literal).0 e) in
        let no : not (is_ascii_digit b) ≡ true = equal ∙ literal_is in
        let impossible : false ≡ true = sym (ap not digit) ∙ no in
        cc

-- no text of such a table begins with a digit
abbrev no_digits : List (List ℕ × Token) → Bool
no_digits table = list_all (λ (row : List ℕ × Token). no_digit row.0) table

digits_unwritten : (table : List (List ℕ × Token)) (b : ℕ) (bytes : List ℕ) → is_ascii_digit b ≡ true → no_digits table ≡ true → token_in table (b ∷ bytes) ≡ None
digits_unwritten [] b bytes digit all = refl
digits_unwritten (row ∷ rows) b bytes digit all =
    let here : no_digit row.0 ≡ true = grind arith in
    let others : no_digits rows ≡ true = grind arith in
    ap (λ same. cond same (Some row.1) (token_in rows (b ∷ bytes))) (unlike_digits b bytes row.0 digit here) ∙ digits_unwritten rows b bytes digit others

number_token : (b : ℕ) (bytes : List ℕ) (n : ℕ) → is_ascii_digit b ≡ true → number_in (b ∷ bytes) ≡ Some (pos n) → token_of (b ∷ bytes) ≡ token.Number (pos n)
unfolding token_of
number_token b bytes n digit is =
    ap (λ found. token_or found (token_in reserved (b ∷ bytes)) (number_or_word (number_in (b ∷ bytes)) (name_of (b ∷ bytes)))) (digits_unwritten operators b bytes digit refl)
    ∙ (ap (λ found. token_or None found (number_or_word (number_in (b ∷ bytes)) (name_of (b ∷ bytes)))) (digits_unwritten reserved b bytes digit refl)
    ∙ ap (λ found. number_or_word found (name_of (b ∷ bytes))) is)

number_read : (text : List ℕ) (n : ℕ) → 0 < length text → list_all is_ascii_digit text ≡ true → digits_value 10 text ≡ n → n < 2 ^ 63 → number_in text ≡ Some (pos n)
number_read text n some digits value small = grind (arith, common_steps)

digits_spelled : (text : List ℕ) (n : ℕ) → 0 < length text → list_all is_ascii_digit text ≡ true → digits_value 10 text ≡ n → n < 2 ^ 63 → Spells text (token.Number (pos n) ∷ [])
digits_spelled [] n some digits value small rest ends = absurd (omega arith)
digits_spelled (b ∷ bytes) n some digits value small rest ends =
    let digit : is_ascii_digit b ≡ true = grind arith in
    let others : list_all is_ascii_digit bytes ≡ true = grind arith in
    lexeme_spelled b bytes rest (token.Number (pos n)) (digit_dark b digit)
    (digit_tail b (bytes ++ rest) digit ∙ front_taken is_ascii_digit bytes rest others (digit_stops rest ends))
    (number_token b bytes n digit (number_read (b ∷ bytes) n some digits value small))

pub number_spelled : (n : ℕ) → n < 2 ^ 63 → Spells (decimal n) (token.Number (pos n) ∷ [])
number_spelled n small =
    let below : n < 2 ^ 64 = omega arith in
    digits_spelled (decimal n) n (decimal_nonempty n below) (digits_decimal digits_are_numerals n below) (digits_value-decimal digits_are_numerals n below) small
