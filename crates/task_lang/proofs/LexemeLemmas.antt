-- Which texts are numbers, and that a text that is not UTF-8 is no token.
use Rattle.std.proofs.Common.{◌≡◌, ℕ, ◌^◌, ◌<◌, ℤ, pos, Bool, true, false, List, [], ◌∷◌, length, Some, None, Result, Ok, Err, nat_lt, cond, refl, sym, ap, ◌∙◌, arith, rules, subst, IsUtf8}
use Rattle.std.proofs.lemmas.Grind.{common_steps}
use Rattle.std.specs.List.{list_all}
use Rattle.std.specs.Char.{is_ascii_lowercase, is_ascii_digit}
use Rattle.std.specs.Result.{OkIff, result_ok}
use Rattle.std.specs.Str.Parse.{digits_value, ParsesSigned}
use Rattle.std.proofs.lemmas.Str.Parse.{IsNumeralModel, numerals_by_value, parse_signed_digits}
use Rattle.std.specs.Int.{w64}
use Rattle.std.specs.Str.{bytes_eq, IsAscii}
use Rattle.std.proofs.lemmas.Str.{IsUtf8-from_ascii}
use Rattle.std.proofs.lemmas.Str.Ascii.{IsAscii-nil, IsAscii-cons}
use Rattle.std.proofs.lemmas.Slice.Eq.{bytes_eq-Decides}
use Rattle.std.proofs.lemmas.Bool.Decides.{nat_tests}
use Rattle.rcp_base.specs.Name.{is_name_byte, is_word, is_name, name_of}
use Rattle.task_lang.specs.declared.token.Token.{Token}
use Rattle.task_lang.specs.declared.token.Token.TheVariants.{Bad}
use Rattle.task_lang.specs.Tokens.{number_in, number_or_word, operators, reserved, token_in, token_or, token_of}

-- digits are the numerals that std reads
pub digits_are_numerals : IsNumeralModel (λ ds. list_all is_ascii_digit ds ≡ true) (digits_value 10)
digits_are_numerals = numerals_by_value _ (search rules)

-- what a reading of digits answers
read_by_cases : {E : Type 0} (text : List ℕ) (read : Result ℤ E) → list_all is_ascii_digit text ≡ true
    → OkIff read ((0 < length text) × (digits_value 10 text < 2 ^ 63)) (pos (digits_value 10 text)) → result_ok read ≡ number_in text
read_by_cases text (Ok n) digits is = grind (arith, common_steps)
read_by_cases text (Err fault) digits is = grind (arith, common_steps)

-- a text of digits is read as the number that it is
pub number_of_parsed : {E : Type 0} (text : List ℕ) (read : Result ℤ E) → list_all is_ascii_digit text ≡ true
    → ParsesSigned w64 10 text read → result_ok read ≡ number_in text
number_of_parsed text read digits is =
    read_by_cases text read digits (parse_signed_digits digits_are_numerals w64 text read is digits)

-- bytes that pass a test for ASCII are ASCII
ascii_by_test : (p : ℕ → Bool) → ((b : ℕ) → p b ≡ true → b < 128) → (bs : List ℕ) → list_all p bs ≡ true → IsAscii bs
ascii_by_test p below [] all = IsAscii-nil
ascii_by_test p below (b ∷ bs) all =
    let here : p b ≡ true = grind arith in
    let rest : list_all p bs ≡ true = grind arith in
    IsAscii-cons b bs (below b here) (ascii_by_test p below bs rest)

false_if_not : (b : Bool) → (b ≡ true → ⊥) → b ≡ false
false_if_not true h = absurd (h refl)
false_if_not false h = refl

digit_below : (b : ℕ) → is_ascii_digit b ≡ true → b < 128
digit_below b h = grind (arith, nat_tests)

letter_below : (b : ℕ) → is_ascii_lowercase b ≡ true → b < 128
letter_below b h = grind (arith, nat_tests)

name_byte_below : (b : ℕ) → is_name_byte b ≡ true → b < 128
name_byte_below b h = grind (arith, nat_tests)

word_ascii : (text : List ℕ) → is_word text ≡ true → IsAscii text
word_ascii [] h = IsAscii-nil
word_ascii (b ∷ bs) h =
    let first : is_ascii_lowercase b ≡ true = grind arith in
    let rest : list_all is_name_byte bs ≡ true = grind arith in
    IsAscii-cons b bs (letter_below b first) (ascii_by_test is_name_byte name_byte_below bs rest)

name_ascii : (text : List ℕ) → is_name text ≡ true → IsAscii text
unfolding is_name
name_ascii text h =
    let word : is_word text ≡ true = grind arith in
    word_ascii text word

-- a text that is not UTF-8 is not this literal
unlike : (lexeme literal : List ℕ) → ¬ (IsUtf8 lexeme) → IsAscii literal → bytes_eq lexeme literal ≡ false
unlike lexeme literal broken ascii = false_if_not (bytes_eq lexeme literal) (λ same.
    let P : List ℕ → Type 0 = IsUtf8 in
    broken (subst P (sym ((bytes_eq-Decides lexeme literal).0 same)) (IsUtf8-from_ascii literal ascii)))

-- the texts of a table are ASCII
abbrev is_ascii_table : List (List ℕ × Token) → Bool
is_ascii_table table = list_all (λ (row : List ℕ × Token). list_all (λ b. nat_lt b 128) row.0) table

nat_lt_below : (b : ℕ) → nat_lt b 128 ≡ true → b < 128
nat_lt_below b h = grind (arith, nat_tests)

-- no such table has a text that is not UTF-8
unwritten : (table : List (List ℕ × Token)) (lexeme : List ℕ) → ¬ (IsUtf8 lexeme) → is_ascii_table table ≡ true → token_in table lexeme ≡ None
unwritten [] lexeme broken ascii = refl
unwritten (row ∷ rows) lexeme broken ascii =
    let here : list_all (λ b. nat_lt b 128) row.0 ≡ true = grind arith in
    let rest : is_ascii_table rows ≡ true = grind arith in
    let other : bytes_eq lexeme row.0 ≡ false =
    unlike lexeme row.0 broken (ascii_by_test (λ b. nat_lt b 128) nat_lt_below row.0 here) in
    ap (λ same. cond same (Some row.1) (token_in rows lexeme)) other ∙ unwritten rows lexeme broken rest

-- a text that is not UTF-8 is no token
pub token_of_broken : (lexeme : List ℕ) → ¬ (IsUtf8 lexeme) → Bad ≡ token_of lexeme
unfolding token_of
token_of_broken lexeme broken =
    let digits : list_all is_ascii_digit lexeme ≡ false =
    false_if_not _ (λ h. broken (IsUtf8-from_ascii lexeme (ascii_by_test is_ascii_digit digit_below lexeme h))) in
    let name : is_name lexeme ≡ false = false_if_not _ (λ h. broken (IsUtf8-from_ascii lexeme (name_ascii lexeme h))) in
    let operator : token_in operators lexeme ≡ None = unwritten operators lexeme broken refl in
    let word : token_in reserved lexeme ≡ None = unwritten reserved lexeme broken refl in
    let neither : number_or_word (number_in lexeme) (name_of lexeme) ≡ Bad = grind (arith, common_steps) in
    sym (ap (λ found. token_or found (token_in reserved lexeme) (number_or_word (number_in lexeme) (name_of lexeme))) operator
    ∙ (ap (λ found. token_or None found (number_or_word (number_in lexeme) (name_of lexeme))) word ∙ neither))
