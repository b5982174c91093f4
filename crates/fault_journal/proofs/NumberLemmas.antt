-- The texts of numbers and what they are worth.
use Rattle.std.proofs.Common.{◌≡◌, ◌≢◌, ◌&&◌, ℕ, ◌==◌, List, [], ◌∷◌, length, Bool, true, false, nat_le, ℤ, pos, negsuc, FitsSigned, Some, None, Result, Ok, Err, refl, subst, suc, zero, neg_ℤ, inl, inr, rules, arith, slice_index}
use Rattle.std.proofs.lemmas.Bool.{and_parts, eqb-true, le-leb, leb-true, ne_eqb}
use Rattle.std.proofs.lemmas.Bool.Decides.{eqb_tells}
use Rattle.std.proofs.lemmas.Fmt.{IsAscii-from_digits}
use Rattle.std.proofs.lemmas.Str.{IsUtf8-from_ascii}
use Rattle.std.proofs.lemmas.Str.Parse.{IsNumeralModel, numerals_by_value}
use Rattle.std.specs.Bool.{if◌then◌else◌}
use Rattle.std.specs.Char.{is_ascii_digit}
use Rattle.std.specs.List.{list_all}
use Rattle.std.specs.Result.{result_ok, OkIff}
use Rattle.std.specs.Str.{IsAscii, IsUtf8}
use Rattle.std.specs.Str.Parse.{AllDigits, IsNumeral, digits_value, starts_with_minus, without_leading_sign, ParsesSigned}
use Rattle.fault_journal.specs.Number.{digits_in, is_number, worth, fits_in_64_bits, integer_of}
use mir.Syntax.{w64}

numerals : IsNumeralModel (λ digits. list_all is_ascii_digit digits ≡ true) (digits_value 10)
numerals = numerals_by_value _ (search rules)

-- a number has a digit or more
numeral_in : (text : List ℕ) → is_number text ≡ true → IsNumeral 10 (digits_in text)
numeral_in text is =
    let parts = and_parts (nat_le 1 (length (digits_in text))) (list_all is_ascii_digit (digits_in text)) is in
    (leb-true 1 (length (digits_in text)) parts.0, numerals.to (digits_in text) parts.1)

ascii_after_minus : (digits : List ℕ) → IsAscii digits → IsAscii (45 ∷ digits)
ascii_after_minus digits are zero = omega arith
ascii_after_minus digits are (suc i) = are i

number_is_ascii : (text : List ℕ) → AllDigits 10 (digits_in text) → IsAscii text
number_is_ascii [] digits = IsAscii-from_digits [] digits
number_is_ascii (b ∷ bs) digits =
    elim (eqb_tells b 45) [
      | inl minus ↦ rw minus.1 (ascii_after_minus bs (IsAscii-from_digits bs (rw minus.0 at digits)))
      | inr other ↦ IsAscii-from_digits (b ∷ bs) (rw other.0 at digits)
    ]

-- a number is text
pub number_is_text : (text : List ℕ) → is_number text ≡ true → IsUtf8 text
number_is_text text is = IsUtf8-from_ascii text (number_is_ascii text (numeral_in text is).1)

without_sign : (text : List ℕ) → slice_index text 0 ≢ 43 → without_leading_sign text ≡ digits_in text
without_sign [] other = refl
without_sign (b ∷ bs) other = rw (ne_eqb b 43 other) refl

fits_forth : (x : ℤ) → fits_in_64_bits x ≡ true → FitsSigned w64 x
fits_forth (pos n) fits = record { sfits = omega (arith, leb-true n 9_223_372_036_854_775_807 fits) }
fits_forth (negsuc n) fits = record { sfits = omega (arith, leb-true n 9_223_372_036_854_775_807 (and_parts _ true fits).0) }

fits_back : (x : ℤ) → FitsSigned w64 x → fits_in_64_bits x ≡ true
fits_back (pos n) fits = le-leb n 9_223_372_036_854_775_807 (omega arith)
fits_back (negsuc n) fits =
    let below : nat_le n 9_223_372_036_854_775_807 ≡ true = le-leb n 9_223_372_036_854_775_807 (omega arith) in
    rw below refl

given_where : {E : Type 0} (result : Result ℤ E) (P : Type 0) (test : Bool) (x : ℤ) → (test ≡ true → P) → (P → test ≡ true)
    → OkIff result P x → result_ok result ≡ (if test then Some x else None)
given_where (Ok y) P test x forth back gives = rw (back gives.0, gives.1) refl
given_where (Err e) P true x forth back gives = absurd (gives (forth refl))
given_where (Err e) P false x forth back gives = refl

-- a text with this sign is worth this
abbrev signed : Bool → List ℕ → ℤ
signed minus digits = if minus then neg_ℤ (pos (digits_value 10 digits)) else pos (digits_value 10 digits)

-- digits make a number
number_from : (text : List ℕ) → IsNumeral 10 (digits_in text) → is_number text ≡ true
number_from text is =
    rw (le-leb 1 (length (digits_in text)) is.0) (numerals.from (digits_in text) is.1)

-- what a parse of a text gives that no plus begins
pub parsed_is : {E : Type 0} (text : List ℕ) (result : Result ℤ E) → slice_index text 0 ≢ 43 → ParsesSigned w64 10 text result
    → result_ok result ≡ integer_of text
unfolding integer_of
parsed_is text result other parses =
    let Gives : List ℕ → Type 0 = λ digits.
    OkIff result (IsNumeral 10 digits × FitsSigned w64 (signed (starts_with_minus text) digits)) (signed (starts_with_minus text) digits)
    in
    given_where result _ (is_number text && fits_in_64_bits (worth text)) (worth text)
    (λ both. let parts = and_parts (is_number text) _ both in (numeral_in text parts.0, fits_forth (worth text) parts.1))
    (λ holds. rw (number_from text holds.0) (fits_back (worth text) holds.1))
    (subst Gives (without_sign text other) parses)

-- a text that is none writes no number
pub not_text : (text : List ℕ) → (IsUtf8 text → ⊥) → None ≡ integer_of text
unfolding integer_of
not_text text isnt = at (is_number text) refl
  where
    at : (number : Bool) → is_number text ≡ number → None ≡ (if number && fits_in_64_bits (worth text) then Some (worth text) else None)
    at true is = absurd (isnt (number_is_text text is))
    at false is = refl

-- nor one that a plus begins
pub no_number_after_a_plus : (text : List ℕ) → (slice_index text 0 == 43) ≡ true → None ≡ integer_of text
unfolding integer_of
no_number_after_a_plus [] plus = cc plus
no_number_after_a_plus (b ∷ bs) plus =
    let is : b ≡ 43 = eqb-true b 43 plus in
    rw (is, le-leb 1 (suc (length bs)) (omega arith)) refl
