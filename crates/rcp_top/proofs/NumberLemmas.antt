-- What digits are worth is what a parse of them gives.
use Rattle.std.proofs.Common.{◌≡◌, ◌<◌, ◌^◌, ℕ, List, length, Bool, true, false, nat_le, nat_lt, Some, None, Result, Ok, Err, refl, rules}
use Rattle.std.proofs.lemmas.Bool.{and_parts, leb-true}
use Rattle.std.proofs.lemmas.Str.Parse.{IsNumeralModel, numerals_by_value, parse_digits}
use Rattle.std.specs.Bool.{if◌then◌else◌}
use Rattle.std.specs.Char.{is_ascii_digit}
use Rattle.std.specs.List.{list_all}
use Rattle.std.specs.Result.{result_ok, OkIff}
use Rattle.std.specs.Str.Parse.{ParsesUnsigned, digits_value}
use Rattle.rcp_top.specs.Number.{is_worth_64_bits, worth}

numerals : IsNumeralModel (λ digits. list_all is_ascii_digit digits ≡ true) (digits_value 10)
numerals = numerals_by_value _ (search rules)

given_where : {E : Type 0} (result : Result ℕ E) (P : Type 0) (test : Bool) (x : ℕ) → (test ≡ true → P) → (P → test ≡ true)
    → OkIff result P x → result_ok result ≡ (if test then Some x else None)
given_where (Ok y) P test x forth back gives = rw (back gives.0, gives.1) refl
given_where (Err e) P true x forth back gives = absurd (gives (forth refl))
given_where (Err e) P false x forth back gives = refl

fits_forth : (digits : List ℕ) → is_worth_64_bits digits ≡ true → (0 < length digits) × (worth digits < 2 ^ 64)
fits_forth digits fits =
    let parts = and_parts (nat_le 1 (length digits)) (nat_lt (worth digits) (2 ^ 64)) fits in
    (leb-true 1 (length digits) parts.0, search rules)

fits_back : (digits : List ℕ) → (0 < length digits) × (worth digits < 2 ^ 64) → is_worth_64_bits digits ≡ true
fits_back digits fits = search rules

pub worth_is_parsed : {E : Type 0} (digits : List ℕ) (result : Result ℕ E) → list_all is_ascii_digit digits ≡ true → ParsesUnsigned 64 10 digits result
    → result_ok result ≡ (if is_worth_64_bits digits then Some (worth digits) else None)
worth_is_parsed digits result are parses =
    given_where result _ (is_worth_64_bits digits) (worth digits) (fits_forth digits) (fits_back digits) (parse_digits numerals 64 digits result parses are)
