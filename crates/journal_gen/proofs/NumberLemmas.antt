-- Numbers as a journal writes them are read back.
use Rattle.std.proofs.Common.{◌≡◌, ℕ, ◌<◌, ◌^◌, List, [], ◌∷◌, length, true, false, nat_le, ℤ, pos, negsuc, Some, refl, suc, rules, arith}
use Rattle.std.proofs.lemmas.Bool.{and_parts, le-leb, leb-true, ne_eqb}
use Rattle.std.proofs.lemmas.Fmt.{decimal_nonempty, digits_decimal, digits_value-decimal}
use Rattle.std.proofs.lemmas.Str.Parse.{IsNumeralModel, numerals_by_value}
use Rattle.std.specs.Char.{is_ascii_digit}
use Rattle.std.specs.Fmt.{decimal, signed_decimal}
use Rattle.std.specs.List.{list_all}
use Rattle.std.specs.Str.Parse.{digits_value, starts_with_minus}
use Rattle.fault_journal.specs.Number.{integer_of}
use lib.Signed.{mag}

numerals : IsNumeralModel (λ digits. list_all is_ascii_digit digits ≡ true) (digits_value 10)
numerals = numerals_by_value _ (search rules)

pub are_digits : (n : ℕ) → n < 2 ^ 63 → list_all is_ascii_digit (decimal n) ≡ true
are_digits n small = digits_decimal numerals n (omega arith)

-- digits have no minus before them
no_minus : (digits : List ℕ) → list_all is_ascii_digit digits ≡ true → starts_with_minus digits ≡ false
no_minus [] are = refl
no_minus (b ∷ bs) are =
    let first = and_parts (is_ascii_digit b) (list_all is_ascii_digit bs) are in
    let least = leb-true 48 b (and_parts (nat_le 48 b) (nat_le b 57) first.0).0 in
    ne_eqb b 45 (λ same. omega (arith, least, same))

-- digits are read as what they are worth
digits_read : (text : List ℕ) (n : ℕ) → list_all is_ascii_digit text ≡ true → nat_le 1 (length text) ≡ true
    → digits_value 10 text ≡ n → n < 2 ^ 63 → integer_of text ≡ Some (pos n)
unfolding integer_of
digits_read text n digits some value small =
    let fits = le-leb n 9_223_372_036_854_775_807 (omega (arith, small)) in
    rw (no_minus text digits, some, digits, value, fits) refl

-- and so with a minus before them
minus_read : (digits : List ℕ) (n : ℕ) → list_all is_ascii_digit digits ≡ true → nat_le 1 (length digits) ≡ true
    → digits_value 10 digits ≡ suc n → n < 2 ^ 63 → integer_of (45 ∷ digits) ≡ Some (negsuc n)
unfolding integer_of
minus_read digits n are some value small =
    let fits = le-leb n 9_223_372_036_854_775_807 (omega (arith, small)) in
    rw (some, are, value, fits) refl

has_digit : (n : ℕ) → n < 2 ^ 64 → nat_le 1 (length (decimal n)) ≡ true
has_digit n small = le-leb 1 (length (decimal n)) (omega (arith, decimal_nonempty n small))

pub natural_read : (n : ℕ) → n < 2 ^ 63 → integer_of (decimal n) ≡ Some (pos n)
natural_read n small =
    let below : n < 2 ^ 64 = omega (arith, small) in
    digits_read (decimal n) n (digits_decimal numerals n below) (has_digit n below) (digits_value-decimal numerals n below) small

pub integer_read : (z : ℤ) → mag z < 2 ^ 63 → integer_of (signed_decimal z) ≡ Some z
integer_read (pos n) small = natural_read n small
integer_read (negsuc n) small =
    let below : suc n < 2 ^ 64 = omega (arith, small) in
    minus_read (decimal (suc n)) n (digits_decimal numerals (suc n) below) (has_digit (suc n) below) (digits_value-decimal numerals (suc n) below) (omega (arith, small))
