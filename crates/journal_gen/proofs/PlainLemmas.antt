-- Texts that a CSV file holds as they are, since no byte of them is a comma, a quote or a line's end.
use Rattle.std.proofs.Common.{◌≡◌, ℕ, ◌+◌, ◌<◌, ◌≤◌, ◌^◌, List, [], ◌∷◌, ◌++◌, length, Bool, true, false, nat_le, ◌&&◌, ℤ, pos, negsuc, flat_map, refl, sym, ap, ◌∙◌, append_assoc, suc, arith}
use Rattle.std.proofs.lemmas.Bool.{and_parts, le-leb, leb-true, ne_eqb}
use Rattle.std.proofs.lemmas.Bool.Decides.{nat_tests}
use Rattle.std.specs.Char.{is_ascii_digit, is_ascii_lowercase}
use Rattle.std.specs.Fmt.{decimal, signed_decimal}
use Rattle.std.specs.List.{list_all, list_any}
use Rattle.std.specs.Prelude.{codes, not}
use Rattle.csv.specs.Writing.{default_writer, field_text, fields_text, is_blank, needs_byte}
use Rattle.csv.specs.Writing as csv
use Rattle.rcp_base.specs.Name.{is_name, is_name_byte, is_reserved, is_word}
use Rattle.journal_gen.proofs.Each.{Each}
use Rattle.journal_gen.proofs.NumberLemmas.{are_digits}
use lib.Signed.{mag}

-- each byte comes after the comma, the quote and the line's end
abbrev pub IsPlain : List ℕ → Type 0
IsPlain text = list_all (nat_le 45) text ≡ true

needs_no_quote : (b : ℕ) → nat_le 45 b ≡ true → needs_byte default_writer b ≡ false
needs_no_quote b high =
    let least = leb-true 45 b high in
    let comma = ne_eqb b 44 (λ same. omega (arith, least, same)) in
    let quote = ne_eqb b 34 (λ same. omega (arith, least, same)) in
    let return = ne_eqb b 13 (λ same. omega (arith, least, same)) in
    let feed = ne_eqb b 10 (λ same. omega (arith, least, same)) in
    rw (comma, quote, return, feed) refl

needs_no_quotes : (text : List ℕ) → IsPlain text → list_any (needs_byte default_writer) text ≡ false
needs_no_quotes [] plain = refl
needs_no_quotes (b ∷ bs) plain =
    let parts = and_parts (nat_le 45 b) (list_all (nat_le 45) bs) plain in
    rw (needs_no_quote b parts.0, needs_no_quotes bs parts.1) refl

field_plain : (text : List ℕ) → IsPlain text → field_text default_writer text ≡ text
field_plain text plain = rw (needs_no_quotes text plain) refl

fields_plain : (texts : List (List ℕ)) → Each IsPlain texts → fields_text default_writer texts ≡ flat_map (λ text. 44 ∷ text) texts
unfolding fields_text
fields_plain [] plain = refl
fields_plain (text ∷ texts) plain = rw (field_plain text plain.0, fields_plain texts plain.1) refl

-- texts with commas between and a line feed after the last are the record that a CSV writer writes
pub line_is_record : (frame word : List ℕ) (columns : List (List ℕ)) → IsPlain frame → IsPlain word → Each IsPlain columns
    → frame ++ codes "," ++ word ++ flat_map (λ text. 44 ∷ text) columns ++ codes "\n" ≡ csv.row_text default_writer (frame ∷ word ∷ columns)
unfolding is_blank
line_is_record frame word columns first second rest =
    let all = flat_map (λ (text : List ℕ). 44 ∷ text) columns in
    let end : List ℕ = 10 ∷ [] in
    rw (field_plain frame first, fields_plain (word ∷ columns) (second, rest))
    (append_assoc (frame ++ (44 ∷ []) ++ word) all end
    ∙ append_assoc (frame ++ (44 ∷ [])) word (all ++ end)
    ∙ append_assoc frame (44 ∷ []) (word ++ (all ++ end))
    ∙ ap (λ text. frame ++ (44 ∷ text)) (sym (append_assoc word all end))
    ∙ sym (append_assoc frame (44 ∷ (word ++ all)) end))

-- what is plain byte by byte
plain_by : (test : ℕ → Bool) → ((b : ℕ) → test b ≡ true → 45 ≤ b) → (text : List ℕ) → list_all test text ≡ true → IsPlain text
plain_by test high [] passes = refl
plain_by test high (b ∷ bs) passes =
    let parts = and_parts (test b) (list_all test bs) passes in
    rw (le-leb 45 b (high b parts.0), plain_by test high bs parts.1) refl

digit_high : (b : ℕ) → is_ascii_digit b ≡ true → 45 ≤ b
digit_high b is = omega (arith, leb-true 48 b (and_parts (nat_le 48 b) (nat_le b 57) is).0)

letter_high : (b : ℕ) → is_ascii_lowercase b ≡ true → 45 ≤ b
letter_high b is = omega (arith, leb-true 97 b (and_parts (nat_le 97 b) (nat_le b 122) is).0)

name_byte_high : (b : ℕ) → is_name_byte b ≡ true → 45 ≤ b
name_byte_high b is = grind (arith, nat_tests)

pub decimal_plain : (n : ℕ) → n < 2 ^ 63 → IsPlain (decimal n)
decimal_plain n small = plain_by is_ascii_digit digit_high (decimal n) (are_digits n small)

pub signed_plain : (z : ℤ) → mag z + 1 < 2 ^ 63 → IsPlain (signed_decimal z)
signed_plain (pos n) small = decimal_plain n (omega (arith, small))
signed_plain (negsuc n) small = decimal_plain (suc n) (omega (arith, small))

word_plain : (text : List ℕ) → is_word text ≡ true → IsPlain text
word_plain [] is = cc
word_plain (b ∷ bs) is =
    let parts = and_parts (is_ascii_lowercase b) (list_all is_name_byte bs) is in
    rw (le-leb 45 b (letter_high b parts.0), plain_by is_name_byte name_byte_high bs parts.1) refl

-- a word, and a short one
name_parts : (text : List ℕ) → is_name text ≡ true → (is_word text ≡ true) × (nat_le (length text) 32 ≡ true)
unfolding is_name
name_parts text is =
    and_parts (is_word text) (nat_le (length text) 32)
    (and_parts (is_word text && nat_le (length text) 32) (not (is_reserved text)) is).0

pub name_plain : (text : List ℕ) → is_name text ≡ true → IsPlain text
name_plain text is = word_plain text (name_parts text is).0

pub name_short : (text : List ℕ) → is_name text ≡ true → length text ≤ 32
name_short text is = leb-true (length text) 32 (name_parts text is).1
