-- A number's digits, two and four at a time.
use Rattle.std.proofs.Common.{◌≡◌, ℕ, ◌+◌, ◌/◌, ◌%◌, ◌^◌, ◌<◌, ◌≤◌, List, ◌++◌, length, ap, ◌∙◌, sym, arith, append_assoc, length-append}
use Rattle.std.specs.Fmt.{decimal}
use Rattle.std.proofs.lemmas.Fmt.{decimal_digit, decimal_step, length-decimal-le}
use Rattle.trace_text.specs.inner.Digits.{pair}

pub two_digits : (n : ℕ) → 10 ≤ n → n < 100 → decimal n ≡ pair n
two_digits n least below = rw (decimal_step n least (omega arith), decimal_digit (n / 10) (omega arith))

-- the last two digits of a number, and what stands before them
pub hundreds : (n : ℕ) → 100 ≤ n → n < 2 ^ 64 → decimal n ≡ decimal (n / 100) ++ pair (n % 100)
hundreds n least below =
    let before : n / 10 / 10 ≡ n / 100 = omega arith in
    let tens : n / 10 % 10 ≡ n % 100 / 10 = omega arith in
    let ones : n % 10 ≡ n % 100 % 10 = omega arith in
    rw (decimal_step n (omega arith) below, decimal_step (n / 10) (omega arith) (omega arith), append_assoc, before, tens, ← ones)

-- the last four
pub ten_thousands : (n : ℕ) → 10000 ≤ n → n < 2 ^ 64
    → decimal n ≡ decimal (n / 10000) ++ pair (n % 10000 / 100) ++ pair (n % 10000 % 100)
ten_thousands n least below =
    let before : n / 100 / 100 ≡ n / 10000 = omega arith in
    let first : n / 100 % 100 ≡ n % 10000 / 100 = omega arith in
    let last : n % 10000 % 100 ≡ n % 100 = omega arith in
    hundreds n (omega arith) below
    ∙ ap (λ front. front ++ pair (n % 100)) (hundreds (n / 100) (omega arith) (omega arith))
    ∙ ap (λ k. decimal k ++ pair (n / 100 % 100) ++ pair (n % 100)) before
    ∙ ap (λ k. decimal (n / 10000) ++ pair k ++ pair (n % 100)) first
    ∙ ap (λ k. decimal (n / 10000) ++ pair (n % 10000 / 100) ++ pair k) (sym last)

pub digit_length : (n : ℕ) → n < 10 → length (decimal n) ≡ 1
digit_length n below = ap length (decimal_digit n below)

pub two_digits_length : (n : ℕ) → 10 ≤ n → n < 100 → length (decimal n) ≡ 2
two_digits_length n least below = ap length (two_digits n least below)

pub hundreds_length : (n : ℕ) → 100 ≤ n → n < 2 ^ 64 → length (decimal n) ≡ length (decimal (n / 100)) + 2
hundreds_length n least below = ap length (hundreds n least below) ∙ length-append (decimal (n / 100)) (pair (n % 100))

pub ten_thousands_length : (n : ℕ) → 10000 ≤ n → n < 2 ^ 64 → length (decimal n) ≡ length (decimal (n / 10000)) + 4
ten_thousands_length n least below =
    let front = decimal (n / 10000) ++ pair (n % 10000 / 100) in
    omega (
      arith,
      ap length (ten_thousands n least below),
      length-append front (pair (n % 10000 % 100)),
      length-append (decimal (n / 10000)) (pair (n % 10000 / 100)),
    )

-- the most digits of a number of 64 bits, and of the magnitude of a signed one
pub at_most_20 : (n : ℕ) → n < 2 ^ 64 → length (decimal n) ≤ 20
at_most_20 n below = length-decimal-le 20 n (omega arith) (omega arith) below

pub at_most_19 : (n : ℕ) → n ≤ 2 ^ 63 → length (decimal n) ≤ 19
at_most_19 n most = length-decimal-le 19 n (omega arith) (omega arith) (omega arith)

-- the front of a number was put after a line, and then its last two digits
pub pair_put : (line front new : List ℕ) (n : ℕ) → 100 ≤ n → n < 2 ^ 64 → front ≡ line ++ decimal (n / 100)
    → new ≡ front ++ pair (n % 100) → new ≡ line ++ decimal n
pair_put line front new n least below before put =
    put ∙ ap (λ l. l ++ pair (n % 100)) before ∙ append_assoc line (decimal (n / 100)) (pair (n % 100))
    ∙ ap (λ t. line ++ t) (sym (hundreds n least below))

-- or its last four
pub four_put : (line front new : List ℕ) (n : ℕ) → 10000 ≤ n → n < 2 ^ 64 → front ≡ line ++ decimal (n / 10000)
    → new ≡ front ++ pair (n % 10000 / 100) ++ pair (n % 10000 % 100) → new ≡ line ++ decimal n
four_put line front new n least below before put =
    let first = pair (n % 10000 / 100) in
    let last = pair (n % 10000 % 100) in
    put ∙ ap (λ l. l ++ first ++ last) before ∙ ap (λ l. l ++ last) (append_assoc line (decimal (n / 10000)) first)
    ∙ append_assoc line (decimal (n / 10000) ++ first) last ∙ ap (λ t. line ++ t) (sym (ten_thousands n least below))
