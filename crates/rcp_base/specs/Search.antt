-- Tests and searches below a number. This project's own.
use Rattle.std.specs.Prelude.{◌≡◌, ℕ, ◌<◌, zero, suc, Bool, true, false, nat_lt, if◌then◌else◌}
use Rattle.std.specs.List.{list_all, list_any, range_with_len}

-- a test holds of each number below n
abbrev pub all_below : ℕ → (ℕ → Bool) → Bool
all_below n test = list_all test (range_with_len 0 n)

-- it holds of some number below n
abbrev pub any_below : ℕ → (ℕ → Bool) → Bool
any_below n test = list_any test (range_with_len 0 n)

-- the first number below n of which it holds
abbrev pub first_below : ℕ → (ℕ → Bool) → ℕ
first_below zero test = 0
first_below (suc n) test = if any_below n test then first_below n test else n

-- the same as a statement
pub record IsFirst (n : ℕ) (test : ℕ → Bool) (first : ℕ) : Type 0 where
  pub below : first < n
  pub passes : test first ≡ true
  pub none : (other : ℕ) → other < first → test other ≡ false

-- the first number below n at which a function has its least value there
abbrev pub lowest_below : ℕ → (ℕ → ℕ) → ℕ
lowest_below zero f = 0
lowest_below (suc n) f = let low = lowest_below n f in if nat_lt (f n) (f low) then n else low
