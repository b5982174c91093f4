-- Lists that a function of the place gives.
use Rattle.std.specs.Prelude.{ℕ, List, map}
use Rattle.std.specs.List.{range_with_len}

-- the values of a function at 0 to n - 1
unfoldable pub table : {X : Type 0} → ℕ → (ℕ → X) → List X
table n f = map f (range_with_len 0 n)
