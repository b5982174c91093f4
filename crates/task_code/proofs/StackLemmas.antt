-- How many numbers stand below the top.
use Rattle.std.proofs.Common.{◌≡◌, ◌-◌, ℤ, List, [], ◌∷◌, length, refl, arith}
use Rattle.task_code.specs.Machine.{rest_of}

pub length_rest : (numbers : List ℤ) → length (rest_of numbers) ≡ length numbers - 1
length_rest [] = refl
length_rest (x ∷ xs) = omega arith
