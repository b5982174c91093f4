-- The greatest room is enough for each code.
use Rattle.std.proofs.Common.{ℕ, ◌≤◌, ◌<◌, List, [], ◌∷◌, length, get_or, arith}
use Rattle.std.specs.List.{All}
use Rattle.std.proofs.lemmas.List.Elements.{All-nil, All-cons, All-weaker, All-get_or}
use Rattle.task_code.specs.declared.instruction.Instruction.{Instruction}
use Rattle.task_code.specs.Machine.{room_of, greatest_room}

pub all_fit : (codes : List (List Instruction)) → All (λ code. room_of code ≤ greatest_room codes) codes
all_fit [] = All-nil (λ code. room_of code ≤ 0)
all_fit (code ∷ codes) =
    All-cons (λ c. room_of c ≤ greatest_room (code ∷ codes)) code codes (omega arith)
    (All-weaker (λ c. room_of c ≤ greatest_room codes) (λ c. room_of c ≤ greatest_room (code ∷ codes)) (λ c fits. omega arith) codes (all_fit codes))

-- the code at a place fits
pub one_fits : (codes : List (List Instruction)) (i : ℕ) (d : List Instruction) → i < length codes → room_of (get_or codes i d) ≤ greatest_room codes
one_fits codes i d below = All-get_or (λ code. room_of code ≤ greatest_room codes) codes i d below (all_fit codes)
