-- What instructions do with a stack of numbers, and how many numbers they hold. This project's own.
use Rattle.std.specs.Prelude.{ℕ, ◌+◌, ◌-◌, max, ℤ, pos, not, List, [], ◌∷◌, ◌++◌, take, drop, slice_index_or, if◌then◌else◌}
use Rattle.std.specs.Int.{int_min, int_max}
use Rattle.rcp_base.specs.Arithmetic.{negation_of, magnitude_of}
use Rattle.rcp_model.specs.declared.expr.Op.{Op}
use Rattle.rcp_model.specs.Expr.{is_true, truth, op_result}
use Rattle.task_code.specs.declared.machine.Progress.{Progress}
use Rattle.task_code.specs.declared.instruction.Instruction.{Instruction}
use Rattle.task_code.specs.declared.instruction.Instruction.TheVariants.{Number, Sensor, Cell, Let, Neg, Not, Abs, Two, WithNumber, WithSensor, WithCell, WithLet, Clamp, If, Keep, Give}

-- the top of the stack, what stands below it, the values of the lets, and the results so far
pub record State : Type 0 where
  pub top : ℤ
  pub below : List ℤ
  pub lets : List ℤ
  pub results : List ℤ

-- the state of a run that has come so far, with what its places hold
abbrev pub state_of : Progress → List ℤ → List ℤ → List ℤ → State
state_of at stack lets out = record {
  top = at.top;
  below = drop at.below stack;
  lets = take at.lets lets;
  results = take at.given out;
}

-- the state before the first instruction
abbrev pub start : State
start = record { top = pos 0; below = []; lets = []; results = [] }

-- the first, which is 0 where there is none
abbrev pub top_of : List ℤ → ℤ
top_of [] = pos 0
top_of (x ∷ xs) = x

-- what stands below the first
abbrev pub rest_of : List ℤ → List ℤ
rest_of [] = []
rest_of (x ∷ xs) = xs

abbrev pub push : ℤ → State → State
push x s = record s { top = x; below = s.top ∷ s.below }

-- the top is taken away
abbrev pub pop : State → State
pop s = record s { top = top_of s.below; below = rest_of s.below }

-- a function of the top in its place
abbrev pub topmost : (ℤ → ℤ) → State → State
topmost f s = record s { top = f s.top }

-- a function of the two topmost numbers in their place; its last argument is the top
abbrev pub two_topmost : (ℤ → ℤ → ℤ) → State → State
two_topmost f s = record s { top = f (top_of s.below) s.top; below = rest_of s.below }

-- the same of three
abbrev pub three_topmost : (ℤ → ℤ → ℤ → ℤ) → State → State
three_topmost f s = record s {
  top = f (top_of (rest_of s.below)) (top_of s.below) s.top;
  below = rest_of (rest_of s.below);
}

-- an operator of the top and this right operand
abbrev pub with_right : Op → ℤ → State → State
with_right op b s = topmost (λ a. op_result op a b) s

-- what one instruction does
abbrev pub step : List ℤ → List ℤ → Instruction → State → State
step sensors cells (Number n) s = push n s
step sensors cells (Sensor i) s = push (slice_index_or sensors i (pos 0)) s
step sensors cells (Cell i) s = push (slice_index_or cells i (pos 0)) s
step sensors cells (Let i) s = push (slice_index_or s.lets i (pos 0)) s
step sensors cells Neg s = topmost negation_of s
step sensors cells Not s = topmost (λ x. truth (not (is_true x))) s
step sensors cells Abs s = topmost magnitude_of s
step sensors cells (Two op) s = two_topmost (op_result op) s
step sensors cells (WithNumber op n) s = with_right op n s
step sensors cells (WithSensor op i) s = with_right op (slice_index_or sensors i (pos 0)) s
step sensors cells (WithCell op i) s = with_right op (slice_index_or cells i (pos 0)) s
step sensors cells (WithLet op i) s = with_right op (slice_index_or s.lets i (pos 0)) s
step sensors cells Clamp s = three_topmost (λ x low high. int_max low (int_min x high)) s
step sensors cells If s = three_topmost (λ test a b. if is_true test then a else b) s
step sensors cells Keep s = pop (record s { lets = s.lets ++ s.top ∷ [] })
step sensors cells Give s = pop (record s { results = s.results ++ s.top ∷ [] })

-- what instructions do one after the other
abbrev pub run : List ℤ → List ℤ → List Instruction → State → State
run sensors cells [] s = s
run sensors cells (instruction ∷ code) s = run sensors cells code (step sensors cells instruction s)

-- the results of a code
abbrev pub results : List Instruction → List ℤ → List ℤ → List ℤ
results code sensors cells = (run sensors cells code start).results

-- how many numbers stand below the top after an instruction, where so many stood before
abbrev pub height_after : Instruction → ℕ → ℕ
height_after (Number n) height = height + 1
height_after (Sensor i) height = height + 1
height_after (Cell i) height = height + 1
height_after (Let i) height = height + 1
height_after Neg height = height
height_after Not height = height
height_after Abs height = height
height_after (Two op) height = height - 1
height_after (WithNumber op n) height = height
height_after (WithSensor op i) height = height
height_after (WithCell op i) height = height
height_after (WithLet op i) height = height
height_after Clamp height = height - 1 - 1
height_after If height = height - 1 - 1
height_after Keep height = height - 1
height_after Give height = height - 1

-- how many lets have a value after an instruction
abbrev pub lets_after : Instruction → ℕ → ℕ
lets_after Keep lets = lets + 1
lets_after _ lets = lets

-- the most that stand below the top, or the most lets, along a run from so many
abbrev pub room_from : List Instruction → ℕ → ℕ → ℕ
room_from [] height lets = max height lets
room_from (instruction ∷ code) height lets =
    max (max height lets) (room_from code (height_after instruction height) (lets_after instruction lets))

-- the room that a run of a code takes
abbrev pub room_of : List Instruction → ℕ
room_of code = room_from code 0 0

-- the room of the code that takes the most
abbrev pub greatest_room : List (List Instruction) → ℕ
greatest_room [] = 0
greatest_room (code ∷ codes) = max (room_of code) (greatest_room codes)

-- how many results an instruction gives
abbrev pub gives : Instruction → ℕ
gives Give = 1
gives _ = 0

-- how many results a code has
abbrev pub result_count : List Instruction → ℕ
result_count [] = 0
result_count (instruction ∷ code) = gives instruction + result_count code
