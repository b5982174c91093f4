-- What compiled actuators give. This project's own.
use Rattle.std.specs.Prelude.{ℕ, ℤ, pos, List, [], slice_index_or}
use Rattle.task_code.specs.declared.instruction.Instruction.{Instruction}
use Rattle.task_code.specs.Machine.{results}

-- the value of the actuator with this number, and 0 where there is none
abbrev pub command_value : List (List Instruction) → ℕ → List ℤ → List ℤ → ℤ
command_value codes actuator sensors cells = slice_index_or (results (slice_index_or codes actuator []) sensors cells) 0 (pos 0)
