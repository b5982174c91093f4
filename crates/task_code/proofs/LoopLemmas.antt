-- What is left of a run after its next instruction.
use Rattle.std.proofs.Common.{◌≡◌, ℕ, ◌+◌, ◌≤◌, ◌<◌, max, ℤ, List, [], ◌∷◌, length, get_or, drop, ap, sym, ◌∙◌, add-one, drop-cons, arith}
use Rattle.task_code.specs.declared.instruction.Instruction.{Instruction}
use Rattle.task_code.specs.Machine.{State, step, run, height_after, lets_after, room_from, result_count, gives}

next : (code : List Instruction) (at : ℕ) (d : Instruction) → at < length code → drop at code ≡ get_or code at d ∷ drop (at + 1) code
next code at d below = rw add-one (drop-cons code at d below)

-- the rest does from the next state what it did from this one
pub run_on :
    (sensors cells : List ℤ) (code : List Instruction) (at : ℕ) (d : Instruction) (now later : State) → at < length code →
    later ≡ step sensors cells (get_or code at d) now →
    run sensors cells (drop (at + 1) code) later ≡ run sensors cells (drop at code) now
run_on sensors cells code at d now later below is =
    ap (λ s. run sensors cells (drop (at + 1) code) s) is ∙ ap (λ left. run sensors cells left now) (sym (next code at d below))

room_here : (code : List Instruction) (height lets : ℕ) → max height lets ≤ room_from code height lets
room_here [] height lets = omega arith
room_here (i ∷ code) height lets = omega arith

room_next : (i : Instruction) (code : List Instruction) (height lets : ℕ) → room_from code (height_after i height) (lets_after i lets) ≤ room_from (i ∷ code) height lets
room_next i code height lets = omega arith

-- the room of the rest is that of what was left, if not less
room_on : (code : List Instruction) (at : ℕ) (d : Instruction) (height lets : ℕ) → at < length code →
    room_from (drop (at + 1) code) (height_after (get_or code at d) height) (lets_after (get_or code at d) lets) ≤ room_from (drop at code) height lets
room_on code at d height lets below =
    rw (next code at d below) (room_next (get_or code at d) (drop (at + 1) code) height lets)

-- the next instruction's value has a place
pub height_fits : (code : List Instruction) (at : ℕ) (d : Instruction) (height lets : ℕ) → at < length code →
    height_after (get_or code at d) height ≤ room_from (drop at code) height lets
height_fits code at d height lets below =
    omega (arith, room_on code at d height lets below, room_here (drop (at + 1) code) (height_after (get_or code at d) height) (lets_after (get_or code at d) lets))

-- the next let has a place
pub lets_fit : (code : List Instruction) (at : ℕ) (d : Instruction) (height lets : ℕ) → at < length code →
    lets_after (get_or code at d) lets ≤ room_from (drop at code) height lets
lets_fit code at d height lets below =
    omega (arith, room_on code at d height lets below, room_here (drop (at + 1) code) (height_after (get_or code at d) height) (lets_after (get_or code at d) lets))

-- the same room serves from the next instruction on
pub room_later :
    (code : List Instruction) (at : ℕ) (d : Instruction) (height lets later_height later_lets : ℕ) → at < length code →
    later_height ≡ height_after (get_or code at d) height → later_lets ≡ lets_after (get_or code at d) lets →
    room_from (drop (at + 1) code) later_height later_lets ≤ room_from (drop at code) height lets
room_later code at d height lets later_height later_lets below is_height is_lets =
    rw (is_height, is_lets) (room_on code at d height lets below)

-- the results that are left
pub count_on : (code : List Instruction) (at : ℕ) (d : Instruction) → at < length code →
    result_count (drop at code) ≡ gives (get_or code at d) + result_count (drop (at + 1) code)
count_on code at d below = rw (next code at d below)
