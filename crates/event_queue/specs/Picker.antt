-- What a picker answers, and the order in which its answers take events. This project's own.
use Rattle.std.specs.Prelude.{ℕ, zero, suc, ◌-◌, min, List, [], ◌∷◌, length, slice_index, slice_index_or}
use Rattle.event_queue.specs.declared.event.Event.{Event}
use Rattle.event_queue.specs.Agenda.{due, without_event}

-- the answers behind the first
abbrev pub later_answers : (ℕ → ℕ) → ℕ → ℕ
later_answers answers = λ k. answers (suc k)

-- the answers behind the first so many
abbrev pub answers_after : ℕ → (ℕ → ℕ) → ℕ → ℕ
answers_after zero answers = answers
answers_after (suc n) answers = answers_after n (later_answers answers)

-- the place of the due event that the first answer picks: one past the last counts as the last
abbrev pub picked_place : List Event → (ℕ → ℕ) → ℕ
picked_place left answers = min (answers 0) (due left - 1)

-- the due event that the first answer picks, or another where none is left
abbrev pub picked_event : Event → List Event → (ℕ → ℕ) → Event
picked_event other left answers = slice_index_or left (picked_place left answers) other

-- the first so many events that the answers pick
abbrev pub picked_order_of : ℕ → List Event → (ℕ → ℕ) → List Event
picked_order_of zero left answers = []
picked_order_of (suc n) [] answers = []
picked_order_of (suc n) (first ∷ rest) answers =
    picked_event first (first ∷ rest) answers
    ∷ picked_order_of n (without_event (picked_event first (first ∷ rest) answers) (first ∷ rest))
    (later_answers answers)

-- the order in which the answers pick the events that are left, always one of those that are due
abbrev pub picked_order : List Event → (ℕ → ℕ) → List Event
picked_order left answers = picked_order_of (length left) left answers

-- the answers of a list in turn, and then 0
abbrev pub script_answers : List ℕ → ℕ → ℕ
script_answers script = λ k. slice_index script k
