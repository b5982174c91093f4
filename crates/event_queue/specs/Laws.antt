-- What follows from the order of events, for all events and answers. This project's own.
use Rattle.std.specs.Prelude.{◌≡◌, ℕ, ◌<◌, ◌↔◌, List, length, slice_index_or, IsPermutation}
use Rattle.std.specs.List.{All, remove}
use Rattle.event_queue.specs.declared.event.Event.{Event}
use Rattle.event_queue.specs.Event.{ComesBy, IsLogOf}
use Rattle.event_queue.specs.Agenda.{in_turn, in_turn_from, InTurn, without_event, due}
use Rattle.event_queue.specs.Picker.{picked_order}

-- events that are brought into order are in order, and are the same events
abbrev pub OrderMovesEvents : Type 0
OrderMovesEvents =
    (events : List Event) → InTurn (in_turn events) × IsPermutation (in_turn events) events

-- of two lots of events that are put in among events in order, either may be the first
abbrev pub EitherLotMayBeFirst : Type 0
EitherLotMayBeFirst =
    (done one other : List Event)
    → in_turn_from (in_turn_from done one) other ≡ in_turn_from (in_turn_from done other) one

-- those at the places of due events, and no others, have no tick and kind before theirs
abbrev pub DueEventsAreTheLeast : Type 0
DueEventsAreTheLeast =
    (left : List Event) (place : ℕ) (other : Event) → InTurn left → place < length left
    → (place < due left) ↔ All (ComesBy (slice_index_or left place other)) left

-- an event that is taken out is taken out at its place
abbrev pub EventsLeaveTheirPlace : Type 0
EventsLeaveTheirPlace =
    (left : List Event) (place : ℕ) (other : Event) → InTurn left → place < length left
    → remove left place ≡ without_event (slice_index_or left place other) left

-- whatever a picker answers, each event is picked once, and ticks and kinds never fall
abbrev pub AnyAnswersMakeALog : Type 0
AnyAnswersMakeALog =
    (left : List Event) (answers : ℕ → ℕ) → InTurn left → IsLogOf left (picked_order left answers)
