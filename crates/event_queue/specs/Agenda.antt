-- Events in rising order, and those of them that are due at once.
-- After NASA TM-104196; the order is this project's own.
use Rattle.std.specs.Prelude.{◌≡◌, ℕ, ◌+◌, ◌-◌, ◌<◌, ◌≤◌, ◌^◌, length, Bool, false, ◌&&◌, ◌==◌, drop, List, [], ◌∷◌, if◌then◌else◌, ⊤}
use Rattle.std.specs.List.{prefix_len, remove, AllByRecursion, Contains, All}
use Rattle.std.specs.Ordering.{int_eq, is_lt}
use Rattle.std.specs.Vec.{vec_capacity}
use Rattle.event_queue.specs.declared.event.Event.{Event}
use Rattle.event_queue.specs.declared.agenda.Agenda.TheInside.{Inside}
use Rattle.event_queue.specs.Event.{kind_rank, event_cmp, same_event, ComesBy}

-- events in order, with one more at its place
abbrev pub inserted : Event → List Event → List Event
inserted event [] = event ∷ []
inserted event (first ∷ rest) =
    if is_lt (event_cmp first event) then first ∷ inserted event rest else event ∷ first ∷ rest

-- events in order, with more of them at their places
abbrev pub in_turn_from : List Event → List Event → List Event
in_turn_from done [] = done
in_turn_from done (event ∷ events) = in_turn_from (inserted event done) events

-- events, brought into order
abbrev pub in_turn : List Event → List Event
in_turn events = in_turn_from [] events

-- events stand in order: none comes before one that is ahead of it
abbrev pub InTurn : List Event → Type 0
InTurn [] = ⊤
InTurn (event ∷ events) =
    AllByRecursion (λ behind. is_lt (event_cmp behind event) ≡ false) events × InTurn events

-- events, with one of them taken out
abbrev pub without_event : Event → List Event → List Event
without_event event [] = []
without_event event (first ∷ rest) =
    if same_event event first then rest else first ∷ without_event event rest

-- whether two events are of one tick and kind
abbrev pub same_moment : Event → Event → Bool
same_moment a b = int_eq a.tick b.tick && (kind_rank a.kind == kind_rank b.kind)

-- how many of the events in order are of the least tick and, at it, the least kind
abbrev pub due : List Event → ℕ
due [] = 0
due (first ∷ rest) = 1 + prefix_len (same_moment first) rest

-- an event is left, and no other that is left comes before its tick and kind
pub record IsDueIn (left : List Event) (event : Event) : Type 0 where
  pub is_left : Contains left event
  pub first : All (ComesBy event) left

-- an agenda as its calls see it: the events that are left, in order, and how many more it can take
pub record EventQueue : Type 0 where
  pub left : List Event
  pub spare : ℕ

-- the events that are left: those that were taken from the front stand there still
abbrev pub left_in : Inside → List Event
left_in agenda = drop agenda.taken agenda.events.items

-- what the fields of an agenda say
abbrev pub queue_in : Inside → EventQueue
queue_in agenda = record {
  left = left_in agenda;
  spare = agenda.capacity - length (left_in agenda);
}

-- what is left is in order, those due are counted, and there is room for all that it may have, which 32 bits can count
pub record IsAgenda (agenda : Inside) : Type 0 where
  pub small : agenda.capacity < 2 ^ 32
  pub turn : InTurn (left_in agenda)
  pub count : agenda.due ≡ due (left_in agenda)
  pub front : agenda.taken ≤ length agenda.events.items
  pub fits : length agenda.events.items ≤ agenda.capacity
  pub room : agenda.capacity ≤ vec_capacity agenda.events

-- a queue of no event
abbrev pub empty_queue : ℕ → EventQueue
empty_queue capacity = record { left = []; spare = capacity }

-- a queue with one event more, at its place
abbrev pub with_event : EventQueue → Event → EventQueue
with_event queue event = record { left = inserted event queue.left; spare = queue.spare - 1 }

-- a queue without the event at a place
abbrev pub without_place : EventQueue → ℕ → EventQueue
without_place queue place = record { left = remove queue.left place; spare = queue.spare + 1 }
