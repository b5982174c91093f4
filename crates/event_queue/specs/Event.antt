-- The order of timed events. After NASA TM-104196; the order at one tick is this project's own.
use Rattle.std.specs.Prelude.{◌≡◌, ℕ, ◌≤◌, ◌<ℤ◌, ◌⊎◌, Bool, List, [], ◌∷◌, IsPermutation, ⊤}
use Rattle.std.specs.Ordering.{int_cmp, nat_cmp, ordering_then, is_eq}
use Rattle.std.specs.declared.cmp.Ordering.{Ordering}
use Rattle.event_queue.specs.declared.event.EventKind.{EventKind}
use Rattle.event_queue.specs.declared.event.EventKind.TheVariants.{Begin, Send, Deliver, Vote, Sync}
use Rattle.event_queue.specs.declared.event.Event.{Event}

-- the place of a kind among those of one tick
abbrev pub kind_rank : EventKind → ℕ
kind_rank Begin = 0
kind_rank Send = 1
kind_rank Deliver = 2
kind_rank Vote = 3
kind_rank Sync = 4

-- the order of events: by tick, kind, replica, other and frame
abbrev pub event_cmp : Event → Event → Ordering
event_cmp a b =
    ordering_then (int_cmp a.tick b.tick)
    (ordering_then (nat_cmp (kind_rank a.kind) (kind_rank b.kind))
    (ordering_then (nat_cmp a.replica b.replica)
    (ordering_then (nat_cmp a.other b.other) (nat_cmp a.frame b.frame))))

-- whether two events are one
abbrev pub same_event : Event → Event → Bool
same_event a b = is_eq (event_cmp a b)

-- the tick and kind of one event are no later than those of another
abbrev pub ComesBy : Event → Event → Type 0
ComesBy a b = (a.tick <ℤ b.tick) ⊎ ((a.tick ≡ b.tick) × (kind_rank a.kind ≤ kind_rank b.kind))

-- behind an event, the ticks and kinds of a log never fall
abbrev pub RisesFrom : Event → List Event → Type 0
RisesFrom a [] = ⊤
RisesFrom a (b ∷ log) = ComesBy a b × RisesFrom b log

-- the ticks and kinds of a log never fall
abbrev pub NeverFalls : List Event → Type 0
NeverFalls [] = ⊤
NeverFalls (a ∷ log) = RisesFrom a log

-- a log has these events, each as often as they do, and its ticks and kinds never fall
pub record IsLogOf (events log : List Event) : Type 0 where
  pub holds : IsPermutation log events
  pub rises : NeverFalls log
