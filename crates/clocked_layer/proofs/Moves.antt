-- What may happen in the block of a frame, and which of it has happened.
use Rattle.std.proofs.Common.{◌≡◌, ℕ, ◌+◌, ◌-◌, Bool, true, false, Some, ◌<ℤ◌, ◌≤ℤ◌, nat_le, MatchBool, refl, cond, ◌&&◌, ◌==◌, ap, ap₂, eqb-true, eq-eqb}
use Rattle.std.proofs.lemmas.Bool.{and_parts, and_from}
use Rattle.clock_model.specs.Order.{begin_of, block_begin, send_of, sync_of, vote_of}
use Rattle.clocked_layer.specs.Block.{put_pair}
use Rattle.clocked_layer.specs.Events.{delivery, own_event}
use Rattle.event_queue.specs.Event.{kind_rank}
use Rattle.event_queue.specs.declared.event.Event.{Event}
use Rattle.event_queue.specs.declared.event.EventKind.TheVariants.{Begin, Send, Sync, Vote}
use Rattle.mailbox.specs.Mailboxes.{put}
use Rattle.rcp_model.specs.FrameRows.{FrameRows}
use Rattle.rcp_model.specs.Messages.{Letter, is_up}
use Rattle.rcp_model.specs.System.{SystemState, fresh_letter}
use Rattle.rcp_model.specs.declared.plan.PlanParts.{PlanParts}

-- an event by its name, without its tick. `Arrives` is by receiver and sender, and of a message of
-- the frame; `Arrives_late` is of one of the frame before
pub data Move : Type 0 where
  Begins : ℕ → Move
  Sends : ℕ → Move
  Arrives : ℕ → ℕ → Move
  Arrives_late : ℕ → ℕ → Move
  Votes : ℕ → Move
  Syncs : ℕ → Move

-- `ComesBy`, so that it computes at kinds that are known
abbrev pub InOrder : Event → Event → Type 0
InOrder a b =
    MatchBool (nat_le (kind_rank a.kind) (kind_rank b.kind)) (a.tick ≤ℤ b.tick) (a.tick <ℤ b.tick)

-- what has happened
pub record Marks : Type 0 where
  pub begun : ℕ → Bool
  pub sent : ℕ → Bool
  pub came : ℕ → ℕ → Bool
  pub came_late : ℕ → ℕ → Bool
  pub voted : ℕ → Bool
  pub synced : ℕ → Bool

abbrev pub is_marked : Marks → Move → Bool
is_marked marks (Begins q) = marks.begun q
is_marked marks (Sends q) = marks.sent q
is_marked marks (Arrives q p) = marks.came q p
is_marked marks (Arrives_late q p) = marks.came_late q p
is_marked marks (Votes q) = marks.voted q
is_marked marks (Syncs q) = marks.synced q

-- and one move more
abbrev pub mark : Marks → Move → Marks
mark marks (Begins q) = record marks { begun = put marks.begun q true }
mark marks (Sends q) = record marks { sent = put marks.sent q true }
mark marks (Arrives q p) = record marks { came = put_pair marks.came q p true }
mark marks (Arrives_late q p) = record marks { came_late = put_pair marks.came_late q p true }
mark marks (Votes q) = record marks { voted = put marks.voted q true }
mark marks (Syncs q) = record marks { synced = put marks.synced q true }

abbrev pub no_marks : Marks
no_marks = record {
  begun = λ q. false;
  sent = λ q. false;
  came = λ q p. false;
  came_late = λ q p. false;
  voted = λ q. false;
  synced = λ q. false;
}

-- the event of the block that a move is
pub data Of (plan : PlanParts) (rows : FrameRows) (state : SystemState)
    : Move → Event → Type 0 where
  begins : (q : ℕ) → is_up plan rows q ≡ true → Of plan rows state (Begins q)
      (own_event Begin state.done q (begin_of plan state.done rows q))
  sends : (q : ℕ) → is_up plan rows q ≡ true → Of plan rows state (Sends q)
      (own_event Send state.done q (send_of plan state.done rows q))
  arrives : (q p : ℕ) (letter : Letter) → fresh_letter plan state rows q p ≡ Some letter
      → letter.arrival <ℤ (block_begin plan (state.done + 1))
      → Of plan rows state (Arrives q p) (delivery state.done q p letter.arrival)
  arrives_late : (q p : ℕ) (letter : Letter) → state.letters q p ≡ Some letter
      → Of plan rows state (Arrives_late q p) (delivery (state.done - 1) q p letter.arrival)
  votes : (q : ℕ) → is_up plan rows q ≡ true → Of plan rows state (Votes q)
      (own_event Vote state.done q (vote_of plan state.done rows q))
  syncs : (q : ℕ) → is_up plan rows q ≡ true → Of plan rows state (Syncs q)
      (own_event Sync state.done q (sync_of plan state.done rows q))

-- whether two moves are one
abbrev pub same_move : Move → Move → Bool
same_move (Begins q) (Begins r) = q == r
same_move (Sends q) (Sends r) = q == r
same_move (Arrives q p) (Arrives r o) = (q == r) && (p == o)
same_move (Arrives_late q p) (Arrives_late r o) = (q == r) && (p == o)
same_move (Votes q) (Votes r) = q == r
same_move (Syncs q) (Syncs r) = q == r
same_move _ _ = false

pub is_marked_after : (marks : Marks) (move other : Move)
    → is_marked (mark marks move) other ≡ cond (same_move other move) true (is_marked marks other)
is_marked_after marks (Begins q) (Begins r) = refl
is_marked_after marks (Sends q) (Sends r) = refl
is_marked_after marks (Arrives q p) (Arrives r o) = refl
is_marked_after marks (Arrives_late q p) (Arrives_late r o) = refl
is_marked_after marks (Votes q) (Votes r) = refl
is_marked_after marks (Syncs q) (Syncs r) = refl
is_marked_after marks _ _ = refl

both_same : (move : ℕ → ℕ → Move) (q r p o : ℕ) → ((q == r) && (p == o)) ≡ true
    → move q p ≡ move r o
both_same move q r p o h =
    let w = and_parts (q == r) (p == o) h in ap₂ move (eqb-true q r w.0) (eqb-true p o w.1)

pub same_move_true : (move other : Move) → same_move move other ≡ true → move ≡ other
same_move_true (Begins q) (Begins r) h = ap Begins (eqb-true q r h)
same_move_true (Sends q) (Sends r) h = ap Sends (eqb-true q r h)
same_move_true (Arrives q p) (Arrives r o) h = both_same Arrives q r p o h
same_move_true (Arrives_late q p) (Arrives_late r o) h = both_same Arrives_late q r p o h
same_move_true (Votes q) (Votes r) h = ap Votes (eqb-true q r h)
same_move_true (Syncs q) (Syncs r) h = ap Syncs (eqb-true q r h)
same_move_true _ _ h = cc

pub same_move_refl : (move : Move) → same_move move move ≡ true
same_move_refl (Begins q) = eq-eqb q q refl
same_move_refl (Sends q) = eq-eqb q q refl
same_move_refl (Arrives q p) = and_from _ _ (eq-eqb q q refl) (eq-eqb p p refl)
same_move_refl (Arrives_late q p) = and_from _ _ (eq-eqb q q refl) (eq-eqb p p refl)
same_move_refl (Votes q) = eq-eqb q q refl
same_move_refl (Syncs q) = eq-eqb q q refl

pub none_is_marked : (move : Move) → is_marked no_marks move ≡ false
none_is_marked (Begins q) = refl
none_is_marked _ = refl
