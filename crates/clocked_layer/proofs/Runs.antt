-- A log of which every event is due, and what it leaves.
use Rattle.std.proofs.lemmas.Bool.{both_ways}
use Rattle.std.proofs.Common.{◌≡◌, Bool, true, false, cond, List, [], ◌∷◌, ◌++◌, refl, sym, ◌∙◌, subst}
use Rattle.clocked_layer.proofs.Kept.{IsAll, IsDue, IsKept}
use Rattle.clocked_layer.proofs.Moves.{InOrder, Marks, Move, Of, mark, is_marked, is_marked_after, no_marks, none_is_marked, same_move, same_move_true}
use Rattle.clocked_layer.proofs.Steps.{step}
use Rattle.clocked_layer.specs.Block.{Block, block_after_event, block_after_log}
use Rattle.clocked_layer.specs.Ready.{IsTimely}
use Rattle.event_queue.specs.declared.event.Event.{Event}
use Rattle.rcp_model.specs.FrameRows.{FrameRows}
use Rattle.rcp_model.specs.System.{SystemState}
use Rattle.rcp_model.specs.declared.plan.PlanParts.{PlanParts}

module _ (plan : PlanParts) (rows : FrameRows) (state : SystemState) where
  -- none that is left comes sooner
  abbrev pub ComesFirst : Marks → Event → Type 0
  ComesFirst marks event =
      (other : Move) (later : Event) → Of plan rows state other later
      → is_marked marks other ≡ false → InOrder event later

  -- each event of the log is due, and in the end all have happened
  abbrev pub IsRun : Marks → List Event → Type 0
  IsRun marks [] =
      (move : Move) (event : Event) → Of plan rows state move event → is_marked marks move ≡ true
  IsRun marks (event ∷ log) =
      (move : Move) × Of plan rows state move event × (is_marked marks move ≡ false)
      × ComesFirst marks event × IsRun (mark marks move) log

  -- what has happened is an event, and comes no later than any that is left
  abbrev pub IsPast : Marks → Type 0
  IsPast marks =
      (move : Move) → is_marked marks move ≡ true
      → (event : Event) × Of plan rows state move event × ComesFirst marks event

  -- what has not happened later had not before
  unmarked : (marks : Marks) (move other : Move) → is_marked (mark marks move) other ≡ false
      → is_marked marks other ≡ false
  unmarked marks move other h =
      go (same_move other move) (sym (is_marked_after marks move other) ∙ h)
    where
      go : (t : Bool) → cond t true (is_marked marks other) ≡ false → is_marked marks other ≡ false
      go true h = cc
      go false h = h

  goes_on : (marks : Marks) (move : Move) (event : Event) → Of plan rows state move event
      → ComesFirst marks event → IsPast marks → IsPast (mark marks move)
  goes_on marks move event is first past other h =
      go (same_move other move) refl (sym (is_marked_after marks move other) ∙ h)
    where
      go : (t : Bool) → same_move other move ≡ t → cond t true (is_marked marks other) ≡ true
          → (event : Event) × Of plan rows state other event × ComesFirst (mark marks move) event
      go true same h = (
        event,
        subst (λ x. Of plan rows state x event) (sym (same_move_true other move same)) is,
        λ later f of u. first later f of (unmarked marks move later u),
      )
      go false same h =
          let w = past other h in
          (w.0, w.1, λ later f of u. w.2 later f of (unmarked marks move later u))

  is_due : (marks : Marks) (event : Event) (log : List Event) → (run : IsRun marks (event ∷ log))
      → IsPast marks → IsDue plan rows state marks run.0 event
  is_due marks event log run past = record {
    is = run.1;
    new = run.2;
    due = run.3;
    past = λ other t. let w = past other t in (w.0, w.1, w.2 run.0 event run.1 run.2);
  }

  module _ (timely : IsTimely plan rows state) where
    pub run_kept : (log : List Event) (marks : Marks) (block : Block) → IsRun marks log
        → IsPast marks → IsKept plan rows state marks block
        → (last : Marks) × IsAll plan rows state last
        × IsKept plan rows state last (block_after_log plan rows block log)
    run_kept [] marks block run past kept =
        (marks, record { all = run; only = λ move t. let w = past move t in (w.0, w.1) }, kept)
    run_kept (event ∷ log) marks block run past kept =
        run_kept log (mark marks run.0) (block_after_event plan rows block event) run.4
        (goes_on marks run.0 event run.1 run.3 past)
        (step plan rows state timely marks block run.0 event (is_due marks event log run past) kept)

    -- after the part of a run before an event that event is due
    pub run_to : (log : List Event) (event : Event) (rest : List Event) (marks : Marks)
        (block : Block)
        → IsRun marks (log ++ event ∷ rest) → IsPast marks → IsKept plan rows state marks block
        → (now : Marks) × (move : Move) × IsDue plan rows state now move event
        × IsKept plan rows state now (block_after_log plan rows block log)
    run_to [] event rest marks block run past kept =
        (marks, run.0, is_due marks event rest run past, kept)
    run_to (first ∷ log) event rest marks block run past kept =
        run_to log event rest (mark marks run.0) (block_after_event plan rows block first) run.4
        (goes_on marks run.0 first run.1 run.3 past)
        (step plan rows state timely marks block run.0 first
        (is_due marks first (log ++ event ∷ rest) run past) kept)

  pub nothing_past : IsPast no_marks
  nothing_past move h = absurd (both_ways _ (none_is_marked move) h)
