-- A block that is run event by event: what a step finds and leaves, and where it ends.
use Rattle.std.proofs.lemmas.List.{length-append}
use Rattle.std.proofs.lemmas.List.Edits.{length-remove}
use Rattle.std.proofs.lemmas.Option.{get_or_from_slice_get}
use Rattle.std.proofs.Common.{inl, inr, ◌≡◌, ℕ, ◌+◌, ◌<◌, ◌≤◌, List, [], ◌∷◌, ◌++◌, None, Some, length, slice_get, slice_index_or, vec_capacity, vec_len, sym, ap, subst, ◌∙◌, arith}
use Rattle.clocked_layer.proofs.Interleavings.{next_ready}
use Rattle.clocked_layer.proofs.MachineLemmas.{shows_there, unread_rows, waits_there}
use Rattle.clocked_layer.proofs.Ways.{ends_where, goes_on_by, late_gone}
use Rattle.clocked_layer.specs.Block.{Block, block_after_event, closed_state}
use Rattle.clocked_layer.specs.Clocked.{IsAfterLog, IsAtRest, IsRunning}
use Rattle.clocked_layer.specs.Machine.{ShowsBlock}
use Rattle.clocked_layer.specs.Ready.{IsReady}
use Rattle.clocked_layer.specs.Stepped.{IsOfPlan}
use Rattle.clocked_layer.specs.Way.{FindsReplica}
use Rattle.clocked_layer.specs.declared.clocked.Clocked.{Clocked}
use Rattle.event_queue.proofs.DueLaws.{due_at, due_le}
use Rattle.event_queue.proofs.TurnLaws.{taken_at}
use Rattle.event_queue.specs.Agenda.{EventQueue, InTurn, IsDueIn, due, without_event, without_place}
use Rattle.event_queue.specs.declared.event.Event.{Event}
use Rattle.phase_machine.specs.Laws.{RestingReplicasWait}
use Rattle.phase_machine.specs.Phase.{ShowsSeat, last_stage}
use Rattle.phase_machine.specs.Seats.{Seat, waiting_seat}
use Rattle.phase_machine.specs.declared.phase.Phase.{Phase}
use Rattle.phase_machine.specs.declared.phase.Phase.TheVariants.{Moving}
use Rattle.rcp_model.specs.FrameRows.{FrameRows}
use Rattle.rcp_model.specs.Messages.{is_up}
use Rattle.rcp_model.specs.declared.plan.PlanParts.{PlanParts}

-- of events in turn, the due event at a place is taken out
pub record Takes (old new : EventQueue) (place : ℕ) (event : Event) : Type 0 where
  pub turn : InTurn old.left
  pub below : place < due old.left
  pub at : slice_get old.left place ≡ Some event
  pub rest : new ≡ without_place old place

pub takes : (old new : EventQueue) (count place : ℕ) (event : Event) → InTurn old.left
    → count ≡ due old.left → place < count → slice_get old.left place ≡ Some event
    → new ≡ without_place old place → Takes old new place event
takes old new count place event turn many below at rest =
    record { turn = turn; below = omega (arith, below, many); at = at; rest = rest }

module _ (old new : EventQueue) (left : List Event) (place : ℕ) (event : Event)
    (same : old.left ≡ left) (taken : Takes old new place event) where
  there : slice_index_or old.left place event ≡ event
  there = get_or_from_slice_get old.left place event event taken.at

  pub due_there : IsDueIn left event
  due_there =
      subst (λ events. IsDueIn events event) same
      (subst (IsDueIn old.left) there (due_at old.left place event taken.turn taken.below))

  within : place < length old.left
  within = omega (arith, taken.below, due_le old.left)

  pub rest_left : new.left ≡ without_event event left
  rest_left =
      ap (λ (queue : EventQueue). queue.left) taken.rest
      ∙ sym (taken_at old.left place event taken.turn within)
      ∙ ap (λ e. without_event e old.left) there ∙ ap (without_event event) same

  pub one_left : length old.left ≡ length new.left + 1
  one_left =
      omega (
        arith,
        ap (λ (queue : EventQueue). length queue.left) taken.rest,
        length-remove old.left place within,
      )

  pub one_spare : new.spare ≡ old.spare + 1
  one_spare = ap (λ (queue : EventQueue). queue.spare) taken.rest

module _ (plan : PlanParts) (rows : FrameRows) (log : List Event) (block : Block)
    (after : IsAfterLog plan rows log block) where
  -- such an event finds its replica, and the block goes on
  pub finds_replica : (event : Event) → IsDueIn block.left event → FindsReplica plan block event
  finds_replica event due =
      subst (λ (b : Block). FindsReplica plan b event) (sym after.is)
      (goes_on_by plan after.state rows after.mail log after.way event
      (subst (λ (b : Block). IsDueIn b.left event) after.is due)).finds

  pub after_one_event : (event : Event) → IsDueIn block.left event
      → IsAfterLog plan rows (log ++ event ∷ []) (block_after_event plan rows block event)
  after_one_event event due =
      let on = goes_on_by plan after.state rows after.mail log after.way event
      (subst (λ (b : Block). IsDueIn b.left event) after.is due) in
      record {
        state = after.state;
        mail = after.mail;
        way = on.way;
        is = ap (λ (b : Block). block_after_event plan rows b event) after.is ∙ sym on.block;
      }

  -- where none is left, each replica is at its last stage, all late letters have come, and the
  -- next frame may
  module _ (none : block.left ≡ []) where
    pub last_stages : (replica : ℕ)
        → (block.seats replica).stage ≡ last_stage (is_up plan rows replica)
    last_stages replica =
        ap (λ (b : Block). (b.seats replica).stage) after.is
        ∙ (ends_where plan after.state rows after.mail log after.way
        (ap (λ (b : Block). b.left) (sym after.is) ∙ none)).stages replica

    pub none_late : block.late ≡ (λ receiver sender. None)
    none_late =
        ap (λ (b : Block). b.late) after.is
        ∙ late_gone plan after.state rows after.mail log after.way
        (ap (λ (b : Block). b.left) (sym after.is) ∙ none)

    pub ready_next : IsReady plan (closed_state plan rows block)
    ready_next =
        subst (IsReady plan)
        (sym (ap (closed_state plan rows) after.is
        ∙ (ends_where plan after.state rows after.mail log after.way
        (ap (λ (b : Block). b.left) (sym after.is) ∙ none)).next))
        (next_ready plan after.state rows after.way.timely.order)

-- A step of a block that is open.

module _ {P : Type 0} (clocked : Clocked P) (plan : PlanParts) (rows : FrameRows) (block : Block)
    (agenda : EventQueue) (place : ℕ) (event : Event)
    (runs : IsRunning clocked plan rows block) (taken : Takes clocked.agenda agenda place event)
  where
    pub is_due : IsDueIn block.left event
    is_due = due_there clocked.agenda agenda block.left place event runs.left taken

    pub finds : FindsReplica plan block event
    finds = finds_replica plan rows clocked.taken.items block runs.way event is_due

    -- there is room for the event in the log
    pub has_room : vec_len clocked.taken < vec_capacity clocked.taken
    has_room =
        omega (
          arith,
          one_left clocked.agenda agenda block.left place event runs.left taken,
          runs.all,
          runs.few,
          runs.room,
          clocked.taken.ok.0,
        )

    -- where the machine has done what the event does, and the log has the event, the block runs on
    pub runs_on : (new : Clocked P) → new.agenda ≡ agenda
        → ShowsBlock new.machine plan rows (block_after_event plan rows block event)
        → new.taken.items ≡ clocked.taken.items ++ event ∷ []
        → vec_capacity clocked.taken ≤ vec_capacity new.taken
        → IsRunning new plan rows (block_after_event plan rows block event)
    runs_on new is shows logged large =
        let left = one_left clocked.agenda agenda block.left place event runs.left taken in
        let spare = one_spare clocked.agenda agenda block.left place event runs.left taken in
        let now = ap (λ (queue : EventQueue). queue.spare) is in
        let long = ap (λ (log : List Event). length log) logged in
        record {
          shows = shows;
          way = subst
              (λ (log : List Event).
              IsAfterLog plan rows log (block_after_event plan rows block event))
              (sym logged)
              (after_one_event plan rows clocked.taken.items block runs.way event is_due);
          left = ap (λ (queue : EventQueue). queue.left) is
              ∙ rest_left clocked.agenda agenda block.left place event runs.left taken;
          all = omega (
            arith,
            runs.all,
            left,
            spare,
            now,
            ap (λ (queue : EventQueue). length queue.left) is,
          );
          few = omega (
            arith,
            runs.few,
            spare,
            now,
            long,
            length-append clocked.taken.items (event ∷ []),
          );
          room = omega (arith, runs.room, large);
        }

-- a replica shows a seat, whether no block is open or one is
pub shows_some : {P : Type 0} (clocked : Clocked P) (plan : PlanParts) (replica : ℕ) (phase : Phase)
    → phase ≡ slice_index_or clocked.machine.phases.items replica Moving → RestingReplicasWait
    → IsOfPlan (IsAtRest clocked) (IsRunning clocked) plan → replica < plan.replicas
    → (rows : FrameRows) × (seat : Seat) × ShowsSeat plan rows replica phase seat
shows_some clocked plan replica phase is wait (inl (state, (mail, rests))) below = (
  unread_rows,
  waiting_seat state replica (mail replica),
  waits_there clocked.machine plan replica phase is wait state mail rests.at below,
)
shows_some clocked plan replica phase is wait (inr (rows, block, runs)) below = (
  rows,
  block.seats replica,
  shows_there clocked.machine plan replica phase is rows block runs.shows below,
)
