use Rattle.phase_machine.proofs.StepLemmas.{by_last}
use Rattle.phase_machine.specs.Phase.{RestsPhase, ShowsSeat, rested}
use Rattle.phase_machine.specs.Phases.{BeforeFrame}
use Rattle.phase_machine.specs.Seats.{Seat}
use Rattle.phase_machine.specs.declared.phase.Phase.{Phase}
use Rattle.phase_machine.specs.declared.phase.Phase.TheVariants.{Moving}
use Rattle.rcp_model.specs.FrameRows.{FrameRows}
use Rattle.rcp_model.specs.Messages.{is_up}
use Rattle.rcp_model.specs.declared.plan.PlanParts.{PlanParts}
use Rattle.rcp_model.specs.System.{end_of_frame}
use Rattle.std.proofs.Common.{None, arith, cond, get_or, length, subst, sym, ℕ, ◌<◌, ◌∙◌}
use Rattle.phase_machine.proofs.steps.finish_all.Goals as goal

abbrev part : PlanParts → FrameRows → (ℕ → Seat) → ℕ → BeforeFrame
part plan rows seats k =
    rested plan rows k (seats k) (cond (is_up plan rows k) (seats k).ballot None)

pub finish_at-requires-clause-shows : goal.finish_at-requires-clause-shows
finish_at-requires-clause-shows c =
    let s = c.requires.show in
    let q = c.loop-replica.replica in
    let before = c.loop-replica.invariant in (
      s.0,
      s.1 q,
      before.left s.0 s.1 s.2 q (omega arith)
          (omega (arith, c.loop-replica-test.true, c.len-replica-end.ensures, before.size)),
      s.3,
    )

pub loop-replica-preserved : goal.loop-replica-preserved
loop-replica-preserved c =
    let rows = c.args.input.now in
    let q = c.loop-replica.replica in
    let before = c.loop-replica.invariant in
    let e = c.finish_at.ensures in
    let lt : q < length c.loop-replica.phases.items =
    omega (arith, c.loop-replica-test.true, c.len-replica-end.ensures, before.size) in
    record {
      size = e.size ∙ before.size;
      left = λ plan seats all k from below.
          subst (λ (x : Phase). ShowsSeat plan rows k x (seats k))
          (sym (e.others k (λ same. omega (arith, same, from))))
          (before.left plan seats all k (omega (arith, from)) (omega (arith, below, e.size)));
      done = λ plan seats all frame stages.
          by_last (λ (k : ℕ). RestsPhase plan k
          (get_or c.finish_at.new.phases.items k Moving) (part plan rows seats k)) q
          (e.here plan (seats q) (before.left plan seats all q (omega arith) lt) frame (stages q))
          (λ k less. subst (λ (x : Phase). RestsPhase plan k x (part plan rows seats k))
          (sym (e.others k (λ same. omega (arith, same, less))))
          (before.done plan seats all frame stages k less));
    }

pub returns-clause-rest : goal.returns-clause-rest
unfolding end_of_frame
returns-clause-rest c = λ plan seats done letters all frame stages k below.
    let before = c.loop-replica.invariant in
    before.done plan seats all frame stages k
    (omega (arith, below, c.loop-replica-test.false, c.len-replica-end.ensures, before.size))
