use Rattle.std.proofs.Common.{ℕ, Option, ap, ap₂, subst, ◌∙◌}
use Rattle.rcp_model.specs.Messages.{Letter}
use Rattle.phase_machine.specs.Seats.{Seat}
use Rattle.replica_parts.specs.Places.{post_at}
use Rattle.distributed_layer.specs.inner.Amid.{ShowSeats}
use Rattle.distributed_layer.specs.Together.{all_filled, letters_together, sent_together}
use Rattle.distributed_layer.proofs.AmidLemmas.{amid_after, amid_shows}
use Rattle.distributed_layer.proofs.frames.fill_together.Goals as goal

pub deliver_all-requires-clause-can : goal.deliver_all-requires-clause-can
deliver_all-requires-clause-can c = (
  c.requires.0,
  _,
  amid_shows c.args.layer.now c.requires.0 c.requires.1 c.args.input.now _ _ c.requires.3,
)

pub deliver_all-requires-2-clause-can : goal.deliver_all-requires-2-clause-can
deliver_all-requires-2-clause-can c = (
  c.requires.0,
  _,
  c.deliver_all.ensures c.requires.0 _
      (amid_shows c.args.layer.now c.requires.0 c.requires.1 c.args.input.now _ _ c.requires.3),
)

pub returns : goal.returns
returns c = λ plan state boxes h.
    let rows = c.args.input.now in
    let done = c.args.layer.now.done in
    let sent = sent_together plan state rows boxes in
    let late = post_at c.as_slice.result.now in
    let fresh = post_at c.as_slice-2.result.now in
    let Letters : Type 0 = ℕ → ℕ → Option Letter in
    let same =
    ap (λ (n : ℕ). all_filled plan n rows fresh (all_filled plan n rows late sent)) h.done
    ∙ ap₂ (λ (now before : Letters).
    all_filled plan state.done rows now (all_filled plan state.done rows before sent))
    (ap post_at c.as_slice-2.ensures.value ∙ h.fresh_letters)
    (ap post_at c.as_slice.ensures.value ∙ h.late_letters) in
    let filled =
    subst (λ (seats : ℕ → Seat).
    ShowSeats plan c.args.layer.now.setting rows c.deliver_all-2.new.phases.items seats) same
    (c.deliver_all-2.ensures plan _ (c.deliver_all.ensures plan sent
    (amid_shows c.args.layer.now plan state rows _ sent h))) in
    amid_after c.args.layer.now c.args.layer.now.table c.deliver_all-2.new.phases plan state rows
    (letters_together plan state rows boxes) sent _ h h.of_plan.code filled
