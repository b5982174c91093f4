use Rattle.std.proofs.Common.{sym, ◌∙◌, arith}
use Rattle.event_queue.proofs.DueLaws.{due_le, one_more_at, alone_at, kept_at}
use Rattle.event_queue.proofs.agenda.due_with.Goals as goal

pub overflow_add-result : goal.overflow_add-result
overflow_add-result c =
    omega (arith, c.requires.due, c.requires.room, due_le c.args.events.now)

pub returns-then-is_same_moment : goal.returns-then-is_same_moment
returns-then-is_same_moment c =
    omega (
      arith,
      c.requires.due,
      one_more_at c.args.event.now c.in-Some.first.now c.args.events.now c.in-Some.ensures.value
          c.requires.turn (sym c.is_same_moment.ensures ∙ c.if-is_same_moment.true),
    )

pub returns-then-stands_before : goal.returns-then-stands_before
returns-then-stands_before c =
    sym (alone_at c.args.event.now c.in-Some.first.now c.args.events.now c.in-Some.ensures.value
    (sym c.is_same_moment.ensures ∙ c.if-is_same_moment.false)
    (sym c.stands_before.ensures ∙ c.if-stands_before.true))

pub returns-else-stands_before : goal.returns-else-stands_before
returns-else-stands_before c =
    c.requires.due
    ∙ sym (kept_at c.args.event.now c.in-Some.first.now c.args.events.now c.in-Some.ensures.value
    (sym c.is_same_moment.ensures ∙ c.if-is_same_moment.false)
    (sym c.stands_before.ensures ∙ c.if-stands_before.false))
