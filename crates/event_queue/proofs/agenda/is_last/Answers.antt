use Rattle.std.specs.Ordering.{is_lt}
use Rattle.std.proofs.Common.{◌≡◌, ◌-◌, Bool, true, false, not, length, get_or, refl, sym, ap, ◌∙◌}
use Rattle.event_queue.specs.Event.{event_cmp}
use Rattle.event_queue.proofs.TurnLaws.{inserted_end}
use Rattle.event_queue.proofs.agenda.is_last.Goals as goal

pub returns-in-Some : goal.returns-in-Some
returns-in-Some c behind =
    let es = c.args.events.now in
    let last = c.in-Some.last.now in
    let is : last ≡ get_or es (length es - 1) last = c.in-Some.ensures.item.1 in
    inserted_end c.args.event.now es last c.requires.turn
    (ap (λ f. is_lt (event_cmp c.args.event.now f)) (sym is)
    ∙ sym c.stands_before.ensures ∙ ends c.stands_before.result behind)
  where
    ends : (t : Bool) → not t ≡ true → t ≡ false
    ends true h = cc
    ends false h = refl
