use Rattle.std.proofs.lemmas.Grind.{common_steps}
use Rattle.std.proofs.Common.{[], arith, refl, ◌++◌, ◌≡◌, ◌∷◌}
use Rattle.clocked_layer.proofs.ClockedLemmas.{finds, has_room, is_due, one_left, runs_on, takes}
use Rattle.event_queue.specs.Agenda.{without_event}
use Rattle.clocked_layer.proofs.clocked.ClockedStepped.step.Goals as goal

pub act-requires-clause-replica : goal.act-requires-clause-replica
act-requires-clause-replica g c =
    let r = c.requires.open in
    let taken = takes c.args.self.now.agenda c.take-event.new.self c.due-count.result _ _
    c.due-count.ensures.order c.due-count.ensures.count c.place_of_answer.ensures.below
    c.take-event.ensures.event c.take-event.ensures.queue in
    omega (
      arith,
      (finds c.args.self.now r.0 c.args.input.now r.1 _ _ _ r.2 taken).replica,
      r.2.shows.of_plan.phases,
    )

pub act-requires-clause-other : goal.act-requires-clause-other
act-requires-clause-other g c =
    let r = c.requires.open in
    let taken = takes c.args.self.now.agenda c.take-event.new.self c.due-count.result _ _
    c.due-count.ensures.order c.due-count.ensures.count c.place_of_answer.ensures.below
    c.take-event.ensures.event c.take-event.ensures.queue in
    omega (
      arith,
      (finds c.args.self.now r.0 c.args.input.now r.1 _ _ _ r.2 taken).other,
      r.2.shows.of_plan.phases,
    )

pub act-requires-clause-shows : goal.act-requires-clause-shows
act-requires-clause-shows g c =
    let r = c.requires.open in
    let taken = takes c.args.self.now.agenda c.take-event.new.self c.due-count.result _ _
    c.due-count.ensures.order c.due-count.ensures.count c.place_of_answer.ensures.below
    c.take-event.ensures.event c.take-event.ensures.queue in
    (r.0, r.1, r.2.shows, (finds c.args.self.now r.0 c.args.input.now r.1 _ _ _ r.2 taken).stage)

pub returns-clause-due : goal.returns-clause-due
returns-clause-due g c plan block runs =
    is_due c.args.self.now plan c.args.input.now block _ _ _ runs
    (takes c.args.self.now.agenda c.take-event.new.self c.due-count.result _ _
    c.due-count.ensures.order c.due-count.ensures.count c.place_of_answer.ensures.below
    c.take-event.ensures.event c.take-event.ensures.queue)

pub returns-clause-fewer : goal.returns-clause-fewer
returns-clause-fewer g c =
    one_left _ _ _ _ _ refl
    (takes c.args.self.now.agenda c.take-event.new.self c.due-count.result _ _
    c.due-count.ensures.order c.due-count.ensures.count c.place_of_answer.ensures.below
    c.take-event.ensures.event c.take-event.ensures.queue)

pub returns-clause-block : goal.returns-clause-block
returns-clause-block g c plan block runs =
    let rows = c.args.input.now in
    let taken = takes c.args.self.now.agenda c.take-event.new.self c.due-count.result _ _
    c.due-count.ensures.order c.due-count.ensures.count c.place_of_answer.ensures.below
    c.take-event.ensures.event c.take-event.ensures.queue in
    let event = c.take-event.result in
    let room = has_room c.args.self.now plan rows block _ _ _ runs taken in
    let logged : c.push.new.self.items ≡ c.args.self.now.taken.items ++ event ∷ [] =
    grind (arith, common_steps, c.push.ensures.succeeds room) in
    runs_on c.args.self.now plan rows block _ _ event runs taken _ refl
    (c.act.ensures plan block (without_event event block.left) runs.shows
    (finds c.args.self.now plan rows block _ _ _ runs taken).stage)
    logged c.push.ensures.capacity
