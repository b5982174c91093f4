use Rattle.std.proofs.Common.{◌<◌, slice_get, ap, ◌∙◌, sym, arith}
use Rattle.event_queue.specs.Agenda.{EventQueue, due, left_in}
use Rattle.event_queue.proofs.AgendaLemmas.{place_of, is_left}
use Rattle.event_queue.proofs.agenda.Agenda.due_at.Goals as goal

below : (c : goal.After-self) → c.args.i < due (left_in c.self.inside)
below c = omega (arith, c.requires, ap (λ (q : EventQueue). due q.left) c.self.view_is)

pub index-requires : goal.index-requires
index-requires c =
    omega (
      arith,
      place_of c.self.inside.taken c.self.inside.events.items c.args.i c.self.invariant.front
          (below c),
      c.self.inside.events.ok.0,
    )

pub returns : goal.returns
returns c =
    ap (λ (q : EventQueue). slice_get q.left c.args.i) (sym c.self.view_is)
    ∙ is_left c.self.inside.taken c.self.inside.events.items c.args.i c.index.result.now
    (omega (arith, c.requires, ap (λ (q : EventQueue). due q.left) c.self.view_is))
    c.index.ensures
