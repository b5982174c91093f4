use Rattle.std.proofs.Common.{ap, arith, length, List, ◌∙◌}
use Rattle.event_queue.specs.declared.event.Event.{Event}
use Rattle.clocked_layer.proofs.ClockedLemmas.{last_stages, none_late, ready_next}
use Rattle.clocked_layer.proofs.clocked.ClockedStepped.close.Goals as goal

pub returns-clause-state : goal.returns-clause-state
returns-clause-state g c plan block runs none =
    let rows = c.args.input.now in
    let log = c.args.self.now.taken.items in
    record {
      at = c.finish.ensures plan block runs.shows
          (last_stages plan rows log block runs.way none)
          (none_late plan rows log block runs.way none);
      ready = ready_next plan rows log block runs.way none;
      none = runs.left ∙ none;
      spare = omega (
        arith,
        runs.all,
        ap (λ (events : List Event). length events) (runs.left ∙ none),
      );
      room = runs.room;
    }
