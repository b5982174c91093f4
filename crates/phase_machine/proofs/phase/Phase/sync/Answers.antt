use Rattle.phase_machine.proofs.SeatLemmas.{synced_shown}
use Rattle.phase_machine.specs.Phase.{ShowsSeat}
use Rattle.phase_machine.specs.declared.phase.Phase.{Phase}
use Rattle.std.proofs.Common.{subst}
use Rattle.phase_machine.proofs.phase.Phase.sync.Goals as goal

pub returns-in-Syncing : goal.returns-in-Syncing
returns-in-Syncing c = record {
  shows = λ plan replica seat shows decided.
      let rows = c.args.input.now in
      let at = subst (λ (x : Phase). ShowsSeat plan rows replica x seat) c.in-Syncing.is shows in
      synced_shown plan rows replica seat c.end.result at.1 at.2
      (c.end.ensures plan replica _ at.3);
}
