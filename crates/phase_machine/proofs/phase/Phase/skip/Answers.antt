use Rattle.phase_machine.proofs.SeatLemmas.{skipped_rests}
use Rattle.phase_machine.specs.Phase.{ShowsSeat}
use Rattle.phase_machine.specs.declared.phase.Phase.{Phase}
use Rattle.std.proofs.Common.{subst}
use Rattle.phase_machine.proofs.phase.Phase.skip.Goals as goal

pub returns-in-Computing : goal.returns-in-Computing
returns-in-Computing c = record {
  rests = λ plan replica seat shows waits.
      let rows = c.args.input.now in
      skipped_rests plan rows replica seat c.in-Computing.phase c.skip.result
      (c.skip.ensures plan replica) waits
      (subst (λ (x : Phase). ShowsSeat plan rows replica x seat) c.in-Computing.is shows);
}
