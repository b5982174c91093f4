use Rattle.std.proofs.Common.{SFits, rules, w64, ◌∙◌}
use Rattle.std.proofs.lemmas.Int.{to_z-of_z}
use Rattle.clocked_layer.proofs.MachineLemmas.{rests_there}
use Rattle.phase_machine.specs.Phases.{part_of}
use Rattle.clocked_layer.proofs.clocked.ClockedStepped.cell.Goals as goal

pub cell-requires : goal.cell-requires
cell-requires g c =
    let r = c.requires in
    let mail = r.2.0 in (
      r.0,
      c.args.replica,
      part_of r.1 c.args.replica (mail c.args.replica),
      rests_there c.args.self.now.machine r.0 c.args.replica c.phase.result.now c.phase.ensures
          r.1 mail r.2.1.at r.3,
      r.4,
    )

pub returns : goal.returns
returns g c plan state rests below inside =
    let fits : SFits w64 c.cell.result = search rules in
    let mail = rests.0 in
    to_z-of_z w64 c.cell.result fits
    ∙ c.cell.ensures plan c.args.replica (part_of state c.args.replica (mail c.args.replica))
    (rests_there c.args.self.now.machine plan c.args.replica c.phase.result.now c.phase.ensures
    state mail rests.1.at below)
