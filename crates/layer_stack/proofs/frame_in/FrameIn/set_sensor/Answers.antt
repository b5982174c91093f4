use Rattle.std.proofs.Common.{ap, set, rules, w64, to_z, of_z}
use Rattle.rcp_model.specs.FrameRows.{FrameRows}
use Rattle.rcp_model.specs.RowWrites.{cleared, with_sensor}
use Rattle.rcp_model.proofs.FrameOfLaws.{sensor_kept}
use Rattle.layer_stack.specs.FrameFields.{rows_in}
use Rattle.layer_stack.proofs.FrameLemmas.{tables_beside}
use Rattle.layer_stack.proofs.frame_in.FrameIn.set_sensor.Goals as goal

pub invariant_of-self : goal.invariant_of-self
unfolding cleared
invariant_of-self c =
    let h = c.self.invariant in
    let sensors = set c.self.inside.sensors.items c.args.sensor (to_z w64 (of_z w64 c.args.value)) in
    record {
      tables = tables_beside (rows_in c.self.inside) sensors h.tables;
      few_replicas = h.few_replicas;
      few_cells = h.few_cells;
      few_actuators = h.few_actuators;
      quiet = λ still. ap (λ (rows : FrameRows). record rows { sensors = sensors }) (h.quiet still);
    }

pub returns-clause-row : goal.returns-clause-row
unfolding with_sensor
returns-clause-row c = search rules

pub returns-clause-of_plan : goal.returns-clause-of_plan
returns-clause-of_plan c plan h = rw (returns-clause-row c) (sensor_kept plan c.args.self.now h c.args.sensor c.args.value)
