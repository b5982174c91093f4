use Rattle.phase_machine.proofs.ComputingLemmas.{computed_size, sized_again}
use Rattle.replica_parts.specs.States.{state_after_compute}
use Rattle.rcp_model.specs.Uniprocessor.{ProcessorState}
use Rattle.std.proofs.Common.{List, ap, ap₂, length, ℤ, ◌∙◌}
use Rattle.phase_machine.proofs.computing.begin_with.Goals as goal

pub returns-clause-computed : goal.returns-clause-computed
returns-clause-computed c = λ plan replica before h code.
    let room = h.body.room in
    let computed = c.compute.ensures.computed plan code in
    record {
      body = record {
        setting = h.body.setting;
        number = h.body.number;
        room = record {
          replica = room.replica;
          held = room.held;
          computed = ap (λ (x : ProcessorState). length x.cells) computed
              ∙ computed_size plan c.sensors.result.now c.args.body.now.held ∙ room.held;
          own = room.own;
          boxes = sized_again _ _ _ _ c.empty.ensures.sizes room.boxes;
          ballot = room.ballot;
          commands = room.commands;
          places = room.places;
        };
      };
      computed = computed
          ∙ ap₂ (λ (s : List ℤ) (x : ProcessorState). state_after_compute plan s x)
          c.sensors.ensures h.held;
      boxes = c.empty.ensures.none;
    }
