use Rattle.phase_machine.proofs.PlaceLemmas.{no_command}
use Rattle.phase_machine.specs.Body.{commands_after_rows}
use Rattle.rcp_base.specs.Tables.{table}
use Rattle.rcp_model.specs.System.{state_after_rows}
use Rattle.std.proofs.Common.{None, ap₂, refl, ℕ, ◌∙◌}
use Rattle.phase_machine.proofs.computing.skip_with.Goals as goal

pub returns : goal.returns
returns c = λ plan replica before h.
    let room = h.body.room in
    let rows = c.args.input.now in
    record {
      body = record {
        setting = h.body.setting;
        number = h.body.number;
        room = record {
          replica = room.replica;
          held = c.hold_one.ensures.cells;
          computed = room.computed;
          own = room.own;
          boxes = room.boxes;
          ballot = record { heard = room.ballot.heard; cells = room.ballot.cells };
          commands = c.take_rows.ensures.size;
          places = room.places;
        };
      };
      held = c.hold_one.ensures.held plan None h.body.setting refl
          ∙ ap₂ (state_after_rows plan rows) h.body.number h.held;
      boxes = h.boxes;
      voted = refl;
      commands = c.take_rows.ensures.commands
          ∙ ap₂ (λ (n q : ℕ). table n (commands_after_rows rows q (λ (a : ℕ). no_command)))
          h.body.setting.actuators h.body.number;
    }
