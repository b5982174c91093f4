use Rattle.phase_machine.specs.Body.{commands_after_rows}
use Rattle.rcp_base.specs.Tables.{table}
use Rattle.rcp_model.specs.System.{state_after_rows, state_after_sync}
use Rattle.std.proofs.Common.{Option, Some, ap, ap₂, sym, ℕ, ℤ, ◌∙◌}
use Rattle.phase_machine.proofs.syncing.end_with.Goals as goal

pub returns : goal.returns
returns c = λ plan replica has h.
    let room = h.body.room in
    let rows = c.args.input.now in
    let given : ℕ → Option ℤ = λ a. Some (has.commands a) in
    record {
      body = record {
        setting = h.body.setting;
        number = h.body.number;
        room = record {
          replica = room.replica;
          held = c.hold_one.ensures.cells;
          computed = room.computed;
          own = room.own;
          boxes = room.boxes;
          ballot = room.ballot;
          commands = c.put_rows.ensures.size;
          places = room.places;
        };
      };
      held = c.hold_one.ensures.held plan (Some has.ballot) h.body.setting h.voted
          ∙ ap (λ (q : ℕ). state_after_rows plan rows q (state_after_sync plan has.ballot))
          h.body.number;
      boxes = h.boxes;
      voted = h.voted;
      commands =
          c.put_rows.ensures.commands given
          (h.commands ∙ ap (λ (n : ℕ). table n given) (sym h.body.setting.actuators))
          ∙ ap₂ (λ (n q : ℕ). table n (commands_after_rows rows q given))
          h.body.setting.actuators h.body.number;
    }
