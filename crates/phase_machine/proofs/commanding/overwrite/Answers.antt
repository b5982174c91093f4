use Rattle.rcp_base.proofs.FillLaws.{filled_all, filled_more, table_agree}
use Rattle.rcp_base.proofs.TableLaws.{get_or-table}
use Rattle.rcp_model.specs.FrameRows.{act_row}
use Rattle.std.proofs.Common.{List, None, Option, ap, ap₂, arith, get_or, length, ℤ, ◌<◌, ◌∙◌}
use Rattle.std.proofs.lemmas.List.{get_or_read}
use Rattle.std.specs.Option.{option_or}
use Rattle.phase_machine.proofs.commanding.overwrite.Goals as goal

pub loop-actuator-preserved : goal.loop-actuator-preserved
loop-actuator-preserved c =
    let before = c.loop-actuator.invariant.commands in
    let now = c.loop-actuator.commands.items in
    let a = c.loop-actuator.actuator in
    let lt : a < c.args.setting.now.actuators =
    omega (arith, c.loop-actuator-test.true, c.actuators-actuator-end.ensures) in
    let there : a < length now = omega (arith, lt, before.size) in
    record {
      commands = filled_more _ _ None _ _ a _ before lt
          (c.or.ensures ∙ ap₂ option_or c.act.ensures
          (get_or_read now a c.index.result.now there c.index.ensures None
          ∙ before.rest a (omega arith)));
    }

pub returns-clause-commands : goal.returns-clause-commands
returns-clause-commands c = λ given e.
    let rows = c.args.input.now in
    filled_all _ _ None _ _ c.loop-actuator.actuator c.loop-actuator.invariant.commands
    (omega (arith, c.loop-actuator-test.false, c.actuators-actuator-end.ensures))
    ∙ table_agree c.args.setting.now.actuators _ _ None (λ a lt.
    ap (option_or (act_row rows c.args.replica a))
    (ap (λ (xs : List (Option ℤ)). get_or xs a None) e ∙ get_or-table _ given a None lt))
