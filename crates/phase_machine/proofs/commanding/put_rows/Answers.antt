use Rattle.layer_stack.proofs.QuietLaws.{no_act}
use Rattle.rcp_base.proofs.FillLaws.{table_agree}
use Rattle.std.proofs.Common.{None, ap, sym, ◌∙◌}
use Rattle.std.specs.Option.{option_or}
use Rattle.phase_machine.proofs.commanding.put_rows.Goals as goal

pub returns-else-not-is_quiet-clause-commands : goal.returns-else-not-is_quiet-clause-commands
returns-else-not-is_quiet-clause-commands c = λ given e.
    let rows = c.args.input.now in
    let quiet = c.is_quiet.ensures c.if-not-is_quiet.false in
    e ∙ table_agree c.args.setting.now.actuators _ _ None (λ a lt.
    sym (ap (λ row. option_or row (given a)) (no_act rows quiet c.args.replica a)))
