use Rattle.phase_machine.proofs.PlaceLemmas.{table_read}
use Rattle.std.proofs.Common.{FitsSigned, Option, Some, ap, arith, length, pos, rules, unwrap_or, w64, ℕ, ℤ, ◌∙◌}
use Rattle.std.proofs.lemmas.Int.{to_z-of_z}
use Rattle.phase_machine.proofs.syncing.Syncing.command.Goals as goal

pub returns : goal.returns
returns c = λ plan replica has h.
    let fits : FitsSigned w64 c.unwrap_or.result = search rules in
    to_z-of_z w64 c.unwrap_or.result fits ∙ c.unwrap_or.ensures
    ∙ ap (λ (o : Option ℤ). unwrap_or o (pos 0))
    (table_read c.deref.result.now.commands.items (length plan.actuators)
    (λ (a : ℕ). Some (has.commands a)) c.args.actuator c.index.result.now
    (rw c.deref.ensures h.commands)
    (omega (arith, c.requires.actuator, h.body.setting.actuators)) c.index.ensures)
