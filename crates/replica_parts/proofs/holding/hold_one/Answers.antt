use Rattle.rcp_model.specs.System.{state_after_rows}
use Rattle.replica_parts.proofs.QuietLemmas.{state_kept}
use Rattle.std.proofs.Common.{ap, ◌∙◌}
use Rattle.replica_parts.proofs.holding.hold_one.Goals as goal

pub returns-else-not-is_quiet-clause-held : goal.returns-else-not-is_quiet-clause-held
returns-else-not-is_quiet-clause-held c = λ plan voted s b.
    state_kept c.args.input.now (c.is_quiet.ensures c.if-not-is_quiet.false) plan c.args.replica c.sync.new.held (c.sync.ensures.cells ∙ s.cells)
    ∙ ap (state_after_rows plan c.args.input.now c.args.replica) (c.sync.ensures.held plan voted s b)
