use Rattle.rcp_model.specs.Command.{command_of}
use Rattle.std.proofs.Common.{refl, ◌∙◌}
use Rattle.replica_parts.proofs.commanding.command_one.Goals as goal

pub returns-clause-value : goal.returns-clause-value
unfolding command_of
returns-clause-value c = λ plan replicas voted t b.
    c.or.ensures ∙ rw (c.act-row.ensures, c.evaluated.ensures.value plan replicas voted t b, c.sensors.ensures) refl
