-- The names of the variables so far.
use Rattle.std.proofs.Common.{◌≡◌, take}
use Rattle.rcp_model.specs.Plan.{variable_names}
use Rattle.trace_text.proofs.lines.plan.names_of.Given as goal

abbrev pub invariant-loop-variable : goal.invariant-loop-variable
invariant-loop-variable l = l.names ≡ variable_names (take l.variable-index l.variables)
