-- The sections are the definition's, and so within the limits.
use Rattle.std.proofs.Common.{arith}
use Rattle.std.proofs.lemmas.Grind.{common_steps}
use Rattle.toml.specs.View.{table_view}
use Rattle.task_file.specs.Shape as spec
use Rattle.task_file.proofs.LimitLemmas.{sections_within}
use Rattle.task_file.proofs.shape.sections_of.Goals as goal

pub returns-clause-limits : goal.returns-clause-limits
unfolding spec.sections_of
returns-clause-limits c = sections_within (table_view c.args.document.now) _ (grind (arith, common_steps))
