use Rattle.std.proofs.Common.{◌≡◌, ◌≤◌, ◌+◌, length}
use Rattle.task_lang.specs.StatementReaders.{read_task}
use Rattle.task_lang.proofs.RowSteps.{task_behind}
use Rattle.task_lang.proofs.statements.task_at.Given as goal

abbrev pub invariant-statements : goal.invariant-statements
invariant-statements l = record {
  reads : task_behind l.depth l.sensors l.cells l.name l.rows l.rest ≡ read_task l.depth l.sensors l.cells l.name l.initial.rest;
  few : length l.rows.names + length l.rest ≤ length l.initial.rest;
}

abbrev pub decreases-statements : goal.decreases-statements
decreases-statements l = length l.rest
