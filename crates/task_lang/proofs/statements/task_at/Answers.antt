use Rattle.std.proofs.Common.{rules, sym, subst, ◌∙◌}
use Rattle.std.proofs.lemmas.Result.{err_from_is_err_and}
use Rattle.task_lang.specs.inner.Levels.{Fails}
use Rattle.task_lang.proofs.RowSteps.{task_begins, next_shorter, still_few, one_more, the_last, the_fault}
use Rattle.task_lang.proofs.statements.task_at.Goals as goal

pub statements-init : goal.statements-init
statements-init c = record {
  reads = task_begins c.args.depth c.args.sensors.now c.args.cells.now c.args.name c.new-rows.result c.args.tokens.now c.new-rows.ensures.names c.new-rows.ensures.lets c.new-rows.ensures.sets;
  few = search rules;
}

pub returns-in_err-statement : goal.returns-in_err-statement
returns-in_err-statement c =
    let end = err_from_is_err_and c.from_residual.result c.from_residual.ensures.1 in
    rw (end.1, end.2)
    (subst (Fails c.in_err-statement.field-0.0) c.statements.invariant.reads
    (the_fault c.args.depth c.args.sensors.now c.args.cells.now c.args.name c.statements.rows c.new-names.result c.as_slice.result.now c.new-names.ensures c.as_slice.ensures
    c.statements.rest.now c.in_err-statement.field-0.0 c.in_err-statement.ensures))

pub returns-then-is_empty : goal.returns-then-is_empty
returns-then-is_empty c =
    sym c.statements.invariant.reads
    ∙ the_last c.args.depth c.args.sensors.now c.args.cells.now c.args.name c.statements.rows c.new-names.result c.as_slice.result.now c.new-names.ensures c.as_slice.ensures
    c.statements.rest.now c.in_ok-statement.statement c.add.new.self c.in_ok-statement.next.now c.is_empty.result
    c.in_ok-statement.ensures c.in_ok-add.ensures c.is_empty.ensures c.if-is_empty.true

pub statements-smaller : goal.statements-smaller
statements-smaller c =
    next_shorter c.args.depth c.args.sensors.now c.args.cells.now c.args.name c.statements.rows c.new-names.result c.as_slice.result.now c.new-names.ensures c.as_slice.ensures
    c.statements.rest.now c.in_ok-statement.statement c.in_ok-statement.next.now c.in_ok-statement.ensures

pub statements-preserved : goal.statements-preserved
statements-preserved c = record {
  reads =
      one_more c.args.depth c.args.sensors.now c.args.cells.now c.args.name c.statements.rows c.new-names.result c.as_slice.result.now c.new-names.ensures c.as_slice.ensures
      c.statements.rest.now c.in_ok-statement.statement c.add.new.self c.in_ok-statement.next.now c.is_empty.result
      c.in_ok-statement.ensures c.in_ok-add.ensures c.is_empty.ensures c.if-is_empty.false
      ∙ c.statements.invariant.reads;
  few =
      still_few c.args.depth c.args.sensors.now c.args.cells.now c.args.name c.statements.rows c.new-names.result c.as_slice.result.now c.new-names.ensures c.as_slice.ensures
      c.statements.rest.now c.in_ok-statement.statement c.add.new.self c.in_ok-statement.next.now _
      c.in_ok-statement.ensures c.in_ok-add.ensures c.statements.invariant.few;
}
