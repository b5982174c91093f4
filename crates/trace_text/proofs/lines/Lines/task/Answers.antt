use Rattle.trace_text.proofs.lines.Lines.task.Goals as goal

pub returns : goal.returns
returns c = rw c.parts.ensures.parts at c.task_of.ensures
