use Rattle.task_lang.proofs.PrintingLaws.{printed_tasks_read_back}
use Rattle.task_lang.proofs.laws.printed_task_reads_back.Goals as goal

pub returns : goal.returns
returns c = printed_tasks_read_back
