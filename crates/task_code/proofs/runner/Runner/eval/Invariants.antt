-- The steps are counted in the ledger of the blank.
use Rattle.task_code.proofs.runner.Runner.eval.Given as goal

abbrev pub ghosts-eval_in : goal.ghosts-eval_in
ghosts-eval_in a = record { name = a.blank.name; parts = a.blank.parts }
