-- The steps are counted in the ledger of the blank.
use Rattle.part_tests.proofs.code.a_task_gives_a_value_for_each_set.Given as goal

abbrev pub ghosts-values_in : goal.ghosts-values_in
ghosts-values_in g a = record { name = a.blank.name; parts = a.blank.parts }
