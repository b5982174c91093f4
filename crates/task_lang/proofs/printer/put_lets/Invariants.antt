-- What was added, and what is left to add, is all of it.
use Rattle.std.proofs.Common.{◌≡◌, ◌++◌, drop}
use Rattle.std.specs.Prelude.{flat_map, codes}
use Rattle.task_lang.specs.Printing.{let_text}
use Rattle.task_lang.proofs.printer.put_lets.Given as goal

abbrev pub invariant-loop-row : goal.invariant-loop-row
invariant-loop-row l =
    l.out ++ flat_map (λ row. let_text l.labels row ++ codes " ") (drop l.row-index l.rows) ≡ l.initial.out ++ flat_map (λ row. let_text l.labels row ++ codes " ") l.rows
