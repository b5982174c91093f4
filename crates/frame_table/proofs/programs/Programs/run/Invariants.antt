-- The tasks that are left leave from here what all leave.
use Rattle.std.proofs.Common.{◌≡◌, drop}
use Rattle.frame_table.specs.Tasks.{cells_after_numbers}
use Rattle.frame_table.proofs.programs.Programs.run.Given as goal

abbrev pub invariant-loop-number : goal.invariant-loop-number
invariant-loop-number l = record {
  cells : cells_after_numbers l.self (drop l.number-index l.numbers) l.sensors l.cells ≡ cells_after_numbers l.initial.self l.numbers l.sensors l.initial.cells;
  programs : l.self ≡ l.initial.self;
}
