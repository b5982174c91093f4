-- How many names may be in scope, so that the place of each fits 16 bits.
-- This project's own.
use Rattle.std.specs.Prelude.{◌≤◌, length}
use Rattle.task_lang.specs.Words.{Scope}

pub record IsShort (scope : Scope) : Type 0 where
  pub sensors : length scope.sensors ≤ 65536
  pub cells : length scope.cells ≤ 65536
  pub lets : length scope.lets ≤ 65536
