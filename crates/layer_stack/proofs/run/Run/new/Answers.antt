use Rattle.std.proofs.Common.{refl}
use Rattle.layer_stack.proofs.run.Run.new.Goals as goal

pub returns-clause-stands : goal.returns-clause-stands
returns-clause-stands g c = record {
  rules = c.full_streaks.ensures.rules;
  some = c.requires.length;
  at = c.requires.layer;
  streaks = c.in_ok-streaks.ensures.streaks;
  guard = (λ t. tt, λ t. refl);
  rows = c.in_ok-input.ensures.of_plan;
  input = c.in_ok-input.ensures.rows;
}
