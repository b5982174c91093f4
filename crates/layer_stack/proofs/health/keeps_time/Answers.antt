use Rattle.std.proofs.Common.{arith, to_z-of_z}
use Rattle.rcp_model.specs.Health.{keeps_time}
use Rattle.layer_stack.proofs.health.keeps_time.Goals as goal

pub returns-then-timing-rate : goal.returns-then-timing-rate
unfolding keeps_time
returns-then-timing-rate c = grind (arith, to_z-of_z)

pub returns-else-timing-rate : goal.returns-else-timing-rate
unfolding keeps_time
returns-else-timing-rate c = grind (arith, to_z-of_z)
