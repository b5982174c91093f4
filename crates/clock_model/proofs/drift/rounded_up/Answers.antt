use Rattle.clock_model.proofs.DriftLemmas.{computed}
use Rattle.clock_model.proofs.drift.rounded_up.Goals as goal

pub returns-clause-value : goal.returns-clause-value
returns-clause-value c = (computed c.args.x c.args.ppm c.requires.span c.requires.rate).value

pub returns-clause-range : goal.returns-clause-range
returns-clause-range c = (computed c.args.x c.args.ppm c.requires.span c.requires.rate).range
