use Rattle.std.proofs.Common.{arith}
use Rattle.trace_text.proofs.PieceLemmas.{value_put}
use Rattle.trace_text.proofs.lines.Lines.put_values.Goals as goal

pub put_byte-requires : goal.put_byte-requires
put_byte-requires c = omega (arith, c.requires, c.loop-value.invariant.1, c.loop-value-test.true)

pub put_value-requires : goal.put_value-requires
put_value-requires c = omega (arith, c.put_byte.ensures.length, c.requires, c.loop-value.invariant.1, c.loop-value-test.true)

pub loop-value-preserved : goal.loop-value-preserved
loop-value-preserved c = (
  value_put _ _ _ _ c.args.values.now c.loop-value.value-index _ c.loop-value-test.true c.put_byte.ensures.put c.put_value.ensures.put c.loop-value.invariant.0,
  omega (arith, c.put_byte.ensures.length, c.put_value.ensures.room, c.loop-value.invariant.1),
)
