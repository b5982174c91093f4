-- An operand that is no leaf keeps its code.
use Rattle.task_code.proofs.LeafLemmas.{whole_neg, whole_not, whole_abs, whole_two, whole_clamp, whole_if}
use Rattle.task_code.proofs.emit.with_leaf.Goals as goal

pub returns-in-Neg : goal.returns-in-Neg
returns-in-Neg c = whole_neg c.args.op c.args.e.now c.in-Neg.field-0 c.in-Neg.is

pub returns-in-Not : goal.returns-in-Not
returns-in-Not c = whole_not c.args.op c.args.e.now c.in-Not.field-0 c.in-Not.is

pub returns-in-Abs : goal.returns-in-Abs
returns-in-Abs c = whole_abs c.args.op c.args.e.now c.in-Abs.field-0 c.in-Abs.is

pub returns-in-Two : goal.returns-in-Two
returns-in-Two c = whole_two c.args.op c.args.e.now c.in-Two.field-0 c.in-Two.field-1 c.in-Two.field-2 c.in-Two.is

pub returns-in-Clamp : goal.returns-in-Clamp
returns-in-Clamp c = whole_clamp c.args.op c.args.e.now c.in-Clamp.field-0 c.in-Clamp.field-1 c.in-Clamp.field-2 c.in-Clamp.is

pub returns-in-If : goal.returns-in-If
returns-in-If c = whole_if c.args.op c.args.e.now c.in-If.field-0 c.in-If.field-1 c.in-If.field-2 c.in-If.is
