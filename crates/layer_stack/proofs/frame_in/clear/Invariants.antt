use Rattle.std.proofs.Common.{◌≡◌, take, replicate}
use Rattle.layer_stack.proofs.frame_in.clear.Given as goal

abbrev pub invariant-loop-item : goal.invariant-loop-item
invariant-loop-item g l = take l.item-index l.item-items ≡ replicate l.item-index l.value
