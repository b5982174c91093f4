use Rattle.std.proofs.Common.{◌≡◌, take}
use Rattle.recovery_analysis.proofs.walks.list_of.Given as goal

abbrev pub invariant-loop-node : goal.invariant-loop-node
invariant-loop-node l = l.list ≡ take l.node-index l.nodes
