-- The line so far and the nodes that are left make the line.
use Rattle.std.proofs.Common.{◌≡◌, ◌++◌, drop}
use Rattle.trace_text.specs.PlanLines.{nodes_text}
use Rattle.trace_text.proofs.lines.Lines.add_nodes.Given as goal

abbrev pub invariant-loop-node : goal.invariant-loop-node
invariant-loop-node l = l.self.line.items ++ nodes_text l.cells (drop l.node-index l.nodes) ≡ l.initial.self.line.items ++ nodes_text l.cells l.nodes
