-- The text of a vote pattern and of its recovery. This project's own.
use Rattle.std.specs.Prelude.{ℕ, List, ◌++◌, flat_map}
use Rattle.std.specs.List.{range_with_len}
use Rattle.rcp_model.specs.declared.node.Node.{Node}
use Rattle.rcp_model.specs.declared.plan.Variable.{Variable}
use Rattle.rcp_model.specs.PlanGraph.{voted_at, voted_count}
use Rattle.rcp_model.specs.Walk.{Graph}
use Rattle.trace_text.specs.declared.label.Label.TheVariants as label
use Rattle.trace_text.specs.Lines.{count_line}
use Rattle.trace_text.specs.PlanLines.{slot_line, walk_line}

-- a line for each slot, by the cells that it votes
abbrev pub slot_lines : List Variable → (ℕ → List ℕ) → ℕ → List ℕ
slot_lines cells voted slots =
    flat_map (λ slot. slot_line cells slot (voted slot)) (range_with_len 0 slots)

-- the votes of each slot, and their number
unfoldable pub pattern_text : List Variable → Graph → List ℕ
pattern_text cells g =
    slot_lines cells (voted_at g) g.slots ++ count_line label.Votes (voted_count g)

-- how soon the pattern recovers, and a walk that is as long as it can be
unfoldable pub recovery_text : List Variable → ℕ → List Node → List ℕ
recovery_text cells length walk = count_line label.Recovery length ++ walk_line cells walk
