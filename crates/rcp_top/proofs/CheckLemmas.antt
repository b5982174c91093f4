-- The lines of a vote pattern, one slot at a time.
use Rattle.std.proofs.Common.{◌≡◌, ℕ, zero, suc, ◌+◌, ◌<◌, ◌≤◌, List, ◌++◌, flat_map, refl, ap, ◌∙◌, arith}
use Rattle.std.specs.List.{range_with_len}
use Rattle.rcp_model.specs.declared.plan.Variable.{Variable}
use Rattle.rcp_model.specs.PlanGraph.{voted_at}
use Rattle.rcp_model.specs.Walk.{Graph}
use Rattle.trace_text.specs.PlanLines.{slot_line}
use Rattle.vote_pattern.proofs.GraphLaws.{listed_alike}
use Rattle.vote_pattern.specs.Votes.{Votes, AreVotesOf, votes_at}
use Rattle.rcp_top.specs.PatternText.{slot_lines}
use Rattle.rcp_top.proofs.LineLemmas.{numbered_more}

-- the lines of so many slots from one on
abbrev pub slots_left : List Variable → (ℕ → List ℕ) → ℕ → ℕ → List ℕ
slots_left cells voted slot count = flat_map (λ s. slot_line cells s (voted s)) (range_with_len slot count)

same_from : (cells : List Variable) (one other : ℕ → List ℕ) (slot count : ℕ) → ((s : ℕ) → slot ≤ s → s < slot + count → one s ≡ other s)
    → slots_left cells one slot count ≡ slots_left cells other slot count
same_from cells one other slot zero same = refl
same_from cells one other slot (suc count) same =
    ap (λ voted. slot_line cells slot voted ++ slots_left cells one (slot + 1) count) (same slot (omega arith) (omega arith))
    ∙ ap (λ rest. slot_line cells slot (other slot) ++ rest) (same_from cells one other (slot + 1) count (λ s low high. same s (omega arith) (omega arith)))

-- slots that vote the same have the same lines
pub same_slot_lines : (cells : List Variable) (one other : ℕ → List ℕ) (slots : ℕ) → ((s : ℕ) → s < slots → one s ≡ other s)
    → slot_lines cells one slots ≡ slot_lines cells other slots
same_slot_lines cells one other slots same = same_from cells one other 0 slots (λ s low high. same s (omega arith))

-- the votes of a graph have the lines of the graph
pub graph_lines : (cells : List Variable) (g : Graph) (votes : Votes) → AreVotesOf g votes
    → slot_lines cells (votes_at votes) votes.slots ≡ slot_lines cells (voted_at g) g.slots
graph_lines cells g votes are =
    ap (slot_lines cells (votes_at votes)) are.slots
    ∙ same_slot_lines cells (votes_at votes) (voted_at g) g.slots (listed_alike g votes are).lists

-- the lines of one slot more
pub slot_lines_more : (cells : List Variable) (voted : ℕ → List ℕ) (slot : ℕ) → slot_lines cells voted slot ++ slot_line cells slot (voted slot) ≡ slot_lines cells voted (slot + 1)
slot_lines_more cells voted slot = numbered_more (λ s. slot_line cells s (voted s)) slot
