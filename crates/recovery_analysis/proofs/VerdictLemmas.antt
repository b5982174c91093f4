-- The verdict on a graph, as it is computed, is right, and is the only one that is.
use Rattle.std.proofs.Common.{◌≡◌, ◌+◌, length, inl, inr, sym, ◌∙◌, ap, ap₂, subst, arith}
use Rattle.std.proofs.lemmas.Bool.{cases_Bool, cond-true, cond-false}
use Rattle.rcp_model.specs.Walk.{Graph}
use Rattle.rcp_model.specs.Levels.{has_cycle}
use Rattle.rcp_model.specs.Shown.{recovery_length, witness_walk, witness_cycle}
use Rattle.rcp_model.proofs.AlikeLaws.{IsSame, shown_same, recovery_same}
use Rattle.rcp_model.proofs.ShownLaws.{cycle_found, none_found, cycle_is_right, recovery_is_right, length_is_one}
use Rattle.rcp_model.proofs.UniqueLaws.{cycle_unique, walk_unique}
use Rattle.task_graph.specs.Rows.{Rows, AreFeedsOf}
use Rattle.vote_pattern.specs.Votes.{Votes, AreVotesOf}
use Rattle.recovery_analysis.specs.Graphs.{graph_of}
use Rattle.recovery_analysis.specs.declared.verdict.Verdict.{Verdict}
use Rattle.recovery_analysis.specs.declared.verdict.Verdict.TheVariants.{Recovers, Cycle}
use Rattle.recovery_analysis.specs.Verdict.{IsVerdict, verdict_of}

pub verdict_is_right : (g : Graph) → IsVerdict g (verdict_of g)
verdict_is_right g = elim (cases_Bool (has_cycle g)) [
  | inl some ↦ subst (IsVerdict g) (sym (cond-true (has_cycle g) _ _ some)) (cycle_is_right g some)
  | inr none ↦ subst (IsVerdict g) (sym (cond-false (has_cycle g) _ _ none)) (recovery_is_right g none)
]

-- a right verdict is the one that is computed
verdict_unique : (g : Graph) (d : Verdict) → IsVerdict g d → d ≡ verdict_of g
verdict_unique g (Cycle nodes) r =
    let some = cycle_found g nodes r.cycle in
    ap Cycle (cycle_unique g nodes (witness_cycle g) r.witness (cycle_is_right g some).witness)
    ∙ sym (cond-true (has_cycle g) _ _ some)
verdict_unique g (Recovers k walk) r =
    let none = none_found g r.no_cycle in
    let shown = recovery_is_right g none in
    let same : k ≡ recovery_length g = length_is_one g k (recovery_length g) r.least shown.least in
    let long : length walk + 1 ≡ k = r.one_more in
    let long_shown : length (witness_walk g) + 1 ≡ recovery_length g = shown.one_more in
    ap₂ Recovers same (walk_unique g walk (witness_walk g) r.walk shown.walk (omega arith))
    ∙ sym (cond-false (has_cycle g) _ _ none)

verdict_same : (g h : Graph) → IsSame g h → (d : Verdict) → IsVerdict g d → IsVerdict h d
verdict_same g h a (Cycle nodes) r = shown_same g h a nodes r
verdict_same g h a (Recovers k nodes) r = recovery_same g h a k nodes r

-- rows and votes have the graph whose they are
pub same_graph : (g : Graph) (rows : Rows) (votes : Votes) → AreFeedsOf g rows → AreVotesOf g votes → IsSame (graph_of rows votes) g
same_graph g rows votes dependence pattern =
    let slots : rows.slots ≡ g.slots = dependence.slots in
    let cells : rows.cells ≡ g.cells = dependence.cells in
    record {
      alike = record {
        slots = sym dependence.slots;
        cells = sym dependence.cells;
        feeds = λ s d c p q r. sym (dependence.needs s c d (omega arith) (omega arith) (omega arith));
      };
      votes = λ s c p q. sym (pattern.each s c (omega arith) (omega arith));
    }

-- the verdict on rows and votes is the one on each graph whose they are
pub verdict_of_graphs : (rows : Rows) (votes : Votes) (d : Verdict) → IsVerdict (graph_of rows votes) d
    → (g : Graph) → AreFeedsOf g rows → AreVotesOf g votes → d ≡ verdict_of g
verdict_of_graphs rows votes d v g dependence pattern =
    verdict_unique g d (verdict_same (graph_of rows votes) g (same_graph g rows votes dependence pattern) d v)
