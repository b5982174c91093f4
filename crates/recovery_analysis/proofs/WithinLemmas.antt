-- A level without a node tells that no unvoted walk has so many nodes.
use Rattle.std.proofs.Common.{◌≡◌, ◌⊎◌, ℕ, ◌+◌, ◌-◌, ◌<◌, ◌≤◌, true, false, not, Bool, Option, Some, None, inl, inr, refl, sym, ◌∙◌, ap, subst, arith}
use Rattle.std.proofs.lemmas.Bool.{both_ways, false≢true, cases_lt}
use Rattle.std.specs.Option.{is_none, is_some}
use Rattle.rcp_base.proofs.SearchLaws.{any_of, any_found}
use Rattle.rcp_model.specs.declared.node.Node.{Node}
use Rattle.rcp_model.specs.Walk.{Graph, node_count, at, EndsWalk, HasNoWalk}
use Rattle.rcp_model.specs.Levels.{number, node_of, level, has_level_node}
use Rattle.rcp_model.proofs.LevelLaws.{node_of-number, number-lt, level_unvoted, level_down, level_of_ends, ends_of_level}
use Rattle.rcp_model.proofs.CoreLaws.{cycle_level}
use Rattle.rcp_model.proofs.ShownLaws.{cycle_from}
use Rattle.rcp_model.proofs.AlikeLaws.{same_turned, ends_same}
use Rattle.task_graph.specs.Rows.{Rows, AreFeedsOf}
use Rattle.vote_pattern.specs.Votes.{Votes, AreVotesOf}
use Rattle.recovery_analysis.specs.Graphs.{graph_of}
use Rattle.recovery_analysis.specs.Verdict.{TellsWithin}
use Rattle.recovery_analysis.specs.inner.Levels.{AnswersLeast}
use Rattle.recovery_analysis.proofs.VerdictLemmas.{same_graph}

no_walk_after : (g : Graph) (k limit : ℕ) → k < limit → has_level_node g k ≡ false → HasNoWalk g limit
no_walk_after g k limit less none n e =
    let last : level g (limit - 1) n ≡ true = level_of_ends g (limit - 1) n (subst (λ (x : ℕ). EndsWalk g x n) (omega arith) e) in
    let here : level g k n ≡ true = level_down g k (limit - 1 - k) n (subst (λ (x : ℕ). level g x n ≡ true) (omega arith) last) in
    let u = level_unvoted g k n here in
    both_ways (has_level_node g k) none
    (any_of (node_count g) (λ v. level g k (node_of g v)) (number g n) (number-lt g n u) (ap (level g k) (node_of-number g n u.cell_in) ∙ here))

walk_there : (g : Graph) (k limit : ℕ) → k + 1 ≡ limit → has_level_node g k ≡ true → HasNoWalk g limit → ⊥
walk_there g k limit e some none =
    let f = any_found (node_count g) (λ v. level g k (node_of g v)) some in
    none (node_of g f.v) (subst (λ (x : ℕ). EndsWalk g x (node_of g f.v)) (omega arith) (ends_of_level g k (node_of g f.v) f.passes))

-- on a cycle there is a walk of any number of nodes
round_again : (g : Graph) (limit : ℕ) → 1 ≤ limit → has_level_node g (node_count g) ≡ true → HasNoWalk g limit → ⊥
round_again g limit some cycle none =
    let c = cycle_from g cycle in
    let n : Node = at c.0 0 in
    none n (subst (λ (x : ℕ). EndsWalk g x n) (omega arith) (ends_of_level g (limit - 1) n (cycle_level g c.0 c.1 (limit - 1) 0 c.1.some)))

-- none was found
pub none_if : (found : Option Node) (answer : Bool) → is_some found ≡ not answer → answer ≡ is_none found
none_if None true e = refl
none_if None false e = absurd (false≢true e)
none_if (Some n) true e = absurd (false≢true (sym e))
none_if (Some n) false e = refl

-- as many steps from level to level as tell of the limit, or find a cycle
pub record AreEnough (g : Graph) (limit steps : ℕ) : Type 0 where
  pub few : limit ≤ node_count g → steps ≡ limit - 1
  pub many : node_count g < limit → steps ≡ node_count g

pub enough : (g : Graph) (limit count steps : ℕ) → count ≡ node_count g
    → ((limit ≤ count) × (steps ≡ limit - 1)) ⊎ ((count < limit) × (steps ≡ count)) → AreEnough g limit steps
enough g limit count steps same (inl a) = record { few = λ _. a.1; many = λ l. let few = a.0 in absurd (omega arith) }
enough g limit count steps same (inr a) = record { few = λ l. let many = a.0 in absurd (omega arith); many = λ _. a.1 ∙ same }

pub below : (g : Graph) (limit steps : ℕ) → 1 ≤ limit → AreEnough g limit steps → steps < limit
below g limit steps some enough = elim (cases_lt (node_count g) limit) [
  | inl more ↦ let e = enough.many more in omega arith
  | inr less ↦ let e = enough.few less in omega arith
]

there : (g : Graph) (limit steps : ℕ) → 1 ≤ limit → AreEnough g limit steps → has_level_node g steps ≡ true → HasNoWalk g limit → ⊥
there g limit steps some enough found none = elim (cases_lt (node_count g) limit) [
  | inl more ↦ round_again g limit some (subst (λ (k : ℕ). has_level_node g k ≡ true) (enough.many more) found) none
  | inr less ↦ let e = enough.few less in walk_there g steps limit (omega arith) found none
]

pub last_level_tells : (g : Graph) (limit steps : ℕ) (found : Option Node) → 1 ≤ limit → AreEnough g limit steps → AnswersLeast g steps found
    → TellsWithin limit g (is_none found)
last_level_tells g limit steps None some enough none =
    (λ _. no_walk_after g steps limit (below g limit steps some enough) none, λ _. refl)
last_level_tells g limit steps (Some n) some enough found =
    (λ h. absurd (false≢true h), λ none. absurd (there g limit steps some enough found.some none))

pub early_level_tells : (g : Graph) (limit k : ℕ) (found : Option Node) → k < limit → AnswersLeast g k found → is_none found ≡ true → TellsWithin limit g true
early_level_tells g limit k None less none h = (λ _. no_walk_after g k limit less none, λ _. refl)
early_level_tells g limit k (Some n) less found h = absurd (false≢true h)

-- it tells so of each graph that has these rows and votes
pub within_of_graphs : (rows : Rows) (votes : Votes) (limit : ℕ) (answer : Bool) → TellsWithin limit (graph_of rows votes) answer
    → (g : Graph) → AreFeedsOf g rows → AreVotesOf g votes → TellsWithin limit g answer
within_of_graphs rows votes limit answer is g dependence pattern =
    let same = same_graph g rows votes dependence pattern in (
      λ t n e. is.0 t n (ends_same g (graph_of rows votes) (same_turned (graph_of rows votes) g same) limit n e),
      λ none. is.1 (λ n e. none n (ends_same (graph_of rows votes) g same limit n e)),
    )
