-- The cycle, the recovery length and the walk that are computed are right, and the test finds exactly the unvoted cycles.
use Rattle.std.proofs.Common.{◌≡◌, ◌↔◌, ℕ, ◌<◌, zero, suc, true, false, not, Bool, IsTrue, List, length, inl, inr, ◌∙◌, subst, arith}
use Rattle.std.proofs.lemmas.Bool.{cases_lt, cases_Bool, both_ways, false_from_ne_true, not-true, not_from_false}
use Rattle.std.proofs.lemmas.List.{length-reverse}
use Rattle.std.proofs.lemmas.List.FromFn.{length-map-range_with_len}
use Rattle.rcp_base.proofs.SearchLaws.{any_of, first_is}
use Rattle.rcp_model.specs.declared.node.Node.{Node}
use Rattle.rcp_model.specs.Walk.{Graph, node_count, IsUnvotedCycle, at}
use Rattle.rcp_model.specs.Recovery.{IsRecoveryLength, IsRecovery}
use Rattle.rcp_model.specs.Witness.{IsWitnessWalk, IsShownCycle}
use Rattle.rcp_model.specs.Levels.{has_level_node, has_cycle}
use Rattle.rcp_model.specs.Shown.{longest_walk, recovery_length, walk_node, walk_nodes, walk_of, witness_walk, witness_cycle}
use Rattle.rcp_model.proofs.CoreLaws.{core_of_cycle, level_of_core, has_cycle_from}
use Rattle.rcp_model.proofs.CycleLaws.{shown_cycle, witness_is_cycle}
use Rattle.rcp_model.proofs.WalkLaws.{walk_is_witness, walk_empty, recovery_of}

true_of_not_false : (b : Bool) → not b ≡ false → b ≡ true
true_of_not_false b h = elim (cases_Bool b) [
  | inl yes_ ↦ yes_
  | inr no_ ↦ absurd (both_ways (not b) h (not_from_false b no_))
]

walk_of_is : (g : Graph) (k : ℕ) → ((j : ℕ) → j < k → has_level_node g j ≡ true) → IsWitnessWalk g (walk_of g k)
walk_of_is g zero some = walk_empty g (walk_of g zero) (omega arith)
walk_of_is g (suc k) some = walk_is_witness g k (some k (omega arith))

long_walk_of : (g : Graph) (k : ℕ) → length (walk_of g k) ≡ k
long_walk_of g zero = omega arith
long_walk_of g (suc k) = length-reverse (walk_nodes g k (suc k)) ∙ length-map-range_with_len (walk_node g k) 0 (suc k)

-- without an unvoted cycle the length is the recovery length, and the walk the one of the definition
pub recovery_is_right : (g : Graph) → has_cycle g ≡ false → IsRecovery g (recovery_length g) (witness_walk g)
recovery_is_right g h =
    let none_at : ℕ → Bool = λ k. not (has_level_node g k) in
    let f = first_is (suc (node_count g)) none_at (any_of (suc (node_count g)) none_at (node_count g) (omega arith) (not_from_false (has_cycle g) h)) in
    let some : (j : ℕ) → j < longest_walk g → has_level_node g j ≡ true = λ j l. true_of_not_false (has_level_node g j) (f.none j l) in
    subst (λ (k : ℕ). IsRecovery g k (witness_walk g)) (omega arith)
    (recovery_of g (longest_walk g) (witness_walk g) some (not-true (has_level_node g (longest_walk g)) f.passes)
    (long_walk_of g (longest_walk g)) (walk_of_is g (longest_walk g) some))

-- with one the cycle is that of the definition
pub cycle_is_right : (g : Graph) → has_cycle g ≡ true → IsShownCycle g (witness_cycle g)
cycle_is_right g h =
    let shown = shown_cycle g h in
    record { cycle = witness_is_cycle g (witness_cycle g) shown; witness = shown }

-- a graph has one recovery length
pub length_is_one : (g : Graph) (k l : ℕ) → IsRecoveryLength g k → IsRecoveryLength g l → k ≡ l
length_is_one g k l one other = elim (cases_lt k l) [
  | inl less ↦ let w = other.fewer k one.some less in absurd (one.none w.0 w.1)
  | inr not_less ↦ elim (cases_lt l k) [
    | inl more ↦ let w = one.fewer l other.some more in absurd (other.none w.0 w.1)
    | inr same ↦ omega arith
  ]
]

-- the test finds an unvoted cycle where there is one
pub cycle_found : (g : Graph) (nodes : List Node) → IsUnvotedCycle g nodes → has_cycle g ≡ true
cycle_found g nodes c = has_cycle_from g (at nodes 0) (level_of_core g (at nodes 0) (core_of_cycle g nodes c))

-- where it finds one, there is one
pub cycle_from : (g : Graph) → has_cycle g ≡ true → (nodes : List Node) × IsUnvotedCycle g nodes
cycle_from g h = (witness_cycle g, (cycle_is_right g h).cycle)

-- and where there is none, it finds none
pub none_found : (g : Graph) → ((nodes : List Node) → IsUnvotedCycle g nodes → ⊥) → has_cycle g ≡ false
none_found g none = false_from_ne_true (has_cycle g) (λ h. let c = cycle_from g h in none c.0 c.1)

pub test_is_right : (g : Graph) → IsTrue (has_cycle g) ↔ ((nodes : List Node) × IsUnvotedCycle g nodes)
test_is_right g = (λ h. cycle_from g h, λ c. cycle_found g c.0 c.1)
