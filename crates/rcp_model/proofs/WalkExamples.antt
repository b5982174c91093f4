-- The walks of the graph of two slots and two cells, by the statements: in its first slot the first cell feeds both, and in
-- the second each cell feeds itself. This project's own.
use Rattle.std.proofs.Common.{◌≡◌, refl, sym, ◌∙◌, ap, ap₂, subst, ℕ, ◌+◌, ◌%◌, ◌<◌, zero, suc, true, List, [], ◌∷◌, length, inl, inr, arith}
use Rattle.std.proofs.lemmas.Bool.{both_ways, eqb-true, cases_eq}
use Rattle.rcp_model.specs.declared.node.Node.{Node}
use Rattle.rcp_model.specs.Node.{IsLeast, IsUpTo, make_node}
use Rattle.rcp_model.specs.Walk.{IsUnvoted, StepsTo, at, IsUnvotedWalk, EndsWalk, HasNoWalk}
use Rattle.rcp_model.specs.Recovery.{IsRecoveryLength}
use Rattle.rcp_model.specs.Witness.{IsWitnessWalk}
use Rattle.rcp_model.proofs.OrderLaws.{up_to_same}
use Rattle.rcp_model.proofs.LevelLaws.{ends_one}
use Rattle.rcp_model.proofs.AlikeLaws.{ends_unvoted}
use Rattle.rcp_model.proofs.GraphExamples.{node, copies, voting, one_vote}

-- with one vote, of the first cell in the second slot: the three nodes that are unvoted
first_copies : IsUnvoted (voting one_vote) (node 0 0)
first_copies = record { slot_in = omega arith; cell_in = omega arith; unvoted = refl }

second_waits : IsUnvoted (voting one_vote) (node 0 1)
second_waits = record { slot_in = omega arith; cell_in = omega arith; unvoted = refl }

second_stays : IsUnvoted (voting one_vote) (node 1 1)
second_stays = record { slot_in = omega arith; cell_in = omega arith; unvoted = refl }

-- the second cell, from the first slot to the second
abbrev pub longest : List Node
longest = node 0 1 ∷ node 1 1 ∷ []

longest_unvoted : (i : ℕ) → i < 2 → IsUnvoted (voting one_vote) (at longest i)
longest_unvoted zero l = second_waits
longest_unvoted (suc zero) l = second_stays
longest_unvoted (suc (suc i)) l = absurd (omega arith)

longest_steps : (i : ℕ) → i + 1 < 2 → StepsTo (voting one_vote) (at longest i) (at longest (i + 1))
longest_steps zero l = record { turn = refl; feeds = refl }
longest_steps (suc i) l = absurd (omega arith)

it_is_a_walk : IsUnvotedWalk (voting one_vote) longest
it_is_a_walk = record { unvoted = longest_unvoted; steps = longest_steps }

a_walk_of_two_nodes : EndsWalk (voting one_vote) 2 (node 1 1)
a_walk_of_two_nodes = record { nodes = longest; walk = it_is_a_walk; many = refl; some = omega arith; last = refl }

-- no unvoted node steps to the first slot, where the first cell alone feeds: the second slot votes it
none_goes_on : (m n : Node) → IsUnvoted (voting one_vote) m → StepsTo (voting one_vote) m n → n.slot ≡ 0 → ⊥
none_goes_on m n u s e =
    let few : m.slot < 2 = u.slot_in in
    let turn : n.slot ≡ (m.slot + 1) % 2 = s.turn in
    let here : m.slot ≡ 1 = omega arith in
    let fed : copies 0 m.cell n.cell ≡ true = ap (λ (x : ℕ). copies x m.cell n.cell) (sym e) ∙ s.feeds in
    let first : m.cell ≡ 0 = eqb-true m.cell 0 fed in
    both_ways (one_vote m.slot m.cell) u.unvoted (ap₂ one_vote here first)

-- so none has three
none_has_three : HasNoWalk (voting one_vote) 3
none_has_three n e =
    let many : length e.nodes ≡ 3 = e.many in
    let a = at e.nodes 0 in
    let b = at e.nodes 1 in
    let c = at e.nodes 2 in
    let one : StepsTo (voting one_vote) a b = e.walk.steps 0 (omega arith) in
    let two : StepsTo (voting one_vote) b c = e.walk.steps 1 (omega arith) in
    let u = e.walk.unvoted 0 (omega arith) in
    let v = e.walk.unvoted 1 (omega arith) in
    let few : b.slot < 2 = v.slot_in in
    let turn : c.slot ≡ (b.slot + 1) % 2 = two.turn in
    elim (cases_eq b.slot 0) [
      | inl first ↦ none_goes_on a b u one first
      | inr second ↦ none_goes_on b c v two (omega arith)
    ]

fewer : (j : ℕ) → 0 < j → j < 3 → (n : Node) × EndsWalk (voting one_vote) j n
fewer zero pos l = absurd (omega arith)
fewer (suc zero) pos l = (node 0 0, ends_one (voting one_vote) (node 0 0) first_copies)
fewer (suc (suc zero)) pos l = (node 1 1, a_walk_of_two_nodes)
fewer (suc (suc (suc j))) pos l = absurd (omega arith)

its_recovery_length_is_three : IsRecoveryLength (voting one_vote) 3
its_recovery_length_is_three = record { some = omega arith; none = none_has_three; fewer = fewer }

-- a walk of two nodes ends in the second cell of the second slot alone
its_end : (m : Node) → EndsWalk (voting one_vote) 2 m → m ≡ node 1 1
its_end m e =
    let many : length e.nodes ≡ 2 = e.many in
    let last : at e.nodes 1 ≡ m = e.last in
    let u = e.walk.unvoted 0 (omega arith) in
    let s : StepsTo (voting one_vote) (at e.nodes 0) m = subst (StepsTo (voting one_vote) (at e.nodes 0)) last (e.walk.steps 0 (omega arith)) in
    let v = ends_unvoted (voting one_vote) 2 m e in
    let few : m.slot < 2 = v.slot_in in
    let few_cells : m.cell < 2 = v.cell_in in
    let slot : m.slot ≡ 1 = elim (cases_eq m.slot 0) [
      | inl first ↦ absurd (none_goes_on (at e.nodes 0) m u s first)
      | inr second ↦ omega arith
    ] in
    let cell : m.cell ≡ 1 = elim (cases_eq m.cell 0) [
      | inl first ↦ absurd (both_ways (one_vote m.slot m.cell) v.unvoted (ap₂ one_vote slot first))
      | inr second ↦ omega arith
    ] in
    ap₂ make_node slot cell

-- and the second cell of the first slot alone steps to it
its_begin : (m : Node) → IsUnvoted (voting one_vote) m → StepsTo (voting one_vote) m (node 1 1) → m ≡ node 0 1
its_begin m u s =
    let few : m.slot < 2 = u.slot_in in
    let turn : 1 ≡ (m.slot + 1) % 2 = s.turn in
    let slot : m.slot ≡ 0 = omega arith in
    ap₂ make_node slot (eqb-true m.cell 1 s.feeds)

its_earlier : (i : ℕ) → i + 1 < 2 → IsLeast (λ m. EndsWalk (voting one_vote) (i + 1) m × StepsTo (voting one_vote) m (at longest (i + 1))) (at longest i)
its_earlier zero l = record {
  has = (ends_one (voting one_vote) (node 0 1) second_waits, record { turn = refl; feeds = refl });
  first = λ m e. subst (IsUpTo (node 0 1)) (sym (its_begin m (ends_unvoted (voting one_vote) 1 m e.0) e.1)) (up_to_same (node 0 1));
}
its_earlier (suc i) l = absurd (omega arith)

the_walk_is_the_one_that_is_shown : IsWitnessWalk (voting one_vote) longest
the_walk_is_the_one_that_is_shown = record {
  last = λ some. record {
    has = a_walk_of_two_nodes;
    first = λ m e. subst (IsUpTo (node 1 1)) (sym (its_end m e)) (up_to_same (node 1 1));
  };
  earlier = its_earlier;
}
