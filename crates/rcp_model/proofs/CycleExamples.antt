-- The cycle of the graph of two slots and two cells without a vote, by the statements: the first cell keeps its value.
-- This project's own.
use Rattle.std.proofs.Common.{◌≡◌, ◌≢◌, refl, sym, ap, ap₂, subst, ℕ, ◌+◌, ◌%◌, ◌<◌, zero, suc, List, [], ◌∷◌, arith}
use Rattle.std.proofs.lemmas.Bool.{eqb-true}
use Rattle.rcp_model.specs.declared.node.Node.{Node}
use Rattle.rcp_model.specs.Node.{IsUpTo, make_node}
use Rattle.rcp_model.specs.Walk.{IsUnvoted, StepsTo, at, IsUnvotedCycle}
use Rattle.rcp_model.specs.Witness.{IsCore, IsBack, IsReached, IsWitnessCycle}
use Rattle.rcp_model.proofs.OrderLaws.{up_to_from, up_to_same}
use Rattle.rcp_model.proofs.LevelLaws.{ends_one, ends_push}
use Rattle.rcp_model.proofs.AlikeLaws.{ends_unvoted}
use Rattle.rcp_model.proofs.GraphExamples.{node, voting, nothing}

first : IsUnvoted (voting nothing) (node 0 0)
first = record { slot_in = omega arith; cell_in = omega arith; unvoted = refl }

second : IsUnvoted (voting nothing) (node 1 0)
second = record { slot_in = omega arith; cell_in = omega arith; unvoted = refl }

goes : StepsTo (voting nothing) (node 0 0) (node 1 0)
goes = record { turn = refl; feeds = refl }

returns : StepsTo (voting nothing) (node 1 0) (node 0 0)
returns = record { turn = refl; feeds = refl }

abbrev pub cycle : List Node
cycle = node 0 0 ∷ node 1 0 ∷ []

cycle_unvoted : (i : ℕ) → i < 2 → IsUnvoted (voting nothing) (at cycle i)
cycle_unvoted zero l = first
cycle_unvoted (suc zero) l = second
cycle_unvoted (suc (suc i)) l = absurd (omega arith)

cycle_steps : (i : ℕ) → i + 1 < 2 → StepsTo (voting nothing) (at cycle i) (at cycle (i + 1))
cycle_steps zero l = goes
cycle_steps (suc i) l = absurd (omega arith)

other_slots : (m n : Node) → m.slot ≡ 0 → n.slot ≡ 1 → m ≢ n
other_slots m n a b e = let same : m.slot ≡ n.slot = ap (λ (x : Node). x.slot) e in omega arith

cycle_distinct : (i j : ℕ) → i < j → j < 2 → at cycle i ≢ at cycle j
cycle_distinct zero zero l h = absurd (omega arith)
cycle_distinct zero (suc zero) l h = other_slots (node 0 0) (node 1 0) refl refl
cycle_distinct zero (suc (suc j)) l h = absurd (omega arith)
cycle_distinct (suc i) j l h = absurd (omega arith)

it_is_a_cycle : IsUnvotedCycle (voting nothing) cycle
it_is_a_cycle = record {
  some = omega arith;
  walk = record { unvoted = cycle_unvoted; steps = cycle_steps };
  distinct = cycle_distinct;
  closes = returns;
}

-- both nodes end walks of any number of nodes, so of one more than there are
both_are_core : IsCore (voting nothing) (node 0 0) × IsCore (voting nothing) (node 1 0)
both_are_core =
    let g = voting nothing in
    let one = ends_one g (node 0 0) first in
    let two = ends_push g 1 (node 0 0) (node 1 0) one goes second in
    let three = ends_push g 2 (node 1 0) (node 0 0) two returns first in
    let four = ends_push g 3 (node 0 0) (node 1 0) three goes second in
    let five = ends_push g 4 (node 1 0) (node 0 0) four returns first in
    let other_one = ends_one g (node 1 0) second in
    let other_two = ends_push g 1 (node 1 0) (node 0 0) other_one returns first in
    let other_three = ends_push g 2 (node 0 0) (node 1 0) other_two goes second in
    let other_four = ends_push g 3 (node 1 0) (node 0 0) other_three returns first in
    let other_five = ends_push g 4 (node 0 0) (node 1 0) other_four goes second in
    (five, other_five)

-- the first node of all is the least
least_of_all : (m : Node) → IsUnvoted (voting nothing) m → IsUpTo (node 0 0) m
least_of_all m u = up_to_from (voting nothing) (node 0 0) m (omega arith) u.cell_in (omega arith)

unvoted_core : (m : Node) → IsCore (voting nothing) m → IsUnvoted (voting nothing) m
unvoted_core m core = ends_unvoted (voting nothing) 5 m core

-- the first cell of the second slot alone steps to the first node
only_second : (m : Node) → IsUnvoted (voting nothing) m → StepsTo (voting nothing) m (node 0 0) → m ≡ node 1 0
only_second m u s =
    let few : m.slot < 2 = u.slot_in in
    let turn : 0 ≡ (m.slot + 1) % 2 = s.turn in
    let slot : m.slot ≡ 1 = omega arith in
    ap₂ make_node slot (eqb-true m.cell 0 s.feeds)

back_to_second : IsBack (voting nothing) (node 0 0) (node 1 0)
back_to_second = record {
  has = (both_are_core.1, returns);
  first = λ m e. subst (IsUpTo (node 1 0)) (sym (only_second m (unvoted_core m e.0) e.1)) (up_to_same (node 1 0));
}

back_to_first : IsBack (voting nothing) (node 1 0) (node 0 0)
back_to_first = record { has = (both_are_core.0, goes); first = λ m e. least_of_all m (unvoted_core m e.0) }

-- four steps back from the least core node lead to it again
reached_again : IsReached (voting nothing) 4 (node 0 0)
reached_again =
    let start : IsReached (voting nothing) 0 (node 0 0) = record { has = both_are_core.0; first = λ m e. least_of_all m (unvoted_core m e) } in
    let one : IsReached (voting nothing) 1 (node 1 0) = (node 0 0, start, back_to_second) in
    let two : IsReached (voting nothing) 2 (node 0 0) = (node 1 0, one, back_to_first) in
    let three : IsReached (voting nothing) 3 (node 1 0) = (node 0 0, two, back_to_second) in
    (node 1 0, three, back_to_first)

cycle_backs : (i : ℕ) → i + 1 < 2 → IsBack (voting nothing) (at cycle (i + 1)) (at cycle i)
cycle_backs zero l = back_to_first
cycle_backs (suc i) l = absurd (omega arith)

cycle_begins : (i : ℕ) → i < 2 → IsUpTo (at cycle 0) (at cycle i)
cycle_begins i l = least_of_all (at cycle i) (cycle_unvoted i l)

the_cycle_is_the_one_that_is_shown : IsWitnessCycle (voting nothing) cycle
the_cycle_is_the_one_that_is_shown = record {
  some = omega arith;
  reached = (0, omega arith, reached_again);
  backs = cycle_backs;
  closes = back_to_second;
  distinct = cycle_distinct;
  begins = cycle_begins;
}
