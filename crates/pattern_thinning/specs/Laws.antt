-- What follows from the definition of thinning. This project's own.
use Rattle.std.specs.Prelude.{◌≡◌, ◌↔◌, ℕ, ◌<◌, Bool, true, List, Option}
use Rattle.rcp_model.specs.declared.node.Node.{Node}
use Rattle.rcp_model.specs.Walk.{Graph, IsUnvotedCycle}
use Rattle.rcp_model.specs.Thinning.{IsGood, is_good, thinned}
use Rattle.pattern_thinning.specs.Thinned.{IsLean, AreThinnedOf}

-- the test of good patterns is right
abbrev pub TheTestOfGoodPatternsIsRight : Type 0
TheTestOfGoodPatternsIsRight = (limit : Option ℕ) (g : Graph) → (is_good limit g ≡ true) ↔ IsGood limit g

-- where there is no unvoted cycle, the thinned pattern leaves none, and none of its votes can be spared
abbrev pub NoVoteIsRedundant : Type 0
NoVoteIsRedundant =
    (limit : Option ℕ) (g : Graph) → ((nodes : List Node) → IsUnvotedCycle g nodes → ⊥) → IsLean limit (thinned limit g)

-- the thinned pattern of a good one is good, and any other pattern is left as it is
pub record StaysAsGood (limit : Option ℕ) (g : Graph) : Type 0 where
  pub good : IsGood limit g → IsGood limit (thinned limit g)
  pub other : (IsGood limit g → ⊥) → thinned limit g ≡ g

abbrev pub GoodPatternsStayGood : Type 0
GoodPatternsStayGood = (limit : Option ℕ) (g : Graph) → StaysAsGood limit g

-- the votes of the thinned pattern are those of which one stays exactly where it is needed
abbrev pub AVoteStaysWhereItIsNeeded : Type 0
AVoteStaysWhereItIsNeeded = (limit : Option ℕ) (g : Graph) → AreThinnedOf limit g (thinned limit g).votes

-- and no others are
abbrev pub OneThinnedPattern : Type 0
OneThinnedPattern =
    (limit : Option ℕ) (g : Graph) (one other : ℕ → ℕ → Bool) → AreThinnedOf limit g one → AreThinnedOf limit g other
    → (slot cell : ℕ) → slot < g.slots → cell < g.cells → one slot cell ≡ other slot cell
