-- The walk and the cycle that are shown are one each.
use Rattle.std.proofs.Common.{◌≡◌, ℕ, ◌+◌, ◌-◌, ◌<◌, ◌≤◌, zero, suc, List, length, inl, inr, refl, sym, ◌∙◌, ap, ap₂, subst, arith}
use Rattle.std.proofs.lemmas.Bool.{cases_lt, cases_eq, both_ways}
use Rattle.std.proofs.lemmas.List.{ext_get_or}
use Rattle.std.specs.declared.cmp.Ordering.{Ordering}
use Rattle.std.specs.Ordering.{nat_cmp, ordering_then, is_le}
use Rattle.rcp_model.specs.declared.node.Node.{Node}
use Rattle.rcp_model.specs.Node.{node_cmp, IsUpTo, IsLeast}
use Rattle.rcp_model.specs.Walk.{Graph, node_count, StepsTo, at, no_node, EndsWalk}
use Rattle.rcp_model.specs.Witness.{IsCore, IsBack, IsReached, IsWitnessCycle, IsWitnessWalk}
use Rattle.rcp_model.specs.Node.{make_node}
use Rattle.rcp_model.proofs.OrderLaws.{greater, equal}

slots_in_order : (m n : Node) → IsUpTo m n → m.slot ≤ n.slot
slots_in_order m n h = elim (cases_lt n.slot m.slot) [
  | inl l ↦ absurd (both_ways (is_le (node_cmp m n)) (ap (λ (o : Ordering). is_le (ordering_then o (nat_cmp m.cell n.cell))) (greater m.slot n.slot l)) h)
  | inr r ↦ r
]

cells_in_order : (m n : Node) → m.slot ≡ n.slot → IsUpTo m n → m.cell ≤ n.cell
cells_in_order m n e h = elim (cases_lt n.cell m.cell) [
  | inl l ↦ absurd (both_ways (is_le (node_cmp m n))
      (ap (λ (o : Ordering). is_le (ordering_then o (nat_cmp m.cell n.cell))) (equal m.slot n.slot e) ∙ ap is_le (greater m.cell n.cell l)) h)
  | inr r ↦ r
]

pub up_to_both : (m n : Node) → IsUpTo m n → IsUpTo n m → m ≡ n
up_to_both m n h k =
    let low = slots_in_order m n h in
    let high = slots_in_order n m k in
    let slot : m.slot ≡ n.slot = omega arith in
    let few = cells_in_order m n slot h in
    let many = cells_in_order n m (sym slot) k in
    let cell : m.cell ≡ n.cell = omega arith in
    ap₂ make_node slot cell

pub least_unique : (P : Node → Type 0) (a b : Node) → IsLeast P a → IsLeast P b → a ≡ b
least_unique P a b x y = up_to_both a b (x.first b y.has) (y.first a x.has)

at_same : (xs : List Node) (i j : ℕ) → i ≡ j → at xs i ≡ at xs j
at_same xs i j e = ap (at xs) e

abbrev IsStepBack : Graph → ℕ → Node → Node → Type 0
IsStepBack g k n m = IsLeast (λ x. EndsWalk g k x × StepsTo g x n) m

step_back_unique : (g : Graph) (k : ℕ) (m n a b : Node) → m ≡ n → IsStepBack g k m a → IsStepBack g k n b → a ≡ b
step_back_unique g k m n a b e x y =
    least_unique (λ x. EndsWalk g k x × StepsTo g x m) a b x (subst (λ (z : Node). IsStepBack g k z b) (sym e) y)

ends_same : (g : Graph) (k l : ℕ) (a b : Node) → k ≡ l → IsLeast (EndsWalk g k) a → IsLeast (EndsWalk g l) b → a ≡ b
ends_same g k l a b e x y = least_unique (EndsWalk g k) a b x (subst (λ (n : ℕ). IsLeast (EndsWalk g n) b) (sym e) y)

-- walks that are shown agree from their ends on
from_end : (g : Graph) (xs ys : List Node) → IsWitnessWalk g xs → IsWitnessWalk g ys → length xs ≡ length ys
    → (j i k : ℕ) → i + j + 1 ≡ length xs → k ≡ i → at xs i ≡ at ys k
from_end g xs ys x y long zero i k e same =
    at_same xs i (length xs - 1) (omega arith)
    ∙ ends_same g (length xs) (length ys) (at xs (length xs - 1)) (at ys (length ys - 1)) long (x.last (omega arith)) (y.last (omega arith))
    ∙ at_same ys (length ys - 1) k (omega arith)
from_end g xs ys x y long (suc j) i k e same =
    step_back_unique g (i + 1) (at xs (i + 1)) (at ys (i + 1)) (at xs i) (at ys i)
    (from_end g xs ys x y long j (i + 1) (i + 1) (omega arith) refl) (x.earlier i (omega arith)) (y.earlier i (omega arith))
    ∙ at_same ys i k (sym same)

pub walk_unique : (g : Graph) (xs ys : List Node) → IsWitnessWalk g xs → IsWitnessWalk g ys → length xs ≡ length ys → xs ≡ ys
walk_unique g xs ys x y long =
    ext_get_or no_node xs ys long (λ i l. from_end g xs ys x y long (length xs - 1 - i) i i (omega arith) refl)

back_unique : (g : Graph) (m n a b : Node) → m ≡ n → IsBack g m a → IsBack g n b → a ≡ b
back_unique g m n a b e x y = step_back_unique g (node_count g + 1) m n a b e x y

reached_unique : (g : Graph) (k : ℕ) (a b : Node) → IsReached g k a → IsReached g k b → a ≡ b
reached_unique g zero a b x y = least_unique (IsCore g) a b x y
reached_unique g (suc k) a b x y = back_unique g x.0 y.0 a b (reached_unique g k x.0 y.0 x.1 y.1) x.2 y.2

-- the node stands on the other cycle too
pub record IsOn (nodes : List Node) (n : Node) : Type 0 where
  pub place : ℕ
  pub below : place < length nodes
  pub is : n ≡ at nodes place

-- where the one node of a cycle is on another, the node before it is
on_back : (g : Graph) (ys : List Node) → IsWitnessCycle g ys → (n m : Node) → IsOn ys n → IsBack g n m → IsOn ys m
on_back g ys y n m on back =
    let in_ys : on.place < length ys = on.below in
    elim (cases_eq on.place 0) [
      | inl e ↦ record {
        place = length ys - 1;
        below = omega arith;
        is = back_unique g n (at ys 0) m (at ys (length ys - 1)) (on.is ∙ at_same ys on.place 0 e) back y.closes;
      }
      | inr ne ↦
          let next : on.place - 1 + 1 ≡ on.place = omega arith in
          record {
            place = on.place - 1;
            below = omega arith;
            is = back_unique g n (at ys (on.place - 1 + 1)) m (at ys (on.place - 1)) (on.is ∙ at_same ys on.place (on.place - 1 + 1) (sym next)) back
                (y.backs (on.place - 1) (omega arith));
          }
    ]

on_number : (xs ys : List Node) (i j : ℕ) → i ≡ j → IsOn ys (at xs i) → IsOn ys (at xs j)
on_number xs ys i j e on = subst (λ (x : ℕ). IsOn ys (at xs x)) e on

-- so are those before it, down to the first
on_down : (g : Graph) (xs ys : List Node) → IsWitnessCycle g xs → IsWitnessCycle g ys → (i : ℕ) → i < length xs → IsOn ys (at xs i) → IsOn ys (at xs 0)
on_down g xs ys x y zero l on = on
on_down g xs ys x y (suc i) l on =
    let one : suc i ≡ i + 1 = omega arith in
    on_down g xs ys x y i (omega arith) (on_back g ys y (at xs (i + 1)) (at xs i) (on_number xs ys (suc i) (i + 1) one on) (x.backs i (omega arith)))

first_on : (g : Graph) (xs ys : List Node) → IsWitnessCycle g xs → IsWitnessCycle g ys → IsOn ys (at xs 0)
first_on g xs ys x y =
    on_down g xs ys x y x.reached.0 x.reached.1 (record {
      place = y.reached.0;
      below = y.reached.1;
      is = reached_unique g (node_count g) (at xs x.reached.0) (at ys y.reached.0) x.reached.2 y.reached.2;
    })

up_to_on : (g : Graph) (xs ys : List Node) → IsWitnessCycle g ys → IsOn ys (at xs 0) → IsUpTo (at ys 0) (at xs 0)
up_to_on g xs ys y on = subst (IsUpTo (at ys 0)) (sym on.is) (y.begins on.place on.below)

first_same : (g : Graph) (xs ys : List Node) → IsWitnessCycle g xs → IsWitnessCycle g ys → at xs 0 ≡ at ys 0
first_same g xs ys x y = up_to_both (at xs 0) (at ys 0) (up_to_on g ys xs x (first_on g ys xs y x)) (up_to_on g xs ys y (first_on g xs ys x y))

-- they agree from their ends on
round : (g : Graph) (xs ys : List Node) → IsWitnessCycle g xs → IsWitnessCycle g ys
    → (t i k : ℕ) → i + t + 1 ≡ length xs → k + t + 1 ≡ length ys → at xs i ≡ at ys k
round g xs ys x y zero i k e f =
    at_same xs i (length xs - 1) (omega arith)
    ∙ back_unique g (at xs 0) (at ys 0) (at xs (length xs - 1)) (at ys (length ys - 1)) (first_same g xs ys x y) x.closes y.closes
    ∙ at_same ys (length ys - 1) k (omega arith)
round g xs ys x y (suc t) i k e f =
    back_unique g (at xs (i + 1)) (at ys (k + 1)) (at xs i) (at ys k) (round g xs ys x y t (i + 1) (k + 1) (omega arith) (omega arith))
    (x.backs i (omega arith)) (y.backs k (omega arith))

-- and so neither is longer
not_longer : (g : Graph) (xs ys : List Node) → IsWitnessCycle g xs → IsWitnessCycle g ys → length ys ≤ length xs
not_longer g xs ys x y = elim (cases_lt (length xs) (length ys)) [
  | inl l ↦
      let some : 0 < length xs = x.some in
      let again : at xs 0 ≡ at ys (length ys - length xs) = round g xs ys x y (length xs - 1) 0 (length ys - length xs) (omega arith) (omega arith) in
      absurd (y.distinct 0 (length ys - length xs) (omega arith) (omega arith) (sym (first_same g xs ys x y) ∙ again))
  | inr r ↦ r
]

pub cycle_unique : (g : Graph) (xs ys : List Node) → IsWitnessCycle g xs → IsWitnessCycle g ys → xs ≡ ys
cycle_unique g xs ys x y =
    let few = not_longer g xs ys x y in
    let many = not_longer g ys xs y x in
    let long : length xs ≡ length ys = omega arith in
    ext_get_or no_node xs ys long (λ i l. round g xs ys x y (length xs - 1 - i) i i (omega arith) (omega arith))
