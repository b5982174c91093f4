-- Nodes are in the order of their numbers.
use Rattle.std.proofs.Common.{Bool, sym, Some, ◌≢◌, ap₂, false, ◌&&◌, ◌≡◌, ℕ, ◌+◌, ◌*◌, ◌<◌, ◌≤◌, true, eqb, ltb, inl, inr, ◌∙◌, ap, arith, refl}
use Rattle.std.proofs.lemmas.Bool.{ne_eqb, both_ways, and_parts, and_from, eqb-true, cases_lt, cases_eq, lt-ltb, le-ltb, eq-eqb, cond-true, cond-false}
use Rattle.std.proofs.Math.Nat.{mul-le-mul_right}
use Rattle.std.specs.declared.cmp.Ordering.{Ordering}
use Rattle.std.specs.declared.cmp.Ordering.TheVariants.{Less, Equal, Greater}
use Rattle.std.specs.Ordering.{nat_cmp, ordering_then, partial_ordering_then, is_some_and, is_le, is_lt}
use Rattle.rcp_model.specs.declared.node.Node.{Node}
use Rattle.rcp_model.specs.Walk.{Graph}
use Rattle.rcp_model.specs.Node.{IsUpTo, node_cmp}
use Rattle.rcp_model.specs.Levels.{number}
use Rattle.rcp_model.specs.Node.{make_node}

less : (a b : ℕ) → a < b → nat_cmp a b ≡ Less
less a b h = cond-true (ltb a b) _ _ (lt-ltb a b h)

pub equal : (a b : ℕ) → a ≡ b → nat_cmp a b ≡ Equal
equal a b e =
    let past : b ≤ a = omega arith in
    cond-false (ltb a b) _ _ (le-ltb a b past) ∙ cond-true (eqb a b) _ _ (eq-eqb a b e)

-- at most is less or equal
up_to : (a b : ℕ) → a ≤ b → is_le (nat_cmp a b) ≡ true
up_to a b h = elim (cases_lt a b) [
  | inl l ↦ ap is_le (less a b l)
  | inr r ↦ ap is_le (equal a b (omega arith))
]

-- a slot before another
before_slot : (m n : Node) → m.slot < n.slot → IsUpTo m n
before_slot m n h = ap (λ (o : Ordering). is_le (ordering_then o (nat_cmp m.cell n.cell))) (less m.slot n.slot h)

-- a cell in the same slot
in_slot : (m n : Node) → m.slot ≡ n.slot → m.cell ≤ n.cell → IsUpTo m n
in_slot m n e h = ap (λ (o : Ordering). is_le (ordering_then o (nat_cmp m.cell n.cell))) (equal m.slot n.slot e) ∙ up_to m.cell n.cell h

pub up_to_from : (g : Graph) (m n : Node) → m.cell < g.cells → n.cell < g.cells → number g m ≤ number g n → IsUpTo m n
up_to_from g m n p q h = elim (cases_lt m.slot n.slot) [
  | inl l ↦ before_slot m n l
  | inr r ↦ elim (cases_eq m.slot n.slot) [
    | inl e ↦ let same : m.slot * g.cells ≡ n.slot * g.cells = ap (λ (x : ℕ). x * g.cells) e in in_slot m n e (omega arith)
    | inr ne ↦
        let more : n.slot + 1 ≤ m.slot = omega arith in
        let far : (n.slot + 1) * g.cells ≤ m.slot * g.cells = mul-le-mul_right g.cells more in
        absurd (omega arith)
  ]
]

pub up_to_same : (n : Node) → IsUpTo n n
up_to_same n = in_slot n n refl (omega arith)

pub greater : (a b : ℕ) → b < a → nat_cmp a b ≡ Greater
greater a b h =
    let past : b ≤ a = omega arith in
    let other : a ≢ b = λ e. omega arith in
    cond-false (ltb a b) _ _ (le-ltb a b past) ∙ cond-false (eqb a b) _ _ (ne_eqb a b other)

-- not at most is not less
not_below : (a b : ℕ) → b ≤ a → is_lt (nat_cmp a b) ≡ false
not_below a b h = elim (cases_eq a b) [
  | inl e ↦ ap is_lt (equal a b e)
  | inr ne ↦ ap is_lt (greater a b (omega arith))
]

-- the order of nodes and that of their numbers, the one way
lt_from : (g : Graph) (m n : Node) → m.cell < g.cells → n.cell < g.cells → number g m < number g n → is_lt (node_cmp m n) ≡ true
lt_from g m n p q h = elim (cases_lt m.slot n.slot) [
  | inl l ↦ ap (λ (o : Ordering). is_lt (ordering_then o (nat_cmp m.cell n.cell))) (less m.slot n.slot l)
  | inr r ↦ elim (cases_eq m.slot n.slot) [
    | inl e ↦
        let same : m.slot * g.cells ≡ n.slot * g.cells = ap (λ (x : ℕ). x * g.cells) e in
        ap (λ (o : Ordering). is_lt (ordering_then o (nat_cmp m.cell n.cell))) (equal m.slot n.slot e)
        ∙ ap is_lt (less m.cell n.cell (omega arith))
    | inr ne ↦
        let more : n.slot + 1 ≤ m.slot = omega arith in
        let far : (n.slot + 1) * g.cells ≤ m.slot * g.cells = mul-le-mul_right g.cells more in
        absurd (omega arith)
  ]
]

-- and the other
not_lt_from : (g : Graph) (m n : Node) → m.cell < g.cells → n.cell < g.cells → number g n ≤ number g m → is_lt (node_cmp m n) ≡ false
not_lt_from g m n p q h = elim (cases_lt n.slot m.slot) [
  | inl l ↦ ap (λ (o : Ordering). is_lt (ordering_then o (nat_cmp m.cell n.cell))) (greater m.slot n.slot l)
  | inr r ↦ elim (cases_eq m.slot n.slot) [
    | inl e ↦
        let same : m.slot * g.cells ≡ n.slot * g.cells = ap (λ (x : ℕ). x * g.cells) e in
        ap (λ (o : Ordering). is_lt (ordering_then o (nat_cmp m.cell n.cell))) (equal m.slot n.slot e)
        ∙ not_below m.cell n.cell (omega arith)
    | inr ne ↦
        let more : m.slot + 1 ≤ n.slot = omega arith in
        let far : (m.slot + 1) * g.cells ≤ n.slot * g.cells = mul-le-mul_right g.cells more in
        absurd (omega arith)
  ]
]

-- `<` on nodes, whose parts may in general have no order
abbrev pub is_before : Node → Node → Bool
is_before m n = is_some_and is_lt (partial_ordering_then (Some (nat_cmp m.slot n.slot)) (Some (nat_cmp m.cell n.cell)))

by_parts : (a b : Ordering) → is_some_and is_lt (partial_ordering_then (Some a) (Some b)) ≡ is_lt (ordering_then a b)
by_parts Less b = refl
by_parts Equal b = refl
by_parts Greater b = refl

pub before : (g : Graph) (m n : Node) → m.cell < g.cells → n.cell < g.cells → is_before m n ≡ true → number g m < number g n
before g m n p q h = elim (cases_lt (number g m) (number g n)) [
  | inl l ↦ l
  | inr r ↦ absurd (both_ways (is_lt (node_cmp m n)) (not_lt_from g m n p q r) (sym (by_parts (nat_cmp m.slot n.slot) (nat_cmp m.cell n.cell)) ∙ h))
]

pub not_before : (g : Graph) (m n : Node) → m.cell < g.cells → n.cell < g.cells → is_before m n ≡ false → number g n ≤ number g m
not_before g m n p q h = elim (cases_lt (number g m) (number g n)) [
  | inl l ↦ absurd (both_ways (is_lt (node_cmp m n)) (sym (by_parts (nat_cmp m.slot n.slot) (nat_cmp m.cell n.cell)) ∙ h) (lt_from g m n p q l))
  | inr r ↦ r
]

pub same_node : (m n : Node) → (eqb m.slot n.slot && eqb m.cell n.cell) ≡ true → m ≡ n
same_node m n h =
    let both = and_parts (eqb m.slot n.slot) (eqb m.cell n.cell) h in
    ap₂ make_node (eqb-true _ _ both.0) (eqb-true _ _ both.1)

pub other_node : (m n : Node) → (eqb m.slot n.slot && eqb m.cell n.cell) ≡ false → m ≢ n
other_node m n h e =
    both_ways (eqb m.slot n.slot && eqb m.cell n.cell) h
    (and_from (eqb m.slot n.slot) (eqb m.cell n.cell) (eq-eqb _ _ (ap (λ (x : Node). x.slot) e)) (eq-eqb _ _ (ap (λ (x : Node). x.cell) e)))
