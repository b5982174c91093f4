-- The steps of the search for the cycle.
use Rattle.std.proofs.Common.{[], ◌∷◌, ◌++◌, ◌⊎◌, ◌≡◌, ◌≢◌, ℕ, ◌+◌, ◌-◌, ◌<◌, ◌≤◌, zero, suc, true, List, length, map, reverse, inl, inr, sym, ◌∙◌, ap, subst, arith}
use Rattle.std.proofs.lemmas.Bool.{cases_lt, cases_eq}
use Rattle.std.proofs.lemmas.List.{get_or-reverse, length-reverse, ext_get_or}
use Rattle.std.proofs.lemmas.List.FromFn.{map-range_with_len_more, length-map-range_with_len, get_or-map-range_with_len}
use Rattle.std.specs.List.{range_with_len}
use Rattle.rcp_model.specs.declared.node.Node.{Node}
use Rattle.rcp_model.specs.Walk.{Graph, node_count, no_node}
use Rattle.rcp_model.specs.Levels.{number, has_cycle}
use Rattle.rcp_model.specs.Levels.{is_core}
use Rattle.rcp_model.specs.Shown.{path, back_node}
use Rattle.rcp_model.specs.Witness.{IsWitnessCycle}
use Rattle.rcp_model.specs.inner.Around.{IsPeriod, IsLeastAround}
use Rattle.rcp_model.specs.Shown.{period_of, around, cycle_nodes}
use Rattle.rcp_model.proofs.CoreLaws.{path_at, path_same, path_core}
use Rattle.rcp_model.proofs.CycleLaws.{is_period, around_returns, around_distinct, cycle_is_witness}

-- the least node seen so far, after t more steps back
pub record LeastSoFar (g : Graph) (p t : ℕ) (least : Node) : Type 0 where
  pub s : ℕ
  pub below : s < p
  pub is : least ≡ path g (s + node_count g)
  pub lowest : (u : ℕ) → u < t + 1 → number g least ≤ number g (path g (u + node_count g))

pub turn_begin : (g : Graph) (least : Node) → has_cycle g ≡ true → least ≡ path g (node_count g) → LeastSoFar g (period_of g) 0 least
turn_begin g least h e = record {
  s = 0;
  below = omega arith;
  is = e ∙ path_at g (node_count g) (0 + node_count g) (omega arith);
  lowest = λ u l. let a : number g least ≡ number g (path g (u + node_count g)) = ap (number g) (e ∙ path_at g (node_count g) (u + node_count g) (omega arith)) in omega arith;
}

turn_kept : (g : Graph) (p t : ℕ) (least node : Node) → LeastSoFar g p t least → node ≡ path g (t + 1 + node_count g) → number g least ≤ number g node → LeastSoFar g p (t + 1) least
turn_kept g p t least node r e le = record {
  s = r.s;
  below = r.below;
  is = r.is;
  lowest = λ u l. elim (cases_lt u (t + 1)) [
    | inl a ↦ r.lowest u a
    | inr a ↦ let same : number g node ≡ number g (path g (u + node_count g)) = ap (number g) (e ∙ path_at g (t + 1 + node_count g) (u + node_count g) (omega arith)) in omega arith
  ];
}

turn_taken : (g : Graph) (p t : ℕ) (least node : Node) → IsPeriod g p → LeastSoFar g p t least → node ≡ path g (t + 1 + node_count g) → number g node < number g least → LeastSoFar g p (t + 1) node
turn_taken g p t least node d r e lt = record {
  s = t + 1;
  below = elim (cases_lt (t + 1) p) [
    | inl a ↦ a
    | inr a ↦
        let some : 0 < p = d.some in
        let u : ℕ = t + 1 - p in
        let low : number g least ≤ number g (path g (u + node_count g)) = r.lowest u (omega arith) in
        let same : number g node ≡ number g (path g (u + node_count g)) =
        ap (number g) (e ∙ path_at g (t + 1 + node_count g) (u + (p + node_count g)) (omega arith) ∙ path_same g (p + node_count g) (node_count g) d.returns u) in
        absurd (omega arith)
  ];
  is = e;
  lowest = λ u l. elim (cases_lt u (t + 1)) [
    | inl a ↦ let low = r.lowest u a in omega arith
    | inr a ↦ let same : number g node ≡ number g (path g (u + node_count g)) = ap (number g) (e ∙ path_at g (t + 1 + node_count g) (u + node_count g) (omega arith)) in omega arith
  ];
}

pub turn_more : (g : Graph) (t : ℕ) (least node next : Node) → has_cycle g ≡ true → LeastSoFar g (period_of g) t least → node ≡ path g (t + 1 + node_count g) → ((number g node < number g least) × (next ≡ node)) ⊎ ((number g least ≤ number g node) × (next ≡ least)) → LeastSoFar g (period_of g) (t + 1) next
turn_more g t least node next h r e (inl a) = subst (LeastSoFar g (period_of g) (t + 1)) (sym a.1) (turn_taken g (period_of g) t least node (is_period g h) r e a.0)
turn_more g t least node next h r e (inr a) = subst (LeastSoFar g (period_of g) (t + 1)) (sym a.1) (turn_kept g (period_of g) t least node r e a.0)

pub turn_end : (g : Graph) (least : Node) → has_cycle g ≡ true → LeastSoFar g (period_of g) (node_count g) least → IsLeastAround g least
turn_end g least h r =
    let within : period_of g ≤ node_count g = (is_period g h).within in
    record {
      s = r.s;
      place = record {
        below = r.below;
        least = λ t l.
            let e : number g least ≡ number g (path g (r.s + node_count g)) = ap (number g) r.is in
            let low = r.lowest t (omega arith) in omega arith;
      };
      is = r.is;
    }

-- the node to which so many steps back from a node lead
abbrev pub back_times : Graph → Node → ℕ → Node
back_times g n zero = n
back_times g n (suc t) = back_node g (back_times g n t)

pub back_around : (g : Graph) (s : ℕ) (least : Node) → least ≡ path g (s + node_count g) → (t : ℕ) → back_times g least t ≡ around g s t
back_around g s least e zero = e ∙ path_at g (s + node_count g) (0 + (s + node_count g)) (omega arith)
back_around g s least e (suc t) = ap (back_node g) (back_around g s least e t) ∙ path_at g (suc (t + (s + node_count g))) (suc t + (s + node_count g)) (omega arith)

-- the node does not come again in so many steps
abbrev pub NotAgain : Graph → Node → ℕ → Type 0
NotAgain g least t = (q : ℕ) → 0 < q → q < t + 1 → back_times g least q ≢ least

-- it comes again in as many steps as there are nodes
pub comes : (g : Graph) (least : Node) → has_cycle g ≡ true → IsLeastAround g least → NotAgain g least (node_count g) → ⊥
comes g least h turn fresh =
    let r = is_period g h in
    let some : 0 < period_of g = r.some in
    let within : period_of g ≤ node_count g = r.within in
    fresh (period_of g) some (omega arith)
    (back_around g turn.s least turn.is (period_of g) ∙ around_returns g (period_of g) turn.s r ∙ sym (back_around g turn.s least turn.is 0))

abbrev pub gathered_nodes : Graph → Node → ℕ → List Node
gathered_nodes g least t = map (λ i. back_times g least (suc i)) (range_with_len 0 t)

pub gathered : (g : Graph) (least : Node) (t : ℕ) → has_cycle g ≡ true → IsLeastAround g least → NotAgain g least t → back_times g least (suc t) ≡ least → IsWitnessCycle g (reverse (gathered_nodes g least (suc t)))
gathered g least t h turn fresh again =
    let r = is_period g h in
    let p : ℕ = period_of g in
    let s = turn.s in
    let some : 0 < period_of g = r.some in
    let around_is : (i : ℕ) → back_times g least i ≡ around g s i = λ i. back_around g s least turn.is i in
    let back : around g s (suc t) ≡ around g s 0 = sym (around_is (suc t)) ∙ again ∙ around_is 0 in
    let round : period_of g ≡ suc t = elim (cases_lt (period_of g) (suc t)) [
      | inl a ↦ absurd (fresh (period_of g) some (omega arith) (around_is (period_of g) ∙ around_returns g (period_of g) s r ∙ sym (around_is 0)))
      | inr a ↦ elim (cases_lt (suc t) (period_of g)) [
        | inl b ↦ absurd (around_distinct g (period_of g) s r turn.place.below 0 (suc t) (omega arith) b (sym back))
        | inr b ↦ omega arith
      ]
    ] in
    let xs = gathered_nodes g least (suc t) in
    let long : length xs ≡ suc t = length-map-range_with_len (λ i. back_times g least (suc i)) 0 (suc t) in
    let other : length (cycle_nodes g (period_of g) s) ≡ period_of g = length-map-range_with_len (λ i. around g s (period_of g - i)) 0 (period_of g) in
    let turned : length (reverse xs) ≡ length xs = length-reverse xs in
    let same : cycle_nodes g (period_of g) s ≡ reverse xs =
    ext_get_or no_node (cycle_nodes g (period_of g) s) (reverse xs) (omega arith) (λ i l.
    let j : ℕ = length xs - 1 - i in
    get_or-map-range_with_len (λ i. around g s (period_of g - i)) 0 (period_of g) i i no_node (omega arith) (omega arith)
    ∙ path_at g ((period_of g - i) + (s + node_count g)) (suc j + (s + node_count g)) (omega arith)
    ∙ sym (around_is (suc j))
    ∙ sym (get_or-map-range_with_len (λ i. back_times g least (suc i)) 0 (suc t) j j no_node (omega arith) (omega arith))
    ∙ sym (get_or-reverse xs i no_node (omega arith))) in
    subst (IsWitnessCycle g) same (cycle_is_witness g (period_of g) s h r turn.place)

pub gathered_more : (g : Graph) (least : Node) (t : ℕ) (old new : List Node) (node : Node) → old ≡ gathered_nodes g least t → node ≡ back_times g least (suc t) → new ≡ old ++ node ∷ [] → new ≡ gathered_nodes g least (suc t)
gathered_more g least t old new node e n p =
    let one : t + 1 ≡ suc t = omega arith in
    p ∙ ap (λ (xs : List Node). xs ++ node ∷ []) e ∙ ap (λ (x : Node). gathered_nodes g least t ++ x ∷ []) n
    ∙ sym (map-range_with_len_more (λ i. back_times g least (suc i)) 0 t t (omega arith))
    ∙ ap (gathered_nodes g least) one

pub not_again_more : (g : Graph) (least : Node) (t : ℕ) → NotAgain g least t → back_times g least (suc t) ≢ least → NotAgain g least (t + 1)
not_again_more g least t fresh ne q pos l e = elim (cases_eq q (suc t)) [
  | inl a ↦ ne (ap (back_times g least) (sym a) ∙ e)
  | inr a ↦ fresh q pos (omega arith) e
]

pub around_core : (g : Graph) (least : Node) → has_cycle g ≡ true → IsLeastAround g least → (t : ℕ) → is_core g (back_times g least t) ≡ true
around_core g least h turn t = ap (is_core g) (back_around g turn.s least turn.is t) ∙ path_core g h (t + (turn.s + node_count g))
