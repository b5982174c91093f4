-- The cycle that is shown, and the law of cycles and long walks.
use Rattle.std.proofs.Common.{◌≡◌, ◌≢◌, ◌↔◌, ℕ, ◌+◌, ◌-◌, ◌<◌, ◌≤◌, suc, true, List, length, inl, inr, refl, sym, ◌∙◌, ap, subst, arith}
use Rattle.std.proofs.lemmas.Bool.{cases_lt, cases_eq, eqb-true, eqb-false, eq-eqb}
use Rattle.std.proofs.lemmas.List.FromFn.{length-map-range_with_len, get_or-map-range_with_len}
use Rattle.rcp_model.specs.declared.node.Node.{Node}
use Rattle.rcp_model.specs.Walk.{Graph, node_count, IsUnvoted, no_node, at, EndsWalk, IsUnvotedCycle}
use Rattle.rcp_model.specs.Levels.{number, has_cycle}
use Rattle.rcp_model.specs.inner.Around.{IsPeriod, IsLeastPlace}
use Rattle.rcp_model.specs.Node.{IsUpTo}
use Rattle.rcp_model.specs.Witness.{IsCore, IsBack, IsReached, IsWitnessCycle}
use Rattle.rcp_base.specs.Search.{first_below}
use Rattle.rcp_model.specs.Shown.{comes_again, period_of, path, turn_of, around, cycle_nodes, witness_cycle}
use Rattle.rcp_base.proofs.SearchLaws.{any_of, first_is, lowest_is}
use Rattle.rcp_base.proofs.PigeonholeLaws.{pigeonhole}
use Rattle.rcp_model.proofs.OrderLaws.{up_to_from, up_to_same}
use Rattle.rcp_model.proofs.LevelLaws.{number-lt, number-injective, level_unvoted}
use Rattle.rcp_model.proofs.CoreLaws.{level_of_core, core_of_cycle, has_cycle_from, path_at, path_same, path_unvoted, path_back, path_reached}

pub same_of_number : (g : Graph) → has_cycle g ≡ true → (i j : ℕ) → number g (path g i) ≡ number g (path g j) → path g i ≡ path g j
same_of_number g h i j e = number-injective g (path g i) (path g j) (path_unvoted g h i).cell_in (path_unvoted g h j).cell_in e

pub is_period : (g : Graph) → has_cycle g ≡ true → IsPeriod g (period_of g)
is_period g h =
    let c = pigeonhole (node_count g) (λ i. number g (path g i)) (λ i l. number-lt g (path g i) (path_unvoted g h i)) in
    let lo : c.i < c.j = c.apart in
    let hi : c.j ≤ node_count g = c.within in
    let d : ℕ = c.j - c.i - 1 in
    let rest : ℕ = node_count g - c.i in
    let again : path g (suc d + node_count g) ≡ path g (node_count g) =
    path_at g (suc d + node_count g) (rest + c.j) (omega arith) ∙ sym (path_same g c.i c.j (same_of_number g h c.i c.j c.same) rest) ∙ path_at g (rest + c.i) (node_count g) (omega arith) in
    let f = first_is (node_count g) (comes_again g) (any_of (node_count g) (comes_again g) d (omega arith) (eq-eqb _ _ (ap (number g) again))) in
    let low : first_below (node_count g) (comes_again g) < node_count g = f.below in
    record {
      some = omega arith;
      within = omega arith;
      returns = same_of_number g h _ _ (eqb-true _ _ f.passes);
      first = λ q some less e.
          eqb-false _ _ (f.none (q - 1) (omega arith)) (ap (number g) (path_at g (suc (q - 1) + node_count g) (q + node_count g) (omega arith) ∙ e));
    }

pub around_returns : (g : Graph) (p s : ℕ) → IsPeriod g p → around g s p ≡ around g s 0
around_returns g p s r =
    path_at g (p + (s + node_count g)) (s + (p + node_count g)) (omega arith)
    ∙ path_same g (p + node_count g) (node_count g) r.returns s
    ∙ path_at g (s + node_count g) (0 + (s + node_count g)) (omega arith)

pub around_distinct : (g : Graph) (p s : ℕ) → IsPeriod g p → s < p → (a b : ℕ) → a < b → b < p → around g s a ≢ around g s b
around_distinct g p s r below a b ab bp e =
    let n = node_count g in
    let t : ℕ = (p + p) - a - s in
    let moved : path g (t + (a + (s + n))) ≡ path g (t + (b + (s + n))) = path_same g (a + (s + n)) (b + (s + n)) e t in
    let twice : path g (p + (p + n)) ≡ path g n = path_same g (p + n) n r.returns p ∙ r.returns in
    let first : path g (t + (a + (s + n))) ≡ path g n = path_at g (t + (a + (s + n))) (p + (p + n)) (omega arith) ∙ twice in
    let second : path g (t + (b + (s + n))) ≡ path g ((b - a) + n) =
    path_at g (t + (b + (s + n))) ((b - a) + (p + (p + n))) (omega arith) ∙ path_same g (p + (p + n)) n twice (b - a) in
    r.first (b - a) (omega arith) (omega arith) (sym second ∙ sym moved ∙ first)

pub around_least : (g : Graph) (p s : ℕ) → IsPeriod g p → IsLeastPlace g p s → (t : ℕ) → t < p → number g (around g s 0) ≤ number g (around g s t)
around_least g p s r turn t h =
    let n = node_count g in
    let below : s < p = turn.below in
    let zero_is : number g (around g s 0) ≡ number g (path g (s + n)) = ap (number g) (path_at g (0 + (s + n)) (s + n) (omega arith)) in
    elim (cases_lt (t + s) p) [
      | inl a ↦
          let e : number g (around g s t) ≡ number g (path g ((t + s) + n)) = ap (number g) (path_at g (t + (s + n)) ((t + s) + n) (omega arith)) in
          let l = turn.least (t + s) a in omega arith
      | inr a ↦
          let u : ℕ = t + s - p in
          let e : number g (around g s t) ≡ number g (path g (u + n)) = ap (number g) (path_at g (t + (s + n)) (u + (p + n)) (omega arith) ∙ path_same g (p + n) n r.returns u) in
          let l = turn.least u (omega arith) in omega arith
    ]

pub cycle_is_witness : (g : Graph) (p s : ℕ) → has_cycle g ≡ true → IsPeriod g p → IsLeastPlace g p s → IsWitnessCycle g (cycle_nodes g p s)
cycle_is_witness g p s h r turn =
    let n = node_count g in
    let below : s < p = turn.below in
    let some : 0 < p = r.some in
    let long : length (cycle_nodes g p s) ≡ p = length-map-range_with_len (λ i. around g s (p - i)) 0 p in
    let here : (i j : ℕ) → i < p → p - i ≡ j → at (cycle_nodes g p s) i ≡ around g s j =
    λ i j l e. get_or-map-range_with_len (λ i. around g s (p - i)) 0 p i i no_node l (omega arith) ∙ ap (around g s) e in
    let ends : at (cycle_nodes g p s) 0 ≡ around g s 0 = here 0 p some (omega arith) ∙ around_returns g p s r in
    let back : (t : ℕ) → IsBack g (around g s t) (around g s (suc t)) = λ t.
    subst (IsBack g (around g s t)) (path_at g (suc (t + (s + n))) (suc t + (s + n)) (omega arith)) (path_back g h (t + (s + n))) in
    record {
      some = omega arith;
      reached = (s, omega arith, subst (IsReached g n) (sym (here s (p - s) below refl ∙ path_at g ((p - s) + (s + n)) (p + n) (omega arith) ∙ r.returns)) (path_reached g h n));
      backs = λ i l.
          subst (λ (x : Node). IsBack g x (at (cycle_nodes g p s) i)) (sym (here (i + 1) (p - (i + 1)) (omega arith) refl))
          (subst (IsBack g (around g s (p - (i + 1)))) (sym (here i (suc (p - (i + 1))) (omega arith) (omega arith))) (back (p - (i + 1))));
      closes =
          subst (λ (x : Node). IsBack g x (at (cycle_nodes g p s) (length (cycle_nodes g p s) - 1))) (sym ends)
          (subst (IsBack g (around g s 0)) (sym (here (length (cycle_nodes g p s) - 1) (suc 0) (omega arith) (omega arith))) (back 0));
      distinct = λ i j ij jl e.
          elim (cases_eq i 0) [
            | inl first ↦
                around_distinct g p s r below 0 (p - j) (omega arith) (omega arith)
                (sym ends ∙ ap (at (cycle_nodes g p s)) (sym first) ∙ e ∙ here j (p - j) (omega arith) refl)
            | inr later ↦
                around_distinct g p s r below (p - j) (p - i) (omega arith) (omega arith)
                (sym (here j (p - j) (omega arith) refl) ∙ sym e ∙ here i (p - i) (omega arith) refl)
          ];
      begins = λ i l.
          elim (cases_eq i 0) [
            | inl first ↦ subst (λ (x : ℕ). IsUpTo (at (cycle_nodes g p s) 0) (at (cycle_nodes g p s) x)) (sym first) (up_to_same (at (cycle_nodes g p s) 0))
            | inr later ↦
                let low = around_least g p s r turn (p - i) (omega arith) in
                let from : IsUpTo (around g s 0) (around g s (p - i)) =
                up_to_from g (around g s 0) (around g s (p - i)) (path_unvoted g h (0 + (s + n))).cell_in (path_unvoted g h ((p - i) + (s + n))).cell_in low in
                subst (λ (x : Node). IsUpTo x (at (cycle_nodes g p s) i)) (sym ends)
                (subst (IsUpTo (around g s 0)) (sym (here i (p - i) (omega arith) refl)) from)
          ];
    }

-- the least node of the cycle is where it is looked for
turn_is : (g : Graph) → has_cycle g ≡ true → IsLeastPlace g (period_of g) (turn_of g)
turn_is g h =
    let l = lowest_is (period_of g) (λ t. number g (path g (t + node_count g))) (is_period g h).some in
    record { below = l.below; least = l.least }

-- the cycle that is shown is the one of the definition
pub shown_cycle : (g : Graph) → has_cycle g ≡ true → IsWitnessCycle g (witness_cycle g)
shown_cycle g h = cycle_is_witness g (period_of g) (turn_of g) h (is_period g h) (turn_is g h)

-- the cycle that is shown is an unvoted cycle
pub witness_is_cycle : (g : Graph) (nodes : List Node) → IsWitnessCycle g nodes → IsUnvotedCycle g nodes
witness_is_cycle g nodes c =
    record {
      some = c.some;
      walk = record {
        unvoted = λ i l. elim (cases_lt (i + 1) (length nodes)) [
          | inl a ↦ level_unvoted g (node_count g) _ (level_of_core g _ (c.backs i a).has.0)
          | inr a ↦ subst (λ (x : ℕ). IsUnvoted g (at nodes x)) (omega arith) (level_unvoted g (node_count g) _ (level_of_core g _ c.closes.has.0))
        ];
        steps = λ i l. (c.backs i l).has.1;
      };
      distinct = c.distinct;
      closes = c.closes.has.1;
    }

pub cycle_of_core : (g : Graph) (n : Node) → IsCore g n → (nodes : List Node) × IsUnvotedCycle g nodes
cycle_of_core g n c = (witness_cycle g, witness_is_cycle g (witness_cycle g) (shown_cycle g (has_cycle_from g n (level_of_core g n c))))

pub cycle_iff_walk : (g : Graph) → ((nodes : List Node) × IsUnvotedCycle g nodes) ↔ ((n : Node) × EndsWalk g (node_count g + 1) n)
cycle_iff_walk g = (λ c. (at c.0 0, core_of_cycle g c.0 c.1), λ c. cycle_of_core g c.0 c.1)
