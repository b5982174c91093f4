-- The walk that is shown.
use Rattle.std.proofs.Common.{[], ◌∷◌, ◌++◌, ◌≡◌, ℕ, ◌+◌, ◌-◌, ◌<◌, ◌≤◌, zero, suc, true, false, ◌&&◌, List, length, reverse, sym, ◌∙◌, ap, subst, arith}
use Rattle.std.proofs.lemmas.Bool.{and_parts, and_from, both_ways}
use Rattle.std.proofs.lemmas.List.{get_or-reverse, length-reverse}
use Rattle.std.proofs.lemmas.List.FromFn.{map-range_with_len_more, length-map-range_with_len, get_or-map-range_with_len}
use Rattle.rcp_model.specs.declared.node.Node.{Node}
use Rattle.rcp_model.specs.Walk.{Graph, node_count, no_node, at, StepsTo, EndsWalk}
use Rattle.rcp_model.specs.Levels.{number, node_of, steps_to, level, goes, has_level_node}
use Rattle.rcp_model.specs.Shown.{walk_node, walk_nodes}
use Rattle.rcp_model.specs.Node.{IsLeast}
use Rattle.rcp_base.specs.Search.{any_below, first_below}
use Rattle.rcp_model.specs.Recovery.{IsRecovery}
use Rattle.rcp_model.specs.Witness.{IsWitnessWalk, IsWitnessWalkOf}
use Rattle.rcp_base.proofs.SearchLaws.{any_of, any_found, first_is}
use Rattle.rcp_model.proofs.LevelLaws.{node_of-number, number-lt, level_unvoted, level_back, level_of_ends, ends_of_level, steps_to_parts, steps_to_from}
use Rattle.rcp_model.proofs.CoreLaws.{least_of_first, cycle_level}

pub goes_some : (g : Graph) (k : ℕ) (n : Node) → level g (suc k) n ≡ true → any_below (node_count g) (goes g k n) ≡ true
goes_some g k n h =
    let b = level_back g k n h in
    let u = level_unvoted g k b.m b.level in
    let e = node_of-number g b.m u.cell_in in
    any_of (node_count g) (goes g k n) (number g b.m) (number-lt g b.m u)
    (and_from (steps_to g (node_of g (number g b.m)) n) (level g k (node_of g (number g b.m)))
    (ap (λ (x : Node). steps_to g x n) e ∙ steps_to_from g b.m n b.steps)
    (ap (level g k) e ∙ b.level))

-- the least node of a level
pub level_least : (g : Graph) (k : ℕ) → has_level_node g k ≡ true → IsLeast (EndsWalk g (suc k)) (node_of g (first_below (node_count g) (λ v. level g k (node_of g v))))
level_least g k h =
    least_of_first g (level g k) (EndsWalk g (suc k)) (ends_of_level g k) (level_of_ends g k) (λ n e. level_unvoted g k n (level_of_ends g k n e))
    (first_below (node_count g) (λ v. level g k (node_of g v))) (first_is (node_count g) (λ v. level g k (node_of g v)) h)

-- the least node of a level that steps to a node
pub goes_least : (g : Graph) (k : ℕ) (n : Node) → any_below (node_count g) (goes g k n) ≡ true → IsLeast (λ m. EndsWalk g (suc k) m × StepsTo g m n) (node_of g (first_below (node_count g) (goes g k n)))
goes_least g k n h =
    least_of_first g (λ m. steps_to g m n && level g k m) (λ m. EndsWalk g (suc k) m × StepsTo g m n)
    (λ m p. let q = and_parts (steps_to g m n) (level g k m) p in (ends_of_level g k m q.1, steps_to_parts g m n q.0))
    (λ m p. and_from (steps_to g m n) (level g k m) (steps_to_from g m n p.1) (level_of_ends g k m p.0))
    (λ m p. level_unvoted g k m (level_of_ends g k m p.0))
    (first_below (node_count g) (goes g k n)) (first_is (node_count g) (goes g k n) h)

level_number : (g : Graph) (i j : ℕ) (n : Node) → i ≡ j → level g i n ≡ true → level g j n ≡ true
level_number g i j n e h = ap (λ (x : ℕ). level g x n) (sym e) ∙ h

pub walk_level : (g : Graph) (k : ℕ) → has_level_node g k ≡ true → (j : ℕ) → j ≤ k → level g (k - j) (walk_node g k j) ≡ true
walk_level g k h zero l = level_number g k (k - 0) (walk_node g k 0) (omega arith) (level_of_ends g k (walk_node g k 0) (level_least g k h).has)
walk_level g k h (suc j) l =
    let before = level_number g (k - j) (suc (k - suc j)) (walk_node g k j) (omega arith) (walk_level g k h j (omega arith)) in
    level_of_ends g (k - suc j) (walk_node g k (suc j)) (goes_least g (k - suc j) (walk_node g k j) (goes_some g (k - suc j) (walk_node g k j) before)).has.0

pub walk_some : (g : Graph) (k : ℕ) → has_level_node g k ≡ true → (j : ℕ) → j < k → any_below (node_count g) (goes g (k - suc j) (walk_node g k j)) ≡ true
walk_some g k h j l = goes_some g (k - suc j) (walk_node g k j) (level_number g (k - j) (suc (k - suc j)) (walk_node g k j) (omega arith) (walk_level g k h j (omega arith)))

ends_number : (g : Graph) (i j : ℕ) (n : Node) → i ≡ j → IsLeast (EndsWalk g i) n → IsLeast (EndsWalk g j) n
ends_number g i j n e h = subst (λ (x : ℕ). IsLeast (EndsWalk g x) n) e h

goes_number : (g : Graph) (i j : ℕ) (m n : Node) → i ≡ j → IsLeast (λ x. EndsWalk g i x × StepsTo g x n) m → IsLeast (λ x. EndsWalk g j x × StepsTo g x n) m
goes_number g i j m n e h = subst (λ (y : ℕ). IsLeast (λ x. EndsWalk g y x × StepsTo g x n) m) e h

pub walk_is_witness : (g : Graph) (k : ℕ) → has_level_node g k ≡ true → IsWitnessWalk g (reverse (walk_nodes g k (suc k)))
walk_is_witness g k h =
    let xs = walk_nodes g k (suc k) in
    let ys = reverse xs in
    let long : length xs ≡ suc k = length-map-range_with_len (walk_node g k) 0 (suc k) in
    let turned : length ys ≡ length xs = length-reverse xs in
    let here : (i j : ℕ) → i < length xs → length xs - 1 - i ≡ j → at ys i ≡ walk_node g k j = λ i j l e.
    get_or-reverse xs i no_node l ∙ get_or-map-range_with_len (walk_node g k) 0 (suc k) (length xs - 1 - i) j no_node (omega arith) (omega arith) in
    record {
      last = λ some.
          ends_number g (suc k) (length ys) (at ys (length ys - 1)) (omega arith)
          (subst (IsLeast (EndsWalk g (suc k))) (sym (here (length ys - 1) 0 (omega arith) (omega arith))) (level_least g k h));
      earlier = λ i l.
          let j : ℕ = k - suc i in
          let m = goes_least g (k - suc j) (walk_node g k j) (walk_some g k h j (omega arith)) in
          goes_number g (suc (k - suc j)) (i + 1) (at ys i) (at ys (i + 1)) (omega arith)
          (subst (λ (x : Node). IsLeast (λ m. EndsWalk g (suc (k - suc j)) m × StepsTo g m (at ys (i + 1))) x) (sym (here i (suc j) (omega arith) (omega arith)))
          (subst (λ (x : Node). IsLeast (λ m. EndsWalk g (suc (k - suc j)) m × StepsTo g m x) (walk_node g k (suc j))) (sym (here (i + 1) j (omega arith) (omega arith))) m));
    }

pub walk_empty : (g : Graph) (nodes : List Node) → length nodes ≡ 0 → IsWitnessWalk g nodes
walk_empty g nodes e = record { last = λ l. absurd (omega arith); earlier = λ i l. absurd (omega arith) }

-- the level of walks of k + 1 nodes is the first with no node
pub recovery_of : (g : Graph) (k : ℕ) (nodes : List Node) → ((j : ℕ) → j < k → has_level_node g j ≡ true) → has_level_node g k ≡ false → length nodes ≡ k → IsWitnessWalk g nodes → IsRecovery g (k + 1) nodes
recovery_of g k nodes some none long walk =
    let empty : (n : Node) → level g k n ≡ true → ⊥ = λ n t.
    let u = level_unvoted g k n t in
    both_ways (has_level_node g k) none (any_of (node_count g) (λ v. level g k (node_of g v)) (number g n) (number-lt g n u) (ap (level g k) (node_of-number g n u.cell_in) ∙ t)) in
    record {
      no_cycle = λ ns c. empty (at ns 0) (cycle_level g ns c k 0 c.some);
      least = record {
        some = omega arith;
        none = λ n e. empty n (level_of_ends g k n (subst (λ (x : ℕ). EndsWalk g x n) (omega arith) e));
        fewer = λ j pos l.
            let f = any_found (node_count g) (λ v. level g (j - 1) (node_of g v)) (some (j - 1) (omega arith)) in
            let w : EndsWalk g (suc (j - 1)) (node_of g f.v) = ends_of_level g (j - 1) (node_of g f.v) f.passes in
            (node_of g f.v, subst (λ (x : ℕ). EndsWalk g x (node_of g f.v)) (omega arith) w);
      };
      one_more = omega arith;
      walk = walk;
    }

pub walk_back : (g : Graph) (k i : ℕ) (node next : Node) → node ≡ walk_node g k i → next ≡ node_of g (first_below (node_count g) (goes g (k - 1 - i) node)) → next ≡ walk_node g k (i + 1)
walk_back g k i node next e n =
    let a : k - 1 - i ≡ k - suc i = omega arith in
    let one : suc i ≡ i + 1 = omega arith in
    n ∙ ap (λ (x : ℕ). node_of g (first_below (node_count g) (goes g x node))) a
    ∙ ap (λ (x : Node). node_of g (first_below (node_count g) (goes g (k - suc i) x))) e
    ∙ ap (walk_node g k) one

pub walk_nodes_more : (g : Graph) (k t : ℕ) (old new : List Node) (node : Node) → old ≡ walk_nodes g k t → node ≡ walk_node g k t → new ≡ old ++ node ∷ [] → new ≡ walk_nodes g k (t + 1)
walk_nodes_more g k t old new node e n p =
    p ∙ ap (λ (xs : List Node). xs ++ node ∷ []) e ∙ ap (λ (x : Node). walk_nodes g k t ++ x ∷ []) n
    ∙ sym (map-range_with_len_more (walk_node g k) 0 t t (omega arith))

pub walk_answer : (g : Graph) (k t : ℕ) (xs ys : List Node) → has_level_node g k ≡ true → t ≡ k → xs ≡ walk_nodes g k (t + 1) → ys ≡ reverse xs → IsWitnessWalkOf g (k + 1) ys
walk_answer g k t xs ys h e x y =
    let one : t + 1 ≡ suc k = omega arith in
    let all : ys ≡ reverse (walk_nodes g k (suc k)) = y ∙ ap reverse (x ∙ ap (walk_nodes g k) one) in
    let long : length (walk_nodes g k (suc k)) ≡ suc k = length-map-range_with_len (walk_node g k) 0 (suc k) in
    record {
      long = ap length all ∙ length-reverse (walk_nodes g k (suc k)) ∙ long ∙ omega arith;
      walk = subst (IsWitnessWalk g) (sym all) (walk_is_witness g k h);
    }
