-- The core, back nodes and the cycle on which going back ends.
use Rattle.std.proofs.Common.{◌≡◌, ℕ, ◌+◌, ◌-◌, ◌<◌, ◌≤◌, zero, suc, Bool, true, ◌&&◌, List, length, inl, inr, refl, ◌∙◌, ap, subst, arith}
use Rattle.std.proofs.lemmas.Bool.{cases_lt, and_parts, and_from, both_ways}
use Rattle.std.proofs.lemmas.Nat.{div-add-mod'}
use Rattle.rcp_model.specs.declared.node.Node.{Node}
use Rattle.rcp_model.specs.Walk.{Graph, node_count, IsUnvoted, StepsTo, at, EndsWalk, IsUnvotedCycle}
use Rattle.rcp_model.specs.Levels.{number, node_of, steps_to, level, goes, has_cycle}
use Rattle.rcp_model.specs.Levels.{is_core}
use Rattle.rcp_model.specs.Shown.{start_node, back_node, path}
use Rattle.rcp_model.specs.Node.{IsLeast}
use Rattle.rcp_model.specs.Witness.{IsCore, IsBack, IsReached}
use Rattle.rcp_base.proofs.SearchLaws.{any_of, first_is}
use Rattle.rcp_base.proofs.PigeonholeLaws.{pigeonhole}
use Rattle.rcp_base.specs.Search.{any_below, first_below, IsFirst}
use Rattle.rcp_model.proofs.OrderLaws.{up_to_from}
use Rattle.rcp_model.proofs.LevelLaws.{node_of-number, number-lt, number-injective, steps_to_parts, steps_to_from, level_zero, level_unvoted, level_step, level_down, level_along, level_of_ends, ends_of_level, LevelBack}

-- the node of this number is in the core
abbrev starts : Graph → ℕ → Bool
starts g v = is_core g (node_of g v)

-- a cycle has a step into each of its nodes, so its nodes are at each level
pub cycle_level : (g : Graph) (nodes : List Node) → IsUnvotedCycle g nodes → (k i : ℕ) → i < length nodes → level g k (at nodes i) ≡ true
cycle_level g nodes c zero i h = level_zero g _ (c.walk.unvoted i h)
cycle_level g nodes c (suc k) zero h = level_step g k _ _ (cycle_level g nodes c k (length nodes - 1) (omega arith)) c.closes (c.walk.unvoted 0 h)
cycle_level g nodes c (suc k) (suc i) h =
    let s : StepsTo g (at nodes i) (at nodes (suc i)) = subst (λ (x : ℕ). StepsTo g (at nodes i) (at nodes x)) (omega arith) (c.walk.steps i (omega arith)) in
    level_step g k _ _ (cycle_level g nodes c k i (omega arith)) s (c.walk.unvoted (suc i) h)

pub core_of_cycle : (g : Graph) (nodes : List Node) → IsUnvotedCycle g nodes → IsCore g (at nodes 0)
core_of_cycle g nodes c = subst (λ (x : ℕ). EndsWalk g x (at nodes 0)) (omega arith) (ends_of_level g (node_count g) (at nodes 0) (cycle_level g nodes c (node_count g) 0 c.some))

pub core_of_level : (g : Graph) (n : Node) → is_core g n ≡ true → IsCore g n
core_of_level g n h = subst (λ (x : ℕ). EndsWalk g x n) (omega arith) (ends_of_level g (node_count g) n h)

pub level_of_core : (g : Graph) (n : Node) → IsCore g n → is_core g n ≡ true
level_of_core g n h = level_of_ends g (node_count g) n (subst (λ (x : ℕ). EndsWalk g x n) (omega arith) h)

-- a place that comes back on a walk is at each level
loop_level : (g : Graph) (f : ℕ → Node) (d : ℕ) → 0 < d → f 0 ≡ f d → ((i : ℕ) → i ≤ d → IsUnvoted g (f i)) → ((i : ℕ) → i < d → StepsTo g (f i) (f (suc i))) → (k i : ℕ) → i ≤ d → level g k (f i) ≡ true
loop_level g f d some same u s zero i h = level_zero g _ (u i h)
loop_level g f (suc d) some same u s (suc k) zero h =
    let last : level g (suc k) (f (suc d)) ≡ true = level_step g k (f d) (f (suc d)) (loop_level g f (suc d) some same u s k d (omega arith)) (s d (omega arith)) (u (suc d) (omega arith)) in
    ap (level g (suc k)) same ∙ last
loop_level g f zero some same u s (suc k) zero h = absurd (omega arith)
loop_level g f d some same u s (suc k) (suc i) h = level_step g k (f i) (f (suc i)) (loop_level g f d some same u s k i (omega arith)) (s i (omega arith)) (u (suc i) h)

core_back_of : (g : Graph) (n : Node) → EndsWalk g (suc (node_count g)) n → LevelBack g (node_count g) n
core_back_of g n e =
    let f : ℕ → Node = λ i. at e.nodes i in
    let many : length e.nodes ≡ suc (node_count g) = e.many in
    let u : (i : ℕ) → i ≤ node_count g → IsUnvoted g (f i) = λ i l. e.walk.unvoted i (omega arith) in
    let s : (i : ℕ) → i < node_count g → StepsTo g (f i) (f (suc i)) = λ i l. subst (λ (x : ℕ). StepsTo g (f i) (f x)) (omega arith) (e.walk.steps i (omega arith)) in
    let c = pigeonhole (node_count g) (λ i. number g (f i)) (λ i l. number-lt g (f i) (u i l)) in
    let lo : c.i < c.j = c.apart in
    let hi : c.j ≤ node_count g = c.within in
    let same : f c.i ≡ f c.j = number-injective g (f c.i) (f c.j) (u c.i (omega arith)).cell_in (u c.j (omega arith)).cell_in c.same in
    let d : ℕ = node_count g - 1 - c.i in
    let begun : level g (node_count g) (f (c.i + 0)) ≡ true =
    loop_level g (λ t. f (c.i + t)) (c.j - c.i) (omega arith) (ap f (omega arith) ∙ same ∙ ap f (omega arith))
    (λ t l. u (c.i + t) (omega arith))
    (λ t l. subst (λ (x : ℕ). StepsTo g (f (c.i + t)) (f x)) (omega arith) (s (c.i + t) (omega arith)))
    (node_count g) 0 (omega arith) in
    let along : level g (d + node_count g) (f (c.i + d)) ≡ true =
    level_along g (node_count g) (λ t. f (c.i + t)) d begun
    (λ t l. subst (λ (x : ℕ). StepsTo g (f (c.i + t)) (f x)) (omega arith) (s (c.i + t) (omega arith)))
    (λ t l. u (c.i + suc t) (omega arith)) in
    let last : f (suc (c.i + d)) ≡ n = ap f (omega arith) ∙ e.last in
    record {
      m = f (c.i + d);
      level = level_down g (node_count g) d (f (c.i + d)) along;
      steps = subst (StepsTo g (f (c.i + d))) last (s (c.i + d) (omega arith));
    }

-- a node that ends a walk of more nodes than there are has such a node before it
pub core_back : (g : Graph) (n : Node) → is_core g n ≡ true → LevelBack g (node_count g) n
core_back g n h = core_back_of g n (ends_of_level g (node_count g) n h)

pub number-node_of : (g : Graph) (v : ℕ) → number g (node_of g v) ≡ v
number-node_of g v = div-add-mod' v g.cells

pub least_of_first : (g : Graph) (p : Node → Bool) (P : Node → Type 0) → ((n : Node) → p n ≡ true → P n) → ((n : Node) → P n → p n ≡ true) → ((n : Node) → P n → IsUnvoted g n) → (v : ℕ) → IsFirst (node_count g) (λ w. p (node_of g w)) v → IsLeast P (node_of g v)
least_of_first g p P to from u v r =
    record {
      has = to (node_of g v) r.passes;
      first = λ m h. elim (cases_lt (number g m) v) [
        | inl a ↦ absurd (both_ways (p (node_of g (number g m))) (r.none (number g m) a) (ap p (node_of-number g m (u m h).cell_in) ∙ from m h))
        | inr b ↦ let e : number g (node_of g v) ≡ v = number-node_of g v in
            up_to_from g (node_of g v) m (u (node_of g v) (to (node_of g v) r.passes)).cell_in (u m h).cell_in (omega (arith, e, b))
      ];
    }

pub has_cycle_from : (g : Graph) (n : Node) → is_core g n ≡ true → has_cycle g ≡ true
has_cycle_from g n h =
    let u = level_unvoted g (node_count g) n h in
    any_of (node_count g) (starts g) (number g n) (number-lt g n u) (ap (is_core g) (node_of-number g n u.cell_in) ∙ h)

pub start_least : (g : Graph) → has_cycle g ≡ true → IsLeast (IsCore g) (start_node g)
start_least g h =
    least_of_first g (is_core g) (IsCore g) (core_of_level g) (level_of_core g) (λ n c. level_unvoted g (node_count g) n (level_of_core g n c))
    (first_below (node_count g) (starts g)) (first_is (node_count g) (starts g) h)

pub core_some : (g : Graph) (n : Node) → is_core g n ≡ true → any_below (node_count g) (goes g (node_count g) n) ≡ true
core_some g n h =
    let b = core_back g n h in
    let u = level_unvoted g (node_count g) b.m b.level in
    let e = node_of-number g b.m u.cell_in in
    any_of (node_count g) (goes g (node_count g) n) (number g b.m) (number-lt g b.m u)
    (and_from (steps_to g (node_of g (number g b.m)) n) (is_core g (node_of g (number g b.m)))
    (ap (λ (x : Node). steps_to g x n) e ∙ steps_to_from g b.m n b.steps)
    (ap (is_core g) e ∙ b.level))

pub back_node-is : (g : Graph) (n : Node) → node_of g (first_below (node_count g) (goes g (node_count g) n)) ≡ back_node g n
unfolding back_node
back_node-is g n = refl

pub back_is : (g : Graph) (n : Node) → is_core g n ≡ true → IsBack g n (back_node g n)
back_is g n h =
    subst (IsBack g n) (back_node-is g n)
    (least_of_first g (λ m. steps_to g m n && is_core g m) (λ m. IsCore g m × StepsTo g m n)
    (λ m p. let q = and_parts (steps_to g m n) (is_core g m) p in (core_of_level g m q.1, steps_to_parts g m n q.0))
    (λ m p. and_from (steps_to g m n) (is_core g m) (steps_to_from g m n p.1) (level_of_core g m p.0))
    (λ m p. level_unvoted g (node_count g) m (level_of_core g m p.0))
    (first_below (node_count g) (goes g (node_count g) n)) (first_is (node_count g) (goes g (node_count g) n) (core_some g n h)))

pub back_core : (g : Graph) (n : Node) → is_core g n ≡ true → is_core g (back_node g n) ≡ true
back_core g n h = level_of_core g _ (back_is g n h).has.0

pub path_core : (g : Graph) → has_cycle g ≡ true → (k : ℕ) → is_core g (path g k) ≡ true
path_core g h zero = level_of_core g _ (start_least g h).has
path_core g h (suc k) = level_of_core g _ (back_is g (path g k) (path_core g h k)).has.0

pub path_back : (g : Graph) → has_cycle g ≡ true → (k : ℕ) → IsBack g (path g k) (path g (suc k))
path_back g h k = back_is g (path g k) (path_core g h k)

pub path_reached : (g : Graph) → has_cycle g ≡ true → (k : ℕ) → IsReached g k (path g k)
path_reached g h zero = start_least g h
path_reached g h (suc k) = (path g k, path_reached g h k, path_back g h k)

pub path_unvoted : (g : Graph) → has_cycle g ≡ true → (k : ℕ) → IsUnvoted g (path g k)
path_unvoted g h k = level_unvoted g (node_count g) (path g k) (path_core g h k)

pub path_at : (g : Graph) (a b : ℕ) → a ≡ b → path g a ≡ path g b
path_at g a b e = ap (path g) e

pub path_same : (g : Graph) (i j : ℕ) → path g i ≡ path g j → (t : ℕ) → path g (t + i) ≡ path g (t + j)
path_same g i j e zero = path_at g (0 + i) i (omega arith) ∙ e ∙ path_at g j (0 + j) (omega arith)
path_same g i j e (suc t) =
    path_at g (suc t + i) (suc (t + i)) (omega arith) ∙ ap (back_node g) (path_same g i j e t) ∙ path_at g (suc (t + j)) (suc t + j) (omega arith)
