-- Levels: which nodes end an unvoted walk of k + 1 nodes, as tests.
use Rattle.std.proofs.Common.{ap₂, ◌≡◌, ℕ, ◌+◌, ◌-◌, ◌*◌, ◌/◌, ◌%◌, ◌<◌, zero, suc, true, not, ◌&&◌, eqb, ltb, List, [], ◌∷◌, ◌++◌, length, inl, inr, refl, sym, ◌∙◌, ap, subst, arith, length-append}
use Rattle.std.proofs.lemmas.Bool.{cases_lt, and_parts, and_from, not-true, not_from_false, ltb-true, lt-ltb, eqb-true, eq-eqb}
use Rattle.std.proofs.lemmas.List.{get_or_append_left, get_or_at}
use Rattle.std.proofs.lemmas.Nat.{div-mul-add, mod-mul-add, mul-add-lt}
use Rattle.rcp_model.specs.declared.node.Node.{Node}
use Rattle.rcp_model.specs.Walk.{Graph, node_count, IsUnvoted, StepsTo, no_node, at, IsUnvotedWalk, EndsWalk}
use Rattle.rcp_model.specs.Levels.{number, node_of, is_unvoted, steps_to, level}
use Rattle.rcp_model.specs.Node.{make_node}
use Rattle.rcp_base.proofs.SearchLaws.{any_found, any_of}

pub node_of-number : (g : Graph) (n : Node) → n.cell < g.cells → node_of g (number g n) ≡ n
node_of-number g n h =
    let a : (n.slot * g.cells + n.cell) / g.cells ≡ n.slot = div-mul-add n.slot g.cells n.cell h in
    let b : (n.slot * g.cells + n.cell) % g.cells ≡ n.cell = mod-mul-add n.slot g.cells n.cell h in
    ap₂ make_node a b

pub number-lt : (g : Graph) (n : Node) → IsUnvoted g n → number g n < node_count g
number-lt g n u =
    let h = mul-add-lt n.slot g.cells n.cell g.slots u.slot_in u.cell_in in
    omega arith

pub number-injective : (g : Graph) (m n : Node) → m.cell < g.cells → n.cell < g.cells → number g m ≡ number g n → m ≡ n
number-injective g m n p q e = sym (node_of-number g m p) ∙ ap (node_of g) e ∙ node_of-number g n q

pub is_unvoted_parts : (g : Graph) (n : Node) → is_unvoted g n ≡ true → IsUnvoted g n
is_unvoted_parts g n h =
    let a = and_parts (ltb n.slot g.slots) (ltb n.cell g.cells && not (g.votes n.slot n.cell)) h in
    let b = and_parts (ltb n.cell g.cells) (not (g.votes n.slot n.cell)) a.1 in
    record { slot_in = ltb-true _ _ a.0; cell_in = ltb-true _ _ b.0; unvoted = not-true _ b.1 }

pub is_unvoted_from : (g : Graph) (n : Node) → IsUnvoted g n → is_unvoted g n ≡ true
is_unvoted_from g n u =
    and_from (ltb n.slot g.slots) (ltb n.cell g.cells && not (g.votes n.slot n.cell)) (lt-ltb _ _ u.slot_in)
    (and_from (ltb n.cell g.cells) (not (g.votes n.slot n.cell)) (lt-ltb _ _ u.cell_in) (not_from_false _ u.unvoted))

pub steps_to_parts : (g : Graph) (m n : Node) → steps_to g m n ≡ true → StepsTo g m n
steps_to_parts g m n h =
    let a = and_parts (eqb n.slot ((m.slot + 1) % g.slots)) (g.feeds n.slot m.cell n.cell) h in
    record { turn = eqb-true _ _ a.0; feeds = a.1 }

pub steps_to_from : (g : Graph) (m n : Node) → StepsTo g m n → steps_to g m n ≡ true
steps_to_from g m n s = and_from (eqb n.slot ((m.slot + 1) % g.slots)) (g.feeds n.slot m.cell n.cell) (eq-eqb _ _ s.turn) s.feeds

pub record LevelBack (g : Graph) (k : ℕ) (n : Node) : Type 0 where
  pub m : Node
  pub level : level g k m ≡ true
  pub steps : StepsTo g m n

pub level_zero : (g : Graph) (n : Node) → IsUnvoted g n → level g 0 n ≡ true
unfolding level
level_zero g n u = is_unvoted_from g n u

pub level_unvoted : (g : Graph) (k : ℕ) (n : Node) → level g k n ≡ true → IsUnvoted g n
unfolding level
level_unvoted g zero n h = is_unvoted_parts g n h
level_unvoted g (suc k) n h = is_unvoted_parts g n (and_parts (is_unvoted g n) _ h).0

pub level_step : (g : Graph) (k : ℕ) (m n : Node) → level g k m ≡ true → StepsTo g m n → IsUnvoted g n → level g (suc k) n ≡ true
unfolding level
level_step g k m n h s u =
    let um : IsUnvoted g m = level_unvoted g k m h in
    let e : node_of g (number g m) ≡ m = node_of-number g m um.cell_in in
    and_from (is_unvoted g n) _ (is_unvoted_from g n u)
    (any_of (node_count g) _ (number g m) (number-lt g m um)
    (and_from (steps_to g (node_of g (number g m)) n) (level g k (node_of g (number g m)))
    (ap (λ (x : Node). steps_to g x n) e ∙ steps_to_from g m n s)
    (ap (level g k) e ∙ h)))

pub level_back : (g : Graph) (k : ℕ) (n : Node) → level g (suc k) n ≡ true → LevelBack g k n
unfolding level
level_back g k n h =
    let r = any_found (node_count g) (λ v. steps_to g (node_of g v) n && level g k (node_of g v)) (and_parts (is_unvoted g n) _ h).1 in
    let p = and_parts (steps_to g (node_of g r.v) n) (level g k (node_of g r.v)) r.passes in
    record { m = node_of g r.v; level = p.1; steps = steps_to_parts g (node_of g r.v) n p.0 }

-- a walk of more nodes has a walk of fewer at its end
pub level_less : (g : Graph) (k : ℕ) (n : Node) → level g (suc k) n ≡ true → level g k n ≡ true
level_less g zero n h = level_zero g n (level_unvoted g 1 n h)
level_less g (suc k) n h =
    let b = level_back g (suc k) n h in
    level_step g k b.m n (level_less g k b.m b.level) b.steps (level_unvoted g (suc (suc k)) n h)

pub level_down : (g : Graph) (k d : ℕ) (n : Node) → level g (d + k) n ≡ true → level g k n ≡ true
level_down g k zero n h = subst (λ (x : ℕ). level g x n ≡ true) (omega arith) h
level_down g k (suc d) n h = level_down g k d n (level_less g (d + k) n (subst (λ (x : ℕ). level g x n ≡ true) (omega arith) h))

-- along a walk levels rise
pub level_along : (g : Graph) (k : ℕ) (f : ℕ → Node) (d : ℕ) → level g k (f 0) ≡ true → ((i : ℕ) → i < d → StepsTo g (f i) (f (suc i))) → ((i : ℕ) → i < d → IsUnvoted g (f (suc i))) → level g (d + k) (f d) ≡ true
level_along g k f zero h s u = subst (λ (x : ℕ). level g x (f 0) ≡ true) (omega arith) h
level_along g k f (suc d) h s u =
    subst (λ (x : ℕ). level g x (f (suc d)) ≡ true) (omega arith)
    (level_step g (d + k) (f d) (f (suc d)) (level_along g k f d h (λ i l. s i (omega arith)) (λ i l. u i (omega arith))) (s d (omega arith)) (u d (omega arith)))

-- levels are walks
pub level_at : (g : Graph) (nodes : List Node) → IsUnvotedWalk g nodes → (i : ℕ) → i < length nodes → level g i (at nodes i) ≡ true
level_at g nodes w zero h = level_zero g _ (w.unvoted 0 h)
level_at g nodes w (suc i) h =
    let s : StepsTo g (at nodes i) (at nodes (suc i)) = subst (λ (x : ℕ). StepsTo g (at nodes i) (at nodes x)) (omega arith) (w.steps i (omega arith)) in
    level_step g i (at nodes i) (at nodes (suc i)) (level_at g nodes w i (omega arith)) s (w.unvoted (suc i) h)

pub level_of_ends : (g : Graph) (k : ℕ) (n : Node) → EndsWalk g (suc k) n → level g k n ≡ true
level_of_ends g k n e =
    let many : length e.nodes ≡ suc k = e.many in
    let last : at e.nodes k ≡ n = subst (λ (x : ℕ). at e.nodes x ≡ n) (omega arith) e.last in
    ap (level g k) (sym last) ∙ level_at g e.nodes e.walk k (omega arith)

walk_push : (g : Graph) (nodes : List Node) (n : Node) → IsUnvotedWalk g nodes → IsUnvoted g n → (0 < length nodes → StepsTo g (at nodes (length nodes - 1)) n) → IsUnvotedWalk g (nodes ++ n ∷ [])
walk_push g nodes n w u s =
    let here : (i : ℕ) → i < length nodes → at (nodes ++ n ∷ []) i ≡ at nodes i = λ i l. get_or_append_left nodes (n ∷ []) no_node i l in
    let end : (i : ℕ) → length nodes ≡ i → at (nodes ++ n ∷ []) i ≡ n = λ i l. get_or_at nodes n [] no_node i l in
    let long : length (nodes ++ n ∷ []) ≡ length nodes + 1 = length-append nodes (n ∷ []) in
    record {
      unvoted = λ i l. elim (cases_lt i (length nodes)) [
        | inl a ↦ subst (IsUnvoted g) (sym (here i a)) (w.unvoted i a)
        | inr b ↦ subst (IsUnvoted g) (sym (end i (omega arith))) u
      ];
      steps = λ i l. elim (cases_lt (i + 1) (length nodes)) [
        | inl a ↦ let e = here i (omega arith) in let f = here (i + 1) a in
            subst (λ (x : Node). StepsTo g x (at (nodes ++ n ∷ []) (i + 1))) (sym e) (subst (StepsTo g (at nodes i)) (sym f) (w.steps i a))
        | inr b ↦ let e = here i (omega arith) in let f = end (i + 1) (omega arith) in
            subst (λ (x : Node). StepsTo g x (at (nodes ++ n ∷ []) (i + 1))) (sym e) (subst (StepsTo g (at nodes i)) (sym f)
            (subst (λ (x : ℕ). StepsTo g (at nodes x) n) (omega arith) (s (omega arith))))
      ];
    }

pub ends_push : (g : Graph) (k : ℕ) (m n : Node) → EndsWalk g k m → StepsTo g m n → IsUnvoted g n → EndsWalk g (suc k) n
ends_push g k m n e s u =
    let many : length e.nodes ≡ k = e.many in
    let last : at e.nodes (length e.nodes - 1) ≡ m = subst (λ (x : ℕ). at e.nodes (x - 1) ≡ m) (sym many) e.last in
    record {
      nodes = e.nodes ++ n ∷ [];
      walk = walk_push g e.nodes n e.walk u (λ l. subst (λ (x : Node). StepsTo g x n) (sym last) s);
      many = length-append e.nodes (n ∷ []) ∙ omega arith;
      some = omega arith;
      last = get_or_at e.nodes n [] no_node (suc k - 1) (omega arith);
    }

pub ends_one : (g : Graph) (n : Node) → IsUnvoted g n → EndsWalk g 1 n
ends_one g n u = record {
  nodes = n ∷ [];
  walk = walk_push g [] n (record { unvoted = λ i l. absurd (omega arith); steps = λ i l. absurd (omega arith) }) u (λ l. absurd (omega arith));
  many = refl;
  some = omega arith;
  last = refl;
}

pub ends_of_level : (g : Graph) (k : ℕ) (n : Node) → level g k n ≡ true → EndsWalk g (suc k) n
ends_of_level g zero n h = ends_one g n (level_unvoted g 0 n h)
ends_of_level g (suc k) n h =
    let b = level_back g k n h in
    ends_push g (suc k) b.m n (ends_of_level g k b.m b.level) b.steps (level_unvoted g (suc k) n h)
