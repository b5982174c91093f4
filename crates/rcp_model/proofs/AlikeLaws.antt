-- Graphs that agree, in what feeds what alone or also in their votes, have the same walks and cycles.
use Rattle.std.proofs.Common.{◌≡◌, ℕ, ◌+◌, ◌-◌, ◌*◌, ◌%◌, ◌<◌, zero, suc, true, false, List, length, inl, inr, sym, ◌∙◌, ap, ap₂, subst, arith}
use Rattle.std.proofs.lemmas.Bool.{cases_lt, both_ways, false_from_ne_true}
use Rattle.rcp_base.proofs.SearchLaws.{both_or_none}
use Rattle.rcp_model.specs.declared.node.Node.{Node}
use Rattle.rcp_model.specs.Node.{IsLeast}
use Rattle.rcp_model.specs.Walk.{Graph, node_count, at, IsUnvoted, StepsTo, IsUnvotedWalk, EndsWalk, IsUnvotedCycle}
use Rattle.rcp_model.specs.Levels.{has_cycle}
use Rattle.rcp_model.specs.Recovery.{IsRecovery}
use Rattle.rcp_model.specs.Witness.{IsCore, IsReached, IsWitnessWalk, IsShownCycle}
use Rattle.rcp_model.proofs.ShownLaws.{cycle_found, cycle_from}

-- as many slots and cells, and the same cells feed the same cells
pub record IsAlike (g h : Graph) : Type 0 where
  pub slots : h.slots ≡ g.slots
  pub cells : h.cells ≡ g.cells
  pub feeds : (s d c : ℕ) → s < g.slots → d < g.cells → c < g.cells → h.feeds s d c ≡ g.feeds s d c

pub alike_turned : (g h : Graph) → IsAlike g h → IsAlike h g
alike_turned g h a =
    let slots : h.slots ≡ g.slots = a.slots in
    let cells : h.cells ≡ g.cells = a.cells in
    record {
      slots = sym a.slots;
      cells = sym a.cells;
      feeds = λ s d c p q r. sym (a.feeds s d c (omega arith) (omega arith) (omega arith));
    }

pub alike_through : (f g h : Graph) → IsAlike f g → IsAlike g h → IsAlike f h
alike_through f g h a b =
    let slots : g.slots ≡ f.slots = a.slots in
    let cells : g.cells ≡ f.cells = a.cells in
    record {
      slots = b.slots ∙ a.slots;
      cells = b.cells ∙ a.cells;
      feeds = λ s d c p q r. b.feeds s d c (omega arith) (omega arith) (omega arith) ∙ a.feeds s d c p q r;
    }

pub steps_alike : (g h : Graph) → IsAlike g h → (m n : Node) → IsUnvoted g m → IsUnvoted g n → StepsTo g m n → StepsTo h m n
steps_alike g h a m n um un s = record {
  turn = s.turn ∙ ap (λ (x : ℕ). (m.slot + 1) % x) (sym a.slots);
  feeds = a.feeds n.slot m.cell n.cell un.slot_in um.cell_in un.cell_in ∙ s.feeds;
}

pub unvoted_alike : (g h : Graph) → IsAlike g h → (n : Node) → IsUnvoted g n → h.votes n.slot n.cell ≡ false → IsUnvoted h n
unvoted_alike g h a n u v = record {
  slot_in = subst (λ (x : ℕ). n.slot < x) (sym a.slots) u.slot_in;
  cell_in = subst (λ (x : ℕ). n.cell < x) (sym a.cells) u.cell_in;
  unvoted = v;
}

-- a cycle whose nodes the other graph leaves unvoted
pub cycle_alike : (g h : Graph) → IsAlike g h → (nodes : List Node) → ((i : ℕ) → i < length nodes → h.votes (at nodes i).slot (at nodes i).cell ≡ false) → IsUnvotedCycle g nodes → IsUnvotedCycle h nodes
cycle_alike g h a nodes unvoted c =
    let some : 0 < length nodes = c.some in
    record {
      some = c.some;
      walk = record {
        unvoted = λ i l. unvoted_alike g h a (at nodes i) (c.walk.unvoted i l) (unvoted i l);
        steps = λ i l. steps_alike g h a (at nodes i) (at nodes (i + 1)) (c.walk.unvoted i (omega arith)) (c.walk.unvoted (i + 1) l) (c.walk.steps i l);
      };
      distinct = c.distinct;
      closes = steps_alike g h a (at nodes (length nodes - 1)) (at nodes 0) (c.walk.unvoted (length nodes - 1) (omega arith)) (c.walk.unvoted 0 some) c.closes;
    }

-- what the one leaves unvoted, the other does too
abbrev pub HasNoMoreVotes : Graph → Graph → Type 0
HasNoMoreVotes g h = (s c : ℕ) → s < g.slots → c < g.cells → g.votes s c ≡ false → h.votes s c ≡ false

-- the votes are the same, as far as there are slots and cells
abbrev pub HasSameVotes : Graph → Graph → Type 0
HasSameVotes g h = (s c : ℕ) → s < g.slots → c < g.cells → h.votes s c ≡ g.votes s c

-- they agree in what feeds what, and in their votes
pub record IsSame (g h : Graph) : Type 0 where
  pub alike : IsAlike g h
  pub votes : HasSameVotes g h

pub same_turned : (g h : Graph) → IsSame g h → IsSame h g
same_turned g h a =
    let slots : h.slots ≡ g.slots = a.alike.slots in
    let cells : h.cells ≡ g.cells = a.alike.cells in
    record { alike = alike_turned g h a.alike; votes = λ s c p q. sym (a.votes s c (omega arith) (omega arith)) }

unvoted_same : (g h : Graph) → IsSame g h → (n : Node) → IsUnvoted g n → IsUnvoted h n
unvoted_same g h a n u = unvoted_alike g h a.alike n u (a.votes n.slot n.cell u.slot_in u.cell_in ∙ u.unvoted)

walk_same : (g h : Graph) → IsSame g h → (nodes : List Node) → IsUnvotedWalk g nodes → IsUnvotedWalk h nodes
walk_same g h a nodes w = record {
  unvoted = λ i l. unvoted_same g h a (at nodes i) (w.unvoted i l);
  steps = λ i l. steps_alike g h a.alike (at nodes i) (at nodes (i + 1)) (w.unvoted i (omega arith)) (w.unvoted (i + 1) l) (w.steps i l);
}

pub ends_same : (g h : Graph) → IsSame g h → (k : ℕ) (n : Node) → EndsWalk g k n → EndsWalk h k n
ends_same g h a k n e = record { nodes = e.nodes; walk = walk_same g h a e.nodes e.walk; many = e.many; some = e.some; last = e.last }

pub ends_unvoted : (g : Graph) (k : ℕ) (n : Node) → EndsWalk g k n → IsUnvoted g n
ends_unvoted g k n e =
    let many : length e.nodes ≡ k = e.many in
    let some : 0 < k = e.some in
    subst (IsUnvoted g) e.last (e.walk.unvoted (k - 1) (omega arith))

cycle_same : (g h : Graph) → IsSame g h → (nodes : List Node) → IsUnvotedCycle g nodes → IsUnvotedCycle h nodes
cycle_same g h a nodes c =
    let unvoted : (i : ℕ) → i < length nodes → h.votes (at nodes i).slot (at nodes i).cell ≡ false =
    λ i l. let u = c.walk.unvoted i l in a.votes (at nodes i).slot (at nodes i).cell u.slot_in u.cell_in ∙ u.unvoted in
    cycle_alike g h a.alike nodes unvoted c

least_ends : (g h : Graph) → IsSame g h → (k : ℕ) (n : Node) → IsLeast (EndsWalk g k) n → IsLeast (EndsWalk h k) n
least_ends g h a k n l = record {
  has = ends_same g h a k n l.has;
  first = λ m e. l.first m (ends_same h g (same_turned g h a) k m e);
}

-- the least node that ends a walk of so many nodes and steps to the node
abbrev IsStepBack : Graph → ℕ → Node → Node → Type 0
IsStepBack g k n b = IsLeast (λ m. EndsWalk g k m × StepsTo g m n) b

least_step : (g h : Graph) → IsSame g h → (k : ℕ) (n b : Node) → IsUnvoted g n → IsStepBack g k n b → IsStepBack h k n b
least_step g h a k n b u l = record {
  has = (ends_same g h a k b l.has.0, steps_alike g h a.alike b n (ends_unvoted g k b l.has.0) u l.has.1);
  first = λ m e.
      let t = same_turned g h a in
      let back = ends_same h g t k m e.0 in
      l.first m (back, steps_alike h g t.alike m n (ends_unvoted h k m e.0) (unvoted_same g h a n u) e.1);
}

many_same : (g h : Graph) → IsSame g h → node_count g + 1 ≡ node_count h + 1
many_same g h a = ap₂ (λ (x y : ℕ). x * y + 1) (sym a.alike.slots) (sym a.alike.cells)

core_step : (g h : Graph) → IsSame g h → (n b : Node) → IsUnvoted g n → IsStepBack g (node_count g + 1) n b → IsStepBack h (node_count h + 1) n b
core_step g h a n b u l = subst (λ (k : ℕ). IsStepBack h k n b) (many_same g h a) (least_step g h a (node_count g + 1) n b u l)

reached_core : (g : Graph) (k : ℕ) (n : Node) → IsReached g k n → IsCore g n
reached_core g zero n r = r.has
reached_core g (suc k) n r = r.2.has.0

reached_same : (g h : Graph) → IsSame g h → (k : ℕ) (n : Node) → IsReached g k n → IsReached h k n
reached_same g h a zero n r = subst (λ (k : ℕ). IsLeast (EndsWalk h k) n) (many_same g h a) (least_ends g h a (node_count g + 1) n r)
reached_same g h a (suc k) n r =
    (r.0, reached_same g h a k r.0 r.1, core_step g h a r.0 n (ends_unvoted g (node_count g + 1) r.0 (reached_core g k r.0 r.1)) r.2)

pub shown_same : (g h : Graph) → IsSame g h → (nodes : List Node) → IsShownCycle g nodes → IsShownCycle h nodes
shown_same g h a nodes shown =
    let c = shown.cycle in
    let p = shown.witness in
    let many : node_count g ≡ node_count h = ap₂ (λ (x y : ℕ). x * y) (sym a.alike.slots) (sym a.alike.cells) in
    record {
      cycle = cycle_same g h a nodes c;
      witness = record {
        some = p.some;
        reached = (
          p.reached.0,
          p.reached.1,
          subst (λ (k : ℕ). IsReached h k (at nodes p.reached.0)) many
              (reached_same g h a (node_count g) (at nodes p.reached.0) p.reached.2),
        );
        backs = λ i l. core_step g h a (at nodes (i + 1)) (at nodes i) (c.walk.unvoted (i + 1) l) (p.backs i l);
        closes = core_step g h a (at nodes 0) (at nodes (length nodes - 1)) (c.walk.unvoted 0 p.some) p.closes;
        distinct = p.distinct;
        begins = p.begins;
      };
    }

walk_node_unvoted : (g : Graph) (nodes : List Node) → IsWitnessWalk g nodes → (i : ℕ) → i < length nodes → IsUnvoted g (at nodes i)
walk_node_unvoted g nodes p i l = elim (cases_lt (i + 1) (length nodes)) [
  | inl b ↦ ends_unvoted g (i + 1) (at nodes i) (p.earlier i b).has.0
  | inr b ↦ subst (λ (x : ℕ). IsUnvoted g (at nodes x)) (omega arith) (ends_unvoted g (length nodes) (at nodes (length nodes - 1)) (p.last (omega arith)).has)
]

witness_walk_same : (g h : Graph) → IsSame g h → (nodes : List Node) → IsWitnessWalk g nodes → IsWitnessWalk h nodes
witness_walk_same g h a nodes p = record {
  last = λ l. least_ends g h a (length nodes) (at nodes (length nodes - 1)) (p.last l);
  earlier = λ i l. least_step g h a (i + 1) (at nodes (i + 1)) (at nodes i) (walk_node_unvoted g nodes p (i + 1) l) (p.earlier i l);
}

pub recovery_same : (g h : Graph) → IsSame g h → (k : ℕ) (nodes : List Node) → IsRecovery g k nodes → IsRecovery h k nodes
recovery_same g h a k nodes r =
    let t = same_turned g h a in
    record {
      no_cycle = λ ns c. r.no_cycle ns (cycle_same h g t ns c);
      least = record {
        some = r.least.some;
        none = λ n e. r.least.none n (ends_same h g t k n e);
        fewer = λ j p l. let w = r.least.fewer j p l in (w.0, ends_same g h a j w.0 w.1);
      };
      one_more = r.one_more;
      walk = witness_walk_same g h a nodes r.walk;
    }
