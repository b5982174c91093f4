-- The pattern after a try of each of the first so many nodes.
use Rattle.std.proofs.Common.{◌≡◌, ◌≢◌, Option, ℕ, ◌+◌, ◌*◌, ◌/◌, ◌%◌, ◌<◌, ◌≤◌, zero, suc, Bool, true, false, not, ◌&&◌, cond, eqb, refl, sym, ◌∙◌, ap, subst, arith}
use Rattle.std.proofs.lemmas.Bool.{and_parts}
use Rattle.rcp_model.specs.declared.node.Node.{Node}
use Rattle.rcp_model.specs.Walk.{Graph, node_count}
use Rattle.rcp_model.specs.Levels.{number, node_of}
use Rattle.rcp_model.specs.Thinning.{is_good, votes_without, without, thinned_at, thinned_after, thinned}
use Rattle.task_graph.specs.Rows.{Rows, AreFeedsOf}
use Rattle.vote_pattern.specs.Votes.{Votes, AreVotesOf}
use Rattle.recovery_analysis.specs.Graphs.{graph_of}
use Rattle.rcp_model.specs.Node.{make_node}
use Rattle.rcp_model.proofs.CoreLaws.{number-node_of}
use Rattle.pattern_thinning.specs.Thinned.{IsThinnedFor}
use Rattle.rcp_model.proofs.AlikeLaws.{IsAlike, alike_through}
use Rattle.pattern_thinning.proofs.GoodLemmas.{alike_voting}
use Rattle.pattern_thinning.proofs.TryLemmas.{without_other, try_alike}

-- the graph without a vote, or with it
abbrev one_of : Bool → Graph → Node → Graph
one_of b g n = cond b (without g n) g

one_of_alike : (b : Bool) (g : Graph) (n : Node) → IsAlike g (one_of b g n)
one_of_alike true g n = alike_voting g (votes_without g.votes n)
one_of_alike false g n = alike_voting g g.votes

one_of_others : (b : Bool) (g : Graph) (n : Node) (s c : ℕ) → make_node s c ≢ n → (one_of b g n).votes s c ≡ g.votes s c
one_of_others true g n s c ne = without_other g.votes n s c ne
one_of_others false g n s c ne = refl

one_of_fewer : (b : Bool) (g : Graph) (n : Node) (s c : ℕ) → (one_of b g n).votes s c ≡ true → g.votes s c ≡ true
one_of_fewer true g n s c h = (and_parts (g.votes s c) (not (eqb s n.slot && eqb c n.cell)) h).0
one_of_fewer false g n s c h = h

module _ (limit : Option ℕ) (g : Graph) where
  -- whether the vote of a node is taken when its turn comes
  abbrev is_taken : ℕ → Bool
  is_taken i = is_good limit (without (thinned_after limit g i) (node_of g i))

  pub after_alike : (i : ℕ) → IsAlike g (thinned_after limit g i)
  after_alike zero = alike_voting g g.votes
  after_alike (suc i) =
      let h = thinned_after limit g i in
      alike_through g h (thinned_after limit g (suc i)) (after_alike i) (one_of_alike (is_taken i) h (node_of g i))

  -- the vote of a node
  abbrev pub vote_after : ℕ → ℕ → ℕ → Bool
  vote_after i s c = (thinned_after limit g i).votes s c

  vote_at : (i j s c : ℕ) → i ≡ j → vote_after i s c ≡ vote_after j s c
  vote_at i j s c e = ap (λ (k : ℕ). vote_after k s c) e

  step_others : (i s c : ℕ) → (s * g.cells + c ≡ i → ⊥) → vote_after (suc i) s c ≡ vote_after i s c
  step_others i s c ne = one_of_others (is_taken i) (thinned_after limit g i) (node_of g i) s c (λ e. ne (ap (number g) e ∙ number-node_of g i))

  -- a try takes votes alone
  pub later_fewer : (i d s c : ℕ) → vote_after (d + i) s c ≡ true → vote_after i s c ≡ true
  later_fewer i zero s c h = vote_at i (0 + i) s c (omega arith) ∙ h
  later_fewer i (suc d) s c h =
      later_fewer i d s c
      (one_of_fewer (is_taken (d + i)) (thinned_after limit g (d + i)) (node_of g (d + i)) s c (vote_at (suc (d + i)) (suc d + i) s c (omega arith) ∙ h))

  -- before a node is tried its vote is the graph's, and after its try it stays as it is
  pub not_yet_tried : (i s c : ℕ) → i ≤ s * g.cells + c → vote_after i s c ≡ g.votes s c
  not_yet_tried zero s c h = refl
  not_yet_tried (suc i) s c h = step_others i s c (λ e. omega arith) ∙ not_yet_tried i s c (omega arith)

  pub tried_before : (i d s c : ℕ) → s * g.cells + c < i → vote_after (d + i) s c ≡ vote_after i s c
  tried_before i zero s c h = vote_at (0 + i) i s c (omega arith)
  tried_before i (suc d) s c h = vote_at (suc d + i) (suc (d + i)) s c (omega arith) ∙ step_others (d + i) s c (λ e. omega arith) ∙ tried_before i d s c h

  -- the thinned graph has the slots and cells of the graph, and the same cells feed the same cells
  pub thinned_alike : IsAlike g (thinned limit g)
  unfolding thinned
  thinned_alike = after_alike (node_count g)

-- the votes of a loop over nodes
abbrev pub AreVotesAfter : Option ℕ → Rows → Votes → ℕ → Votes → Type 0
AreVotesAfter limit rows old i votes = (g : Graph) → AreFeedsOf g rows → AreVotesOf g old → AreVotesOf (thinned_after limit g i) votes

pub after_more : (limit : Option ℕ) (rows : Rows) (old before new : Votes) (i : ℕ) → AreVotesAfter limit rows old i before
    → AreVotesOf (thinned_at limit (graph_of rows before) (node_of (graph_of rows before) i)) new → AreVotesAfter limit rows old (i + 1) new
after_more limit rows old before new i so_far tried g feeds are =
    let h = thinned_after limit g i in
    let slots : rows.slots ≡ g.slots = feeds.slots in
    let cells : rows.cells ≡ g.cells = feeds.cells in
    let alike = after_alike limit g i in
    let h_slots : h.slots ≡ g.slots = alike.slots in
    let h_cells : h.cells ≡ g.cells = alike.cells in
    let now = so_far g feeds are in
    let same : make_node (i / rows.cells) (i % rows.cells) ≡ node_of g i = ap (λ (x : ℕ). make_node (i / x) (i % x)) cells in
    subst (λ (j : ℕ). AreVotesOf (thinned_after limit g j) new) (let e : suc i ≡ i + 1 = omega arith in e)
    (subst (λ (n : Node). AreVotesOf (thinned_at limit h n) new) same
    (try_alike limit (graph_of rows before) h (make_node (i / rows.cells) (i % rows.cells)) new
    (alike_through (graph_of rows before) g h
    (record { slots = sym slots; cells = sym cells; feeds = λ s d c p q r. sym (feeds.needs s c d (omega arith) (omega arith) (omega arith)) })
    alike)
    (λ s c p q. sym (now.each s c (omega arith) (omega arith)))
    tried))

pub after_all : (limit : Option ℕ) (rows : Rows) (old votes : Votes) (i : ℕ) → i ≡ rows.slots * rows.cells → AreVotesAfter limit rows old i votes → IsThinnedFor limit rows old votes
unfolding thinned
after_all limit rows old votes i all so_far g feeds are =
    let e : i ≡ node_count g = all ∙ ap (λ (x : ℕ). x * rows.cells) feeds.slots ∙ ap (λ (x : ℕ). g.slots * x) feeds.cells in
    subst (λ (k : ℕ). AreVotesOf (thinned_after limit g k) votes) e (so_far g feeds are)
