-- A vote stays exactly where it is needed, and so none of those that stay can be spared.
use Rattle.std.proofs.Common.{◌≡◌, ◌≢◌, Option, ℕ, ◌+◌, ◌-◌, ◌*◌, ◌<◌, ◌≤◌, zero, suc, Bool, true, false, not, ◌&&◌, eqb, ltb, List, inl, inr, refl, sym, ◌∙◌, ap, subst, arith}
use Rattle.std.specs.Prelude.{◌||◌}
use Rattle.std.proofs.lemmas.Bool.{cases_order, cases_Bool, both_ways, false_from_ne_true, and_parts, and_from, and_left, lt-ltb, le-ltb, cond-true, cond-false}
use Rattle.std.proofs.Math.Bool.{or-false}
use Rattle.std.proofs.lemmas.Nat.{mul-add-lt}
use Rattle.rcp_base.proofs.SearchLaws.{both_or_none}
use Rattle.rcp_model.specs.declared.node.Node.{Node}
use Rattle.rcp_model.specs.Walk.{Graph, node_count, IsUnvotedCycle}
use Rattle.rcp_model.specs.Levels.{number, node_of}
use Rattle.rcp_model.specs.Thinning.{IsGood, is_good, votes_without, without, thinned_at, thinned_after, thinned, IsRedundant}
use Rattle.rcp_model.specs.Node.{make_node}
use Rattle.rcp_model.proofs.LevelLaws.{node_of-number, number-injective}
use Rattle.task_graph.specs.Rows.{Rows}
use Rattle.vote_pattern.specs.Votes.{Votes, AreVotesOf}
use Rattle.recovery_analysis.specs.Graphs.{graph_of}
use Rattle.pattern_thinning.specs.Thinned.{IsThinnedFor, IsLean, AreThinnedOf, voting, votes_around}
use Rattle.pattern_thinning.specs.Laws.{StaysAsGood}
use Rattle.rcp_model.proofs.AlikeLaws.{IsAlike, alike_turned, alike_through}
use Rattle.pattern_thinning.proofs.GoodLemmas.{alike_voting, good_test, good_still, same_good}
use Rattle.pattern_thinning.proofs.TryLemmas.{without_here, without_other}
use Rattle.pattern_thinning.proofs.AfterLemmas.{vote_after, after_alike, later_fewer, not_yet_tried, tried_before}

number_below : (g : Graph) (n : Node) → n.slot < g.slots → n.cell < g.cells → number g n < node_count g
number_below g n p q = let h = mul-add-lt n.slot g.cells n.cell g.slots p q in omega arith

without_fewer : (one other : ℕ → ℕ → Bool) (n : Node) (s c : ℕ) → (other s c ≡ true → one s c ≡ true) → votes_without one n s c ≡ false → votes_without other n s c ≡ false
without_fewer one other n s c h e = false_from_ne_true (votes_without other n s c) (λ t.
    let p = and_parts (other s c) (not (eqb s n.slot && eqb c n.cell)) t in
    both_ways (votes_without one n s c) e (and_from (one s c) (not (eqb s n.slot && eqb c n.cell)) (h p.0) p.1))

-- the votes around a node
around_before : (g : Graph) (n : Node) (first other : ℕ → ℕ → Bool) (s c : ℕ) → s * g.cells + c < number g n → votes_around g n first other s c ≡ first s c
around_before g n first other s c h =
    let v : ℕ = s * g.cells + c in
    ap (λ (b : Bool). ltb v (number g n) && first s c || b) (and_left (ltb (number g n) v) (other s c) (le-ltb (number g n) v (omega arith)))
    ∙ or-false (ltb v (number g n) && first s c)
    ∙ ap (λ (b : Bool). b && first s c) (lt-ltb v (number g n) h)

around_after : (g : Graph) (n : Node) (first other : ℕ → ℕ → Bool) (s c : ℕ) → number g n < s * g.cells + c → votes_around g n first other s c ≡ other s c
around_after g n first other s c h =
    let v : ℕ = s * g.cells + c in
    ap (λ (b : Bool). b || ltb (number g n) v && other s c) (and_left (ltb v (number g n)) (first s c) (le-ltb v (number g n) (omega arith)))
    ∙ ap (λ (b : Bool). b && other s c) (lt-ltb (number g n) v h)

around_here : (g : Graph) (n : Node) (first other : ℕ → ℕ → Bool) (s c : ℕ) → s * g.cells + c ≡ number g n → votes_around g n first other s c ≡ false
around_here g n first other s c h =
    let v : ℕ = s * g.cells + c in
    ap (λ (b : Bool). b || ltb (number g n) v && other s c) (and_left (ltb v (number g n)) (first s c) (le-ltb v (number g n) (omega arith)))
    ∙ and_left (ltb (number g n) v) (other s c) (le-ltb (number g n) v (omega arith))

module _ (limit : Option ℕ) (g : Graph) where
  -- a try of a good pattern leaves a good one
  tried_good : (b : Bool) (h : Graph) (n : Node) → is_good limit (without h n) ≡ b → is_good limit h ≡ true → is_good limit (thinned_at limit h n) ≡ true
  tried_good true h n e good = ap (is_good limit) (cond-true (is_good limit (without h n)) (without h n) h e) ∙ e
  tried_good false h n e good = ap (is_good limit) (cond-false (is_good limit (without h n)) (without h n) h e) ∙ good

  after_good : is_good limit g ≡ true → (i : ℕ) → is_good limit (thinned_after limit g i) ≡ true
  after_good good zero = good
  after_good good (suc i) =
      let h = thinned_after limit g i in
      tried_good (is_good limit (without h (node_of g i))) h (node_of g i) refl (after_good good i)

  -- and a try of any other pattern leaves it as it is
  after_other : is_good limit g ≡ false → (i : ℕ) → thinned_after limit g i ≡ g
  after_other bad zero = refl
  after_other bad (suc i) =
      let n = node_of g i in
      ap (λ (h : Graph). thinned_at limit h n) (after_other bad i)
      ∙ cond-false (is_good limit (without g n)) (without g n) g (false_from_ne_true (is_good limit (without g n)) (λ t.
      both_ways (is_good limit g) bad
      (good_still limit g (without g n) (alike_voting g (votes_without g.votes n)) (λ s c p q e. and_left (g.votes s c) (not (eqb s n.slot && eqb c n.cell)) e) t)))

  -- when a node's turn comes
  abbrev turn_of : Node → Graph
  turn_of n = thinned_after limit g (number g n)

  abbrev last : Graph
  last = thinned_after limit g (node_count g)

  -- after its try a vote stays as it is
  final_vote : (n : Node) → n.slot < g.slots → n.cell < g.cells → last.votes n.slot n.cell ≡ (thinned_at limit (turn_of n) n).votes n.slot n.cell
  final_vote n p q =
      let v : ℕ = number g n in
      let below : number g n < node_count g = number_below g n p q in
      ap (λ (k : ℕ). vote_after limit g k n.slot n.cell) (let e : node_count g ≡ (node_count g - suc v) + suc v = omega arith in e)
      ∙ tried_before limit g (suc v) (node_count g - suc v) n.slot n.cell (omega arith)
      ∙ ap (λ (m : Node). (thinned_at limit (turn_of n) m).votes n.slot n.cell) (node_of-number g n q)

  -- a vote that stays is needed when its turn comes
  stays_needed : (n : Node) → n.slot < g.slots → n.cell < g.cells → last.votes n.slot n.cell ≡ true → is_good limit (without (turn_of n) n) ≡ false
  stays_needed n p q stays =
      let h = turn_of n in
      false_from_ne_true (is_good limit (without h n)) (λ e.
      both_ways (last.votes n.slot n.cell)
      (final_vote n p q ∙ ap (λ (k : Graph). k.votes n.slot n.cell) (cond-true (is_good limit (without h n)) (without h n) h e) ∙ without_here h.votes n n.slot n.cell refl) stays)

  -- and one that is needed then stays
  needed_stays : (n : Node) → n.slot < g.slots → n.cell < g.cells → g.votes n.slot n.cell ≡ true → is_good limit (without (turn_of n) n) ≡ false → last.votes n.slot n.cell ≡ true
  needed_stays n p q voted needed =
      let h = turn_of n in
      final_vote n p q ∙ ap (λ (k : Graph). k.votes n.slot n.cell) (cond-false (is_good limit (without h n)) (without h n) h needed)
      ∙ not_yet_tried limit g (number g n) n.slot n.cell (omega arith) ∙ voted

  fewer_at_last : (i s c : ℕ) → i ≤ node_count g → last.votes s c ≡ true → vote_after limit g i s c ≡ true
  fewer_at_last i s c h t =
      later_fewer limit g i (node_count g - i) s c (ap (λ (k : ℕ). vote_after limit g k s c) (let e : (node_count g - i) + i ≡ node_count g = omega arith in e) ∙ t)

  not_redundant : (n : Node) → IsRedundant limit last n → ⊥
  not_redundant n r =
      let h = turn_of n in
      let alike = after_alike limit g (node_count g) in
      let s_in : n.slot < g.slots = subst (λ (x : ℕ). n.slot < x) alike.slots r.slot_in in
      let c_in : n.cell < g.cells = subst (λ (x : ℕ). n.cell < x) alike.cells r.cell_in in
      let below : number g n < node_count g = number_below g n s_in c_in in
      let a = alike_through h g last (alike_turned g h (after_alike limit g (number g n))) alike in
      both_ways (is_good limit (without h n)) (stays_needed n s_in c_in r.voted)
      (good_still limit (without h n) (without last n) (record { slots = a.slots; cells = a.cells; feeds = a.feeds })
      (λ s c p q e. without_fewer h.votes last.votes n s c (fewer_at_last (number g n) s c (omega arith)) e) r.spared)

  never_a_cycle : ((nodes : List Node) → IsUnvotedCycle g nodes → ⊥) → (nodes : List Node) → IsUnvotedCycle last nodes → ⊥
  never_a_cycle none nodes c = elim (cases_Bool (is_good limit g)) [
    | inl good ↦ ((good_test limit last).0 (after_good good (node_count g))).no_cycle nodes c
    | inr bad ↦ none nodes (subst (λ (h : Graph). IsUnvotedCycle h nodes) (after_other bad (node_count g)) c)
  ]

  pub thinned_is_lean : ((nodes : List Node) → IsUnvotedCycle g nodes → ⊥) → IsLean limit (thinned limit g)
  unfolding thinned
  thinned_is_lean none = record { no_cycle = never_a_cycle none; no_vote = not_redundant }

  pub thinned_is_as_good : StaysAsGood limit g
  unfolding thinned
  thinned_is_as_good = record {
    good = λ good. (good_test limit last).0 (after_good ((good_test limit g).1 good) (node_count g));
    other = λ bad. after_other (false_from_ne_true (is_good limit g) (λ t. bad ((good_test limit g).0 t))) (node_count g);
  }

  -- the votes around a node are those that stand when its turn comes, without its own
  around_is : (n : Node) → n.slot < g.slots → n.cell < g.cells → (s c : ℕ) → c < g.cells → votes_around g n last.votes g.votes s c ≡ votes_without (turn_of n).votes n s c
  around_is n p q s c c_in =
      let h = (turn_of n).votes in
      let below : number g n < node_count g = number_below g n p q in
      let other : (s * g.cells + c ≡ number g n → ⊥) → make_node s c ≢ n = λ ne e. ne (ap (number g) e) in
      elim (cases_order (s * g.cells + c) (number g n)) [
        | inl e ↦ around_here g n last.votes g.votes s c e ∙ sym (without_here h n s c (number-injective g (make_node s c) n c_in q e))
        | inr o ↦ elim o [
          | inl less ↦
              around_before g n last.votes g.votes s c less
              ∙ ap (λ (k : ℕ). vote_after limit g k s c) (let e : node_count g ≡ (node_count g - number g n) + number g n = omega arith in e)
              ∙ tried_before limit g (number g n) (node_count g - number g n) s c less
              ∙ sym (without_other h n s c (other (λ e. omega arith)))
          | inr more ↦
              around_after g n last.votes g.votes s c more ∙ sym (not_yet_tried limit g (number g n) s c (omega arith))
              ∙ sym (without_other h n s c (other (λ e. omega arith)))
        ]
      ]

  around_good : (n : Node) → n.slot < g.slots → n.cell < g.cells → is_good limit (without (turn_of n) n) ≡ is_good limit (voting g (votes_around g n last.votes g.votes))
  around_good n p q =
      let h = turn_of n in
      let a = alike_turned g h (after_alike limit g (number g n)) in
      let h_cells : g.cells ≡ h.cells = a.cells in
      same_good limit (without h n) (voting g (votes_around g n last.votes g.votes)) (record { slots = a.slots; cells = a.cells; feeds = a.feeds })
      (λ s c x y. around_is n p q s c (omega arith))

  pub thinned_are_needed : AreThinnedOf limit g (thinned limit g).votes
  unfolding thinned
  thinned_are_needed = record {
    part = λ s c p q e. fewer_at_last 0 s c (omega arith) e;
    kept = λ s c p q voted.
        let n = make_node s c in
        let around = voting g (votes_around g n last.votes g.votes) in (
          λ stays good. both_ways (is_good limit (without (turn_of n) n)) (stays_needed n p q stays) (around_good n p q ∙ (good_test limit around).1 good),
          λ bad. needed_stays n p q voted (around_good n p q ∙ false_from_ne_true (is_good limit around) (λ t. bad ((good_test limit around).0 t))),
        );
  }

  -- votes of which one stays exactly where it is needed are decided from the first node on
  same_around : (n : Node) (one other : ℕ → ℕ → Bool) → ((s c : ℕ) → s < g.slots → c < g.cells → s * g.cells + c < number g n → one s c ≡ other s c)
      → IsGood limit (voting g (votes_around g n one g.votes)) → IsGood limit (voting g (votes_around g n other g.votes))
  same_around n one other same good =
      let a = voting g (votes_around g n one g.votes) in
      let b = voting g (votes_around g n other g.votes) in
      (good_test limit b).0 (sym (same_good limit a b (alike_voting a (votes_around g n other g.votes))
      (λ s c p q. elim (cases_order (s * g.cells + c) (number g n)) [
        | inl here ↦ around_here g n other g.votes s c here ∙ sym (around_here g n one g.votes s c here)
        | inr o ↦ elim o [
          | inl less ↦ around_before g n other g.votes s c less ∙ sym (same s c p q less) ∙ sym (around_before g n one g.votes s c less)
          | inr more ↦ around_after g n other g.votes s c more ∙ sym (around_after g n one g.votes s c more)
        ]
      ])) ∙ (good_test limit a).1 good)

  none_where_none : (votes : ℕ → ℕ → Bool) → AreThinnedOf limit g votes → (s c : ℕ) → s < g.slots → c < g.cells → g.votes s c ≡ false → votes s c ≡ false
  none_where_none votes t s c p q none = false_from_ne_true (votes s c) (λ e. both_ways (g.votes s c) none (t.part s c p q e))

  same_below : (one other : ℕ → ℕ → Bool) → AreThinnedOf limit g one → AreThinnedOf limit g other → (i s c : ℕ) → s < g.slots → c < g.cells → s * g.cells + c < i → one s c ≡ other s c
  same_below one other a b zero s c p q l = absurd (omega arith)
  same_below one other a b (suc i) s c p q l = elim (cases_Bool (g.votes s c)) [
    | inr none ↦ none_where_none one a s c p q none ∙ sym (none_where_none other b s c p q none)
    | inl voted ↦
        let n = make_node s c in
        let before : (r d : ℕ) → r < g.slots → d < g.cells → r * g.cells + d < s * g.cells + c → one r d ≡ other r d =
        λ r d x y less. same_below one other a b i r d x y (omega arith) in
        both_or_none (one s c) (other s c)
        (λ h. (b.kept s c p q voted).1 (λ good. (a.kept s c p q voted).0 h (same_around n other one (λ r d x y less. sym (before r d x y less)) good)))
        (λ h. (a.kept s c p q voted).1 (λ good. (b.kept s c p q voted).0 h (same_around n one other before good)))
  ]

  pub thinned_are_unique : (one other : ℕ → ℕ → Bool) → AreThinnedOf limit g one → AreThinnedOf limit g other → (s c : ℕ) → s < g.slots → c < g.cells → one s c ≡ other s c
  thinned_are_unique one other a b s c p q = same_below one other a b (suc (s * g.cells + c)) s c p q (omega arith)

-- a pattern that is not good is left as it is
pub other_is_left : (limit : Option ℕ) (rows : Rows) (old : Votes) → is_good limit (graph_of rows old) ≡ false → IsThinnedFor limit rows old old
unfolding thinned
other_is_left limit rows old bad g feeds are =
    let slots : rows.slots ≡ g.slots = feeds.slots in
    let cells : rows.cells ≡ g.cells = feeds.cells in
    let alike : IsAlike (graph_of rows old) g = record {
      slots = sym slots;
      cells = sym cells;
      feeds = λ s d c p q r. sym (feeds.needs s c d (omega arith) (omega arith) (omega arith));
    } in
    let same = same_good limit (graph_of rows old) g alike (λ s c p q. sym (are.each s c (omega arith) (omega arith))) in
    subst (λ (h : Graph). AreVotesOf h old) (sym (after_other limit g (sym same ∙ bad) (node_count g))) are
